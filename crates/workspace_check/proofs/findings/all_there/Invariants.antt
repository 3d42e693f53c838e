-- The invariants of the loops of `findings::all_there`.
use Rattle.std.proofs.Common.{◌≡◌, take}
use Rattle.workspace_check.specs.Steps.{somes}
use Rattle.workspace_check.proofs.findings.all_there.Given as goal

abbrev pub invariant-loop-there : goal.invariant-loop-there
invariant-loop-there l = somes l.packages.items ≡ take l.there-index l.findings
