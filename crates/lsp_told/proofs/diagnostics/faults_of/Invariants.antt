-- The invariants of the loops of `diagnostics::faults_of`.
use Rattle.std.proofs.Common.{◌≡◌, map, take}
use Rattle.std.specs.List.{flat_map}
use Rattle.serde_json.specs.View.{view}
use Rattle.lsp_told.specs.Diagnostics.{faults_at}
use Rattle.lsp_told.proofs.diagnostics.faults_of.Given as goal

-- what is told of the faults so far
abbrev pub invariant-loop-fault : goal.invariant-loop-fault
invariant-loop-fault l = map view l.values.items ≡ flat_map (faults_at l.telling l.name l.text) (take l.fault-index l.faults)
