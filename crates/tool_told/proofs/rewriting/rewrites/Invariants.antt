-- The invariants of the loops of `rewriting::rewrites`.
use Rattle.std.proofs.Common.{◌≡◌, take}
use Rattle.tool_told.specs.Telling.{rewrite_parts, rewrites_of}
use Rattle.tool_told.proofs.rewriting.rewrites.Given as goal

abbrev pub invariant-loop-change : goal.invariant-loop-change
invariant-loop-change l = rewrite_parts l.rewrites.items ≡ rewrites_of l.naming l.after (take l.change-index l.changes)
