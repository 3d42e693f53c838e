-- The invariants of the loops of `rewriting::push_new_paths`.
use Rattle.std.proofs.Common.{◌≡◌, ◌++◌, take}
use Rattle.tool_told.specs.Telling.{new_paths_text}
use Rattle.tool_told.proofs.rewriting.push_new_paths.Given as goal

abbrev pub invariant-loop-rewrite : goal.invariant-loop-rewrite
invariant-loop-rewrite l = l.text.items ≡ l.fn.text.items ++ new_paths_text (take l.rewrite-index l.rewrites)
