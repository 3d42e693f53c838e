-- The invariants of the loops of `telling::push_change`.
use Rattle.std.proofs.Common.{◌≡◌, ◌++◌, ℕ, List, take}
use Rattle.tool_told.specs.Telling.{TellsFiles}
use Rattle.tool_told.proofs.telling.push_change.Given as goal

-- what is told of the files so far
abbrev pub invariant-loop-change : goal.invariant-loop-change
invariant-loop-change l =
    (told : List ℕ) × TellsFiles l.naming l.after (take l.change-index l.changes) told × (l.text.items ≡ l.fn.text.items ++ told)
