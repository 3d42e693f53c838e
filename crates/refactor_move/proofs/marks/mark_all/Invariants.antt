-- What the loop of `marks::mark_all` keeps: the literals of the imports that were passed were marked.
use Rattle.std.proofs.Common.{take}
use Rattle.refactor_move.specs.Steps.{NewMarks, IsLiteralAmong}
use Rattle.refactor_move.proofs.marks.mark_all.Given as goal

abbrev pub invariant-loop-import : goal.invariant-loop-import
invariant-loop-import l = NewMarks l.initial.marks.items l.marks.items (IsLiteralAmong (take l.import-index l.imports))
