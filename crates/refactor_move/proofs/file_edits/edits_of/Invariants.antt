-- What the loop of `file_edits::edits_of` keeps.
use Rattle.go_ast.specs.SourceFile.{source_of}
use Rattle.refactor_move.specs.Uses.{IsMarkedEditAt}
use Rattle.refactor_move.proofs.TokenEdits.{Going}
use Rattle.refactor_move.proofs.file_edits.edits_of.Given as goal

abbrev pub invariant-loop-number : goal.invariant-loop-number
invariant-loop-number l =
    Going (IsMarkedEditAt l.of.path.now l.of.rank (source_of l.of.file.now) l.of.moved.now l.of.rows.now) (source_of l.of.file.now) l.tokens l.number
    l.edits.items
