-- What the loop of `file_edits::edits_of` keeps.
use Rattle.go_ast.specs.SourceFile.{source_of}
use Rattle.refactor_rename.proofs.Editing.{Going}
use Rattle.refactor_rename.proofs.file_edits.edits_of.Given as goal

abbrev pub invariant-loop-number : goal.invariant-loop-number
invariant-loop-number l = Going (source_of l.file) l.renamed l.tokens l.number l.edits.items
