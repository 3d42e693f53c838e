-- What the loop of `replacing::replacements` keeps.
use Rattle.std.proofs.Common.{length}
use Rattle.go_ast.specs.SourceFile.{source_of}
use Rattle.refactor_rename.proofs.PlaceEdits.{Placing}
use Rattle.refactor_rename.proofs.replacing.replacements.Given as goal

abbrev pub invariant-loop-k : goal.invariant-loop-k
invariant-loop-k l = Placing l.tokens (length (source_of l.file).cut.text) l.name l.here l.k l.edits.items
