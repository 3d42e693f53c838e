-- What the loop of `untouched::imports_moved` keeps: no import that was passed is of a package that moves.
use Rattle.std.proofs.Common.{take}
use Rattle.go_ast.specs.SourceFile.{source_of}
use Rattle.refactor_move.proofs.NoEdits.{NoneMoves}
use Rattle.refactor_move.proofs.untouched.imports_moved.Given as goal

abbrev pub invariant-loop-import : goal.invariant-loop-import
invariant-loop-import l = NoneMoves (source_of l.file) l.moved (take l.import-index l.import-items)
