-- What the loop of `package_edits::add_files` keeps: the files that were passed have got their edits.
use Rattle.types_declared.specs.Package.{Package}
use Rattle.refactor_move.specs.Steps.{AddsEdits, AreEditsIn}
use Rattle.refactor_move.specs.Uses.{IsPackageOfMove}
use Rattle.refactor_move.proofs.EditMaps.{IsFileBelow}
use Rattle.refactor_move.proofs.package_edits.add_files.Given as goal

abbrev pub invariant-loop-rank : goal.invariant-loop-rank
invariant-loop-rank l = (p : Package) → IsPackageOfMove p l.of → AddsEdits l.initial.edits l.edits (AreEditsIn p l.of.moved.now) (IsFileBelow p l.rank)
