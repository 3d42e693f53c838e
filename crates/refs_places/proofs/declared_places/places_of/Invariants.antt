-- The places of the positions that were passed.
use Rattle.std.specs.Prelude.{map}
use Rattle.go_ast.specs.SourceFile.{source_of}
use Rattle.refs_places.proofs.Declared.{ArePlacesBelow}
use Rattle.refs_places.proofs.declared_places.places_of.Given as goal

abbrev pub invariant-loop-at : goal.invariant-loop-at
invariant-loop-at l = ArePlacesBelow (map source_of l.files) l.positions l.at-index l.places.items
