-- The invariants of the loops of `qualified_abroad::add_all_listed`.
use Rattle.std.proofs.Common.{map}
use Rattle.go_ast.specs.SourceFile.{source_of}
use Rattle.refs_binding.specs.Steps.{AddsPlaces}
use Rattle.refs_binding.proofs.Adding.{Below}
use Rattle.refs_uses.proofs.UsedAbroad.{IsUnderRank}
use Rattle.refs_uses.proofs.qualified_abroad.add_all_listed.Given as goal

-- the tokens of the lists that were passed were added
abbrev pub invariant-loop-k : goal.invariant-loop-k
invariant-loop-k l = AddsPlaces l.initial.spots.items l.spots.items (Below (IsUnderRank (map source_of l.files) l.name l.path l.lists) l.k)
