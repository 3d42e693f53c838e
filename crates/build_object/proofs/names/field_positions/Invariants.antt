-- The invariants of the loops of `names::field_positions`.
use Rattle.std.proofs.Common.{◌≡◌, ◌++◌, drop, map}
use Rattle.std.specs.List.{flat_map}
use Rattle.types_declared.specs.DeclaredView.{type_of}
use Rattle.build_object.specs.Names.{type_positions}
use Rattle.build_object.proofs.names.field_positions.Given as goal

abbrev pub invariant-loop-own : goal.invariant-loop-own
invariant-loop-own l = l.positions.items ++ flat_map type_positions (map type_of (drop l.own-index l.types)) ≡ flat_map type_positions (map type_of l.types)
