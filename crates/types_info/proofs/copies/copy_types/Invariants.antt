-- The invariants of the loops of `copies::copy_types`.
use Rattle.std.proofs.Common.{◌≡◌, take, map}
use Rattle.types_expr.specs.View.{type_of}
use Rattle.types_info.proofs.copies.copy_types.Given as goal

abbrev pub invariant-loop-own : goal.invariant-loop-own
invariant-loop-own l = map type_of l.copy.items ≡ map type_of (take l.own-index l.types)
