-- The invariants of the loops of `printing::push_types_behind`.
use Rattle.std.proofs.Common.{◌≡◌, ◌++◌, drop, map}
use Rattle.types_expr.specs.View.{type_of}
use Rattle.build_object.specs.PackagesView.{type_in}
use Rattle.build_object.specs.Text.{types_behind}
use Rattle.build_object.proofs.printing.push_types_behind.Given as goal

abbrev pub invariant-loop-own : goal.invariant-loop-own
invariant-loop-own l =
    l.text.items ++ types_behind (type_in l.packages) l.separator (map type_of (drop l.own-index l.types)) ≡ l.initial.text.items ++ types_behind
    (type_in l.packages) l.separator (map type_of l.types)
