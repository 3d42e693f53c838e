-- The invariants of the loops of `declarations::push_asked_behind`.
use Rattle.std.proofs.Common.{◌≡◌, ◌++◌, drop, map}
use Rattle.std.specs.List.{flat_map}
use Rattle.build_object.specs.DeclarationsView.{asked_view}
use Rattle.build_object.specs.ObjectText.{asked_behind}
use Rattle.build_object.specs.PackagesView.{type_in}
use Rattle.build_object.proofs.declarations.push_asked_behind.Given as goal

abbrev pub invariant-loop-line : goal.invariant-loop-line
invariant-loop-line l =
    l.text.items ++ flat_map (asked_behind (type_in l.packages)) (map asked_view (drop l.line-index l.lines))
    ≡ l.initial.text.items ++ flat_map (asked_behind (type_in l.packages)) (map asked_view l.lines)
