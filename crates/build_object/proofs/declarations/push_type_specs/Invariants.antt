-- The invariants of the loops of `declarations::push_type_specs`.
use Rattle.std.proofs.Common.{◌≡◌, ◌++◌, drop}
use Rattle.build_object.proofs.TextParts.{type_specs_text}
use Rattle.build_object.proofs.declarations.push_type_specs.Given as goal

abbrev pub invariant-loop-item : goal.invariant-loop-item
invariant-loop-item l = l.text.items ++ type_specs_text l.source (drop l.item-index l.item-items) ≡ l.initial.text.items ++ type_specs_text l.source
    l.item-items
