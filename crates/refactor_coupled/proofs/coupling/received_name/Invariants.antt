-- The declaration has a name among those that are left exactly where it has one at all.
use Rattle.std.specs.Prelude.{◌≡◌, map}
use Rattle.std.specs.List.{list_any}
use Rattle.types_expr.specs.WorldView.{definition_of}
use Rattle.refactor_coupled.specs.Reached.{is_named_by, names_received}
use Rattle.refactor_coupled.proofs.coupling.received_name.Given as goal

abbrev pub invariant-loop-name : goal.invariant-loop-name
invariant-loop-name l =
    list_any (is_named_by (definition_of l.definition) l.declaration) (map (λ entry. entry.0.items) l.name-iterator)
    ≡ list_any (is_named_by (definition_of l.definition) l.declaration) (names_received l.definition)
