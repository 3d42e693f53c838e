-- The definition asks for the method under a name among those that are left exactly where it does at all.
use Rattle.std.specs.Prelude.{◌≡◌, Some, map}
use Rattle.std.specs.List.{list_any}
use Rattle.types_expr.specs.WorldView.{definition_of, names_written}
use Rattle.refactor_coupled.specs.Reached.{asks_by_symbol}
use Rattle.refactor_coupled.proofs.coupling.asked_name_in.Given as goal

abbrev pub invariant-loop-name : goal.invariant-loop-name
invariant-loop-name l =
    list_any (asks_by_symbol (definition_of l.definition) l.symbol) (map (λ entry. entry.0.items) l.name-iterator)
    ≡ list_any (asks_by_symbol (definition_of l.definition) l.symbol) (names_written (Some l.definition))
