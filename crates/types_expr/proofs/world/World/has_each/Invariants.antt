-- The type has what is asked for under each name exactly where it has what is asked for under the names that are left.
use Rattle.std.specs.Prelude.{◌≡◌, map}
use Rattle.std.specs.List.{list_all}
use Rattle.types_expr.specs.View.{type_of}
use Rattle.types_expr.specs.World.{has_if_asked, in_method_set}
use Rattle.types_expr.specs.WorldView.{definition_in, definition_of}
use Rattle.types_expr.proofs.world.World.has_each.Given as goal

abbrev pub invariant-loop-name : goal.invariant-loop-name
invariant-loop-name l =
    list_all (λ name. has_if_asked ((definition_of l.definition).field name) (in_method_set (definition_in l.self) (type_of l.of) name))
    (map (λ entry. entry.0.items) l.name-iterator)
    ≡ list_all (λ name. has_if_asked ((definition_of l.definition).field name) (in_method_set (definition_in l.self) (type_of l.of) name))
    (map (λ entry. entry.0.items) l.definition.fields.entries)
