-- The answers to the goals of `locals::declare_written`.
use Rattle.std.proofs.Common.{None, ◌+◌, get_or, ap, sym, ◌∙◌, drop, option_map}
use Rattle.std.proofs.Math.ListN.{drop_of_length-le}
use Rattle.go_ast.specs.View.{list_view, ident_view}
use Rattle.go_ast.specs.declared.tree.Item.{Item}
use Rattle.go_ast.specs.declared.tree.Ident.{Ident}
use Rattle.go_ast.specs.declared.tree.Ident.TheVariants as ident
use Rattle.types_expr.specs.View.{type_of}
use Rattle.types_expr.specs.Found.{locals_of}
use Rattle.types_stmt.specs.Sides.{declared_if, named}
use Rattle.types_stmt.specs.Simple.{written_locals}
use Rattle.types_stmt.proofs.Lists.{next_plain}
use Rattle.types_stmt.proofs.ListEquations.{with_locals_step, with_locals_end}
use Rattle.types_stmt.proofs.locals.declare_written.Goals as goal

-- the item that the program reads past the end of a list
abbrev first_name : Item Ident
first_name = record { value = ident.Named 0; separator = None }

pub loop-item-preserved : goal.loop-item-preserved
loop-item-preserved c =
    ap (λ ls. written_locals ls (list_view ident_view (drop (c.loop-item.item-index + 1) c.args.idents.now)) (option_map type_of c.args.own.now))
    (c.in_ok-declare_if.ensures ∙ (ap (λ n. declared_if (locals_of c.loop-item.locals) n (option_map type_of c.in_ok-own.own)) c.named.ensures
    ∙ ap (λ t. declared_if (locals_of c.loop-item.locals) (named (ident_view (get_or c.args.idents.now c.loop-item.item-index first_name).value)) t)
    c.in_ok-own.ensures))
    ∙ (sym (ap (λ xs. written_locals (locals_of c.loop-item.locals) (list_view ident_view xs) (option_map type_of c.args.own.now))
    (next_plain c.args.idents.now c.loop-item.item-index first_name c.loop-item-test.true)
    ∙ with_locals_step (locals_of c.loop-item.locals) _ _ _) ∙ c.loop-item.invariant)

pub returns : goal.returns
returns c =
    sym (ap (λ xs. written_locals (locals_of c.loop-item.locals) (list_view ident_view xs) (option_map type_of c.args.own.now))
    (drop_of_length-le _ c.loop-item-test.false) ∙ with_locals_end (locals_of c.loop-item.locals) _) ∙ c.loop-item.invariant
