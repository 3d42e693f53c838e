-- The answers to the goals of `expressions::add_type`.
use Rattle.std.proofs.Common.{ap, sym, ◌∙◌}
use Rattle.go_scope.specs.ExpressionSites.{type_sites}
use Rattle.go_scope.specs.IdentifierViews.{as_source}
use Rattle.go_scope.proofs.Adding.{call_adds, then_adds}
use Rattle.go_ast.specs.View.{type_view}
use Rattle.go_scope.proofs.expressions.+add_type.Goals as goal

pub returns-in-Local : goal.returns-in-Local
unfolding type_sites type_view
returns-in-Local t c = call_adds _ _ c.add.result c.add.ensures (ap (λ v. type_sites (as_source c.args.source.now) (type_view v)) (sym c.in-Local.is))

pub returns-in_ok-add-in-Imported : goal.returns-in_ok-add-in-Imported
unfolding type_sites type_view
returns-in_ok-add-in-Imported t c =
    then_adds _ _ c.add-in-Imported-2.result c.in_ok-add-in-Imported.ensures c.add-in-Imported-2.ensures
    (ap (λ v. type_sites (as_source c.args.source.now) (type_view v)) (sym c.in-Imported.is))

pub returns-in-Pointer : goal.returns-in-Pointer
unfolding type_sites type_view
returns-in-Pointer t c =
    call_adds _ _ c.add_type.result c.add_type.ensures
    (ap (λ v. type_sites (as_source c.args.source.now) (type_view v)) c.deref.ensures ∙
    ap (λ v. type_sites (as_source c.args.source.now) (type_view v)) (sym c.in-Pointer.is))

pub returns-in-Slice : goal.returns-in-Slice
unfolding type_sites type_view
returns-in-Slice t c =
    call_adds _ _ c.add_type-in-Slice.result c.add_type-in-Slice.ensures
    (ap (λ v. type_sites (as_source c.args.source.now) (type_view v)) c.deref-in-Slice.ensures ∙
    ap (λ v. type_sites (as_source c.args.source.now) (type_view v)) (sym c.in-Slice.is))
