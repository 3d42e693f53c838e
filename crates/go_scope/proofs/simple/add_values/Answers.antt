-- The answers to the goals of `simple::add_values`.
use Rattle.std.proofs.Common.{ap, sym, ◌∙◌}
use Rattle.go_scope.specs.IdentifierViews.{as_source}
use Rattle.go_scope.specs.ExpressionSites.{sites_if, exprs_sites}
use Rattle.go_scope.specs.StatementSites.{value_sites}
use Rattle.go_scope.proofs.Adding.{call_adds}
use Rattle.go_ast.specs.View.{option_view, exprs_view}
use Rattle.go_ast.specs.FileView.{values_view}
use Rattle.go_scope.proofs.simple.add_values.Goals as goal

pub returns-in-Some : goal.returns-in-Some
returns-in-Some c =
    call_adds _ _ c.add_exprs.result c.add_exprs.ensures
    (ap (λ z. exprs_sites (as_source c.args.source.now) (exprs_view z)) c.deref.ensures.value ∙
    ap (λ v. sites_if (value_sites (as_source c.args.source.now)) (option_view values_view v)) (sym c.in-Some.is))
