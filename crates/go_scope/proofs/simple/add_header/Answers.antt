-- The answers to the goals of `simple::add_header`.
use Rattle.std.proofs.Common.{ap, sym}
use Rattle.go_scope.specs.IdentifierViews.{as_source}
use Rattle.go_scope.specs.StatementSites.{for_sites}
use Rattle.go_scope.proofs.Adding.{adds_none, adds_as, call_adds, two_then_adds}
use Rattle.go_ast.specs.FileView.{for_view}
use Rattle.go_scope.proofs.simple.add_header.Goals as goal

pub returns-in-Forever : goal.returns-in-Forever
unfolding for_sites for_view
returns-in-Forever c = adds_as (adds_none c.args.found.now.items)
    (ap (λ v. for_sites (as_source c.args.source.now) c.args.block c.args.brace (for_view v)) (sym c.in-Forever.is))

pub returns-in-While : goal.returns-in-While
unfolding for_sites for_view
returns-in-While c = call_adds _ _ c.add_expr.result c.add_expr.ensures
    (ap (λ v. for_sites (as_source c.args.source.now) c.args.block c.args.brace (for_view v)) (sym c.in-While.is))

pub returns-in_ok-add_condition-in-Clauses : goal.returns-in_ok-add_condition-in-Clauses
unfolding for_sites for_view
returns-in_ok-add_condition-in-Clauses c =
    two_then_adds _ _ c.add_optional-in-Clauses.result c.in_ok-add_optional-in-Clauses.ensures c.in_ok-add_condition-in-Clauses.ensures
    c.add_optional-in-Clauses.ensures
    (ap (λ v. for_sites (as_source c.args.source.now) c.args.block c.args.brace (for_view v)) (sym c.in-Clauses.is))
