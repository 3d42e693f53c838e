-- The answers to the goals of `simple::add_left`.
use Rattle.std.proofs.Common.{ap, sym}
use Rattle.go_scope.specs.IdentifierViews.{as_source}
use Rattle.go_scope.specs.StatementSites.{left_sites}
use Rattle.go_scope.proofs.Adding.{call_adds}
use Rattle.go_scope.proofs.StatementParts.{left_default}
use Rattle.go_ast.specs.View.{expr_view}
use Rattle.go_scope.proofs.simple.add_left.Goals as goal

pub returns-in-Name : goal.returns-in-Name
unfolding expr_view
returns-in-Name c = call_adds _ _ c.add.result c.add.ensures
    (ap (λ v. left_sites (as_source c.args.source.now) c.args.block c.args.following (expr_view v)) (sym c.in-Name.is))

pub returns-in-Blank : goal.returns-in-Blank
unfolding expr_view
returns-in-Blank c = call_adds _ _ c.add-in-Blank.result c.add-in-Blank.ensures
    (ap (λ v. left_sites (as_source c.args.source.now) c.args.block c.args.following (expr_view v)) (sym c.in-Blank.is))

pub returns-in_default : goal.returns-in_default
returns-in_default c = call_adds _ _ c.add_expr.result c.add_expr.ensures
    (left_default (as_source c.args.source.now) c.args.block c.args.following c.args.left.now c.in_default.not-Name c.in_default.not-Blank)
