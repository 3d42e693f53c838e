-- The answers to the goals of `simple::add_assigned`.
use Rattle.std.proofs.Common.{ap, sym}
use Rattle.go_scope.specs.IdentifierViews.{as_source}
use Rattle.go_scope.specs.StatementSites.{assigned_sites}
use Rattle.go_scope.proofs.Adding.{call_adds}
use Rattle.go_scope.proofs.StatementParts.{assigned_default}
use Rattle.go_ast.specs.View.{expr_view}
use Rattle.go_scope.proofs.simple.add_assigned.Goals as goal

pub returns-in-Blank : goal.returns-in-Blank
unfolding expr_view
returns-in-Blank c = call_adds _ _ c.add.result c.add.ensures (ap (λ v. assigned_sites (as_source c.args.source.now) (expr_view v)) (sym c.in-Blank.is))

pub returns-in_default : goal.returns-in_default
returns-in_default c = call_adds _ _ c.add_expr.result c.add_expr.ensures
    (assigned_default (as_source c.args.source.now) c.args.left.now c.in_default.not-Blank)
