-- The answers to the goals of `simple::add_init`.
use Rattle.std.proofs.Common.{ap, sym}
use Rattle.go_scope.specs.IdentifierViews.{as_source}
use Rattle.go_scope.specs.ExpressionSites.{sites_if}
use Rattle.go_scope.specs.StatementSites.{init_sites}
use Rattle.go_scope.proofs.Adding.{call_adds}
use Rattle.go_ast.specs.View.{option_view}
use Rattle.go_ast.specs.FileView.{init_view}
use Rattle.go_scope.proofs.simple.add_init.Goals as goal

pub returns-in-Some : goal.returns-in-Some
unfolding init_sites init_view
returns-in-Some c = call_adds _ _ c.add_optional.result c.add_optional.ensures
    (ap (λ v. sites_if (init_sites (as_source c.args.source.now) c.args.block) (option_view init_view v)) (sym c.in-Some.is))
