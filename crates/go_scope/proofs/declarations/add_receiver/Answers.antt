-- The answers to the goals of `declarations::add_receiver`.
use Rattle.std.proofs.Common.{ap, sym}
use Rattle.go_scope.specs.IdentifierViews.{as_source}
use Rattle.go_scope.proofs.Adding.{then_adds}
use Rattle.go_scope.specs.ExpressionSites.{sites_if}
use Rattle.go_scope.specs.FileSites.{receiver_sites}
use Rattle.go_ast.specs.View.{option_view}
use Rattle.go_ast.specs.FileView.{receiver_view}
use Rattle.go_scope.proofs.declarations.add_receiver.Goals as goal

pub returns-in_ok-add_ident-in-Some : goal.returns-in_ok-add_ident-in-Some
unfolding receiver_sites receiver_view
returns-in_ok-add_ident-in-Some c =
    then_adds _ _ c.add.result c.in_ok-add_ident-in-Some.ensures c.add.ensures
    (ap (λ v. sites_if (receiver_sites (as_source c.args.source.now) c.args.block c.args.start) (option_view receiver_view v)) (sym c.in-Some.is))
