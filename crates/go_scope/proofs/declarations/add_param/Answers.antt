-- The answers to the goals of `declarations::add_param`.
use Rattle.std.proofs.Common.{ap, ◌++◌}
use Rattle.go_scope.specs.IdentifierViews.{as_source}
use Rattle.go_scope.proofs.Adding.{then_adds}
use Rattle.go_scope.specs.declared.model.Role.TheVariants.{Declaring}
use Rattle.go_scope.specs.ExpressionSites.{list_sites, type_sites}
use Rattle.go_scope.specs.StatementSites.{ident_sites}
use Rattle.go_scope.specs.FileSites.{param_sites}
use Rattle.go_ast.specs.View.{list_view, ident_view, type_view}
use Rattle.go_ast.specs.FileView.{param_view}
use Rattle.go_scope.proofs.declarations.add_param.Goals as goal

pub returns : goal.returns
unfolding param_sites param_view
returns c =
    then_adds _ _ c.add_type.result c.in_ok-add_idents.ensures c.add_type.ensures
    (ap (λ z. list_sites (ident_sites (as_source c.args.source.now) (Declaring c.args.block c.args.start)) (list_view ident_view z) ++ type_sites
    (as_source c.args.source.now) (type_view c.args.param.now.param_type)) c.deref.ensures.value)
