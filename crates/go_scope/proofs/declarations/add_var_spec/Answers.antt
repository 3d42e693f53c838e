-- The answers to the goals of `declarations::add_var_spec`.
use Rattle.std.proofs.Common.{ap, ◌++◌}
use Rattle.go_scope.specs.IdentifierViews.{as_source}
use Rattle.go_scope.proofs.Adding.{then_adds}
use Rattle.go_scope.specs.ExpressionSites.{list_sites, type_sites}
use Rattle.go_scope.specs.FileSites.{global_name, global_sites}
use Rattle.go_ast.specs.View.{list_view, type_view}
use Rattle.go_ast.specs.FileView.{same_index, global_view}
use Rattle.go_scope.proofs.declarations.add_var_spec.Goals as goal

pub returns : goal.returns
unfolding global_sites global_view
returns c =
    then_adds _ _ c.add_type.result c.in_ok-add_globals.ensures c.add_type.ensures
    (ap (λ z. list_sites (global_name (as_source c.args.source.now)) (list_view same_index z) ++ type_sites (as_source c.args.source.now)
    (type_view c.args.spec.now.var_type)) c.deref.ensures.value)
