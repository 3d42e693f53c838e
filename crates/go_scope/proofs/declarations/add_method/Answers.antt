-- The answers to the goals of `declarations::add_method`.
use Rattle.std.proofs.Common.{ap, ◌++◌}
use Rattle.go_scope.specs.IdentifierViews.{as_source}
use Rattle.go_scope.proofs.Adding.{two_then_adds}
use Rattle.go_scope.specs.ExpressionSites.{list_sites}
use Rattle.go_scope.specs.FileSites.{member_name, method_block, method_sites, param_sites, result_sites}
use Rattle.go_ast.specs.View.{list_view}
use Rattle.go_ast.specs.FileView.{method_view, param_view, results_view}
use Rattle.go_scope.proofs.declarations.add_method.Goals as goal

pub returns : goal.returns
unfolding method_sites method_view
returns c =
    two_then_adds _ _ c.add_results.result c.in_ok-add.ensures c.in_ok-add_params.ensures c.add_results.ensures
    (ap (λ z. member_name (as_source c.args.source.now) c.args.method.now.name ++ (list_sites (param_sites (as_source c.args.source.now)
    (method_block (as_source c.args.source.now) (method_view c.args.method.now)) c.args.method.now.close) (list_view param_view z) ++
    result_sites (as_source c.args.source.now) (results_view c.args.method.now.results))) c.deref.ensures.value)
