-- The answers to the goals of `declarations::add_field`.
use Rattle.std.proofs.Common.{ap, ◌++◌}
use Rattle.go_scope.specs.IdentifierViews.{as_source}
use Rattle.go_scope.proofs.Adding.{then_adds}
use Rattle.go_scope.specs.ExpressionSites.{list_sites, type_sites}
use Rattle.go_scope.specs.FileSites.{member_name, field_sites}
use Rattle.go_ast.specs.View.{list_view, type_view}
use Rattle.go_ast.specs.FileView.{same_index, field_view}
use Rattle.go_scope.proofs.declarations.add_field.Goals as goal

pub returns : goal.returns
unfolding field_sites field_view
returns c =
    then_adds _ _ c.add_type.result c.in_ok-add_members.ensures c.add_type.ensures
    (ap (λ z. list_sites (member_name (as_source c.args.source.now)) (list_view same_index z) ++ type_sites (as_source c.args.source.now)
    (type_view c.args.field.now.field_type)) c.deref.ensures.value)
