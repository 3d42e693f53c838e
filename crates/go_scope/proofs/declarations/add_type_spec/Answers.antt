-- The answers to the goals of `declarations::add_type_spec`.
use Rattle.go_scope.proofs.Adding.{then_adds}
use Rattle.std.proofs.Common.{refl}
use Rattle.go_scope.specs.FileSites.{type_spec_sites}
use Rattle.go_ast.specs.FileView.{type_spec_view}
use Rattle.go_scope.proofs.declarations.add_type_spec.Goals as goal

pub returns : goal.returns
unfolding type_spec_sites type_spec_view
returns c = then_adds _ _ c.add_body.result c.in_ok-add.ensures c.add_body.ensures refl
