-- The answers to the goals of `declarations::add_import_spec`.
use Rattle.go_scope.proofs.Adding.{then_adds}
use Rattle.go_scope.specs.IdentifierViews.{as_source}
use Rattle.go_scope.specs.FileSites.{import_name, import_sites}
use Rattle.go_scope.specs.Site.{site}
use Rattle.go_scope.specs.declared.model.Role.TheVariants.{NotLexical}
use Rattle.go_ast.specs.FileView.{import_view}
use Rattle.std.proofs.Common.{ap, [], ◌∷◌, ◌++◌}
use Rattle.go_scope.proofs.declarations.add_import_spec.Goals as goal

pub returns : goal.returns
unfolding import_sites import_view
returns c =
    let s = as_source c.args.source.now in
    then_adds _ _ c.add.result c.in_ok-add_import_name.ensures c.add.ensures
    (ap (λ p. import_name s c.args.spec.now.name ++ (site s c.args.spec.now.path (NotLexical p) ∷ [])) c.import_purpose.ensures)
