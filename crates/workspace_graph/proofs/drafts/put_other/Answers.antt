-- The tree replaces the removed one.
use Rattle.std.proofs.Common.{sym, subst}
use Rattle.std.specs.Arc.{arc_value}
use Rattle.go_ast.specs.SourceFile.{source_of}
use Rattle.workspace_graph.specs.Drafts.{WereImports}
use Rattle.workspace_graph.specs.FileImports.{ListsImports}
use Rattle.workspace_graph.proofs.ImportedPaths.{imports_are}
use Rattle.workspace_graph.proofs.RenewedImports.{renewed_put, some_weaker}
use Rattle.workspace_graph.proofs.drafts.put_other.Goals as goal

pub renew_imports-requires : goal.renew_imports-requires
renew_imports-requires c =
    let old = c.args.draft.now.package.trees.items in
    let new = c.put_tree.new.trees.items in
    let come = c.deref.result.now in
    let lists = subst (ListsImports (source_of c.args.tree)) (sym c.deref.ensures.value) c.in_ok-come.ensures in
    some_weaker c.args.draft.now.imports (λ paths held. subst (λ gone. WereImports (arc_value paths).keys gone come new) (sym c.as_ref.ensures.value)
    (renewed_put (arc_value paths).keys old new c.in_ok-gone.gone come held c.args.tree c.in_ok-gone.ensures.put c.in_ok-gone.ensures.gone
    (λ q. (imports_are c.args.tree come lists q).0) (λ q. (imports_are c.args.tree come lists q).1))) c.requires.imports
