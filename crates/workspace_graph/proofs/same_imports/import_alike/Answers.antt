-- The literals are at the same indices, and each stands for the same path.
use Rattle.std.proofs.Common.{◌≡◌, ℕ, List, sym, ap, subst, ◌∙◌}
use Rattle.std.specs.List.{All}
use Rattle.go_ast.specs.declared.tree.File.{File}
use Rattle.go_ast.specs.FileView.{file_view}
use Rattle.go_ast.specs.SourceFile.{source_of}
use Rattle.workspace_graph.specs.FileImports.{import_literals}
use Rattle.workspace_graph.specs.SameImports.{AreAlikeAt}
use Rattle.workspace_graph.proofs.SameImports.{same_literals}
use Rattle.workspace_graph.proofs.same_imports.import_alike.Goals as goal

pub returns : goal.returns
returns c alike =
    let one = source_of c.args.one.now in
    let other = source_of c.args.other.now in
    let first : c.in_ok-literals.literals.items ≡ import_literals one.tree =
    c.in_ok-literals.ensures ∙ ap (λ (f : File). import_literals (file_view f)) c.file.ensures.tree in
    let second : c.in_ok-others.others.items ≡ import_literals other.tree =
    c.in_ok-others.ensures ∙ ap (λ (f : File). import_literals (file_view f)) c.file-2.ensures.tree in
    let equal : c.in_ok-literals.literals.items ≡ c.in_ok-others.others.items =
    sym c.deref.ensures.value ∙ c.are_equal.ensures c.if-not-are_equal.false ∙ c.deref-2.ensures.value in
    same_literals one other (sym first ∙ equal ∙ second)
    (subst (λ (ts : List ℕ). All (AreAlikeAt one other) ts) (c.deref-3.ensures.value ∙ first) (c.are_all_alike.ensures alike))
