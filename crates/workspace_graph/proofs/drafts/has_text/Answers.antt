-- The tree that is there has the text.
use Rattle.std.proofs.Common.{◌≡◌, List, inl, sym, ap, subst, ◌∙◌}
use Rattle.std.specs.Cmp.Lexicographic.{bytes_decides}
use Rattle.std.specs.List.{Contains}
use Rattle.go_scanner.specs.CutText.{CutText}
use Rattle.go_ast.specs.SourceFile.{FileParts}
use Rattle.workspace_graph.proofs.drafts.has_text.Goals as goal

pub returns-in-Some : goal.returns-in-Some
returns-in-Some c = λ yes.
    let tree = c.in-Some.tree.now in
    let cut : c.file.result.now ≡ tree.cut.text = c.file.ensures.text ∙ ap (λ (x : CutText). x.text) c.pieces.ensures in
    let text : c.file.result.now ≡ c.args.text.now = (bytes_decides c.file.result.now c.args.text.now).0 (sym c.eq.ensures ∙ yes) in
    inl (tree, subst (λ (ts : List FileParts). Contains ts tree) c.deref.ensures.value c.in-Some.ensures.0, c.in-Some.ensures.1, sym cut ∙ text)
