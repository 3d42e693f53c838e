-- The tree at the path imports the same paths.
use Rattle.std.proofs.Common.{Bool, ◌∙◌}
use Rattle.std.specs.Prelude.{IsTrue}
use Rattle.std.proofs.lemmas.Result.{IfOk-weaker}
use Rattle.go_ast.specs.SourceFile.{source_of}
use Rattle.workspace_graph.specs.SameImports.{HasTreeAlike, ImportSamePaths}
use Rattle.workspace_graph.proofs.drafts.has_tree_alike.Goals as goal

pub returns-in-Some : goal.returns-in-Some
returns-in-Some c =
    let before = c.in-Some.before.now in
    let tree = c.args.tree.now in
    IfOk-weaker c.import_alike.result (λ (alike : Bool). IsTrue alike → ImportSamePaths (source_of before) (source_of tree))
    (λ (has : Bool). IsTrue has → HasTreeAlike c.args.trees.now tree)
    (λ _ gives has. (before, c.in-Some.ensures.0, c.in-Some.ensures.1 ∙ c.path.ensures, gives has)) c.import_alike.ensures
