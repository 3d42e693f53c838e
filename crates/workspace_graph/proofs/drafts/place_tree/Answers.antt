-- A tree before imports the same paths.
use Rattle.std.proofs.Common.{List, subst}
use Rattle.go_ast.specs.SourceFile.{FileParts}
use Rattle.workspace_graph.specs.SameImports.{HasTreeAlike}
use Rattle.workspace_graph.proofs.drafts.place_tree.Goals as goal

pub put_alike-requires-clause-alike : goal.put_alike-requires-clause-alike
put_alike-requires-clause-alike c =
    subst (λ (ts : List FileParts). HasTreeAlike ts c.args.tree) c.deref.ensures.value (c.in_ok-has_tree_alike.ensures c.if-branch.true)
