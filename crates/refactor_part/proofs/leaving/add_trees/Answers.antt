-- One more tree, and all of them at the end.
use Rattle.std.proofs.Common.{◌≡◌, ◌++◌, ◌∷◌, [], map, take, sym, ap, subst, ◌∙◌, arith}
use Rattle.std.proofs.lemmas.List.{append-nil, take_all}
use Rattle.workspace_graph.specs.Borrows.{names}
use Rattle.refactor_part.specs.LeftOut.{path_of_tree}
use Rattle.refactor_part.proofs.MorePaths.{more_paths}
use Rattle.refactor_part.proofs.leaving.add_trees.Goals as goal

pub loop-tree-init : goal.loop-tree-init
loop-tree-init c = sym (append-nil (names c.args.paths.now.items))

pub loop-tree-preserved : goal.loop-tree-preserved
loop-tree-preserved c =
    more_paths path_of_tree c.args.trees.now c.loop-tree.tree-index c.tree-item.result c.loop-tree-test.true c.tree-item.is (names c.args.paths.now.items)
    c.loop-tree.paths.items c.push.new.self.items c.path.result c.path.ensures c.in_ok-push.ensures.items c.loop-tree.invariant

pub returns : goal.returns
returns c =
    c.loop-tree.invariant
    ∙ ap (λ ts. names c.args.paths.now.items ++ map path_of_tree ts) (take_all c.loop-tree.tree-index c.args.trees.now (omega (arith, c.loop-tree-test.false)))
