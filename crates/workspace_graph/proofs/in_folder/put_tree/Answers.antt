-- The tree is put where the one with its path was.
use Rattle.std.proofs.Common.{sym, ◌∙◌}
use Rattle.workspace_graph.specs.InFolder.{tree_path}
use Rattle.workspace_graph.proofs.UpdatedPackages.{puts_at}
use Rattle.workspace_graph.proofs.in_folder.put_tree.Goals as goal

pub returns-clause-put : goal.returns-clause-put
returns-clause-put c = puts_at tree_path c.path.result.now c.args.tree c.args.trees.now.items c.take_tree-taken.new.trees.items c.insert.new.self.items
    c.take_tree-taken.result.place (sym c.path.ensures) c.take_tree-taken.ensures.out c.in_ok-insert.ensures.items

pub returns-clause-gone : goal.returns-clause-gone
returns-clause-gone c = λ t has same. c.take_tree-taken.ensures.gone t has (same ∙ sym c.path.ensures)
