-- The faulty file at the path, if there was one, is gone, and the tree stands there.
use Rattle.std.proofs.Common.{refl}
use Rattle.std.proofs.lemmas.Result.{on_ok_weaker}
use Rattle.workspace_graph.proofs.SetFiles.{sets_tree}
use Rattle.workspace_graph.proofs.drafts.set_tree.Goals as goal

pub returns : goal.returns
returns c = on_ok_weaker c.place_tree.result
    (λ puts. sets_tree c.args.tree c.args.draft.now _ c.place_tree.new.draft c.take_fault.result c.path.result.now puts c.path.ensures c.take_fault.ensures
    refl refl)
    c.place_tree.ensures
