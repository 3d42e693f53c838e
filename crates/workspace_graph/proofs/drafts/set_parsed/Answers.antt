-- The tree is that of its tokens.
use Rattle.std.proofs.Common.{refl}
use Rattle.std.proofs.lemmas.Result.{on_ok_weaker}
use Rattle.workspace_graph.proofs.SetFiles.{tree_set}
use Rattle.workspace_graph.proofs.drafts.set_parsed.Goals as goal

pub returns : goal.returns
returns c =
    let t = c.args.tree in
    on_ok_weaker c.set_tree.result
    (λ puts w at of. tree_set w t.path t.cut.text t c.args.draft.now c.set_tree.new.draft
    (record { of_path = refl; of_text = refl; is_file = c.is_source_file.ensures }) puts at of) c.set_tree.ensures
