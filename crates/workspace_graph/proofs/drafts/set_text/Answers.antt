-- The text is there, or it is parsed and put there.
use Rattle.std.proofs.Common.{subst}
use Rattle.std.proofs.lemmas.Result.{on_ok_weaker}
use Rattle.workspace_graph.specs.Parsed.{IsParsedAs}
use Rattle.workspace_graph.proofs.SetFiles.{fault_set, text_stays, tree_set}
use Rattle.workspace_graph.proofs.drafts.set_text.Goals as goal

pub returns-then-has_text : goal.returns-then-has_text
returns-then-has_text c = λ w at of.
    text_stays w c.args.path.now c.args.text.now c.args.draft.now c.requires at (c.has_text.ensures c.if-has_text.true)

pub returns-in-Sound : goal.returns-in-Sound
returns-in-Sound c =
    let path = c.args.path.now in
    let text = c.args.text.now in
    let is = subst (IsParsedAs path text) c.in-Sound.is c.in_ok-tree.ensures in
    on_ok_weaker c.set_tree.result
    (λ puts w at of. tree_set w path text c.in-Sound.tree c.args.draft.now c.set_tree.new.draft is puts at of) c.set_tree.ensures

pub returns-in-Faulty : goal.returns-in-Faulty
returns-in-Faulty c =
    let path = c.args.path.now in
    let text = c.args.text.now in
    let is = subst (IsParsedAs path text) c.in-Faulty.is c.in_ok-tree.ensures in
    on_ok_weaker c.set_fault.result
    (λ puts w at of. fault_set w path text c.in-Faulty.file c.args.draft.now c.set_fault.new.draft is puts at of) c.set_fault.ensures
