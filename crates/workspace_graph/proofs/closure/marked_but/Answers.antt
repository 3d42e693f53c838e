-- The marks, of which one was taken off.
use Rattle.std.proofs.lemmas.Result.{IfOk-weaker}
use Rattle.workspace_graph.proofs.BelowAlone.{marked_without}
use Rattle.workspace_graph.proofs.closure.marked_but.Goals as goal

pub returns-clause-each : goal.returns-clause-each
returns-clause-each c =
    IfOk-weaker c.marked.result _ _
    (λ rest held. marked_without c.args.marks.items c.deref.result.now c.args.one rest c.requires c.deref.ensures.value held) c.marked.ensures

pub returns-clause-rising : goal.returns-clause-rising
returns-clause-rising c = IfOk-weaker c.marked.result _ _ (λ rest held. held.rising) c.marked.ensures
