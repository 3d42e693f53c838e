-- The number stands there, and the index moves on, or it stands nowhere.
use Rattle.std.proofs.Common.{◌+◌, arith}
use Rattle.workspace_graph.specs.Shifts.{Splits}
use Rattle.workspace_graph.proofs.Shifted.{passed_no, passed_none_in, passed_yes}
use Rattle.workspace_graph.proofs.grown.past.Goals as goal
use Rattle.workspace_graph.proofs.grown.past.Goals.{else-index-list-via-then-index-list+else-list-index, else-index-list-via-else-index-list}

pub returns-then-list-index-clause-passed : goal.returns-then-list-index-clause-passed
returns-then-list-index-clause-passed c =
    passed_yes c.args.list.now c.args.index c.args.number c.requires.rising c.requires.passed c.if-index-list.true c.if-list-index.true

pub returns-else-index-list-clause-passed : goal.returns-else-index-list-clause-passed
returns-else-index-list-clause-passed c =
    passed_no c.args.list.now c.args.index c.args.number c.requires.rising c.requires.passed
    (λ lt is. elim c.else-index-list.branch [
      | else-index-list-via-then-index-list+else-list-index w ↦ w.if-list-index.false is
      | else-index-list-via-else-index-list w ↦ absurd (omega (arith, lt, w.if-index-list.false))
    ])

pub returns-else-index-list-clause-has : goal.returns-else-index-list-clause-has
returns-else-index-list-clause-has c =
    let list = c.args.list.now in
    let after : Splits list c.args.index (c.args.number + 1) = passed_no list c.args.index c.args.number c.requires.rising c.requires.passed
    (λ lt is. elim c.else-index-list.branch [
      | else-index-list-via-then-index-list+else-list-index w ↦ w.if-list-index.false is
      | else-index-list-via-else-index-list w ↦ absurd (omega (arith, lt, w.if-index-list.false))
    ]) in
    (λ less. absurd (omega (arith, less)), λ has. absurd (passed_none_in list c.args.index c.args.number after c.requires.passed has))
