-- The place, or the next linked number, or the end.
use Rattle.std.proofs.Common.{arith}
use Rattle.workspace_graph.proofs.GrownStops.{stop_at_end, stop_at_place}
use Rattle.workspace_graph.proofs.grown.next_stop.Goals as goal
use Rattle.workspace_graph.proofs.grown.next_stop.Goals.{else-number-growing-via-then-number-growing+else-growing-end}
use Rattle.workspace_graph.proofs.grown.next_stop.Goals.{else-number-growing-via-else-number-growing}

pub returns-then-growing-end : goal.returns-then-growing-end
returns-then-growing-end c =
    stop_at_place c.args.growing.before.now c.args.growing.place c.args.growing.linked.now c.args.index c.args.number c.linked_at-end.result
    c.requires.growing c.requires.passed c.requires.within c.linked_at-end.ensures.there c.linked_at-end.ensures.behind
    c.if-number-growing.true c.if-growing-end.true

pub returns-else-number-growing : goal.returns-else-number-growing
returns-else-number-growing c =
    stop_at_end c.args.growing.before.now c.args.growing.place c.args.growing.linked.now c.args.index c.args.number c.linked_at-end.result
    c.requires.growing c.requires.passed c.requires.within c.linked_at-end.ensures.there c.linked_at-end.ensures.behind
    (λ low. elim c.else-number-growing.branch [
      | else-number-growing-via-then-number-growing+else-growing-end w ↦ omega (arith, w.if-growing-end.false)
      | else-number-growing-via-else-number-growing w ↦ absurd (omega (arith, low, w.if-number-growing.false))
    ])
