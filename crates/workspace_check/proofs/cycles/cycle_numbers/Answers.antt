-- The answers to the goals of `cycles::cycle_numbers`.
use Rattle.std.proofs.Common.{◌<◌, sym, subst, ◌∙◌}
use Rattle.workspace_check.proofs.CycleNumbers.{own_numbers}
use Rattle.workspace_check.proofs.cycles.cycle_numbers.Goals as goal

pub loop-number-init : goal.loop-number-init
loop-number-init c =
    own_numbers c.args.graph.now c.in_ok-numbers.numbers.items (c.in_ok-numbers.ensures.size ∙ c.len.ensures)
    (λ i lt. c.in_ok-numbers.ensures.own i (subst (λ n. i < n) (sym c.len.ensures) lt))
