-- The finished packages at the front of the table don't wait.
use Rattle.std.proofs.Common.{subst}
use Rattle.build_carry.specs.Finished.{AreFinishedBelow}
use Rattle.history_machine.specs.State.{State}
use Rattle.history_machine.proofs.waiting.first_waiting.Goals as goal

pub loop-number-init : goal.loop-number-init
loop-number-init c = λ i q below at waiting.
    let front : AreFinishedBelow c.args.state.now.finished c.front-number.result =
    subst (λ (x : State). AreFinishedBelow x.finished c.front-number.result) c.state.view_is c.front-number.ensures in
    let has = front i below in
    waiting.unfinished has.0 (i, at, has.1)
