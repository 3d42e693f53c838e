-- The packages at the front of the table are finished.
use Rattle.std.proofs.Common.{subst}
use Rattle.build_carry.specs.Finished.{AreFinishedBelow}
use Rattle.history_machine.specs.State.{State}
use Rattle.history_book.proofs.WorkLeft.{front_finished}
use Rattle.history_book.proofs.work_left.are_all_finished.Goals as goal

pub loop-number-init : goal.loop-number-init
loop-number-init c =
    front_finished c.args.state.now.finished c.front-number.result
    (subst (λ (x : State). AreFinishedBelow x.finished c.front-number.result) c.state.view_is c.front-number.ensures)
