-- The answers to the goals of `memory::transcript`.
use Rattle.history_machine.specs.Step.{Step}
use Rattle.server_commands.specs.Wait.{SoloWaits}
use Rattle.server_session.proofs.Ended.{ended_early}
use Rattle.server_session.proofs.memory.transcript.Goals as goal

pub returns-in-Err : goal.returns-in-Err
returns-in-Err c =
    ended_early Step SoloWaits c.args.limits c.args.input.now c.args.solo.now c.converse-ended.new.desk
    c.new.result.items c.converse-ended.result.1.items c.converse-ended.result.0 c.in-Err.fault c.new.ensures.items c.in-Err.is c.converse-ended.ensures
