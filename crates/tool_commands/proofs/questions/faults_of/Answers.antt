-- The faults are told.
use Rattle.tool_commands.proofs.Tellings.{tells_faults}
use Rattle.tool_commands.proofs.questions.faults_of.Goals as goal

pub returns : goal.returns
returns c =
    tells_faults c.args.opened.now c.naming.result c.naming.ensures c.faults_outcome.result c.as_slice-notes.result.now
    c.in_ok-faults.faults.items c.as_slice.result.now c.as_slice-notes.ensures.value c.as_slice.ensures.value c.in_ok-faults.ensures
    c.faults_outcome.ensures
