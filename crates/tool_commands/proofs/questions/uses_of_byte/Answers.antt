-- The uses are told.
use Rattle.tool_commands.proofs.Tellings.{tells_places}
use Rattle.tool_commands.proofs.questions.uses_of_byte.Goals as goal

pub returns-in-Ok : goal.returns-in-Ok
returns-in-Ok c =
    tells_places c.args.opened.now c.naming.result c.naming.ensures c.uses_outcome.result c.as_slice-notes.result.now c.args.word.now
    c.args.byte.0.now c.args.byte.1 c.in-Ok.places c.as_slice.result.now c.as_slice-notes.ensures.value c.as_slice.ensures
    c.in-Ok.ensures c.uses_outcome.ensures
