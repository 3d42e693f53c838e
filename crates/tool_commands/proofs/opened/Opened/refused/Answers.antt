-- The refusal is told.
use Rattle.std.specs.Option.{option_copied}
use Rattle.tool_commands.proofs.Tellings.{tells_refusal}
use Rattle.tool_commands.proofs.opened.Opened.refused.Goals as goal

pub returns : goal.returns
returns c =
    tells_refusal c.args.self.now c.naming.result c.naming.ensures c.refusal_outcome.result c.as_slice.result.now c.args.word.now
    c.as_bytes.result.now (option_copied c.args.place) c.args.refusal.now c.as_slice.ensures.value c.as_bytes.ensures.value
    c.refusal_outcome.ensures
