-- The answers to the goals of `laws::positions_tell_offsets`.
use Rattle.tool_text.proofs.Rising.{positions_apart}
use Rattle.tool_text.proofs.laws.positions_tell_offsets.Goals as goal

pub returns : goal.returns
returns c = positions_apart
