-- The answers to the goals of `taken::is_platform`.
use Rattle.tool_text.specs.Taken.{is_platform}
use Rattle.tool_text.proofs.taken.is_platform.Goals as goal

pub returns : goal.returns
unfolding is_platform
returns c = c.is_among.ensures
