-- The answers to the goals of `faults::is_other_keyword`.
use Rattle.tool_text.specs.Faults.{is_other_keyword}
use Rattle.tool_text.proofs.faults.is_other_keyword.Goals as goal

pub returns : goal.returns
unfolding is_other_keyword
returns c = c.is_among.ensures
