-- The answers to the goals of `plain::without_prefix`.
use Rattle.tool_text.proofs.Ends.{cut_prefix, no_prefix}
use Rattle.tool_text.proofs.plain.without_prefix.Goals as goal

pub returns-in-Some : goal.returns-in-Some
returns-in-Some c = cut_prefix c.args.prefix.now c.args.text.now _ c.in-Some.ensures.cases.0 c.in-Some.ensures.cases.1 c.in-Some.ensures.cases.2

pub returns-in-None : goal.returns-in-None
returns-in-None c = no_prefix c.args.prefix.now c.args.text.now c.in-None.ensures.cases
