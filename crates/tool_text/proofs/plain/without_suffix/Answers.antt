-- The answers to the goals of `plain::without_suffix`.
use Rattle.std.proofs.Common.{arith}
use Rattle.tool_text.proofs.Ends.{cut_suffix, no_suffix}
use Rattle.tool_text.proofs.plain.without_suffix.Goals as goal

pub returns-in-Some : goal.returns-in-Some
returns-in-Some c = cut_suffix c.args.suffix.now c.args.text.now _ c.in-Some.ensures.cases.0 c.in-Some.ensures.cases.1 c.in-Some.ensures.cases.2 (omega
    (arith, c.in-Some.ensures.cases.3))

pub returns-in-None : goal.returns-in-None
returns-in-None c = no_suffix c.args.suffix.now c.args.text.now c.in-None.ensures.cases
