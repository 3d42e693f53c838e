-- The answers to the goals of `parts::split_part`.
use Rattle.std.proofs.Common.{arith}
use Rattle.tool_text.proofs.Cuts.{cut_there, cut_none, whole_before}
use Rattle.tool_text.proofs.parts.split_part.Goals as goal

pub returns-then-len-text-clause-parts : goal.returns-then-len-text-clause-parts
returns-then-len-text-clause-parts c = cut_there c.args.mark c.args.text.now c.part_len-len.result c.part_len-len.ensures.len c.if-len-text.true

pub returns-else-len-text-clause-parts : goal.returns-else-len-text-clause-parts
returns-else-len-text-clause-parts c = cut_none c.args.mark c.args.text.now (omega (arith, c.part_len-len.ensures.len, c.if-len-text.false))

pub returns-else-len-text-clause-first : goal.returns-else-len-text-clause-first
returns-else-len-text-clause-first c = whole_before c.args.text.now _ (omega (arith, c.part_len-len.ensures.len, c.if-len-text.false))
