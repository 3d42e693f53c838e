-- The answers to the goals of `plain::is_plain_file`.
use Rattle.std.proofs.Common.{below_more, arith}
use Rattle.refactor_follow.proofs.plain.is_plain_file.Goals as goal

pub loop-token-preserved : goal.loop-token-preserved
loop-token-preserved c = below_more _ _ c.loop-token.invariant (c.is_plain_token.ensures c.if-not-is_plain_token.false)
