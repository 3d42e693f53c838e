-- The answers to the goals of `places::split_colon`.
use Rattle.std.proofs.Common.{arith}
use Rattle.tool_text.proofs.Colons.{splits_at}
use Rattle.tool_text.proofs.places.split_colon.Goals as goal

pub returns : goal.returns
returns c = splits_at 58 c.args.text.now c.split_once.result c.split_once.ensures.cases (omega arith)
