-- The answers to the goals of `places::behind_hash`.
use Rattle.std.proofs.Common.{arith}
use Rattle.std.proofs.lemmas.Str.Pattern.{strip_prefix_char}
use Rattle.tool_text.proofs.places.behind_hash.Goals as goal

pub returns : goal.returns
returns c = strip_prefix_char 35 c.args.text.now c.strip_prefix.result c.strip_prefix.ensures.cases (omega arith)
