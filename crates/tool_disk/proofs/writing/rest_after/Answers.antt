-- The answers to the goals of `writing::rest_after`.
use Rattle.std.proofs.lemmas.Bool.Decides.{Decides-eqb}
use Rattle.std.proofs.lemmas.Slice.Eq.{strip_prefix_is}
use Rattle.tool_disk.proofs.writing.rest_after.Goals as goal

pub returns : goal.returns
returns c = strip_prefix_is Decides-eqb c.args.text.now c.args.front.now c.strip_prefix.result c.strip_prefix.ensures.cases
