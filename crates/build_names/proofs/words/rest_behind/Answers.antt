-- The answers to the goals of `words::rest_behind`.
use Rattle.std.proofs.lemmas.Bool.Decides.{Decides-eqb}
use Rattle.std.proofs.lemmas.Slice.Eq.{strip_prefix_is}
use Rattle.build_names.proofs.words.rest_behind.Goals as goal

pub returns : goal.returns
returns c = strip_prefix_is Decides-eqb c.args.word.now c.args.front.now c.strip_prefix.result c.strip_prefix.ensures.cases
