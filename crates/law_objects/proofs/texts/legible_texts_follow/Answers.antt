-- The answers to the goals of `texts::legible_texts_follow`.
use Rattle.law_objects.proofs.LegibleTexts.{texts_follow}
use Rattle.law_objects.proofs.texts.legible_texts_follow.Goals as goal

pub returns : goal.returns
returns c = texts_follow
