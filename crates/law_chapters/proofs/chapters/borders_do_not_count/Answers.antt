-- By the lemma of that name.
use Rattle.law_chapters.proofs.Replaying.{borders_do_not_count}
use Rattle.law_chapters.proofs.chapters.borders_do_not_count.Goals as goal

pub returns : goal.returns
returns c = borders_do_not_count
