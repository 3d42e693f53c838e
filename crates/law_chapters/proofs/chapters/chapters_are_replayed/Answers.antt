-- By the lemmas of chapters.
use Rattle.law_chapters.proofs.Replaying.{chapters_go_on, entries_are_counted, one_chapter_is_replayed}
use Rattle.law_chapters.proofs.chapters.chapters_are_replayed.Goals as goal

pub returns-clause-one : goal.returns-clause-one
returns-clause-one c = one_chapter_is_replayed

pub returns-clause-more : goal.returns-clause-more
returns-clause-more c = chapters_go_on

pub returns-clause-counted : goal.returns-clause-counted
returns-clause-counted c = entries_are_counted
