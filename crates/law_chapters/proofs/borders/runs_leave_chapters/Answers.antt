-- By the lemma of that name.
use Rattle.law_chapters.proofs.Leading.{runs_leave_chapters}
use Rattle.law_chapters.proofs.borders.runs_leave_chapters.Goals as goal

pub returns : goal.returns
returns c = runs_leave_chapters
