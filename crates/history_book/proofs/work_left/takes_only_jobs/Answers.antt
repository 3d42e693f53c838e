-- The answer to the goal of `work_left::takes_only_jobs`.
use Rattle.history_book.proofs.WorkLeft.{takes_only_jobs}
use Rattle.history_book.proofs.work_left.takes_only_jobs.Goals as goal

pub returns : goal.returns
returns c = takes_only_jobs
