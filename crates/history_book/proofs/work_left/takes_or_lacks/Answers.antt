-- The answer to the goal of `work_left::takes_or_lacks`.
use Rattle.history_book.proofs.WorkLeft.{takes_or_lacks}
use Rattle.history_book.proofs.work_left.takes_or_lacks.Goals as goal

pub returns : goal.returns
returns c = takes_or_lacks
