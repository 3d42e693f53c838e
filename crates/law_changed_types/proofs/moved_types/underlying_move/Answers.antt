-- The answers to the goals of `moved_types::underlying_move`.
use Rattle.law_changed_types.proofs.Laws.{underlying_move}
use Rattle.law_changed_types.proofs.moved_types.underlying_move.Goals as goal

pub returns : goal.returns
returns c = underlying_move
