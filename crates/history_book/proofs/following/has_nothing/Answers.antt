-- The table of the state is asked.
use Rattle.std.proofs.Common.{subst}
use Rattle.std.proofs.lemmas.Bool.{false≢true}
use Rattle.build_carry.specs.Finished.{HasNoUnit}
use Rattle.history_machine.specs.State.{State}
use Rattle.history_book.proofs.following.has_nothing.Goals as goal

pub returns-then-not-is_empty : goal.returns-then-not-is_empty
returns-then-not-is_empty c = λ t. absurd (false≢true t)

pub returns : goal.returns
returns c = λ t. subst (λ (s : State). HasNoUnit s.finished) c.current.view_is (c.is_empty.ensures.0 c.if-not-is_empty.false)
