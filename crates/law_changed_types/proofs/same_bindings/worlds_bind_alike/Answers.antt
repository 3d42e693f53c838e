-- The answer to the goal of `same_bindings::worlds_bind_alike`.
use Rattle.law_changed_types.proofs.Alike.{of_bound}
use Rattle.law_changed_types.proofs.Worlds.{bind_alike}
use Rattle.law_changed_types.proofs.same_bindings.worlds_bind_alike.Goals as goal

pub returns : goal.returns
returns c = λ p q bound file f g v x before after. bind_alike p q (of_bound p q bound) bound.parsed file f g v x before after
