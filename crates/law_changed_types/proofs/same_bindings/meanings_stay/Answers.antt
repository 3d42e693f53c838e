-- The answer to the goal of `same_bindings::meanings_stay`.
use Rattle.law_changed_types.proofs.Alike.{of_bound, turned}
use Rattle.law_changed_types.proofs.Meanings.{meaning}
use Rattle.law_changed_types.proofs.same_bindings.meanings_stay.Goals as goal

pub returns : goal.returns
returns c = λ p q bound d b.
    let a = of_bound p q bound in
    (meaning p q a d b, meaning q p (turned p q a) d b)
