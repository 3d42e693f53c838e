-- The answer to the goal of `same_bindings::names_stay`.
use Rattle.law_changed_types.proofs.Alike.{of_bound, turned}
use Rattle.law_changed_types.proofs.Meanings.{name}
use Rattle.law_changed_types.proofs.same_bindings.names_stay.Goals as goal

pub returns : goal.returns
returns c = λ p q bound file token b.
    let a = of_bound p q bound in
    (name p q a file token b, name q p (turned p q a) file token b)
