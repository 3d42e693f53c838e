-- The answer to the goal of `same_bindings::tokens_stay`.
use Rattle.law_changed_types.proofs.Alike.{of_bound, turned, tokens}
use Rattle.law_changed_types.proofs.same_bindings.tokens_stay.Goals as goal

pub returns : goal.returns
returns c = λ p q bound file token d.
    let a = of_bound p q bound in
    (tokens p q a file token d, tokens q p (turned p q a) file token d)
