-- The answer to the goal of `same_bindings::broken_definitions_stay`.
use Rattle.law_changed_types.proofs.Alike.{of_bound, turned}
use Rattle.law_changed_types.proofs.Types.{broken}
use Rattle.law_changed_types.proofs.same_bindings.broken_definitions_stay.Goals as goal

pub returns : goal.returns
returns c = λ p q bound rank.
    let a = of_bound p q bound in
    (broken p q a rank, broken q p (turned p q a) rank)
