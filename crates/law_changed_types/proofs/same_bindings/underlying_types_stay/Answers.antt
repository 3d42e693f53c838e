-- The answer to the goal of `same_bindings::underlying_types_stay`.
use Rattle.law_changed_types.proofs.Alike.{of_bound, turned}
use Rattle.law_changed_types.proofs.Types.{has_underlying}
use Rattle.law_changed_types.proofs.same_bindings.underlying_types_stay.Goals as goal

pub returns : goal.returns
returns c = λ p q bound t u.
    let a = of_bound p q bound in
    (has_underlying p q a t u, has_underlying q p (turned p q a) t u)
