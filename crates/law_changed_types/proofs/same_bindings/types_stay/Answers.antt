-- The answer to the goal of `same_bindings::types_stay`.
use Rattle.law_changed_types.proofs.Alike.{of_bound, turned, dotted}
use Rattle.law_changed_types.proofs.Types.{denotes}
use Rattle.law_changed_types.proofs.same_bindings.types_stay.Goals as goal

pub returns : goal.returns
returns c = λ p q bound file tree t dots.
    let a = of_bound p q bound in (
      (λ h. denotes p q a file tree t h dots),
      (λ h. denotes q p (turned p q a) file tree t h (dotted p q a.size a.layout file tree dots)),
    )
