-- The answers to the goals of `laws::declarations_are_bound_to_themselves`.
use Rattle.go_scope.proofs.Uniqueness.{own_binding}
use Rattle.go_scope.proofs.laws.declarations_are_bound_to_themselves.Goals as goal

pub returns : goal.returns
returns c = λ l names u d x. own_binding l names u d x
