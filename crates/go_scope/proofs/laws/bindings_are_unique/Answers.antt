-- The answers to the goals of `laws::bindings_are_unique`.
use Rattle.go_scope.proofs.Nests.{nests}
use Rattle.go_scope.proofs.Uniqueness.{bound_once}
use Rattle.go_scope.proofs.laws.bindings_are_unique.Goals as goal

pub returns : goal.returns
returns c = λ l w names u d e x y. bound_once l (nests l w) names u d e x y
