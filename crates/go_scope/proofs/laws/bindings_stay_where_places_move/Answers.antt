-- The answers to the goals of `laws::bindings_stay_where_places_move`.
use Rattle.go_scope.proofs.Moved.{bindings_move}
use Rattle.go_scope.proofs.laws.bindings_stay_where_places_move.Goals as goal

pub returns : goal.returns
returns c = λ m l k v names u d. bindings_move (λ f i. Unit {0}) m l k v names u d
