-- The answers to the goals of `laws::bindings_stay_where_imports_are_named`.
use Rattle.go_scope.proofs.KeptBindings.{named_binding}
use Rattle.go_scope.proofs.laws.bindings_stay_where_imports_are_named.Goals as goal

pub returns : goal.returns
returns c = λ names p w name u d b other none. named_binding names p.sites w name u d b other none
