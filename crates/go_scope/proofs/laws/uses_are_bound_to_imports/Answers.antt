-- The answers to the goals of `laws::uses_are_bound_to_imports`.
use Rattle.go_scope.proofs.BoundImports.{import_bound}
use Rattle.go_scope.proofs.laws.uses_are_bound_to_imports.Goals as goal

pub returns : goal.returns
returns c = λ l names u i f d file named at used other. import_bound l names u i f d file named at used other
