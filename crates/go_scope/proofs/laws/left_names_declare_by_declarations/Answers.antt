-- The answers to the goals of `laws::left_names_declare_by_declarations`.
use Rattle.go_scope.proofs.Nests.{nests}
use Rattle.go_scope.proofs.Uniqueness.{declares_if}
use Rattle.go_scope.proofs.laws.left_names_declare_by_declarations.Goals as goal

pub returns : goal.returns
returns c = λ l w names d m h. declares_if l (nests l w) names d m h
