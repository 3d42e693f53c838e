-- The answers to the goals of `laws::one_verdict`.
use Rattle.go_ast.proofs.OneVerdict.{one_verdict}
use Rattle.go_ast.proofs.laws.one_verdict.Goals as goal

pub returns : goal.returns
returns c = λ ts v w a b. one_verdict ts v w a b
