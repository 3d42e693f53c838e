-- The answers to the goals of `laws::one_declaration_by_package`.
use Rattle.refs_binding.proofs.Excluding.{one_by_package}
use Rattle.refs_lookup.proofs.laws.one_declaration_by_package.Goals as goal

pub returns : goal.returns
returns c = λ w known p is u d e a b. one_by_package w known p is u d e a b
