-- The answers to the goals of `laws::one_declaration_by_scope`.
use Rattle.workspace_check.proofs.OnePackage.{layout_formed}
use Rattle.refs_binding.proofs.Excluding.{one_by_scope}
use Rattle.refs_lookup.proofs.laws.one_declaration_by_scope.Goals as goal

pub returns : goal.returns
returns c = λ w known p is u d e a b. one_by_scope p (layout_formed w known p.path p is.is_checked) u d e a b
