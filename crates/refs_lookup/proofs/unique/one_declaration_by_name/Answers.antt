-- The answers to the goals of `laws::one_declaration_by_name`.
use Rattle.workspace_check.proofs.OnePackage.{files_in_order}
use Rattle.refs_lookup.proofs.BoundNamedMembers.{one_by_name}
use Rattle.refs_lookup.proofs.unique.one_declaration_by_name.Goals as goal

pub returns : goal.returns
returns c = λ w known p is u d e a b. one_by_name p (files_in_order w known p.path p is.is_checked) u d e a b
