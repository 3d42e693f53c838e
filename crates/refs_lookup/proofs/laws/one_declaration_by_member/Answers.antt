-- The answers to the goals of `laws::one_declaration_by_member`.
use Rattle.refs_lookup.proofs.UsedMembers.{one_member}
use Rattle.refs_lookup.proofs.laws.one_declaration_by_member.Goals as goal

pub returns : goal.returns
returns c = λ w known p is u d e a b. one_member w known p.path p is.is_checked (p.layout.place u).file (p.layout.place u).index d e a b
