-- The answers to the goals of `laws::one_declaration`.
use Rattle.refs_lookup.proofs.OneDeclaration as proof
use Rattle.refs_lookup.proofs.unique.one_declaration.Goals as goal

pub returns : goal.returns
returns c = λ w known p is u stands d e a b. proof.one_declaration w known p is u stands d e a b
