-- The answers to the goals of `laws::one_declaration_at_a_place`.
use Rattle.refs_lookup.proofs.OneDeclaration.{one_used, one_held}
use Rattle.refs_lookup.proofs.unique.one_declaration_at_a_place.Goals as goal

pub returns : goal.returns
returns c = record {
  begins = (λ w known place d e a b. one_used w known place d e a b);
  holds = (λ w known path offset d e a b. one_held w known path offset d e a b);
}
