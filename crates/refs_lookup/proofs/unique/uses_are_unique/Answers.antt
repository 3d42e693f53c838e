-- The answers to the goals of `laws::uses_are_unique`.
use Rattle.refs_lookup.proofs.OneList.{one_list, one_answer}
use Rattle.refs_lookup.proofs.unique.uses_are_unique.Goals as goal

pub returns : goal.returns
returns c = record {
  lists = (λ w path offset xs ys h k. one_list w path offset xs ys h k);
  answers = (λ w path offset r s h k fine also. one_answer w path offset r s h k fine also);
}
