-- The answers to the goals of `member_uses::expressions_ask_for_their_uses`.
use Rattle.law_changed_types.proofs.ExpressionUses.{expressions_ask}
use Rattle.law_changed_types.proofs.member_uses.expressions_ask_for_their_uses.Goals as goal

pub returns : goal.returns
returns c = expressions_ask
