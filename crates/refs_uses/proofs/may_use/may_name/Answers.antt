-- The answers to the goals of `may_use::may_name`.
use Rattle.refs_uses.proofs.may_use.may_name.Goals as goal

pub returns-then-may_be_exported : goal.returns-then-may_be_exported
returns-then-may_be_exported c = λ p is file token d m named. c.uses_name.ensures p is file token d m (λ name found. (named name found).0)

pub returns-else-may_be_exported : goal.returns-else-may_be_exported
returns-else-may_be_exported c = λ p is file token d m named. c.may_be_exported.ensures (λ name found. (named name found).1)
