-- The answers to the goals of `balance::balanced_code_runs`.
use Rattle.std.proofs.Common.{sym, ◌∙◌}
use Rattle.law_faultless.proofs.Machine.{one_height, always_ready}
use Rattle.law_faultless.proofs.balance.balanced_code_runs.Goals as goal

pub returns-clause-height : goal.returns-clause-height
returns-clause-height c = λ arity lines before after b i h k r s. one_height arity lines before after b r ∙ sym (one_height arity lines before after b s)

pub returns-clause-ready : goal.returns-clause-ready
returns-clause-ready c = λ arity lines before after b i h l r e. always_ready arity lines before after b i h l r e
