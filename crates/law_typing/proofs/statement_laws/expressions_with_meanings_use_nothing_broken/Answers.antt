-- The answers to the goals of `statement_laws::expressions_with_meanings_use_nothing_broken`.
use Rattle.law_typing.proofs.Unbroken.{no_use}
use Rattle.law_typing.proofs.statement_laws.expressions_with_meanings_use_nothing_broken.Goals as goal

pub returns : goal.returns
returns c = λ w locals e m h u. no_use w locals u h
