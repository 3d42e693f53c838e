-- The answers to the goals of `may_use::may_use`.
use Rattle.refs_uses.proofs.may_use.may_use.Goals as goal

pub may_use_other-requires-clause-importing : goal.may_use_other-requires-clause-importing
may_use_other-requires-clause-importing c = c.requires.importing c.in-Some.home c.in-Some.is
