-- The verdicts that are taken in are those that were found.
use Rattle.std.proofs.Common.{sym, subst}
use Rattle.workspace_check.specs.Found.{AreVerdictsOf}
use Rattle.build_carry.proofs.judging.learn_at.Goals as goal

pub take_in_each-requires-clause-found : goal.take_in_each-requires-clause-found
take_in_each-requires-clause-found c = subst (AreVerdictsOf c.args.files.now) (sym c.as_slice.ensures.value) c.in_ok-found.ensures
