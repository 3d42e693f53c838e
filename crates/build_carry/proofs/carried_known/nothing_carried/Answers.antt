-- Nothing is right of whatever workspace.
use Rattle.std.proofs.Common.{sym, subst}
use Rattle.workspace_check.specs.Found.{KnowsVerdicts}
use Rattle.build_carry.proofs.carried_known.nothing_carried.Goals as goal

pub returns-clause-units : goal.returns-clause-units
returns-clause-units c = c.in_ok-units.ensures

pub returns-clause-known : goal.returns-clause-known
returns-clause-known c = subst (KnowsVerdicts c.args.after.now) (sym c.in_ok-shared.ensures) (c.in_ok-nothing.ensures c.args.after.now)
