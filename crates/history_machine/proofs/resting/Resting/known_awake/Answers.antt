-- What is shared was kept at rest, and is of these files.
use Rattle.std.proofs.Common.{sym, subst}
use Rattle.workspace_check.specs.Found.{KnowsVerdicts}
use Rattle.history_machine.proofs.resting.Resting.known_awake.Goals as goal

pub returns-then-lacks_none : goal.returns-then-lacks_none
returns-then-lacks_none c = subst (KnowsVerdicts c.args.files.now) (sym c.in_ok-known.ensures.cases) c.requires.known

pub beside_earlier-requires : goal.beside_earlier-requires
beside_earlier-requires c = subst (KnowsVerdicts c.args.files.now) (sym c.get-2.ensures) c.requires.known
