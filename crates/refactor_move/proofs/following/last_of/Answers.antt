-- The answers to the goals of `following::last_of`.
use Rattle.refactor_move.proofs.Naming.{last_whole, last_behind}
use Rattle.refactor_move.proofs.following.last_of.Goals as goal

pub returns-in-None : goal.returns-in-None
returns-in-None c = last_whole c.args.path.now c.in-None.ensures.cases

pub returns-in-Some : goal.returns-in-Some
returns-in-Some c = last_behind c.args.path.now c.in-Some.field-0-0.now c.in-Some.last.now c.in-Some.ensures.cases
