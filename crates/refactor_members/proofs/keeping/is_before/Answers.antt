-- The answers to the goals of `keeping::is_before`.
use Rattle.std.proofs.Common.{ap, ◌∙◌}
use Rattle.std.specs.Ordering.{is_lt}
use Rattle.refactor_conflict.proofs.KeepingFirst.{ahead_of_none, ahead_of_some}
use Rattle.refactor_members.proofs.keeping.is_before.Goals as goal

pub returns-in-None : goal.returns-in-None
returns-in-None c = ahead_of_none c.args.first.now c.args.place.now c.in-None.is

pub returns-in-Some : goal.returns-in-Some
returns-in-Some c = ahead_of_some c.args.first.now c.in-Some.conflict c.args.place.now c.in-Some.is c.is_lt.result
    (c.is_lt.ensures ∙ ap is_lt c.compare.ensures)
