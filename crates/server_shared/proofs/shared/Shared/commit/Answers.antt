-- Without a receipt the book turned the commit away. With one, the Jobs in hand are counted on.
use Rattle.std.proofs.Common.{inr, rules, arith}
use Rattle.std.proofs.lemmas.Grind.{common_steps}
use Rattle.server_shared.proofs.HeldLaws.{held_on}
use Rattle.server_shared.proofs.shared.Shared.commit.Goals as goal

pub returns-in_default-clause-receipt : goal.returns-in_default-clause-receipt
returns-in_default-clause-receipt g c = (inr (rw c.in_default.is at c.commit_step-answer.ensures.step), search rules)

pub invariant_of-seat-2 : goal.invariant_of-seat-2
invariant_of-seat-2 g c =
    let held = held_on c.seat.inside.receipts.items c.reserve.new.receipts.items c.push_reserved.new.self.items c.in-Some.left c.seat.inside.jobs
    c.jobs_after-seat-inside.result c.seat.invariant.3 c.jobs_after-seat-inside.ensures.left c.reserve.ensures.items c.push_reserved.ensures.items in
    (search rules, grind (arith, common_steps), grind (arith, common_steps), held)
