-- Without a receipt the book turned the Take away. With one, the Jobs in hand are counted on.
use Rattle.std.proofs.Common.{Some, refl, rules, arith}
use Rattle.std.proofs.lemmas.Grind.{common_steps}
use Rattle.server_shared.proofs.HeldLaws.{held_on}
use Rattle.server_shared.proofs.shared.Shared.take.Goals as goal

pub invariant_of-seat-2 : goal.invariant_of-seat-2
invariant_of-seat-2 g c =
    let held = held_on c.seat.inside.receipts.items c.reserve.new.receipts.items c.push_reserved.new.self.items c.in-Some.gained c.seat.inside.jobs
    c.jobs_after-seat-inside.result c.seat.invariant.3 c.jobs_after-seat-inside.ensures.left c.reserve.ensures.items c.push_reserved.ensures.items in
    (search rules, grind (arith, common_steps), grind (arith, common_steps), held)

pub returns-clause-took : goal.returns-clause-took
returns-clause-took g c =
    let took = c.in_ok-answer.ensures.step in
    ((Some c.in-Some.gained.index, (c.in-Some.gained, refl, rw c.in-Some.is at took.0, search rules)), took.1)
