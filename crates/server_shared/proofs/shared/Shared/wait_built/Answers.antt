-- One look, or none where the wait is refused. The Jobs in hand are counted on.
use Rattle.std.proofs.Common.{rules, arith}
use Rattle.std.proofs.lemmas.Grind.{common_steps}
use Rattle.server_shared.proofs.CallLaws.{waited_none, waited_once}
use Rattle.server_shared.proofs.HeldLaws.{held_on}
use Rattle.server_shared.proofs.shared.Shared.wait_built.Goals as goal

pub returns-in_default : goal.returns-in_default
returns-in_default g c =
    waited_none g.L.Opening.most c.args.seat.now c.look_built-shown.result.0 c.look_built-shown.result.1 _ c.in_default.is (search rules)
    c.look_built-shown.ensures.looked

pub returns : goal.returns
returns g c =
    waited_once g.L.Opening.most c.args.seat.now c.look_built-shown.result.0 c.look_built-shown.result.1 c.in-Some.looked _ c.in-Some.is
    (search rules) c.look_built-shown.ensures.looked

pub invariant_of-seat-2 : goal.invariant_of-seat-2
invariant_of-seat-2 g c =
    let held = held_on c.seat.inside.receipts.items c.reserve.new.receipts.items c.push_reserved.new.self.items c.in-Some.looked c.seat.inside.jobs
    c.jobs_after-seat-inside.result c.seat.invariant.3 c.jobs_after-seat-inside.ensures.left c.reserve.ensures.items c.push_reserved.ensures.items in
    (search rules, grind (arith, common_steps), grind (arith, common_steps), held)
