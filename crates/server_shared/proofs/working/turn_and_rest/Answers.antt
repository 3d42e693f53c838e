-- The receipts of the turn are accounted for, and handed in or kept.
use Rattle.std.proofs.Common.{refl}
use Rattle.server_shared.proofs.ShiftLaws.{rested_accounts, turn_accounts}
use Rattle.server_shared.proofs.working.turn_and_rest.Goals as goal

pub hand_in-requires : goal.hand_in-requires
hand_in-requires g c =
    let mid = c.turn_at_seat.new.seat in
    turn_accounts g.L.Opening.accounts g.L.Opening.most c.args.seat.now mid c.in_ok-turn.turn c.requires.here c.in_ok-turn.ensures mid (0, refl)

pub returns-clause-here : goal.returns-clause-here
returns-clause-here g c =
    let mid = c.turn_at_seat.new.seat in
    rested_accounts g.L.Opening.accounts g.L.Opening.most mid c.hand_in.new.seat c.requires.fresh
    (turn_accounts g.L.Opening.accounts g.L.Opening.most c.args.seat.now mid c.in_ok-turn.turn c.requires.here c.in_ok-turn.ensures) c.hand_in.ensures

pub returns-clause-turn : goal.returns-clause-turn
returns-clause-turn g c = (c.turn_at_seat.new.seat, c.in_ok-turn.ensures, c.hand_in.ensures)
