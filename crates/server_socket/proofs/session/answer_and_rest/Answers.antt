-- The receipts of the message are accounted for, and handed in or kept.
use Rattle.server_socket.proofs.SessionLaws.{accounted, message_accounts, seat_accounts}
use Rattle.server_socket.proofs.session.answer_and_rest.Goals as goal

pub hand_in-requires : goal.hand_in-requires
hand_in-requires g c =
    let P = g.L.Opening.accounts in
    let mid = c.answer_at_desk-answered.new.seat in
    accounted P g.L.Opening.most mid
    (message_accounts P g.L.Opening.most c.args.seat.now mid c.requires.here c.answer_at_desk-answered.ensures.answers)

pub returns-clause-here : goal.returns-clause-here
returns-clause-here g c =
    let P = g.L.Opening.accounts in
    let mid = c.answer_at_desk-answered.new.seat in
    seat_accounts P g.L.Opening.most mid c.hand_in.new.seat c.requires.fresh
    (message_accounts P g.L.Opening.most c.args.seat.now mid c.requires.here c.answer_at_desk-answered.ensures.answers) c.hand_in.ensures

pub returns-clause-next : goal.returns-clause-next
returns-clause-next g c =
    (c.answer_at_desk-answered.new.seat, c.answer_at_desk-answered.ensures.next, c.answer_at_desk-answered.ensures.answers, c.hand_in.ensures)
