-- What was answered at the desk, as it is seen at the seat that the desk holds.
use Rattle.std.proofs.Common.{None, rules, refl}
use Rattle.server_socket.specs.SeatStep.{CallsAtSeat}
use Rattle.server_socket.specs.SeatWait.{WaitsUntilBuilt}
use Rattle.server_socket.proofs.Lifts.{next_lifted, one_lifted}
use Rattle.server_socket.proofs.session.answer_at_desk.Goals as goal

pub returns-clause-next : goal.returns-clause-next
returns-clause-next g c = next_lifted _ _ (CallsAtSeat g.L.Opening.most) (WaitsUntilBuilt g.L.Opening.most) (λ d. d.seat.ghost_name) (λ d. d.seat.now) (λ
    old asked reply new h. h) (λ old told new h. h)
    c.args.limits.now (g.S.ByteSource.remaining c.args.source.now) (g.S.ByteSource.remaining c.answer_next.new.source)
    (g.T.Sink.contents c.args.sink.now) (g.T.Sink.contents c.answer_next.new.sink)
    (record {
      rt = c.args.rt;
      shared = c.args.shared;
      seat = record { ref_ptr = c.args.seat.ref_ptr; ghost_name = _; now = c.args.seat.now };
      seen = record { ref_ptr = _; ghost_name = _; now = None };
    })
    c.answer_next.new.desk _ _ c.answer_next.result refl (search rules) c.answer_next.ensures.next

pub returns-clause-answers : goal.returns-clause-answers
returns-clause-answers g c = one_lifted _ _ (CallsAtSeat g.L.Opening.most) (WaitsUntilBuilt g.L.Opening.most) (λ d. d.seat.ghost_name) (λ d. d.seat.now) (λ
    old asked reply new h. h) (λ old told new h. h)
    c.args.limits.now
    (record {
      rt = c.args.rt;
      shared = c.args.shared;
      seat = record { ref_ptr = c.args.seat.ref_ptr; ghost_name = _; now = c.args.seat.now };
      seen = record { ref_ptr = _; ghost_name = _; now = None };
    })
    c.answer_next.new.desk _ _ refl (search rules) c.answer_next.ensures.answers
