-- The turn of the caller, as it is seen at the seat that the caller holds.
use Rattle.std.proofs.Common.{◌≡◌, None, rules, refl}
use Rattle.server_shared.specs.Call.{CallsWith}
use Rattle.server_shared.proofs.WorkLaws.{turn_or_rest_shown}
use Rattle.server_shared.proofs.working.turn_at_seat.Goals as goal

pub returns : goal.returns
returns g c = turn_or_rest_shown _ (CallsWith g.L.Opening.most) (λ d. d.seat.ghost_name) (λ d. d.seat.now) (λ old event reply new h. h)
    (λ d e. (e.seat.ghost_name ≡ d.seat.ghost_name) × (e.seat.now ≡ d.seat.now)) (λ old new h. h)
    (record {
      rt = c.args.rt;
      shared = c.args.shared;
      seat = record { ref_ptr = c.args.seat.ref_ptr; ghost_name = _; now = c.args.seat.now };
      seen = record { ref_ptr = (0, 0); ghost_name = 0; now = None };
    })
    c.turn.result c.turn.new.caller c.turn.ensures _ _ refl (search rules)
