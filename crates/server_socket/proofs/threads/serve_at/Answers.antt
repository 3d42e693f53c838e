-- Sessions were held at a seat at which sessions alone had been held.
use Rattle.server_socket.proofs.ReturnedLaws.{served_more}
use Rattle.server_socket.proofs.threads.serve_at.Goals as goal

pub invariant_of-result : goal.invariant_of-result
invariant_of-result g c = record {
  served = served_more g.L.Opening.most c.args.held.seat c.take_turns.new.seat c.args.held.served c.take_turns.ensures.held;
  fresh = c.args.held.fresh;
  here = c.take_turns.ensures.here;
}
