-- One session more.
use Rattle.server_socket.proofs.SessionLaws.{held_more, none_held}
use Rattle.server_socket.proofs.threads.take_turns.Goals as goal

pub loop-init : goal.loop-init
loop-init g c = record { here = c.requires.here; held = none_held g.L.Opening.most c.args.seat.now }

pub loop-preserved : goal.loop-preserved
loop-preserved g c = record {
  here = c.serve_connection-ended.ensures.here;
  held = held_more g.L.Opening.most c.args.seat.now c.loop.seat c.serve_connection-ended.new.seat c.serve_connection-ended.result
      c.loop.invariant.held c.serve_connection-ended.ensures.held;
}
