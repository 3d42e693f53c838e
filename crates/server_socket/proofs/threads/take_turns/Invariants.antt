-- So many sessions were held, and what the seat holds is accounted for.
use Rattle.server_shared.specs.Held.{WithHandedIn}
use Rattle.server_socket.specs.Session.{AccountsForMessages, HoldsSome}
use Rattle.server_socket.proofs.threads.take_turns.Given as goal

abbrev pub invariant-loop : goal.invariant-loop
invariant-loop g l = record {
  here : AccountsForMessages g.L.Opening.accounts g.L.Opening.most l.seat;
  held : WithHandedIn (HoldsSome g.L.Opening.most) l.fn.seat l.seat;
}
