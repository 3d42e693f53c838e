-- Nothing was called at the seat yet.
use Rattle.std.proofs.Common.{List, subst, sym}
use Rattle.server_shared.specs.declared.receipt.Receipt.{Receipt}
use Rattle.server_shared.specs.Working.{AccountsForTurns}
use Rattle.server_socket.proofs.ReturnedLaws.{worked_none}
use Rattle.server_socket.proofs.held_seats.WorkerSeat.new.Goals as goal

pub invariant_of-result : goal.invariant_of-result
invariant_of-result g c = record {
  worked = worked_none g.L.Opening.most c.args.seat c.requires.none;
  fresh = c.requires.fresh;
  here = subst (λ (x : List Receipt). AccountsForTurns g.L.Opening.accounts g.L.Opening.most x) (sym c.requires.none) c.requires.fresh;
}
