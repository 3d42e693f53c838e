-- So many turns were taken, whose receipts were handed in or are still held. They are accounted for.
use Rattle.server_shared.specs.Working.{AccountsForTurns}
use Rattle.server_shared.proofs.ShiftLaws.{HaveTurned}
use Rattle.server_shared.proofs.working.worker.Given as goal

abbrev pub invariant-loop : goal.invariant-loop
invariant-loop g l = record {
  here : AccountsForTurns g.L.Opening.accounts g.L.Opening.most l.seat;
  turned : HaveTurned g.L.Opening.most l.fn.seat l.seat;
}
