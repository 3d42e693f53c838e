-- A seat may go to the thread that owns it, and come back from there.
use denote.RattleType.{RattleType}
use denote.Param.Send.{IsSend, sendable}
use Rattle.std.specs.declared.sync.ledger.Ledger.{Ghosts as Ledger}
use Rattle.server_versions.specs.declared.versions.LogName.{Ghosts as LogName}
use Rattle.server_shared.specs.declared.opening.Opening.{Ghosts as Opening}
use Rattle.server_socket.specs.contracts.held_seats.SessionSeat.{the_row as session_seat}
use Rattle.server_socket.specs.contracts.held_seats.WorkerSeat.{the_row as worker_seat}
use Rattle.server_socket.proofs.held_seats.SessionSeat.TheSendSync.{the_send as SessionSeat-send}
use Rattle.server_socket.proofs.held_seats.WorkerSeat.TheSendSync.{the_send as WorkerSeat-send}

pub session_seat_sent : (L : RattleType) (o : Opening L.Denot) (l : Ledger L.Denot) (n : LogName L.Denot) → IsSend (session_seat L o n l)
session_seat_sent L o l n = search (sendable, SessionSeat-send) depth 30 fits 50000

pub worker_seat_sent : (L : RattleType) (o : Opening L.Denot) (l : Ledger L.Denot) (n : LogName L.Denot) → IsSend (worker_seat L o n l)
worker_seat_sent L o l n = search (sendable, WorkerSeat-send) depth 30 fits 50000
