-- The threads may take their seats and what they are lent.
use denote.Exit.{no}
use mir.Syntax.{named}
use denote.Param.{param}
use denote.Param.Send.{sendable, param_send, arg_send, shr_send}
use Rattle.std.proofs.Crossing.{send as Global-send}
use Rattle.server_socket.proofs.Captures.{five_sent}
use Rattle.server_socket.proofs.SeatsSent.{session_seat_sent}
use Rattle.server_shared.proofs.Sends.{shared_shared}
use Rattle.server_socket.proofs.turns.Turns.TheSendSync.{the_sync as turns-sync}
use Rattle.server_socket.proofs.threads.fn.serve_sessions.scope.Lts.{arg-10-1}
use Rattle.server_socket.proofs.threads.fn.serve_sessions.scope.Goals as goal

pub spawn_scoped-requires-send-F : goal.spawn_scoped-requires-send-F
spawn_scoped-requires-send-F g c = λ κs outlived. param_send 1
    (arg-10-1 g.row.L g.row.R g.L.laws g.R.laws g.L.Opening g.L.Opening-dict g.L.Ledger g.L.Ledger-dict g.L.LogName g.L.LogName-dict
    g.R.Threads g.R.Threads-dict g.R.Wait g.R.Wait-dict g.R.Clock g.R.Clock-dict κs)
    (arg_send _ no _ (five_sent _ _ _ _ _ _
    (shr_send (named 5) κs.1.1.1.1.1.0 (param 1 g.row.R) (search sendable))
    Global-send
    (shr_send (named 6) κs.1.1.1.1.1.1.0 _ (shared_shared (param 0 g.row.L) g.L.Opening g.L.Ledger g.L.LogName))
    (session_seat_sent (param 0 g.row.L) g.L.Opening g.L.Ledger g.L.LogName)
    (shr_send (named 7) κs.1.1.1.1.1.1.1.0 _ turns-sync)))
