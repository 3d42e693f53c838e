-- A session with the greatest limits is held.
use Rattle.std.proofs.Common.{refl}
use Rattle.server_socket.proofs.threads.serve_connection.Goals as goal

pub returns-clause-held : goal.returns-clause-held
returns-clause-held g c =
    let h = c.session_at_seat-ended.ensures.holds in
    (h.0, h.1, (_, refl, h.2))
