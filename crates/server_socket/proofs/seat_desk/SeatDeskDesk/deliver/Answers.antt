-- The delivery is one call at the seat.
use Rattle.std.proofs.Common.{rules}
use Rattle.server_socket.proofs.seat_desk.SeatDeskDesk.deliver.Goals as goal

pub returns : goal.returns
returns g c = (search rules, (c.deliver-answer.result.1, c.deliver-answer.ensures.receipt))
