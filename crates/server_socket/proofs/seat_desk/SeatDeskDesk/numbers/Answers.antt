-- The numbers are those of the book that is shared.
use Rattle.std.proofs.Common.{refl}
use Rattle.server_socket.proofs.ToldNumbers.{told_numbers}
use Rattle.server_socket.proofs.seat_desk.SeatDeskDesk.numbers.Goals as goal

pub returns-in-Ok : goal.returns-in-Ok
returns-in-Ok g c = (refl, (told_numbers g.L.Opening.most c.in-Ok.standing c.book_numbers.result c.in-Ok.ensures c.book_numbers.ensures, refl))
