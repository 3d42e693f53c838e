-- What is seen ends with the files that the look shows.
use Rattle.std.proofs.Common.{rules}
use Rattle.server_socket.proofs.SeenAtDesk.{looks_seen}
use Rattle.server_socket.proofs.seat_desk.SeatDeskDesk.look_back.Goals as goal

pub returns-clause-sees : goal.returns-clause-sees
returns-clause-sees g c = looks_seen c.call_and_see-view.result.0 _ c.call_and_see-view.ensures.seen

pub returns-clause-step : goal.returns-clause-step
returns-clause-step g c = (search rules, (c.call_and_see-view.result.1, c.call_and_see-view.ensures.receipt))
