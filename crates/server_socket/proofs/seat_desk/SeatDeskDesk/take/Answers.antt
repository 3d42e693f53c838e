-- The Job brings the inputs of its package in the last files that are seen.
use Rattle.std.proofs.Common.{rules}
use Rattle.server_socket.proofs.SeenAtDesk.{takes_seen}
use Rattle.server_socket.proofs.seat_desk.SeatDeskDesk.take.Goals as goal

pub returns-clause-brings : goal.returns-clause-brings
returns-clause-brings g c = takes_seen c.call_and_see-job.result.0 _ c.call_and_see-job.ensures.seen

pub returns-clause-step : goal.returns-clause-step
returns-clause-step g c = (search rules, (c.call_and_see-job.result.1, c.call_and_see-job.ensures.receipt))
