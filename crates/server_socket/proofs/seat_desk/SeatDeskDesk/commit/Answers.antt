-- What is seen ends with the change's files.
use Rattle.std.proofs.Common.{rules}
use Rattle.server_socket.proofs.SeenAtDesk.{commits_seen}
use Rattle.server_socket.proofs.seat_desk.SeatDeskDesk.commit.Goals as goal

pub returns-clause-sees : goal.returns-clause-sees
returns-clause-sees g c = commits_seen c.args.basis c.args.change c.commit-done.result.0 _ c.commit-done.ensures.seen

pub returns-clause-step : goal.returns-clause-step
returns-clause-step g c = (search rules, (c.commit-done.result.1, c.commit-done.ensures.receipt))
