-- The delivery is one call at the seat that the caller borrows.
use Rattle.std.proofs.Common.{rules}
use Rattle.server_shared.proofs.caller.AtSeatCaller.deliver.Goals as goal

pub returns-clause-step : goal.returns-clause-step
returns-clause-step g c = (search rules, (c.deliver-answer.result.1, c.deliver-answer.ensures.receipt))
