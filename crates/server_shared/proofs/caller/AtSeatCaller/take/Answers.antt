-- The seat that the caller borrows takes the Job, and stays the caller's.
use Rattle.std.proofs.Common.{rules}
use Rattle.server_shared.proofs.TakeLaws.{option_more}
use Rattle.server_shared.proofs.caller.AtSeatCaller.take.Goals as goal

pub returns-clause-took : goal.returns-clause-took
returns-clause-took g c = option_more c.take.result (λ same. (search rules, same)) (λ answer called. ((search rules, called.0), called.1)) c.take.ensures.took
