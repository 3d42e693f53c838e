-- The book that comes back is the one under the lock.
use Rattle.server_shared.proofs.shared.Shared.settle.Goals as goal

pub returns-clause-settled : goal.returns-clause-settled
returns-clause-settled g c = c.settle.ensures.settled
