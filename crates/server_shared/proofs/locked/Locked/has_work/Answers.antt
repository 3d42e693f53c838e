-- A worker may take a Job where it was not stopped and a Take has one.
use Rattle.std.proofs.Common.{sym, ◌∙◌}
use Rattle.std.proofs.lemmas.Bool.{false≢true}
use Rattle.server_shared.proofs.locked.Locked.has_work.Goals as goal

pub returns-then-self : goal.returns-then-self
returns-then-self g c = (λ e. absurd (false≢true e), λ has. absurd (false≢true (sym has.0 ∙ c.if-self.true)))

pub returns : goal.returns
returns g c = (λ e. (c.if-self.false, c.has_job.ensures.0 e), λ has. c.has_job.ensures.1 has.1)
