-- A worker is to wait where it was not stopped and a Take has no Job.
use Rattle.std.proofs.Common.{sym, ◌∙◌}
use Rattle.std.proofs.lemmas.Bool.{false≢true}
use Rattle.server_shared.proofs.TakeLaws.{not_true, true_not}
use Rattle.server_shared.proofs.locked.Locked.is_idle.Goals as goal

pub returns-then-self : goal.returns-then-self
returns-then-self g c = (λ e. absurd (false≢true e), λ idle. absurd (false≢true (sym idle.0 ∙ c.if-self.true)))

pub returns : goal.returns
returns g c = (
  λ e. (c.if-self.false, λ has. not_true c.has_job.result e (c.has_job.ensures.1 has)),
  λ idle. true_not c.has_job.result (λ is. idle.1 (c.has_job.ensures.0 is)),
)
