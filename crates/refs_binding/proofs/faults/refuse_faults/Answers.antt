-- The answers to the goals of `faults::refuse_faults`.
use Rattle.std.proofs.Common.{refl}
use Rattle.refs_binding.proofs.Refusing.{refusal_first}
use Rattle.refs_binding.proofs.faults.refuse_faults.Goals as goal

pub returns-in-Err : goal.returns-in-Err
returns-in-Err c = refusal_first c.args.graph.now c.args.findings.now c.in-Err.refusal c.in-Err.ensures.first

pub returns-in-Ok : goal.returns-in-Ok
returns-in-Ok c = (c.in-Ok.ensures.sound, refl)
