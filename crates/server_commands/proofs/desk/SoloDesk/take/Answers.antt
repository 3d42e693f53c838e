-- The Job that is handed out has the inputs of its package in the current files, which the Take leaves.
use Rattle.std.proofs.Common.{Result, Ok, Err, IfOk, sym, subst}
use Rattle.base_files.specs.declared.refusal.Refusal.{Refusal}
use Rattle.build_unit.specs.Inputs.{AreInputs}
use Rattle.build_unit.specs.declared.job.JobRecord.{JobRecord}
use Rattle.history_machine.specs.Machine.{Content, Machine}
use Rattle.history_machine.specs.Step.{Step, taken}
use Rattle.history_machine.specs.declared.event.Event.TheVariants.{Take}
use Rattle.server_commands.proofs.desk.SoloDesk.take.Goals as goal

brought : (old new : Machine) (answer : Result JobRecord Refusal) → Step old Take (taken answer) new →
    IfOk answer (λ job. AreInputs new.current.files job.package job.inputs)
brought old new (Ok job) step = subst (λ (c : Content). AreInputs c.current.files job.package job.inputs) (sym step.1.1) step.1.0.inputs
brought old new (Err refusal) step = tt

pub returns-clause-brings : goal.returns-clause-brings
returns-clause-brings c = brought c.self.inside.book c.step.new.self c.step.result c.step.ensures
