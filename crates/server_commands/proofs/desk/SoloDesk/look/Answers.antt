-- The files that a look shows are current after it.
use Rattle.std.proofs.Common.{◌≡◌, Result, Ok, Err, IfOk, sym, ap, ◌∙◌}
use Rattle.base_files.specs.declared.refusal.Refusal.{Refusal}
use Rattle.history_machine.specs.Machine.{Content, Machine}
use Rattle.history_machine.specs.Step.{Step, looked}
use Rattle.history_machine.specs.declared.event.Event.TheVariants.{Look}
use Rattle.history_machine.specs.declared.view.View.{View}
use Rattle.server_commands.proofs.desk.SoloDesk.look.Goals as goal

shown : (old new : Machine) (answer : Result View Refusal) → Step old Look (looked answer) new → IfOk answer (λ view. view.snapshot.files ≡ new.current.files)
shown old new (Ok view) step = ap (λ (v : View). v.snapshot.files) step.1.0.0 ∙ ap (λ (c : Content). c.current.files) (sym step.1.1)
shown old new (Err refusal) step = tt

pub returns-clause-sees : goal.returns-clause-sees
returns-clause-sees c = shown c.self.inside.book c.step.new.self c.step.result c.step.ensures
