-- The files of a change that is admitted are current after it.
use Rattle.std.proofs.Common.{◌≡◌, ℕ, Result, Ok, Err, IfOk, sym, ap}
use Rattle.base_files.specs.declared.refusal.Refusal.{Refusal}
use Rattle.workspace_snapshot.specs.declared.change.Change.{Change}
use Rattle.history_machine.specs.Machine.{Content, Machine}
use Rattle.history_machine.specs.Step.{Step, done}
use Rattle.history_machine.specs.declared.event.Event.TheVariants.{Commit}
use Rattle.server_commands.proofs.desk.SoloDesk.commit.Goals as goal

made : (old new : Machine) (basis : ℕ) (change : Change) (answer : Result ℕ Refusal) → Step old (Commit basis change) (done answer) new →
    IfOk answer (λ number. change.files ≡ new.current.files)
made old new basis change (Ok number) step = ap (λ (c : Content). c.current.files) (sym step.1.2.2)
made old new basis change (Err refusal) step = tt

pub returns-clause-sees : goal.returns-clause-sees
returns-clause-sees c =
    made c.self.inside.book c.commit_on_current-done.new.self c.args.basis c.args.change c.commit_on_current-done.result.0 c.commit_on_current-done.ensures.0
