-- What was found is of the state's own files.
use Rattle.std.proofs.Common.{sym, subst}
use Rattle.workspace_check.specs.Found.{KnowsVerdicts}
use Rattle.history_machine.specs.State.{State}
use Rattle.history_machine.proofs.state.State.learn_own.Goals as goal

pub invariant_of-self : goal.invariant_of-self
invariant_of-self c = (c.self.invariant.0, subst (λ (x : State). KnowsVerdicts x.files c.args.known) (sym c.self.view_is) c.requires)
