-- What was learned is of the state's own files.
use Rattle.history_machine.proofs.state.State.learn.Goals as goal

pub learned_from-requires : goal.learned_from-requires
learned_from-requires c = record { own = c.self.invariant.1; found = c.requires }

pub invariant_of-self : goal.invariant_of-self
invariant_of-self c = (c.self.invariant.0, c.in-Ok.ensures.right)
