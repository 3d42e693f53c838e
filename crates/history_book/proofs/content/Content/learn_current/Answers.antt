-- What is shared is what was known of the current files, and what was found in them.
use Rattle.std.proofs.Common.{sym, subst}
use Rattle.workspace_check.specs.Found.{KnowsVerdicts}
use Rattle.history_machine.specs.Machine.{Content}
use Rattle.history_machine.specs.State.{State}
use Rattle.history_book.proofs.content.Content.learn_current.Goals as goal

pub with_found-requires : goal.with_found-requires
with_found-requires c = record {
  own = c.current.invariant.1;
  found = subst (λ (s : State). KnowsVerdicts s.files c.args.found) (sym c.current.view_is)
      (subst (λ (m : Content). KnowsVerdicts m.current.files c.args.found) (sym c.self.view_is) c.requires);
}

pub learn_own-requires : goal.learn_own-requires
learn_own-requires c = subst (λ (s : State). KnowsVerdicts s.files c.in-Ok.known) c.current.view_is c.in-Ok.ensures
