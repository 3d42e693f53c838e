-- The states move whatever the limits are and whichever Jobs are out, and the inverses lead to them still.
use Rattle.std.proofs.Common.{◌<◌, ◌+◌, ◌^◌, sym, subst, ◌∙◌}
use Rattle.history_book.specs.Histories.{content_of}
use Rattle.history_machine.specs.Machine.{Content}
use Rattle.history_machine.specs.Step.{AnswersOrLacks, done}
use Rattle.history_machine.specs.declared.event.Event.TheVariants.{Redo}
use Rattle.history_book.proofs.content.Content.redo.Goals as goal

pub redo-requires : goal.redo-requires
redo-requires c = record {
  visit = subst (λ (m : Content). m.visit + 1 < 2 ^ 64) (sym c.self.view_is) c.requires.visit;
  keeps = c.self.invariant.1;
}

pub invariant_of-self : goal.invariant_of-self
invariant_of-self c = (c.redo.ensures.depth ∙ c.self.invariant.0, c.redo.ensures.keeps, tt)

pub returns : goal.returns
returns c =
    let new = content_of c.redo.new.self c.self.inside.limits c.self.inside.out in
    subst (λ (m : Content). AnswersOrLacks m (Redo c.args.basis) (done c.redo.result) new) c.self.view_is
    (c.redo.ensures.moves c.self.inside.limits c.self.inside.out)
