-- The states move whatever the limits are and whichever Jobs are out, and the inverses lead to them still.
use Rattle.std.proofs.Common.{◌<◌, ◌+◌, ◌^◌, sym, subst, ◌∙◌}
use Rattle.history_book.specs.Histories.{content_of}
use Rattle.history_machine.specs.Machine.{Content}
use Rattle.history_machine.specs.Step.{AnswersOrLacks, done}
use Rattle.history_machine.specs.declared.event.Event.TheVariants.{Undo}
use Rattle.history_book.proofs.content.Content.undo.Goals as goal

pub undo-requires : goal.undo-requires
undo-requires c = record {
  visit = subst (λ (m : Content). m.visit + 1 < 2 ^ 64) (sym c.self.view_is) c.requires.visit;
  keeps = c.self.invariant.1;
}

pub invariant_of-self : goal.invariant_of-self
invariant_of-self c = (c.undo.ensures.depth ∙ c.self.invariant.0, c.undo.ensures.keeps, tt)

pub returns : goal.returns
returns c =
    let new = content_of c.undo.new.self c.self.inside.limits c.self.inside.out in
    subst (λ (m : Content). AnswersOrLacks m (Undo c.args.basis) (done c.undo.result) new) c.self.view_is
    (c.undo.ensures.moves c.self.inside.limits c.self.inside.out)
