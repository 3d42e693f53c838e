-- The state after the change is the current one.
use Rattle.std.proofs.Common.{◌≡◌, ◌<◌, ◌+◌, ◌^◌, ℕ, Result, Ok, Err, refl, sym, ap, subst, ◌∙◌}
use Rattle.std.specs.Result.{IsErrAnd}
use Rattle.base_files.specs.declared.refusal.Refusal.{Refusal}
use Rattle.base_files.specs.declared.refusal.Refusal.TheVariants.{Memory}
use Rattle.base_files.specs.Workspace.{Workspace}
use Rattle.history_book.specs.Histories.{content_of}
use Rattle.base_edits.specs.EditSet.{FileChanges}
use Rattle.history_machine.specs.declared.event.Event.{Event}
use Rattle.history_machine.specs.declared.event.Event.TheVariants.{Commit}
use Rattle.history_machine.specs.declared.event.Reply.TheVariants.{Refused}
use Rattle.history_machine.specs.Machine.{Content, changed}
use Rattle.history_machine.specs.Step.{AnswersOrLacks, BringsJob, committed}
use Rattle.history_book.specs.Following.{IsStateAfter}
use Rattle.history_book.proofs.content.Content.admit.Goals as goal

-- want of memory for a change leaves everything as it was
lacking : (old new : Content) (event : Event) (r : Result (ℕ × FileChanges) Refusal) → (BringsJob event → ⊥) → IsErrAnd r (λ n. n ≡ Memory) →
    new ≡ old → AnswersOrLacks old event (committed r) new
lacking old new event (Ok made) alone lacks same = absurd lacks
lacking old new event (Err refusal) alone lacks same = subst (λ n. AnswersOrLacks old event (Refused n) new) (sym lacks) (alone, same)

pub advance-requires : goal.advance-requires
advance-requires c = record {
  next = subst (λ (m : Content). m.next + 1 < 2 ^ 64) (sym c.self.view_is) c.requires.numbers.next;
  visit = subst (λ (m : Content). m.visit + 1 < 2 ^ 64) (sym c.self.view_is) c.requires.numbers.visit;
  number = c.in_ok-state.ensures.state.numbered;
  back = c.in_ok-state.ensures.back;
  depth = c.self.invariant.0;
  keeps = c.self.invariant.1;
}

pub returns-clause-answer : goal.returns-clause-answer
returns-clause-answer c =
    let m = c.args.self.now in
    let state = c.in_ok-state.state in
    let after = subst (λ (x : Content). IsStateAfter x.current x.next c.args.change state) c.self.view_is c.in_ok-state.ensures.state in
    let new = content_of c.advance.new.self c.self.inside.limits c.self.inside.out in
    let gone = subst (λ (x : Content). new ≡ changed x state.files state.finished) c.self.view_is (c.in_ok-number.ensures.ok c.self.inside.out) in (
      ((refl, c.requires.base), after.made),
      c.in_ok-number.ensures.number ∙ ap (λ (x : Content). x.next) c.self.view_is,
      (
        state.finished,
        after.carried,
        subst (λ (w : Workspace). new ≡ changed m w state.finished) after.has_files gone,
      ),
    )

pub returns-in_err-number-clause-answer : goal.returns-in_err-number-clause-answer
returns-in_err-number-clause-answer c =
    let new = content_of c.advance.new.self c.self.inside.limits c.self.inside.out in
    let failed = c.from_residual-in_err-number in
    let same = c.in_err-number.ensures.err c.self.inside.limits c.self.inside.out ∙ c.self.view_is in
    lacking c.args.self.now new (Commit c.args.self.now.current.number c.args.change) failed.result (λ b. b) failed.ensures.1 same
