-- The end of a wait, as was found. The invariant of `Book` says what its events make of the opening content.
use Rattle.std.proofs.Common.{◌≡◌, ◌↔◌, IsTrue, length, refl, sym, subst, ◌∙◌}
use Rattle.std.proofs.lemmas.Bool.{false≢true}
use Rattle.history_machine.specs.Machine.{Machine, with_journal}
use Rattle.history_machine.specs.Chapters.{HasHistory}
use Rattle.history_book.specs.WorkLeft.{AreAllFinished}
use Rattle.history_book.proofs.book.Book.wait_end.Goals as goal

pub returns-then-has_all_finished-clause-end : goal.returns-then-has_all_finished-clause-end
returns-then-has_all_finished-clause-end c =
    subst (λ (x : Machine). AreAllFinished x.current) c.self.view_is (c.has_all_finished.ensures.0 c.if-has_all_finished.true)

pub returns-then-has_all_finished-clause-reached : goal.returns-then-has_all_finished-clause-reached
returns-then-has_all_finished-clause-reached c = subst (λ (x : Machine). ∥ HasHistory x ∥₁) c.self.view_is c.self.invariant.5

pub returns-then-not-has_no_job_out-clause-end : goal.returns-then-not-has_no_job_out-clause-end
returns-then-not-has_no_job_out-clause-end c =
    let m : Machine = with_journal c.self.inside.content c.self.inside.journal.items in
    let found : IsTrue c.has_all_finished.result ↔ AreAllFinished m.current = c.has_all_finished.ensures in
    let all = subst (λ (x : Machine). IsTrue c.has_all_finished.result ↔ AreAllFinished x.current) c.self.view_is found in
    let unfinished : AreAllFinished c.args.self.now.current → ⊥ = λ is. false≢true (sym c.if-has_all_finished.false ∙ all.1 is) in
    let none : IsTrue c.has_no_job_out.result ↔ (length m.out.jobs ≡ 0) = c.has_no_job_out.ensures in
    let jobs = subst (λ (x : Machine). IsTrue c.has_no_job_out.result ↔ (length x.out.jobs ≡ 0)) c.self.view_is none in
    (unfinished, λ stuck. false≢true (sym c.if-not-has_no_job_out.true ∙ jobs.1 stuck.2))

pub returns-then-not-has_no_job_out-clause-reached : goal.returns-then-not-has_no_job_out-clause-reached
returns-then-not-has_no_job_out-clause-reached c = subst (λ (x : Machine). ∥ HasHistory x ∥₁) c.self.view_is c.self.invariant.5

pub returns-then-not-has_room-clause-end : goal.returns-then-not-has_room-clause-end
returns-then-not-has_room-clause-end c =
    let m : Machine = with_journal c.self.inside.content c.self.inside.journal.items in
    let found : IsTrue c.has_all_finished.result ↔ AreAllFinished m.current = c.has_all_finished.ensures in
    let all = subst (λ (x : Machine). IsTrue c.has_all_finished.result ↔ AreAllFinished x.current) c.self.view_is found in
    let unfinished : AreAllFinished c.args.self.now.current → ⊥ = λ is. false≢true (sym c.if-has_all_finished.false ∙ all.1 is) in
    let none : IsTrue c.has_no_job_out.result ↔ (length m.out.jobs ≡ 0) = c.has_no_job_out.ensures in
    let jobs = subst (λ (x : Machine). IsTrue c.has_no_job_out.result ↔ (length x.out.jobs ≡ 0)) c.self.view_is none in
    (refl, (unfinished, λ room. false≢true (sym c.if-not-has_room.true ∙ c.has_room.ensures.1 room), jobs.0 c.if-not-has_no_job_out.false))

pub returns-then-not-has_room-clause-reached : goal.returns-then-not-has_room-clause-reached
returns-then-not-has_room-clause-reached c = subst (λ (x : Machine). ∥ HasHistory x ∥₁) c.self.view_is c.self.invariant.5

pub returns-clause-end : goal.returns-clause-end
returns-clause-end c =
    let m : Machine = with_journal c.self.inside.content c.self.inside.journal.items in
    let found : IsTrue c.has_all_finished.result ↔ AreAllFinished m.current = c.has_all_finished.ensures in
    let all = subst (λ (x : Machine). IsTrue c.has_all_finished.result ↔ AreAllFinished x.current) c.self.view_is found in
    let unfinished : AreAllFinished c.args.self.now.current → ⊥ = λ is. false≢true (sym c.if-has_all_finished.false ∙ all.1 is) in
    (unfinished, λ stuck. stuck.1 (c.has_room.ensures.0 c.if-not-has_room.false))

pub returns-clause-reached : goal.returns-clause-reached
returns-clause-reached c = subst (λ (x : Machine). ∥ HasHistory x ∥₁) c.self.view_is c.self.invariant.5
