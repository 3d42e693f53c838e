-- The first record is the heading, and the book is that of the others; without records it has no changes.
use Rattle.std.proofs.Common.{◌≡◌, ◌∷◌, ℕ, List, [], IfErr, IfOk, map, inl, sym, subst, ◌∙◌}
use Rattle.std.specs.Borrow.{Bor}
use Rattle.std.proofs.lemmas.Bool.{false≢true}
use Rattle.std.proofs.lemmas.List.{nil_from_length}
use Rattle.std.proofs.lemmas.Result.{IfErr-weaker, IfOk-weaker}
use Rattle.server_journal.specs.Opened.{FailsFrom, IsRecoveredFrom, of_recovery}
use Rattle.server_journal.specs.Recovered.{FailsToRecover, IsRecovered}
use Rattle.server_journal.specs.declared.opened.JournalFault.TheVariants.{Unfit}
use Rattle.server_journal.specs.declared.opened.TheConstants.{HEADING}
use Rattle.server_journal.specs.declared.repeating.RecoveryFault.{RecoveryFault}
use Rattle.server_journal.proofs.Opening.{fails_with_none, fails_with_some}
use Rattle.server_journal.proofs.opened.book_of.Goals as goal

abbrev held_of : List (Bor (List ℕ)) → List (List ℕ)
held_of xs = map (λ (h : Bor (List ℕ)). h.now) xs

pub returns-in_default-clause-ok : goal.returns-in_default-clause-ok
returns-in_default-clause-ok c =
    subst (λ (xs : List (Bor (List ℕ))). IfOk c.book_of_changes.result (IsRecoveredFrom c.args.limits HEADING.now (held_of xs)))
    (sym (nil_from_length c.args.held.now c.in_default.ensures.cases)) c.book_of_changes.ensures.ok

pub returns-in_default-clause-err : goal.returns-in_default-clause-err
returns-in_default-clause-err c =
    let limits = c.args.limits in
    subst (λ (xs : List (Bor (List ℕ))). IfErr c.book_of_changes.result (FailsFrom limits HEADING.now (held_of xs)))
    (sym (nil_from_length c.args.held.now c.in_default.ensures.cases))
    (IfErr-weaker c.book_of_changes.result
    (λ fault. (why : RecoveryFault) × (fault ≡ of_recovery why) × FailsToRecover limits (held_of []) why) (FailsFrom limits HEADING.now (held_of []))
    (λ fault f. subst (FailsFrom limits HEADING.now (held_of [])) (sym f.1) (fails_with_none limits HEADING.now f.0 f.2)) c.book_of_changes.ensures.err)

pub returns-then-not-is_heading-clause-err : goal.returns-then-not-is_heading-clause-err
returns-then-not-is_heading-clause-err c =
    subst (λ (xs : List (Bor (List ℕ))). FailsFrom c.args.limits HEADING.now (held_of xs) Unfit) (sym c.in-Some.ensures.cases.0)
    (inl (λ e. false≢true (sym c.if-not-is_heading.true ∙ c.is_heading.ensures.1 e)))

pub returns-clause-ok : goal.returns-clause-ok
returns-clause-ok c =
    let limits = c.args.limits in
    let changes = held_of c.in-Some.changes.now in
    subst (λ (xs : List (Bor (List ℕ))). IfOk c.book_of_changes-2.result (IsRecoveredFrom limits HEADING.now (held_of xs))) (sym c.in-Some.ensures.cases.0)
    (IfOk-weaker c.book_of_changes-2.result (IsRecovered limits changes)
    (λ book. (c.in-Some.heading.now.now ≡ HEADING.now) × IsRecovered limits changes book)
    (λ book is. (c.is_heading.ensures.0 c.if-not-is_heading.false, is)) c.book_of_changes-2.ensures.ok)

pub returns-clause-err : goal.returns-clause-err
returns-clause-err c =
    let limits = c.args.limits in
    let changes = held_of c.in-Some.changes.now in
    let first = c.in-Some.heading.now.now in
    subst (λ (xs : List (Bor (List ℕ))). IfErr c.book_of_changes-2.result (FailsFrom limits HEADING.now (held_of xs))) (sym c.in-Some.ensures.cases.0)
    (IfErr-weaker c.book_of_changes-2.result (λ fault. (why : RecoveryFault) × (fault ≡ of_recovery why) × FailsToRecover limits changes why)
    (FailsFrom limits HEADING.now (first ∷ changes))
    (λ fault f. subst (FailsFrom limits HEADING.now (first ∷ changes)) (sym f.1) (fails_with_some limits HEADING.now first changes f.0 f.2))
    c.book_of_changes-2.ensures.err)
