-- The bytes of a journal, and the book to which they lead.
use Rattle.std.proofs.Common.{◌≡◌, ◌+◌, ℕ, List, [], ◌∷◌, length, length-append, refl, sym, ap, subst, inl, inr, ◌∙◌, arith}
use mathlib.Core.HLevel.{⊥_prop}
use mathlib.Core.Logic.{∥∥₁_elim}
use Rattle.base_files.specs.declared.limits.Limits.{Limits}
use Rattle.history_machine.specs.Machine.{Machine}
use Rattle.history_records.specs.Records.{BeginsWith, FailsToFind, HasRecords, IsCutShort}
use Rattle.history_records.specs.declared.reading.RecordsFault.{RecordsFault}
use Rattle.history_records.specs.declared.reading.RecordsFault.TheVariants as records
use Rattle.history_records.proofs.RecordLaws.{one_first_record}
use Rattle.law_changes.specs.Changes.{HasChanges}
use Rattle.server_journal.specs.Laws.{UnfitHasNoBook}
use Rattle.server_journal.specs.Opened.{FailsFrom, FailsToOpen, HasNoBook, IsBookIn, IsRecoveredFrom, of_records, of_recovery}
use Rattle.server_journal.specs.Recovered.{FailsToRecover, IsRecovered, StopsAt}
use Rattle.server_journal.specs.declared.opened.JournalFault.{JournalFault}
use Rattle.server_journal.specs.declared.opened.JournalFault.TheVariants.{Memory, Disk, InUse, Full, Unfit}
use Rattle.server_journal.specs.declared.repeating.RecoveryFault.{RecoveryFault}
use Rattle.server_journal.specs.declared.repeating.RecoveryFault.TheVariants as recovery
use Rattle.server_journal.proofs.Recovering.{stopped_has_no_history}

-- bytes begin with one list of records
pub same_records : (one other : List (List ℕ)) (bytes t u : List ℕ) → HasRecords bytes one t → HasRecords bytes other u → (one ≡ other) × (t ≡ u)
same_records [] [] bytes t u p q = (refl, sym p.0 ∙ q.0)
same_records [] (held ∷ other) bytes t u p q = absurd (p.1 held q.0 (subst (λ (x : List ℕ). BeginsWith x held q.0) p.0 q.1))
same_records (held ∷ one) [] bytes t u p q = absurd (q.1 held p.0 (subst (λ (x : List ℕ). BeginsWith x held p.0) q.0 p.1))
same_records (a ∷ one) (b ∷ other) bytes t u p q =
    let first = one_first_record bytes a p.0 b q.0 p.1 q.1 in
    let rest = same_records one other q.0 t u (subst (λ (x : List ℕ). HasRecords x one t) first.1 p.2) q.2 in
    ((λ i. first.0 i ∷ rest.0 i), rest.1)

module _ (limits : Limits) (heading : List ℕ) where
  -- ---- no book is recovered

  no_recovered : (rs : List (List ℕ)) → StopsAt limits rs → (book : Machine) → IsRecovered limits rs book → ⊥
  no_recovered rs at book is = ∥∥₁_elim is.2 ⊥_prop (λ (has : HasChanges limits is.0 book). stopped_has_no_history limits rs at is.0 is.1 book has)

  no_book : (rs : List (List ℕ)) → HasNoBook limits heading rs → (book : Machine) → IsRecoveredFrom limits heading rs book → ⊥
  no_book [] none book is = none
  no_book (first ∷ rs) none book is = elim none [
    | inl other ↦ other is.0
    | inr at ↦ no_recovered rs at book is.1
  ]

  at_none : StopsAt limits [] → ⊥
  at_none at = omega (arith, ap length at.4, length-append at.0 (at.1 ∷ at.2))

  pub fails_with_none : (why : RecoveryFault) → FailsToRecover limits [] why → FailsFrom limits heading [] (of_recovery why)
  fails_with_none recovery.Memory fails = tt
  fails_with_none recovery.Full fails = tt
  fails_with_none recovery.NoHistory fails = at_none fails

  pub fails_with_some : (first : List ℕ) (rs : List (List ℕ)) (why : RecoveryFault) → FailsToRecover limits rs why →
      FailsFrom limits heading (first ∷ rs) (of_recovery why)
  fails_with_some first rs recovery.Memory fails = tt
  fails_with_some first rs recovery.Full fails = tt
  fails_with_some first rs recovery.NoHistory fails = inr fails

  pub fails_by_records : (bytes : List ℕ) (why : RecordsFault) → FailsToFind bytes why → FailsToOpen limits heading bytes (of_records why)
  fails_by_records bytes records.Memory fails = tt
  fails_by_records bytes records.Damaged damaged = inl damaged

  pub fails_behind : (bytes : List ℕ) (rs : List (List ℕ)) (torn : List ℕ) (why : JournalFault) → HasRecords bytes rs torn →
      FailsFrom limits heading rs why → FailsToOpen limits heading bytes why
  fails_behind bytes rs torn Memory has fails = tt
  fails_behind bytes rs torn Full has fails = tt
  fails_behind bytes rs torn Unfit has fails = inr (rs, torn, has, fails)
  fails_behind bytes rs torn Disk has fails = fails
  fails_behind bytes rs torn InUse has fails = fails

  -- ---- a book is recovered

  pub book_is : (bytes : List ℕ) (rs : List (List ℕ)) (torn : List ℕ) (book : Machine) (whole n : ℕ) → HasRecords bytes rs torn → IsCutShort torn →
      n ≡ length torn → whole + n ≡ length bytes → IsRecoveredFrom limits heading rs book → IsBookIn limits heading bytes book whole
  book_is bytes rs torn book whole n has cut is all recovered = (rs, torn, has, cut, omega (arith, is, all), recovered)

pub unfit_has_no_book : UnfitHasNoBook
unfit_has_no_book limits heading bytes unfit book whole is = elim unfit [
  | inl damaged ↦
      let same = same_records damaged.0 is.0 bytes damaged.1 is.1 damaged.2 is.2 in
      damaged.3 (subst IsCutShort (sym same.1) is.3)
  | inr none ↦
      let same = same_records none.0 is.0 bytes none.1 is.1 none.2 is.2 in
      no_book limits heading none.0 none.3 book (subst (λ (rs : List (List ℕ)). IsRecoveredFrom limits heading rs book) (sym same.0) is.5)
]
