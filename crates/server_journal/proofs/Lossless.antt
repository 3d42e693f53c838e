-- What a store holds, from the bytes from which a book was recovered, and back to a book.
use Rattle.std.proofs.Common.{◌≡◌, ◌+◌, ◌<◌, ℕ, Bool, false, List, [], ◌∷◌, ◌++◌, Option, Some}
use Rattle.std.proofs.Common.{None, append_assoc, drop, length, length-append, slice_index_or, take, refl, sym, ap, subst, inl, inr, ◌∙◌, arith}
use mathlib.Core.HLevel.{⊥_prop}
use mathlib.Core.Logic.{∥∥₁_elim}
use Rattle.std.specs.Prelude.{◌⊎◌}
use Rattle.std.specs.Coded.{Coded, Coded-set, codes}
use Rattle.std.specs.List.{AllByRecursion}
use Rattle.std.proofs.lemmas.List.{append-nil, take-append-le, take_all}
use Rattle.std.proofs.lemmas.Option.{none-some, same_Some}
use Rattle.base_files.specs.declared.limits.Limits.{Limits}
use Rattle.build_unit.specs.Codes.{workspace_code}
use Rattle.history_machine.specs.Machine.{Machine, content}
use Rattle.history_records.specs.Encoded.{AreBytesOf}
use Rattle.history_records.specs.Records.{FitsRecord, HasRecords, IsCutShort, record_bytes, records_bytes}
use Rattle.history_records.specs.declared.change.KeptChange.{KeptChange}
use Rattle.history_records.proofs.Coded.{all_more}
use Rattle.history_records.proofs.Heads.{record_length}
use Rattle.history_records.proofs.RecordLaws.{records_are_found}
use Rattle.law_changes.specs.Changes.{HasChanges, KeptStates, states_kept}
use Rattle.law_changes.proofs.Made.{same_changes_same_states}
use Rattle.server_journal.specs.Beginning.{BeginsToKeep}
use Rattle.server_journal.specs.Keeping.{KeepsChanges}
use Rattle.server_journal.specs.Laws.{NothingIsLost, UnansweredIsFit}
use Rattle.server_journal.specs.Opened.{HasNoBook, IsRecoveredFrom}
use Rattle.server_journal.specs.Recovered.{AreRecordedChanges, IsPossible, IsRecovered, StopsAt}
use Rattle.server_journal.specs.Stores.{Grows, Returns}
use Rattle.server_journal.proofs.KeptLaws.{records_more}
use Rattle.server_journal.proofs.Opening.{same_records}
use Rattle.server_journal.proofs.Recovering.{one_list, stops}

-- ---- bytes that begin with records

-- the bytes are those of the records, and of what stands behind them
records_first : (records : List (List ℕ)) (bytes torn : List ℕ) → HasRecords bytes records torn → bytes ≡ records_bytes records ++ torn
records_first [] bytes torn has = has.0
records_first (held ∷ records) bytes torn has =
    has.1.1 ∙ ap (λ (x : List ℕ). record_bytes held ++ x) (records_first records has.0 torn has.2)
    ∙ sym (append_assoc (record_bytes held) (records_bytes records) torn)

all_fit : (records : List (List ℕ)) (bytes torn : List ℕ) → HasRecords bytes records torn → AllByRecursion FitsRecord records
all_fit [] bytes torn has = tt
all_fit (held ∷ records) bytes torn has = (has.1.0, all_fit records has.0 torn has.2)

records_long : (records : List (List ℕ)) (bytes torn : List ℕ) (whole : ℕ) → HasRecords bytes records torn → whole + length torn ≡ length bytes →
    length (records_bytes records) ≡ whole
records_long records bytes torn whole has all =
    omega (arith, all, ap length (records_first records bytes torn has), length-append (records_bytes records) torn)

records_taken : (records : List (List ℕ)) (bytes torn : List ℕ) (whole : ℕ) → HasRecords bytes records torn → whole + length torn ≡ length bytes →
    take whole bytes ≡ records_bytes records
records_taken records bytes torn whole has all =
    let long = records_long records bytes torn whole has all in
    ap (λ (x : List ℕ). take whole x) (records_first records bytes torn has) ∙ take-append-le whole (records_bytes records) torn (omega (arith, long))
    ∙ take_all whole (records_bytes records) (omega (arith, long))

-- ---- a store begins to keep records

module _ (heading : List ℕ) (limits : Limits) (bytes : List ℕ) (book : Machine) where
  behind_records : (records : List (List ℕ)) (torn : List ℕ) (whole : ℕ) → 0 < whole → HasRecords bytes records torn → whole + length torn ≡ length bytes →
      IsRecoveredFrom limits heading records book → KeepsChanges heading limits (Some (take whole bytes)) false book
  behind_records [] torn whole some has all recovered = absurd (omega (arith, some, records_long [] bytes torn whole has all))
  behind_records (first ∷ records) torn whole some has all recovered =
      let same : take whole bytes ≡ records_bytes (heading ∷ records) =
      records_taken (first ∷ records) bytes torn whole has all ∙ ap (λ (x : List ℕ). records_bytes (x ∷ records)) recovered.0 in (
        recovered.1.0,
        (
          records,
          recovered.1.1,
          subst (λ (x : List ℕ). AllByRecursion FitsRecord (x ∷ records)) recovered.0 (all_fit (first ∷ records) bytes torn has),
          same,
        ),
        recovered.1.2,
      )

  behind_none : (records : List (List ℕ)) (torn : List ℕ) (whole : ℕ) → whole ≡ 0 → HasRecords bytes records torn → whole + length torn ≡ length bytes →
      IsRecoveredFrom limits heading records book → FitsRecord heading → KeepsChanges heading limits (Some (record_bytes heading)) false book
  behind_none [] torn whole none has all recovered fits =
      (recovered.0, ([], recovered.1, (fits, tt), sym (append-nil (record_bytes heading))), recovered.2)
  behind_none (first ∷ records) torn whole none has all recovered fits =
      absurd (omega (arith, none, records_long (first ∷ records) bytes torn whole has all, record_length first (records_bytes records)))

pub begins_with_records : (heading : List ℕ) (whole : ℕ) (before after : Option (List ℕ)) (is_lost : Bool) → 0 < whole → is_lost ≡ false →
    Returns before whole after → BeginsToKeep heading whole before after is_lost
begins_with_records heading whole None after is_lost some unlost returns = λ limits bytes book held is.
    subst (λ (o : Option (List ℕ)). KeepsChanges heading limits o is_lost book) (sym returns)
    (subst (λ (b : Bool). KeepsChanges heading limits None b book) (sym unlost) tt)
begins_with_records heading whole (Some had) after is_lost some unlost returns = λ limits bytes book held is.
    subst (λ (o : Option (List ℕ)). KeepsChanges heading limits o is_lost book)
    (ap (λ (x : List ℕ). Some (take whole x)) (sym held) ∙ sym returns)
    (subst (λ (b : Bool). KeepsChanges heading limits (Some (take whole bytes)) b book) (sym unlost)
    (behind_records heading limits bytes book is.0 is.1 whole some is.2 is.4 is.5))

pub begins_with_heading : (heading : List ℕ) (whole : ℕ) (before mid after : Option (List ℕ)) (is_lost : Bool) → whole ≡ 0 → is_lost ≡ false →
    Returns before whole mid → Grows mid (record_bytes heading) after → FitsRecord heading → BeginsToKeep heading whole before after is_lost
begins_with_heading heading whole None None after is_lost none unlost returns grows fits = λ limits bytes book held is.
    subst (λ (o : Option (List ℕ)). KeepsChanges heading limits o is_lost book) (sym grows)
    (subst (λ (b : Bool). KeepsChanges heading limits None b book) (sym unlost) tt)
begins_with_heading heading whole None (Some mid) after is_lost none unlost returns grows fits = absurd (none-some mid (sym returns))
begins_with_heading heading whole (Some had) None after is_lost none unlost returns grows fits = absurd (none-some (take whole had) returns)
begins_with_heading heading whole (Some had) (Some mid) after is_lost none unlost returns grows fits = λ limits bytes book held is.
    let empty : mid ≡ [] = same_Some mid (take whole had) returns ∙ ap (λ (n : ℕ). take n had) none in
    subst (λ (o : Option (List ℕ)). KeepsChanges heading limits o is_lost book)
    (ap (λ (x : List ℕ). Some (x ++ record_bytes heading)) (sym empty) ∙ sym grows)
    (subst (λ (b : Bool). KeepsChanges heading limits (Some (record_bytes heading)) b book) (sym unlost)
    (behind_none heading limits bytes book is.0 is.1 whole none is.2 is.4 is.5 fits))

-- ---- nothing is lost

kept_states_code : Coded KeptStates
kept_states_code = hlevel (codes, workspace_code)

-- two books that were recovered from the same records have the same states
same_states : (limits : Limits) (records : List (List ℕ)) (book other : Machine) → IsRecovered limits records book → IsRecovered limits records other →
    states_kept (content other) ≡ states_kept (content book)
same_states limits records book other one two =
    let same : two.0 ≡ one.0 = one_list records two.0 one.0 two.1 one.1 in
    let prop = Coded-set kept_states_code (states_kept (content other)) (states_kept (content book)) in
    ∥∥₁_elim one.2 prop (λ (h : HasChanges limits one.0 book).
    ∥∥₁_elim two.2 prop (λ (k : HasChanges limits two.0 other).
    same_changes_same_states limits one.0 other book (subst (λ (cs : List KeptChange). HasChanges limits cs other) same k) h))

pub nothing_is_lost : NothingIsLost
nothing_is_lost heading limits bytes torn book keeps none cut =
    let records = keeps.1.0 in
    let recovered : IsRecovered limits records book = (keeps.0, keeps.1.1, keeps.2) in
    let has : HasRecords (bytes ++ torn) (heading ∷ records) torn =
    subst (λ (x : List ℕ). HasRecords (x ++ torn) (heading ∷ records) torn) (sym keeps.1.3) (records_are_found (heading ∷ records) torn keeps.1.2 none) in (
      (heading ∷ records, torn, has, cut, sym (length-append bytes torn), (refl, recovered)),
      λ other whole is.
          let same = same_records (heading ∷ records) is.0 (bytes ++ torn) torn is.1 has is.2 in
          let from : IsRecoveredFrom limits heading (heading ∷ records) other =
          subst (λ (rs : List (List ℕ)). IsRecoveredFrom limits heading rs other) (sym same.0) is.5 in
          same_states limits records book other recovered from.1,
    )

-- ---- a change that was not answered yet

-- the last record is the one that is asked for, or it stands behind that one
last_or_before : (records front : List (List ℕ)) (held at : List ℕ) (rest : List (List ℕ)) → records ++ held ∷ [] ≡ front ++ at ∷ rest →
    ((records ≡ front) × (held ≡ at)) ⊎ ((later : List (List ℕ)) × (records ≡ front ++ at ∷ later))
last_or_before [] [] held at rest e = inl (refl, ap (λ (xs : List (List ℕ)). slice_index_or xs 0 held) e)
last_or_before [] (f ∷ front) held at rest e =
    absurd (omega (arith, ap length (ap (λ (xs : List (List ℕ)). drop 1 xs) e), length-append front (at ∷ rest)))
last_or_before (r ∷ records) [] held at rest e = inr (records, ap (λ (x : List ℕ). x ∷ records) (ap (λ (xs : List (List ℕ)). slice_index_or xs 0 r) e))
last_or_before (r ∷ records) (f ∷ front) held at rest e =
    let heads : r ≡ f = ap (λ (xs : List (List ℕ)). slice_index_or xs 0 r) e in
    elim (last_or_before records front held at rest (ap (λ (xs : List (List ℕ)). drop 1 xs) e)) [
      | inl last ↦ inl ((λ i. heads i ∷ last.0 i), last.1)
      | inr before ↦ inr (before.0, (λ i. heads i ∷ before.1 i))
    ]

goes_on : (limits : Limits) (records : List (List ℕ)) (held : List ℕ) (book : Machine) (change : KeptChange) → IsRecovered limits records book →
    IsPossible change (states_kept (content book)) → AreBytesOf held change → StopsAt limits (records ++ held ∷ []) → ⊥
goes_on limits records held book change is possible are at = elim (last_or_before records at.0 held at.1 at.2 at.4) [
  | inl last ↦
      let stopped : IsRecovered limits records at.3 = subst (λ (rs : List (List ℕ)). IsRecovered limits rs at.3) (sym last.0) at.5 in
      at.6 change (subst (λ (x : List ℕ). AreBytesOf x change) last.1 are)
      (subst (IsPossible change) (same_states limits records at.3 book stopped is) possible)
  | inr before ↦
      let parts : AreRecordedChanges (at.0 ++ at.1 ∷ before.0) is.0 =
      subst (λ (rs : List (List ℕ)). AreRecordedChanges rs is.0) before.1 is.1 in
      ∥∥₁_elim is.2 ⊥_prop (λ (has : HasChanges limits is.0 book). stops limits at.0 at.3 at.1 before.0 at.5 at.6 is.0 parts book has)
]

pub unanswered_is_fit : UnansweredIsFit
unanswered_is_fit heading limits bytes held torn book change keeps possible are fits none cut unfit =
    let records = keeps.1.0 in
    let recovered : IsRecovered limits records book = (keeps.0, keeps.1.1, keeps.2) in
    let all = heading ∷ (records ++ held ∷ []) in
    let joined : records_bytes all ++ torn ≡ bytes ++ (record_bytes held ++ torn) =
    ap (λ (x : List ℕ). x ++ torn) (records_more (heading ∷ records) held ∙ ap (λ (x : List ℕ). x ++ record_bytes held) (sym keeps.1.3))
    ∙ append_assoc bytes (record_bytes held) torn in
    let has : HasRecords (bytes ++ (record_bytes held ++ torn)) all torn =
    subst (λ (x : List ℕ). HasRecords x all torn) joined
    (records_are_found all torn (all_more FitsRecord (heading ∷ records) held keeps.1.2 fits) none) in
    elim unfit [
      | inl damaged ↦ damaged.3 (subst IsCutShort (sym (same_records damaged.0 all _ damaged.1 torn damaged.2 has).1) cut)
      | inr lead ↦
          let same = same_records lead.0 all _ lead.1 torn lead.2 has in
          let stops_here : HasNoBook limits heading all = subst (λ (rs : List (List ℕ)). HasNoBook limits heading rs) same.0 lead.3 in
          elim stops_here [
            | inl other ↦ other refl
            | inr at ↦ goes_on limits records held book change recovered possible are at
          ]
    ]
