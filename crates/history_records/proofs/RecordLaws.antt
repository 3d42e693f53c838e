-- Records in bytes: there is one first record at most, those that were written are found, and a cut leaves the first of them. A count that was
-- changed is damage.
use Rattle.std.proofs.Common.{◌≡◌, ◌≤◌, ℕ, List, [], ◌∷◌, ◌++◌, append_assoc, length, length-append}
use Rattle.std.proofs.Common.{take, drop, map, refl, sym, ap, subst, inl, inr, ◌∙◌, arith}
use Rattle.std.specs.Int.{to_le_bytes, w32}
use Rattle.std.specs.List.{AllByRecursion}
use Rattle.std.proofs.lemmas.Bool.{cases_lt}
use Rattle.std.proofs.lemmas.List.{drop_at, take_at, take-append-drop, length-take-le}
use Rattle.history_records.specs.Laws.{ChangedCountsAreDamage, CutsLeaveFirstRecords, DamageIsNotCut}
use Rattle.history_records.specs.Laws.{OneFirstRecord, RecordsAreFound, UnconfirmedCountsAreDamage, recounted}
use Rattle.history_records.specs.Records.{BeginsWith, FitsRecord, HasNoRecord, HasRecords, IsCutShort, IsDamaged}
use Rattle.history_records.specs.Records.{check_of, count_check_of, record_bytes, records_bytes}
use Rattle.history_records.proofs.Heads.{IsSplit, count_check_bytes, cut_of_record, no_confirmed}
use Rattle.history_records.proofs.Heads.{no_count_no_record, no_part, one_record, parts_same, record_length}

pub one_first_record : OneFirstRecord
one_first_record bytes one rest other more a b = one_record one rest other more a.0 b.0 (sym a.1 ∙ b.1)

pub records_are_found : RecordsAreFound
records_are_found [] torn fit none = (refl, none)
records_are_found (held ∷ written) torn fit none = (
  records_bytes written ++ torn,
  (fit.0, append_assoc (record_bytes held) (records_bytes written) torn),
  records_are_found written torn fit.1 none,
)

no_bytes : (held rest : List ℕ) → [] ≡ record_bytes held ++ rest → ⊥
no_bytes held rest e = omega (arith, ap length e, record_length held rest)

-- bytes that begin with a record, and those of the same beginning
within : (held rest bytes cut : List ℕ) → FitsRecord held → bytes ++ cut ≡ record_bytes held ++ rest → length (record_bytes held) ≤ length bytes →
    HasNoRecord bytes → ⊥
within held rest bytes cut fits whole long none =
    let n = length (record_bytes held) in
    let front = take n bytes in
    let parts = parts_same front (record_bytes held) (drop n bytes ++ cut) rest (length-take-le n bytes long)
    (sym (append_assoc front (drop n bytes) cut) ∙ ap (λ (x : List ℕ). x ++ cut) (take-append-drop n bytes) ∙ whole) in
    none held (drop n bytes) (fits, sym (take-append-drop n bytes) ∙ ap (λ (x : List ℕ). x ++ drop n bytes) parts.0)

-- what is left of written bytes is cut short, where it begins with no record
tail_is_cut : (written : List (List ℕ)) (bytes cut : List ℕ) → AllByRecursion FitsRecord written → bytes ++ cut ≡ records_bytes written → HasNoRecord bytes →
    IsCutShort bytes
tail_is_cut [] bytes cut fit whole none = inl (omega (arith, ap length whole, length-append bytes cut))
tail_is_cut (held ∷ written) bytes cut fit whole none = elim (cases_lt (length bytes) (length (record_bytes held))) [
  | inr long ↦ absurd (within held (records_bytes written) bytes cut fit.0 whole long none)
  | inl short ↦ cut_of_record held (records_bytes written) bytes cut fit.0 whole
      (omega (arith, short, record_length held [], length-append (record_bytes held) []))
]

pub cuts_leave_first_records : CutsLeaveFirstRecords
cuts_leave_first_records written [] bytes cut torn fit whole found =
    (written, refl, subst IsCutShort found.0 (tail_is_cut written bytes cut fit whole (subst HasNoRecord (sym found.0) found.1)))
cuts_leave_first_records [] (held ∷ found) bytes cut torn fit whole more =
    absurd (no_bytes held (more.0 ++ cut)
    (sym whole ∙ ap (λ (x : List ℕ). x ++ cut) more.1.1 ∙ append_assoc (record_bytes held) more.0 cut))
cuts_leave_first_records (first ∷ written) (held ∷ found) bytes cut torn fit whole more =
    let same = one_record held (more.0 ++ cut) first (records_bytes written) more.1.0 fit.0
    (sym (append_assoc (record_bytes held) more.0 cut) ∙ sym (ap (λ (x : List ℕ). x ++ cut) more.1.1) ∙ whole) in
    let rest = cuts_leave_first_records written found more.0 cut torn fit.1 same.1 more.2 in
    (rest.0, λ i. sym same.0 i ∷ rest.1 i, rest.2)

-- ---- damage

-- the records that were written, and behind them bytes that no crash leaves
written_then : (written : List (List ℕ)) (bytes : List ℕ) → AllByRecursion FitsRecord written → HasNoRecord bytes → ¬ (IsCutShort bytes) →
    IsDamaged (records_bytes written ++ bytes)
written_then written bytes fit none whole = (written, bytes, records_are_found written bytes fit none, whole)

pub unconfirmed_counts_are_damage : UnconfirmedCountsAreDamage
unconfirmed_counts_are_damage written bytes fit enough none other = written_then written bytes fit (no_count_no_record bytes none) (λ cut. elim cut [
  | inl few ↦ absurd (omega (arith, few, enough))
  | inr (inl part) ↦ no_part bytes none part
  | inr (inr zeros) ↦ other zeros
])

-- the parts of a record whose count was changed
recounted_parts : (count held behind : List ℕ) → recounted count held ++ behind ≡
    count ++ (count_check_of (to_le_bytes w32 (length held)) ++ ((check_of held ++ held) ++ behind))
recounted_parts count held behind =
    let check = count_check_of (to_le_bytes w32 (length held)) in
    append_assoc count (check ++ (check_of held ++ held)) behind ∙ ap (λ (x : List ℕ). count ++ x) (append_assoc check (check_of held ++ held) behind)

pub changed_counts_are_damage : ChangedCountsAreDamage
changed_counts_are_damage written count held behind fit four differs other =
    let check = count_check_of (to_le_bytes w32 (length held)) in
    let after = (check_of held ++ held) ++ behind in
    let bytes = recounted count held ++ behind in
    let split : IsSplit bytes count (check ++ after) check after = record {
      head_is = sym (ap (λ (x : List ℕ). take 4 x) (recounted_parts count held behind) ∙ take_at count (check ++ after) 4 four);
      checked_is = sym (ap (λ (x : List ℕ). drop 4 x) (recounted_parts count held behind) ∙ drop_at count (check ++ after) 4 four);
      found_is = sym (take_at check after 4 (count_check_bytes (to_le_bytes w32 (length held))));
      behind_is = sym (drop_at check after 4 (count_check_bytes (to_le_bytes w32 (length held))));
    } in
    let long : 8 ≤ length bytes = omega (
      arith,
      ap length (recounted_parts count held behind),
      length-append count (check ++ after),
      length-append check after,
      four,
      count_check_bytes (to_le_bytes w32 (length held)),
    ) in
    unconfirmed_counts_are_damage written bytes fit long (no_confirmed bytes count (check ++ after) check after split (λ e. differs (sym e))) other

-- the same bytes stand behind the records with which bytes begin
same_torn : (bytes : List ℕ) (found others : List (List ℕ)) (torn left : List ℕ) → HasRecords bytes found torn → HasRecords bytes others left → torn ≡ left
same_torn bytes [] [] torn left has also = sym has.0 ∙ also.0
same_torn bytes [] (other ∷ others) torn left has also = absurd (has.1 other also.0 (subst (λ (x : List ℕ). BeginsWith x other also.0) has.0 also.1))
same_torn bytes (one ∷ found) [] torn left has also = absurd (also.1 one has.0 (subst (λ (x : List ℕ). BeginsWith x one has.0) also.0 has.1))
same_torn bytes (one ∷ found) (other ∷ others) torn left has also =
    let same = one_first_record bytes one has.0 other also.0 has.1 also.1 in
    same_torn has.0 found others torn left has.2 (subst (λ (x : List ℕ). HasRecords x others left) (sym same.1) also.2)

pub damage_is_not_cut : DamageIsNotCut
damage_is_not_cut bytes found damaged are =
    let same = same_torn bytes (map (λ held. held.now) found.held.items) damaged.0 are.0 damaged.1 are.1 damaged.2 in
    damaged.3 (subst IsCutShort same are.3)
