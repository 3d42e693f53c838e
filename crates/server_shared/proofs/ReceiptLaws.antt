-- Receipts that are sorted by their indexes.
use Rattle.std.proofs.Common.{◌≡◌, ℕ, zero, suc, ◌+◌, ◌-◌, ◌<◌, ◌≤◌, Bool, true, false, List, [], ◌∷◌, inl, inr, length, slice_index_or, refl, sym, ◌∙◌, arith}
use Rattle.std.specs.Prelude.{IsTrue, ◌↔◌, nat_eq, nat_lt, All, IsPermutation}
use Rattle.std.specs.Cmp.{nat_eq_equiv}
use Rattle.std.specs.List.{AllAdjacentBelow, IsAllAdjacentAnswer, IsDistinct}
use Rattle.std.specs.List.Sorted.{IsNonDecreasingBy}
use Rattle.std.proofs.lemmas.Bool.{false≢true, cases_order, eq-eqb, ne_eqb}
use Rattle.std.proofs.lemmas.Bool.Decides.{nat_tests}
use Rattle.std.proofs.lemmas.List.{get_or-map, length-map}
use Rattle.std.proofs.lemmas.List.Sorted.{All-permutation, IsPermutation-map, IsPermutation-sym, length_permutation}
use Rattle.std.proofs.lemmas.Map.Keys.{IsDistinct-IsPermutation, IsDistinct-from_apart, apart_from_distinct}
use Rattle.history_machine.specs.declared.entry.Entry.{Entry}
use Rattle.server_shared.specs.declared.receipt.Receipt.{Receipt}
use Rattle.server_shared.specs.Settled.{IsInJournal, IsSettled, Rises, indexes}

abbrev IsBelow : Receipt → Receipt → Type 0
IsBelow r s = r.index < s.index

-- indexes that rise from each receipt to the next rise throughout
rises_far : (xs : List Receipt) → AllAdjacentBelow IsBelow xs (length xs)
    → (n i j : ℕ) (d : Receipt) → i + n + 1 ≡ j → j < length xs → IsBelow (slice_index_or xs i d) (slice_index_or xs j d)
rises_far xs steps zero i j d is lt =
    let next : i + 1 ≡ j = omega arith in
    let step = steps i d (omega arith) in
    rw next at step
rises_far xs steps (suc n) i j d is lt =
    let before = rises_far xs steps n i (j - 1) d (omega arith) (omega arith) in
    let last = steps (j - 1) d (omega arith) in
    let back : j - 1 + 1 ≡ j = omega arith in
    let last' : IsBelow (slice_index_or xs (j - 1) d) (slice_index_or xs j d) = rw back at last in
    omega (arith, before, last')

pub Rises-from_steps : (xs : List Receipt) → AllAdjacentBelow IsBelow xs (length xs) → Rises xs
Rises-from_steps xs steps i j d lt in_list = rises_far xs steps (j - i - 1) i j d (omega arith) in_list

pub rises_is : (xs : List Receipt) (r : Bool) → IsAllAdjacentAnswer (λ x y b. b ≡ nat_lt x.index y.index) xs r → IsTrue r ↔ Rises xs
rises_is xs true steps = (λ _. Rises-from_steps xs (λ k d lt. grind (arith, nat_tests, steps k d lt)), λ _. refl)
rises_is [] false drop = absurd (omega (arith, drop.1))
rises_is (x ∷ xs) false drop =
    (λ e. absurd (false≢true e), λ rises. grind (arith, nat_tests, drop.2 x, rises drop.0 (drop.0 + 1) x (omega arith) drop.1))

-- ---- sorted receipts

-- no two of these indexes are the same
apart_at : (xs : List Receipt) → Rises xs → (i j d : ℕ) → i < j → j < length xs →
    nat_eq (slice_index_or (indexes xs) i d) (slice_index_or (indexes xs) j d) ≡ false
apart_at [] rises i j d lt inside = absurd (omega (arith, inside))
apart_at (x ∷ xs) rises i j d lt inside =
    let one = get_or-map (λ (r : Receipt). r.index) (x ∷ xs) i x d (omega (arith, lt, inside)) in
    let other = get_or-map (λ (r : Receipt). r.index) (x ∷ xs) j x d inside in
    let less = rises i j x lt inside in
    ne_eqb (slice_index_or (indexes (x ∷ xs)) i d) (slice_index_or (indexes (x ∷ xs)) j d) (λ e. absurd (omega (arith, e, one, other, less)))

-- indexes that rise are distinct
distinct_rising : (xs : List Receipt) → Rises xs → IsDistinct nat_eq (indexes xs)
distinct_rising xs rises = IsDistinct-from_apart nat_eq (indexes xs) (λ i j d lt within.
    let inside : j < length xs = omega (arith, within, length-map xs (λ (r : Receipt). r.index)) in
    apart_at xs rises i j d lt inside)

below_or : (a b : ℕ) → a ≤ b → (a ≡ b → ⊥) → a < b
below_or a b le differ = elim (cases_order a b) [
  | inl e ↦ absurd (differ e)
  | inr o ↦ elim o [ inl lt ↦ lt | inr gt ↦ absurd (omega (arith, le, gt)) ]
]

-- sorted indexes that are distinct rise
rises_distinct : (xs : List Receipt) → IsNonDecreasingBy (λ (r : Receipt). r.index) xs → IsDistinct nat_eq (indexes xs) → Rises xs
rises_distinct xs sorted once i j d lt inside =
    let within : j < length (indexes xs) = omega (arith, inside, length-map xs (λ (r : Receipt). r.index)) in
    let apart = apart_from_distinct nat_eq (indexes xs) i j d.index once lt within in
    let one = get_or-map (λ (r : Receipt). r.index) xs i d d.index (omega (arith, lt, inside)) in
    let other = get_or-map (λ (r : Receipt). r.index) xs j d d.index inside in
    let le = sorted i j d (omega (arith, lt)) inside in
    let differ : slice_index_or (indexes xs) i d.index ≡ slice_index_or (indexes xs) j d.index → ⊥ =
    λ e. false≢true (sym apart ∙ eq-eqb (slice_index_or (indexes xs) i d.index) (slice_index_or (indexes xs) j d.index) e) in
    below_or (slice_index_or xs i d).index (slice_index_or xs j d).index le (λ e. differ (one ∙ e ∙ sym other))

module _ (from : ℕ) (journal : List Entry) (receipts sorted : List Receipt) (same : IsPermutation receipts sorted)
    (order : IsNonDecreasingBy (λ (r : Receipt). r.index) sorted) where
  back : IsPermutation sorted receipts
  back = IsPermutation-sym receipts sorted same

  moved : IsPermutation (indexes receipts) (indexes sorted)
  moved = IsPermutation-map (λ (r : Receipt). r.index) receipts sorted same

  -- where the sorted receipts pass the tests, the receipts settle the journal
  pub settles : length journal ≡ from + length sorted → Rises sorted → All (IsInJournal from journal) sorted → IsSettled from journal receipts
  settles counted rises stand = record {
    stand = All-permutation (IsInJournal from journal) sorted receipts back stand;
    once = IsDistinct-IsPermutation nat_eq nat_eq_equiv.symm (indexes sorted) (indexes receipts)
        (IsPermutation-sym (indexes receipts) (indexes sorted) moved) (distinct_rising sorted rises);
    counted = omega (arith, counted, length_permutation receipts sorted same);
  }

  -- and only there
  pub counted_so : IsSettled from journal receipts → length journal ≡ from + length sorted
  counted_so s = omega (arith, s.counted, length_permutation receipts sorted same)

  pub rises_so : IsSettled from journal receipts → Rises sorted
  rises_so s = rises_distinct sorted order
      (IsDistinct-IsPermutation nat_eq nat_eq_equiv.symm (indexes receipts) (indexes sorted) moved s.once)

  pub stands_so : IsSettled from journal receipts → All (IsInJournal from journal) sorted
  stands_so s = All-permutation (IsInJournal from journal) receipts sorted same s.stand
