-- A search by key in a list whose keys rise.
use Rattle.std.proofs.Common.{◌≡◌, ℕ, ◌<◌, ◌+◌, List, length, map, get_or, sym, ap, subst, ◌∙◌, inl, inr, arith}
use Rattle.std.specs.Prelude.{Contains}
use Rattle.std.specs.declared.cmp.Ordering.{Ordering}
use Rattle.std.specs.declared.cmp.Ordering.TheVariants.{Less, Equal, Greater}
use Rattle.std.specs.Ordering.{is_lt, is_gt, ordering_index, ordering_reverse}
use Rattle.std.specs.Cmp.{IsTotalOrder, tied_itself}
use Rattle.std.specs.List.{HoldsAt}
use Rattle.std.specs.List.Sorted.{IsStrictlySortedBy, IsNonDecreasingBy, IsPartitionPoint}
use Rattle.std.proofs.lemmas.Bool.{true≢false, cases_lt}
use Rattle.std.proofs.lemmas.List.{get_or-map, length-map}
use Rattle.std.proofs.lemmas.List.Sorted.{searchable_from_sorted}
use Rattle.std.proofs.lemmas.Map.Keys.{Less-from_sorted}

module _ (X K : Type 0) (R : K → K → Ordering) (total : IsTotalOrder R) (exact : (a b : K) → R a b ≡ Equal → a ≡ b) (key : X → K) where
  -- how the key of an element compares with another one
  abbrev pub compared : K → X → Ordering
  compared k x = R (key x) k

  -- the keys rise with the index
  pub keys_rise : (xs : List X) (i j : ℕ) (d : X) → IsStrictlySortedBy R (map key xs) → i < j → j < length xs →
      R (key (get_or xs i d)) (key (get_or xs j d)) ≡ Less
  keys_rise xs i j d sorted lt within =
      let first = get_or-map key xs i d (key d) (omega arith) in
      let second = get_or-map key xs j d (key d) within in
      let less = Less-from_sorted R (map key xs) i j (key d) sorted lt (subst (λ (n : ℕ). j < n) (sym (length-map xs key)) within) in
      subst (λ (x : K). R x (key (get_or xs j d)) ≡ Less) first (subst (λ (y : K). R (get_or (map key xs) i (key d)) y ≡ Less) second less)

  pub found_is : (xs : List X) (k : K) (n : ℕ) (x : X) → n < length xs → x ≡ get_or xs n x → HoldsAt (λ y. compared k y ≡ Equal) xs n →
      Contains xs x × (key x ≡ k)
  found_is xs k n x lt is at = ((n, lt, sym is), exact (key x) k (subst (λ (y : X). compared k y ≡ Equal) (sym is) (at x)))

  rises : (xs : List X) (k : K) → IsStrictlySortedBy R (map key xs) → IsNonDecreasingBy (λ y. ordering_index (compared k y)) xs
  rises xs k sorted = searchable_from_sorted total key xs k (λ i d low within.
      let here = keys_rise xs i (i + 1) d sorted (omega arith) within in
      ap is_lt (total.antisymm (key (get_or xs (i + 1) d)) (key (get_or xs i d)) ∙ ap ordering_reverse here))

  itself : (o : Ordering) (x y : K) → x ≡ y → R x y ≡ o → o ≡ Equal
  itself o x y same e = sym e ∙ ap (R x) (sym same) ∙ tied_itself total x

  none_in : (xs : List X) (k : K) (i : ℕ) → IsPartitionPoint (λ y. compared k y ≡ Less) (λ y. compared k y ≡ Greater) xs i → (x : X) → Contains xs x →
      key x ≡ k → ⊥
  none_in xs k i split x has same = elim (cases_lt has.0 i) [
    | inl h ↦ true≢false (ap is_lt (itself Less (key x) k same (subst (λ (y : X). compared k y ≡ Less) has.2 (split.0 has.0 x (omega arith) h))))
    | inr h ↦ true≢false (ap is_gt (itself Greater (key x) k same (subst (λ (y : X). compared k y ≡ Greater) has.2 (split.1 has.0 x h has.1))))
  ]

  pub none_is : (xs : List X) (k : K) (i : ℕ) → IsStrictlySortedBy R (map key xs) →
      (IsNonDecreasingBy (λ y. ordering_index (compared k y)) xs → IsPartitionPoint (λ y. compared k y ≡ Less) (λ y. compared k y ≡ Greater) xs i) →
      (x : X) → Contains xs x → key x ≡ k → ⊥
  none_is xs k i sorted found = none_in xs k i (found (rises xs k sorted))
