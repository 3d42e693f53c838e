-- A search among sorted places.
use Rattle.std.proofs.Common.{◌≡◌, ℕ, ◌<◌, ◌+◌, List, length, get_or, sym, ap, subst, ◌∙◌, inl, inr, arith}
use Rattle.std.specs.Prelude.{Contains}
use Rattle.std.specs.declared.cmp.Ordering.{Ordering}
use Rattle.std.specs.declared.cmp.Ordering.TheVariants.{Less, Equal, Greater}
use Rattle.std.specs.Ordering.{is_lt, is_gt, ordering_index, ordering_reverse}
use Rattle.std.specs.Cmp.{tied_itself}
use Rattle.std.specs.List.{HoldsAt}
use Rattle.std.specs.List.Sorted.{IsStrictlySortedBy, IsNonDecreasingBy, IsPartitionPoint}
use Rattle.std.proofs.lemmas.Bool.{true≢false, cases_lt}
use Rattle.std.proofs.lemmas.List.Sorted.{searchable_from_sorted}
use Rattle.std.proofs.lemmas.Map.Keys.{Less-from_sorted}
use Rattle.base_files.specs.declared.place.Place.{Place}
use Rattle.refs_binding.specs.Places.{place_cmp}
use Rattle.refs_binding.proofs.PlaceOrder.{place_cmp_total, place_cmp_exact}

abbrev pub compared : Place → Place → Ordering
compared place other = place_cmp other place

pub found_is : (ps : List Place) (place : Place) (n : ℕ) → n < length ps → HoldsAt (λ x. compared place x ≡ Equal) ps n → Contains ps place
found_is ps place n lt at = (n, lt, place_cmp_exact (get_or ps n place) place (at place))

pub rises : (ps : List Place) (place : Place) → IsStrictlySortedBy place_cmp ps → IsNonDecreasingBy (λ y. ordering_index (compared place y)) ps
rises ps place sorted = searchable_from_sorted place_cmp_total (λ (p : Place). p) ps place (λ k d low within.
    let here = Less-from_sorted place_cmp ps k (k + 1) d sorted (omega arith) within in
    ap is_lt (place_cmp_total.antisymm (get_or ps (k + 1) d) (get_or ps k d) ∙ ap ordering_reverse here))

itself : (o : Ordering) (place : Place) → place_cmp place place ≡ o → o ≡ Equal
itself o place e = sym e ∙ tied_itself place_cmp_total place

pub none_in : (ps : List Place) (place : Place) (i : ℕ) → IsPartitionPoint (λ x. compared place x ≡ Less) (λ x. compared place x ≡ Greater) ps i →
    Contains ps place → ⊥
none_in ps place i split has = elim (cases_lt has.0 i) [
  | inl h ↦ true≢false (ap is_lt (itself Less place (subst (λ x. compared place x ≡ Less) has.2 (split.0 has.0 place (omega arith) h))))
  | inr h ↦ true≢false (ap is_gt (itself Greater place (subst (λ x. compared place x ≡ Greater) has.2 (split.1 has.0 place h has.1))))
]

pub none_is : (ps : List Place) (place : Place) (i : ℕ) → IsStrictlySortedBy place_cmp ps →
    (IsNonDecreasingBy (λ y. ordering_index (compared place y)) ps →
    IsPartitionPoint (λ x. compared place x ≡ Less) (λ x. compared place x ≡ Greater) ps i) → Contains ps place → ⊥
none_is ps place i sorted found = none_in ps place i (found (rises ps place sorted))
