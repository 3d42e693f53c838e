-- Two increasing lists with the same elements are equal.
use Rattle.std.proofs.Common.{zero, suc, ◌≡◌, ◌<◌, ◌⊎◌, inl, inr, List, [], ◌∷◌, length, refl, sym, ap, subst, ◌∙◌, arith}
use Rattle.std.specs.Prelude.{Contains}
use Rattle.std.specs.Cmp.{IsTotalOrder, tied_itself}
use Rattle.std.specs.List.{AllByRecursion}
use Rattle.std.specs.List.Sorted.{IsStrictlySortedBy}
use Rattle.std.specs.Ordering.{is_lt, ordering_reverse}
use Rattle.std.specs.declared.cmp.Ordering.{Ordering}
use Rattle.std.specs.declared.cmp.Ordering.TheVariants.{Less, Equal}
use Rattle.std.proofs.Math.Path.{ap₂}
use Rattle.std.proofs.lemmas.Bool.{true≢false}
use Rattle.std.proofs.lemmas.List.Elements.{All-from_recursion, All-contains}
use Rattle.std.proofs.lemmas.Map.Keys.{sorted_head, sorted_tail}
use Rattle.base_lemmas.proofs.EachElement.{all_from_each}
use Rattle.base_lemmas.proofs.Elements.{first_in, later_in, first_or_later, nothing_in}

-- the first, or one behind it

-- in order
pub sorted_more : {K : Type 0} (R : K → K → Ordering) (x : K) (xs : List K) → ((y : K) → Contains xs y → R x y ≡ Less) → IsStrictlySortedBy R xs →
    IsStrictlySortedBy R (x ∷ xs)
unfolding IsStrictlySortedBy
sorted_more R x xs each s = (all_from_each (λ y. R x y ≡ Less) xs each, s)

module _ {K : Type 0} {R : K → K → Ordering} (o : IsTotalOrder R) where
  pub above : (x : K) (xs : List K) (y : K) → IsStrictlySortedBy R (x ∷ xs) → Contains xs y → R x y ≡ Less
  above x xs y s h = All-contains (λ z. R x z ≡ Less) xs y (All-from_recursion (λ z. R x z ≡ Less) xs (sorted_head R x xs s)) h

  pub not_itself : (x : K) (xs : List K) (y : K) → IsStrictlySortedBy R (x ∷ xs) → Contains xs y → x ≡ y → ⊥
  not_itself x xs y s h e =
      let tied : R x y ≡ Equal = subst (λ z. R x z ≡ Equal) e (tied_itself o x) in
      true≢false (ap is_lt (sym (above x xs y s h) ∙ tied))

  not_both : (x y : K) → R x y ≡ Less → R y x ≡ Less → ⊥
  not_both x y h k = true≢false (ap is_lt (sym h ∙ o.antisymm x y ∙ ap ordering_reverse k))

  pub same_first : (x : K) (xs : List K) (y : K) (ys : List K) → IsStrictlySortedBy R (x ∷ xs) → IsStrictlySortedBy R (y ∷ ys) → Contains (y ∷ ys) x →
      Contains (x ∷ xs) y → x ≡ y
  same_first x xs y ys s t f g = elim (first_or_later y ys x f) [
    | inl e ↦ sym e
    | inr d ↦ elim (first_or_later x xs y g) [
      | inl e ↦ e
      | inr c ↦ absurd (not_both x y (above x xs y s c) (above y ys x t d))
    ]
  ]

  pub one_sorted : (xs ys : List K) → IsStrictlySortedBy R xs → IsStrictlySortedBy R ys → ((x : K) → Contains xs x → Contains ys x) →
      ((x : K) → Contains ys x → Contains xs x) → xs ≡ ys
  one_sorted [] [] s t f g = refl
  one_sorted [] (y ∷ ys) s t f g = absurd (nothing_in y (g y (first_in y ys)))
  one_sorted (x ∷ xs) [] s t f g = absurd (nothing_in x (f x (first_in x xs)))
  one_sorted (x ∷ xs) (y ∷ ys) s t f g =
      let e : x ≡ y = same_first x xs y ys s t (f x (first_in x xs)) (g y (first_in y ys)) in
      ap₂ (λ z zs. z ∷ zs) e
      (one_sorted xs ys (sorted_tail R x xs s) (sorted_tail R y ys t)
      (λ z c. elim (first_or_later y ys z (f z (later_in x xs z c))) [ inl h ↦ absurd (not_itself x xs z s c (e ∙ h)) | inr d ↦ d ])
      (λ z c. elim (first_or_later x xs z (g z (later_in y ys z c))) [ inl h ↦ absurd (not_itself y ys z t c (sym e ∙ h)) | inr d ↦ d ]))
