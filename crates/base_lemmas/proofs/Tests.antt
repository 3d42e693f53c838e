-- What the answer of a test says: of a Bool, an ordering, an option or a comparison of numbers.
use Rattle.std.proofs.Common.{◌≡◌, ℕ, ◌<◌, ◌≤◌, Bool, T, true, false, inl, inr, Option, Some, None, refl, sym, ap, true≢false}
use Rattle.std.specs.Ordering.{is_lt, is_gt}
use Rattle.std.specs.Option.{is_some, option_map}
use Rattle.std.specs.declared.cmp.Ordering.{Ordering}
use Rattle.std.specs.declared.cmp.Ordering.TheVariants.{Less, Equal, Greater}
use Rattle.std.proofs.lemmas.Bool.{cases_lt, false≢true}

pub true_from_T : (b : Bool) → T b → b ≡ true
true_from_T true h = refl
true_from_T false h = absurd h

pub less_from_test : (o : Ordering) → is_lt o ≡ true → o ≡ Less
less_from_test Less h = refl
less_from_test Equal h = absurd (true≢false (sym h))
less_from_test Greater h = absurd (true≢false (sym h))

pub less_differs : Less ≡ Equal → ⊥
less_differs e = true≢false (ap is_lt e)

pub greater_differs : Greater ≡ Equal → ⊥
greater_differs e = true≢false (ap is_gt e)

pub none_from_test : {X : Type 0} (o : Option X) → is_some o ≡ false → o ≡ None
none_from_test None e = refl
none_from_test (Some x) e = absurd (true≢false e)

pub none_from_map : {X Y : Type 0} (f : X → Y) (o : Option X) → option_map f o ≡ None → o ≡ None
none_from_map f None is = refl
none_from_map f (Some x) is = cc

pub not_below : (i n : ℕ) → (i < n → false ≡ true) → n ≤ i
not_below i n h = elim (cases_lt i n) [ inl lt ↦ absurd (false≢true (h lt)) | inr ge ↦ ge ]
