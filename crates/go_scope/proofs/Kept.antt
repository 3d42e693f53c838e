-- The contents of a table, one identifier after another.
use Rattle.std.proofs.Common.{ℕ, ◌≡◌, ◌+◌, ◌<◌, inl, inr, List, [], ◌∷◌, ◌++◌, length, get_or, Bool, Option, IsTrue, sym, ◌∙◌, ap, subst, arith, length-append}
use Rattle.std.proofs.Math.ListN.{set}
use Rattle.std.proofs.lemmas.Grind.{common_steps}
use Rattle.std.proofs.lemmas.List.{get_or-set_same, get_or-set_other}
use Rattle.std.specs.Prelude.{◌↔◌}
use Rattle.std.proofs.lemmas.Bool.{cases_order}
use Rattle.go_scope.specs.Bindings.{Layout, Names}
use Rattle.go_scope.specs.Contents.{AreExactMarks, AreBindings, IsBinding}
use Rattle.go_scope.proofs.Uniqueness.{same_or_not}

-- a fact of each entry of a list stays true when a right entry is appended
module _ {A : Type 0} (P : ℕ → A → Type 0) where
  last_entry : (xs : List A) (y x : A) → get_or (xs ++ (y ∷ [])) (length xs) x ≡ y
  last_entry xs y x = grind (arith, common_steps)

  earlier_entry : (xs : List A) (y x : A) (k : ℕ) → k < length xs → get_or (xs ++ (y ∷ [])) k x ≡ get_or xs k x
  earlier_entry xs y x k lt = grind (arith, common_steps)

  pub each_next : (xs new : List A) (y : A) (n : ℕ) → length xs ≡ n → new ≡ xs ++ (y ∷ []) → P n y → ((k : ℕ) (x : A) → k < n → P k (get_or xs k x)) →
      (k : ℕ) (x : A) → k < n + 1 → P k (get_or new k x)
  each_next xs new y n s e p h k x lt =
      let N : List A → Type 0 = λ zs. P k (get_or zs k x) in
      subst N (sym e) (elim (same_or_not k n) [
        | inl same ↦
            let Q : A → Type 0 = λ z. P k z in
            let R : ℕ → Type 0 = λ j. P j y in
            let z : get_or (xs ++ (y ∷ [])) k x ≡ y = ap (λ j. get_or (xs ++ (y ∷ [])) j x) (same ∙ sym s) ∙ last_entry xs y x in
            subst Q (sym z) (subst R (sym same) p)
        | inr not ↦
            let Q : A → Type 0 = λ z. P k z in
            let less : k < n = elim (cases_order k n) [ inl same ↦ absurd (not same) | inr o ↦ elim o [ inl less ↦ less | inr more ↦ absurd (omega arith) ] ] in
            let within : k < length xs = omega arith in
            subst Q (sym (earlier_entry xs y x k within)) (h k x less)
      ])

  -- one entry is set
  pub each_set : (xs : List A) (i : ℕ) (y : A) (n : ℕ) → i < length xs → P i y → ((k : ℕ) (x : A) → k < n → (k ≡ i → ⊥) → P k (get_or xs k x)) →
      (k : ℕ) (x : A) → k < n → P k (get_or (set xs i y) k x)
  each_set xs i y n within here h k x lt = elim (same_or_not k i) [
    | inl same ↦
        let Q : ℕ → Type 0 = λ j. P j (get_or (set xs i y) j x) in
        let R : A → Type 0 = λ z. P i z in
        subst Q (sym same) (subst R (sym (get_or-set_same xs i y x within)) here)
    | inr other ↦
        let R : A → Type 0 = λ z. P k z in
        subst R (sym (get_or-set_other xs i k y x other)) (h k x lt other)
  ]

pub sized_next : {A : Type 0} (xs new : List A) (y : A) (n : ℕ) → length xs ≡ n → new ≡ xs ++ (y ∷ []) → length new ≡ n + 1
sized_next xs new y n s e = ap length e ∙ length-append xs (y ∷ []) ∙ (omega arith)

pub marks_next : (P : ℕ → Type 0) (n : ℕ) (marks new : List Bool) (mark : Bool) → AreExactMarks P n marks → new ≡ marks ++ (mark ∷ []) → IsTrue mark ↔ P n →
    AreExactMarks P (n + 1) new
marks_next P n marks new mark h e m = record {
  sized = sized_next marks new mark n h.sized e;
  exact = each_next (λ k x. IsTrue x ↔ P k) marks new mark n h.sized e m h.exact;
}

pub marks_none : (P : ℕ → Type 0) (marks : List Bool) → marks ≡ [] → AreExactMarks P 0 marks
marks_none P marks e = record { sized = ap length e; exact = λ d x lt. absurd (omega arith) }

pub bindings_none : (l : Layout) (names : Names) (bindings : List (Option ℕ)) → bindings ≡ [] → AreBindings l names 0 bindings
bindings_none l names bindings e = record { sized = ap length e; each = λ u x lt. absurd (omega arith) }

pub bindings_next : (l : Layout) (names : Names) (n : ℕ) (bindings new : List (Option ℕ)) (bound : Option ℕ) → AreBindings l names n bindings →
    new ≡ bindings ++ (bound ∷ []) →
    IsBinding l names n bound → AreBindings l names (n + 1) new
bindings_next l names n bindings new bound h e b = record {
  sized = sized_next bindings new bound n h.sized e;
  each = each_next (λ k x. IsBinding l names k x) bindings new bound n h.sized e b h.each;
}
