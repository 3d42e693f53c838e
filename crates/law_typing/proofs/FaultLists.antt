-- Which tokens a list of faults has, and that these are exactly those where a rule is broken.
use Rattle.std.proofs.Common.{ℕ, ◌≡◌, Bool, true, false, if◌then◌else◌, ◌⊎◌, inl, inr, List, [], ◌∷◌, ◌++◌, Option, Some, None, refl, subst, arith}
use Rattle.std.specs.List.{Contains}
use Rattle.std.proofs.lemmas.List.Elements.{Contains-append_left, Contains-append_right, Contains-append_cases, Contains-push, Contains-push_cases}

abbrev pub HasToken : List ℕ → ℕ → Type 0
HasToken [] p = ⊥
HasToken (x ∷ xs) p = (x ≡ p) ⊎ HasToken xs p

none_contained : (p : ℕ) → Contains [] p → ⊥
none_contained p h = let lt = h.1 in absurd (omega arith)

pub contains_holds : (xs : List ℕ) (p : ℕ) → Contains xs p → HasToken xs p
contains_holds [] p h = none_contained p h
contains_holds (x ∷ xs) p h = elim (Contains-append_cases (x ∷ []) xs p h) [
  | inl a ↦ elim (Contains-push_cases [] x p a) [ inl n ↦ absurd (none_contained p n) | inr e ↦ inl e ]
  | inr b ↦ inr (contains_holds xs p b)
]

pub holds_contains : (xs : List ℕ) (p : ℕ) → HasToken xs p → Contains xs p
holds_contains [] p h = absurd h
holds_contains (x ∷ xs) p (inl e) = subst (λ z. Contains (x ∷ xs) z) e (Contains-append_left (x ∷ []) xs x (Contains-push [] x))
holds_contains (x ∷ xs) p (inr h) = Contains-append_right (x ∷ []) xs p (holds_contains xs p h)

pub holds_left : (xs ys : List ℕ) (p : ℕ) → HasToken xs p → HasToken (xs ++ ys) p
holds_left [] ys p h = absurd h
holds_left (x ∷ xs) ys p (inl e) = inl e
holds_left (x ∷ xs) ys p (inr h) = inr (holds_left xs ys p h)

pub holds_right : (xs ys : List ℕ) (p : ℕ) → HasToken ys p → HasToken (xs ++ ys) p
holds_right [] ys p h = h
holds_right (x ∷ xs) ys p h = inr (holds_right xs ys p h)

pub holds_cases : (xs ys : List ℕ) (p : ℕ) → HasToken (xs ++ ys) p → HasToken xs p ⊎ HasToken ys p
holds_cases [] ys p h = inr h
holds_cases (x ∷ xs) ys p (inl e) = inl (inl e)
holds_cases (x ∷ xs) ys p (inr h) = elim (holds_cases xs ys p h) [ inl a ↦ inl (inr a) | inr b ↦ inr b ]

-- the faults are at exactly the tokens of which B holds
pub record AreExactly (faults : List ℕ) (B : ℕ → Type 0) : Type 0 where
  pub found : (p : ℕ) → HasToken faults p → B p
  pub stands : (p : ℕ) → B p → HasToken faults p

pub none_told : {B : ℕ → Type 0} → ((p : ℕ) → B p → ⊥) → AreExactly [] B
none_told n = record { found = λ p h. absurd h; stands = λ p b. n p b }

pub both_told : (xs ys : List ℕ) {A C B : ℕ → Type 0} → AreExactly xs A → AreExactly ys C → ((p : ℕ) → A p → B p) → ((p : ℕ) → C p → B p) → ((p : ℕ) → B p →
    A p ⊎ C p) →
    AreExactly (xs ++ ys) B
both_told xs ys a c f g h = record {
  found = λ p q. elim (holds_cases xs ys p q) [ inl x ↦ f p (a.found p x) | inr y ↦ g p (c.found p y) ];
  stands = λ p b. elim (h p b) [ inl x ↦ holds_left xs ys p (a.stands p x) | inr y ↦ holds_right xs ys p (c.stands p y) ];
}

pub told_as : {xs : List ℕ} {A B : ℕ → Type 0} → AreExactly xs A → ((p : ℕ) → A p → B p) → ((p : ℕ) → B p → A p) → AreExactly xs B
told_as a f g = record { found = λ p h. f p (a.found p h); stands = λ p b. a.stands p (g p b) }

-- token p is `place`, and C holds
abbrev pub At : ℕ → Type 0 → ℕ → Type 0
At place C p = (place ≡ p) × C

pub at_place : {place : ℕ} {C : Type 0} (B : ℕ → Type 0) → (C → B place) → (p : ℕ) → At place C p → B p
at_place B f p a = subst B a.0 (f a.1)

pub nothing_at : (place : ℕ) {C : Type 0} → (C → ⊥) → AreExactly [] (At place C)
nothing_at place n = none_told (λ p a. n a.1)

pub fault_at : (place : ℕ) {C : Type 0} → C → AreExactly (place ∷ []) (At place C)
fault_at place c = record { found = λ p h. elim h [ inl e ↦ (e, c) | inr n ↦ absurd n ]; stands = λ p a. inl a.0 }

pub test_told : (b : Bool) (place : ℕ) {C : Type 0} → (b ≡ true → C → ⊥) → (b ≡ false → C) → AreExactly (if b then [] else (place ∷ [])) (At place C)
test_told true place n f = nothing_at place (n refl)
test_told false place n f = fault_at place (f refl)

pub fault_told : (b : Bool) (place : ℕ) {C : Type 0} → (b ≡ true → C) → (b ≡ false → C → ⊥) → AreExactly (if b then (place ∷ []) else []) (At place C)
fault_told true place f n = fault_at place (f refl)
fault_told false place f n = nothing_at place (n refl)

pub some_same : {A : Type 0} {x y : A} → Some x ≡ Some y → x ≡ y
some_same e = cc

pub none_some : {A : Type 0} {o : Option A} {x : A} → o ≡ None → o ≡ Some x → ⊥
none_some e f = cc
