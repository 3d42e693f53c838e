-- What is decided: that it holds, or that it does not.
use Rattle.std.proofs.Common.{ℕ, zero, suc, ◌≡◌, ◌<◌, ◌≤◌, ◌⊎◌, inl, inr, Bool, true, false, sym, subst, refl, arith}
use Rattle.std.proofs.lemmas.Bool.{cases_lt, true≢false}
use Rattle.go_scope.specs.Table.{IsFirstOf}

abbrev pub Decided : Type 0 → Type 0
Decided A = A ⊎ (A → ⊥)

pub both : (A B : Type 0) → Decided A → Decided B → Decided (A × B)
both A B a b = elim a [
  | inl x ↦ elim b [ inl y ↦ inl (x, y) | inr n ↦ inr (λ h. n h.1) ]
  | inr n ↦ inr (λ h. n h.0)
]

pub either : (A B : Type 0) → Decided A → Decided B → Decided (A ⊎ B)
either A B a b = elim a [
  | inl x ↦ inl (inl x)
  | inr n ↦ elim b [ inl y ↦ inl (inr y) | inr m ↦ inr (λ h. elim h [ inl x ↦ n x | inr y ↦ m y ]) ]
]

pub not : (A : Type 0) → Decided A → Decided (A → ⊥)
not A a = elim a [ inl x ↦ inr (λ n. n x) | inr n ↦ inl n ]

pub turned : (A B : Type 0) → (A → B) → (B → A) → Decided A → Decided B
turned A B f g a = elim a [ inl x ↦ inl (f x) | inr n ↦ inr (λ y. n (g y)) ]

pub is_true : (b : Bool) → Decided (b ≡ true)
is_true true = inl refl
is_true false = inr (λ e. true≢false (sym e))

pub is_false : (b : Bool) → Decided (b ≡ false)
is_false true = inr (λ e. true≢false e)
is_false false = inl refl

pub less : (a b : ℕ) → Decided (a < b)
less a b = elim (cases_lt a b) [ inl lt ↦ inl lt | inr ge ↦ inr (λ lt. omega arith) ]

pub at_most : (a b : ℕ) → Decided (a ≤ b)
at_most a b = elim (cases_lt b a) [ inl lt ↦ inr (λ le. omega arith) | inr ge ↦ inl ge ]

-- the first of so many numbers
pub first_below : (P : ℕ → Type 0) → ((k : ℕ) → Decided (P k)) → (n : ℕ) → ((u : ℕ) × IsFirstOf P n u) ⊎ ((u : ℕ) → u < n → P u → ⊥)
first_below P d zero = inr (λ u lt h. omega arith)
first_below P d (suc n) = elim (first_below P d n) [
  | inl f ↦ inl (f.0, record { within = (let lt : f.0 < n = f.1.within in omega arith); holds = f.1.holds; first = f.1.first })
  | inr none ↦ elim (d n) [
    | inl here ↦ inl (n, record { within = omega arith; holds = here; first = none })
    | inr other ↦ inr (λ u lt h. elim (cases_lt u n) [ inl below ↦ none u below h | inr ge ↦ other (let e : u ≡ n = omega arith in subst P e h) ])
  ]
]

-- whether some number is such, where all such are below one
pub some : (P : ℕ → Type 0) → ((k : ℕ) → Decided (P k)) → (n : ℕ) → ((k : ℕ) → P k → k < n) → ((u : ℕ) × P u) ⊎ ((u : ℕ) → P u → ⊥)
some P d n within = elim (first_below P d n) [ inl f ↦ inl (f.0, f.1.holds) | inr none ↦ inr (λ u h. none u (within u h) h) ]

-- what follows however claims of so many numbers are decided
pub all_decided : (P : ℕ → Type 0) (n : ℕ) → (((k : ℕ) → k < n → Decided (P k)) → ⊥) → ⊥
all_decided P zero f = f (λ k lt. absurd (omega arith))
all_decided P (suc n) f =
    all_decided P n
    (λ rest.
    let next : Decided (P n) → ⊥ = λ here. f
    (λ k lt. elim (cases_lt k n) [ inl below ↦ rest k below | inr ge ↦ (let e : k ≡ n = omega arith in subst (λ i. Decided (P i)) (sym e) here) ]) in
    next (inr (λ h. next (inl h))))
