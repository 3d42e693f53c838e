-- Lists of anything, and what is added to them.
use Rattle.std.proofs.Common.{arith, ◌<◌, ◌+◌, ℕ, ◌≡◌, ◌⊎◌, inl, inr, List, subst}
use Rattle.std.specs.Prelude.{Result, OnOk}
use Rattle.std.proofs.lemmas.Bool.{cases_lt}
use Rattle.std.proofs.lemmas.Result.{on_ok_weaker}
use Rattle.refs_binding.specs.Bindings.{AddsAll}

-- nothing is added
pub all_none : {X : Type 0} (a : List X) (P : X → Type 0) → ((x : X) → P x → ⊥) → AddsAll a a P
all_none a P none = record { keeps = λ x h. h; holds = λ x h. absurd (none x h); only = λ x h. inl h }

-- The added elements may be given by an equivalent condition.
pub all_as : {X : Type 0} (a b : List X) (P Q : X → Type 0) → ((x : X) → P x → Q x) → ((x : X) → Q x → P x) → AddsAll a b P → AddsAll a b Q
all_as a b P Q to from h = record {
  keeps = h.keeps;
  holds = λ x q. h.holds x (from x q);
  only = λ x q. elim (h.only x q) [ inl o ↦ inl o | inr p ↦ inr (to x p) ];
}

-- one thing is added, and then another
pub all_then : {X : Type 0} (a b c : List X) (P Q : X → Type 0) → AddsAll a b P → AddsAll b c Q → AddsAll a c (λ x. P x ⊎ Q x)
all_then a b c P Q h k = record {
  keeps = λ x m. k.keeps x (h.keeps x m);
  holds = λ x m. elim m [ inl p ↦ k.keeps x (h.holds x p) | inr q ↦ k.holds x q ];
  only = λ x m. elim (k.only x m) [ inl o ↦ elim (h.only x o) [ inl n ↦ inl n | inr p ↦ inr (inl p) ] | inr q ↦ inr (inr q) ];
}

pub call_all : {X E : Type 0} (a b : List X) (P Q : X → Type 0) (r : Result (Unit {0}) E) → ((x : X) → P x → Q x) → ((x : X) → Q x → P x) →
    OnOk r (AddsAll a b P) → OnOk r (AddsAll a b Q)
call_all a b P Q r to from k = on_ok_weaker r (λ h. all_as a b P Q to from h) k

-- one of the numbers below n tells it
abbrev pub BelowAll : {X : Type 0} → (ℕ → X → Type 0) → ℕ → X → Type 0
BelowAll Q n x = (u : ℕ) × (u < n) × Q u x

pub none_below : {X : Type 0} (Q : ℕ → X → Type 0) (a : List X) → AddsAll a a (BelowAll Q 0)
none_below Q a = all_none a (BelowAll Q 0) (λ x h. let lt : h.0 < 0 = h.1 in absurd (omega arith))

pub next_below : {X : Type 0} (Q : ℕ → X → Type 0) (a b c : List X) (i : ℕ) → AddsAll a b (BelowAll Q i) → AddsAll b c (Q i) → AddsAll a c (BelowAll Q (i + 1))
next_below Q a b c i h k =
    all_as a c (λ x. BelowAll Q i x ⊎ Q i x) (BelowAll Q (i + 1))
    (λ x m. elim m [
      | inl q ↦ (q.0, (let lt : q.0 < i = q.1 in omega arith), q.2)
      | inr q ↦ (i, omega arith, q)
    ])
    (λ x m. elim (cases_lt m.0 i) [
      | inl lt ↦ inl (m.0, lt, m.2)
      | inr ge ↦ inr (let lt : m.0 < i + 1 = m.1 in let e : m.0 ≡ i = omega arith in subst (λ u. Q u x) e m.2)
    ])
    (all_then a b c (BelowAll Q i) (Q i) h k)

-- all numbers below n are all there are
pub all_numbers : {X : Type 0} (Q : ℕ → X → Type 0) (P : X → Type 0) (n : ℕ) (a b : List X) → ((u : ℕ) (x : X) → Q u x → P x) →
    ((x : X) → P x → (u : ℕ) × (u < n) × Q u x) → AddsAll a b (BelowAll Q n) → AddsAll a b P
all_numbers Q P n a b to from h = all_as a b (BelowAll Q n) P (λ x m. to m.0 x m.2) from h
