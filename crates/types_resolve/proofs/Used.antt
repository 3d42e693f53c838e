-- Which declarations have a use, identifier by identifier.
use Rattle.std.proofs.Common.{ℕ, ◌≡◌, ◌≢◌, ◌+◌, ◌<◌, ◌⊎◌, ◌↔◌, inl, inr, Bool, true, false, List, length, get_or, ap, sym, ◌∙◌, subst, refl, arith}
use Rattle.std.proofs.Common.{MatchOption, get_or-set_same, get_or-set_other}
use Rattle.std.specs.Prelude.{Option, Some, None}
use Rattle.std.proofs.Math.ListN.{set, length-set}
use Rattle.std.proofs.lemmas.Bool.{cases_lt}
use Rattle.go_scope.specs.Bindings.{IsUse, IsBoundTo}
use Rattle.types_resolve.specs.Scoping.{IsUsedBelow, AreUsed}
use Rattle.types_declared.specs.Laid.{Laid}

later : (p : Laid) (n d : ℕ) → IsUsedBelow p n d → IsUsedBelow p (n + 1) d
later p n d h = record { user = h.user; below = (let lt : h.user < n = h.below in omega arith); is_use = h.is_use; bound = h.bound }

now_used : (p : Laid) (n d : ℕ) → IsUse p.layout p.names n → IsBoundTo p.layout p.names n d → IsUsedBelow p (n + 1) d
now_used p n d u b = record { user = n; below = omega arith; is_use = u; bound = b }

earlier : (p : Laid) (n d : ℕ) → IsUsedBelow p (n + 1) d → IsUsedBelow p n d ⊎ (IsUse p.layout p.names n × IsBoundTo p.layout p.names n d)
earlier p n d h = elim (cases_lt h.user n) [
  | inl lt ↦ inl (record { user = h.user; below = lt; is_use = h.is_use; bound = h.bound })
  | inr ge ↦ inr (let lt : h.user < n + 1 = h.below in let e : h.user ≡ n = omega arith in
      (subst (IsUse p.layout p.names) e h.is_use, subst (λ u. IsBoundTo p.layout p.names u d) e h.bound))
]

set_same : (used : List Bool) (d : ℕ) → d < length used → get_or (set used d true) d false ≡ true
set_same used d lt = rw get_or-set_same refl

set_other : (used : List Bool) (k d : ℕ) → (d ≡ k → ⊥) → get_or (set used k true) d false ≡ get_or used d false
set_other used k d ne = let apart : d ≢ k = ne in rw get_or-set_other refl

same_or_not : (d k : ℕ) → (d ≡ k) ⊎ (d ≡ k → ⊥)
same_or_not d k = elim (cases_lt d k) [
  | inl lt ↦ inr (λ e. let z : ⊥ = omega arith in z)
  | inr ge ↦ elim (cases_lt k d) [ inl gt ↦ inr (λ e. let z : ⊥ = omega arith in z) | inr le ↦ inl (omega arith) ]
]

-- the mark of a declaration that the new use isn't bound to stays
kept : (p : Laid) (n d : ℕ) (b c : Bool) → c ≡ b → ((b ≡ true) ↔ IsUsedBelow p n d) → (IsUse p.layout p.names n → IsBoundTo p.layout p.names n d → ⊥) →
    (c ≡ true) ↔ IsUsedBelow p (n + 1) d
kept p n d b c e h no_use = (
  (λ t. later p n d (h.0 (sym e ∙ t))),
  (λ u. elim (earlier p n d u) [ inl o ↦ e ∙ h.1 o | inr q ↦ absurd (no_use q.0 q.1) ]),
)

pub marked : (p : Laid) (used new : List Bool) (u : ℕ) (r : Option ℕ) →
    ((v d e : ℕ) → IsBoundTo p.layout p.names v d → IsBoundTo p.layout p.names v e → d ≡ e) →
    AreUsed p u used → MatchOption r (IsUse p.layout p.names u → (d : ℕ) → IsBoundTo p.layout p.names u d → ⊥)
    (λ d. IsUse p.layout p.names u × IsBoundTo p.layout p.names u d) →
    MatchOption r (new ≡ used) (λ k. new ≡ set used k true) → AreUsed p (u + 1) new
marked p used new u None one h no_use e = record {
  all = ap length e ∙ h.all;
  each = λ d lt. kept p u d (get_or used d false) (get_or new d false) (ap (λ z. get_or z d false) e) (h.each d lt) (λ q b. no_use q d b);
}
marked p used new u (Some k) one h bound_now e = record {
  all = ap length e ∙ (rw length-set h.all);
  each = λ d lt. elim (same_or_not d k) [
    | inl same ↦ (
      (λ t. now_used p u d bound_now.0 (subst (IsBoundTo p.layout p.names u) (sym same) bound_now.1)),
      (λ q. ap (λ z. get_or z d false) (e ∙ ap (λ j. set used j true) (sym same)) ∙ set_same used d (rw h.all lt)),
    )
    | inr apart ↦ kept p u d (get_or used d false) (get_or new d false) (ap (λ z. get_or z d false) e ∙ set_other used k d apart) (h.each d lt)
        (λ q b. apart (one u d k b bound_now.1))
  ];
}
