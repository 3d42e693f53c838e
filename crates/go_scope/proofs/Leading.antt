-- The first declaration of a name in a block stands for all declarations of that name there.
use Rattle.std.proofs.Common.{ℕ, zero, suc, ◌≡◌, ◌<◌, ◌≤◌, inl, inr, Option, Some, None, Bool, true, false, not, IsTrue, refl, sym, ◌∙◌, subst, arith}
use Rattle.std.proofs.lemmas.Bool.{cases_order}
use Rattle.go_scope.specs.Bindings.{Layout, Names, MayDeclare, IsLeftName, SameBlock, InScope, Declares, Counts}
use Rattle.go_scope.specs.Leading.{IsLead, IsPrior, IsInScopeOf, IsDisplacedImport}
use Rattle.go_scope.proofs.Nesting.{Nested}
use Rattle.go_scope.proofs.Uniqueness.{declares_if}

no_leader : (l : Layout) (names : Names) (k e : ℕ) → e < k → Declares l names e →
    ((f : ℕ) → IsLead l names f → names f ≡ names e → SameBlock l f e → f ≤ e → ⊥) → ⊥
no_leader l names zero e lt de none = absurd (omega arith)
no_leader l names (suc k) e lt de none =
    none e (record {
      declares = de;
      first = λ f df nf sf less.
          let below : f < k = omega arith in
          no_leader l names k f below df (λ g lg ng sg le. none g lg (ng ∙ nf) (sg ∙ sf) (let up : g ≤ e = omega arith in up));
    }) refl refl (let same : e ≤ e = omega arith in same)

-- each declaration has a first declaration of its name in its block, at it or before it
pub leader_none : (l : Layout) (names : Names) (e : ℕ) → Declares l names e → ((f : ℕ) → IsLead l names f → names f ≡ names e → SameBlock l f e → f ≤ e → ⊥) → ⊥
leader_none l names e de none = no_leader l names (suc e) e (omega arith) de none

-- two first declarations of one name in one block are equal
pub leads_once : (l : Layout) (names : Names) (d e : ℕ) → IsLead l names d → IsLead l names e → names d ≡ names e → SameBlock l d e → d ≡ e
leads_once l names d e x y n s = elim (cases_order d e) [
  | inl same ↦ same
  | inr o ↦ elim o [
    | inl less ↦ absurd (y.first d x.declares n s less)
    | inr more ↦ absurd (x.first e y.declares (sym n) (sym s) more)
  ]
]

-- without an earlier declaration of its name in its block, a declaration is the first
leads_alone : (l : Layout) (names : Names) (d : ℕ) → Declares l names d → IsPrior l names d None → IsLead l names d
leads_alone l names d x h = record {
  declares = x;
  first = λ e de ne se less. leader_none l names e de (λ f lf nf sf le. h f (let lt : f < d = omega arith in lt) lf (nf ∙ ne) (sf ∙ se));
}

pub leads_if_none : (l : Layout) (names : Names) (d : ℕ) (leader : Option ℕ) → leader ≡ None → IsPrior l names d leader → Declares l names d → IsLead l names d
leads_if_none l names d leader is h x = leads_alone l names d x (let P : Option ℕ → Type 0 = λ v. IsPrior l names d v in subst P is h)

-- with an earlier declaration of its name in its block, a declaration is not the first
pub leads_not : (l : Layout) (names : Names) (d e : ℕ) (leader : Option ℕ) → leader ≡ Some e → IsPrior l names d leader → IsLead l names d → ⊥
leads_not l names d e leader is k x =
    let P : Option ℕ → Type 0 = λ v. IsPrior l names d v in
    let h = subst P is k in
    x.first e h.1.declares h.2 h.3 h.0

module _ (l : Layout) (nested : Nested l) (names : Names) (d : ℕ) where
  blocked : (leader : Option ℕ) → IsPrior l names d leader → (IsInScopeOf l leader d → ⊥) → (e : ℕ) → Declares l names e → SameBlock l e d →
      names e ≡ names d → InScope l e d → e < d → ⊥
  blocked None h free e de se ne he less = leader_none l names e de (λ f lf nf sf le. h f (let lt : f < d = omega arith in lt) lf (nf ∙ ne) (sf ∙ se))
  blocked (Some g) h free e de se ne he less = elim (cases_order g e) [
    | inl same ↦ (let P : ℕ → Type 0 = λ v. InScope l v d in free (subst P (sym same) he))
    | inr o ↦ elim o [
      | inl lt ↦ free (nested.shrinking g e d h.1.declares.may de.may (h.3 ∙ sym se) lt he)
      | inr gt ↦ h.1.first e de (ne ∙ sym h.2) (se ∙ sym h.3) gt
    ]
  ]

  -- a left name of `:=` declares unless it is in the scope of the first declaration before it
  pub declares_behind : (leader : Option ℕ) → IsPrior l names d leader → MayDeclare l d → (IsLeftName l d → IsInScopeOf l leader d → ⊥) → Declares l names d
  declares_behind leader h may free =
      declares_if l nested names d may (λ left e de se ne he. blocked leader h (free left) e de se ne he (nested.earlier e d de.may left se he))

pub declares_not : (l : Layout) (names : Names) (d : ℕ) (leader : Option ℕ) → IsPrior l names d leader → IsLeftName l d → IsInScopeOf l leader d →
    Declares l names d → ⊥
declares_not l names d None h left holds x = holds
declares_not l names d (Some e) h left holds x = x.is_new left e h.1.declares.may h.3 h.2 holds

-- a declaration counts if it is the first one, and no import whose name the package block declares
pub counts_if : (l : Layout) (names : Names) (d : ℕ) → IsLead l names d → (IsDisplacedImport l names d → ⊥) → Counts l names d
counts_if l names d x stays = record {
  declares = x.declares;
  first = λ e de ne p. elim p [
    | inl s ↦ x.first e de ne s.0 s.1
    | inr q ↦ leader_none l names e de (λ f lf nf sf le. stays (q.1, (f, (lf, nf ∙ ne, sf ∙ q.0))))
  ];
}

pub counts_only : (l : Layout) (names : Names) (d : ℕ) → Counts l names d → IsLead l names d × (IsDisplacedImport l names d → ⊥)
counts_only l names d c = (
  record { declares = c.declares; first = λ e de ne se less. c.first e de ne (inl (se, less)) },
  λ w. c.first w.1.0 w.1.1.0.declares w.1.1.1 (inr (w.1.1.2, w.0)),
)

pub not_if : (b : Bool) → (IsTrue b → ⊥) → IsTrue (not b)
not_if true h = absurd (h refl)
not_if false h = refl

pub not_both : (b : Bool) → IsTrue (not b) → IsTrue b → ⊥
not_both true n t = cc
not_both false n t = cc
