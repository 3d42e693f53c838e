-- Each identifier is bound to at most one declaration.
use Rattle.std.proofs.Common.{ℕ, ◌≡◌, ◌<◌, ◌⊎◌, inl, inr, true, sym, ◌∙◌, subst, arith, zero, suc}
use Rattle.std.specs.Prelude.{◌↔◌}
use Rattle.std.proofs.lemmas.Bool.{cases_order}
use Rattle.go_scope.specs.declared.model.Role.{Role}
use Rattle.go_scope.specs.declared.model.Role.TheVariants.{Use, Declaring, LeftName, Implied, NotLexical}
use Rattle.go_scope.specs.Bindings.{Layout, Names, MayDeclare, IsLeftName, SameBlock, InScope, Declares, Counts, IsBoundTo, use_bound, own, is_use, may_declare}
use Rattle.go_scope.proofs.Nesting.{Nested}
use Rattle.go_scope.proofs.Innermost.{binds_once}

pub same_or_not : (a b : ℕ) → (a ≡ b) ⊎ (a ≡ b → ⊥)
same_or_not a b = elim (cases_order a b) [
  | inl e ↦ inl e
  | inr o ↦ elim o [ inl lt ↦ inr (λ e. omega arith) | inr gt ↦ inr (λ e. omega arith) ]
]

pub use_not_may : (r : Role) → is_use r ≡ true → may_declare r ≡ true → ⊥
use_not_may Use u m = cc
use_not_may (Declaring b s) u m = cc
use_not_may (LeftName b s) u m = cc
use_not_may (Implied b s) u m = cc
use_not_may (NotLexical p) u m = cc

module _ (l : Layout) (nested : Nested l) where
  abbrev pub Blocks : Names → ℕ → ℕ → Type 0
  Blocks names d e = MayDeclare l e × SameBlock l e d × (names e ≡ names d) × InScope l e d

  -- a left name of `:=` is new among declarations, and so among all identifiers that may declare
  pub none_blocks : (names : Names) (d : ℕ) → IsLeftName l d → ((e : ℕ) → Declares l names e → SameBlock l e d → names e ≡ names d → InScope l e d → ⊥) →
      (k e : ℕ) → e < k → Blocks names d e → ⊥
  none_blocks names d left h zero e lt b = omega arith
  none_blocks names d left h (suc k) e lt b =
      h e
      (record {
        may = b.0;
        is_new = λ left_e f mf sf nf hf.
            let less : f < e = nested.earlier f e mf left_e sf hf in
            let below : f < k = omega arith in
            none_blocks names d left h k f below (mf, sf ∙ b.1, nf ∙ b.2, nested.shrinking f e d mf b.0 sf less b.3);
      })
      b.1 b.2 b.3

  pub declares_if : (names : Names) (d : ℕ) → MayDeclare l d →
      (IsLeftName l d → (e : ℕ) → Declares l names e → SameBlock l e d → names e ≡ names d → InScope l e d → ⊥) → Declares l names d
  declares_if names d may h = record { may = may; is_new = λ left e me se ne he. none_blocks names d left (h left) (suc e) e (omega arith) (me, se, ne, he) }

  -- an identifier is bound to at most one declaration
  pub bound_once : (names : Names) (u d e : ℕ) → IsBoundTo l names u d → IsBoundTo l names u e → d ≡ e
  bound_once names u d e (use_bound i x) (use_bound j y) = binds_once l nested names (names u) u d e x y
  bound_once names u d e (own p c) (own q k) = sym p ∙ q
  bound_once names u d e (use_bound (inl i) x) (own q k) =
      absurd (use_not_may (l.role u) i (let P : ℕ → Type 0 = λ v. MayDeclare l v in subst P (sym q) k.declares.may))
  bound_once names u d e (use_bound (inr i) x) (own q k) = absurd (i.1 (let P : ℕ → Type 0 = λ v. Declares l names v in subst P (sym q) k.declares))
  bound_once names u d e (own p c) (use_bound (inl i) x) =
      absurd (use_not_may (l.role u) i (let P : ℕ → Type 0 = λ v. MayDeclare l v in subst P (sym p) c.declares.may))
  bound_once names u d e (own p c) (use_bound (inr i) x) = absurd (i.1 (let P : ℕ → Type 0 = λ v. Declares l names v in subst P (sym p) c.declares))

-- a declaring identifier is no use
own_only : (l : Layout) (names : Names) (u d : ℕ) → Declares l names u → IsBoundTo l names u d → (u ≡ d) × Counts l names d
own_only l names u d x (own p c) = (p, c)
own_only l names u d x (use_bound (inl i) b) = absurd (use_not_may (l.role u) i x.may)
own_only l names u d x (use_bound (inr i) b) = absurd (i.1 x)

pub own_binding : (l : Layout) (names : Names) (u d : ℕ) → Declares l names u → IsBoundTo l names u d ↔ ((u ≡ d) × Counts l names d)
own_binding l names u d x = (own_only l names u d x, λ e. own e.0 e.1)
