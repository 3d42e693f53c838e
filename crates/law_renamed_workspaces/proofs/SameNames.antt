-- Where the names of all that declares and of all uses are the same, the bindings are.
use Rattle.std.proofs.Common.{ℕ, ◌≡◌, inl, inr, true, false, List, refl, sym, ◌∙◌, subst}
use Rattle.std.proofs.lemmas.Bool.{true≢false}
use Rattle.go_scope.specs.declared.model.Role.{Role}
use Rattle.go_scope.specs.declared.model.Role.TheVariants.{Use, Declaring, LeftName, Implied, NotLexical}
use Rattle.go_scope.specs.Bindings.{Layout, Names, Declares, Counts, BindsAt, IsUse, IsBoundTo, use_bound, own}
use Rattle.go_scope.specs.Bindings.{is_implied, is_left_name, is_use, may_declare}
use Rattle.law_rename.specs.Renaming.{HasSameBindings}

-- a left name may declare, and is not predeclared
pub left_roles : (r : Role) → is_left_name r ≡ true → (may_declare r ≡ true) × (is_implied r ≡ false)
left_roles (LeftName b start) e = (refl, refl)
left_roles (Declaring b start) e = absurd (true≢false (sym e))
left_roles (Implied b start) e = absurd (true≢false (sym e))
left_roles Use e = absurd (true≢false (sym e))
left_roles (NotLexical p) e = absurd (true≢false (sym e))

-- what uses a name is not predeclared
pub use_identifies : (r : Role) → is_use r ≡ true → is_implied r ≡ false
use_identifies Use e = refl
use_identifies (Declaring b start) e = refl
use_identifies (LeftName b start) e = refl
use_identifies (NotLexical p) e = refl
use_identifies (Implied b start) e = absurd (true≢false (sym e))

-- each identifier that may declare has the same name
abbrev AreSame : Layout → (a b : Names) → Type 0
AreSame l a b = (d : ℕ) → may_declare (l.role d) ≡ true → b d ≡ a d

back : (l : Layout) (a b : Names) → AreSame l a b → AreSame l b a
back l a b same d m = sym (same d m)

declares_by : (l : Layout) (a b : Names) → AreSame l a b → (d : ℕ) → Declares l a d → Declares l b d
declares_by l a b same d h = record {
  may = h.may;
  is_new = λ left e may block named scope. h.is_new left e may block (sym (same e may) ∙ named ∙ same d h.may) scope;
}

counts_by : (l : Layout) (a b : Names) → AreSame l a b → (d : ℕ) → Counts l a d → Counts l b d
counts_by l a b same d h = record {
  declares = declares_by l a b same d h.declares;
  first = λ e k named displaces.
      h.first e (declares_by l b a (back l a b same) e k) (sym (same e k.may) ∙ named ∙ same d h.declares.may) displaces;
}

binds_by : (l : Layout) (a b : Names) → AreSame l a b → (name : List ℕ) (u d : ℕ) → BindsAt l a name u d → BindsAt l b name u d
binds_by l a b same name u d h = record {
  counts = counts_by l a b same d h.counts;
  named = same d h.counts.declares.may ∙ h.named;
  in_scope = h.in_scope;
  innermost = λ e k named scope inside.
      h.innermost e (counts_by l b a (back l a b same) e k) (sym (same e k.declares.may) ∙ named) scope inside;
}

use_by : (l : Layout) (a b : Names) → AreSame l a b → (u : ℕ) → IsUse l a u → IsUse l b u
use_by l a b same u h = elim h [
  | inl use_of ↦ inl use_of
  | inr left ↦ inr (left.0, λ k. left.1 (declares_by l b a (back l a b same) u k))
]

bound_by : (l : Layout) (a b : Names) → AreSame l a b → ((u : ℕ) → is_use (l.role u) ≡ true → b u ≡ a u) → (u d : ℕ) → IsBoundTo l a u d → IsBoundTo l b u d
bound_by l a b same uses u d (use_bound used k) =
    let name : b u ≡ a u = elim used [ inl e ↦ uses u e | inr left ↦ same u (left_roles (l.role u) left.0).0 ] in
    use_bound (use_by l a b same u used) (subst (λ n. BindsAt l b n u d) (sym name) (binds_by l a b same (a u) u d k))
bound_by l a b same uses u d (own e c) = own e (counts_by l a b same d c)

pub same_bindings : (l : Layout) (a b : Names) → AreSame l a b → ((u : ℕ) → is_use (l.role u) ≡ true → b u ≡ a u) → HasSameBindings l a b
same_bindings l a b same uses u d =
    (bound_by l a b same uses u d, bound_by l b a (back l a b same) (λ v e. sym (uses v e)) u d)
