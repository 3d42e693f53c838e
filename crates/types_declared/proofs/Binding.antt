-- The declaration to which the identifier at a token is bound, step by step.
use Rattle.std.proofs.Common.{ℕ, ◌≡◌, ◌<◌, inl, inr, List, length, ap, sym, subst, ◌∙◌, true, MatchOption}
use Rattle.std.specs.Prelude.{Option, Some, None}
use Rattle.std.proofs.lemmas.Bool.{cases_lt, cases_order, true≢false}
use Rattle.std.proofs.lemmas.Option.{slice_get_past}
use Rattle.go_scope.specs.Bindings.{Layout, Names, IsBoundTo, use_bound, own, may_declare}
use Rattle.go_scope.specs.Site.{Site, or_blank, sites_layout}
use Rattle.go_scope.specs.Table.{IsFirstOf, IsFoundAt, LiesAt}
use Rattle.types_declared.specs.Package.{Package}
use Rattle.types_declared.specs.Written.{BindsToken}
use Rattle.go_scope.specs.ByToken.{IsFirstBelow}

pub one_first : (P : ℕ → Type 0) (n u v : ℕ) → IsFirstOf P n u → IsFirstOf P n v → u ≡ v
one_first P n u v h k = elim (cases_order u v) [
  | inl same ↦ same
  | inr o ↦ elim o [ inl less ↦ absurd (k.first u less h.holds) | inr more ↦ absurd (h.first v more k.holds) ]
]

-- a token without an identifier is bound to no declaration
pub bound_nowhere : (p : Package) (file token : ℕ) (o : Option ℕ) → o ≡ None →
    IsFirstBelow (LiesAt p.layout (record { file = file; index = token })) p.size o →
    (d : ℕ) → BindsToken p file token d → ⊥
bound_nowhere p file token o e h d b =
    let none : (u : ℕ) → u < p.size → LiesAt p.layout (record { file = file; index = token }) u → ⊥ =
    subst (IsFirstBelow (LiesAt p.layout (record { file = file; index = token })) p.size) e h in
    none b.identifier b.found.within b.found.holds

-- the binding of the identifier found at a token
pub found_at : (p : Package) (file token u : ℕ) (o : Option ℕ) → o ≡ Some u →
    IsFirstBelow (LiesAt p.layout (record { file = file; index = token })) p.size o →
    IsFoundAt p.layout p.size (record { file = file; index = token }) u
found_at p file token u o e h = subst (IsFirstBelow (LiesAt p.layout (record { file = file; index = token })) p.size) e h

pub same_bound : (p : Package) (file token u d : ℕ) → IsFoundAt p.layout p.size (record { file = file; index = token }) u → BindsToken p file token d →
    IsBoundTo p.layout p.names u d
same_bound p file token u d found b =
    subst (λ v. IsBoundTo p.layout p.names v d) (one_first (LiesAt p.layout (record { file = file; index = token })) p.size b.identifier u b.found found)
    b.bound

pub bound_by : (p : Package) (file token u : ℕ) (o : Option ℕ) → IsFoundAt p.layout p.size (record { file = file; index = token }) u →
    MatchOption o ((d : ℕ) → IsBoundTo p.layout p.names u d → ⊥) (λ d. IsBoundTo p.layout p.names u d) →
    MatchOption o ((d : ℕ) → BindsToken p file token d → ⊥) (λ d. BindsToken p file token d)
bound_by p file token u None found h = λ d b. h d (same_bound p file token u d found b)
bound_by p file token u (Some d) found h = record { identifier = u; found = found; bound = h }

pub only_by : (p : Package) (file token u : ℕ) (o : Option ℕ) → IsFoundAt p.layout p.size (record { file = file; index = token }) u →
    ((d e : ℕ) → IsBoundTo p.layout p.names u d → IsBoundTo p.layout p.names u e → d ≡ e) →
    MatchOption o ((d : ℕ) → IsBoundTo p.layout p.names u d → ⊥) (λ d. IsBoundTo p.layout p.names u d) →
    MatchOption o (Unit {0}) (λ d. (e : ℕ) → BindsToken p file token e → e ≡ d)
only_by p file token u None found one h = tt
only_by p file token u (Some d) found one h = λ e b. one e d (same_bound p file token u e found b) h

-- the declaration to which an identifier is bound is one of the table
declared_within : (sites : List Site) (d : ℕ) → may_declare ((sites_layout sites).role d) ≡ true → d < length sites
declared_within sites d may = elim (cases_lt d (length sites)) [
  | inl below ↦ below
  | inr ge ↦ absurd (true≢false (sym may ∙ ap (λ s. may_declare (or_blank s).role) (slice_get_past sites d ge)))
]

bound_may : (l : Layout) (names : Names) (u d : ℕ) → IsBoundTo l names u d → may_declare (l.role d) ≡ true
bound_may l names u d (use_bound is b) = b.counts.declares.may
bound_may l names u d (own e counts) = counts.declares.may

pub within : (sites : List Site) (names : Names) (u : ℕ) (o : Option ℕ) →
    MatchOption o ((d : ℕ) → IsBoundTo (sites_layout sites) names u d → ⊥) (λ d. IsBoundTo (sites_layout sites) names u d) →
    MatchOption o (Unit {0}) (λ d. d < length sites)
within sites names u None h = tt
within sites names u (Some d) h = declared_within sites d (bound_may (sites_layout sites) names u d h)
