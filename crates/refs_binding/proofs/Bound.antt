-- Identifiers that scopes bind to a declaration.
use Rattle.std.proofs.Common.{ℕ, ◌≡◌, ◌<◌, ◌≤◌, List, length, sym, ap, subst, refl, arith}
use Rattle.std.specs.Prelude.{Option, Some, None, MatchOption, ◌↔◌}
use Rattle.go_scope.specs.Bindings.{Layout, Names, Counts, IsBoundTo, use_bound, own}
use Rattle.go_scope.specs.Site.{Site, sites_layout, sites_names}
use Rattle.types_declared.specs.Package.{Package}
use Rattle.types_declared.proofs.Binding.{within}
use Rattle.refs_binding.specs.declared.declaration.Declaration.{Declaration}
use Rattle.refs_binding.specs.declared.declaration.Declaration.TheVariants.{Predeclared, Declared, Field, Method}
use Rattle.refs_binding.specs.Binding.{BindsByScope, IsPredeclaredNumber}

-- what is bound to a declaration has its name
pub bound_named : (l : Layout) (names : Names) (u d : ℕ) → IsBoundTo l names u d → names u ≡ names d
bound_named l names u d (use_bound i b) = sym b.named
bound_named l names u d (own e c) = ap names e

pub bound_within : (sites : List Site) (names : Names) (u d : ℕ) → IsBoundTo (sites_layout sites) names u d → d < length sites
bound_within sites names u d b = within sites names u (Some d) b

-- the declaration that was found is the one to which it is bound
pub found_is : (l : Layout) (names : Names) (u d : ℕ) (r : Option ℕ) → ((a b : ℕ) → IsBoundTo l names u a → IsBoundTo l names u b → a ≡ b) →
    MatchOption r ((e : ℕ) → IsBoundTo l names u e → ⊥) (λ e. IsBoundTo l names u e) → (r ≡ Some d) ↔ IsBoundTo l names u d
found_is l names u d None one h = ((λ e. let z : ⊥ = cc in absurd z), (λ b. absurd (h d b)))
found_is l names u d (Some e) one h = ((λ s. let same : e ≡ d = cc in subst (IsBoundTo l names u) same h), (λ b. ap (λ x. Some x) (one e d h b)))

-- what is bound to nothing has no declaration
pub unbound : (p : Package) (u : ℕ) → ((d : ℕ) → IsBoundTo p.layout p.names u d → ⊥) → (d : Declaration) → BindsByScope p u d → ⊥
unbound p u none (Predeclared d) h = none d h.1
unbound p u none (Declared path d) h = none d h.2
unbound p u none (Field s) h = h
unbound p u none (Method s) h = h

-- the number that a declaration has in the table of a package

pub number_of_predeclared : (p : Package) (d : ℕ) → d < 11 → (u : ℕ) → BindsByScope p u (Predeclared d) ↔ IsBoundTo p.layout p.names u d
number_of_predeclared p d lt u = ((λ h. h.1), (λ b. (lt, b)))

pub number_beyond : (p : Package) (d : ℕ) → 11 ≤ d → (u : ℕ) → BindsByScope p u (Predeclared d) → ⊥
number_beyond p d ge u h = let lt : d < 11 = h.0 in absurd (omega arith)

pub number_of_declared : (p : Package) (path : List ℕ) (d : ℕ) → 11 ≤ d → path ≡ p.path → (u : ℕ) →
    BindsByScope p u (Declared path d) ↔ IsBoundTo p.layout p.names u d
number_of_declared p path d ge e u =
    let unknown : IsPredeclaredNumber d → ⊥ = λ h. let lt : d < 11 = h in absurd (omega arith) in
    ((λ h. h.2), (λ b. (e, unknown, b)))

pub number_elsewhere : (p : Package) (path : List ℕ) (d : ℕ) → (path ≡ p.path → ⊥) → (u : ℕ) → BindsByScope p u (Declared path d) → ⊥
number_elsewhere p path d n u h = n h.0

pub number_too_small : (p : Package) (path : List ℕ) (d : ℕ) → d < 11 → (u : ℕ) → BindsByScope p u (Declared path d) → ⊥
number_too_small p path d lt u h = let known : IsPredeclaredNumber d = lt in h.1 known

-- a declaration that counts is one of the table's
pub seen_within : (sites : List Site) (d : ℕ) → Counts (sites_layout sites) (sites_names sites) d → d < length sites
seen_within sites d c = bound_within sites (sites_names sites) d d (own refl c)
