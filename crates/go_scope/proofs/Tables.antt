-- Facts of a table's list of identifiers, as facts of the package that the table stands for.
use Rattle.std.proofs.Common.{ℕ, zero, suc, ◌≡◌, List, [], ◌∷◌, arith, length, map, inl, inr, Option, Some, None, sym, ap, subst, ◌∙◌, ◌<◌, get_or}
use Rattle.std.specs.Prelude.{slice_get, MatchOption}
use Rattle.std.proofs.lemmas.Bool.{cases_order}
use Rattle.std.proofs.lemmas.Option.{slice_get-get_or}
use Rattle.go_ast.specs.SourceFile.{FileParts}
use Rattle.go_scope.specs.declared.model.Identifier.{Identifier}
use Rattle.go_scope.specs.Bindings.{Layout, Names, MayDeclare}
use Rattle.go_scope.specs.IdentifierViews.{site_of}
use Rattle.go_scope.specs.Packages.{ScopedPackage, layout_in, names_in}
use Rattle.go_scope.specs.Site.{Site, sites_layout, sites_names}
use Rattle.go_scope.specs.Table.{layout_of, names_of, IsFirstOf}
use Rattle.go_scope.proofs.Declared.{in_sites}

pub of_table : (P : List FileParts → Layout → Names → ℕ → Type 0) (xs ys : List Identifier) (files : List FileParts) (p : ScopedPackage) → xs ≡ ys →
    files ≡ p.files → map site_of ys ≡ p.sites →
    P files (layout_of xs) (names_of xs) (length xs) → P p.files (layout_in p) (names_in p) (length p.sites)
of_table P xs ys files p ex ef es h =
    let X : List Identifier → Type 0 = λ zs. P files (layout_of zs) (names_of zs) (length zs) in
    let F : List FileParts → Type 0 = λ fs. P fs (layout_in p) (names_in p) (length p.sites) in
    let S : List Site → Type 0 = λ zs. P files (sites_layout zs) (sites_names zs) (length zs) in
    subst F ef (subst S es (in_sites (λ l names n. P files l names n) ys (subst X ex h)))

-- a fact of a table's list of identifiers is one of the slice that is read
pub in_slice : (P : List Identifier → Type 0) (xs ys : List Identifier) → xs ≡ ys → P ys → P xs
in_slice P xs ys e h = subst P (sym e) h

pub found_file : (files : List FileParts) (at : ℕ) (x : FileParts) → at < length files → x ≡ get_or files at x → slice_get files at ≡ Some x
found_file files at x lt e = slice_get-get_or files at x lt ∙ ap Some (sym e)

first_once : (P : ℕ → Type 0) (size u v : ℕ) → IsFirstOf P size u → IsFirstOf P size v → u ≡ v
first_once P size u v f g = elim (cases_order u v) [
  | inl e ↦ e
  | inr o ↦ elim o [ inl lt ↦ absurd (g.first u lt f.holds) | inr gt ↦ absurd (f.first v gt g.holds) ]
]

-- the binding of the first identifier at a place is that of each identifier that is the first there
pub resolved : (P : ℕ → Type 0) (B : ℕ → ℕ → Type 0) (size u : ℕ) (r : Option ℕ) → IsFirstOf P size u → MatchOption r ((d : ℕ) → B u d → ⊥) (λ d. B u d) →
    MatchOption r ((v d : ℕ) → IsFirstOf P size v → B v d → ⊥) (λ d. (v : ℕ) × (IsFirstOf P size v × B v d))
resolved P B size u None f h = λ v d g b. (let Q : ℕ → Type 0 = λ w. B w d in h d (subst Q (first_once P size v u g f) b))
resolved P B size u (Some d) f h = (u, (f, h))

pub may_in_range : (xs : List Identifier) (d : ℕ) → MayDeclare (layout_of xs) d → d < length xs
may_in_range [] d m = cc
may_in_range (x ∷ xs) zero m = omega arith
may_in_range (x ∷ xs) (suc d) m = let less : d < length xs = may_in_range xs d m in omega arith
