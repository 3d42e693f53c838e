-- The name that the literal of an import stands for is an identifier.
use Rattle.std.proofs.Common.{ℕ, zero, suc, ◌≡◌, ◌-◌, ◌<◌, List, [], ◌∷◌, ◌++◌, Bool, true, false, map, ap, sym, subst, refl, ◌∙◌, arith, if◌then◌else◌}
use Rattle.std.proofs.lemmas.Bool.{true≢false}
use Rattle.base_files.specs.Workspace.{Workspace}
use Rattle.go_scope.specs.declared.model.Purpose.TheVariants as purpose
use Rattle.go_scope.specs.declared.model.Role.{Role}
use Rattle.go_scope.specs.declared.model.Role.TheVariants.{NotLexical}
use Rattle.go_scope.specs.Bindings.{Layout, IsIdentifier, is_implied}
use Rattle.go_scope.specs.FileSites.{SpelledFile, file_sites, files_sites, universe, universe_site, package_sites}
use Rattle.go_scope.specs.SpelledFiles.{spelled_file}
use Rattle.go_scope.specs.Packages.{scoped, layout_in}
use Rattle.go_scope.specs.Site.{Site}
use Rattle.law_tokens.proofs.FileIdentifiers.{AreIdentifiers, files_identify, role_in, identifier_in}
use Rattle.go_scope.proofs.NamedSites.{identifier_stays}
use Rattle.law_tokens.proofs.Roles.{role_keeps}
use Rattle.types_declared.specs.Package.{Package}
use Rattle.workspace_check.specs.Verdicts.{Verdicts, IsPackageIn}
use Rattle.refs_binding.specs.Identifiers.{IsInFiles, is_named_literal, named_by}
use Rattle.refs_lookup.proofs.OnePlace.{names_of, laid_of, same_layout}

-- the literal of an import that has a name is not the first identifier of a file

abbrev IsNoLiteral : Role → Type 0
IsNoLiteral r = r ≡ NotLexical purpose.ImportPath → ⊥

abbrev Begins : List Site → Type 0
Begins [] = Unit {0}
Begins (x ∷ xs) = IsNoLiteral x.role

clause_first : (fs : List SpelledFile) → Begins (files_sites 0 fs)
unfolding files_sites file_sites
clause_first [] = tt
clause_first (f ∷ fs) = λ e. let z : ⊥ = cc in z

-- one stands before it
one_before : (names : List (List ℕ)) (xs : List Site) → AreIdentifiers xs → Begins xs → (u : ℕ) →
    role_in (map universe_site names ++ xs) u ≡ NotLexical purpose.ImportPath →
    (v : ℕ) × ((suc v ≡ u) × (is_implied (role_in (map universe_site names ++ xs) v) ≡ false))
one_before [] [] all first u e = let z : ⊥ = cc in absurd z
one_before [] (x ∷ xs) all first zero e = absurd (first e)
one_before [] (x ∷ xs) all first (suc v) e = (v, (refl, identifier_in (x ∷ xs) all v))
one_before (n ∷ names) xs all first zero e = let z : ⊥ = cc in absurd z
one_before (n ∷ names) xs all first (suc u) e = let r = one_before names xs all first u e in (suc r.0, (ap suc r.1.0, r.1.1))

-- behind one stands another
one_behind : (names : List (List ℕ)) (xs : List Site) → AreIdentifiers xs → (u : ℕ) → is_implied (role_in (map universe_site names ++ xs) u) ≡ false →
    is_implied (role_in (map universe_site names ++ xs) (suc u)) ≡ false
one_behind [] xs all u e = identifier_in xs all (suc u)
one_behind (n ∷ names) xs all zero e = absurd (true≢false e)
one_behind (n ∷ names) xs all (suc u) e = one_behind names xs all u e

literal_role : (r : Role) → is_named_literal r ≡ true → r ≡ NotLexical purpose.ImportPath
literal_role (NotLexical purpose.ImportPath) e = refl
literal_role r e = absurd (true≢false (sym e))

-- in a package

module _ (w : Workspace) (known : Verdicts) (path : List ℕ) (p : Package) (h : IsPackageIn w known path p) where
  name_before : (u : ℕ) → p.layout.role u ≡ NotLexical purpose.ImportPath → (v : ℕ) × ((suc v ≡ u) × IsIdentifier p.layout v)
  unfolding package_sites
  name_before u e =
      let names = names_of w known path p h in
      let layout = same_layout w known path p h in
      let own = files_sites 0 (map spelled_file h.files) in
      let sites = (scoped h.files).sites in
      let laid : (layout_in (laid_of w known path p h)).role u ≡ NotLexical purpose.ImportPath =
      subst (λ (l : Layout). l.role u ≡ NotLexical purpose.ImportPath) layout e in
      let plain : role_in sites u ≡ NotLexical purpose.ImportPath = (role_keeps purpose.ImportPath refl names sites u).0 laid in
      let r = one_before universe own (files_identify 0 (map spelled_file h.files)) (clause_first (map spelled_file h.files)) u plain in
      let there : IsIdentifier (layout_in (laid_of w known path p h)) r.0 = identifier_stays names sites r.0 ∙ r.1.1 in
      (r.0, (r.1.0, subst (λ (l : Layout). IsIdentifier l r.0) (sym layout) there))

  pub next_identifier : (u : ℕ) → IsIdentifier p.layout u → IsIdentifier p.layout (suc u)
  unfolding package_sites
  next_identifier u i =
      let names = names_of w known path p h in
      let layout = same_layout w known path p h in
      let own = files_sites 0 (map spelled_file h.files) in
      let sites = (scoped h.files).sites in
      let laid : IsIdentifier (layout_in (laid_of w known path p h)) u = subst (λ (l : Layout). IsIdentifier l u) layout i in
      let plain : is_implied (role_in sites u) ≡ false = sym (identifier_stays names sites u) ∙ laid in
      let next : is_implied (role_in sites (suc u)) ≡ false = one_behind universe own (files_identify 0 (map spelled_file h.files)) u plain in
      let there : IsIdentifier (layout_in (laid_of w known path p h)) (suc u) = identifier_stays names sites (suc u) ∙ next in
      subst (λ (l : Layout). IsIdentifier l (suc u)) (sym layout) there

  stands_by : (u : ℕ) → IsInFiles p u → (b : Bool) → is_named_literal (p.layout.role u) ≡ b → IsInFiles p (if b then u - 1 else u)
  stands_by u stands true e =
      let v = name_before u (literal_role (p.layout.role u) e) in
      let next : suc v.0 ≡ u = v.1.0 in
      let lt : u < p.size = stands.0 in
      subst (IsInFiles p) (let same : v.0 ≡ u - 1 = omega arith in same) ((omega arith), v.1.1)
  stands_by u stands false e = stands

  pub name_stands : (u : ℕ) → IsInFiles p u → IsInFiles p (named_by p.layout u)
  name_stands u stands = stands_by u stands (is_named_literal (p.layout.role u)) refl
