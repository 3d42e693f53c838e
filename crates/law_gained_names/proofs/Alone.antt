-- At the literal of the import stands no identifier but the import.
use Rattle.std.proofs.Common.{ℕ, zero, suc, ◌≡◌, ◌<◌, ◌≤◌, inl, inr, List, [], ◌∷◌, ◌++◌, None, Bool, true, false, length, map, refl, sym, ap}
use Rattle.std.proofs.Common.{◌∙◌, subst, arith}
use Rattle.std.specs.Prelude.{slice_get}
use Rattle.std.proofs.lemmas.Bool.{cases_lt, true≢false}
use Rattle.std.proofs.lemmas.Option.{slice_get_past}
use Rattle.go_ast.specs.declared.syntax.Token.{Token}
use Rattle.go_ast.specs.Flatten.{flatten, all_tokens, imports_tokens, decl_tokens}
use Rattle.go_scope.specs.declared.model.Position.{Position}
use Rattle.go_scope.specs.Bindings.{Layout, is_implied}
use Rattle.go_scope.specs.FileSites.{files_sites, package_sites, universe, universe_site}
use Rattle.go_scope.specs.Named.{named_sites, with_names}
use Rattle.go_scope.specs.Packages.{ScopedPackage, scoped, layout_in}
use Rattle.go_scope.specs.Site.{Site, or_blank, sites_layout}
use Rattle.go_scope.specs.SpelledFiles.{spelled_file}
use Rattle.go_scope.specs.Table.{LiesAt}
use Rattle.go_scope.specs.Trees.{AreRising}
use Rattle.go_scope.proofs.NamedSites.{identifier_stays, place_stays}
use Rattle.law_tokens.specs.Order.{StandInOrder}
use Rattle.law_tokens.proofs.FileIdentifiers.{AreIdentifiers, files_identify, role_in, identifier_in}
use Rattle.law_tokens.proofs.HeldBytes.{numbered_files}
use Rattle.law_tokens.proofs.Ordered.{package_ordered, named_ordered, one_stands}
use Rattle.law_rename.specs.Around.{AroundImport, bare_import, file_with, imports_with}
use Rattle.law_rename.specs.Gained.{Gain, import_site}
use Rattle.law_changed_types.specs.SameBindings.{IsParsedPackage}
use Rattle.types_declared.specs.Package.{Package}
use Rattle.law_gained_names.specs.NamedPackage.{IsNamedPackage}
use Rattle.law_gained_names.proofs.Layouts.{stood_at, here_within}
use Rattle.law_gained_names.proofs.NamedImportsFiles.{Has, has_front, has_all, literal_in_imports, rising}

-- identifiers in order

in_order : (p : Package) → IsParsedPackage p → StandInOrder p.layout p.size
in_order p h =
    let laid = h.is_package.is_laid in
    let plain = package_ordered (map spelled_file h.files) (numbered_files h.files h.sources) in
    let named = named_ordered laid.names (scoped h.files) plain in
    let table = with_names laid.names (scoped h.files) in
    let layout : p.layout ≡ layout_in table = ap (λ (x : Package). x.layout) h.is_package.is_package ∙ ap layout_in laid.is_named in
    let size : p.size ≡ length table.sites =
    ap (λ (x : Package). x.size) h.is_package.is_package ∙ ap (λ (t : ScopedPackage). length t.sites) laid.is_named in
    subst (λ (l : Layout). StandInOrder l p.size) (sym layout) (subst (λ n. StandInOrder (layout_in table) n) (sym size) named)

-- predeclared names are at the first token, as far as they are at one

implied_first : (names : List (List ℕ)) (xs : List Site) → AreIdentifiers xs → (u : ℕ) → is_implied (role_in (map universe_site names ++ xs) u) ≡ true →
    (or_blank (slice_get (map universe_site names ++ xs) u)).place.index ≡ 0
implied_first [] xs are u e = absurd (true≢false (sym e ∙ identifier_in xs are u))
implied_first (n ∷ names) xs are zero e = refl
implied_first (n ∷ names) xs are (suc u) e = implied_first names xs are u e

implied_at_first : (p : Package) → IsParsedPackage p → (u : ℕ) → is_implied (p.layout.role u) ≡ true → (p.layout.place u).index ≡ 0
unfolding package_sites
implied_at_first p h u e =
    let laid = h.is_package.is_laid in
    let sites = package_sites (map spelled_file h.files) in
    let layout : p.layout ≡ sites_layout (named_sites laid.names sites) =
    ap (λ (x : Package). x.layout) h.is_package.is_package ∙ ap layout_in laid.is_named in
    let implied : is_implied (role_in sites u) ≡ true =
    sym (identifier_stays laid.names sites u) ∙ ap (λ (l : Layout). is_implied (l.role u)) (sym layout) ∙ e in
    ap (λ (l : Layout). (l.place u).index) layout ∙ ap (λ (z : Position). z.index) (place_stays laid.names sites u)
    ∙ implied_first universe (files_sites 0 (map spelled_file h.files)) (files_identify 0 (map spelled_file h.files)) u implied

-- the literal is not the first token

has_at_least : (k m : ℕ) (xs : List Token) → AreRising m xs → Has k xs → m ≤ k
has_at_least k m [] rise h = absurd h
has_at_least k m (x ∷ xs) rise h =
    let here_from : m ≤ x.place = rise.0 in
    elim h [
      | inl here ↦ (omega arith)
      | inr rest ↦ (let later : suc x.place ≤ k = has_at_least k (suc x.place) xs rise.1 rest in omega arith)
    ]

not_first : (number : ℕ) (a : AroundImport) → AreRising 0 (flatten (file_with (bare_import number) a)) → 0 < number
unfolding flatten
not_first number a rise =
    let tokens = all_tokens imports_tokens (a.before ++ imports_with (bare_import number) a ∷ a.after) in
    let has = has_front number tokens (all_tokens decl_tokens a.decls)
    (has_all number imports_tokens a.before (imports_with (bare_import number) a) a.after (literal_in_imports number a)) in
    let le : suc a.semicolon ≤ number = has_at_least number (suc a.semicolon) (tokens ++ all_tokens decl_tokens a.decls) rise.1.1.1 has in
    omega arith

module _ (i : Gain) (at : ℕ) (p q : Package) (a : IsNamedPackage i at p q) where
  behind_start : 0 < i.number
  behind_start = not_first i.number a.file.around (rising i at p q a.parsed a.file)

  import_is : p.layout.role at ≡ (import_site i i.name).role
  import_is = ap (λ (l : Layout). l.role at) a.was.layout ∙ ap (λ o. (or_blank o).role) (stood_at i at a.old a.new a.gained)

  import_lies : LiesAt p.layout (record { file = i.rank; index = i.number }) at
  import_lies =
      let place : p.layout.place at ≡ (import_site i i.name).place =
      ap (λ (l : Layout). l.place at) a.was.layout ∙ ap (λ o. (or_blank o).place) (stood_at i at a.old a.new a.gained) in
      (ap is_implied import_is, ap (λ (z : Position). z.file) place, ap (λ (z : Position). z.index) place)

  import_within : at < p.size
  import_within = subst (λ n. at < n) (sym a.was.size) (here_within i at a.old a.new a.gained)

  by_role : (d : ℕ) → (d ≡ at → ⊥) → d < p.size → (p.layout.place d).file ≡ i.rank → (p.layout.place d).index ≡ i.number → (b : Bool) →
      is_implied (p.layout.role d) ≡ b → ⊥
  by_role d other less file index true e =
      let first : (p.layout.place d).index ≡ 0 = implied_at_first p a.parsed d e in
      let behind : 0 < i.number = behind_start in
      omega arith
  by_role d other less file index false e =
      other (one_stands p.layout p.size (in_order p a.parsed) (record { file = i.rank; index = i.number }) d at less import_within (e, file, index) import_lies)

  pub alone : (d : ℕ) → (d ≡ at → ⊥) → (p.layout.place d).file ≡ i.rank → (p.layout.place d).index ≡ i.number → ⊥
  alone d other file index = elim (cases_lt d p.size) [
    | inl less ↦ by_role d other less file index (is_implied (p.layout.role d)) refl
    | inr ge ↦
        let none : slice_get a.old d ≡ None = slice_get_past a.old d (subst (λ n. n ≤ d) a.was.size ge) in
        let first : (p.layout.place d).index ≡ 0 =
        ap (λ (l : Layout). (l.place d).index) a.was.layout ∙ ap (λ o. (or_blank o).place.index) none in
        let behind : 0 < i.number = behind_start in
        omega arith
  ]
