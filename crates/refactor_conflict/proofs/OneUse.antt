-- The scopes of a workspace bind the identifier at a place to one declaration at most.
use Rattle.std.proofs.Common.{ℕ, zero, suc, ◌≡◌, ◌<◌, List, [], length, map, refl, ap, sym, subst, ◌∙◌}
use Rattle.std.specs.Prelude.{Option, Some, None, Contains, slice_get}
use Rattle.std.proofs.lemmas.Option.{none-some, same_Some}
use Rattle.base_lemmas.proofs.Elements.{first_in, later_in}
use Rattle.base_files.specs.Path.{folder}
use Rattle.base_files.specs.Workspace.{Workspace}
use Rattle.base_files.specs.declared.place.Place.{Place}
use Rattle.go_ast.specs.SourceFile.{SourceFile, FileParts, source_of}
use Rattle.workspace_graph.specs.Parsed.{AreParsed, none, tree}
use Rattle.go_scope.specs.Bindings.{Layout, IsIdentifier}
use Rattle.go_scope.specs.FileSites.{package_sites}
use Rattle.go_scope.specs.Named.{with_names, named_sites}
use Rattle.go_scope.specs.SpelledFiles.{spelled_file}
use Rattle.go_scope.specs.Packages.{ScopedPackage, scoped, layout_in}
use Rattle.go_scope.specs.Site.{sites_layout}
use Rattle.go_scope.specs.Trees.{AreNumbered}
use Rattle.go_scope.specs.WellFormed.{WellFormed}
use Rattle.go_scope.proofs.NamedSites.{named_well_formed, package_level}
use Rattle.go_scope.proofs.PackageRegions.{package_well_formed}
use Rattle.law_tokens.proofs.HeldBytes.{numbered_files, one_named_begins}
use Rattle.law_tokens.proofs.OwnPaths.{own_paths, package_sources}
use Rattle.types_declared.specs.Package.{Package}
use Rattle.workspace_check.proofs.PackageFiles.{in_folder}
use Rattle.refs_binding.specs.declared.declaration.Declaration.{Declaration}
use Rattle.refs_binding.specs.Binding.{BindsByScope}
use Rattle.refs_binding.specs.Identifiers.{NameBegins, BeginsAt, file_of}
use Rattle.refs_binding.proofs.Excluding.{one_by_scope}
use Rattle.refs_binding.proofs.Files.{place_of_name}
use Rattle.refactor_conflict.specs.ScopedPackages.{IsScopedIn}
use Rattle.refactor_conflict.specs.ScopeBindings.{IsScopeUse}
use Rattle.refactor_conflict.proofs.OneScoped.{one_scoped}

-- a file lies in the folder of its package
pub entry_of : {es : List (List ℕ × List ℕ)} {ts : List FileParts} → AreParsed es ts [] → (i : ℕ) (s : SourceFile) → slice_get (map source_of ts) i ≡ Some s →
    (e : List ℕ × List ℕ) × (Contains es e × (s.path ≡ e.0))
entry_of none i s at = absurd (none-some s at)
entry_of (tree {e = e} {es = es} {t = t} is rest) zero s at =
    (e, (first_in e es, ap (λ (z : SourceFile). z.path) (sym (same_Some (source_of t) s at)) ∙ is.of_path))
entry_of (tree {e = e} {es = es} is rest) (suc i) s at = let r = entry_of rest i s at in (r.0, (later_in e es r.0 r.1.0, r.1.1))

abbrev Begins : List SourceFile → Layout → List ℕ → ℕ → ℕ → Type 0
Begins files l path offset u = IsIdentifier l u × NameBegins (slice_get files (l.place u).file) (l.place u).index path offset

-- The parts of a package that its scopes determine.
module _ (w : Workspace) (p : Package) (h : IsScopedIn w p) where
  abbrev names_of : ℕ → Option (List ℕ)
  names_of = h.is_package.is_laid.names

  abbrev table_of : ScopedPackage
  table_of = with_names names_of (scoped h.files)

  same_layout : p.layout ≡ layout_in table_of
  same_layout = ap (λ (x : Package). x.layout) h.is_package.is_package ∙ ap layout_in h.is_package.is_laid.is_named

  same_size : p.size ≡ length table_of.sites
  same_size = ap (λ (x : Package). x.size) h.is_package.is_package ∙ ap (λ (s : ScopedPackage). length s.sites) h.is_package.is_laid.is_named

  same_files : p.files ≡ map source_of h.files
  same_files = ap (λ (x : Package). x.files) h.is_package.is_package

  -- its layout is well-formed
  pub scoped_formed : WellFormed p.layout
  scoped_formed =
      let sites = package_sites (map spelled_file h.files) in
      let numbered : AreNumbered (map spelled_file h.files) = numbered_files h.files (package_sources w p.path h.files h.parsed) in
      let plain : WellFormed (sites_layout sites) = package_well_formed (map spelled_file h.files) numbered in
      let laid : WellFormed (sites_layout (named_sites names_of sites)) =
      named_well_formed names_of sites plain (package_level (map spelled_file h.files) numbered) in
      subst WellFormed (sym same_layout) laid

  -- one identifier begins at a place, and its file lies in the folder of the package
  begins_laid : (file : List ℕ) (offset u : ℕ) → BeginsAt p file offset u → Begins (map source_of h.files) (layout_in table_of) file offset u
  begins_laid file offset u a =
      subst (λ l. Begins (map source_of h.files) l file offset u) same_layout (subst (λ fs. Begins fs p.layout file offset u) same_files (a.0.1, a.1))

  one_begins : (file : List ℕ) (offset u v : ℕ) → BeginsAt p file offset u → BeginsAt p file offset v → u ≡ v
  one_begins file offset u v a b =
      let l = layout_in table_of in
      let x = begins_laid file offset u a in
      let y = begins_laid file offset v b in
      one_named_begins names_of h.files (package_sources w p.path h.files h.parsed) (own_paths w p.path h.files h.parsed) file offset u v
      (subst (λ n. u < n) same_size a.0.0) (subst (λ n. v < n) same_size b.0.0)
      (x.0, place_of_name h.files (l.place u).file (l.place u).index file offset x.1)
      (y.0, place_of_name h.files (l.place v).file (l.place v).index file offset y.1)

  by_file : (k token : ℕ) (o : Option SourceFile) (file : List ℕ) (offset : ℕ) → slice_get p.files k ≡ o → NameBegins o token file offset → folder file ≡ p.path
  by_file k token None file offset e n = absurd n
  by_file k token (Some f) file offset e n =
      let r = entry_of h.parsed k f (subst (λ fs. slice_get fs k ≡ Some f) same_files e) in
      ap folder (sym n.1 ∙ r.1.1) ∙ in_folder w p.path r.0 r.1.0

  begins_in_folder : (file : List ℕ) (offset u : ℕ) → BeginsAt p file offset u → folder file ≡ p.path
  begins_in_folder file offset u b = by_file (p.layout.place u).file (p.layout.place u).index (file_of p u) file offset refl b.1

-- The identifier at a place is one identifier of one package, and is bound once.
pub one_scope_use : (w : Workspace) (place : Place) (d e : Declaration) → IsScopeUse w d place → IsScopeUse w e place → d ≡ e
one_scope_use w place d e a b =
    let p = a.used_in in
    let path : b.used_in.path ≡ p.path =
    sym (begins_in_folder w b.used_in b.is_package place.path place.offset b.user b.begins)
    ∙ begins_in_folder w p a.is_package place.path place.offset a.user a.begins in
    let same : b.used_in ≡ p = one_scoped w b.used_in p b.is_package a.is_package path in
    let begins : BeginsAt p place.path place.offset b.user = subst (λ (x : Package). BeginsAt x place.path place.offset b.user) same b.begins in
    let user : b.user ≡ a.user = one_begins w p a.is_package place.path place.offset b.user a.user begins a.begins in
    let bound : BindsByScope p b.user e = subst (λ (x : Package). BindsByScope x b.user e) same b.bound in
    one_by_scope p (scoped_formed w p a.is_package) a.user d e a.bound (subst (λ v. BindsByScope p v e) user bound)
