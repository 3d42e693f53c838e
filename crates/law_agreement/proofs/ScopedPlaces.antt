-- The identifiers of a package after a change, by its scopes: one begins at a place, and what the scopes of the workspace bind there it is
-- bound to.
use Rattle.std.proofs.Common.{ℕ, ◌≡◌, ◌<◌, List, length, map, ap, sym, subst, ◌∙◌}
use Rattle.std.specs.Prelude.{Option, slice_get}
use Rattle.base_files.specs.Workspace.{Workspace}
use Rattle.base_files.specs.declared.place.Place.{Place}
use Rattle.go_ast.specs.SourceFile.{SourceFile, source_of}
use Rattle.go_scope.specs.Bindings.{Layout, IsIdentifier}
use Rattle.go_scope.specs.Named.{with_names}
use Rattle.go_scope.specs.Packages.{ScopedPackage, scoped, layout_in}
use Rattle.law_tokens.proofs.HeldBytes.{one_named_begins}
use Rattle.law_tokens.proofs.OwnPaths.{own_paths, package_sources}
use Rattle.types_declared.specs.Package.{Package}
use Rattle.refs_binding.specs.declared.declaration.Declaration.{Declaration}
use Rattle.refs_binding.specs.Binding.{BindsByScope}
use Rattle.refs_binding.specs.Identifiers.{NameBegins, BeginsAt}
use Rattle.refs_binding.proofs.Files.{place_of_name}
use Rattle.refactor_conflict.specs.ScopedPackages.{IsScopedIn}
use Rattle.refactor_conflict.specs.ScopeBindings.{IsScopeUse}
use Rattle.refactor_conflict.proofs.OneScoped.{one_scoped}
use Rattle.law_renamed_workspaces.proofs.Apart.{scoped_in_folder}

abbrev Begins : List SourceFile → Layout → List ℕ → ℕ → ℕ → Type 0
Begins files l path offset u = IsIdentifier l u × NameBegins (slice_get files (l.place u).file) (l.place u).index path offset

-- The parts of a package that its scopes determine.
module _ (w : Workspace) (p : Package) (h : IsScopedIn w p) where
  abbrev names_of : ℕ → Option (List ℕ)
  names_of = h.is_package.is_laid.names

  abbrev table_of : ScopedPackage
  table_of = with_names names_of (scoped h.files)

  same_layout : p.layout ≡ layout_in table_of
  same_layout = ap (λ (x : Package). x.layout) h.is_package.is_package ∙ ap layout_in h.is_package.is_laid.is_named

  same_size : p.size ≡ length table_of.sites
  same_size = ap (λ (x : Package). x.size) h.is_package.is_package ∙ ap (λ (s : ScopedPackage). length s.sites) h.is_package.is_laid.is_named

  same_files : p.files ≡ map source_of h.files
  same_files = ap (λ (x : Package). x.files) h.is_package.is_package

  -- one identifier begins at a place
  begins_laid : (file : List ℕ) (offset u : ℕ) → BeginsAt p file offset u → Begins (map source_of h.files) (layout_in table_of) file offset u
  begins_laid file offset u a =
      subst (λ l. Begins (map source_of h.files) l file offset u) same_layout (subst (λ fs. Begins fs p.layout file offset u) same_files (a.0.1, a.1))

  pub one_scoped_begins : (file : List ℕ) (offset u v : ℕ) → BeginsAt p file offset u → BeginsAt p file offset v → u ≡ v
  one_scoped_begins file offset u v a b =
      let l = layout_in table_of in
      let x = begins_laid file offset u a in
      let y = begins_laid file offset v b in
      one_named_begins names_of h.files (package_sources w p.path h.files h.parsed) (own_paths w p.path h.files h.parsed) file offset u v
      (subst (λ n. u < n) same_size a.0.0) (subst (λ n. v < n) same_size b.0.0)
      (x.0, place_of_name h.files (l.place u).file (l.place u).index file offset x.1)
      (y.0, place_of_name h.files (l.place v).file (l.place v).index file offset y.1)

-- Of two packages in which an identifier begins at one place, both are one, and so are the identifiers.
pub same_use : (w : Workspace) (p q : Package) → IsScopedIn w p → IsScopedIn w q → (place : Place) (u v : ℕ) → BeginsAt p place.path place.offset u →
    BeginsAt q place.path place.offset v → (q ≡ p) × (v ≡ u)
same_use w p q a b place u v x y =
    let paths : q.path ≡ p.path = scoped_in_folder w q b place.path place.offset v y ∙ sym (scoped_in_folder w p a place.path place.offset u x) in
    let same : q ≡ p = one_scoped w q p b a paths in
    (same, one_scoped_begins w p a place.path place.offset v u (subst (λ (z : Package). BeginsAt z place.path place.offset v) same y) x)

-- What the scopes of the workspace bind the identifier at a place to, its package does.
pub bound_there : (w : Workspace) (q : Package) → IsScopedIn w q → (place : Place) (u : ℕ) → BeginsAt q place.path place.offset u → (e : Declaration) →
    IsScopeUse w e place → BindsByScope q u e
bound_there w q is place u begins e h =
    let same = same_use w q h.used_in is h.is_package place u h.user begins h.begins in
    subst (λ v. BindsByScope q v e) same.1 (subst (λ (z : Package). BindsByScope z h.user e) same.0 h.bound)
