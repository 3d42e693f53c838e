-- The declarations that identifiers of a package are bound to are declared in its closure.
use Rattle.std.proofs.Common.{ℕ, ◌≡◌, ◌<◌, List, length, map, ap, sym, subst, refl, ◌∙◌}
use Rattle.std.specs.Prelude.{Contains, Option, Some, None, slice_get}
use Rattle.base_files.specs.Path.{folder}
use Rattle.base_files.specs.Packages.{package_paths}
use Rattle.base_files.specs.Workspace.{Workspace}
use Rattle.base_files.specs.declared.place.Place.{Place}
use Rattle.go_ast.specs.SourceFile.{SourceFile, offset_of, spelling_of}
use Rattle.workspace_graph.specs.Packages.{IsInClosure, itself}
use Rattle.types_info.proofs.MeaningLists.{slice_get_some}
use Rattle.go_scope.specs.declared.model.Position.{Position}
use Rattle.go_scope.specs.Bindings.{Counts, IsPackageLevel, block_of}
use Rattle.go_scope.specs.FileSites.{files_sites, universe, package_sites}
use Rattle.go_scope.specs.SpelledFiles.{spelled_file}
use Rattle.types_declared.specs.Laid.{literal_of}
use Rattle.types_declared.specs.Package.{Package, function_place}
use Rattle.workspace_check.specs.Closures.{HasSameClosure}
use Rattle.workspace_check.specs.Verdicts.{Verdicts, AreVerdicts}
use Rattle.workspace_check.proofs.FaultFiles.{identifiers_stand}
use Rattle.workspace_check.proofs.Local.{closed_there, same_within}
use Rattle.workspace_check.proofs.MemberFiles.{field_file, function_file}
use Rattle.workspace_check.proofs.PackageFiles.{package_file, some_tree}
use Rattle.refs_binding.specs.declared.declaration.Declaration.{Declaration}
use Rattle.refs_binding.specs.declared.declaration.Declaration.TheVariants.{Predeclared, Declared, Field, Method}
use Rattle.refs_binding.specs.Binding.{IsPredeclaredNumber, BindsByScope, BindsQualified, BindsByMember}
use Rattle.refs_binding.specs.Binding.{DeclaresMember, by_scope, by_package, by_member, by_name}
use Rattle.refs_binding.specs.Binding.{IsQualifiedUse, field_place}
use Rattle.refs_binding.specs.Uses.{IsCheckedPackage, IsBoundToDeclaration}
use Rattle.refs_lookup.proofs.OnePlace.{names_of}
use Rattle.refs_binding.proofs.Folders.{file_in_folder}
use Rattle.refs_binding.specs.DeclaringPlaces.{InPackage, TokenBegins, TokenAt, IsPositionOf, HasDeclarationAt, IsDeclaredAt}
use Rattle.refs_lookup.specs.Within.{DeclaresWithin, IsDeclaredWithin, predeclared, stands}
use Rattle.refs_lookup.proofs.Bindings.{behind_closed}
use Rattle.refs_lookup.proofs.ImportSites.{predeclared_block}
use Rattle.refs_lookup.proofs.NamedImports.{role_at, counted}
use Rattle.refs_lookup.proofs.OwnedMembers.{IsOwned, member_owned}
use Rattle.refs_lookup.proofs.Packages.{package_stays}

-- a token of a package's files begins somewhere in its folder

record BeginsSomewhere (p : Package) (at : Position) : Type 0 where
  place : Place
  begins : TokenAt p at place
  in_folder : folder place.path ≡ p.path

module _ (w : Workspace) (known : Verdicts) (p : Package) (is : IsCheckedPackage w known p) where
  begins_somewhere : (at : Position) → at.file < length p.files → BeginsSomewhere p at
  begins_somewhere at lt =
      let s = slice_get_some p.files at.file lt in
      let place : Place = record { path = s.0.path; offset = offset_of s.0 at.index } in
      record {
        place = place;
        begins = subst (λ o. TokenBegins o at.index place) (sym s.1) (refl, refl);
        in_folder = file_in_folder w known p is at.file s.0 s.1;
      }

  identifier_file : (u : ℕ) → (p.layout.place u).file < length p.files
  identifier_file u =
      let file = package_file w p.path is.of_workspace in
      identifiers_stand w known p.path p is.is_checked (some_tree is.is_checked.parsed file.0 file.1) u

  not_predeclared : (d : ℕ) → IsPackageLevel p.layout d → IsPredeclaredNumber d → ⊥
  unfolding package_sites
  not_predeclared d level lt =
      let h = is.is_checked in
      let block = ap block_of (role_at w known p.path p h d)
      ∙ predeclared_block (names_of w known p.path p h) universe (files_sites 0 (map spelled_file h.files)) d lt in
      let same = sym level ∙ block in
      cc

-- a declaration of a package of the closure stands within it

module _ (w : Workspace) (known : Verdicts) (p : List ℕ) (c : Package) (is : IsCheckedPackage w known c) (closed : IsInClosure w p c.path) where
  within : (d : Declaration) (at : Position) → at.file < length c.files →
      ((place : Place) → TokenAt c at place → IsDeclaredAt (IsCheckedPackage w known) d place) → IsDeclaredWithin w known p d
  within d at lt declared =
      let b = begins_somewhere w known c is at lt in
      stands b.place (record { declared = declared b.place b.begins; in_closure = subst (IsInClosure w p) (sym b.in_folder) closed })

  inside : (path : List ℕ) (d : Declaration) → c.path ≡ path → (at : Position) → IsPositionOf c d at → (place : Place) → TokenAt c at place →
      InPackage (IsCheckedPackage w known) path (λ q. HasDeclarationAt q d place)
  inside path d e at position place begins =
      record { inside = c; is_package = is; of_path = e; holds = record { at = at; is_at = position; begins = begins } }

  scope_within : (path : List ℕ) (n : ℕ) → c.path ≡ path → (IsPredeclaredNumber n → ⊥) → Counts c.layout c.names n →
      IsDeclaredWithin w known p (Declared path n)
  scope_within path n e own counts =
      let literal = literal_of c.layout n in
      within (Declared path n) (c.layout.place literal) (identifier_file w known c is literal)
      (inside path (Declared path n) e (c.layout.place literal) (record { own = own; counts = counts; stands = refl }))

module _ (w : Workspace) (known : Verdicts) (right : AreVerdicts w known) (p : Package) (is : IsCheckedPackage w known p) where
  abbrev Within : Declaration → Type 0
  Within d = IsDeclaredWithin w known p.path d

  own_closed : IsInClosure w p.path p.path
  own_closed = itself is.of_workspace

  by_scope_within : (u : ℕ) (d : Declaration) → BindsByScope p u d → Within d
  by_scope_within u (Predeclared n) h = predeclared h.0
  by_scope_within u (Declared path n) h =
      scope_within w known p.path p is own_closed path n (sym h.0) h.1 (counted w known p.path p is.is_checked u n h.2)
  by_scope_within u (Field s) h = absurd h
  by_scope_within u (Method s) h = absurd h

  export_within : (u : ℕ) (path : List ℕ) (n : ℕ) → IsQualifiedUse (IsCheckedPackage w known) p u path n → Within (Declared path n)
  export_within u path n h =
      let has : Contains (package_paths w) path = subst (Contains (package_paths w)) h.of_path h.is_package.of_workspace in
      let closed : IsInClosure w p.path h.other.path =
      subst (IsInClosure w p.path) (sym h.of_path) (behind_closed w known p is u path h.behind has) in
      scope_within w known p.path h.other h.is_package closed path n h.of_path (not_predeclared w known h.other h.is_package n h.seen.package_level)
      h.seen.counts

  by_package_within : (u : ℕ) (d : Declaration) → BindsQualified (IsCheckedPackage w known) p u d → Within d
  by_package_within u (Predeclared n) h = absurd h
  by_package_within u (Declared path n) h = export_within u path n h
  by_package_within u (Field s) h = absurd h
  by_package_within u (Method s) h = absurd h

  named_file : (u : ℕ) (at : Position) → (p.layout.place u).file ≡ at.file → at.file < length p.files
  named_file u at e = subst (λ k. k < length p.files) e (identifier_file w known p is u)

  by_name_within : (u : ℕ) (d : Declaration) → DeclaresMember p u d → Within d
  by_name_within u (Predeclared n) h = absurd h
  by_name_within u (Declared path n) h = absurd h
  by_name_within u (Field s) h =
      within w known p.path p is own_closed (Field s) h.1.at (named_file u h.1.at h.1.stands.1)
      (inside w known p.path p is own_closed s.package (Field s) (sym h.0) h.1.at h.1.is_at)
  by_name_within u (Method s) h =
      within w known p.path p is own_closed (Method s) h.1.at (named_file u h.1.at h.1.stands.1)
      (inside w known p.path p is own_closed s.package (Method s) (sym h.0) h.1.at h.1.is_at)

  by_member_within : (u : ℕ) (d : Declaration) → BindsByMember p u d → Within d
  by_member_within u d h =
      let world = h.judged.judged_by in
      let token = (p.layout.place u).index in
      let definitions = world.definitions in
      let are = world.are_definitions in
      let owned = member_owned w known right p is definitions are (spelling_of h.judged.source token) h.found.before h.member
      (sym (world.member token h.found.before) ∙ h.is_member) in
      owned_within d (subst (λ e. IsOwned w known right p is definitions are e) h.declares owned)
    where
      owned_within : (e : Declaration) → IsOwned w known right p is h.judged.judged_by.definitions h.judged.judged_by.are_definitions e → Within e
      owned_within (Predeclared n) o = absurd o
      owned_within (Declared path n) o = absurd o
      owned_within (Field s) o =
          let at = field_place o.counts.field in
          within w known p.path o.inside o.is_package o.in_closure (Field s) at
          (field_file o.inside s.rank o.counts.field o.counts.counting.is_field.has_rank)
          (inside w known p.path o.inside o.is_package o.in_closure s.package (Field s) o.of_path at (record { counts = o.counts; named_at = refl }))
      owned_within (Method s) o =
          let at = function_place o.counts.method in
          within w known p.path o.inside o.is_package o.in_closure (Method s) at
          (function_file o.inside s.rank o.counts.method o.counts.counting.is_method.has_rank)
          (inside w known p.path o.inside o.is_package o.in_closure s.package (Method s) o.of_path at (record { counts = o.counts; named_at = refl }))

  pub bound_within : (u : ℕ) (d : Declaration) → IsBoundToDeclaration w known p u d → Within d
  bound_within u d (by_scope h) = by_scope_within u d h
  bound_within u d (by_package h) = by_package_within u d h
  bound_within u d (by_member h) = by_member_within u d h
  bound_within u d (by_name h) = by_name_within u d h

-- and it stands there in both workspaces

pub token_file : (o : Option SourceFile) (token : ℕ) (place : Place) → TokenBegins o token place → (f : SourceFile) × ((o ≡ Some f) × (f.path ≡ place.path))
token_file None token place h = absurd h
token_file (Some f) token place h = (f, (refl, h.0))

module _ (w x : Workspace) (before after : Verdicts) (right : AreVerdicts w before) (also : AreVerdicts x after) (p : List ℕ)
    (same : HasSameClosure w x p) (place : Place) (closed : IsInClosure w p (folder place.path)) where
  package_stands : (path : List ℕ) (d : Declaration) → InPackage (IsCheckedPackage w before) path (λ q. HasDeclarationAt q d place) →
      InPackage (IsCheckedPackage x after) path (λ q. HasDeclarationAt q d place)
  package_stands path d h =
      let c = h.inside in
      let f = token_file (slice_get c.files h.holds.at.file) h.holds.at.index place h.holds.begins in
      let own : folder place.path ≡ c.path = ap folder (sym f.1.1) ∙ file_in_folder w before c h.is_package h.holds.at.file f.0 f.1.0 in
      let there : HasSameClosure w x c.path = subst (HasSameClosure w x) own (same_within w x p same (folder place.path) closed) in
      record { inside = c; is_package = package_stays w x before after right also c there h.is_package; of_path = h.of_path; holds = h.holds }

  declared_stays : (d : Declaration) → IsDeclaredAt (IsCheckedPackage w before) d place → IsDeclaredAt (IsCheckedPackage x after) d place
  declared_stays (Predeclared n) h = h
  declared_stays (Declared path n) h = package_stands path (Declared path n) h
  declared_stays (Field s) h = package_stands s.package (Field s) h
  declared_stays (Method s) h = package_stands s.package (Method s) h

pub within_stays : (w x : Workspace) (before after : Verdicts) → AreVerdicts w before → AreVerdicts x after → (p : List ℕ) → HasSameClosure w x p →
    (d : Declaration) (place : Place) → DeclaresWithin w before p d place → DeclaresWithin x after p d place
within_stays w x before after right also p same d place h = record {
  declared = declared_stays w x before after right also p same place h.in_closure d h.declared;
  in_closure = closed_there w x p same (folder place.path) h.in_closure;
}
