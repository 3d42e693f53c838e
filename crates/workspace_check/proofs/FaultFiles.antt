-- Each fault of a package stands in one of its files.
use Rattle.std.proofs.Common.{ℕ, ◌≡◌, ◌<◌, inl, inr, List, [], ◌∷◌, length, map, sym, ap, subst, ◌∙◌}
use Rattle.std.specs.Prelude.{Some, slice_get}
use Rattle.std.specs.List.{AllByRecursion, flat_map}
use Rattle.std.proofs.lemmas.List.{length-map}
use Rattle.std.proofs.lemmas.Option.{slice_get_within}
use Rattle.base_files.specs.Workspace.{Workspace}
use Rattle.types_declared.specs.declared.fault.Fault.{Fault}
use Rattle.types_declared.specs.Listing.{IsOfSomeItem}
use Rattle.go_ast.specs.SourceFile.{SourceFile, source_of}
use Rattle.go_scope.specs.FileSites.{package_sites}
use Rattle.go_scope.specs.Named.{named_sites}
use Rattle.go_scope.specs.SpelledFiles.{spelled_file}
use Rattle.go_scope.specs.Packages.{layout_in}
use Rattle.go_scope.specs.Site.{Site, or_blank, sites_layout}
use Rattle.go_scope.specs.Bindings.{Layout}
use Rattle.go_scope.proofs.NamedSites.{place_stays}
use Rattle.go_scope.proofs.PackageRegions.{each_at}
use Rattle.types_declared.specs.declared.states.ImportState.{ImportState}
use Rattle.types_declared.specs.Files.{RankedSource, ranked_files, imports_in, package_name}
use Rattle.law_tokens.proofs.Elements.{all_flat, all_map}
use Rattle.types_resolve.specs.Clauses.{IsFaultOfClause, IsClauseFault}
use Rattle.types_resolve.specs.Imports.{PlacedImport, IsFaultOfImport, placed_imports, IsImportFault}
use Rattle.types_resolve.specs.StatementMarks.{StatementMark, Defines, Stray, file_marks, IsFaultOfMark, IsFaultOfMarks, IsMarkFault}
use Rattle.types_resolve.specs.Scoping.{IsFaultOfIdentifier}
use Rattle.types_declared.specs.Laid.{literal_of}
use Rattle.types_resolve.specs.Stages.{IsOuterFault, IsInnerFault}
use Rattle.types_declared.specs.Package.{Package, laid_of}
use Rattle.types_members.specs.MemberFaults.{IsMemberFault}
use Rattle.types_check.specs.Check.{exports_in, IsLaterFault}
use Rattle.types_info.proofs.MeaningLists.{slice_get_some}
use Rattle.workspace_check.specs.Verdicts.{Verdicts, IsPackageIn}
use Rattle.workspace_check.proofs.MemberFiles.{all_ranked, type_file, field_file, function_file}
use Rattle.workspace_check.proofs.PlacedSites.{stands_in_file}

-- a fault of some item

some_item : {X : Type 0} (P : X → Type 0) (Q : X → Fault → Type 0) (xs : List X) (f : Fault) → AllByRecursion P xs → IsOfSomeItem Q xs f →
    (x : X) × (P x × Q x f)
some_item P Q [] f a h = absurd h
some_item P Q (x ∷ xs) f a h = elim h [ inl q ↦ (x, (a.0, q)) | inr r ↦ some_item P Q xs f a.1 r ]

-- the faults of clauses and imports

in_clause : (files : List SourceFile) (f : Fault) → IsClauseFault files f → f.file < length files
in_clause files f h =
    let r = some_item (λ (r : RankedSource). r.0 < length files) (IsFaultOfClause (package_name files)) (ranked_files files) f (all_ranked files) h in
    subst (λ (g : Fault). g.file < length files) (sym r.1.1.at) r.1.0

in_import : (state : List ℕ → ImportState) (files : List SourceFile) (f : Fault) → IsImportFault state files f → f.file < length files
in_import state files f h =
    let Below : PlacedImport → Type 0 = λ i. i.0.0 < length files in
    let all = all_flat (λ (r : RankedSource). r.0 < length files) Below placed_imports (λ r lt. all_map Below (λ i. (r, i)) (λ i. lt) (imports_in r.1.tree))
    (ranked_files files) (all_ranked files) in
    let i = some_item Below (IsFaultOfImport state) (flat_map placed_imports (ranked_files files)) f all h in
    subst (λ k. k < length files) (sym i.1.1.of_state.in_file) i.1.0

pub in_outer : (state : List ℕ → ImportState) (files : List SourceFile) (f : Fault) → IsOuterFault state files f → f.file < length files
in_outer state files f h = elim h [ inl c ↦ in_clause files f c | inr i ↦ in_import state files f i.1 ]

-- the faults of scopes

module _ (p : Package) (stands : (u : ℕ) → (p.layout.place u).file < length p.files) where
  in_identifier : (u : ℕ) (f : Fault) → IsFaultOfIdentifier (laid_of p) u f → f.file < length p.files
  in_identifier u f h = elim h [
    | inl undeclared ↦ subst (λ (g : Fault). g.file < length p.files) (sym undeclared.at) (stands u)
    | inr later ↦ elim later [
      | inl repeated ↦ subst (λ (g : Fault). g.file < length p.files) (sym repeated.at) (stands u)
      | inr unused ↦ subst (λ (g : Fault). g.file < length p.files) (sym unused.at) (stands (literal_of p.layout u))
    ]
  ]

  of_mark : (file : ℕ) (m : StatementMark) (f : Fault) → IsFaultOfMark (laid_of p) file m f → f.file ≡ file
  of_mark file (Defines es at) f h = ap (λ (g : Fault). g.file) h.0
  of_mark file (Stray at) f h = ap (λ (g : Fault). g.file) h

  in_marks : (f : Fault) → IsMarkFault p.files (laid_of p) f → f.file < length p.files
  in_marks f h =
      let r = some_item (λ (r : RankedSource). r.0 < length p.files) (IsFaultOfMarks (laid_of p)) (ranked_files p.files) f (all_ranked p.files) h in
      let marks = file_marks r.0.1.tree in
      let m = some_item (λ (m : StatementMark). Unit {0}) (IsFaultOfMark (laid_of p) r.0.0) marks f (every_unit marks) r.1.1 in
      subst (λ k. k < length p.files) (sym (of_mark r.0.0 m.0 f m.1.1)) r.1.0
    where
      every_unit : {X : Type 0} (xs : List X) → AllByRecursion (λ (x : X). Unit {0}) xs
      every_unit [] = tt
      every_unit (x ∷ xs) = (tt, every_unit xs)

  in_inner : (f : Fault) → IsInnerFault p.files (exports_in p) (laid_of p) f → f.file < length p.files
  in_inner f h = elim h [
    | inl own ↦ elim own [ inl scope ↦ in_identifier scope.0 f scope.2 | inr mark ↦ in_marks f mark ]
    | inr unknown ↦ subst (λ k. k < length p.files) (sym unknown.2.file) (stands unknown.0)
  ]

  -- those of members

  in_member : (f : Fault) → IsMemberFault p f → f.file < length p.files
  in_member f h = elim h [
    | inl field ↦
        subst (λ (g : Fault). g.file < length p.files) (sym field.at)
        (field_file p field.rank field.field field.is_field.has_rank)
    | inr later ↦ elim later [
      | inl method ↦
          subst (λ (g : Fault). g.file < length p.files) (sym method.at)
          (function_file p method.rank method.method method.is_method.has_rank)
      | inr recursive ↦
          subst (λ (g : Fault). g.file < length p.files) (sym recursive.at)
          (type_file p recursive.rank recursive.definition recursive.has_rank)
    ]
  ]

  pub in_later : (f : Fault) → IsLaterFault p f → f.file < length p.files
  in_later f h = elim h [
    | inl inner ↦ in_inner f inner
    | inr rest ↦ elim rest.1 [ inl member ↦ in_member f member | inr types ↦ slice_get_within p.files f.file types.1.source types.1.in_file ]
  ]

-- where the identifiers of a package stand
pub identifiers_stand : (w : Workspace) (known : Verdicts) (p : List ℕ) (c : Package) (h : IsPackageIn w known p c) → 0 < length h.files → (u : ℕ) →
    (c.layout.place u).file < length c.files
identifiers_stand w known p c h some u =
    let own = h.is_package in
    let n = length (map spelled_file h.files) in
    let spelled : n ≡ length h.files = length-map h.files spelled_file in
    let sources : length (map source_of h.files) ≡ length h.files = length-map h.files source_of in
    let sites = package_sites (map spelled_file h.files) in
    let names = own.is_laid.names in
    let pos : 0 < n = subst (λ k. 0 < k) (sym spelled) some in
    let plain : (or_blank (slice_get sites u)).place.file < n =
    each_at (λ (x : Site). x.place.file < n) pos sites (stands_in_file (map spelled_file h.files) pos) u in
    let laid : (or_blank (slice_get (named_sites names sites) u)).place.file < n = subst (λ place. place.file < n) (sym (place_stays names sites u)) plain in
    let is : c.layout ≡ sites_layout (named_sites names sites) = ap (λ (x : Package). x.layout) own.is_package ∙ ap layout_in own.is_laid.is_named in
    let files : length c.files ≡ n = ap (λ (x : Package). length x.files) own.is_package ∙ sources ∙ sym spelled in
    subst (λ k. (c.layout.place u).file < k) (sym files) (subst (λ (l : Layout). (l.place u).file < n) (sym is) laid)

-- the file of a fault
pub some_source : (files : List SourceFile) (f : Fault) → f.file < length files → (s : SourceFile) × (slice_get files f.file ≡ Some s)
some_source files f lt = slice_get_some files f.file lt
