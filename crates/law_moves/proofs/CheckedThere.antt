-- Each package is there after a move, as it is checked, by the moved verdicts on others.
use Rattle.std.proofs.Common.{ℕ, ◌≡◌, List, [], map, ap, refl, sym, subst, ◌∙◌}
use Rattle.std.specs.Prelude.{Contains, Option, Some, None, option_map, slice_get}
use Rattle.std.proofs.lemmas.Bool.{true≢false}
use Rattle.base_edits.specs.EditSet.{FileChanges, edited}
use Rattle.base_files.specs.Packages.{package_files, package_paths}
use Rattle.base_files.specs.Workspace.{Workspace}
use Rattle.go_ast.specs.SourceFile.{FileParts, SourceFile, source_of}
use Rattle.go_scope.specs.Bindings.{Names}
use Rattle.go_scope.specs.Packages.{ScopedPackage, scoped}
use Rattle.types_declared.specs.ExportTablesView.{no_export_data}
use Rattle.types_declared.specs.Files.{package_name}
use Rattle.types_declared.specs.Laid.{laid_in}
use Rattle.types_declared.specs.Package.{ExportData, Package, spelled, spelled_at}
use Rattle.types_declared.specs.PackageNames.{ArePackageNames}
use Rattle.types_declared.specs.Written.{DeclaresImport}
use Rattle.types_info.specs.PackageOf.{package_in}
use Rattle.law_tokens.proofs.OwnPaths.{package_sources}
use Rattle.workspace_graph.specs.Packages.{PackageImports}
use Rattle.workspace_graph.specs.Parsed.{AreParsed}
use Rattle.workspace_check.specs.Verdicts.{Verdicts, BuildsOn, IsSeenAs, seen, unseen, AreSeen, IsPackageIn}
use Rattle.workspace_check.proofs.Closed.{to_package}
use Rattle.workspace_check.proofs.OnePackage.{one_sources}
use Rattle.refs_binding.specs.Uses.{IsCheckedPackage}
use Rattle.refactor_conflict.specs.ScopedPackages.{IsClauseName, named, unnamed}
use Rattle.refactor_move.specs.declared.moved.Moved.{Moved}
use Rattle.refs_lookup.proofs.OnePlace.{same_files}
use Rattle.law_rename.specs.Renaming.{HasSameBindings}
use Rattle.law_changed_types.specs.SameBindings.{IsParsedPackage, trees_of}
use Rattle.law_renamed_workspaces.proofs.Packages.{package_there}
use Rattle.law_renamed_workspaces.proofs.GoodImports.{imports_are_good}
use Rattle.law_renamed_workspaces.proofs.ScopedAgain.{imported}
use Rattle.law_renamed_workspaces.specs.ScopedPackages.{HasSameScopes}
use Rattle.law_renamed_workspaces.proofs.PackagesAfter.{has_data, known_faultless}
use Rattle.law_changed_types.specs.Moved.{PathMap}
use Rattle.law_changed_types.specs.MovedPackage.{IsMovedPackage, moved_definition, moved_export}
use Rattle.law_moves.specs.MovedPackages.{name_after}
use Rattle.law_moves.specs.Moves.{IsMove, moved_path}
use Rattle.law_moves.proofs.ClauseNames.{clause}
use Rattle.law_moves.proofs.NewFiles.{from_imports, new_parts, new_trees}
use Rattle.law_moves.proofs.NewLayout.{same_trees}
use Rattle.refactor_known.specs.MovedData.{moved_data}
use Rattle.refactor_known.specs.Swaps.{swapped}
use Rattle.law_moves.specs.MovedVerdicts.{IsBoundAfterMove, IsCheckedThere, MovesBySwap, moved_verdicts}
use Rattle.law_moves.proofs.ImportedThere.{imported_there}
use Rattle.law_moves.proofs.KeptSpellings.{field_kept, function_kept_so, selector_kept}
use Rattle.law_moves.proofs.PathsAfter.{back, builds_now, built, had}

-- the name in the clause of a package
one_clause : (x : Workspace) (path : List ℕ) (a b : Option (List ℕ)) → IsClauseName x path a → IsClauseName x path b → a ≡ b
one_clause x path _ _ (named {files = fs} has one) (named {files = gs} there other) =
    ap (λ (ss : List SourceFile). Some (package_name ss)) (one_sources one other)
one_clause x path _ _ (named {files = fs} has one) (unnamed none) = absurd (none fs has one)
one_clause x path _ _ (unnamed none) (named {files = fs} has one) = absurd (none fs has one)
one_clause x path _ _ (unnamed none) (unnamed other) = refl

module _ (w : Workspace) (before : Verdicts) (from to : List ℕ) (s : FileChanges) (h : IsMove w before from to s) (swap : MovesBySwap w from to) where
  abbrev pub x : Workspace
  x = edited s w

  abbrev pub g : PathMap
  g = swapped from to

  abbrev pub m : Moved
  m = h.edits.moved

  abbrev pub after : Verdicts
  after = moved_verdicts m g before

  -- the export data of a package after the move, by its path before
  pub data_at : (path : List ℕ) → (after (g path)).export_data ≡ moved_data m.from m.name g path (before path).export_data
  data_at path = ap (λ o. moved_data m.from m.name g o (before o).export_data) (swap.inverse path)

  module _ (p : Package) (is : IsCheckedPackage w before p) where
    -- what the package sees of others

    pub record IsSeenMoved (path : List ℕ) (i : ExportData) : Type 0 where
      pub name : Option (List ℕ)
      pub own : ExportData
      pub sees : IsSeenAs x after (g p.path) (g path) name own
      pub exports : (n : List ℕ) → own.exported n ≡ option_map (moved_export g) (i.exported n)
      pub definitions : (rank : ℕ) → own.definition rank ≡ moved_definition g (i.definition rank)

    pub sees_moved : (path : List ℕ) (n : Option (List ℕ)) (i : ExportData) → IsSeenAs w before p.path path n i → IsSeenMoved path i
    sees_moved path _ _ (seen on faultless) = record {
      name = Some (after (g path)).export_data.name;
      own = (after (g path)).export_data;
      sees = seen (builds_now w before from to s h swap p.path path is.of_workspace on) refl;
      exports = λ n. ap (λ (d : ExportData). d.exported n) (data_at path);
      definitions = λ rank. ap (λ (d : ExportData). d.definition rank) (data_at path);
    }
    sees_moved path _ _ (unseen none) = record {
      name = None;
      own = no_export_data (g path);
      sees = unseen (λ on. absurd (never on));
      exports = λ n. refl;
      definitions = λ rank. refl;
    }
      where
        never : BuildsOn x (g p.path) (g path) → ⊥
        never on =
            let was : BuildsOn w p.path path =
            subst (BuildsOn w p.path) (swap.inverse path) (built w before from to s h swap p.path (g path) is.of_workspace on) in
            true≢false (sym (none was) ∙ known_faultless w h.sound before h.right path (to_package w p.path path was.imported))

    old_seen : (path : List ℕ) → IsSeenMoved path (is.is_checked.export_data_of path)
    old_seen path = sees_moved path (is.is_checked.name_of path) (is.is_checked.export_data_of path) (is.is_checked.are_seen path)

    pub name_of : List ℕ → Option (List ℕ)
    name_of path = (old_seen (g path)).name

    pub export_data_of : List ℕ → ExportData
    export_data_of path = (old_seen (g path)).own

    pub are_seen : AreSeen x after (g p.path) name_of export_data_of
    unfolding name_of export_data_of
    are_seen path =
        subst (λ o. IsSeenAs x after (g p.path) o (old_seen (g path)).name (old_seen (g path)).own) (swap.inverse path) (old_seen (g path)).sees

    exports_at : (path n : List ℕ) →
        (export_data_of (g path)).exported n ≡ option_map (moved_export g) ((is.is_checked.export_data_of path).exported n)
    unfolding export_data_of
    exports_at path n =
        (old_seen (g (g path))).exports n
        ∙ ap (λ o. option_map (moved_export g) ((is.is_checked.export_data_of o).exported n)) (swap.inverse path)

    definitions_at : (path : List ℕ) (rank : ℕ) →
        (export_data_of (g path)).definition rank ≡ moved_definition g ((is.is_checked.export_data_of path).definition rank)
    unfolding export_data_of
    definitions_at path rank =
        (old_seen (g (g path))).definitions rank
        ∙ ap (λ o. moved_definition g ((is.is_checked.export_data_of o).definition rank)) (swap.inverse path)

    -- an imported package is seen under the name in its clauses
    clause_at : (path : List ℕ) → Contains (package_paths x) path → IsClauseName x path (Some (after path).export_data.name)
    clause_at path among =
        let o = package_there w h.sound before h.right (g path) (had w before from to s h swap path among) in
        let has = has_data w h.sound before h.right o.0 o.1.0 in
        let name : name_after m o.0.path (package_name o.0.files) ≡ (after path).export_data.name =
        ap (name_after m o.0.path) (sym has.name) ∙ ap (λ r. name_after m r (before r).export_data.name) o.1.1 in
        let at : moved_path from to o.0.path ≡ path = ap (moved_path from to) o.1.1 ∙ sym (back w before from to s h swap path among) in
        subst (λ n. IsClauseName x path (Some n)) name
        (subst (λ r. IsClauseName x r (Some (name_after m o.0.path (package_name o.0.files)))) at (clause w before from to s h o.0 o.1.0))

    pub imports_good : (path : List ℕ) → PackageImports x (g p.path) path → (BuildsOn x (g p.path) path → ⊥) → ⊥
    imports_good path i never =
        let d = from_imports w before from to s h p is path
        (subst (λ r. PackageImports x r path) (swap.goes p.path is.of_workspace) i) in
        imports_are_good w h.sound before h.right p is d.old d.imports
        (λ on. never (subst (BuildsOn x (g p.path)) (swap.goes d.old (to_package w p.path d.old on.imported) ∙ sym d.goes_there)
        (builds_now w before from to s h swap p.path d.old is.of_workspace on)))

    seen_name : (path : List ℕ) → PackageImports x (g p.path) path → (n : Option (List ℕ)) (i : ExportData) → IsSeenAs x after (g p.path) path n i →
        (o : Option (List ℕ)) → IsClauseName x path o → o ≡ n
    seen_name path imports _ _ (seen on faultless) o c =
        one_clause x path o (Some (after path).export_data.name) c (clause_at path (to_package x (g p.path) path on.imported))
    seen_name path imports _ _ (unseen none) o c = absurd (imports_good path imports (λ on. true≢false (sym (none on))))

    module _ (q : Package) (there : IsBoundAfterMove w from to s p q) where
      abbrev own : List FileParts
      own = there.is_scoped.files

      abbrev laid : ScopedPackage
      laid = there.is_scoped.is_package.laid

      at_path : q.path ≡ g p.path
      at_path = there.path ∙ sym (swap.goes p.path is.of_workspace)

      abbrev pub checked : Package
      checked = package_in q.path (map source_of own) laid export_data_of

      same_but : q ≡ package_in q.path (map source_of own) laid no_export_data
      same_but = there.is_scoped.is_package.is_package

      pub scopes : HasSameScopes q checked
      scopes = record {
        path = refl;
        layout = ap (λ (z : Package). z.layout) (sym same_but);
        names = ap (λ (z : Package). z.names) (sym same_but);
        size = ap (λ (z : Package). z.size) (sym same_but);
        files = ap (λ (z : Package). z.files) (sym same_but);
      }

      seen_here : AreSeen x after q.path name_of export_data_of
      seen_here = subst (λ r. AreSeen x after r name_of export_data_of) (sym at_path) are_seen

      are_names : ArePackageNames (map source_of own) name_of (laid_in (scoped own)) there.is_scoped.is_package.is_laid.names
      are_names u lt bare =
          let one = there.is_scoped.is_package.is_laid.are_names u lt bare in
          record {
            known = λ path i.
                let imports : PackageImports x q.path path = imported x q.path own there.is_scoped.parsed u lt bare path i in
                one.known path i
                ∙ seen_name path (subst (λ r. PackageImports x r path) at_path imports) (name_of path) (export_data_of path) (are_seen path)
                (there.is_scoped.name_of path) (there.is_scoped.are_names path);
            unknown = one.unknown;
          }

      pub is_checked : IsPackageIn x after q.path checked
      is_checked = record {
        files = own;
        parsed = there.is_scoped.parsed;
        name_of = name_of;
        export_data_of = export_data_of;
        are_seen = seen_here;
        is_package = record {
          laid = laid;
          is_laid = record {
            names = there.is_scoped.is_package.is_laid.names;
            are_names = are_names;
            is_named = there.is_scoped.is_package.is_laid.is_named;
          };
          is_package = refl;
        };
      }

      pub is_package : IsCheckedPackage x after checked
      is_package = record { of_workspace = there.is_scoped.of_workspace; is_checked = is_checked }

      -- it is the moved package

      imports_by : (a b : Package) → a.layout ≡ b.layout → a.names ≡ b.names → a.size ≡ b.size → a.files ≡ b.files → (d : ℕ) (path : List ℕ) →
          DeclaresImport a d path → DeclaresImport b d path
      imports_by a b layout names size fs d path i =
          subst (λ k. DeclaresImport (record {
            path = b.path;
            files = b.files;
            layout = b.layout;
            names = b.names;
            size = k;
            export_data_of =
                b.export_data_of;
          }) d
          path) size
          (subst (λ k. DeclaresImport (record {
            path = b.path;
            files = b.files;
            layout = b.layout;
            names = k;
            size = a.size;
            export_data_of =
                b.export_data_of;
          }) d
          path) names
          (subst (λ k. DeclaresImport (record {
            path = b.path;
            files = b.files;
            layout = k;
            names = a.names;
            size = a.size;
            export_data_of =
                b.export_data_of;
          }) d
          path) layout
          (subst (λ k. DeclaresImport (record {
            path = b.path;
            files = k;
            layout = a.layout;
            names = a.names;
            size = a.size;
            export_data_of =
                b.export_data_of;
          }) d
          path) fs (record { is_import = i.is_import; of_path = i.of_path }))))

      -- what the package imports is there
      imports_there : (d : ℕ) (path : List ℕ) → DeclaresImport p d path → Contains (package_paths w) path
      imports_there d path i = imported_there w h.sound before h.right p is d path i

      spelled_so : (file token : ℕ) → spelled q file token ≡ spelled p file token → spelled checked file token ≡ spelled p file token
      spelled_so file token e = ap (λ fs. spelled_at (slice_get fs file) token) scopes.files ∙ e

      parsed : IsParsedPackage p
      parsed = record {
        path = p.path;
        files = is.is_checked.files;
        sources = package_sources w p.path is.is_checked.files is.is_checked.parsed;
        name_of = is.is_checked.name_of;
        export_data_of = is.is_checked.export_data_of;
        is_package = is.is_checked.is_package;
      }

      -- the files, by the law of moved files
      pub sources : map source_of own ≡ map source_of (map (new_parts s) is.is_checked.files)
      sources = one_sources there.is_scoped.parsed
          (subst (λ r. AreParsed (package_files x r) (map (new_parts s) is.is_checked.files) []) (sym there.path) (new_trees w before from to s h p is))

      trees : trees_of checked.files ≡ trees_of p.files
      trees = ap trees_of sources ∙ same_trees s is.is_checked.files ∙ sym (ap trees_of (same_files w before p.path p is.is_checked))

      old_exports : p.export_data_of ≡ is.is_checked.export_data_of
      old_exports = ap (λ (z : Package). z.export_data_of) is.is_checked.is_package.is_package

      pub moved : IsMovedPackage g p checked
      moved = record {
        path = at_path;
        size = scopes.size ∙ there.size;
        layout = scopes.layout ∙ there.layout;
        trees = trees;
        bindings = subst (λ (n : Names). HasSameBindings p.layout p.names n) (sym scopes.names) there.bindings;
        predeclared = λ d implied. ap (λ (n : Names). n d) scopes.names ∙ there.predeclared d implied;
        parsed = parsed;
        imports = λ d. record { forth = forth d; back = back_to d };
        selectors = λ file token sel. spelled_so file token (selector_kept w h.sound before h.right from to s p q is there file token sel);
        fields = λ rank f got. spelled_so f.file f.name (field_kept w h.sound before h.right from to s p q is there rank f got);
        functions = λ rank f got. spelled_so f.file f.function.name (function_kept_so w h.sound before h.right from to s p q is there rank f got);
        exports = λ path n. exports_at path n
            ∙ ap (λ (i : List ℕ → ExportData). option_map (moved_export g) ((i path).exported n)) (sym old_exports);
        definitions = λ path rank. definitions_at path rank
            ∙ ap (λ (i : List ℕ → ExportData). moved_definition g ((i path).definition rank)) (sym old_exports);
      }
        where
          forth : (d : ℕ) (path : List ℕ) → DeclaresImport p d path → DeclaresImport checked d (g path)
          forth d path i =
              subst (DeclaresImport checked d) (sym (swap.goes path (imports_there d path i)))
              (imports_by q checked (sym scopes.layout) (sym scopes.names) (sym scopes.size) (sym scopes.files) d (moved_path from to path)
              (there.imports d path i))

          back_to : (d : ℕ) (path : List ℕ) → DeclaresImport checked d path → (old : List ℕ) × ((path ≡ g old) × DeclaresImport p d old)
          back_to d path i =
              let o = there.imports_back d path (imports_by checked q scopes.layout scopes.names scopes.size scopes.files d path i) in
              (o.0, (o.1.1 ∙ sym (swap.goes o.0 (imports_there d o.0 o.1.0)), o.1.0))

pub checked_there : (w : Workspace) (before : Verdicts) (from to : List ℕ) (s : FileChanges) (h : IsMove w before from to s) (swap : MovesBySwap w from to)
    (p q : Package) → IsCheckedPackage w before p → IsBoundAfterMove w from to s p q →
    (o : Package) × IsCheckedThere w before (moved_verdicts h.edits.moved (swapped from to) before) from to s p o
checked_there w before from to s h swap p q is there = (
  checked w before from to s h swap p is q there,
  record {
    is = is_package w before from to s h swap p is q there;
    moved = moved w before from to s h swap p is q there;
    there = q;
    bound = there;
    scopes = scopes w before from to s h swap p is q there;
  },
)
