-- In a workspace without faults each package that is checked has the scopes that it has without checking.
use Rattle.std.proofs.Common.{ℕ, ◌≡◌, ◌⊎◌, false, inl, inr, List, [], map, refl, sym, ap, subst, ◌∙◌}
use Rattle.std.specs.Prelude.{Option, Some, None, Contains}
use Rattle.std.proofs.lemmas.Bool.{true≢false}
use Rattle.base_files.specs.Packages.{package_paths}
use Rattle.base_files.specs.Workspace.{Workspace}
use Rattle.go_ast.specs.SourceFile.{source_of, FileParts}
use Rattle.go_scope.specs.Packages.{scoped}
use Rattle.workspace_graph.specs.Packages.{PackageImports}
use Rattle.types_declared.specs.Files.{package_name}
use Rattle.types_declared.specs.Laid.{laid_in}
use Rattle.types_declared.specs.Package.{Package, ExportData}
use Rattle.types_declared.specs.PackageNames.{ArePackageNames}
use Rattle.workspace_check.specs.Verdicts.{Verdicts, AreVerdicts, IsSeenAs, seen, unseen, HasExportData}
use Rattle.workspace_check.specs.FaultLists.{ListsFaults}
use Rattle.workspace_check.proofs.Closed.{to_package}
use Rattle.workspace_check.proofs.Members.{cases_contains}
use Rattle.workspace_check.proofs.OneList.{is_faultless}
use Rattle.workspace_check.proofs.OneVerdict.{one_verdict, right_below, verdict_by}
use Rattle.refs_binding.specs.Uses.{IsCheckedPackage}
use Rattle.refs_lookup.proofs.OnePlace.{same_files}
use Rattle.refactor_conflict.specs.ScopedPackages.{AreClauseNames, IsScopedIn, IsClauseName, named, unnamed}
use Rattle.law_renamed_workspaces.proofs.GoodImports.{imports_are_good}
use Rattle.law_renamed_workspaces.proofs.KeptBindings.{scoped_of}
use Rattle.law_renamed_workspaces.proofs.ScopedAgain.{imported}
use Rattle.law_renamed_workspaces.specs.ScopedPackages.{FaultlessPackagesAreScoped}

-- A package of the workspace `v`, by any verdicts. The names under which it sees what it imports are those of clauses.
module _ (v : Workspace) (known : Verdicts) (q : Package) (is : IsCheckedPackage v known q) (name_of : List ℕ →
    Option (List ℕ)) (are : AreClauseNames v name_of)
    (sees : (r : List ℕ) → PackageImports v q.path r → (n : Option (List ℕ)) (i : ExportData) → IsSeenAs v known q.path r n i → n ≡ name_of r) where
  abbrev files : List FileParts
  files = is.is_checked.files

  are_clauses : ArePackageNames (map source_of files) name_of (laid_in (scoped files)) is.is_checked.is_package.is_laid.names
  are_clauses u lt bare =
      let own = is.is_checked in
      let one = own.is_package.is_laid.are_names u lt bare in
      record {
        known = λ r i. one.known r i
            ∙ sees r (imported v q.path files own.parsed u lt bare r i) (own.name_of r) (own.export_data_of r) (own.are_seen r);
        unknown = one.unknown;
      }

  pub scoped_by : IsScopedIn v (scoped_of q)
  scoped_by = record {
    of_workspace = is.of_workspace;
    files = files;
    parsed = is.is_checked.parsed;
    name_of = name_of;
    are_names = are;
    is_package = record {
      laid = is.is_checked.is_package.laid;
      is_laid = record {
        names = is.is_checked.is_package.is_laid.names;
        are_names = are_clauses;
        is_named = is.is_checked.is_package.is_laid.is_named;
      };
      is_package = ap scoped_of is.is_checked.is_package.is_package;
    };
  }

module _ (x : Workspace) (known : Verdicts) (right : AreVerdicts x known) (sound : ListsFaults x []) where
  pub faultless : (path : List ℕ) → Contains (package_paths x) path → (known path).faulty ≡ false
  faultless path has = (one_verdict x path (known path) (sound.known path) (right path has) (sound.right path has)).faulty ∙ is_faultless x sound path has

  pub data_of : (path : List ℕ) → Contains (package_paths x) path → HasExportData x known path (known path).export_data
  data_of path has = (verdict_by x path known (known path) (right_below x known right path) (right path has)).has_export_data (faultless path has)

  -- the name of each package
  abbrev pub IsHeld : List ℕ → Type 0
  IsHeld path = Contains (package_paths x) path ⊎ (Contains (package_paths x) path → ⊥)

  abbrev pub name_where : (path : List ℕ) → IsHeld path → Option (List ℕ)
  name_where path (inl has) = Some (known path).export_data.name
  name_where path (inr not) = None

  abbrev pub name_of : List ℕ → Option (List ℕ)
  name_of path = name_where path (cases_contains (package_paths x) path)

  is_name : (path : List ℕ) (c : IsHeld path) → IsClauseName x path (name_where path c)
  is_name path (inl has) =
      let exports = data_of path has in
      let read = exports.is_package in
      let same : (known path).export_data.name ≡ package_name (map source_of read.files) =
      exports.is_export_data.name ∙ ap package_name (same_files x known path exports.checked read) in
      subst (λ n. IsClauseName x path (Some n)) (sym same) (named has read.parsed)
  is_name path (inr not) = unnamed (λ files has parsed. not has)

  -- a package that is imported is seen under that name
  seen_where : (p : Package) → IsCheckedPackage x known p → (r : List ℕ) → PackageImports x p.path r → (n : Option (List ℕ)) (i : ExportData) →
      IsSeenAs x known p.path r n i → (c : IsHeld r) → n ≡ name_where r c
  seen_where p is r imports _ _ (seen on good) (inl has) = refl
  seen_where p is r imports _ _ (seen on good) (inr not) = absurd (not (to_package x p.path r on.imported))
  seen_where p is r imports _ _ (unseen none) (inl has) =
      absurd (imports_are_good x sound known right p is r imports (λ on. true≢false (sym (none on) ∙ faultless r has)))
  seen_where p is r imports _ _ (unseen none) (inr not) = refl

  pub is_scoped : (q : Package) → IsCheckedPackage x known q → IsScopedIn x (scoped_of q)
  is_scoped q is =
      scoped_by x known q is name_of (λ path. is_name path (cases_contains (package_paths x) path))
      (λ r imports n i sees. seen_where q is r imports n i sees (cases_contains (package_paths x) r))

pub faultless_scoped : FaultlessPackagesAreScoped
faultless_scoped x known right sound q is =
    (scoped_of q, (is_scoped x known right sound q is, record { path = refl; layout = refl; names = refl; size = refl; files = refl }))
