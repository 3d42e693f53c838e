-- Each package of the workspace is there after a plain rename, by its scopes, and its declarations are there too.
use Rattle.std.specs.Prelude.{ℕ, List}
use Rattle.base_files.specs.Workspace.{Workspace}
use Rattle.base_files.specs.declared.place.Place.{Place}
use Rattle.base_edits.specs.EditSet.{FileChanges}
use Rattle.base_edits.specs.Revisions.{Revision, PackageMovesTo}
use Rattle.base_edits.specs.RevisionsOfEdits.{revision_of}
use Rattle.go_scope.specs.Bindings.{Counts}
use Rattle.types_declared.specs.Package.{Package}
use Rattle.workspace_check.specs.Verdicts.{Verdicts}
use Rattle.refs_binding.specs.declared.declaration.Declaration.{Declaration}
use Rattle.refs_binding.specs.declared.declaration.Declaration.TheVariants.{Declared}
use Rattle.refs_binding.specs.Binding.{IsPredeclaredNumber}
use Rattle.refs_binding.specs.Identifiers.{BeginsAt}
use Rattle.refs_binding.specs.Uses.{IsCheckedPackage}
use Rattle.refactor_conflict.specs.ScopedPackages.{IsScopedIn}
use Rattle.refactor_conflict.specs.BoundAfter.{HasBecome}
use Rattle.law_renamed_workspaces.specs.Layouts.{IsRelaid}
use Rattle.law_renamed_workspaces.specs.Renames.{IsPlainRename}

-- `q` is the package `y` after the change, by its scopes: relaid, at the path to which it moves, its identifiers moved. A declaration that
-- counts before and after the change has become what has its number.
pub record IsThereAfter (w : Workspace) (known : Verdicts) (r : Revision) (y q : Package) : Type 0 where
  pub is_scoped : IsScopedIn r.after q
  pub relaid : IsRelaid r y q
  pub goes : PackageMovesTo w r y.path q.path
  pub begins : (u : ℕ) (place : Place) → BeginsAt y place.path place.offset u → BeginsAt q (r.moved place).path (r.moved place).offset u
  pub become : (d : ℕ) → (IsPredeclaredNumber d → ⊥) → Counts y.layout y.names d → Counts q.layout q.names d →
      HasBecome w known r (Declared y.path d) (Declared y.path d)

-- Each package of the workspace is there after the change.
abbrev pub ArePackagesThere : Workspace → Verdicts → Revision → Type 0
ArePackagesThere w known r = (y : Package) → IsCheckedPackage w known y → (q : Package) × IsThereAfter w known r y q

-- That is so after each plain rename.
abbrev pub PackagesAreThere : Type 0
PackagesAreThere = (w : Workspace) (known : Verdicts) (d : Declaration) (name : List ℕ) (s : FileChanges) → IsPlainRename w known d name s →
    ArePackagesThere w known (revision_of w s)
