-- What a change that moves packages does to them, as the scopes after it show it, and as the checked packages after it show it.
use Rattle.std.specs.Prelude.{ℕ, ◌≡◌, List, [], Contains}
use Rattle.base_files.specs.Packages.{package_paths}
use Rattle.base_files.specs.Workspace.{Workspace}
use Rattle.base_files.specs.declared.place.Place.{Place}
use Rattle.base_edits.specs.Revisions.{Revision, PackageMovesTo}
use Rattle.go_scope.specs.declared.model.Position.{Position}
use Rattle.types_declared.specs.Package.{Package, spelled}
use Rattle.workspace_check.specs.FaultLists.{ListsFaults}
use Rattle.workspace_check.specs.Verdicts.{Verdicts, AreVerdicts}
use Rattle.refs_binding.specs.Identifiers.{BeginsAt}
use Rattle.refs_binding.specs.Uses.{IsCheckedPackage}
use Rattle.refactor_conflict.specs.ScopedPackages.{IsScopedIn}
use Rattle.law_renamed_workspaces.specs.Layouts.{IsToken}
use Rattle.law_renamed_workspaces.specs.ScopedPackages.{HasMovedTokens}
use Rattle.law_moves.specs.KeptNames.{KeepsOtherNames}
use Rattle.law_changed_types.specs.Moved.{PathMap, IsInjective}
use Rattle.law_changed_types.specs.MovedPackage.{IsMovedPackage}

-- The package `q` of the scopes after the change is `p` at its new path, with the same layout. Its tokens are moved, and spelled as the
-- change has it.
pub record IsScopedMove (w : Workspace) (r : Revision) (goes : PathMap) (p q : Package) : Type 0 where
  pub is_scoped : IsScopedIn r.after q
  pub path : q.path ≡ goes p.path
  pub size : q.size ≡ p.size
  pub layout : q.layout ≡ p.layout
  pub tokens : (at : Position) (place : Place) → IsToken p at place → spelled q at.file at.index ≡ r.called place (spelled p at.file at.index)
  pub names : (u : ℕ) (place : Place) → BeginsAt p place.path place.offset u → q.names u ≡ r.called place (p.names u)
  pub begins : HasMovedTokens r p q
  pub to : PackageMovesTo w r p.path q.path

-- The workspace has no fault. By its scopes, each package is there after the change, and other names than those of imports are kept.
-- `goes`: the paths of packages after the change.
pub record AreScopedMoves (w : Workspace) (known : Verdicts) (r : Revision) (goes : PathMap) : Type 0 where
  pub right : AreVerdicts w known
  pub sound : ListsFaults w []
  pub there : (p : Package) → IsCheckedPackage w known p → (q : Package) × IsScopedMove w r goes p q
  pub kept : KeepsOtherNames w known r

-- The workspace after the change has no fault, and each of its packages is one of before, moved. The map `g` gives packages their paths.
pub record AreCheckedMoves (w : Workspace) (known : Verdicts) (r : Revision) (goes : PathMap) (after : Verdicts) : Type 0 where
  pub right : AreVerdicts r.after after
  pub sound : ListsFaults r.after []
  pub g : PathMap
  pub injective : IsInjective g
  pub agrees : (path : List ℕ) → Contains (package_paths w) path → g path ≡ goes path
  pub there : (p : Package) → IsCheckedPackage w known p → (q : Package) × (IsCheckedPackage r.after after q × IsMovedPackage g p q)
