-- If the closure of a package has the same texts in two workspaces, it is checked as one `Package` in both.
use Rattle.std.proofs.Common.{ℕ, List}
use Rattle.std.specs.Prelude.{Contains}
use Rattle.base_files.specs.Packages.{package_paths}
use Rattle.base_files.specs.Workspace.{Workspace}
use Rattle.types_declared.specs.Package.{Package}
use Rattle.workspace_check.specs.Closures.{HasSameClosure}
use Rattle.workspace_check.specs.Laws.{IsSameVerdict}
use Rattle.workspace_check.specs.Verdicts.{Verdicts, AreVerdicts}
use Rattle.workspace_check.proofs.Alike.{package_as}
use Rattle.workspace_check.proofs.Local.{own_there, local_verdict, locally_checked}
use Rattle.workspace_check.proofs.OneVerdict.{one_verdict, right_alike, right_below}
use Rattle.refs_binding.specs.Uses.{IsCheckedPackage}

module _ (w x : Workspace) (before after : Verdicts) (right : AreVerdicts w before) (also : AreVerdicts x after) where
  pub package_stays : (p : Package) → HasSameClosure w x p.path → IsCheckedPackage w before p → IsCheckedPackage x after p
  package_stays p same is =
      let there = locally_checked w x p.path before p is.of_workspace same (right_below w before right p.path) is.is_checked in
      record {
        of_workspace = own_there w x p.path same is.of_workspace;
        is_checked = package_as x p.path before after (right_alike x p.path before after there.0 (right_below x after also p.path)) p there.1;
      }

  pub known_stays : (path : List ℕ) → Contains (package_paths w) path → HasSameClosure w x path → IsSameVerdict (before path) (after path)
  known_stays path has same =
      one_verdict x path (before path) (after path) (local_verdict w x path (before path) has same (right path has))
      (also path (own_there w x path same has))
