-- The fault lists of a package and of a workspace.
use Rattle.std.specs.Prelude.{ℕ, ◌↔◌, List, Contains}
use Rattle.std.specs.List.Sorted.{IsStrictlySortedBy}
use Rattle.base_files.specs.Workspace.{Workspace}
use Rattle.base_files.specs.Packages.{package_paths}
use Rattle.workspace_check.specs.declared.fault.FileFault.{FileFault}
use Rattle.workspace_check.specs.Faults.{fault_cmp}
use Rattle.workspace_check.specs.Verdicts.{Verdicts, IsFaultBy, AreVerdicts, AreVerdictsBelow}

-- The list holds just the faults of `P`, each once, sorted by package, path, offset and kind.
pub record AreListedFaults (P : FileFault → Type 0) (list : List FileFault) : Type 0 where
  pub in_order : IsStrictlySortedBy fault_cmp list
  pub each : (f : FileFault) → Contains list f ↔ P f

-- A fault of some package of the workspace.
pub record IsFaultOfSome (w : Workspace) (known : Verdicts) (f : FileFault) : Type 0 where
  pub path : List ℕ
  pub is_package : Contains (package_paths w) path
  pub is_fault : IsFaultBy w known path f

-- The list holds just the faults of the package `p`, sorted.
pub record ListsPackageFaults (w : Workspace) (p : List ℕ) (list : List FileFault) : Type 0 where
  pub known : Verdicts
  pub right : AreVerdictsBelow w p known
  pub listed : AreListedFaults (IsFaultBy w known p) list

-- The list holds just the faults of all packages of the workspace, sorted by package, path, offset and kind.
pub record ListsFaults (w : Workspace) (list : List FileFault) : Type 0 where
  pub known : Verdicts
  pub right : AreVerdicts w known
  pub listed : AreListedFaults (IsFaultOfSome w known) list
