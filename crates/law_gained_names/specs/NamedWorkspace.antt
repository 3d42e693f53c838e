-- A workspace without faults, and the one after an import of one package got the name that it declared already.
use Rattle.std.specs.Prelude.{ℕ, ◌≡◌, List, []}
use Rattle.base_files.specs.Workspace.{Workspace}
use Rattle.base_files.specs.Packages.{package_files}
use Rattle.refs_binding.specs.Uses.{IsCheckedPackage}
use Rattle.types_declared.specs.Package.{Package}
use Rattle.workspace_check.specs.Earlier.{HaveSameImports}
use Rattle.workspace_check.specs.FaultLists.{ListsFaults}
use Rattle.workspace_check.specs.Verdicts.{AreVerdicts, IsPackageIn, Verdicts}
use Rattle.workspace_graph.specs.Packages.{PackageImports}
use Rattle.law_gained_names.specs.GainedName.{GainsOwnName}

-- The workspace x is w with the package q in place of p. Other packages have the same files, and all packages import the same packages.
pub record HasGainedName (w x : Workspace) (known : Verdicts) (number : ℕ) (p q : Package) : Type 0 where
  pub imports : HaveSameImports w x
  pub paths : (path : List ℕ) → PackageImports w p.path path → PackageImports x p.path path
  pub was : IsCheckedPackage w known p
  pub is : IsPackageIn x known p.path q
  pub gains : GainsOwnName number p q
  pub others : (path : List ℕ) → (path ≡ p.path → ⊥) → package_files w path ≡ package_files x path

-- Then the verdicts of w are those of x.
abbrev pub GainedNamesKeepVerdicts : Type 0
GainedNamesKeepVerdicts = (w x : Workspace) (sound : ListsFaults w []) (number : ℕ) (p q : Package) → HasGainedName w x sound.known number p q →
    AreVerdicts x sound.known

-- And x has no fault.
abbrev pub GainedNamesListNoFault : Type 0
GainedNamesListNoFault = (w x : Workspace) (sound : ListsFaults w []) (number : ℕ) (p q : Package) → HasGainedName w x sound.known number p q →
    ListsFaults x []
