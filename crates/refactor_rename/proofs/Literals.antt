-- The literal of an import, in a package and in the workspace.
use Rattle.std.proofs.Common.{ℕ, ◌≡◌, List}
use Rattle.std.specs.Prelude.{Option, Some, None, slice_get}
use Rattle.base_files.specs.Packages.{package_paths}
use Rattle.base_files.specs.Workspace.{Workspace}
use Rattle.types_declared.specs.Package.{Package}
use Rattle.workspace_check.specs.Verdicts.{Verdicts}
use Rattle.refs_binding.specs.declared.declaration.Declaration.TheVariants.{Declared}
use Rattle.refs_binding.specs.Uses.{IsCheckedPackage}
use Rattle.refs_binding.specs.Workspaces.{IsPackageAt}
use Rattle.refs_binding.proofs.PackageNumbers.{in_package, of_package}
use Rattle.refactor_rename.specs.declared.renamed.Literal.{Literal}
use Rattle.refactor_rename.specs.Literals.{IsPathLiteralIn, IsPathLiteralOf, IsLiteralFound}

pub found_in : (w : Workspace) (known : Verdicts) (n : ℕ) (p : Package) (path : List ℕ) (d : ℕ) → IsPackageAt w known n p →
    slice_get (package_paths w) n ≡ Some path → (o : Option Literal) →
    IsLiteralFound (IsPathLiteralIn p d) o → IsLiteralFound (IsPathLiteralOf (IsCheckedPackage w known) (Declared path d)) o
found_in w known n p path d is at None h = λ l k. h l (of_package w known n p path (λ q. IsPathLiteralIn q d l) is at k)
found_in w known n p path d is at (Some l) h = in_package w known n p path (λ q. IsPathLiteralIn q d l) is at h
