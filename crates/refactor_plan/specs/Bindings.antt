-- A package that is read once for all steps of a rename.
use Rattle.std.specs.Prelude.{ℕ, ◌≡◌, List, Some}
use Rattle.base_files.specs.Workspace.{Workspace}
use Rattle.types_declared.specs.PackageView.{package_of}
use Rattle.workspace_check.specs.Verdicts.{Verdicts}
use Rattle.refs_binding.specs.declared.declaration.Declaration.{Declaration}
use Rattle.refs_binding.specs.declared.declaration.Declaration.TheVariants.{Declared}
use Rattle.refs_binding.specs.Indexed.{IsPackageNumber, IsPackageNumbered, IsIndexed}
use Rattle.refs_binding.specs.Uses.{IsCheckedPackage}
use Rattle.refs_binding.specs.Workspaces.{known_in}
use Rattle.refs_places.specs.Outside.{declaring_path}
use Rattle.refactor_rename.specs.declared.renaming.Renaming.{Renaming}
use Rattle.refactor_coupled.specs.Coupling.{IsRenamedSet}
use Rattle.refactor_plan.specs.declared.bindings.PackageBindings.{PackageBindings}
use Rattle.refactor_plan.specs.declared.proposal.Proposal.{Proposal}

-- What was read is the package of its number, with its index, its type definitions and its uses of members.
pub record IsRead (read : PackageBindings) : Type 0 where
  pub numbered : IsPackageNumber read.at
  pub unit : IsPackageNumbered read.at (package_of read.of.unit)
  pub indexed : IsIndexed read.of

-- The workspace of the package.
abbrev pub workspace_read : PackageBindings → Workspace
workspace_read read = read.at.workspace.now.graph

-- The verdicts on its packages.
abbrev pub verdicts_read : PackageBindings → Verdicts
verdicts_read read = known_in read.at.workspace.now.findings

-- The path of the package.
abbrev pub path_read : PackageBindings → List ℕ
path_read read = (package_of read.of.unit).path

-- The declaration is one of the package.
abbrev pub IsOfRead : PackageBindings → Declaration → Type 0
IsOfRead read d = declaring_path d ≡ Some (path_read read)

-- The set is what is renamed with the declaration, in the workspace of the package.
abbrev pub IsSetIn : PackageBindings → Renaming → Type 0
IsSetIn read r = IsRenamedSet (IsCheckedPackage (workspace_read read) (verdicts_read read)) r.declaration.now r.set.now

-- It is the declaration of the number `n` in the package's scopes.
abbrev pub HasScopeNumber : PackageBindings → Declaration → ℕ → Type 0
HasScopeNumber read d n = d ≡ Declared (path_read read) n

-- The package was read in the workspace of the proposal.
pub record IsReadFor (p : Proposal) (read : PackageBindings) : Type 0 where
  pub is_read : IsRead read
  pub same : read.at.workspace.now ≡ p.workspace.now
