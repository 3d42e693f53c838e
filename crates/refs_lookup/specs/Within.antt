-- The declarations that identifiers of a package can be bound to.
use Rattle.std.specs.Prelude.{ℕ, List}
use Rattle.base_files.specs.Path.{folder}
use Rattle.base_files.specs.Workspace.{Workspace}
use Rattle.base_files.specs.declared.place.Place.{Place}
use Rattle.workspace_graph.specs.Packages.{IsInClosure}
use Rattle.workspace_check.specs.Verdicts.{Verdicts}
use Rattle.refs_binding.specs.declared.declaration.Declaration.{Declaration}
use Rattle.refs_binding.specs.declared.declaration.Declaration.TheVariants.{Predeclared}
use Rattle.refs_binding.specs.Binding.{IsPredeclaredNumber}
use Rattle.refs_binding.specs.Uses.{IsCheckedPackage}
use Rattle.refs_binding.specs.DeclaringPlaces.{IsDeclaredAt}

-- The declaration is declared at this place, in a file of a package in the closure of `p`.
pub record DeclaresWithin (w : Workspace) (known : Verdicts) (p : List ℕ) (d : Declaration) (place : Place) : Type 0 where
  pub declared : IsDeclaredAt (IsCheckedPackage w known) d place
  pub in_closure : IsInClosure w p (folder place.path)

-- The declaration is predeclared, or is declared in a package in the closure of `p`.
pub data IsDeclaredWithin (w : Workspace) (known : Verdicts) (p : List ℕ) : Declaration → Type 0 where
  predeclared : {n : ℕ} → IsPredeclaredNumber n → IsDeclaredWithin w known p (Predeclared n)
  stands : {d : Declaration} (place : Place) → DeclaresWithin w known p d place → IsDeclaredWithin w known p d
