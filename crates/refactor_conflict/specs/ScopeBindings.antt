-- All bindings by the scopes of a workspace, by the places of identifiers.
use Rattle.std.specs.Prelude.{ℕ, ◌≡◌, ◌↔◌}
use Rattle.base_files.specs.Workspace.{Workspace}
use Rattle.base_files.specs.declared.place.Place.{Place}
use Rattle.types_declared.specs.Package.{Package}
use Rattle.refs_binding.specs.declared.declaration.Declaration.{Declaration}
use Rattle.refs_binding.specs.Binding.{BindsByScope}
use Rattle.refs_binding.specs.Identifiers.{BeginsAt}
use Rattle.refactor_conflict.specs.ScopedPackages.{IsScopedIn}

-- The scopes of the workspace bind the identifier at the place to the declaration `e`.
pub record IsScopeUse (w : Workspace) (e : Declaration) (place : Place) : Type 0 where
  pub used_in : Package
  pub is_package : IsScopedIn w used_in
  pub user : ℕ
  pub begins : BeginsAt used_in place.path place.offset user
  pub bound : BindsByScope used_in user e
