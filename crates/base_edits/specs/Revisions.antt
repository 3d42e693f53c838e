-- A change of a workspace, as the definitions see it that say what it does to bindings.
use Rattle.std.specs.Prelude.{ℕ, ◌≡◌, List, ◌∷◌}
use Rattle.base_files.specs.Packages.{package_files}
use Rattle.base_files.specs.Path.{folder}
use Rattle.base_files.specs.Workspace.{Workspace}
use Rattle.base_files.specs.declared.place.Place.{Place}

-- A change: the workspace after it, where each place moves, and the new name of an identifier at a place, by its name before.
pub record Revision : Type 0 where
  pub after : Workspace
  pub moved : Place → Place
  pub called : Place → List ℕ → List ℕ

-- The package at `path` is moved to the folder `to`: the folder to which its first file is moved.
pub record PackageMovesTo (w : Workspace) (r : Revision) (path to : List ℕ) : Type 0 where
  pub first : List ℕ × List ℕ
  pub others : List (List ℕ × List ℕ)
  pub files : package_files w path ≡ first ∷ others
  pub goes : to ≡ folder (r.moved (record { path = first.0; offset = 0 })).path
