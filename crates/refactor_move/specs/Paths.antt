-- How paths change where a package, with all files in its folder, moves from one folder to another.
use Rattle.std.specs.Prelude.{ℕ, ◌≡◌, ◌==◌, ◌⊎◌, List, [], ◌∷◌, ◌++◌}
use Rattle.std.specs.List.{after_last}
use Rattle.base_files.specs.Path.{IsPath}

-- The path lies in the folder: it is `folder/rest`.
abbrev pub IsUnder : (folder path : List ℕ) → Type 0
IsUnder folder path = (rest : List ℕ) × (path ≡ folder ++ 47 ∷ rest)

-- The path `old` in the folder `from` becomes the path `new` in the folder `to`.
--
--   from = lib/shapes, to = geo: lib/shapes/area.go becomes geo/area.go
pub record HasMoved (from to old new : List ℕ) : Type 0 where
  pub rest : List ℕ
  pub was : old ≡ from ++ 47 ∷ rest
  pub is : new ≡ to ++ 47 ∷ rest

-- The path `old` in the folder `from` becomes `new` in the folder `to`, and `new` has the form of a path.
pub record HasMovedFile (from to old new : List ℕ) : Type 0 where
  pub moved : HasMoved from to old new
  pub is_path : IsPath 1 new

-- The package path `old` becomes `new`: `old` is the folder `from` itself or lies in it.
abbrev pub HasMovedPackage : (from to old new : List ℕ) → Type 0
HasMovedPackage from to old new = ((old ≡ from) × (new ≡ to)) ⊎ HasMoved from to old new

-- The path in double quotes.
abbrev pub quoted : List ℕ → List ℕ
quoted path = 34 ∷ (path ++ 34 ∷ [])

-- The last element of the path.
abbrev pub last_of : List ℕ → List ℕ
last_of path = after_last (λ b. b == 47) path
