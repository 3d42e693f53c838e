-- The paths of packages after a move, as a map of all paths.
use Rattle.std.specs.Prelude.{ℕ, ◌≡◌, ◌⊎◌, ◌||◌, Bool, nat_eq, bytes_eq, cond, List, [], ◌∷◌, ◌++◌, drop, length}
use Rattle.std.specs.List.{starts_with}
use Rattle.law_changed_types.specs.Moved.{PathMap}
use Rattle.refactor_known.specs.declared.swap.Swap.{Swap}

-- Whether the path is that of the folder or lies in it.
abbrev pub is_inside : (folder path : List ℕ) → Bool
is_inside folder path = bytes_eq path folder || starts_with nat_eq path (folder ++ 47 ∷ [])

-- The map swaps the folder `from` with the folder `to`, in which no package lies.
--
--   from = lib/shapes, to = geo: lib/shapes becomes geo, geo becomes lib/shapes, and lib/shape stays
unfoldable pub swapped : (from to : List ℕ) → PathMap
swapped from to path =
    cond (is_inside from path) (to ++ drop (length from) path) (cond (is_inside to path) (from ++ drop (length to) path) path)

-- The rest of a path behind a folder: it is empty for the folder itself, else it begins with a slash.
pub record IsBehind (folder path rest : List ℕ) : Type 0 where
  pub whole : path ≡ folder ++ rest
  pub begins : (rest ≡ []) ⊎ ((more : List ℕ) × (rest ≡ 47 ∷ more))

-- The map of paths that swaps the two folders.
abbrev pub map_of : Swap → PathMap
map_of swap = swapped swap.from swap.to
