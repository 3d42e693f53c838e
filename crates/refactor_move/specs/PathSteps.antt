-- What the steps of finding the paths of a move answer.
use Rattle.std.specs.Prelude.{ℕ, ◌≡◌, ◌⊎◌, List, [], ◌∷◌, ◌++◌, ⊤, Option, Some, None, Result, Ok, Err}
use Rattle.base_files.specs.Path.{IsPath}
use Rattle.base_files.specs.declared.refusal.Refusal.{Refusal}
use Rattle.base_files.specs.declared.refusal.Refusal.TheVariants.{Memory, TooLarge}
use Rattle.refactor_move.specs.declared.moved.Moved.{Moved}
use Rattle.refactor_move.specs.Paths.{IsUnder, HasMoved, HasMovedFile}

-- The bytes are empty or begin with a slash.
abbrev pub IsPathRest : List ℕ → Type 0
IsPathRest rest = (rest ≡ []) ⊎ ((more : List ℕ) × (rest ≡ 47 ∷ more))

-- The path `folder/rest`, or `TooLarge` where these bytes are no path.
abbrev pub JoinsNewPath : (folder rest : List ℕ) → Result (List ℕ) Refusal → Type 0
JoinsNewPath folder rest (Ok path) = (path ≡ folder ++ 47 ∷ rest) × IsPath 1 path
JoinsNewPath folder rest (Err TooLarge) = ¬ (IsPath 1 (folder ++ 47 ∷ rest))
JoinsNewPath folder rest (Err Memory) = ⊤
JoinsNewPath folder rest (Err refusal) = ⊥

-- The path would move to bytes that are no path.
abbrev pub HasNoPathFor : Moved → (path : List ℕ) → Type 0
HasNoPathFor m path = (new : List ℕ) × (HasMoved m.from m.to path new × ¬ (IsPath 1 new) × IsPath 1 path)

-- The new path of a file in the folder that moves, or `None` for a file outside it. `TooLarge` where the new path would be none.
abbrev pub FindsNewPath : Moved → (path : List ℕ) → Result (Option (List ℕ)) Refusal → Type 0
FindsNewPath m path (Ok None) = IsUnder m.from path → ⊥
FindsNewPath m path (Ok (Some new)) = HasMovedFile m.from m.to path new
FindsNewPath m path (Err TooLarge) = HasNoPathFor m path
FindsNewPath m path (Err Memory) = ⊤
FindsNewPath m path (Err refusal) = ⊥
