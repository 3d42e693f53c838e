-- Lists of borrowed paths.
use Rattle.std.specs.Prelude.{ℕ, List, map}
use Rattle.std.specs.Borrow.{Bor}

-- The paths that a list borrows.
abbrev pub names : List (Bor (List ℕ)) → List (List ℕ)
names folders = map (λ folder. folder.now) folders
