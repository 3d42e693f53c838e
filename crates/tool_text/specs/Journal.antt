-- Lines of journals of commands that write files.
use Rattle.std.specs.Prelude.{ℕ, List, [], ◌∷◌, ◌++◌, map}
use Rattle.std.specs.Borrow.{Bor}
use Rattle.std.specs.List.{flat_map}

-- Lines, each with a line feed behind it.
abbrev pub lines_text : List (Bor (List ℕ)) → List ℕ
lines_text = flat_map (λ (line : Bor (List ℕ)). line.now ++ 10 ∷ [])

-- The texts behind references.
abbrev pub bare_texts : List (Bor (List ℕ)) → List (List ℕ)
bare_texts = map (λ (text : Bor (List ℕ)). text.now)
