-- How many steps a depth-first search along links has left at most.
use Rattle.std.specs.Prelude.{ℕ, ◌+◌, ◌*◌, ◌==◌, List, length, count_by}
use Rattle.types_members.specs.declared.search.SearchLink.{SearchLink}

-- A bound for the steps that a search has left: two for each number not found yet, and one for each on the path.
abbrev pub steps_to_go : List ℕ → List SearchLink → ℕ
steps_to_go turns path = 2 * count_by (λ turn. turn == 0) turns + length path
