-- Tokens behind a place, and the one behind others.
use Rattle.std.proofs.Common.{ℕ, ◌≡◌, ◌≤◌, List, [], ◌∷◌, ◌++◌, Some, length, refl, arith}
use Rattle.std.specs.Prelude.{slice_get}
use Rattle.std.specs.List.{AllByRecursion}
use Rattle.go_scanner.specs.declared.piece.Piece.{Piece}
use Rattle.go_scanner.specs.Spans.{FollowFrom}
use Rattle.law_rename.proofs.Behind.{LiesBehind}

pub behind : (place from to : ℕ) (ts : List Piece) → place ≤ from → FollowFrom from ts to → AllByRecursion (LiesBehind place) ts
behind place from to [] le follow = tt
behind place from to (t ∷ ts) le follow =
    ((omega (arith, follow.0), follow.1), behind place t.span.end to ts (omega (arith, follow.0, follow.1)) follow.2)

pub seam : {X : Type 0} (ones rest : List X) (one : X) → slice_get (ones ++ one ∷ rest) (length ones) ≡ Some one
seam [] rest one = refl
seam (x ∷ ones) rest one = seam ones rest one
