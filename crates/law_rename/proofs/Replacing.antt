-- A path in double quotes in the place of a string literal.
use Rattle.std.proofs.Common.{ℕ, List, [], ◌∷◌, ◌++◌, length, inl}
use Rattle.go_scanner.specs.declared.piece.Piece.{Piece}
use Rattle.go_scanner.specs.Cuts.{IsCut, CutsUpTo}
use Rattle.go_scanner.specs.StringValues.{IsStringPiece}
use Rattle.base_files.specs.Path.{IsPath}
use Rattle.go_respelled.specs.Literals.{HasLiteralAt}
use Rattle.go_respelled.proofs.Quotes.{before_stays}
use Rattle.law_rename.proofs.Quoting.{quoted_literal}
use Rattle.law_rename.proofs.Cutting.{quoted_in_cut}

pub replaced_in_cut : (least : ℕ) (front old path rest : List ℕ) (before pieces : List Piece) → IsPath least path → IsStringPiece old →
    (let bytes = 34 ∷ (path ++ 34 ∷ []) in let text = front ++ (bytes ++ rest) in
    CutsUpTo (front ++ (old ++ rest)) before (length front) → IsCut text pieces → HasLiteralAt text pieces before (length front) bytes path)
replaced_in_cut least front old path rest before pieces is is_old cut whole =
    let bytes : List ℕ = 34 ∷ (path ++ 34 ∷ []) in
    let is_new : IsStringPiece bytes = inl (quoted_literal least path is).piece in
    quoted_in_cut least front path rest before pieces is (before_stays front old bytes rest before is_old is_new cut) whole
