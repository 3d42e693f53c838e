-- The whole cut of a text in which a path in double quotes stands in the place of a string literal.
use Rattle.std.proofs.Common.{ℕ, ◌+◌, List, [], ◌∷◌, ◌++◌, length}
use Rattle.std.specs.Prelude.{map}
use Rattle.base_files.specs.Path.{IsPath}
use Rattle.go_scanner.specs.declared.piece.Piece.{Piece}
use Rattle.go_scanner.specs.Cuts.{IsCut, CutsUpTo}
use Rattle.go_scanner.specs.StringValues.{IsStringPiece}
use Rattle.go_respelled.specs.Literals.{literal_at, shifted}
use Rattle.go_respelled.proofs.Quotes.{replaced_literal}
use Rattle.law_rename.proofs.Quoting.{quoted_literal, quoted_encoded}

pub replaced_cut : (least : ℕ) (front old path rest : List ℕ) (before after : List Piece) (p : Piece) → IsPath least path → IsStringPiece old →
    CutsUpTo (front ++ (old ++ rest)) before (length front) → IsCut (front ++ (old ++ rest)) (before ++ p ∷ after) →
    (let bytes = 34 ∷ (path ++ 34 ∷ []) in
    IsCut (front ++ (bytes ++ rest)) (before ++ literal_at (length front) bytes ∷ map (shifted (length front + length old)
    (length front + length bytes)) after))
replaced_cut least front old path rest before after p is is_old cut whole =
    replaced_literal front old (34 ∷ (path ++ 34 ∷ [])) rest before after p is_old (quoted_literal least path is).piece (quoted_encoded least path is) cut whole
