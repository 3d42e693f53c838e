-- A text in which one name, or one interpreted string, is replaced.
use Rattle.std.proofs.Common.{ℕ, ◌≡◌, ◌+◌, List, ◌∷◌, ◌++◌, length, sym, ◌∙◌, subst, inl, inr}
use Rattle.std.specs.Prelude.{map}
use Rattle.go_scanner.specs.declared.piece.Class.{Class}
use Rattle.go_scanner.specs.declared.piece.Class.TheVariants.{GeneralComment, InterpretedString}
use Rattle.go_scanner.specs.declared.piece.Piece.{Piece}
use Rattle.go_scanner.specs.Cuts.{IsCut}
use Rattle.go_respelled.specs.Literals.{piece_at, shifted}
use Rattle.go_respelled.specs.PieceEdits.{IsEncodedString, MayStandFor}
use Rattle.go_respelled.proofs.Quotes.{replaced_literal}
use Rattle.go_respelled.proofs.Single.{replaced_name, was_piece}

abbrev pub Recuts : (front old new rest : List ℕ) (before after : List Piece) → Class → Type 0
Recuts front old new rest before after c = IsCut (front ++ (old ++ rest)) (before ++ piece_at c (length front) old ∷ after) →
    IsCut (front ++ (new ++ rest)) (before ++ piece_at c (length front) new ∷ map (shifted (length front + length old) (length front + length new)) after)

replaced_string : (front old new rest : List ℕ) (before after : List Piece) → IsEncodedString new → Recuts front old new rest before after InterpretedString
replaced_string front old new rest before after is whole =
    let was = was_piece front old rest before after InterpretedString (λ e. cc) whole in
    replaced_literal front old new rest before after (piece_at InterpretedString (length front) old) (inl was.piece) is.piece is.encoded was.leads whole

pub replaced_by : (front old new rest : List ℕ) (before after : List Piece) (c : Class) → MayStandFor c new → Recuts front old new rest before after c
replaced_by front old new rest before after c (inl name) =
    subst (Recuts front old new rest before after) (sym name.0) (replaced_name front old new rest before after name.1)
replaced_by front old new rest before after c (inr string) =
    subst (Recuts front old new rest before after) (sym string.0) (replaced_string front old new rest before after string.1)

pub no_comment : (c : Class) (bytes : List ℕ) → MayStandFor c bytes → c ≡ GeneralComment → ⊥
no_comment c bytes (inl name) is = let wrong = sym name.0 ∙ is in cc
no_comment c bytes (inr string) is = let wrong = sym string.0 ∙ is in cc
