-- Small examples of replaced names.
use Rattle.std.specs.Prelude.{◌≡◌, ℕ, List, [], ◌∷◌, refl}
use Rattle.go_scanner.specs.declared.operators.Operator.TheVariants.{Assign}
use Rattle.go_scanner.specs.declared.piece.Class.{Class}
use Rattle.go_scanner.specs.declared.piece.Class.TheVariants.{Name, Newline, Operator}
use Rattle.go_scanner.specs.declared.piece.Piece.{Piece}
use Rattle.go_scanner.specs.CutText.{CutText, tokens_in}
use Rattle.go_scanner.specs.Tokens.{line_ends, semicolon, tokens_of}
use Rattle.base_edits.specs.declared.edit.Edit.{Edit}
use Rattle.go_ast.specs.Kinds.{kinds_from, kinds_of}
use Rattle.go_respelled.specs.Renamings.{recut}

-- A piece by its class and its ends.
abbrev piece : Class → ℕ → ℕ → Piece
piece class start end = record { class = class; span = record { start = start; end = end } }

-- The text `a=a` and a line feed.
abbrev old : CutText
old = record { text = 97 ∷ 61 ∷ 97 ∷ 10 ∷ []; pieces = piece Name 0 1 ∷ piece (Operator Assign) 1 2 ∷ piece Name 2 3 ∷ piece Newline 3 4 ∷ [] }

-- Both `a` are replaced by `bc`.
abbrev both : List Edit
both = record { span = record { start = 0; end = 1 }; text = 98 ∷ 99 ∷ [] } ∷ record { span = record { start = 2; end = 3 }; text = 98 ∷ 99 ∷ [] } ∷ []

text_is_new : (recut both old).text ≡ 98 ∷ 99 ∷ 61 ∷ 98 ∷ 99 ∷ 10 ∷ []
text_is_new = refl

pieces_move : (recut both old).pieces ≡ piece Name 0 2 ∷ piece (Operator Assign) 2 3 ∷ piece Name 3 5 ∷ piece Newline 5 6 ∷ []
pieces_move = refl

semicolon_moves : tokens_in (recut both old) ≡ piece Name 0 2 ∷ piece (Operator Assign) 2 3 ∷ piece Name 3 5 ∷ semicolon 5 ∷ []
unfolding line_ends tokens_of
semicolon_moves = refl

kinds_are_old : kinds_of (recut both old) ≡ kinds_of old
unfolding line_ends tokens_of kinds_from
kinds_are_old = refl
