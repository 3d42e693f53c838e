-- Where the tokens of a text begin after a name was inserted before a string literal.
use Rattle.std.specs.Prelude.{ℕ, ◌≡◌, [], ◌∷◌, Some, length, option_map, slice_get}
use Rattle.base_edits.specs.Moved.{moved_offset}
use Rattle.base_edits.specs.declared.edit.Edit.{Edit}
use Rattle.go_scanner.specs.CutText.{tokens_in}
use Rattle.go_ast.specs.SourceFile.{offset_at}
use Rattle.law_rename.specs.Around.{from_on}
use Rattle.law_rename.specs.MayGain.{inserted}
use Rattle.law_rename.specs.Named.{MayPut, NamePut, after_put, before_put, literal_piece, put_bytes}

-- The edit that inserts the name before the literal.
abbrev pub put_edit : NamePut → Edit
put_edit p = inserted (length p.front) (put_bytes p)

-- A token of the old text begins, at its new number, where the edit moves its offset. So does the end of the text.
abbrev pub TokensMove : Type 0
TokensMove = (p : NamePut) (number : ℕ) → MayPut p → slice_get (tokens_in (before_put p)) number ≡ Some (literal_piece p) → (n : ℕ) →
    offset_at (after_put p).text (slice_get (tokens_in (after_put p)) (from_on number n)) ≡
    moved_offset (put_edit p ∷ []) (offset_at (before_put p).text (slice_get (tokens_in (before_put p)) n))

-- It keeps its class.
abbrev pub TokensKeepClasses : Type 0
TokensKeepClasses = (p : NamePut) (number : ℕ) → MayPut p → slice_get (tokens_in (before_put p)) number ≡ Some (literal_piece p) → (n : ℕ) →
    option_map (λ t. t.class) (slice_get (tokens_in (after_put p)) (from_on number n)) ≡
    option_map (λ t. t.class) (slice_get (tokens_in (before_put p)) n)
