-- Small examples of edited texts, moved offsets and reversed edits.
use Rattle.std.specs.Prelude.{◌≡◌, ℕ, List, [], ◌∷◌, refl}
use Rattle.base_edits.specs.Edits.{edited_text}
use Rattle.base_edits.specs.Inverse.{reversed}
use Rattle.base_edits.specs.Moved.{moved_offset}
use Rattle.base_edits.specs.declared.edit.Edit.{Edit}

abbrev edit_of : ℕ → ℕ → List ℕ → Edit
edit_of start end text = record { span = record { start = start; end = end }; text = text }

-- In the text `abc`, `b` is replaced by `xy`.
abbrev two_for_one : List Edit
two_for_one = edit_of 1 2 (120 ∷ 121 ∷ []) ∷ []

middle_replaced : edited_text two_for_one (97 ∷ 98 ∷ 99 ∷ []) ≡ 97 ∷ 120 ∷ 121 ∷ 99 ∷ []
middle_replaced = refl

start_stays : moved_offset two_for_one 1 ≡ 1
start_stays = refl

end_moves : moved_offset two_for_one 2 ≡ 3
end_moves = refl

middle_back : reversed two_for_one (97 ∷ 98 ∷ 99 ∷ []) ≡ edit_of 1 3 (98 ∷ []) ∷ []
middle_back = refl

-- In the text `abc`, `x` is inserted before `b`, and `c` is removed.
abbrev in_and_out : List Edit
in_and_out = edit_of 1 1 (120 ∷ []) ∷ edit_of 2 3 [] ∷ []

put_and_taken : edited_text in_and_out (97 ∷ 98 ∷ 99 ∷ []) ≡ 97 ∷ 120 ∷ 98 ∷ []
put_and_taken = refl

-- An offset at which bytes are inserted moves behind them.
behind_what_is_put : moved_offset in_and_out 1 ≡ 2
behind_what_is_put = refl

last_end_moves : moved_offset in_and_out 3 ≡ 3
last_end_moves = refl
