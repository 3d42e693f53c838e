-- Members of JSON values.
use Rattle.std.specs.Prelude.{ℕ, Bool, false, List, codes, Option, None, Some, option_and_then, option_map, unwrap_or}
use Rattle.std.specs.Borrow.{Bor}
use Rattle.serde_json.specs.Data.{Data}
use Rattle.serde_json.specs.Find.{as_bool, as_number, as_str, as_u64, get}
use Rattle.serde_json.specs.View.{view}
use Rattle.serde_json.specs.declared.value.Value.{Value}
use Rattle.lsp_position.specs.declared.positions.EditorPosition.{EditorPosition}

abbrev pub viewed_member : Option (Bor Value) → Option Data
viewed_member = option_map (λ (value : Bor Value). view value.now)

abbrev pub shown_text : Option (Bor (List ℕ)) → Option (List ℕ)
shown_text = option_map (λ (text : Bor (List ℕ)). text.now)

-- A member of a value, if the value is an object that has it.
abbrev pub json_member : List ℕ → Data → Option Data
json_member name value = get name value

-- A member that is a text.
abbrev pub text_at : List ℕ → Data → Option (List ℕ)
text_at name value = option_and_then as_str (json_member name value)

-- A member that is a number without a sign and a fraction.
abbrev pub unsigned_at : List ℕ → Data → Option ℕ
unsigned_at name value = option_and_then as_u64 (option_and_then as_number (json_member name value))

-- Whether a member is `true`.
abbrev pub is_true_at : List ℕ → Data → Bool
is_true_at name value = unwrap_or (option_and_then as_bool (json_member name value)) false

abbrev position_of : Option ℕ → Option ℕ → Option EditorPosition
position_of (Some line) (Some character) = Some (record { line = line; character = character })
position_of (Some line) None = None
position_of None character = None

-- The position that a value is.
abbrev pub position_read : Data → Option EditorPosition
position_read value = position_of (unsigned_at (codes "line") value) (unsigned_at (codes "character") value)

-- A member that is a position.
abbrev pub position_named : List ℕ → Data → Option EditorPosition
position_named name value = option_and_then position_read (json_member name value)
