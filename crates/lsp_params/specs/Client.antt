-- What a client says of itself.
use Rattle.std.specs.Prelude.{ℕ, ◌==◌, ◌||◌, Bool, false, List, codes, if◌then◌else◌, Option, None, Some, option_and_then, option_map, unwrap_or}
use Rattle.std.specs.Cmp.Lexicographic.{pointwise}
use Rattle.serde_json.specs.Data.{Data, Items, item, no_items}
use Rattle.serde_json.specs.Find.{as_array, as_str}
use Rattle.lsp_position.specs.declared.units.PositionEncoding.TheVariants.{Utf16, Utf8}
use Rattle.lsp_params.specs.Members.{is_true_at, text_at, json_member}
use Rattle.lsp_params.specs.declared.client.ClientAbilities.{ClientAbilities}

-- A member of a member.
abbrev pub within : Option Data → List ℕ → Option Data
within value name = option_and_then (json_member name) value

abbrev names_utf8 : Option (List ℕ) → Bool
names_utf8 (Some text) = pointwise ◌==◌ text (codes "utf-8")
names_utf8 None = false

-- Whether a value is the text `utf-8`.
abbrev pub is_utf8_name : Data → Bool
is_utf8_name value = names_utf8 (as_str value)

-- Whether a list has the text `utf-8`.
abbrev pub lists_utf8 : Items → Bool
lists_utf8 no_items = false
lists_utf8 (item value items) = is_utf8_name value || lists_utf8 items

-- Whether the client can count in bytes.
abbrev pub offers_utf8 : Option Data → Bool
offers_utf8 capabilities =
    unwrap_or (option_map lists_utf8 (option_and_then as_array (within (within capabilities (codes "general")) (codes "positionEncodings")))) false

-- Whether the client takes edits that name versions.
abbrev pub has_document_changes : Option Data → Bool
has_document_changes capabilities =
    unwrap_or (option_map (is_true_at (codes "documentChanges")) (within (within capabilities (codes "workspace")) (codes "workspaceEdit"))) false

-- What the client can do, by the parameters of initialize.
abbrev pub abilities_in : Data → ClientAbilities
abilities_in params = record {
  encoding = if offers_utf8 (json_member (codes "capabilities") params) then Utf8 else Utf16;
  has_document_changes = has_document_changes (json_member (codes "capabilities") params);
}

-- The URI of the folder that the parameters of initialize name.
abbrev pub root_in : Data → Option (List ℕ)
root_in params = text_at (codes "rootUri") params
