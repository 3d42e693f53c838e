-- Identifiers as ranges, locations and highlights.
use Rattle.std.specs.Prelude.{ℕ, ◌≡◌, ◌==◌, ◌&&◌, Bool, true, false, List, [], ◌∷◌, Option, None, Some, if◌then◌else◌, Result}
use Rattle.std.specs.Cmp.Lexicographic.{pointwise}
use Rattle.std.specs.List.{flat_map}
use Rattle.std.specs.Str.Lossy.{utf8_lossy}
use Rattle.serde_json.specs.Data.{Data, array}
use Rattle.serde_json.specs.View.{items_of}
use Rattle.serde_json.specs.declared.value.Value.{Value}
use Rattle.base_files.specs.Workspace.{Workspace}
use Rattle.base_files.specs.declared.place.Place.{Place}
use Rattle.lsp_answers.specs.Places.{highlight_value, location_value, prepared_value}
use Rattle.lsp_answers.specs.declared.places.Between.{Between}
use Rattle.lsp_edits.specs.Edits.{IsToldUri, file_bytes}
use Rattle.lsp_edits.specs.Spans.{identifier_at, identifier_range}
use Rattle.lsp_edits.specs.declared.telling.Telling.{Telling}
use Rattle.lsp_told.specs.Asking.{Tells, TellsNothing}
use Rattle.lsp_told.specs.Listed.{AreCollected}
use Rattle.lsp_told.specs.declared.asked_byte.AskedByte.{AskedByte}
use Rattle.lsp_told.specs.declared.fault.AskFault.{AskFault}

-- The range of the identifier at a place.
abbrev pub place_range : Telling → Workspace → Place → Between
place_range telling w place = identifier_range telling.abilities.encoding (file_bytes w place.path) place.offset

-- A place as a location: the URI of its file, and the range of its identifier.
abbrev pub IsLocation : Telling → Workspace → Place → Data → Type 0
IsLocation telling w place value =
    (uri : List ℕ) × IsToldUri telling place.path uri × (value ≡ location_value uri (place_range telling w place))

-- Whether a place is this one.
abbrev pub is_place : Place → Option Place → Bool
is_place place None = false
is_place place (Some other) = (place.offset == other.offset) && pointwise ◌==◌ place.path other.path

-- A place as a location, unless it is the one that is left out.
abbrev pub IsLocationUnless : Telling → Workspace → (left_out : Option Place) → Place → Option Data → Type 0
IsLocationUnless telling w left_out place (Some value) = (is_place place left_out ≡ false) × IsLocation telling w place value
IsLocationUnless telling w left_out place None = is_place place left_out ≡ true

-- Places as a list of locations, in their order, but for the one that is left out.
abbrev pub ListsLocations : Telling → Workspace → (left_out : Option Place) → List Place → Data → Type 0
ListsLocations telling w left_out places value = (values : List Data) × AreCollected (IsLocationUnless telling w left_out) places values
    × (value ≡ array (items_of values))

-- A place as a location, or `null` where there is none.
abbrev pub TellsLocation : Telling → Workspace → Option Place → Result Value AskFault → Type 0
TellsLocation telling w None came = TellsNothing came
TellsLocation telling w (Some place) came = Tells (IsLocation telling w place) came

-- A place as a highlight.
abbrev pub highlight_at : Telling → Workspace → Place → Data
highlight_at telling w place = highlight_value (place_range telling w place)

-- A place as a highlight, if it lies in the file.
abbrev pub highlights_at : Telling → Workspace → (path : List ℕ) → Place → List Data
highlights_at telling w path place = if pointwise ◌==◌ place.path path then highlight_at telling w place ∷ [] else []

-- The highlights of the places that lie in the file of a byte.
abbrev pub highlights_in : Telling → Workspace → AskedByte → List Place → Data
highlights_in telling w byte places = array (items_of (flat_map (highlights_at telling w byte.path) places))

-- The bytes of the identifier that begins at a byte, read as UTF-8.
abbrev pub name_from : Workspace → AskedByte → List ℕ
name_from w byte = utf8_lossy (identifier_at (file_bytes w byte.path) byte.offset)

-- The range and the name of the identifier that begins at a byte.
abbrev pub prepared_at : Telling → Workspace → AskedByte → Data
prepared_at telling w byte =
    prepared_value (identifier_range telling.abilities.encoding (file_bytes w byte.path) byte.offset) (name_from w byte)
