-- The faults of files, as the client is told of them.
use Rattle.std.specs.Prelude.{ℕ, ◌==◌, List, [], ◌∷◌, drop, if◌then◌else◌, length, min, Result, Ok, Err}
use Rattle.std.specs.Cmp.Lexicographic.{pointwise}
use Rattle.std.specs.Global.{Vec}
use Rattle.std.specs.List.{flat_map}
use Rattle.std.specs.Str.Lossy.{utf8_lossy}
use Rattle.serde_json.specs.Data.{Data, Items}
use Rattle.serde_json.specs.View.{items_of}
use Rattle.base_files.specs.FaultNames.{fault_word}
use Rattle.base_files.specs.declared.refusal.Refusal.{Refusal}
use Rattle.lsp_answers.specs.Faults.{diagnostic_value}
use Rattle.lsp_edits.specs.Spans.{identifier_range}
use Rattle.lsp_edits.specs.declared.telling.Telling.{Telling}
use Rattle.tool_text.specs.Faults.{fault_words}
use Rattle.workspace_check.specs.declared.fault.FileFault.{FileFault}

-- A fault of a text: the range of the identifier there, the word of its kind, and what is told of it.
abbrev pub fault_data : Telling → (text : List ℕ) → FileFault → Data
fault_data telling text fault =
    diagnostic_value (identifier_range telling.abilities.encoding text fault.place.offset) (fault_word fault.kind)
    (utf8_lossy (fault_words fault.kind (drop (min fault.place.offset (length text)) text)))

-- A fault of a text, if it is one of the file of this name.
abbrev pub faults_at : Telling → (name text : List ℕ) → FileFault → List Data
faults_at telling name text fault = if pointwise ◌==◌ fault.place.path name then fault_data telling text fault ∷ [] else []

-- The faults of the file of a name, as the client is told of them.
abbrev pub faults_data : Telling → (name text : List ℕ) → List FileFault → Items
faults_data telling name text faults = items_of (flat_map (faults_at telling name text) faults)

-- Faults that were found, as a list.
abbrev pub faults_view : Result (Vec FileFault) Refusal → Result (List FileFault) Refusal
faults_view (Ok faults) = Ok faults.items
faults_view (Err why) = Err why
