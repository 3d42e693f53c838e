-- What requests get: the byte that they ask for, what is told, and why they fail.
use Rattle.std.specs.Prelude.{ℕ, ◌≡◌, ◌+◌, List, Option, None, Some, take, Result, Ok, Err, ⊤}
use Rattle.std.specs.FinMap as files
use Rattle.std.specs.List.{suffix_len}
use Rattle.serde_json.specs.Data.{Data, null}
use Rattle.serde_json.specs.View.{view}
use Rattle.serde_json.specs.declared.value.Value.{Value}
use Rattle.base_files.specs.Path.{IsPath}
use Rattle.base_files.specs.Workspace.{Workspace}
use Rattle.base_files.specs.declared.refusal.Refusal.{Refusal}
use Rattle.base_files.specs.declared.refusal.Refusal.TheVariants as refusal
use Rattle.lsp_edits.specs.Naming.{NamesFile}
use Rattle.lsp_edits.specs.Spans.{is_identifier_byte}
use Rattle.lsp_edits.specs.declared.telling.Telling.{Telling}
use Rattle.lsp_params.specs.Asked.{PlaceView}
use Rattle.lsp_position.specs.Offsets.{IsOffsetAt}
use Rattle.lsp_position.specs.declared.positions.EditorPosition.{EditorPosition}
use Rattle.lsp_position.specs.declared.units.PositionEncoding.{PositionEncoding}
use Rattle.lsp_told.specs.declared.asked_byte.AskedByte.{AskedByte}
use Rattle.lsp_told.specs.declared.fault.AskFault.{AskFault}
use Rattle.lsp_told.specs.declared.fault.AskFault.TheVariants as fault

-- Why a request fails that is refused as a command is.
abbrev pub fault_by : Refusal → AskFault
fault_by refusal.Memory = fault.Memory
fault_by why = fault.Refused why

-- What is told satisfies `P`, or memory is wanting to tell it.
abbrev pub Tells : (Data → Type 0) → Result Value AskFault → Type 0
Tells P (Ok value) = P (view value)
Tells P (Err failed) = failed ≡ fault.Memory

-- `null` is told.
abbrev pub TellsNothing : Result Value AskFault → Type 0
TellsNothing (Ok value) = view value ≡ null
TellsNothing (Err failed) = ⊥

-- What was found is told as `P` says. A refusal refuses the request.
abbrev pub TellsFound : {X : Type 0} → (X → Result Value AskFault → Type 0) → Result X Refusal → Result Value AskFault → Type 0
TellsFound P (Ok found) came = P found came
TellsFound P (Err why) came = came ≡ Err (fault_by why)

-- The offset of a position: the begin of the identifier in which or behind which it stands, or else its own.
abbrev pub IsAskedOffset : PositionEncoding → (text : List ℕ) → EditorPosition → ℕ → Type 0
IsAskedOffset encoding text position offset = (place : ℕ) × IsOffsetAt encoding text position place
    × (offset + suffix_len is_identifier_byte (take place text) ≡ place)

-- Why a name that is no path names no file.
abbrev pub unnamed_fault : Refusal → AskFault
unnamed_fault refusal.Memory = fault.Memory
unnamed_fault why = fault.Refused refusal.NoFile

-- Reading a name as the path of a file.
abbrev pub ReadsName : (name : List ℕ) → Result (List ℕ) AskFault → Type 0
ReadsName name (Ok path) = (path ≡ name) × IsPath 2 name
ReadsName name (Err (fault.Refused refusal.NoFile)) = IsPath 2 name → ⊥
ReadsName name (Err fault.Memory) = ⊤
ReadsName name (Err failed) = ⊥

abbrev pub IsNoPath : Option (List ℕ) → Type 0
IsNoPath None = ⊤
IsNoPath (Some name) = IsPath 2 name → ⊥

-- The path of the file that a URI names. There is none where it names no file below the folder, or one whose name is no path.
abbrev pub FindsPath : Telling → (uri : List ℕ) → Result (List ℕ) AskFault → Type 0
FindsPath telling uri (Ok path) = NamesFile telling.naming.now uri (Some path) × IsPath 2 path
FindsPath telling uri (Err (fault.Refused refusal.NoFile)) = (name : Option (List ℕ)) × NamesFile telling.naming.now uri name × IsNoPath name
FindsPath telling uri (Err fault.Memory) = ⊤
FindsPath telling uri (Err failed) = ⊥

-- The byte that a request asks for is one of a file of the workspace.
pub record IsByteOf (telling : Telling) (w : Workspace) (at : PlaceView) (byte : AskedByte) : Type 0 where
  pub named : NamesFile telling.naming.now at.0 (Some byte.path)
  pub text : List ℕ
  pub found : files.get w byte.path ≡ Some text
  pub offset_is : IsAskedOffset telling.abilities.encoding text at.1 byte.offset

-- The byte of a position in the file of a path.
abbrev pub FindsByteIn : PositionEncoding → Workspace → (path : List ℕ) → EditorPosition → Result AskedByte AskFault → Type 0
FindsByteIn encoding w path position (Ok byte) = (byte.path ≡ path)
    × ((text : List ℕ) × (files.get w path ≡ Some text) × IsAskedOffset encoding text position byte.offset)
FindsByteIn encoding w path position (Err failed) = (failed ≡ fault.Refused refusal.NoFile) × (files.get w path ≡ None)

abbrev pub HasNoFile : Workspace → Option (List ℕ) → Type 0
HasNoFile w None = ⊤
HasNoFile w (Some name) = IsPath 2 name → files.get w name ≡ None

-- The URI names no file of the workspace.
abbrev pub NamesNoFile : Telling → Workspace → (uri : List ℕ) → Type 0
NamesNoFile telling w uri = (name : Option (List ℕ)) × NamesFile telling.naming.now uri name × HasNoFile w name

-- The byte that a request asks for, or a refusal where there is no such file.
abbrev pub FindsByte : Telling → Workspace → PlaceView → Result AskedByte AskFault → Type 0
FindsByte telling w at (Ok byte) = IsByteOf telling w at byte
FindsByte telling w at (Err (fault.Refused refusal.NoFile)) = NamesNoFile telling w at.0
FindsByte telling w at (Err fault.Memory) = ⊤
FindsByte telling w at (Err failed) = ⊥

abbrev pub GoesOnAt : (AskedByte → Result Value AskFault → Type 0) → Result AskedByte AskFault → Result Value AskFault → Type 0
GoesOnAt P (Ok byte) came = P byte came
GoesOnAt P (Err failed) came = came ≡ Err failed

-- `P` says what is told of the byte that a request asks for. Where there is none, the request fails.
abbrev pub AtByte : Telling → Workspace → PlaceView → (AskedByte → Result Value AskFault → Type 0) → Result Value AskFault → Type 0
AtByte telling w at P came = (found : Result AskedByte AskFault) × FindsByte telling w at found × GoesOnAt P found came
