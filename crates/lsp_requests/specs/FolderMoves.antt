-- Renames of files and folders that the client is about to make.
use Rattle.std.specs.Prelude.{ℕ, ◌≡◌, List, codes, Option, None, Some, Result, Ok, Err, String, string_bytes}
use Rattle.std.specs.declared.alloc.Global.{Global}
use Rattle.serde_json.specs.Data.{Data, Items, item, no_items}
use Rattle.serde_json.specs.View.{view}
use Rattle.serde_json.specs.declared.value.Value.{Value}
use Rattle.base_files.specs.Workspace.{Workspace}
use Rattle.base_files.specs.declared.refusal.Refusal.{Refusal}
use Rattle.base_files.specs.declared.refusal.Refusal.TheVariants.{NoPackage}
use Rattle.lsp_edits.specs.Edits.{TellsEdit}
use Rattle.lsp_edits.specs.declared.telling.Telling.{Telling}
use Rattle.refactor_affected.specs.Moves.{PlansAffectedMove}
use Rattle.workspace_snapshot.specs.declared.change.Change.{Change}
use Rattle.workspace_snapshot.specs.declared.snapshot.Snapshot.{Snapshot}
use Rattle.lsp_told.specs.Asking.{TellsNothing, fault_by}
use Rattle.lsp_told.specs.Folders.{FindsFolder}
use Rattle.lsp_told.specs.declared.fault.AskFault.{AskFault}
use Rattle.lsp_told.specs.declared.fault.AskFault.TheVariants as fault

-- Why there are no edits of a move: a folder without a package is no matter of this server.
abbrev pub refused_move : Refusal → Result (Option Value) AskFault
refused_move NoPackage = Ok None
refused_move why = Err (fault_by why)

-- What is told of a planned move: its edits.
abbrev pub TellsMoveEdits : Telling → Workspace → Result Change Refusal → Result (Option Value) AskFault → Type 0
TellsMoveEdits telling w (Err why) came = came ≡ refused_move why
TellsMoveEdits telling w (Ok change) (Ok (Some edits)) = TellsEdit telling w change.edits.changed (view edits)
TellsMoveEdits telling w (Ok change) (Ok None) = ⊥
TellsMoveEdits telling w (Ok change) (Err failed) = failed ≡ fault.Memory

-- The move between two folders is planned, as a command of a session plans it.
abbrev pub MovesBetween : Telling → Snapshot → (from to : List ℕ) → Result (Option Value) AskFault → Type 0
MovesBetween telling shown from to came =
    (planned : Result Change Refusal) × PlansAffectedMove shown from to planned × TellsMoveEdits telling shown.files planned came

-- The same of folders that lie below that of the session. Nothing is told where one does not.
abbrev pub MovesNamed : Telling → Snapshot → (from to : Option (String Global)) → Result (Option Value) AskFault → Type 0
MovesNamed telling shown (Some from) (Some to) came = MovesBetween telling shown (string_bytes from) (string_bytes to) came
MovesNamed telling shown (Some from) None came = came ≡ Ok None
MovesNamed telling shown None to came = came ≡ Ok None

abbrev MovesNamedTo : Telling → Snapshot → (from : Option (String Global)) → (to : Result (Option (String Global)) AskFault) → Result (Option Value) AskFault
    → Type 0
MovesNamedTo telling shown from (Ok to) came = MovesNamed telling shown from to came
MovesNamedTo telling shown from (Err failed) came = came ≡ Err failed

-- What is told of the rename of a file or a folder from this one.
abbrev pub MovesFrom : Telling → Snapshot → Data → (from : Option (String Global)) → Result (Option Value) AskFault → Type 0
MovesFrom telling shown file from came =
    (to : Result (Option (String Global)) AskFault) × FindsFolder telling (codes "newUri") file to × MovesNamedTo telling shown from to came

abbrev MovesFound : Telling → Snapshot → Data → (from : Result (Option (String Global)) AskFault) → Result (Option Value) AskFault → Type 0
MovesFound telling shown file (Ok from) came = MovesFrom telling shown file from came
MovesFound telling shown file (Err failed) came = came ≡ Err failed

-- What is told of the rename of a file or a folder.
abbrev pub MovesOne : Telling → Snapshot → Data → Result (Option Value) AskFault → Type 0
MovesOne telling shown file came =
    (from : Result (Option (String Global)) AskFault) × FindsFolder telling (codes "oldUri") file from × MovesFound telling shown file from came

abbrev pub ElseOthers : Result (Option Value) AskFault → (others : Result Value AskFault → Type 0) → Result Value AskFault → Type 0
ElseOthers (Ok (Some edits)) others came = came ≡ Ok edits
ElseOthers (Ok None) others came = others came
ElseOthers (Err failed) others came = came ≡ Err failed

-- What is told of the first of some renames that moves a package; `null` where none does.
abbrev pub MovesFirst : Telling → Snapshot → Items → Result Value AskFault → Type 0
MovesFirst telling shown no_items came = TellsNothing came
MovesFirst telling shown (item file files) came = ((one : Result (Option Value) AskFault) × MovesOne telling shown file one
    × ElseOthers one (MovesFirst telling shown files) came)
