-- Renames that are committed, and steps back and forth: what is told of them.
use Rattle.std.specs.Prelude.{ℕ, ◌≡◌, ◌⊎◌, List, Result, Ok, Err}
use Rattle.serde_json.specs.View.{view}
use Rattle.serde_json.specs.declared.value.Value.{Value}
use Rattle.base_files.specs.Workspace.{Workspace}
use Rattle.base_files.specs.declared.refusal.Refusal.{Refusal}
use Rattle.history_machine.specs.declared.event.Event.{Event}
use Rattle.history_machine.specs.declared.event.Event.TheVariants.{Commit, Look, Redo, Undo}
use Rattle.history_machine.specs.declared.event.Reply.{Reply}
use Rattle.history_machine.specs.declared.event.Reply.TheVariants.{Done, Looked, Refused}
use Rattle.history_machine.specs.declared.view.View.{View}
use Rattle.lsp_edits.specs.Edits.{TellsEdit}
use Rattle.lsp_edits.specs.Replaced.{replaced_texts}
use Rattle.lsp_edits.specs.declared.telling.Telling.{Telling}
use Rattle.lsp_params.specs.Asked.{PlaceView}
use Rattle.lsp_told.specs.Asking.{FindsByte, Tells, fault_by}
use Rattle.lsp_told.specs.declared.asked_byte.AskedByte.{AskedByte}
use Rattle.lsp_told.specs.declared.fault.AskFault.{AskFault}
use Rattle.lsp_told.specs.declared.fault.AskFault.TheVariants as fault
use Rattle.lsp_told.specs.declared.requests.Way.{Way}
use Rattle.lsp_told.specs.declared.requests.Way.TheVariants as way
use Rattle.refactor_affected.specs.Renames.{PlansAffectedRename}
use Rattle.server_commands.specs.Act.{Sends}
use Rattle.server_commands.specs.declared.response.Response.{Response}
use Rattle.server_commands.specs.declared.response.Response.TheVariants as response
use Rattle.workspace_snapshot.specs.declared.change.Change.{Change}

-- What comes of a change that was sent: its edits are told where it is done, and else the refusal.
abbrev pub IsDoneWith : Response → Value → Result Value AskFault → Type 0
IsDoneWith (response.Refused why) edits came = came ≡ Err (fault_by why)
IsDoneWith answer edits came = came ≡ Ok edits

-- What is told of a change by the answer to its commit: its edits, or the refusal.
abbrev pub TellsDone : Telling → Workspace → Change → Response → Result Value AskFault → Type 0
TellsDone telling w change answer came =
    (edits : Value) × TellsEdit telling w change.edits.changed (view edits) × IsDoneWith answer edits came

module _ {D : Type 0} (steps : D → Event → Reply → D → Type 0) where
  -- A planned change is committed and its edits are told. Without memory for these it is not committed.
  abbrev pub CommitsTold : D → Telling → View → Result Change Refusal → Result Value AskFault → D → Type 0
  CommitsTold old telling shown (Err why) came new = (came ≡ Err (fault_by why)) × (new ≡ old)
  CommitsTold old telling shown (Ok change) came new = ((came ≡ Err fault.Memory) × (new ≡ old))
      ⊎ ((answer : Response) × Sends steps old (Commit shown.snapshot.number change) answer new
      × TellsDone telling shown.snapshot.files change answer came)

  -- A rename of what stands at a byte: it is planned on what a look shows, as a command of a session plans it, and committed.
  abbrev pub RenamesByte : D → Telling → View → AskedByte → (name : List ℕ) → Result Value AskFault → D → Type 0
  RenamesByte old telling shown byte name came new = (planned : Result Change Refusal)
      × PlansAffectedRename shown.snapshot byte.path byte.offset name planned × CommitsTold old telling shown planned came new

  abbrev RenamesFound : D → Telling → View → Result AskedByte AskFault → (name : List ℕ) → Result Value AskFault → D → Type 0
  RenamesFound old telling shown (Ok byte) name came new = RenamesByte old telling shown byte name came new
  RenamesFound old telling shown (Err failed) name came new = (came ≡ Err failed) × (new ≡ old)

  -- A rename after its look.
  abbrev pub RenamesSeen : D → Telling → View → PlaceView × List ℕ → Result Value AskFault → D → Type 0
  RenamesSeen old telling shown asked came new = (found : Result AskedByte AskFault)
      × FindsByte telling shown.snapshot.files asked.0 found × RenamesFound old telling shown found asked.1 came new

  -- What comes after a look: a refused look refuses the request.
  abbrev pub AfterSeen : (P : D → View → Result Value AskFault → D → Type 0) → D → Reply → Result Value AskFault → D → Type 0
  AfterSeen P old (Looked shown) came new = P old shown came new
  AfterSeen P old (Refused why) came new = (came ≡ Err (fault_by why)) × (new ≡ old)
  AfterSeen P old reply came new = ⊥

  -- A request that looks first.
  abbrev pub SeesFirst : (P : D → View → Result Value AskFault → D → Type 0) → D → Result Value AskFault → D → Type 0
  SeesFirst P old came new = (reply : Reply) × (mid : D) × steps old Look reply mid × AfterSeen P mid reply came new

-- The event that goes this way from a state.
abbrev pub way_event : Way → ℕ → Event
way_event way.Undo number = Undo number
way_event way.Redo number = Redo number

-- The edits that lead from files to others are told.
abbrev pub TellsBetween : Telling → (before after : Workspace) → Result Value AskFault → Type 0
TellsBetween telling before after = Tells (TellsEdit telling before (replaced_texts before after))

module _ {D : Type 0} (steps : D → Event → Reply → D → Type 0) where
  -- A second look after a step: it shows the files that the edits lead to.
  abbrev pub SeesAfter : D → Telling → (before : Workspace) → Result Value AskFault → D → Type 0
  SeesAfter old telling before =
      SeesFirst steps (λ (mid : D) (shown : View) (came : Result Value AskFault) (new : D).
      TellsBetween telling before shown.snapshot.files came × (new ≡ mid)) old

  -- A step back or forth, and what is told of it. A refused step changes nothing that is told.
  abbrev pub StepsBack : D → Reply → Telling → (before : Workspace) → Result Value AskFault → D → Type 0
  StepsBack old (Done number) telling before came new = SeesAfter old telling before came new
  StepsBack old (Refused why) telling before came new = (came ≡ Err (fault_by why)) × (new ≡ old)
  StepsBack old reply telling before came new = ⊥

  -- Undo or redo after its look: the step from the state that it shows, and a look at the state after it.
  abbrev pub TakesBackSeen : D → Telling → View → Way → Result Value AskFault → D → Type 0
  TakesBackSeen old telling shown way came new = (reply : Reply) × (mid : D) × steps old (way_event way shown.snapshot.number) reply mid
      × StepsBack mid reply telling shown.snapshot.files came new
