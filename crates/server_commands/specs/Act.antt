-- The events that a command sends, and its answer.
use Rattle.std.specs.Prelude.{◌≡◌, ◌⊎◌, ℕ, List, ⊤, Option, Some, None, IfSome, Result, Ok, Err}
use Rattle.base_files.specs.Path.{IsPath}
use Rattle.base_files.specs.declared.place.Place.{Place}
use Rattle.base_files.specs.declared.refusal.Refusal.{Refusal}
use Rattle.base_files.specs.declared.refusal.Refusal.TheVariants.{Memory, BadPath, TooLarge, Moved}
use Rattle.refactor_affected.specs.Moves.{PlansAffectedMove}
use Rattle.refactor_affected.specs.Renames.{PlansAffectedRename}
use Rattle.workspace_snapshot.specs.Plan.{PlansPut, PlansDel}
use Rattle.history_machine.specs.declared.view.View.{View}
use Rattle.workspace_snapshot.specs.declared.change.Change.{Change}
use Rattle.history_machine.specs.declared.event.Event.{Event}
use Rattle.history_machine.specs.declared.event.Event.TheVariants.{Look, Log, Commit, Undo, Redo}
use Rattle.history_machine.specs.declared.event.Reply.{Reply}
use Rattle.history_machine.specs.declared.event.Reply.TheVariants.{Looked, Logged, Done, Taken, Refused, Back}
use Rattle.refs_binding.specs.Uses.{AnswersUses}
use Rattle.workspace_check.specs.FaultLists.{ListsFaults}
use Rattle.workspace_check.specs.declared.fault.FileFault.{FileFault}
use Rattle.server_commands.specs.Queries.{FindsFile, FindsObject}
use Rattle.server_commands.specs.ObjectChanges.{AnswersObjects}
use Rattle.server_commands.specs.Wait.{TellsNumbers, WaitLaw, Waits}
use Rattle.server_commands.specs.Work.{Works}
use Rattle.server_read.specs.Commands.{command_basis}
use Rattle.server_read.specs.declared.command.Command.{Command}
use Rattle.server_read.specs.declared.command.Command.TheVariants as command
use Rattle.server_read.specs.declared.command.StateCommand.{StateCommand}
use Rattle.server_read.specs.declared.command.StateCommand.TheVariants as state
use Rattle.server_commands.specs.declared.response.Response.{Response}
use Rattle.server_commands.specs.declared.response.Response.TheVariants as response

-- the command is meant for the state that the view shows: its basis is that state's number, or it has none
abbrev pub FitsView : View → StateCommand → Type 0
FitsView view asked = IfSome (command_basis asked) (λ basis. basis ≡ view.snapshot.number)

-- the refusal of a put whose body was dropped: its path is no path of a file, or its body is over the limit of a file
abbrev pub PlansDropped : List ℕ → Result Change Refusal → Type 0
PlansDropped path (Err BadPath) = ¬ (IsPath 2 path)
PlansDropped path (Err TooLarge) = IsPath 2 path
PlansDropped path (Err Memory) = ⊤
PlansDropped path (Err refusal) = ⊥
PlansDropped path (Ok change) = ⊥

-- the plan of a put; its body is none where it was dropped
abbrev pub PlansBody : View → List ℕ → Option (List ℕ) → Result Change Refusal → Type 0
PlansBody view path None planned = PlansDropped path planned
PlansBody view path (Some text) planned = PlansPut view.snapshot path text planned

-- the answer is the view's files, or a refusal for want of memory to share them
abbrev pub AnswersFiles : View → Response → Type 0
AnswersFiles view answer = (answer ≡ response.Listing view.snapshot.number view.snapshot.files) ⊎ (answer ≡ response.Refused Memory)

-- the answer that passes this reply on; there is none to a reply with a Job
abbrev pub AnswersReply : Reply → Response → Type 0
AnswersReply (Looked view) answer = answer ≡ response.Steps view.snapshot.number view.undo view.redo
AnswersReply (Logged current line) answer = answer ≡ response.Entry current line
AnswersReply (Done number) answer = answer ≡ response.Done number
AnswersReply (Taken job) answer = ⊥
AnswersReply (Refused refusal) answer = answer ≡ response.Refused refusal
AnswersReply (Back refusal job unit) answer = ⊥

-- the answer with the text of a file or an object, or with the refusal
abbrev pub file_response : ℕ → Result (List ℕ) Refusal → Response
file_response number (Ok text) = response.File number text
file_response number (Err refusal) = response.Refused refusal

-- the answer with these places, or with the refusal
abbrev pub places_response : ℕ → Result (List Place) Refusal → Response
places_response number (Ok places) = response.Places number places
places_response number (Err refusal) = response.Refused refusal

-- the answer is the list of all faults of the view's files, or a refusal for want of memory
abbrev pub AnswersFaults : View → Response → Type 0
AnswersFaults view answer =
    ((list : List FileFault) × ListsFaults view.snapshot.files list × (answer ≡ response.Faults view.snapshot.number list))
    ⊎ (answer ≡ response.Refused Memory)

module _ {D : Type 0} (steps : D → Event → Reply → D → Type 0) where
  -- the event is sent, and its reply answered
  abbrev pub Sends : D → Event → Response → D → Type 0
  Sends old event answer new = (reply : Reply) × steps old event reply new × AnswersReply reply answer

  -- a planned change is committed; without a plan its refusal is answered, and no event is sent
  abbrev pub Commits : D → ℕ → Result Change Refusal → Response → D → Type 0
  Commits old basis (Ok change) answer new = Sends old (Commit basis change) answer new
  Commits old basis (Err refusal) answer new = (answer ≡ response.Refused refusal) × (new ≡ old)

  -- a command that is meant for the state of the view, after its look
  abbrev pub ActsOn : D → View → StateCommand → Response → D → Type 0
  ActsOn old view state.Look answer new = AnswersReply (Looked view) answer × (new ≡ old)
  ActsOn old view (state.Put basis path size body) answer new =
      (planned : Result Change Refusal) × PlansBody view path body planned × Commits old basis planned answer new
  ActsOn old view (state.Del basis path) answer new =
      (planned : Result Change Refusal) × PlansDel view.snapshot path planned × Commits old basis planned answer new
  ActsOn old view (state.Rename basis path offset name) answer new =
      (planned : Result Change Refusal) × PlansAffectedRename view.snapshot path offset name planned × Commits old basis planned answer new
  ActsOn old view (state.Move basis from to) answer new =
      (planned : Result Change Refusal) × PlansAffectedMove view.snapshot from to planned × Commits old basis planned answer new
  ActsOn old view (state.Undo basis) answer new = Sends old (Undo basis) answer new
  ActsOn old view (state.Redo basis) answer new = Sends old (Redo basis) answer new
  ActsOn old view (state.Cat path) answer new =
      ((found : Result (List ℕ) Refusal) × FindsFile view path found × (answer ≡ file_response view.snapshot.number found)) × (new ≡ old)
  ActsOn old view (state.Uses path offset) answer new =
      ((found : Result (List Place) Refusal) × AnswersUses view.snapshot.files path offset found × (answer ≡ places_response view.snapshot.number found))
      × (new ≡ old)
  ActsOn old view state.List answer new = AnswersFiles view answer × (new ≡ old)
  ActsOn old view state.Faults answer new = AnswersFaults view answer × (new ≡ old)
  ActsOn old view (state.Object path) answer new =
      ((found : Result (List ℕ) Refusal) × FindsObject view path found × (answer ≡ file_response view.snapshot.number found)) × (new ≡ old)
  ActsOn old view (state.Objects basis) answer new = AnswersObjects view basis answer × (new ≡ old)
  ActsOn old view state.Work answer new = Works steps old answer new

  -- a command after its look has shown this view: it is refused where it is meant for another state
  abbrev pub ActsAfter : D → View → StateCommand → Response → D → Type 0
  ActsAfter old view asked answer new =
      (¬ (FitsView view asked) × (answer ≡ response.Refused (Moved view.snapshot.number)) × (new ≡ old))
      ⊎ (FitsView view asked × ActsOn old view asked answer new)

  -- a command after its look got this reply: a refused look refuses the command
  abbrev pub AfterLook : D → Reply → StateCommand → Response → D → Type 0
  AfterLook old (Looked view) asked answer new = ActsAfter old view asked answer new
  AfterLook old reply asked answer new = AnswersReply reply answer × (new ≡ old)

  -- a command about the current state: a look, and what comes after it
  abbrev pub LooksFirst : D → StateCommand → Response → D → Type 0
  LooksFirst old asked answer new = (reply : Reply) × (mid : D) × steps old Look reply mid × AfterLook mid reply asked answer new

  -- One command: it looks first if it is about the current state. A wait is one wait of the desk, a log one event, and a status none.
  abbrev pub Acts : WaitLaw D → D → Command → Response → D → Type 0
  Acts waits old (command.OnState asked) answer new = LooksFirst old asked answer new
  Acts waits old command.Wait answer new = Waits waits old answer new
  Acts waits old command.Status answer new = TellsNumbers waits old answer new
  Acts waits old (command.Log number) answer new = Sends old (Log number) answer new
