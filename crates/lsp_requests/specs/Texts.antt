-- The texts of files, given to a desk by commands of a session.
use Rattle.std.specs.Prelude.{ℕ, ◌≡◌, ◌⊎◌, ◌||◌, Bool, true, false, List, [], ◌∷◌, ◌++◌, Option, None, Some, length, nat_eq, not, Result, Ok, Err}
use Rattle.base_files.specs.Workspace.{Workspace}
use Rattle.base_files.specs.declared.refusal.Refusal.{Refusal}
use Rattle.base_files.specs.declared.refusal.Refusal.TheVariants.{BadPath, Memory, Same}
use Rattle.history_machine.specs.declared.event.Event.{Event}
use Rattle.history_machine.specs.declared.event.Event.TheVariants.{Look}
use Rattle.history_machine.specs.declared.event.Reply.{Reply}
use Rattle.history_machine.specs.declared.event.Reply.TheVariants.{Looked, Refused}
use Rattle.lsp_documents.specs.declared.documents.Documents.{Documents}
use Rattle.lsp_told.specs.TextTasks.{ArePuts, disk_tasks}
use Rattle.lsp_told.specs.declared.text_tasks.TextTask.{TextTask}
use Rattle.server_commands.specs.Act.{LooksFirst}
use Rattle.server_commands.specs.declared.response.Response.{Response}
use Rattle.server_commands.specs.declared.response.Response.TheVariants as response
use Rattle.server_read.specs.declared.command.StateCommand.{StateCommand}
use Rattle.server_read.specs.declared.command.StateCommand.TheVariants as state

-- The command of a session that gives a file its text, or deletes it.
abbrev pub command_with : (basis : ℕ) → (path : List ℕ) → Option (List ℕ) → StateCommand
command_with basis path (Some text) = state.Put basis path (length text) (Some text)
command_with basis path None = state.Del basis path

-- What came of a command that was refused. Where nothing is to be changed, or no file can have the name, that is no error.
abbrev pub refused_outcome : Refusal → Result Bool Refusal
refused_outcome Same = Ok false
refused_outcome BadPath = Ok false
refused_outcome refusal = Err refusal

-- The outcome of a command by its answer: whether something was changed.
abbrev pub text_outcome : Response → Result Bool Refusal
text_outcome (response.Refused refusal) = refused_outcome refusal
text_outcome answer = Ok true

module _ {D : Type 0} (steps : D → Event → Reply → D → Type 0) where
  -- A file gets its text, or is deleted, as by a command of a session.
  abbrev pub RunsCommand : D → (path : List ℕ) → Option (List ℕ) → Result Bool Refusal → D → Type 0
  RunsCommand old path text came new =
      (basis : ℕ) × (answer : Response) × LooksFirst steps old (command_with basis path text) answer new × (came ≡ text_outcome answer)

  -- The same; without memory for its text nothing is done.
  abbrev pub RunsNamed : D → (path : List ℕ) → Option (List ℕ) → Result Bool Refusal → D → Type 0
  RunsNamed old path text came new = RunsCommand old path text came new ⊎ ((came ≡ Err Memory) × (new ≡ old))

  -- A task is acted on.
  abbrev pub RunsText : D → TextTask → Result Bool Refusal → D → Type 0
  RunsText old task came new = RunsCommand old task.path task.text came new

  -- A task is acted on, unless memory is wanting for its text.
  abbrev pub RunsTask : D → TextTask → Result Bool Refusal → D → Type 0
  RunsTask old task came new = RunsNamed old task.path task.text came new

  -- Tasks are acted on, one after another, and none of them fails. `changes`: whether one of them changed something.
  abbrev pub RunTexts : D → List TextTask → (changes : Bool) → D → Type 0
  RunTexts old [] changes new = (changes ≡ false) × (new ≡ old)
  RunTexts old (task ∷ tasks) changes new = (first : Bool) × (others : Bool) × (mid : D) × RunsText old task (Ok first) mid
      × RunTexts mid tasks others new × (changes ≡ first || others)

  -- Tasks are acted on, up to the one that fails, if one does.
  abbrev pub RunsUpTo : D → List TextTask → Result Bool Refusal → D → Type 0
  RunsUpTo old tasks (Ok changes) new = RunTexts old tasks changes new
  RunsUpTo old tasks (Err refusal) new = (done : List TextTask) × (failed : TextTask) × (left : List TextTask) × (changes : Bool) × (mid : D)
      × (tasks ≡ done ++ failed ∷ left) × RunTexts old done changes mid × RunsTask mid failed (Err refusal) new

  -- Files become those on the disk, but for those that are open. Without memory for the tasks nothing is done.
  abbrev pub RunsDisk : D → (files : Workspace) → Documents → (disk : Workspace) → Result Bool Refusal → D → Type 0
  RunsDisk old files documents disk came new =
      RunsUpTo old (disk_tasks files documents disk) came new ⊎ ((came ≡ Err Memory) × (new ≡ old))

  -- Files get the texts of the documents that are open. Without memory for the tasks nothing is done.
  abbrev pub RunsDocuments : D → (files : Workspace) → Documents → Result Bool Refusal → D → Type 0
  RunsDocuments old files documents came new =
      ((tasks : List TextTask) × ArePuts files documents.entries.entries tasks × RunsUpTo old tasks came new)
      ⊎ ((came ≡ Err Memory) × (new ≡ old))

  -- What comes after a look: a refused one is why nothing is done.
  abbrev pub AfterShown : (D → Workspace → Result Bool Refusal → D → Type 0) → D → Reply → Result Bool Refusal → D → Type 0
  AfterShown P old (Looked shown) came new = P old shown.snapshot.files came new
  AfterShown P old (Refused refusal) came new = (came ≡ Err refusal) × (new ≡ old)
  AfterShown P old reply came new = ⊥

  abbrev pub SeesFiles : (D → Workspace → Result Bool Refusal → D → Type 0) → D → Result Bool Refusal → D → Type 0
  SeesFiles P old came new = (reply : Reply) × (mid : D) × steps old Look reply mid × AfterShown P mid reply came new

  -- The files that a look shows become those on the disk, but for those that are open.
  abbrev pub SeesDisk : D → Documents → (disk : Workspace) → Result Bool Refusal → D → Type 0
  SeesDisk old documents disk =
      SeesFiles (λ (mid : D) (files : Workspace) (came : Result Bool Refusal) (new : D). RunsDisk mid files documents disk came new) old

  -- The files that a look shows get the texts of the documents that are open.
  abbrev pub SeesDocuments : D → Documents → Result Bool Refusal → D → Type 0
  SeesDocuments old documents =
      SeesFiles (λ (mid : D) (files : Workspace) (came : Result Bool Refusal) (new : D). RunsDocuments mid files documents came new) old

-- Whether a document that is open has another text than its file among these.
abbrev pub FindsOther : (files : Workspace) → Documents → Result Bool Refusal → Type 0
FindsOther files documents came =
    ((tasks : List TextTask) × ArePuts files documents.entries.entries tasks × (came ≡ Ok (not (nat_eq (length tasks) 0)))) ⊎ (came ≡ Err Memory)

module _ {D : Type 0} (steps : D → Event → Reply → D → Type 0) where
  -- Whether a document that is open has another text than its file in what a look shows.
  abbrev pub SeesOther : D → Documents → Result Bool Refusal → D → Type 0
  SeesOther old documents =
      SeesFiles steps (λ (mid : D) (files : Workspace) (came : Result Bool Refusal) (new : D). FindsOther files documents came × (new ≡ mid)) old
