-- A desk is given the texts that the client and the disk have.
use Rattle.std.specs.Prelude.{◌≡◌, ◌⊎◌, Bool, true, false, Option, None, Some, Result, Ok, Err}
use Rattle.base_files.specs.Workspace.{Workspace}
use Rattle.base_files.specs.declared.refusal.Refusal.{Refusal}
use Rattle.lsp_documents.specs.declared.documents.Documents.{Documents}
use Rattle.lsp_edits.specs.declared.naming.FolderNaming.{FolderNaming}
use Rattle.lsp_editor.specs.Editors.{as_settled, is_awaiting, told_texts}
use Rattle.lsp_editor.specs.declared.editor.Editor.{Editor}
use Rattle.lsp_told.specs.Requests.{AskedOf, asks_at, renames, takes_back, will_rename}
use Rattle.lsp_told.specs.declared.requests.Way.{Way}
use Rattle.lsp_service.specs.Failing.{refused_by}
use Rattle.lsp_service.specs.declared.failure.Failure.{Failure}

-- It was done, or why not.
abbrev pub Done : Type 0
Done = Result (Unit {0}) Failure

abbrev pub all_done : Done
all_done = Ok tt

-- Where texts changed something, no rename before them is taken back.
abbrev pub noted : (changes : Bool) → Editor → Editor
noted true editor = told_texts editor
noted false editor = editor

-- What is noted of texts that a desk took. Where it refused, some may have changed something.
abbrev pub NotesTaken : Result Bool Refusal → Editor → Done → Editor → Type 0
NotesTaken (Ok changes) old came new = (came ≡ all_done) × (new ≡ noted changes old)
NotesTaken (Err why) old came new = (came ≡ Err (refused_by why)) × (new ≡ told_texts old)

-- Behind a folder that was read nothing is stale.
abbrev pub fresh_if : Done → Editor → Editor
fresh_if (Ok done) editor = record editor { is_stale = false }
fresh_if (Err failed) editor = editor

-- The client has made the edits that it was told, where it has caught up.
abbrev pub settled_if : Done → Editor → Editor
settled_if (Ok done) editor = as_settled editor
settled_if (Err failed) editor = editor

-- Which way a request steps, if it is one to step.
abbrev pub step_in : AskedOf → Option Way
step_in (takes_back way) = Some way
step_in (renames asked) = None
step_in (asks_at at asked) = None
step_in (will_rename files) = None

abbrev awaits_if : Option Way → (awaits : Bool) → Bool
awaits_if (Some way) awaits = awaits
awaits_if None awaits = false

-- Whether the documents are enough for a request: it steps, and the edits that were told last need not be on the disk yet.
abbrev pub needs_documents : Editor → AskedOf → Bool
needs_documents editor asked = awaits_if (step_in asked) (is_awaiting editor.awaited)

module _ {D : Type 0} (takes_disk : D → Documents → Workspace → Result Bool Refusal → D → Type 0)
    (takes_documents : D → Documents → Result Bool Refusal → D → Type 0) where
  -- Files are given to the desk.
  abbrev pub GivesDisk : (disk : Workspace) → Editor → D → Done → Editor → D → Type 0
  GivesDisk disk old desk came new after =
      (taken : Result Bool Refusal) × takes_disk desk old.documents disk taken after × NotesTaken taken old came new

  -- The documents that are open are given to the desk.
  abbrev pub GivesDocuments : Editor → D → Done → Editor → D → Type 0
  GivesDocuments old desk came new after =
      (taken : Result Bool Refusal) × takes_documents desk old.documents taken after × NotesTaken taken old came new

  -- The folder is read, and its files are given to the desk. What lies on the disk is not known here. A folder that cannot be read changes
  -- nothing.
  abbrev pub ReadsFolder : Editor → D → Done → Editor → D → Type 0
  ReadsFolder old desk came new after =
      ((failed : Failure) × (came ≡ Err failed) × (new ≡ old) × (after ≡ desk))
      ⊎ ((disk : Workspace) × (naming : FolderNaming) × (mid : Editor) × (naming.root ≡ old.naming.root)
      × GivesDisk disk (record old { naming = naming }) desk came mid after × (new ≡ fresh_if came mid))

  -- The folder is read where that is to be.
  abbrev pub ReadsIf : Bool → Editor → D → Done → Editor → D → Type 0
  ReadsIf true old desk came new after = ReadsFolder old desk came new after
  ReadsIf false old desk came new after = (came ≡ all_done) × (new ≡ old) × (after ≡ desk)

  -- The documents are given where the folder was read.
  abbrev pub ThenGives : Done → Editor → D → Done → Editor → D → Type 0
  ThenGives (Err failed) mid desk came new after = (came ≡ Err failed) × (new ≡ mid) × (after ≡ desk)
  ThenGives (Ok done) mid desk came new after =
      (given : Editor) × GivesDocuments mid desk came given after × (new ≡ settled_if came given)

  -- The desk catches up: it gets the files on the disk where these may have changed, and the documents that are open.
  abbrev pub CatchesUp : Editor → D → Done → Editor → D → Type 0
  CatchesUp old desk came new after = (read : Done) × (mid : Editor) × (between : D)
      × ReadsIf old.is_stale old desk read mid between × ThenGives read mid between came new after

  -- The desk catches up, or gets the documents that are open alone.
  abbrev pub CatchesUpBy : (by_documents : Bool) → Editor → D → Done → Editor → D → Type 0
  CatchesUpBy true old desk came new after = GivesDocuments old desk came new after
  CatchesUpBy false old desk came new after = CatchesUp old desk came new after

  -- The desk gets what a request needs.
  abbrev pub CatchesUpFor : AskedOf → Editor → D → Done → Editor → D → Type 0
  CatchesUpFor asked old desk came new after = CatchesUpBy (needs_documents old asked) old desk came new after
