-- The answers to requests. Each begins with a look, and tells of what the look shows; so it is a command of a session, or a plan of one.
use Rattle.std.specs.Prelude.{◌≡◌, Result}
use Rattle.serde_json.specs.declared.value.Value.{Value}
use Rattle.history_machine.specs.declared.event.Event.{Event}
use Rattle.history_machine.specs.declared.event.Reply.{Reply}
use Rattle.history_machine.specs.declared.view.View.{View}
use Rattle.lsp_edits.specs.declared.telling.Telling.{Telling}
use Rattle.lsp_requests.specs.Committing.{RenamesSeen, SeesFirst, TakesBackSeen}
use Rattle.lsp_requests.specs.FolderMoves.{MovesFirst}
use Rattle.lsp_requests.specs.Uses.{TellsDefinition, TellsHighlights, TellsPrepared, TellsReferences}
use Rattle.lsp_told.specs.Asking.{AtByte}
use Rattle.lsp_told.specs.Requests.{AskedOf, asks_at, renames, takes_back, will_rename}
use Rattle.lsp_told.specs.declared.asked_byte.AskedByte.{AskedByte}
use Rattle.lsp_told.specs.declared.fault.AskFault.{AskFault}
use Rattle.lsp_told.specs.declared.requests.ByteQuestion.{ByteQuestion}
use Rattle.lsp_told.specs.declared.requests.ByteQuestion.TheVariants as question

-- What is told of a byte of a file that a look shows.
abbrev pub TellsByte : Telling → View → ByteQuestion → AskedByte → Result Value AskFault → Type 0
TellsByte telling shown question.Prepare byte came = TellsPrepared telling shown.snapshot byte came
TellsByte telling shown (question.References with_declaration) byte came = TellsReferences telling shown.snapshot.files with_declaration byte came
TellsByte telling shown question.Definition byte came = TellsDefinition telling shown.snapshot.files byte came
TellsByte telling shown question.Highlights byte came = TellsHighlights telling shown.snapshot.files byte came

module _ {D : Type 0} (steps : D → Event → Reply → D → Type 0) where
  -- A request after its look. A rename is committed, and undo and redo step; the others leave the desk as it is.
  abbrev pub AnswersSeen : Telling → AskedOf → D → View → Result Value AskFault → D → Type 0
  AnswersSeen telling (renames asked) old shown came new = RenamesSeen steps old telling shown asked came new
  AnswersSeen telling (asks_at at asked) old shown came new =
      AtByte telling shown.snapshot.files at (TellsByte telling shown asked) came × (new ≡ old)
  AnswersSeen telling (will_rename files) old shown came new = MovesFirst telling shown.snapshot files came × (new ≡ old)
  AnswersSeen telling (takes_back way) old shown came new = TakesBackSeen steps old telling shown way came new

  -- A request: a look, and what comes after it.
  abbrev pub AnswersRequest : Telling → AskedOf → D → Result Value AskFault → D → Type 0
  AnswersRequest telling asked = SeesFirst steps (AnswersSeen telling asked)
