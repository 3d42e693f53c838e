-- The answer to `objects`, and the commands that are about the states of the history.
use Rattle.std.specs.Prelude.{◌≡◌, ℕ, ⊤, List, Some, Result, Ok, Err}
use Rattle.base_files.specs.declared.refusal.Refusal.{Refusal}
use Rattle.history_machine.specs.declared.seen_state.SeenState.{SeenState}
use Rattle.history_machine.specs.declared.view.View.{View}
use Rattle.history_objects.specs.ComparedObjects.{ComparesWith}
use Rattle.history_objects.specs.declared.comparing.ComparedObject.{ComparedObject}
use Rattle.server_read.specs.declared.command.StateCommand.{StateCommand}
use Rattle.server_read.specs.declared.command.StateCommand.TheVariants as state
use Rattle.server_commands.specs.declared.response.Response.{Response}
use Rattle.server_commands.specs.declared.response.Response.TheVariants as response

-- the answer with these packages, or with the refusal
abbrev pub objects_response : ℕ → Result (List ComparedObject) Refusal → Response
objects_response number (Ok objects) = response.Objects number objects
objects_response number (Err refusal) = response.Refused refusal

-- the answer to `objects`: the objects of all packages, compared with those of a state that the view shows
abbrev pub AnswersObjects : View → (basis : ℕ) → Response → Type 0
AnswersObjects view basis answer =
    (states : List SeenState) × (view.history ≡ Some states) × ((told : Result (List ComparedObject) Refusal) × ComparesWith states view basis told
    × (answer ≡ objects_response view.snapshot.number told))

-- the command is about the states of the history
abbrev pub NeedsHistory : StateCommand → Type 0
NeedsHistory (state.Objects basis) = ⊤
NeedsHistory other = ⊥
