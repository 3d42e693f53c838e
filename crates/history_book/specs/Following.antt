-- The state after a change.
use Rattle.std.specs.Prelude.{◌≡◌, ℕ}
use Rattle.build_carry.specs.Carried.{IsCarried}
use Rattle.history_machine.specs.State.{State}
use Rattle.workspace_snapshot.specs.Made.{IsMadeByEdits}
use Rattle.workspace_snapshot.specs.declared.change.Change.{Change}

-- The new state is the one after the change: it has this number, the change's files, and the finished units that the change carries over.
-- The edits of the change make its files.
pub record IsStateAfter (old : State) (number : ℕ) (change : Change) (new : State) : Type 0 where
  pub numbered : new.number ≡ number
  pub made : IsMadeByEdits change
  pub has_files : new.files ≡ change.files
  pub carried : IsCarried old.files old.finished change.files new.finished
