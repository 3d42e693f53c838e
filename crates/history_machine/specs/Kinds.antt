-- The names of the kinds of events, and the refusals that reasons stand for.
use Rattle.std.specs.Prelude.{ℕ, List, codes}
use Rattle.base_files.specs.declared.refusal.Refusal.{Refusal}
use Rattle.base_files.specs.declared.refusal.Refusal.TheVariants as refusal
use Rattle.history_machine.specs.declared.entry.EntryKind.{EntryKind}
use Rattle.history_machine.specs.declared.entry.EntryKind.TheVariants as kind
use Rattle.history_machine.specs.declared.entry.Reason.{Reason}
use Rattle.history_machine.specs.declared.entry.Reason.TheVariants as reason

-- the name of a kind in the replies of a session
abbrev pub kind_name : EntryKind → List ℕ
kind_name kind.Look = codes "look"
kind_name kind.Log = codes "log"
kind_name kind.Commit = codes "commit"
kind_name kind.Undo = codes "undo"
kind_name kind.Redo = codes "redo"
kind_name kind.Take = codes "take"
kind_name kind.Deliver = codes "deliver"
kind_name kind.GiveBack = codes "give"

-- the refusal that a reason stands for
abbrev pub reason_refusal : Reason → Refusal
reason_refusal (reason.Moved current) = refusal.Moved current
reason_refusal reason.NothingToUndo = refusal.NothingToUndo
reason_refusal reason.NothingToRedo = refusal.NothingToRedo
reason_refusal (reason.Stale current) = refusal.Stale current
reason_refusal reason.Already = refusal.Already
reason_refusal reason.NoJob = refusal.NoJob
