-- Files that were seen to be current, and the Jobs taken then.
use Rattle.std.specs.Prelude.{◌⊎◌, ⊤, List, None, Some}
use Rattle.std.specs.Coded.{Coded-set, coded_option}
use Rattle.std.specs.List.{last_or}
use Rattle.base_files.specs.Workspace.{Workspace}
use Rattle.build_unit.specs.Codes.{workspace_code}
use Rattle.build_unit.specs.Inputs.{AreInputs}
use Rattle.build_unit.specs.declared.job.JobRecord.{JobRecord}
use Rattle.history_machine.specs.declared.entry.EntryKind.{EntryKind}
use Rattle.history_machine.specs.declared.entry.EntryKind.TheVariants as kind
use Rattle.history_machine.specs.declared.entry.Told.{Told}
use Rattle.history_machine.specs.declared.entry.Told.TheVariants.{Done}
use Rattle.history_machine.specs.declared.event.Event.{Event}
use Rattle.history_machine.specs.declared.event.Reply.{Reply}
use Rattle.history_machine.specs.Machine.{Machine}
use Rattle.history_machine.specs.Step.{Step}
use Rattle.server_versions.specs.Growing.{IsLastVersion}
use Rattle.server_shared.specs.Steps.{IsUnkept}

-- Which files are the last is a fact with at most one proof, so a struct may keep it.
pub IsLastVersion-prop : (seen : List Workspace) (files : Workspace) → IsProp (IsLastVersion seen files)
IsLastVersion-prop seen files = Coded-set (coded_option workspace_code) (last_or None seen) (Some files)

-- the Job has the inputs of its package in the last of these files
abbrev pub BringsInputs : List Workspace → JobRecord → Type 0
BringsInputs seen job = (files : Workspace) × IsLastVersion seen files × AreInputs files job.package job.inputs

-- What was seen ends with the files that are current behind a step by this event, which gets this reply. Or the event's change could not be
-- kept.
abbrev pub EndsBehind : Event → Reply → List Workspace → Type 0
EndsBehind event reply seen = IsUnkept event reply ⊎ ((old : Machine) × (new : Machine) × Step old event reply new × IsLastVersion seen new.current.files)

-- an event of this kind and outcome may change the current files
abbrev pub MayChangeFiles : EntryKind → Told → Type 0
MayChangeFiles kind.Commit (Done number) = ⊤
MayChangeFiles kind.Undo (Done number) = ⊤
MayChangeFiles kind.Redo (Done number) = ⊤
MayChangeFiles other out = ⊥
