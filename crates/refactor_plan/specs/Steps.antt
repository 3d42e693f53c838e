-- What the steps of planning a rename answer.
use Rattle.std.specs.Prelude.{ℕ, ◌≡◌, ◌⊎◌, List, [], ⊤, Result, Ok, Err}
use Rattle.base_files.specs.declared.refusal.Refusal.{Refusal}
use Rattle.base_files.specs.declared.refusal.Refusal.TheVariants.{Memory, TooLarge, Faulty, NoIdentifier, NotRenamable, BadName, Same, Captured, Coupled, Lost}
use Rattle.workspace_check.specs.Verdicts.{Verdicts}
use Rattle.workspace_check.specs.FaultLists.{ListsFaults}
use Rattle.refs_binding.specs.declared.declaration.Declaration.{Declaration}
use Rattle.refs_binding.specs.Uses.{HasNoIdentifier, HasNoDeclaration, HasFirstFault}
use Rattle.base_edits.specs.EditSet.{FileChanges}
use Rattle.base_edits.specs.Fits.{Fits}
use Rattle.workspace_snapshot.specs.declared.snapshot.Snapshot.{Snapshot}
use Rattle.workspace_snapshot.specs.declared.change.Change.{Change}
use Rattle.refactor_coupled.specs.CoupledEdits.{AreCoupledEdits}
use Rattle.refactor_plan.specs.Proposals.{PlansRenaming}
use Rattle.refactor_plan.specs.Plan.{ResolvesToFixed, ResolvesToReserved, ResolvesToNamesake, HasConflict, IsRenameTooLarge, IsRenamed}

-- What planning answers for the edits that give the declaration `d`, and what is renamed with it, the name `name`. It is `Memory` where there
-- was no memory for them.
abbrev pub PlansDeclaration : Snapshot → Verdicts → Declaration → List ℕ → Result Change Refusal → Type 0
PlansDeclaration snapshot known d name result =
    (result ≡ Err Memory) ⊎ ((set : List Declaration) × ((s : FileChanges) × (AreCoupledEdits snapshot.files known d set name s ×
    (Fits s snapshot.files × PlansRenaming snapshot known s result))))

-- What planning a rename answers where the arguments have their forms and the file exists.
abbrev pub PlansAtByte : Snapshot → List ℕ → ℕ → List ℕ → Result Change Refusal → Type 0
PlansAtByte snapshot path offset name (Ok change) = ListsFaults snapshot.files [] × IsRenamed snapshot path offset name change
PlansAtByte snapshot path offset name (Err (Faulty place kind)) = HasFirstFault snapshot.files place kind
PlansAtByte snapshot path offset name (Err NoIdentifier) = ListsFaults snapshot.files [] × HasNoIdentifier snapshot.files path offset
PlansAtByte snapshot path offset name (Err NotRenamable) = ListsFaults snapshot.files [] ×
    (HasNoDeclaration snapshot.files path offset ⊎ ResolvesToFixed snapshot.files path offset)
PlansAtByte snapshot path offset name (Err BadName) = ListsFaults snapshot.files [] × ResolvesToReserved snapshot.files path offset name
PlansAtByte snapshot path offset name (Err Same) = ListsFaults snapshot.files [] × ResolvesToNamesake snapshot.files path offset name
PlansAtByte snapshot path offset name (Err (Captured used by)) = ListsFaults snapshot.files [] × HasConflict snapshot.files path offset name (Captured used by)
PlansAtByte snapshot path offset name (Err (Lost used)) = ListsFaults snapshot.files [] × HasConflict snapshot.files path offset name (Lost used)
PlansAtByte snapshot path offset name (Err (Coupled place)) = ListsFaults snapshot.files [] ×
    HasConflict snapshot.files path offset name (Coupled place)
PlansAtByte snapshot path offset name (Err TooLarge) = ListsFaults snapshot.files [] × IsRenameTooLarge snapshot path offset name
PlansAtByte snapshot path offset name (Err Memory) = ⊤
PlansAtByte snapshot path offset name (Err refusal) = ⊥
