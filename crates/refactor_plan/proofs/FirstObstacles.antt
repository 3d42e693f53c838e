-- The first obstacle of a rename of members: its first conflict, or else the first interface that lookups under its two names turn.
use Rattle.std.proofs.Common.{ℕ, ◌≡◌, List, subst}
use Rattle.std.specs.Prelude.{◌↔◌, Option, Some, None}
use Rattle.std.specs.Borrow.{Bor}
use Rattle.base_edits.specs.EditSet.{FileChanges}
use Rattle.base_edits.specs.RevisionsOfEdits.{revision_of}
use Rattle.base_files.specs.declared.place.Place.{Place}
use Rattle.workspace_check.specs.Verdicts.{Verdicts}
use Rattle.refs_binding.specs.declared.declaration.Declaration.{Declaration}
use Rattle.refs_binding.specs.DeclaredNames.{HasDeclaredName}
use Rattle.refs_binding.specs.Uses.{IsCheckedPackage}
use Rattle.refs_binding.specs.WorkspaceFindings.{WorkspaceFindings}
use Rattle.refs_binding.specs.Workspaces.{IsFaultless, known_in}
use Rattle.refactor_conflict.specs.Conflicts.{IsFirstConflict}
use Rattle.refactor_conflict.specs.Staying.{NoneIsLost}
use Rattle.refactor_conflict.specs.declared.conflict.Conflict.{Conflict}
use Rattle.refactor_coupled.specs.FirstTurns.{IsFirstTurn, NamesAreFree, TellsFirstTurn, TurnsUnder}
use Rattle.refactor_coupled.specs.Obstacles.{IsFirstObstacle, TurnsAt}
use Rattle.refactor_coupled.specs.Reached.{IsCalledName}
use Rattle.refactor_coupled.specs.RenamedTypesView.{definitions_in, types_of}
use Rattle.refactor_coupled.specs.declared.obstacle.Obstacle.{Obstacle}
use Rattle.refactor_coupled.specs.declared.obstacle.Obstacle.TheVariants as obstacle
use Rattle.refactor_coupled.proofs.AllDefinitions.{all_definitions}
use Rattle.refactor_rename.specs.declared.renaming.Renaming.{Renaming}
use Rattle.refactor_members.proofs.SetsApart.{used_named}
use Rattle.law_renamed_workspaces.specs.MemberRenames.{IsMemberRename}
use Rattle.law_implementing.specs.MembersCalled.{NamesAreFreed, TurnsAreTold, set_rename}
use Rattle.refactor_plan.specs.Decided.{TellsImplementing, TellsMembers, coupled_if}
use Rattle.refactor_plan.proofs.CalledNames.{name_declared, name_found}
use Rattle.refactor_plan.proofs.Premises.{names_are_freed, turns_are_told}

module _ (freed : NamesAreFreed) (told : TurnsAreTold) (w : WorkspaceFindings) (sound : IsFaultless w.graph w.findings) (d : Declaration)
    (set : List Declaration) (old new : List ℕ) (s : FileChanges) (rename : IsMemberRename w.graph (known_in w.findings) d set new s)
    (has : HasDeclaredName (IsCheckedPackage w.graph (known_in w.findings)) d old)
    (none : NoneIsLost w.graph (known_in w.findings) (revision_of w.graph s)) where
  abbrev known : Verdicts
  known = known_in w.findings

  turns : (place : Place) → TurnsAt w.graph known (revision_of w.graph s) place ↔ TurnsUnder w (set_rename set old new) place
  turns place = told w.graph known d set old new s rename has none (definitions_in (types_of w)) (all_definitions w sound) place

  free : NamesAreFree (definitions_in (types_of w)) (set_rename set old new)
  free = freed w.graph known d set old new s rename has none (definitions_in (types_of w)) (all_definitions w sound)

  first_by : (found : Option Place) → IsFirstTurn w (set_rename set old new) found →
      IsFirstObstacle w.graph known (revision_of w.graph s) (coupled_if found)
  first_by None h = (none, λ place t. h place ((turns place).0 t))
  first_by (Some place) h = (none, (turns place).1 h.0, λ other less t. h.1 other less ((turns other).0 t))

-- what is told under the name that was found
pub change_told : (w : WorkspaceFindings) → IsFaultless w.graph w.findings → (r : Renaming) (called : Option (Bor (List ℕ))) →
    IsCalledName (types_of w) r.declaration.now called → (old : Bor (List ℕ)) → called ≡ Some old → (found : Option Place) →
    TellsFirstTurn w (set_rename r.set.now old.now r.name.now) found → TellsImplementing w r (coupled_if found)
change_told w sound r called is old same found first = λ s rename none.
    let has = name_declared w sound r.declaration.now old (subst (IsCalledName (types_of w) r.declaration.now) same is) in
    first_by names_are_freed turns_are_told w sound r.declaration.now r.set.now old.now r.name.now s rename has none found
    (first (free names_are_freed turns_are_told w sound r.declaration.now r.set.now old.now r.name.now s rename has none))

-- A member that is used has a name, so one is found.
pub name_not_missed : (w : WorkspaceFindings) → IsFaultless w.graph w.findings → (r : Renaming) (called : Option (Bor (List ℕ))) →
    IsCalledName (types_of w) r.declaration.now called → called ≡ None → (told : Option Obstacle) → TellsImplementing w r told
name_not_missed w sound r called is same told = λ s rename none.
    let used = rename.rename.rename.used in
    let has = used_named w.graph (known_in w.findings) sound.findings.right r.declaration.now rename.member used.0 used.1 in
    absurd (name_found w sound r.declaration.now rename.member has.0 has.1 (subst (IsCalledName (types_of w) r.declaration.now) same is))

-- the first conflict, or else the first interface
pub conflict_first : (w : WorkspaceFindings) (r : Renaming) (c : Conflict) →
    ((s : FileChanges) → IsMemberRename w.graph (known_in w.findings) r.declaration.now r.set.now r.name.now s →
    IsFirstConflict w.graph (known_in w.findings) (revision_of w.graph s) (Some c)) → TellsMembers w r (Some (obstacle.Conflict c))
conflict_first w r c tells = λ s rename. tells s rename

pub change_first : (w : WorkspaceFindings) (r : Renaming) →
    ((s : FileChanges) → IsMemberRename w.graph (known_in w.findings) r.declaration.now r.set.now r.name.now s →
    IsFirstConflict w.graph (known_in w.findings) (revision_of w.graph s) None) → (told : Option Obstacle) →
    TellsImplementing w r told → TellsMembers w r told
change_first w r kept told tells = λ s rename. tells s rename (kept s rename)
