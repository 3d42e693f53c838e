-- The base of a change that was planned on a snapshot has the snapshot's files. So the desk knows of the base what it knows of these.
use Rattle.std.proofs.Common.{ℕ, List, Option, None, Some, Result, Ok, Err, IfOk, sym, subst}
use Rattle.base_files.specs.Workspace.{Workspace}
use Rattle.base_files.specs.declared.refusal.Refusal.{Refusal}
use Rattle.refactor_affected.specs.Moves.{PlansAffectedMove}
use Rattle.refactor_affected.specs.Renames.{PlansAffectedRename}
use Rattle.workspace_snapshot.specs.Plan.{PlansPut, PlansDel}
use Rattle.workspace_snapshot.specs.declared.change.Change.{Change}
use Rattle.workspace_snapshot.specs.declared.snapshot.Snapshot.{Snapshot}
use Rattle.refactor_preserve.specs.Planned.{change_in}
use Rattle.refactor_preserve.specs.declared.planned.Planned.{Planned}
use Rattle.history_machine.specs.declared.view.View.{View}
use Rattle.server_commands.specs.Act.{PlansBody}

abbrev OnBase : (Workspace → Type 0) → Result Change Refusal → Type 0
OnBase P planned = IfOk planned (λ change. P change.base)

module _ (P : Workspace → Type 0) (snapshot : Snapshot) (here : P snapshot.files) where
  put_based : (path text : List ℕ) (planned : Result Change Refusal) → PlansPut snapshot path text planned → OnBase P planned
  put_based path text (Ok change) plans = subst (λ (x : Change). P x.base) (sym plans.3) here
  put_based path text (Err refusal) plans = tt

  pub del_based : (path : List ℕ) (planned : Result Change Refusal) → PlansDel snapshot path planned → OnBase P planned
  del_based path (Ok change) plans = subst (λ (x : Change). P x.base) (sym plans.2) here
  del_based path (Err refusal) plans = tt

  rename_based : (path : List ℕ) (offset : ℕ) (name : List ℕ) (planned : Result Change Refusal) → PlansAffectedRename snapshot path offset name planned →
      OnBase P planned
  rename_based path offset name (Ok change) plans = subst (λ (x : Change). P x.base) (sym plans.1.is_change) here
  rename_based path offset name (Err refusal) plans = tt

  move_based : (from to : List ℕ) (planned : Result Change Refusal) → PlansAffectedMove snapshot from to planned → OnBase P planned
  move_based from to (Ok change) plans = subst (λ (x : Change). P x.base) (sym plans.1.is_change) here
  move_based from to (Err refusal) plans = tt

-- a change that was planned together with the findings of its files
with_known : (P : Workspace → Type 0) (planned : Result Planned Refusal) → OnBase P (change_in planned) → IfOk planned (λ p. P p.change.base)
with_known P (Ok planned) based = based
with_known P (Err refusal) based = tt

pub known_rename_based : (P : Workspace → Type 0) (snapshot : Snapshot) → P snapshot.files → (path : List ℕ) (offset : ℕ) (name : List ℕ)
    (planned : Result Planned Refusal) → PlansAffectedRename snapshot path offset name (change_in planned) → IfOk planned (λ p. P p.change.base)
known_rename_based P snapshot here path offset name planned plans =
    with_known P planned (rename_based P snapshot here path offset name (change_in planned) plans)

pub known_move_based : (P : Workspace → Type 0) (snapshot : Snapshot) → P snapshot.files → (from to : List ℕ) (planned : Result Planned Refusal) →
    PlansAffectedMove snapshot from to (change_in planned) → IfOk planned (λ p. P p.change.base)
known_move_based P snapshot here from to planned plans = with_known P planned (move_based P snapshot here from to (change_in planned) plans)

pub body_based : (P : Workspace → Type 0) (view : View) → P view.snapshot.files → (path : List ℕ) (body : Option (List ℕ)) (planned : Result Change Refusal) →
    PlansBody view path body planned → OnBase P planned
body_based P view here path (Some text) planned plans = put_based P view.snapshot here path text planned plans
body_based P view here path None (Ok change) plans = absurd plans
body_based P view here path None (Err refusal) plans = tt
