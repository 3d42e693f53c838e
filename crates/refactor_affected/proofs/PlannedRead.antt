-- What was planned in a package of the part that was read, in the words of the part.
use Rattle.std.proofs.Common.{◌≡◌, ℕ, Bool, List, Global, ap, subst, ◌∙◌}
use Rattle.std.specs.Prelude.{Result, Err}
use Rattle.base_files.specs.Workspace.{Workspace}
use Rattle.base_files.specs.declared.refusal.Refusal.{Refusal}
use Rattle.workspace_check.specs.KnownFindings.{verdicts_by}
use Rattle.workspace_check.specs.Verdicts.{Verdicts, AreVerdicts}
use Rattle.workspace_snapshot.specs.declared.change.Change.{Change}
use Rattle.workspace_snapshot.specs.declared.snapshot.Snapshot.{Snapshot}
use Rattle.refactor_part.specs.Affected.{IsMarkedPackage}
use Rattle.refactor_part.specs.FaultlessPart.{faultless_part, part_of_snapshot}
use Rattle.refactor_part.specs.FirstFaults.{RefusesFirstOf}
use Rattle.refactor_part.proofs.Carried.{refuses_of}
use Rattle.refactor_plan.specs.Plan.{PlansRename}
use Rattle.refactor_plan.specs.Proposals.{proposed_snapshot}
use Rattle.refactor_plan.specs.Steps.{PlansAtByte}
use Rattle.refactor_plan.specs.declared.proposal.Proposal.{Proposal}
use Rattle.refactor_plan.proofs.Planned.{planned}
use Rattle.refactor_affected.specs.InPart.{IsInPart, IsProposedIn}
use Rattle.refactor_affected.specs.Renames.{IsAffectedByRename, PlansAffectedRename}
use Rattle.refactor_affected.specs.Steps.{MarkPackages, MarksRenamed}
use Rattle.refactor_affected.specs.declared.in_part.RenameInPart.{RenameInPart}
use Rattle.refactor_affected.proofs.Planned.{none_affected, not_missing}

module _ (r : RenameInPart) (is : IsInPart r) where
  abbrev snapshot : Snapshot
  snapshot = r.asked.now.snapshot.now

  abbrev w : Workspace
  w = r.asked.now.snapshot.now.files

  abbrev known : Verdicts
  known = verdicts_by r.asked.now.found.now.findings.export_table

  abbrev right : AreVerdicts r.asked.now.snapshot.now.files (verdicts_by r.asked.now.found.now.findings.export_table)
  right = is.found.findings.right

  abbrev file : List ℕ
  file = r.asked.now.file.now

  abbrev offset : ℕ
  offset = r.asked.now.offset

  abbrev name : List ℕ
  name = r.asked.now.name.now

  -- at the byte there is nothing to rename
  pub part_refused : (refusal : Refusal) → MarksRenamed {Z = Global} w (faultless_part w known) file offset (Err refusal) →
      PlansAffectedRename snapshot file offset name (Err refusal)
  part_refused refusal h = none_affected snapshot known right file offset name is.asked Global refusal h

  module _ (p : Proposal) (so : IsProposedIn r p) where
    graph_is : p.workspace.now.graph ≡ faultless_part w known
    graph_is = so.proposed.same ∙ ap (λ (s : Snapshot). s.files) (so.snapshot ∙ is.part)

    snapshot_is : proposed_snapshot p ≡ part_of_snapshot snapshot known
    snapshot_is = ap (λ (g : Workspace). record { number = p.snapshot.now.number; limits = p.snapshot.now.limits; files = g }) so.proposed.same
        ∙ so.snapshot ∙ is.part

    -- what is told of the proposal's byte is told of the one that was asked for
    of_asked : (P : Workspace → List ℕ → ℕ → Type 0) → P p.workspace.now.graph p.path.now p.offset → P (faultless_part w known) file offset
    of_asked P h =
        subst (λ (g : Workspace). P g file offset) graph_is (subst (λ (q : List ℕ). P p.workspace.now.graph q offset) so.file
        (subst (λ (n : ℕ). P p.workspace.now.graph p.path.now n) so.offset h))

    pub read_refused : (refusal : Refusal) → MarksRenamed {Z = Global} w p.workspace.now.graph p.path.now p.offset (Err refusal) →
        PlansAffectedRename snapshot file offset name (Err refusal)
    read_refused refusal h = part_refused refusal (of_asked (λ v q n. MarksRenamed {Z = Global} w v q n (Err refusal)) h)

    pub first_marked : (marks : List Bool) → MarkPackages w (IsAffectedByRename w p.workspace.now.graph p.path.now p.offset) marks →
        (faults : Result (Unit {0}) Refusal) → RefusesFirstOf w (IsMarkedPackage w marks) faults →
        RefusesFirstOf w (IsAffectedByRename w (faultless_part w known) file offset) faults
    first_marked marks m = refuses_of w (IsMarkedPackage w marks) (IsAffectedByRename w (faultless_part w known) file offset)
        (of_asked (λ v q n. MarkPackages w (IsAffectedByRename w v q n) marks) m)

    pub planned_in_part : (text : List ℕ) → text ≡ name → (planned_here : Result Change Refusal) →
        PlansAtByte (proposed_snapshot p) p.path.now p.offset text planned_here → PlansRename (part_of_snapshot snapshot known) file offset name planned_here
    planned_in_part text same result h =
        planned (part_of_snapshot snapshot known) file offset name
        (is.asked.file.0, not_missing snapshot known right file offset name is.asked) is.asked.form result
        (subst (λ (s : Snapshot). PlansAtByte s file offset name result) snapshot_is
        (subst (λ (q : List ℕ). PlansAtByte (proposed_snapshot p) q offset name result) so.file
        (subst (λ (n : ℕ). PlansAtByte (proposed_snapshot p) p.path.now n name result) so.offset
        (subst (λ (t : List ℕ). PlansAtByte (proposed_snapshot p) p.path.now p.offset t result) same h))))
