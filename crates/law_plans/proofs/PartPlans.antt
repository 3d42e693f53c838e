-- The edits of a rename beside packages with faults are those of a rename that is planned in the part without them.
use Rattle.std.proofs.Common.{◌≡◌, ℕ, List, refl, ap, ◌∙◌}
use Rattle.std.specs.Prelude.{Contains, Ok}
use Rattle.std.specs.FinMap.{get}
use Rattle.base_edits.specs.declared.change.FileChange.{FileChange}
use Rattle.base_edits.specs.declared.change.Fate.TheVariants.{Stays}
use Rattle.workspace_snapshot.specs.declared.change.Change.{Change}
use Rattle.workspace_snapshot.specs.declared.change.ChangeKind.TheVariants.{Rename}
use Rattle.workspace_snapshot.specs.declared.snapshot.Snapshot.{Snapshot}
use Rattle.law_plans.proofs.ImportNames.{names_are_gained}
use Rattle.refactor_part.specs.FaultlessPart.{part_of_snapshot}
use Rattle.refactor_part.proofs.PartClosures.{part_sound}
use Rattle.refactor_part.proofs.PartEdits.{limits_of_part, staying_apart, within}
use Rattle.refactor_plan.specs.Plan.{PlansRename}
use Rattle.refactor_plan.specs.Proposals.{proposed_change}
use Rattle.refactor_affected.specs.Renames.{PlansAffectedRename}
use Rattle.refactor_affected.proofs.Planned.{not_missing}
use Rattle.law_plans.specs.AffectedBytes.{AffectedRenamesNameImports}

module _ (snapshot : Snapshot) (path : List ℕ) (offset : ℕ) (name : List ℕ) (change : Change) (plan : PlansAffectedRename snapshot path offset name (Ok
    change)) where
  abbrev pub inner : Snapshot
  inner = part_of_snapshot snapshot plan.0.sound.known

  pub stay : (c : FileChange) → Contains change.edits.changed c → c.fate ≡ Stays
  stay c has = (plan.1.renaming.edits.edits.edits.only c has).stays

  -- it is planned in the part
  abbrev pub planned_inside : PlansRename (part_of_snapshot snapshot plan.0.sound.known) path offset name
      (Ok (proposed_change (part_of_snapshot snapshot plan.0.sound.known) Rename change.edits))
  planned_inside =
      let w = snapshot.files in
      let known = plan.0.sound.known in
      let right = plan.0.sound.right in
      let none = plan.1.renaming.edits.edits.edits.none_added in (
        record {
          file = (plan.0.file.0, λ missing. not_missing snapshot known right path offset name plan.0 missing);
          form = plan.0.form;
          sound = part_sound w known right;
        },
        record {
          renaming = plan.1.renaming;
          preserves = plan.1.preserves;
          fits = limits_of_part w known change.edits none (staying_apart change.edits w stay) snapshot.limits plan.1.fits;
          fit_files = plan.1.fit_part;
          is_change = refl;
        },
      )

pub names_gained_beside : AffectedRenamesNameImports
names_gained_beside snapshot path offset name change plan f is i token at literal =
    let w = snapshot.files in
    let known = plan.0.sound.known in
    let s = change.edits in
    let inside = planned_inside snapshot path offset name change plan in
    let made = proposed_change (part_of_snapshot snapshot known) Rename s in
    let g = names_are_gained (part_of_snapshot snapshot known) path offset name made inside f is i token at literal in
    let apart = staying_apart s w (stay snapshot path offset name change plan) in
    record {
      put = g.put;
      is_put = g.is_put;
      inserts = g.inserts;
      new = g.new;
      there = ap (λ (c : Change). get c.files f.path) plan.1.is_change
          ∙ within w known s plan.1.renaming.edits.edits.edits.none_added apart f.path g.new g.there;
      front = g.front;
      behind = g.behind;
      stands = g.stands;
      directly = g.directly;
      kept = g.kept;
      only = g.only;
    }
