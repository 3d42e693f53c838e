-- The bytes that a rename or move beside packages with faults leaves.
use Rattle.std.proofs.Common.{◌≡◌, ℕ, inl, inr, true, List, Option, None, Some, refl, sym, ap, subst, ◌∙◌}
use Rattle.std.specs.Prelude.{Contains, Ok}
use Rattle.std.specs.FinMap.{get}
use Rattle.std.proofs.lemmas.Bool.{and_parts, cases_Bool}
use Rattle.base_files.specs.Packages.{is_go}
use Rattle.base_files.specs.Path.{folder}
use Rattle.base_files.specs.Workspace.{Workspace}
use Rattle.base_edits.specs.Edits.{AreInOrder, edited_text}
use Rattle.base_edits.specs.EditSet.{FileChanges, change_of}
use Rattle.base_edits.specs.Fits.{path_after, path_by_change}
use Rattle.base_edits.specs.Moved.{edits_by}
use Rattle.base_edits.specs.declared.change.FileChange.{FileChange}
use Rattle.base_edits.specs.declared.change.Fate.TheVariants.{Stays}
use Rattle.base_edits.proofs.Changes.{change_found}
use Rattle.base_edits.proofs.Entries.{some_is}
use Rattle.workspace_graph.proofs.ByPath.{has_file}
use Rattle.workspace_check.specs.Verdicts.{Verdicts}
use Rattle.workspace_snapshot.specs.declared.change.Change.{Change}
use Rattle.workspace_snapshot.specs.declared.snapshot.Snapshot.{Snapshot}
use Rattle.refactor_move.specs.MoveEdits.{AreMoveEdits}
use Rattle.refactor_move.specs.Paths.{IsUnder, HasMoved}
use Rattle.refactor_rename.specs.declared.renamed.Renamed.{Renamed}
use Rattle.refactor_rename.specs.FileEdits.{AreFileEdits}
use Rattle.refactor_rename.specs.RenameEdits.{AreEditsOf}
use Rattle.law_plans.proofs.FilesKept.{bytes_stay, file_there}
use Rattle.law_plans.specs.MovedBytes.{IsPathAfterMove}
use Rattle.law_moves.proofs.MovedFolders.{folder_moves}
use Rattle.refactor_part.specs.FaultlessPart.{faultless_part, is_of_faulty}
use Rattle.refactor_part.proofs.PartChanges.{no_change}
use Rattle.refactor_part.proofs.PartFiles.{kept}
use Rattle.refactor_affected.specs.Moves.{PlansAffectedMove}
use Rattle.refactor_affected.proofs.MovesApart.{move_edits_apart}
use Rattle.law_plans.specs.AffectedBytes.{AffectedRenamesKeepOtherBytes, AffectedMovesKeepOtherBytes}
use Rattle.law_plans.proofs.EditedPart.{go_file}
use Rattle.law_plans.proofs.MovingFiles.{none_moves, old_at}
use Rattle.law_plans.proofs.StayingFiles.{path_stays}

-- the edits of a rename in one file are in order
in_order : (v : Workspace) (known : Verdicts) (r : Renamed) (s : FileChanges) → AreEditsOf v known r s → (file : List ℕ) →
    AreInOrder 0 (edits_by (change_of s file))
in_order v known r s are file = by_change (change_of s file) refl
  where
    by_change : (o : Option FileChange) → change_of s file ≡ o → AreInOrder 0 (edits_by o)
    by_change None is = tt
    by_change (Some c) is =
        let found = change_found s.changed file c is in
        let source = are.only c found.0 in
        let here : AreFileEdits source.source r (edits_by (Some c)) =
        subst (λ o. AreFileEdits source.source r (edits_by o)) (ap (change_of s) (source.of_path ∙ found.1) ∙ is) (are.each source.source source.is_source) in
        here.end_by.in_order

pub renames_keep_bytes : AffectedRenamesKeepOtherBytes
renames_keep_bytes snapshot path offset name change plan file text is start end some ends kept =
    let w = snapshot.files in
    let s = change.edits in
    let edits = plan.1.renaming.edits.edits.edits in
    let stay : (c : FileChange) → Contains s.changed c → c.fate ≡ Stays = λ c has. (edits.only c has).stays in
    let order = in_order _ _ plan.1.renaming.edits.edits.renamed s edits file in
    record {
      new = edited_text (edits_by (change_of s file)) text;
      there = ap (λ (c : Change). get c.files file) plan.1.is_change ∙ file_there w s plan.1.fit_files file text is file (path_stays s stay file);
      kept = bytes_stay w s plan.1.fit_files file text is order start end some ends kept;
    }

module _ (snapshot : Snapshot) (from to : List ℕ) (change : Change) (plan : PlansAffectedMove snapshot from to (Ok change)) (file text : List ℕ)
    (is : get snapshot.files file ≡ Some text) where
  abbrev w : Workspace
  w = snapshot.files

  abbrev s : FileChanges
  s = change.edits

  abbrev known : Verdicts
  known = plan.0.sound.known

  abbrev part : Workspace
  part = faultless_part snapshot.files plan.0.sound.known

  abbrev are : AreMoveEdits (faultless_part snapshot.files plan.0.sound.known) plan.1.moving.known from to to change.edits
  are = plan.1.moving.edits

  -- what is told of the file
  record IsToldOf : Type 0 where
    after : List ℕ
    goes : path_after s file ≡ Some after
    is_after : IsPathAfterMove from to file after
    order : AreInOrder 0 (edits_by (change_of s file))

  -- a file of the part
  told_in : get part file ≡ Some text → IsToldOf
  told_in has =
      let here = some_is (get part file) text has in
      let edits = are.edits file here in
      let order : AreInOrder 0 (edits_by (change_of s file)) = elim (cases_Bool (is_go file)) [
        | inl go ↦ (edits.go go).are.end_by.in_order
        | inr not ↦ subst (AreInOrder 0) (sym (edits.other not)) tt
      ] in
      let source = are.is_move.source in
      let target = are.is_move.target in
      elim (are.paths file here) [
        | inl moved ↦ record {
          after = moved.0;
          goes = moved.1.1;
          is_after = inl (subst (λ f. HasMoved f to file moved.0) source (subst (λ t. HasMoved are.moved.from t file moved.0) target moved.1.0.moved));
          order = order;
        }
        | inr stays ↦ record { after = file; goes = stays.1; is_after = inr (subst (λ f. IsUnder f file → ⊥) source stays.0, refl); order = order }
      ]

  told_out : is_of_faulty known file ≡ true → IsToldOf
  told_out faulty =
      let none = no_change w known s are.none_added (move_edits_apart w part plan.1.moving.known from to s are plan.0.movable.free) plan.1.fit_part file
      faulty in
      let parts = and_parts (is_go file) (known (folder file)).faulty faulty in
      record {
        after = file;
        goes = ap (λ o. path_by_change o file) none;
        is_after = inr (
          λ under. none_moves w known plan.0.sound.right from to plan.0.movable.beside.elsewhere.asked.target plan.0.movable.free plan.0.sound
              plan.1.moving.known s
              are (move_edits_apart w part plan.1.moving.known from to s are plan.0.movable.free) (folder file)
              (has_file w (folder file) (file, text) (go_file w file text is parts.0))
              (old_at from from (folder file) (folder file) (folder_moves from from file file (record { rest = under.0; was = under.1; is = under.1 })))
              parts.1,
          refl,
        );
        order = subst (λ o. AreInOrder 0 (edits_by o)) (sym none) tt;
      }

  told : IsToldOf
  told = elim (cases_Bool (is_of_faulty known file)) [
    | inl faulty ↦ told_out faulty
    | inr fine ↦ told_in (kept w known file fine ∙ is)
  ]

pub moves_keep_bytes : AffectedMovesKeepOtherBytes
moves_keep_bytes snapshot from to change plan file text is start end some ends untouched =
    let t = told snapshot from to change plan file text is in
    let w = snapshot.files in
    let s = change.edits in
    record {
      after = t.after;
      is_after = t.is_after;
      new = edited_text (edits_by (change_of s file)) text;
      there = ap (λ (c : Change). get c.files t.after) plan.1.is_change ∙ file_there w s plan.1.fit_files file text is t.after t.goes;
      kept = bytes_stay w s plan.1.fit_files file text is t.order start end some ends untouched;
    }
