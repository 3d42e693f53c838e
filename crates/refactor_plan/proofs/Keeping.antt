-- The bytes of a file that a rename leaves.
use Rattle.std.proofs.Common.{◌≡◌, ℕ, ◌+◌, ◌-◌, ◌<◌, ◌≤◌, inr, List, length, drop, Option, Some, None, refl, sym, ap, subst, ◌∙◌}
use Rattle.std.specs.List.{slice_range}
use Rattle.std.specs.FinMap.{get}
use Rattle.std.specs.Option.{option_map, MatchOption}
use Rattle.std.proofs.lemmas.List.Elements.{All-nil, All-contains}
use Rattle.base_files.specs.Workspace.{Workspace}
use Rattle.workspace_check.specs.Verdicts.{Verdicts}
use Rattle.base_edits.specs.Edits.{AreInOrder, LieWithin, edited_text}
use Rattle.base_edits.specs.EditSet.{FileChanges, path_by, change_of, file_by, edited}
use Rattle.base_edits.specs.Fits.{HasSpans, Fits}
use Rattle.base_edits.specs.Laws.{AreUntouched}
use Rattle.base_edits.specs.Moved.{moved_offset, edits_by}
use Rattle.base_edits.specs.declared.edit.Edit.{Edit}
use Rattle.base_edits.specs.declared.change.FileChange.{FileChange}
use Rattle.base_edits.proofs.Changes.{change_found}
use Rattle.base_edits.proofs.FilesAfter.{has_file}
use Rattle.base_edits.proofs.MovedPlaces.{keeps_bytes}
use Rattle.workspace_snapshot.specs.declared.change.Change.{Change}
use Rattle.refactor_rename.specs.declared.renamed.Renamed.{Renamed}
use Rattle.refactor_rename.specs.FileEdits.{AreFileEdits}
use Rattle.refactor_rename.specs.RenameEdits.{AreEditsOf}
use Rattle.refactor_plan.specs.Laws.{RenamesKeepOtherBytes}

module _ (w : Workspace) (known : Verdicts) (r : Renamed) (s : FileChanges) (are : AreEditsOf w known r s) (fit : Fits s w) (file text : List ℕ)
    (is : get w file ≡ Some text) where
  -- the file's edits are in order and lie in its text
  record AreInText (edits : List Edit) : Type 0 where
    in_order : AreInOrder 0 edits
    within : LieWithin (length text) edits

  within_text : (c : FileChange) → c.path ≡ file → HasSpans w c → LieWithin (length text) c.edits
  within_text c at h = subst (λ o. MatchOption o ⊥ (λ t. LieWithin (length t) c.edits)) (ap (get w) at ∙ is) h

  in_text : (o : Option FileChange) → change_of s file ≡ o → AreInText (edits_by o)
  in_text None e = record { in_order = tt; within = All-nil (λ (d : Edit). d.span.end ≤ length text) }
  in_text (Some c) e =
      let found = change_found s.changed file c e in
      let source = are.only c found.0 in
      let here : AreFileEdits source.source r (edits_by (Some c)) =
      subst (λ o. AreFileEdits source.source r (edits_by o)) (ap (change_of s) (source.of_path ∙ found.1) ∙ e) (are.each source.source source.is_source) in
      record { in_order = here.end_by.in_order; within = within_text c found.1 (All-contains (HasSpans w) s.changed c fit.there found.0) }

  -- and it stays where it is
  same_text : (t : List ℕ) → drop 0 t ≡ t
  same_text t = refl

  stays_there : (o : Option FileChange) → change_of s file ≡ o → file_by o (file, text) ≡ Some (file, edited_text (edits_by o) text)
  stays_there None e = ap (λ t. Some (file, t)) (sym (same_text text))
  stays_there (Some c) e =
      let found = change_found s.changed file c e in
      ap (λ fate. option_map {U = List ℕ × List ℕ} (λ p. (p, edited_text c.edits text)) (path_by fate file)) (are.only c found.0).stays

  new_there : get (edited s w) file ≡ Some (edited_text (edits_by (change_of s file)) text)
  new_there = has_file s w fit file (edited_text (edits_by (change_of s file)) text) (inr (file, text, is, stays_there (change_of s file) refl))

  pub bytes_kept : (start end : ℕ) → start < end → end ≤ length text → AreUntouched (edits_by (change_of s file)) start end → (new : List ℕ) ×
      ((get (edited s w) file ≡ Some new) ×
      (slice_range new (moved_offset (edits_by (change_of s file)) start) (moved_offset (edits_by (change_of s file)) start + (end - start)) ≡ slice_range
      text start end))
  bytes_kept start end some within kept =
      let edits = edits_by (change_of s file) in
      let h = in_text (change_of s file) refl in
      (edited_text edits text, (new_there, keeps_bytes edits text start end h.in_order h.within some within kept))

pub renames_keep : RenamesKeepOtherBytes
renames_keep snapshot path offset name change planned file text is start end some within kept =
    let renamed = planned.1 in
    let rename = renamed.renaming.edits.edits in
    let h = bytes_kept snapshot.files renamed.renaming.may.renamable.asked.known rename.renamed change.edits rename.edits renamed.fit_files file text is
    start end some within kept in
    record {
      new = h.0;
      there = ap (λ (c : Change). get c.files file) renamed.is_change ∙ h.1.0;
      kept = h.1.1;
    }
