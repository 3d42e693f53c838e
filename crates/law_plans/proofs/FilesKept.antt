-- A file after edits that fit: its path, and the bytes that no edit touches.
use Rattle.std.proofs.Common.{◌≡◌, ℕ, ◌+◌, ◌-◌, ◌<◌, ◌≤◌, inr, List, length, Option, Some, None, refl, ap, subst, ◌∙◌}
use Rattle.std.specs.List.{slice_range}
use Rattle.std.specs.FinMap.{get}
use Rattle.std.specs.Option.{option_map, MatchOption}
use Rattle.std.proofs.lemmas.List.Elements.{All-nil, All-contains}
use Rattle.std.proofs.lemmas.Option.{same_Some}
use Rattle.base_files.specs.Workspace.{Workspace}
use Rattle.base_edits.specs.Edits.{AreInOrder, LieWithin, edited_text}
use Rattle.base_edits.specs.EditSet.{FileChanges, change_of, file_by, edited}
use Rattle.base_edits.specs.Fits.{HasSpans, Fits, path_by_change, path_after}
use Rattle.base_edits.specs.Laws.{AreUntouched}
use Rattle.base_edits.specs.Moved.{moved_offset, edits_by}
use Rattle.base_edits.specs.declared.edit.Edit.{Edit}
use Rattle.base_edits.specs.declared.change.FileChange.{FileChange}
use Rattle.base_edits.proofs.Changes.{change_found}
use Rattle.base_edits.proofs.FilesAfter.{has_file}
use Rattle.base_edits.proofs.MovedPlaces.{keeps_bytes}

-- the file that a change makes, at its new path
file_made : (o : Option FileChange) (old before path : List ℕ) → path_by_change o old ≡ Some path →
    file_by o (old, before) ≡ Some (path, edited_text (edits_by o) before)
file_made None old before path h = ap (λ (p : List ℕ). Some (p, before)) (same_Some old path h)
file_made (Some c) old before path h = ap (option_map {U = List ℕ × List ℕ} (λ p. (p, edited_text c.edits before))) h

module _ (w : Workspace) (s : FileChanges) (fit : Fits s w) (file text : List ℕ) (is : get w file ≡ Some text) where
  within_text : (c : FileChange) → c.path ≡ file → HasSpans w c → LieWithin (length text) c.edits
  within_text c at h = subst (λ o. MatchOption o ⊥ (λ t. LieWithin (length t) c.edits)) (ap (get w) at ∙ is) h

  within : (o : Option FileChange) → change_of s file ≡ o → LieWithin (length text) (edits_by o)
  within None e = All-nil (λ (d : Edit). d.span.end ≤ length text)
  within (Some c) e =
      let found = change_found s.changed file c e in
      within_text c found.1 (All-contains (HasSpans w) s.changed c fit.there found.0)

  -- the file's edits lie in its text
  pub edits_within : LieWithin (length text) (edits_by (change_of s file))
  edits_within = within (change_of s file) refl

  -- the file after the edits, at its new path
  pub file_there : (path : List ℕ) → path_after s file ≡ Some path → get (edited s w) path ≡ Some (edited_text (edits_by (change_of s file)) text)
  file_there path goes =
      has_file s w fit path (edited_text (edits_by (change_of s file)) text) (inr (file, text, is, file_made (change_of s file) file text path goes))

  -- bytes that no edit touches
  pub bytes_stay : AreInOrder 0 (edits_by (change_of s file)) → (start end : ℕ) → start < end → end ≤ length text →
      AreUntouched (edits_by (change_of s file)) start end →
      slice_range (edited_text (edits_by (change_of s file)) text) (moved_offset (edits_by (change_of s file)) start)
      (moved_offset (edits_by (change_of s file)) start + (end - start)) ≡ slice_range text start end
  bytes_stay order start end some ends kept = keeps_bytes (edits_by (change_of s file)) text start end order edits_within some ends kept
