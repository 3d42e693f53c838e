-- The files after an edit set that adds none and leaves each at its path.
use Rattle.std.proofs.Common.{◌≡◌, ◌==◌, ℕ, Bool, true, false, cond, List, [], ◌∷◌, Option, Some, None, inl, inr, refl, sym, ap, ◌∙◌, subst}
use Rattle.std.specs.Prelude.{Contains, unwrap_or}
use Rattle.std.specs.FinMap.{get}
use Rattle.std.specs.Option.{option_map}
use Rattle.std.proofs.lemmas.Option.{same_Some}
use Rattle.std.specs.Cmp.Lexicographic.{bytes_decides, pointwise}
use Rattle.base_lemmas.proofs.Elements.{first_or_later, nothing_in}
use Rattle.base_files.specs.Workspace.{Workspace}
use Rattle.base_files.specs.declared.place.Place.{Place}
use Rattle.base_edits.specs.Edits.{edited_text}
use Rattle.base_edits.specs.EditSet.{FileChanges, change_of, edited, file_after, file_by, path_by}
use Rattle.base_edits.specs.Fits.{Fits, path_after, path_by_change}
use Rattle.base_edits.specs.Moved.{edits_by, moved, moved_offset}
use Rattle.base_edits.specs.declared.change.FileChange.{FileChange}
use Rattle.base_edits.specs.declared.edit.Edit.{Edit}
use Rattle.base_edits.specs.declared.change.Fate.TheVariants.{Stays}
use Rattle.base_edits.proofs.Changes.{change_found}
use Rattle.base_edits.proofs.FilesAfter.{ComesFrom, IsOldFile, comes_from, has_file}
use Rattle.law_gained_names.specs.FilesInTwoSteps.{EditsOneFile, one_change}

-- a text after the edits of the file at its path
abbrev pub text_after : FileChanges → List ℕ → List ℕ → List ℕ
text_after s path text = edited_text (edits_by (change_of s path)) text

module _ (s : FileChanges) (none_added : s.added ≡ []) (stay : (c : FileChange) → Contains s.changed c → c.fate ≡ Stays) where
  same_path_by : (path : List ℕ) (o : Option FileChange) → change_of s path ≡ o → path_by_change o path ≡ Some path
  same_path_by path None e = refl
  same_path_by path (Some c) e = ap (λ fate. path_by fate path) (stay c (change_found s.changed path c e).0)

  pub same_path_after : (path : List ℕ) → path_after s path ≡ Some path
  same_path_after path = same_path_by path (change_of s path) refl

  pub moved_there : (place : Place) → moved s place ≡
      record { path = place.path; offset = moved_offset (edits_by (change_of s place.path)) place.offset }
  moved_there place =
      ap (λ (o : Option (List ℕ)). record { path = unwrap_or o place.path; offset = moved_offset (edits_by (change_of s place.path)) place.offset })
      (same_path_after place.path)

  file_is_by : (path text : List ℕ) (o : Option FileChange) → change_of s path ≡ o → file_by o (path, text) ≡ Some (path, edited_text (edits_by o) text)
  file_is_by path text None e = refl
  file_is_by path text (Some c) e =
      ap (λ fate. option_map {U = List ℕ × List ℕ} (λ p. (p, edited_text c.edits text)) (path_by fate path)) (stay c (change_found s.changed path c e).0)

  file_is : (path text : List ℕ) → file_after s (path, text) ≡ Some (path, text_after s path text)
  file_is path text = file_is_by path text (change_of s path) refl

  module _ (w : Workspace) (fits : Fits s w) where
    pub file_then : (path text : List ℕ) → get w path ≡ Some text → get (edited s w) path ≡ Some (text_after s path text)
    file_then path text is = has_file s w fits path (text_after s path text) (inr (path, text, is, file_is path text))

    from_old : (path text : List ℕ) → IsOldFile s w path text → (old : List ℕ) × ((get w path ≡ Some old) × (text ≡ text_after s path old))
    from_old path text (old, before, is, e) =
        let pair : (path, text) ≡ (old, text_after s old before) = same_Some (path, text) (old, text_after s old before) (sym e ∙ file_is old before) in
        let same : path ≡ old = ap (λ (x : List ℕ × List ℕ). x.0) pair in
        (before, (ap (get w) same ∙ is, ap (λ (x : List ℕ × List ℕ). x.1) pair ∙ ap (λ p. text_after s p before) (sym same)))

    pub file_before : (path text : List ℕ) → get (edited s w) path ≡ Some text →
        (old : List ℕ) × ((get w path ≡ Some old) × (text ≡ text_after s path old))
    file_before path text is = by_kind (comes_from s w path text is)
      where
        by_kind : ComesFrom s w path text → (old : List ℕ) × ((get w path ≡ Some old) × (text ≡ text_after s path old))
        by_kind (inl has) = absurd (nothing_in (path, text) (subst (λ xs. Contains xs (path, text)) none_added has))
        by_kind (inr h) = from_old path text h

-- an edit set with one change

module _ (path : List ℕ) (edits : List Edit) where
  abbrev change : FileChange
  change = record { path = path; edits = edits; fate = Stays }

  other_path : (other : List ℕ) → (other ≡ path → ⊥) → (b : Bool) → pointwise ◌==◌ path other ≡ b → edits_by (cond b (Some change) None) ≡ []
  other_path other apart true e = absurd (apart (sym ((bytes_decides path other).0 e)))
  other_path other apart false e = refl

  pub edits_one : EditsOneFile (one_change path edits) path edits
  edits_one = record {
    none_added = refl;
    stay = λ c has. elim (first_or_later change [] c has) [
      | inl same ↦ ap (λ (x : FileChange). x.fate) (sym same)
      | inr later ↦ absurd (nothing_in c later)
    ];
    here = ap (λ b. edits_by (cond b (Some change) None)) ((bytes_decides path path).1 refl);
    others = λ other apart. other_path other apart (pointwise ◌==◌ path other) refl;
  }
