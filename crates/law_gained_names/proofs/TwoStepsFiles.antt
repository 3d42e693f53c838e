-- Both ways lead to the same files, and move each place to the same place.
use Rattle.std.proofs.Common.{◌≡◌, ℕ, ◌+◌, ◌-◌, ◌⊎◌, inl, inr, Bool, true, false, List, [], Some, refl, sym, ap, ◌∙◌, arith}
use Rattle.std.specs.Prelude.{IsSome, find}
use Rattle.std.specs.FinMap.{get}
use Rattle.std.specs.Ordering.{eq_by_cmp}
use Rattle.std.proofs.lemmas.Bool.{true≢false}
use Rattle.base_files.specs.Workspace.{Workspace, path_cmp}
use Rattle.base_files.specs.declared.place.Place.{Place}
use Rattle.base_edits.specs.Edits.{edited_text}
use Rattle.base_edits.specs.EditSet.{FileChanges, change_of, edited}
use Rattle.base_edits.specs.Moved.{edits_by, moved, moved_offset}
use Rattle.base_edits.specs.RevisionsOfEdits.{new_name_at, replaces_at, text_or}
use Rattle.base_edits.specs.declared.edit.Edit.{Edit}
use Rattle.base_edits.proofs.Entries.{exact_path, same_files, same_path, some_is}
use Rattle.law_gained_names.specs.FilesInTwoSteps.{AreTwoSteps, CallsInTwoSteps, FilesInTwoSteps, PlacesInTwoSteps}
use Rattle.law_gained_names.specs.TwoSteps.{NamesInTwoSteps, NamingEdits, OffsetsInTwoSteps, TextsInTwoSteps, at_once, first_step, second_step}
use Rattle.law_gained_names.proofs.Names.{names_in_two_steps}
use Rattle.law_gained_names.proofs.TwoStepsOffsets.{offsets_in_two_steps}
use Rattle.law_gained_names.proofs.Staying.{file_before, file_then, moved_there, text_after}
use Rattle.law_gained_names.proofs.Texts.{texts_in_two_steps}

-- two paths are the same or not
cases_path : (a b : List ℕ) → (a ≡ b) ⊎ (a ≡ b → ⊥)
cases_path a b = by_test (eq_by_cmp path_cmp a b) refl
  where
    by_test : (t : Bool) → eq_by_cmp path_cmp a b ≡ t → (a ≡ b) ⊎ (a ≡ b → ⊥)
    by_test true e = inl (exact_path a b e)
    by_test false e = inr (λ same. true≢false (sym (same_path a b same) ∙ e))

none_moved : (offset : ℕ) → moved_offset [] offset ≡ offset
none_moved offset = let e : (offset + 0) - 0 ≡ offset = omega arith in e

module _ (w : Workspace) (path : List ℕ) (n : NamingEdits) (s first second : FileChanges) (are : AreTwoSteps w path n s first second) where
  -- the edits of a file
  record EditsAt (at : List ℕ) (edits one two : List Edit) : Type 0 where
    whole : edits_by (change_of s at) ≡ edits
    first_edits : edits_by (change_of first at) ≡ one
    second_edits : edits_by (change_of second at) ≡ two

  here : (at : List ℕ) → at ≡ path → EditsAt at (at_once n) (first_step n) (second_step n)
  here at same = record {
    whole = ap (λ p. edits_by (change_of s p)) same ∙ are.whole.here;
    first_edits = ap (λ p. edits_by (change_of first p)) same ∙ are.one.here;
    second_edits = ap (λ p. edits_by (change_of second p)) same ∙ are.two.here;
  }

  elsewhere : (at : List ℕ) → (at ≡ path → ⊥) → EditsAt at [] [] []
  elsewhere at other = record {
    whole = are.whole.others at other;
    first_edits = are.one.others at other;
    second_edits = are.two.others at other;
  }

  module _ (texts : TextsInTwoSteps) where
    same_text : (at text : List ℕ) → get w at ≡ Some text → text_after second at (text_after first at text) ≡ text_after s at text
    same_text at text is = elim (cases_path at path) [
      | inl same ↦
          let e = here at same in
          ap (λ es. edited_text es (text_after first at text)) e.second_edits
          ∙ ap (λ es. edited_text (second_step n) (edited_text es text)) e.first_edits
          ∙ texts n text are.naming (are.within text (ap (get w) (sym same) ∙ is))
          ∙ ap (λ es. edited_text es text) (sym e.whole)
      | inr other ↦
          let e = elsewhere at other in
          ap (λ es. edited_text es (text_after first at text)) e.second_edits
          ∙ ap (λ es. edited_text es text) (e.first_edits ∙ sym e.whole)
    ]

    abbrev Between : Workspace
    Between = edited first w

    there : (at text : List ℕ) → get (edited s w) at ≡ Some text → get (edited second Between) at ≡ Some text
    there at text is =
        let old = file_before s are.whole.none_added are.whole.stay w are.fits at text is in
        let one = file_then first are.one.none_added are.one.stay w are.fits_first at old.0 old.1.0 in
        file_then second are.two.none_added are.two.stay Between are.fits_second at (text_after first at old.0) one
        ∙ ap Some (same_text at old.0 old.1.0 ∙ sym old.1.1)

    back : (at text : List ℕ) → get (edited second Between) at ≡ Some text → IsSome (get (edited s w) at)
    back at text is =
        let one = file_before second are.two.none_added are.two.stay Between are.fits_second at text is in
        let old = file_before first are.one.none_added are.one.stay w are.fits_first at one.0 one.1.0 in
        some_is (get (edited s w) at) (text_after s at old.0) (file_then s are.whole.none_added are.whole.stay w are.fits at old.0 old.1.0)

    pub files_agree : edited s w ≡ edited second Between
    files_agree = same_files (edited s w) (edited second Between) there back

  -- places

  abbrev offset_by : FileChanges → List ℕ → ℕ → ℕ
  offset_by t at offset = moved_offset (edits_by (change_of t at)) offset

  same_offset : OffsetsInTwoSteps → (at : List ℕ) (offset : ℕ) → offset_by s at offset ≡ offset_by second at (offset_by first at offset)
  same_offset offsets at offset = elim (cases_path at path) [
    | inl same ↦
        let e = here at same in
        ap (λ es. moved_offset es offset) e.whole
        ∙ sym (offsets n offset are.naming)
        ∙ ap (λ es. moved_offset (second_step n) (moved_offset es offset)) (sym e.first_edits)
        ∙ ap (λ es. moved_offset es (offset_by first at offset)) (sym e.second_edits)
    | inr other ↦
        let e = elsewhere at other in
        ap (λ es. moved_offset es offset) e.whole
        ∙ sym (none_moved (moved_offset [] offset))
        ∙ ap (λ es. moved_offset [] (moved_offset es offset)) (sym e.first_edits)
        ∙ ap (λ es. moved_offset es (offset_by first at offset)) (sym e.second_edits)
  ]

  moved_once : (place : Place) → moved first place ≡ record { path = place.path; offset = offset_by first place.path place.offset }
  moved_once place = moved_there first are.one.none_added are.one.stay place

  pub places_agree : OffsetsInTwoSteps → (place : Place) → moved s place ≡ moved second (moved first place)
  places_agree offsets place =
      moved_there s are.whole.none_added are.whole.stay place
      ∙ ap (λ o. record { path = place.path; offset = o }) (same_offset offsets place.path place.offset)
      ∙ sym (moved_there second are.two.none_added are.two.stay (record { path = place.path; offset = offset_by first place.path place.offset }))
      ∙ ap (moved second) (sym (moved_once place))

  -- names

  abbrev called_by : FileChanges → List ℕ → ℕ → List ℕ → List ℕ
  called_by t at offset old = text_or old (find (replaces_at offset) (edits_by (change_of t at)))

  same_name : NamesInTwoSteps → (at : List ℕ) (offset : ℕ) (old : List ℕ) → called_by s at offset old ≡ called_by second at (offset_by first at offset) old
  same_name names at offset old = elim (cases_path at path) [
    | inl same ↦
        let e = here at same in
        ap (λ es. text_or old (find (replaces_at offset) es)) e.whole
        ∙ sym (names n offset old are.naming)
        ∙ ap (λ es. text_or old (find (replaces_at (moved_offset es offset)) (second_step n))) (sym e.first_edits)
        ∙ ap (λ es. text_or old (find (replaces_at (offset_by first at offset)) es)) (sym e.second_edits)
    | inr other ↦
        let e = elsewhere at other in
        ap (λ es. text_or old (find (replaces_at offset) es)) e.whole
        ∙ ap (λ es. text_or old (find (replaces_at (offset_by first at offset)) es)) (sym e.second_edits)
  ]

  pub names_agree : NamesInTwoSteps → (place : Place) (old : List ℕ) → new_name_at s place old ≡ new_name_at second (moved first place) old
  names_agree names place old =
      same_name names place.path place.offset old
      ∙ ap (λ (z : Place). new_name_at second z old) (sym (moved_once place))

pub files_in_two_steps : FilesInTwoSteps
files_in_two_steps w path n s first second are = files_agree w path n s first second are texts_in_two_steps

pub places_in_two_steps : PlacesInTwoSteps
places_in_two_steps w path n s first second are = places_agree w path n s first second are offsets_in_two_steps

pub calls_in_two_steps : CallsInTwoSteps
calls_in_two_steps w path n s first second are = names_agree w path n s first second are names_in_two_steps
