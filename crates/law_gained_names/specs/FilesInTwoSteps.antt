-- Edit sets that put a name into one file, at once or in two steps.
use Rattle.std.specs.Prelude.{ℕ, ◌≡◌, List, [], ◌∷◌, Contains, Some, length}
use Rattle.std.specs.FinMap as files
use Rattle.base_files.specs.Workspace.{Workspace}
use Rattle.base_files.specs.declared.place.Place.{Place}
use Rattle.base_edits.specs.Edits.{AreInOrder, LieWithin, edited_text}
use Rattle.base_edits.specs.EditSet.{FileChanges, change_of, edited}
use Rattle.base_edits.specs.Fits.{Fits}
use Rattle.base_edits.specs.Moved.{edits_by, moved}
use Rattle.base_edits.specs.RevisionsOfEdits.{new_name_at}
use Rattle.base_edits.specs.declared.change.FileChange.{FileChange}
use Rattle.base_edits.specs.declared.change.Fate.TheVariants.{Stays}
use Rattle.base_edits.specs.declared.edit.Edit.{Edit}
use Rattle.law_gained_names.specs.TwoSteps.{AreNaming, NamingEdits, at_once, first_step, second_step}

-- The edit set adds no file and leaves each at its path. It makes these edits in the file at the path, and none in others.
pub record EditsOneFile (s : FileChanges) (path : List ℕ) (edits : List Edit) : Type 0 where
  pub none_added : s.added ≡ []
  pub stay : (c : FileChange) → Contains s.changed c → c.fate ≡ Stays
  pub here : edits_by (change_of s path) ≡ edits
  pub others : (other : List ℕ) → (other ≡ path → ⊥) → edits_by (change_of s other) ≡ []

-- The edit set `s` puts a name into the file at the path; the sets `first` and then `second` do so in two steps.
pub record AreTwoSteps (w : Workspace) (path : List ℕ) (n : NamingEdits) (s first second : FileChanges) : Type 0 where
  pub naming : AreNaming n
  pub within : (text : List ℕ) → files.get w path ≡ Some text → LieWithin (length text) (at_once n)
  pub whole : EditsOneFile s path (at_once n)
  pub one : EditsOneFile first path (first_step n)
  pub two : EditsOneFile second path (second_step n)
  pub fits : Fits s w
  pub fits_first : Fits first w
  pub fits_second : Fits second (edited first w)

-- Then both ways lead to the same files, move each place to the same place, and call what begins there the same.
abbrev pub FilesInTwoSteps : Type 0
FilesInTwoSteps = (w : Workspace) (path : List ℕ) (n : NamingEdits) (s first second : FileChanges) → AreTwoSteps w path n s first second →
    edited s w ≡ edited second (edited first w)

abbrev pub PlacesInTwoSteps : Type 0
PlacesInTwoSteps = (w : Workspace) (path : List ℕ) (n : NamingEdits) (s first second : FileChanges) → AreTwoSteps w path n s first second →
    (place : Place) → moved s place ≡ moved second (moved first place)

abbrev pub CallsInTwoSteps : Type 0
CallsInTwoSteps = (w : Workspace) (path : List ℕ) (n : NamingEdits) (s first second : FileChanges) → AreTwoSteps w path n s first second →
    (place : Place) (old : List ℕ) → new_name_at s place old ≡ new_name_at second (moved first place) old

-- A change of one file that leaves it at its path and makes these edits there.
abbrev pub one_change : List ℕ → List Edit → FileChanges
one_change path edits = record { changed = record { path = path; edits = edits; fate = Stays } ∷ []; added = [] }

-- Each edit set that so puts a name into a file of the workspace can be made in two steps.
abbrev pub TwoStepsExist : Type 0
TwoStepsExist = (w : Workspace) (path text : List ℕ) (n : NamingEdits) (s : FileChanges) → files.get w path ≡ Some text → AreNaming n →
    LieWithin (length text) (at_once n) → EditsOneFile s path (at_once n) → Fits s w →
    AreTwoSteps w path n s (one_change path (first_step n)) (one_change path (second_step n))

-- The edits of the second step are in order, and lie in the text after the first step.
pub record IsSecondStep (n : NamingEdits) (text : List ℕ) : Type 0 where
  pub in_order : AreInOrder 0 (second_step n)
  pub within : LieWithin (length (edited_text (first_step n) text)) (second_step n)

abbrev pub SecondStepsLieWithin : Type 0
SecondStepsLieWithin = (n : NamingEdits) (text : List ℕ) → AreNaming n → LieWithin (length text) (at_once n) → IsSecondStep n text
