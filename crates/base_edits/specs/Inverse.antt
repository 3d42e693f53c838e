-- The inverse of an edit set: the changes that take it back.
use Rattle.std.specs.Prelude.{◌≡◌, ℕ, ◌+◌, ◌-◌, List, [], ◌∷◌, ◌++◌, length, map, Option, Some, None}
use Rattle.std.specs.Option.{option_and_then}
use Rattle.std.specs.List.{slice_range, filter_map, All, Contains}
use Rattle.std.specs.FinMap as files
use Rattle.base_files.specs.Workspace.{Workspace}
use Rattle.base_edits.specs.Edits.{AreInOrder}
use Rattle.base_edits.specs.EditSet.{FileChanges, edited}
use Rattle.base_edits.specs.Fits.{Fits}
use Rattle.base_edits.specs.declared.edit.Edit.{Edit}
use Rattle.base_edits.specs.declared.change.FileChange.{FileChange}
use Rattle.base_edits.specs.declared.change.Fate.{Fate}
use Rattle.base_edits.specs.declared.change.Fate.TheVariants.{Stays, Moves, Dropped}

-- The edits of the new text that restore the old one, from an edit boundary on. The boundary is offset `at` in the old text and `new` in
-- the new one.
abbrev pub reversed_from : ℕ → ℕ → List Edit → List ℕ → List Edit
reversed_from at new [] text = []
reversed_from at new (e ∷ edits) text =
    let start = new + (e.span.start - at) in
    record { span = record { start = start; end = start + length e.text }; text = slice_range text e.span.start e.span.end }
    ∷ reversed_from e.span.end (start + length e.text) edits text

-- The edits of the new text that restore the old text.
abbrev pub reversed : List Edit → List ℕ → List Edit
reversed = reversed_from 0 0

-- The change that takes back a change of the file at `path`, with the given edits. `None` for a dropped file, which has to be added again.
abbrev pub undo_by : Fate → List ℕ → List Edit → Option FileChange
undo_by Stays path edits = Some (record { path = path; edits = edits; fate = Stays })
undo_by (Moves new) path edits = Some (record { path = new; edits = edits; fate = Moves path })
undo_by Dropped path edits = None

-- The change that takes back a change of a file of the workspace `w`. `None` where the file is dropped or is not in `w`.
abbrev pub undo_of : Workspace → FileChange → Option FileChange
undo_of w c = option_and_then (λ text. undo_by c.fate c.path (reversed c.edits text)) (files.get w c.path)

-- The file, as path and text, if its fate is to be dropped.
abbrev pub drop_by : Fate → List ℕ × List ℕ → Option (List ℕ × List ℕ)
drop_by Stays file = None
drop_by (Moves new) file = None
drop_by Dropped file = Some file

-- The file, as path and text, that a change drops from the workspace `w`, if it drops one.
abbrev pub drop_of : Workspace → FileChange → Option (List ℕ × List ℕ)
drop_of w c = option_and_then (λ text. drop_by c.fate (c.path, text)) (files.get w c.path)

-- The change that drops a file again that was added.
abbrev pub dropped : List ℕ × List ℕ → FileChange
dropped file = record { path = file.0; edits = []; fate = Dropped }

-- The inverse of an edit set on the workspace `w`: the changes that lead from the files after it back to those of `w`.
abbrev pub inverse : FileChanges → Workspace → FileChanges
inverse s w = record {
  changed = filter_map (undo_of w) s.changed ++ map dropped s.added;
  added = filter_map (drop_of w) s.changed;
}

-- No two changes are of one file, and the edits of each file are in order.
pub record AreChanges (s : FileChanges) : Type 0 where
  pub in_order : All (λ c. AreInOrder 0 c.edits) s.changed
  pub one_way : (one other : FileChange) → Contains s.changed one → Contains s.changed other → one.path ≡ other.path → one ≡ other

-- The changes fit the workspace `after`, and make of it the workspace `before`.
pub record IsInverse (s : FileChanges) (after before : Workspace) : Type 0 where
  pub fits : Fits s after
  pub back : edited s after ≡ before
