-- The changes of an inverse, one by one.
use Rattle.std.proofs.Common.{◌≡◌, ℕ, List, Option, Some, None, length, refl, sym, ap, subst, ◌∙◌}
use Rattle.std.specs.Option.{option_and_then, MatchOption}
use Rattle.std.proofs.lemmas.Option.{none-some, same_Some}
use Rattle.std.specs.FinMap.{get}
use Rattle.base_files.specs.Workspace.{Workspace}
use Rattle.base_edits.specs.Edits.{LieWithin}
use Rattle.base_edits.specs.EditSet.{path_by}
use Rattle.base_edits.specs.Fits.{HasSpans}
use Rattle.base_edits.specs.Inverse.{reversed, undo_by, undo_of, drop_by, drop_of}
use Rattle.base_edits.specs.declared.edit.Edit.{Edit}
use Rattle.base_edits.specs.declared.change.FileChange.{FileChange}
use Rattle.base_edits.specs.declared.change.Fate.{Fate}
use Rattle.base_edits.specs.declared.change.Fate.TheVariants.{Stays, Moves, Dropped}

-- what is back goes the other way, with the reversed edits
pub record GoesBack (fate : Fate) (path : List ℕ) (edits : List Edit) (d : FileChange) : Type 0 where
  pub there : path_by fate path ≡ Some d.path
  pub back : path_by d.fate d.path ≡ Some path
  pub same_edits : d.edits ≡ edits

goes_back : (fate : Fate) (path : List ℕ) (edits : List Edit) (d : FileChange) → undo_by fate path edits ≡ Some d → GoesBack fate path edits d
goes_back Stays path edits d h = subst (GoesBack Stays path edits) (same_Some (record { path = path; edits = edits; fate = Stays }) d h)
    (record { there = refl; back = refl; same_edits = refl })
goes_back (Moves new) path edits d h = subst (GoesBack (Moves new) path edits) (same_Some (record { path = new; edits = edits; fate = Moves path }) d h)
    (record { there = refl; back = refl; same_edits = refl })
goes_back Dropped path edits d h = absurd (none-some d h)

some_back : (fate : Fate) (path new : List ℕ) (edits : List Edit) → path_by fate path ≡ Some new → (d : FileChange) × (undo_by fate path edits ≡ Some d)
some_back Stays path new edits h = (record { path = path; edits = edits; fate = Stays }, refl)
some_back (Moves to) path new edits h = (record { path = to; edits = edits; fate = Moves path }, refl)
some_back Dropped path new edits h = absurd (none-some new h)

-- a change that goes back is of a file that is there
pub record IsBack (w : Workspace) (c d : FileChange) : Type 0 where
  pub before : List ℕ
  pub is : get w c.path ≡ Some before
  pub goes : GoesBack c.fate c.path (reversed c.edits before) d

back_with : (w : Workspace) (c d : FileChange) (o : Option (List ℕ)) → get w c.path ≡ o →
    option_and_then (λ text. undo_by c.fate c.path (reversed c.edits text)) o ≡ Some d → IsBack w c d
back_with w c d None is h = absurd (none-some d h)
back_with w c d (Some before) is h = record { before = before; is = is; goes = goes_back c.fate c.path (reversed c.edits before) d h }

pub is_back : (w : Workspace) (c d : FileChange) → undo_of w c ≡ Some d → IsBack w c d
is_back w c d h = back_with w c d (get w c.path) refl h

pub back_there : (w : Workspace) (c : FileChange) (before new : List ℕ) → get w c.path ≡ Some before → path_by c.fate c.path ≡ Some new → (d : FileChange) ×
    (undo_of w c ≡ Some d)
back_there w c before new is h =
    let r = some_back c.fate c.path new (reversed c.edits before) h in
    (r.0, ap (option_and_then (λ text. undo_by c.fate c.path (reversed c.edits text))) is ∙ r.1)

-- ---- files that are dropped
pub record IsLost (w : Workspace) (c : FileChange) (file : List ℕ × List ℕ) : Type 0 where
  pub is : get w c.path ≡ Some file.1
  pub path : c.path ≡ file.0
  pub none : path_by c.fate c.path ≡ None

lost_from : (w : Workspace) (c : FileChange) (fate : Fate) (before : List ℕ) (file : List ℕ × List ℕ) → get w c.path ≡ Some before →
    drop_by fate (c.path, before) ≡ Some file → (get w c.path ≡ Some file.1) × (c.path ≡ file.0) × (path_by fate c.path ≡ None)
lost_from w c Stays before file is h = absurd (none-some file h)
lost_from w c (Moves new) before file is h = absurd (none-some file h)
lost_from w c Dropped before file is h =
    let same = same_Some (c.path, before) file h in
    (is ∙ ap (λ (e : List ℕ × List ℕ). Some e.1) same, ap (λ (e : List ℕ × List ℕ). e.0) same, refl)

lost_with : (w : Workspace) (c : FileChange) (file : List ℕ × List ℕ) (o : Option (List ℕ)) → get w c.path ≡ o →
    option_and_then (λ text. drop_by c.fate (c.path, text)) o ≡ Some file → IsLost w c file
lost_with w c file None is h = absurd (none-some file h)
lost_with w c file (Some before) is h = let r = lost_from w c c.fate before file is h in record { is = r.0; path = r.1; none = r.2 }

pub is_lost : (w : Workspace) (c : FileChange) (file : List ℕ × List ℕ) → drop_of w c ≡ Some file → IsLost w c file
is_lost w c file h = lost_with w c file (get w c.path) refl h

dropped_lost : (fate : Fate) (file : List ℕ × List ℕ) → path_by fate file.0 ≡ None → drop_by fate file ≡ Some file
dropped_lost Stays file h = absurd (none-some file.0 (sym h))
dropped_lost (Moves new) file h = absurd (none-some new (sym h))
dropped_lost Dropped file h = refl

pub lost_there : (w : Workspace) (c : FileChange) (before : List ℕ) → get w c.path ≡ Some before → path_by c.fate c.path ≡ None →
    drop_of w c ≡ Some (c.path, before)
lost_there w c before is none = ap (option_and_then (λ text. drop_by c.fate (c.path, text))) is ∙ dropped_lost c.fate (c.path, before) none

-- ---- the spans of a change that is there
abbrev MatchThere : Option (List ℕ) → FileChange → Type 0
MatchThere o c = MatchOption o ⊥ (λ text. LieWithin (length text) c.edits)

within_by : (o : Option (List ℕ)) (c : FileChange) (before : List ℕ) → o ≡ Some before → MatchThere o c → LieWithin (length before) c.edits
within_by None c before is h = absurd (none-some before is)
within_by (Some text) c before is h = subst (λ (t : List ℕ). LieWithin (length t) c.edits) (same_Some text before is) h

pub within_there : (w : Workspace) (c : FileChange) (before : List ℕ) → get w c.path ≡ Some before → HasSpans w c → LieWithin (length before) c.edits
within_there w c before is h = within_by (get w c.path) c before is h

some_there : (o : Option (List ℕ)) (c : FileChange) → MatchThere o c → (before : List ℕ) × (o ≡ Some before)
some_there None c h = absurd h
some_there (Some text) c h = (text, refl)

pub file_there : (w : Workspace) (c : FileChange) → HasSpans w c → (before : List ℕ) × (get w c.path ≡ Some before)
file_there w c h = some_there (get w c.path) c h

there_by : (o : Option (List ℕ)) (c : FileChange) (text : List ℕ) → o ≡ Some text → LieWithin (length text) c.edits → MatchThere o c
there_by None c text is h = absurd (none-some text is)
there_by (Some t) c text is h = subst (λ (x : List ℕ). LieWithin (length x) c.edits) (sym (same_Some t text is)) h

pub is_there : (w : Workspace) (c : FileChange) (text : List ℕ) → get w c.path ≡ Some text → LieWithin (length text) c.edits → HasSpans w c
is_there w c text is h = there_by (get w c.path) c text is h
