-- The changes of files in the order of their paths.
use Rattle.std.proofs.Common.{ℕ, ◌≡◌, ◌⊎◌, inl, inr, Global, List, [], ◌∷◌, ◌++◌, Option, Some, None, refl, sym, ap, subst, ◌∙◌}
use Rattle.std.proofs.Common.{⊎_elim}
use Rattle.std.specs.Prelude.{Contains, map, Ok, Err}
use Rattle.std.specs.FinMap.{entries}
use Rattle.std.specs.List.{AllByRecursion}
use Rattle.std.specs.Option.{option_to_list}
use Rattle.std.specs.List.Sorted.{IsStrictlySortedBy}
use Rattle.std.specs.declared.cmp.Ordering.TheVariants.{Less}
use Rattle.std.proofs.lemmas.List.{append_assoc, append-nil}
use Rattle.std.proofs.lemmas.List.Elements.{Contains-append_right}
use Rattle.base_lemmas.proofs.Elements.{nothing_in, first_in, later_in, first_or_later}
use Rattle.base_files.specs.Workspace.{Workspace, path_cmp}
use Rattle.base_files.specs.declared.refusal.Refusal.{Refusal}
use Rattle.base_files.specs.declared.refusal.Refusal.TheVariants.{Memory, TooLarge}
use Rattle.base_edits.specs.EditSet.{paths_of, change_in}
use Rattle.base_edits.specs.declared.change.FileChange.{FileChange}
use Rattle.base_edits.specs.declared.edit.Edit.{Edit}
use Rattle.base_edits.proofs.Changes.{change_found, change_held}
use Rattle.base_edits.proofs.Entries.{none_from}
use Rattle.base_edits.proofs.Searched.{one_way_sorted}
use Rattle.refactor_rename.proofs.Sources.{entries_in_order}
use Rattle.refactor_move.specs.declared.moved.Moved.{Moved}
use Rattle.refactor_move.specs.Paths.{IsUnder}
use Rattle.refactor_move.specs.Changes.{MovesOrEdits}
use Rattle.refactor_move.specs.PathSteps.{FindsNewPath}
use Rattle.refactor_move.specs.Steps.{EditMap, edits_found, change_by, FindsChange, FindsChanges, AreChangesOf, none, kept, changed}

abbrev pub Files : Type 0
Files = List (List ℕ × List ℕ)

-- one more file

kept_more : (m : Moved) (edits : EditMap) (e : List ℕ × List ℕ) → (IsUnder m.from e.0 → ⊥) → edits_found edits e.0 ≡ [] →
    {es : Files} {cs : List FileChange} → AreChangesOf m edits es cs → AreChangesOf m edits (es ++ e ∷ []) cs
kept_more m edits e outside empty none = kept outside empty none
kept_more m edits e outside empty (kept a b rest) = kept a b (kept_more m edits e outside empty rest)
kept_more m edits e outside empty (changed a b c rest) = changed a b c (kept_more m edits e outside empty rest)

changed_more : (m : Moved) (edits : EditMap) (e : List ℕ × List ℕ) (c : FileChange) → c.path ≡ e.0 → c.edits ≡ edits_found edits e.0 → MovesOrEdits m c →
    {es : Files} {cs : List FileChange} → AreChangesOf m edits es cs → AreChangesOf m edits (es ++ e ∷ []) (cs ++ c ∷ [])
changed_more m edits e c path has moves none = changed path has moves none
changed_more m edits e c path has moves (kept a b rest) = kept a b (changed_more m edits e c path has moves rest)
changed_more m edits e c path has moves (changed a b d rest) = changed a b d (changed_more m edits e c path has moves rest)

-- one change

pub told_change : (m : Moved) (path : List ℕ) (edits : List Edit) (new : Option (List ℕ)) → FindsNewPath m path (Ok new) →
    FindsChange m path edits (Ok (change_by path edits new))
told_change m path [] None h = (h, refl)
told_change m path (e ∷ es) None h = (refl, refl, inr (h, (refl, λ empty. cc)))
told_change m path edits (Some new) h = (refl, refl, inl (new, (h, refl)))

pub change_refused : (m : Moved) (path : List ℕ) (edits : List Edit) (r : Refusal) → FindsNewPath m path (Err r) → FindsChange m path edits (Err r)
change_refused m path edits TooLarge h = h
change_refused m path edits Memory h = h
change_refused m path edits _ h = h

-- the files so far, with those that are left

pub record ChangesSoFar (m : Moved) (edits : EditMap) (all left : Files) (cs : List FileChange) : Type 0 where
  pub passed : Files
  pub parts : passed ++ left ≡ all
  pub are : AreChangesOf m edits passed cs

pub none_so_far : (m : Moved) (edits : EditMap) (all left : Files) (cs : List FileChange) → left ≡ all → cs ≡ [] → ChangesSoFar m edits all left cs
none_so_far m edits all left cs e empty = record { passed = []; parts = e; are = subst (AreChangesOf m edits []) (sym empty) none }

parts_next : (passed rest all : Files) (e : List ℕ × List ℕ) → passed ++ (e ∷ rest) ≡ all → (passed ++ e ∷ []) ++ rest ≡ all
parts_next passed rest all e h = append_assoc passed (e ∷ []) rest ∙ h

pub kept_next : (m : Moved) (edits : EditMap) (all left rest : Files) (cs : List FileChange) (e : List ℕ × List ℕ) → left ≡ e ∷ rest →
    FindsChange m e.0 (edits_found edits e.0) (Ok None) → ChangesSoFar m edits all left cs → ChangesSoFar m edits all rest cs
kept_next m edits all left rest cs e is told h = record {
  passed = h.passed ++ e ∷ [];
  parts = parts_next h.passed rest all e (ap (λ l. h.passed ++ l) (sym is) ∙ h.parts);
  are = kept_more m edits e told.0 told.1 h.are;
}

pub changed_next : (m : Moved) (edits : EditMap) (all left rest : Files) (cs ds : List FileChange) (e : List ℕ × List ℕ) (c : FileChange) →
    left ≡ e ∷ rest → ds ≡ cs ++ c ∷ [] → FindsChange m e.0 (edits_found edits e.0) (Ok (Some c)) → ChangesSoFar m edits all left cs →
    ChangesSoFar m edits all rest ds
changed_next m edits all left rest cs ds e c is pushed told h = record {
  passed = h.passed ++ e ∷ [];
  parts = parts_next h.passed rest all e (ap (λ l. h.passed ++ l) (sym is) ∙ h.parts);
  are = subst (AreChangesOf m edits (h.passed ++ e ∷ [])) (sym pushed) (changed_more m edits e c told.0 told.1 told.2 h.are);
}

pub next_changes : (m : Moved) (edits : EditMap) (all left rest : Files) (cs ds : List FileChange) (e : List ℕ × List ℕ) (o : Option FileChange) →
    left ≡ e ∷ rest → ds ≡ cs ++ option_to_list o → FindsChange m e.0 (edits_found edits e.0) (Ok o) → ChangesSoFar m edits all left cs →
    ChangesSoFar m edits all rest ds
next_changes m edits all left rest cs ds e None is pushed told h = subst (ChangesSoFar m edits all rest) (sym (pushed ∙ append-nil cs))
    (kept_next m edits all left rest cs e is told h)
next_changes m edits all left rest cs ds e (Some c) is pushed told h = changed_next m edits all left rest cs ds e c is pushed told h

pub all_changes : (m : Moved) (edits : EditMap) (all left : Files) (cs : List FileChange) → left ≡ [] → ChangesSoFar m edits all left cs →
    AreChangesOf m edits all cs
all_changes m edits all left cs is h = subst (λ es. AreChangesOf m edits es cs) (sym (append-nil h.passed) ∙ ap (λ l. h.passed ++ l) (sym is) ∙ h.parts) h.are

-- a file that is refused

pub refused_next : (m : Moved) (edits : EditMap) (all left rest : Files) (cs : List FileChange) (e : List ℕ × List ℕ) (r : Refusal) → left ≡ e ∷ rest →
    ChangesSoFar m edits all left cs → FindsChange m e.0 (edits_found edits e.0) (Err r) → FindsChanges {Z = Global} m edits all (Err r)
refused_next m edits all left rest cs e TooLarge is h told =
    (e, (subst (λ l. Contains l e) (ap (λ l. h.passed ++ l) (sym is) ∙ h.parts) (Contains-append_right h.passed (e ∷ rest) e (first_in e rest)), told))
refused_next m edits all left rest cs e Memory is h told = told
refused_next m edits all left rest cs e _ is h told = told

-- a change is that of a file

pub record IsChangeOf (m : Moved) (edits : EditMap) (es : Files) (c : FileChange) : Type 0 where
  pub file : List ℕ × List ℕ
  pub has : Contains es file
  pub of_path : c.path ≡ file.0
  pub edits_are : c.edits ≡ edits_found edits file.0
  pub moves : MovesOrEdits m c

pub change_from : (m : Moved) (edits : EditMap) {es : Files} {cs : List FileChange} → AreChangesOf m edits es cs → (c : FileChange) → Contains cs c →
    IsChangeOf m edits es c
change_from m edits none c has = absurd (nothing_in c has)
change_from m edits (kept {e = e} {es = es} a b rest) c has =
    let h = change_from m edits rest c has in
    record { file = h.file; has = later_in e es h.file h.has; of_path = h.of_path; edits_are = h.edits_are; moves = h.moves }
change_from m edits (changed {e = e} {es = es} {c = d} {cs = cs} path are moves rest) c has = ⊎_elim
    (λ (same : d ≡ c). subst (IsChangeOf m edits (e ∷ es)) same (record { file = e; has = first_in e es; of_path = path; edits_are = are; moves = moves }))
    (λ (later : Contains cs c).
    let h = change_from m edits rest c later in
    record { file = h.file; has = later_in e es h.file h.has; of_path = h.of_path; edits_are = h.edits_are; moves = h.moves })
    (first_or_later d cs c has)

-- and a file has a change, or needs none

pub record HasChange (m : Moved) (edits : EditMap) (cs : List FileChange) (path : List ℕ) : Type 0 where
  pub change : FileChange
  pub has : Contains cs change
  pub of_path : change.path ≡ path
  pub edits_are : change.edits ≡ edits_found edits path
  pub moves : MovesOrEdits m change

pub record NeedsNone (m : Moved) (edits : EditMap) (path : List ℕ) : Type 0 where
  pub stays : IsUnder m.from path → ⊥
  pub empty : edits_found edits path ≡ []

pub file_cases : (m : Moved) (edits : EditMap) {es : Files} {cs : List FileChange} → AreChangesOf m edits es cs → (e : List ℕ × List ℕ) → Contains es e →
    HasChange m edits cs e.0 ⊎ NeedsNone m edits e.0
file_cases m edits none e has = absurd (nothing_in e has)
file_cases m edits (kept {e = d} {es = es} a b rest) e has = ⊎_elim
    (λ (same : d ≡ e). inr (subst (λ (x : List ℕ × List ℕ). NeedsNone m edits x.0) same (record { stays = a; empty = b })))
    (λ (later : Contains es e). file_cases m edits rest e later)
    (first_or_later d es e has)
file_cases m edits (changed {e = d} {es = es} {c = c} {cs = cs} path are moves rest) e has = ⊎_elim
    (λ (same : d ≡ e). inl (subst (λ (x : List ℕ × List ℕ). HasChange m edits (c ∷ cs) x.0) same (record {
      change = c;
      has = first_in c cs;
      of_path = path;
      edits_are = are;
      moves = moves;
    })))
    (λ (later : Contains es e). elim (file_cases m edits rest e later) [
      | inl h ↦ inl (record { change = h.change; has = later_in c cs h.change h.has; of_path = h.of_path; edits_are = h.edits_are; moves = h.moves })
      | inr h ↦ inr h
    ])
    (first_or_later d es e has)

-- the order of changes

below_changes : (m : Moved) (edits : EditMap) (q : List ℕ) {es : Files} {cs : List FileChange} → AreChangesOf m edits es cs →
    AllByRecursion (λ k. path_cmp q k ≡ Less) (map (λ e. e.0) es) → AllByRecursion (λ k. path_cmp q k ≡ Less) (paths_of cs)
below_changes m edits q none h = h
below_changes m edits q (kept a b rest) h = below_changes m edits q rest h.1
below_changes m edits q (changed path are moves rest) h = (subst (λ k. path_cmp q k ≡ Less) (sym path) h.0, below_changes m edits q rest h.1)

changes_sorted : (m : Moved) (edits : EditMap) {es : Files} {cs : List FileChange} → AreChangesOf m edits es cs →
    IsStrictlySortedBy path_cmp (map (λ e. e.0) es) → IsStrictlySortedBy path_cmp (paths_of cs)
unfolding IsStrictlySortedBy
changes_sorted m edits none h = h
changes_sorted m edits (kept a b rest) h = changes_sorted m edits rest h.1
changes_sorted m edits (changed {cs = cs} path are moves rest) h =
    (subst (λ q. AllByRecursion (λ k. path_cmp q k ≡ Less) (paths_of cs)) (sym path) (below_changes m edits _ rest h.0), changes_sorted m edits rest h.1)

pub changes_in_order : (m : Moved) (edits : EditMap) (w : Workspace) (cs : List FileChange) → AreChangesOf m edits (entries w) cs →
    IsStrictlySortedBy path_cmp (paths_of cs)
changes_in_order m edits w cs h = changes_sorted m edits h (entries_in_order w)

-- the change of a path

pub change_is : (m : Moved) (edits : EditMap) (w : Workspace) (cs : List FileChange) → AreChangesOf m edits (entries w) cs →
    (path : List ℕ) (h : HasChange m edits cs path) → change_in cs path ≡ Some h.change
change_is m edits w cs are path h = change_held cs (one_way_sorted cs (changes_in_order m edits w cs are)) path h.change h.has h.of_path

contradicts : (m : Moved) (edits : EditMap) (path : List ℕ) (c : FileChange) → NeedsNone m edits path → c.path ≡ path → c.edits ≡ edits_found edits c.path →
    MovesOrEdits m c → ⊥
contradicts m edits path c h at are (inl moves) = h.stays (moves.1.0.moved.rest, sym at ∙ moves.1.0.moved.was)
contradicts m edits path c h at are (inr stays) = stays.1.1 (are ∙ ap (edits_found edits) at ∙ h.empty)

pub change_is_none : (m : Moved) (edits : EditMap) (w : Workspace) (cs : List FileChange) → AreChangesOf m edits (entries w) cs → (path : List ℕ) →
    NeedsNone m edits path → change_in cs path ≡ None
change_is_none m edits w cs are path h = none_from (change_in cs path) (λ c found.
    let there = change_found cs path c found in
    let from = change_from m edits are c there.0 in
    contradicts m edits path c h there.1 (from.edits_are ∙ ap (edits_found edits) (sym from.of_path)) from.moves)
