-- Files at paths that an edit set does not name are equal before and after it.
use Rattle.std.proofs.Common.{◌≡◌, ℕ, ◌+◌, ◌<◌, ◌⊎◌, inl, inr, List, [], ◌∷◌, ◌++◌, length, take, get_or, Option, Some, None, Bor, refl, sym, ap, subst}
use Rattle.std.proofs.Common.{◌∙◌, ⊎_elim}
use Rattle.std.specs.List.{Contains}
use Rattle.std.specs.FinMap.{get}
use Rattle.std.proofs.lemmas.List.{map_push, take_more}
use Rattle.std.proofs.lemmas.List.Elements.{Contains-append_left, Contains-push, Contains-push_cases}
use Rattle.std.proofs.lemmas.Option.{none-some, same_Some}
use Rattle.base_files.specs.Workspace.{Workspace}
use Rattle.base_edits.specs.EditSet.{FileChanges, path_by, change_of, file_by, edited}
use Rattle.base_edits.specs.Fits.{Fits, new_path}
use Rattle.base_edits.specs.declared.change.FileChange.{FileChange}
use Rattle.base_edits.specs.declared.change.Fate.{Fate}
use Rattle.base_edits.specs.declared.change.Fate.TheVariants.{Stays, Moves, Dropped}
use Rattle.base_edits.proofs.Changes.{change_found, path_of_file}
use Rattle.base_edits.proofs.FilesAfter.{IsOldFile, comes_from, has_file}
use Rattle.workspace_graph.specs.Borrows.{names}
use Rattle.workspace_graph.specs.SameGoFiles.{DiffersOnlyAt}
use Rattle.workspace_snapshot.specs.Made.{IsMadeByEdits}
use Rattle.workspace_snapshot.specs.declared.change.Change.{Change}
use Rattle.workspace_snapshot.specs.Named.{AddsEachPath, HasAll, NamesPath, IsPathOfChange}

-- ---- one path more
pub adds_path : (old new : List (Bor (List ℕ))) (k : Bor (List ℕ)) → new ≡ old ++ k ∷ [] → AddsEachPath (λ p. k.now ≡ p) (names old) (names new)
adds_path old new k is =
    subst (AddsEachPath (λ p. k.now ≡ p) (names old)) (sym (ap names is ∙ map_push (λ (path : Bor (List ℕ)). path.now) old k)) (record {
      kept = λ p has. Contains-append_left (names old) (k.now ∷ []) p has;
      each = λ p same. subst (Contains (names old ++ k.now ∷ [])) same (Contains-push (names old) k.now);
    })

-- ---- several
pub adds_none : (P : List ℕ → Type 0) (old : List (List ℕ)) → ((p : List ℕ) → P p → ⊥) → AddsEachPath P old old
adds_none P old none = record { kept = λ f has. has; each = λ p is. absurd (none p is) }

pub adds_more : (P Q S : List ℕ → Type 0) (a b c : List (List ℕ)) → ((p : List ℕ) → S p → P p ⊎ Q p) → AddsEachPath P a b → AddsEachPath Q b c →
    AddsEachPath S a c
adds_more P Q S a b c cases first second = record {
  kept = λ f has. second.kept f (first.kept f has);
  each = λ p is. ⊎_elim (λ (x : P p). second.kept p (first.each p x)) (λ (y : Q p). second.each p y) (cases p is);
}

pub adds_fewer : (P Q : List ℕ → Type 0) (a b : List (List ℕ)) → ((p : List ℕ) → Q p → P p) → AddsEachPath P a b → AddsEachPath Q a b
adds_fewer P Q a b gives adds = record { kept = adds.kept; each = λ p is. adds.each p (gives p is) }

-- ---- the paths of one change
pub change_stays : (c : FileChange) (old new : List (List ℕ)) → new_path c.fate ≡ None → AddsEachPath (λ p. c.path ≡ p) old new →
    AddsEachPath (IsPathOfChange c) old new
change_stays c old new none adds = adds_fewer (λ p. c.path ≡ p) (IsPathOfChange c) old new
    (λ p named. ⊎_elim (λ (same : c.path ≡ p). same) (λ (to : new_path c.fate ≡ Some p). absurd (none-some p (sym none ∙ to))) named)
    adds

pub change_moves : (c : FileChange) (to : List ℕ) (a b d : List (List ℕ)) → new_path c.fate ≡ Some to → AddsEachPath (λ p. c.path ≡ p) a b →
    AddsEachPath (λ p. to ≡ p) b d
    → AddsEachPath (IsPathOfChange c) a d
change_moves c to a b d is first second = adds_more (λ p. c.path ≡ p) (λ p. to ≡ p) (IsPathOfChange c) a b d
    (λ p named. ⊎_elim (λ (same : c.path ≡ p). inl same) (λ (goes : new_path c.fate ≡ Some p). inr (same_Some to p (sym is ∙ goes))) named)
    first second

-- one more of a list
pub one_more : {X : Type 0} (R : X → List ℕ → Type 0) (xs : List X) (i : ℕ) (item : X) → i < length xs → item ≡ get_or xs i item → (p : List ℕ)
    → ((x : X) × (Contains (take (i + 1) xs) x × R x p)) → ((x : X) × (Contains (take i xs) x × R x p)) ⊎ R item p
one_more {X} R xs i item below is p w = ⊎_elim
    (λ (old : Contains (take i xs) w.0). inl (w.0, (old, w.1.1)))
    (λ (same : get_or xs i item ≡ w.0). inr (subst (λ (x : X). R x p) (sym (is ∙ same)) w.1.1))
    (Contains-push_cases (take i xs) (get_or xs i item) w.0 (subst (λ (l : List X). Contains l w.0) (take_more xs i item below) w.1.0))

-- ---- a path that no change names
module _ (s : FileChanges) (w : Workspace) (path : List ℕ) (apart : NamesPath s path → ⊥) where
  not_changed : (c : FileChange) → Contains s.changed c → c.path ≡ path → ⊥
  not_changed c has at = apart (inl (c, (has, inl at)))

  not_moved : (c : FileChange) → Contains s.changed c → new_path c.fate ≡ Some path → ⊥
  not_moved c has to = apart (inl (c, (has, inr to)))

  unchanged : (o : Option FileChange) → change_of s path ≡ o → (text : List ℕ) → file_by o (path, text) ≡ Some (path, text)
  unchanged None is text = refl
  unchanged (Some c) is text = let found = change_found s.changed path c is in absurd (not_changed c found.0 found.1)

  -- where a file comes to the path, the path is a target of its change
  moves_to : (fate : Fate) (old : List ℕ) → path_by fate old ≡ Some path → (old ≡ path) ⊎ (new_path fate ≡ Some path)
  moves_to Stays old is = inl (same_Some old path is)
  moves_to (Moves new) old is = inr is
  moves_to Dropped old is = absurd (none-some path is)

  came : (o : Option FileChange) (old before text : List ℕ) → change_of s old ≡ o → file_by o (old, before) ≡ Some (path, text) → (old ≡ path) × (before ≡ text)
  came None old before text is file =
      let same = same_Some (old, before) (path, text) file in
      (ap (λ (e : List ℕ × List ℕ). e.0) same, ap (λ (e : List ℕ × List ℕ). e.1) same)
  came (Some c) old before text is file =
      let found = change_found s.changed old c is in
      ⊎_elim
      (λ (same : old ≡ path). absurd (not_changed c found.0 (found.1 ∙ same)))
      (λ (to : new_path c.fate ≡ Some path). absurd (not_moved c found.0 to))
      (moves_to c.fate old (path_of_file (Some c) old before path text file))

  old_there : (text : List ℕ) → IsOldFile s w path text → get w path ≡ Some text
  old_there text o =
      let same = came (change_of s o.0) o.0 o.1 text refl o.3 in
      ap (get w) (sym same.0) ∙ o.2 ∙ ap Some same.1

  there_before : (text : List ℕ) → get (edited s w) path ≡ Some text → get w path ≡ Some text
  there_before text is = ⊎_elim
      (λ (new : Contains s.added (path, text)). absurd (apart (inr ((path, text), (new, refl)))))
      (λ (o : IsOldFile s w path text). old_there text o)
      (comes_from s w path text is)

  there_after : Fits s w → (text : List ℕ) → get w path ≡ Some text → get (edited s w) path ≡ Some text
  there_after fits text is = has_file s w fits path text (inr (path, text, is, unchanged (change_of s path) refl text))

pub one_option : (x y : Option (List ℕ)) → ((t : List ℕ) → x ≡ Some t → y ≡ Some t) → ((t : List ℕ) → y ≡ Some t → x ≡ Some t) → x ≡ y
one_option None None f g = refl
one_option None (Some t) f g = absurd (none-some t (g t refl))
one_option (Some t) y f g = sym (f t refl)

pub differs_only_at : (s : FileChanges) (w : Workspace) → Fits s w → (paths : List (List ℕ)) → HasAll (NamesPath s) paths →
    DiffersOnlyAt paths w (edited s w)
differs_only_at s w fits paths holds path go apart =
    let not_named : NamesPath s path → ⊥ = λ named. apart (holds path named) in
    one_option (get (edited s w) path) (get w path) (λ t. there_before s w path not_named t) (λ t. there_after s w path not_named fits t)

-- the same of a change whose files are made
pub made_differs : (change : Change) → IsMadeByEdits change → (paths : List (List ℕ)) → HasAll (NamesPath change.edits) paths →
    DiffersOnlyAt paths change.base change.files
made_differs change made paths holds =
    subst (DiffersOnlyAt paths change.base) (sym made.files) (differs_only_at change.edits change.base made.fits paths holds)
