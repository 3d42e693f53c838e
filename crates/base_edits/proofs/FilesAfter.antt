-- The files after an edit set that fits.
use Rattle.std.proofs.Common.{◌≡◌, ℕ, ◌⊎◌, inl, inr, List, Some, refl, sym, ap, ◌∙◌, ⊎_elim}
use Rattle.std.specs.List.{Contains, filter_map}
use Rattle.std.specs.FinMap.{entries, get, get-from_entries}
use Rattle.std.proofs.lemmas.Option.{same_Some}
use Rattle.std.proofs.lemmas.List.Elements.{Contains-append_left, Contains-append_right, Contains-append_cases}
use Rattle.base_files.specs.Workspace.{Workspace}
use Rattle.base_files.proofs.WorkspaceLaws.{path_cmp_total}
use Rattle.base_edits.specs.EditSet.{FileChanges, file_after, files_after, edited}
use Rattle.base_edits.specs.Fits.{Fits, MovesTo}
use Rattle.base_edits.specs.Laws.{HasEachFile}
use Rattle.base_edits.proofs.Held.{given_from, is_given}
use Rattle.base_edits.proofs.Entries.{found_in, some_found, entry_of, get_entry, some_is}
use Rattle.base_edits.proofs.Changes.{file_path}

-- a file of w after its change
abbrev pub IsOldFile : FileChanges → Workspace → List ℕ → List ℕ → Type 0
IsOldFile s w path text = (old before : List ℕ) × (get w old ≡ Some before) × (file_after s (old, before) ≡ Some (path, text))

abbrev pub ComesFrom : FileChanges → Workspace → List ℕ → List ℕ → Type 0
ComesFrom s w path text = Contains s.added (path, text) ⊎ IsOldFile s w path text

pub gets : (s : FileChanges) (w : Workspace) (path text : List ℕ) → (o : IsOldFile s w path text) → MovesTo s w o.0 path
gets s w path text o = (some_is (get w o.0) o.1 o.2, file_path s o.0 o.1 path text o.3)

listed_from : (s : FileChanges) (w : Workspace) (path text : List ℕ) → Contains (files_after s w) (path, text) → ComesFrom s w path text
listed_from s w path text has =
    ⊎_elim
    (λ (new : Contains s.added (path, text)). inl new)
    (λ (old : Contains (filter_map (file_after s) (entries w)) (path, text)). let r = given_from (file_after s) (entries w) (path, text) old in
    inr (r.0.0, r.0.1, get_entry w r.0 r.1, r.2))
    (Contains-append_cases s.added (filter_map (file_after s) (entries w)) (path, text) has)

listed : (s : FileChanges) (w : Workspace) (path text : List ℕ) → ComesFrom s w path text → Contains (files_after s w) (path, text)
listed s w path text from =
    ⊎_elim
    (λ (new : Contains s.added (path, text)). Contains-append_left s.added (filter_map (file_after s) (entries w)) (path, text) new)
    (λ (o : IsOldFile s w path text). Contains-append_right s.added (filter_map (file_after s) (entries w)) (path, text)
    (is_given (file_after s) (entries w) (o.0, o.1) (path, text) (entry_of w o.0 o.1 o.2) o.3))
    from

old_text : (s : FileChanges) (w : Workspace) (path one other : List ℕ) (a : IsOldFile s w path one) (b : IsOldFile s w path other) → a.0 ≡ b.0 → one ≡ other
old_text s w path one other a b same =
    let texts : a.1 ≡ b.1 = same_Some a.1 b.1 (sym a.2 ∙ ap (get w) same ∙ b.2) in
    let files : (a.0, a.1) ≡ (b.0, b.1) = (λ i. (same i, texts i)) in
    ap (λ (e : List ℕ × List ℕ). e.1) (same_Some (path, one) (path, other) (sym a.3 ∙ ap (file_after s) files ∙ b.3))

-- one text at most comes to a path
pub one_text : (s : FileChanges) (w : Workspace) → Fits s w → (path one other : List ℕ) → ComesFrom s w path one → ComesFrom s w path other → one ≡ other
one_text s w fits path one other (inl a) (inl b) = ap (λ (e : List ℕ × List ℕ). e.1) (fits.once (path, one) (path, other) a b refl)
one_text s w fits path one other (inl a) (inr b) = absurd (fits.free b.0 (path, one) a (gets s w path other b))
one_text s w fits path one other (inr a) (inl b) = absurd (fits.free a.0 (path, other) b (gets s w path one a))
one_text s w fits path one other (inr a) (inr b) = old_text s w path one other a b (fits.apart a.0 b.0 path (gets s w path one a) (gets s w path other b))

-- what a path has then came to it
pub comes_from : (s : FileChanges) (w : Workspace) (path text : List ℕ) → get (edited s w) path ≡ Some text → ComesFrom s w path text
comes_from s w path text is = listed_from s w path text
    (found_in (files_after s w) path text (sym (get-from_entries path_cmp_total (files_after s w) path) ∙ is))

-- and what came to it, it has
pub has_file : (s : FileChanges) (w : Workspace) → Fits s w → (path text : List ℕ) → ComesFrom s w path text → get (edited s w) path ≡ Some text
has_file s w fits path text from =
    let found = some_found (files_after s w) path text (listed s w path text from) in
    let other = listed_from s w path found.0 (found_in (files_after s w) path found.0 found.1) in
    get-from_entries path_cmp_total (files_after s w) path ∙ found.1 ∙ ap Some (one_text s w fits path found.0 text other from)

pub has_each_file : HasEachFile
has_each_file s w path text fits = (comes_from s w path text, has_file s w fits path text)
