-- The change of a file, and the file after it.
use Rattle.std.proofs.Common.{◌≡◌, ◌==◌, ℕ, true, false, List, [], ◌∷◌, cond, Option, Some, None, refl, sym, ap, subst, ◌∙◌, ⊎_elim}
use Rattle.std.specs.Cmp.Lexicographic.{pointwise, bytes_decides}
use Rattle.std.specs.List.{Contains}
use Rattle.std.specs.Option.{option_map}
use Rattle.std.proofs.lemmas.Bool.{true≢false}
use Rattle.std.proofs.lemmas.Option.{none-some, same_Some}
use Rattle.base_lemmas.proofs.Elements.{nothing_in, first_in, later_in, first_or_later}
use Rattle.base_edits.specs.Edits.{edited_text}
use Rattle.base_edits.specs.EditSet.{FileChanges, path_by, change_in, change_of, file_by, file_after}
use Rattle.base_edits.specs.Fits.{path_by_change, path_after}
use Rattle.base_edits.specs.declared.change.FileChange.{FileChange}

-- ---- the change of a path
pub change_found : (changes : List FileChange) (path : List ℕ) (c : FileChange) → change_in changes path ≡ Some c → Contains changes c × (c.path ≡ path)
change_found [] path c h = absurd (none-some c h)
change_found (d ∷ ds) path c h =
    elim (pointwise ◌==◌ d.path path) as (λ b. pointwise ◌==◌ d.path path ≡ b → cond b (Some d) (change_in ds path) ≡ Some c → Contains (d ∷ ds) c ×
    (c.path ≡ path)) [
      | true ↦ λ is k. let same = same_Some d c k in (
        subst (Contains (d ∷ ds)) same (first_in d ds),
        subst (λ (x : FileChange). x.path ≡ path) same ((bytes_decides d.path path).0 is),
      )
      | false ↦ λ is k. let r = change_found ds path c k in (later_in d ds c r.0, r.1)
    ] refl h

pub some_change : (changes : List FileChange) (path : List ℕ) (c : FileChange) → Contains changes c → c.path ≡ path → (d : FileChange) ×
    (change_in changes path ≡ Some d)
some_change [] path c has at = absurd (nothing_in c has)
some_change (d ∷ ds) path c has at =
    elim (pointwise ◌==◌ d.path path) as (λ b. pointwise ◌==◌ d.path path ≡ b → (x : FileChange) × (cond b (Some d) (change_in ds path) ≡ Some x)) [
      | true ↦ λ is. (d, refl)
      | false ↦ λ is. ⊎_elim
          (λ (same : d ≡ c). absurd (true≢false (sym ((bytes_decides d.path path).1 (ap (λ (x : FileChange). x.path) same ∙ at)) ∙ is)))
          (λ (rest : Contains ds c). some_change ds path c rest at)
          (first_or_later d ds c has)
    ] refl

-- each path is changed in one way
abbrev pub IsOneWay : List FileChange → Type 0
IsOneWay changes = (one other : FileChange) → Contains changes one → Contains changes other → one.path ≡ other.path → one ≡ other

pub change_held : (changes : List FileChange) → IsOneWay changes → (path : List ℕ) (c : FileChange) → Contains changes c → c.path ≡ path →
    change_in changes path ≡ Some c
change_held changes one_way path c has at =
    let found = some_change changes path c has at in
    let there = change_found changes path found.0 found.1 in
    found.1 ∙ ap Some (one_way found.0 c there.0 has (there.1 ∙ sym at))

pub none_changed : (changes : List FileChange) (path : List ℕ) (c : FileChange) → change_in changes path ≡ None → Contains changes c → c.path ≡ path → ⊥
none_changed changes path c none has at = let found = some_change changes path c has at in none-some found.0 (sym none ∙ found.1)

-- ---- the file after a change
pub mapped_is : (o : Option (List ℕ)) (new path text : List ℕ) → option_map {U = List ℕ × List ℕ} (λ p. (p, new)) o ≡ Some (path, text) → (o ≡ Some path) ×
    (new ≡ text)
mapped_is None new path text h = absurd (none-some (path, text) h)
mapped_is (Some p) new path text h = let same = same_Some (p, new) (path, text) h in
    (ap (λ (e : List ℕ × List ℕ). Some e.0) same, ap (λ (e : List ℕ × List ℕ). e.1) same)

-- its path is that of the file
pub path_of_file : (o : Option FileChange) (old before path text : List ℕ) → file_by o (old, before) ≡ Some (path, text) → path_by_change o old ≡ Some path
path_of_file None old before path text h = ap (λ (e : List ℕ × List ℕ). Some e.0) (same_Some (old, before) (path, text) h)
path_of_file (Some c) old before path text h = (mapped_is (path_by c.fate old) (edited_text c.edits before) path text h).0

pub some_file : (o : Option FileChange) (old before path : List ℕ) → path_by_change o old ≡ Some path → (text : List ℕ) ×
    (file_by o (old, before) ≡ Some (path, text))
some_file None old before path h = (before, ap (λ (p : List ℕ). Some (p, before)) (same_Some old path h))
some_file (Some c) old before path h = (edited_text c.edits before, ap (option_map {U = List ℕ × List ℕ} (λ p. (p, edited_text c.edits before))) h)

pub file_path : (s : FileChanges) (old before path text : List ℕ) → file_after s (old, before) ≡ Some (path, text) → path_after s old ≡ Some path
file_path s old before path text h = path_of_file (change_of s old) old before path text h
