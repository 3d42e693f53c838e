-- Edits of the part, made in the whole workspace: they fit it, and make in it each file that they make in the part.
use Rattle.std.proofs.Common.{◌≡◌, ℕ, inl, inr, List, [], ◌∷◌, Option, None, Some, refl, sym, ap, subst, ◌∙◌}
use Rattle.std.specs.Prelude.{Contains, IsSome, MatchOption, length}
use Rattle.std.specs.FinMap.{entries, get, get-from_entries}
use Rattle.std.specs.List.{All, filter_map}
use Rattle.std.proofs.lemmas.List.Elements.{All-contains, All-from_recursion, Contains-append_right}
use Rattle.std.proofs.lemmas.Option.{same_Some}
use Rattle.base_lemmas.proofs.EachElement.{all_from_each}
use Rattle.base_lemmas.proofs.Elements.{nothing_in}
use Rattle.base_files.specs.Workspace.{Workspace}
use Rattle.base_files.specs.declared.limits.Limits.{Limits}
use Rattle.base_files.proofs.WorkspaceLaws.{path_cmp_total}
use Rattle.base_edits.specs.Edits.{LieWithin}
use Rattle.base_edits.specs.EditSet.{FileChanges, path_by, file_after, files_after, edited, change_of}
use Rattle.base_edits.specs.Fits.{Fits, HasSpans, MovesTo, path_after, path_by_change}
use Rattle.base_edits.specs.declared.change.FileChange.{FileChange}
use Rattle.base_edits.specs.declared.change.Fate.TheVariants.{Stays}
use Rattle.base_edits.proofs.Changes.{change_found, file_path}
use Rattle.base_edits.proofs.Entries.{entry_of, some_found, some_is, value_of}
use Rattle.base_edits.proofs.FilesAfter.{IsOldFile, comes_from, gets}
use Rattle.base_edits.proofs.Held.{is_given}
use Rattle.workspace_check.specs.Verdicts.{Verdicts}
use Rattle.workspace_snapshot.specs.Fits.{FitsLimits}
use Rattle.refactor_part.specs.FaultlessPart.{faultless_part}
use Rattle.refactor_part.proofs.PartFiles.{stays_there}
use Rattle.refactor_part.proofs.Smaller.{HasFilesIn, fits_within}

-- No two files come to one path.
abbrev pub AreApart : FileChanges → Workspace → Type 0
AreApart s w = (one other path : List ℕ) → MovesTo s w one path → MovesTo s w other path → one ≡ other

module _ (s : FileChanges) (w : Workspace) (none : s.added ≡ []) (apart : AreApart s w) where
  same_text : (path one other : List ℕ) (a : IsOldFile s w path one) (b : IsOldFile s w path other) → a.0 ≡ b.0 → one ≡ other
  same_text path one other a b same =
      let texts : a.1 ≡ b.1 = same_Some a.1 b.1 (sym a.2 ∙ ap (get w) same ∙ b.2) in
      let files : (a.0, a.1) ≡ (b.0, b.1) = (λ i. (same i, texts i)) in
      ap (λ (e : List ℕ × List ℕ). e.1) (same_Some (path, one) (path, other) (sym a.3 ∙ ap (file_after s) files ∙ b.3))

  -- what came to a path, it has
  pub has_old : (path text : List ℕ) → IsOldFile s w path text → get (edited s w) path ≡ Some text
  has_old path text o =
      let listed = Contains-append_right s.added (filter_map (file_after s) (entries w)) (path, text)
      (is_given (file_after s) (entries w) (o.0, o.1) (path, text) (entry_of w o.0 o.1 o.2) o.3) in
      let found = some_found (files_after s w) path text listed in
      let is : get (edited s w) path ≡ Some found.0 = get-from_entries path_cmp_total (files_after s w) path ∙ found.1 in
      is ∙ ap Some (elim (comes_from s w path found.0 is) [
        | inl new ↦ absurd (nothing_in (path, found.0) (subst (λ l. Contains l (path, found.0)) none new))
        | inr p ↦ same_text path found.0 text p o (apart p.0 o.0 path (gets s w path found.0 p) (gets s w path text o))
      ])

module _ (w : Workspace) (known : Verdicts) (s : FileChanges) (none : s.added ≡ []) (apart : AreApart s w) where
  pub within : HasFilesIn (edited s (faultless_part w known)) (edited s w)
  within path text has = elim (comes_from s (faultless_part w known) path text has) [
    | inl new ↦ absurd (nothing_in (path, text) (subst (λ l. Contains l (path, text)) none new))
    | inr o ↦ has_old s w none apart path text (o.0, o.1, (stays_there w known o.0 o.1 o.2).1, o.3)
  ]

  pub limits_of_part : (limits : Limits) → FitsLimits limits (edited s w) → FitsLimits limits (edited s (faultless_part w known))
  limits_of_part = fits_within (edited s (faultless_part w known)) (edited s w) within

  -- the spans of a change
  spans : (c : FileChange) → HasSpans (faultless_part w known) c → HasSpans w c
  spans c h = elim (get (faultless_part w known) c.path) as (λ o. get (faultless_part w known) c.path ≡ o →
      MatchOption o ⊥ (λ text. LieWithin (length text) c.edits) → HasSpans w c) [
        | None ↦ λ e k. absurd k
        | Some text ↦ λ e k. subst (λ o. MatchOption o ⊥ (λ t. LieWithin (length t) c.edits)) (sym (stays_there w known c.path text e).1) k
      ] refl h

  all_spans : (cs : List FileChange) → All (HasSpans (faultless_part w known)) cs → All (HasSpans w) cs
  all_spans cs h = All-from_recursion (HasSpans w) cs
      (all_from_each (HasSpans w) cs (λ c has. spans c (All-contains (HasSpans (faultless_part w known)) cs c h has)))

  pub fits_whole : Fits s (faultless_part w known) → Fits s w
  fits_whole fits = record {
    there = all_spans s.changed fits.there;
    apart = apart;
    free = λ old file new. absurd (nothing_in file (subst (λ l. Contains l file) none new));
    once = λ one other new. absurd (nothing_in one (subst (λ l. Contains l one) none new));
  }

-- where all files stay at their paths, no two come to one
pub staying_apart : (s : FileChanges) (w : Workspace) → ((c : FileChange) → Contains s.changed c → c.fate ≡ Stays) → AreApart s w
staying_apart s w stay one other path a b = stays one path a.1 ∙ sym (stays other path b.1)
  where
    stays : (old new : List ℕ) → path_after s old ≡ Some new → old ≡ new
    stays old new is = elim (change_of s old) as (λ o. change_of s old ≡ o → path_by_change o old ≡ Some new → old ≡ new) [
      | None ↦ λ e k. same_Some old new k
      | Some c ↦ λ e k. same_Some old new (sym (ap (λ f. path_by f old) (stay c (change_found s.changed old c e).0)) ∙ k)
    ] refl is
