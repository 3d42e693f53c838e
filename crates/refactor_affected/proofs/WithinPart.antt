-- The changes of files of a workspace make of it what all changes make.
use Rattle.std.proofs.Common.{◌≡◌, ◌==◌, ℕ, Bool, true, false, List, [], ◌∷◌, ◌++◌, cond, Option, None, Some, refl, ap, ◌∙◌}
use Rattle.std.specs.Prelude.{Contains, MatchOption, filter, is_some, length}
use Rattle.std.specs.Cmp.Lexicographic.{pointwise, bytes_decides}
use Rattle.std.specs.FinMap.{entries, from_entries, get}
use Rattle.std.specs.List.{filter_map, cons_option}
use Rattle.std.proofs.lemmas.List.Elements.{All-contains}
use Rattle.base_lemmas.proofs.Elements.{first_in, later_in}
use Rattle.base_files.specs.Workspace.{Workspace}
use Rattle.base_edits.specs.Edits.{LieWithin}
use Rattle.base_edits.specs.EditSet.{FileChanges, change_in, file_after, file_by, edited}
use Rattle.base_edits.specs.Fits.{Fits, HasSpans}
use Rattle.base_edits.specs.declared.change.FileChange.{FileChange}
use Rattle.base_edits.proofs.Entries.{get_entry, some_is}
use Rattle.refactor_affected.specs.Moves.{changes_within}

alike : {X Y : Type 0} (f g : X → Option Y) (xs : List X) → ((x : X) → Contains xs x → f x ≡ g x) → filter_map f xs ≡ filter_map g xs
alike f g [] same = refl
alike f g (x ∷ xs) same =
    ap (λ o. cons_option o (filter_map f xs)) (same x (first_in x xs)) ∙ ap (cons_option (g x)) (alike f g xs (λ y has. same y (later_in x xs y has)))

all_pass : {X : Type 0} (test : X → Bool) (xs : List X) → ((x : X) → Contains xs x → test x ≡ true) → filter test xs ≡ xs
all_pass test [] each = refl
all_pass test (x ∷ xs) each =
    ap (λ b. cond b (x ∷ filter test xs) (filter test xs)) (each x (first_in x xs)) ∙ ap (λ l. x ∷ l) (all_pass test xs (λ y has. each y (later_in x xs y has)))

module _ (v : Workspace) where
  -- a change of another path, which stays or not
  passed_over : (b : Bool) (c : FileChange) (cs : List FileChange) (path : List ℕ) → pointwise ◌==◌ c.path path ≡ false →
      change_in (cond b (c ∷ cs) cs) path ≡ change_in cs path
  passed_over true c cs path is = ap (λ t. cond t (Some c) (change_in cs path)) is
  passed_over false c cs path is = refl

  same_change : (cs : List FileChange) (path : List ℕ) → is_some (get v path) ≡ true → change_in (filter (λ c. is_some (get v c.path)) cs) path ≡ change_in
      cs path
  same_change [] path has = refl
  same_change (c ∷ cs) path has =
      let rest = filter (λ (d : FileChange). is_some (get v d.path)) cs in
      elim (pointwise ◌==◌ c.path path) as (λ b. pointwise ◌==◌ c.path path ≡ b →
      change_in (cond (is_some (get v c.path)) (c ∷ rest) rest) path ≡ cond b (Some c) (change_in cs path)) [
        | true ↦ λ is. (
            let at : is_some (get v c.path) ≡ true = ap (λ p. is_some (get v p)) ((bytes_decides c.path path).0 is) ∙ has in
            ap (λ b. change_in (cond b (c ∷ rest) rest) path) at ∙ ap (λ t. cond t (Some c) (change_in rest path)) is)
        | false ↦ λ is. passed_over (is_some (get v c.path)) c rest path is ∙ same_change cs path has
      ] refl

  pub edited_within : (s : FileChanges) → edited (changes_within v s) v ≡ edited s v
  edited_within s =
      ap (λ (l : List (List ℕ × List ℕ)). from_entries (s.added ++ l))
      (alike (file_after (changes_within v s)) (file_after s) (entries v)
      (λ e has. ap (λ o. file_by o e) (same_change s.changed e.0 (some_is (get v e.0) e.1 (get_entry v e has)))))

  -- edits that fit are edits of its files
  pub fit_within : (s : FileChanges) → Fits s v → changes_within v s ≡ s
  fit_within s fits = ap (λ (l : List FileChange). record { changed = l; added = s.added })
      (all_pass (λ c. is_some (get v c.path)) s.changed (λ c has. is_there c (All-contains (HasSpans v) s.changed c fits.there has)))
    where
      is_there : (c : FileChange) → HasSpans v c → is_some (get v c.path) ≡ true
      is_there c h = elim (get v c.path) as (λ o. MatchOption o ⊥ (λ text. LieWithin (length text) c.edits) → is_some o ≡ true) [
        | None ↦ λ k. absurd k
        | Some t ↦ λ k. refl
      ] h
