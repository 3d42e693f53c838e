-- The map that is made holds the files after the edit set.
use Rattle.std.proofs.Common.{◌≡◌, ◌==◌, ℕ, ◌⊎◌, inl, inr, Bool, true, false, cond, List, [], ◌∷◌, Option, Some, None, IsSome, refl, sym, ap, subst, ◌∙◌}
use Rattle.std.proofs.Common.{⊎_elim}
use Rattle.std.specs.Cmp.Lexicographic.{pointwise, bytes_decides}
use Rattle.std.specs.Ordering.{eq_by_cmp}
use Rattle.std.specs.List.{Contains, filter_map}
use Rattle.std.specs.Option.{option_and_then, option_map}
use Rattle.std.specs.FinMap.{get, insert, remove, get-insert, get-remove}
use Rattle.std.proofs.lemmas.Bool.{true≢false, false_from_ne_true}
use Rattle.std.proofs.lemmas.Option.{none-some, same_Some}
use Rattle.base_lemmas.proofs.Elements.{nothing_in, first_in, later_in, first_or_later}
use Rattle.base_files.specs.Workspace.{Workspace, path_cmp}
use Rattle.base_files.proofs.WorkspaceLaws.{path_cmp_total}
use Rattle.base_edits.specs.EditSet.{FileChanges, change_in, change_of, file_by, path_by, edited}
use Rattle.base_edits.specs.Edits.{edited_text}
use Rattle.base_edits.specs.Fits.{Fits}
use Rattle.base_edits.specs.Inverse.{AreChanges}
use Rattle.base_edits.specs.Made.{without_file, without_files, with_files, file_made, made}
use Rattle.base_edits.specs.declared.change.Fate.{Fate}
use Rattle.base_edits.specs.declared.change.Fate.TheVariants.{Stays, Moves, Dropped}
use Rattle.base_edits.specs.declared.change.FileChange.{FileChange}
use Rattle.base_edits.proofs.Held.{given_from, is_given}
use Rattle.base_edits.proofs.Entries.{exact_path, same_path, same_files, some_is}
use Rattle.base_edits.proofs.Changes.{change_found, change_held}
use Rattle.base_edits.proofs.FilesAfter.{ComesFrom, comes_from, has_file}

-- ---- files that are put
with_from : (es : List (List ℕ × List ℕ)) (w : Workspace) (q t : List ℕ) → get (with_files es w) q ≡ Some t → Contains es (q, t) ⊎
    ((get w q ≡ Some t) × ((u : List ℕ) → Contains es (q, u) → ⊥))
with_from [] w q t h = inr (h, λ u has. nothing_in (q, u) has)
with_from (e ∷ es) w q t h =
    ⊎_elim
    (λ (later : Contains es (q, t)). inl (later_in e es (q, t) later))
    (λ (here : (get (insert w e.0 e.1) q ≡ Some t) × ((u : List ℕ) → Contains es (q, u) → ⊥)).
    elim (eq_by_cmp path_cmp q e.0) as (λ b. eq_by_cmp path_cmp q e.0 ≡ b → cond b (Some e.1) (get w q) ≡ Some t → Contains (e ∷ es) (q, t) ⊎
    ((get w q ≡ Some t) × ((u : List ℕ) → Contains (e ∷ es) (q, u) → ⊥))) [
      | true ↦ λ tied k. inl (subst (Contains (e ∷ es)) (let is : e ≡ (q, t) = (λ i. (sym (exact_path q e.0 tied) i, same_Some e.1 t k i)) in is)
          (first_in e es))
      | false ↦ λ apart k. inr (
        k,
        λ u has. ⊎_elim
            (λ (is : e ≡ (q, u)). true≢false (sym (same_path q e.0 (ap (λ (x : List ℕ × List ℕ). x.0) (sym is))) ∙ apart))
            (λ (later : Contains es (q, u)). here.1 u later)
            (first_or_later e es (q, u) has),
      )
    ] refl (sym (get-insert path_cmp_total w e.0 e.1 q) ∙ here.0))
    (with_from es (insert w e.0 e.1) q t h)

either : (b : Bool) (x : List ℕ) (o : Option (List ℕ)) → IsSome o → IsSome (cond b (Some x) o)
either true x o h = refl
either false x o h = h

with_kept : (es : List (List ℕ × List ℕ)) (w : Workspace) (q : List ℕ) → IsSome (get w q) → IsSome (get (with_files es w) q)
with_kept [] w q h = h
with_kept (e ∷ es) w q h = with_kept es (insert w e.0 e.1) q
    (subst (λ (o : Option (List ℕ)). IsSome o) (sym (get-insert path_cmp_total w e.0 e.1 q)) (either (eq_by_cmp path_cmp q e.0) e.1 (get w q) h))

with_put : (es : List (List ℕ × List ℕ)) (w : Workspace) (q t : List ℕ) → Contains es (q, t) → IsSome (get (with_files es w) q)
with_put [] w q t has = absurd (nothing_in (q, t) has)
with_put (e ∷ es) w q t has =
    ⊎_elim
    (λ (is : e ≡ (q, t)). with_kept es (insert w e.0 e.1) q (some_is (get (insert w e.0 e.1) q) e.1
    (get-insert path_cmp_total w e.0 e.1 q ∙ ap (λ b. cond b (Some e.1) (get w q)) (same_path q e.0 (ap (λ (x : List ℕ × List ℕ). x.0) (sym is))))))
    (λ (later : Contains es (q, t)). with_put es (insert w e.0 e.1) q t later)
    (first_or_later e es (q, t) has)

-- ---- files that are taken out
not_at : (c : FileChange) (q : List ℕ) → (c.path ≡ q → ⊥) → (pointwise ◌==◌ c.path q ≡ false) × (eq_by_cmp path_cmp q c.path ≡ false)
not_at c q apart = (
  false_from_ne_true (pointwise ◌==◌ c.path q) (λ t. apart ((bytes_decides c.path q).0 t)),
  false_from_ne_true (eq_by_cmp path_cmp q c.path) (λ t. apart (sym (exact_path q c.path t))),
)

-- The change of a path, if there is one, leaves its file there.
abbrev StaysBy : Option FileChange → Type 0
StaysBy None = Unit {0}
StaysBy (Some c) = c.fate ≡ Stays

removed_from : (path : List ℕ) (w : Workspace) (q t : List ℕ) (f : Fate) → get (remove w path) q ≡ Some t → (get w q ≡ Some t) × (path ≡ q → f ≡ Stays)
removed_from path w q t f h =
    elim (eq_by_cmp path_cmp q path) as (λ b. eq_by_cmp path_cmp q path ≡ b → cond b None (get w q) ≡ Some t → (get w q ≡ Some t) × (path ≡ q → f ≡ Stays)) [
      | true ↦ λ tied k. absurd (none-some t k)
      | false ↦ λ apart k. (k, λ same. absurd (true≢false (sym (same_path q path (sym same)) ∙ apart)))
    ] refl (sym (get-remove path_cmp_total w path q) ∙ h)

-- a file that is left was there, and is not at the path of the change unless it stays
left_by : (f : Fate) (path : List ℕ) (w : Workspace) (q t : List ℕ) → get (without_file f path w) q ≡ Some t → (get w q ≡ Some t) ×
    (path ≡ q → f ≡ Stays)
left_by Stays path w q t h = (h, λ same. refl)
left_by (Moves to) path w q t h = removed_from path w q t (Moves to) h
left_by Dropped path w q t h = removed_from path w q t Dropped h

without_from : (cs : List FileChange) (w : Workspace) (q t : List ℕ) → get (without_files cs w) q ≡ Some t → (get w q ≡ Some t) × StaysBy (change_in cs q)
without_from [] w q t h = (h, tt)
without_from (c ∷ cs) w q t h =
    let rest = without_from cs (without_file c.fate c.path w) q t h in
    let left = left_by c.fate c.path w q t rest.0 in (
      left.0,
      elim (pointwise ◌==◌ c.path q) as (λ b. pointwise ◌==◌ c.path q ≡ b → StaysBy (cond b (Some c) (change_in cs q))) [
        | true ↦ λ same. left.1 ((bytes_decides c.path q).0 same)
        | false ↦ λ apart. rest.1
      ] refl,
    )

kept_by : (f : Fate) (path : List ℕ) (w : Workspace) (q t : List ℕ) → eq_by_cmp path_cmp q path ≡ false → get w q ≡ Some t →
    get (without_file f path w) q ≡ Some t
kept_by Stays path w q t apart is = is
kept_by (Moves to) path w q t apart is = get-remove path_cmp_total w path q ∙ ap (λ b. cond b None (get w q)) apart ∙ is
kept_by Dropped path w q t apart is = get-remove path_cmp_total w path q ∙ ap (λ b. cond b None (get w q)) apart ∙ is

without_kept : (cs : List FileChange) (w : Workspace) (q t : List ℕ) → get w q ≡ Some t → change_in cs q ≡ None → get (without_files cs w) q ≡ Some t
without_kept [] w q t is none = is
without_kept (c ∷ cs) w q t is none =
    elim (pointwise ◌==◌ c.path q) as (λ b. pointwise ◌==◌ c.path q ≡ b → cond b (Some c) (change_in cs q) ≡ None → get (without_files (c ∷ cs) w) q ≡ Some t) [
      | true ↦ λ same k. absurd (none-some c (sym k))
      | false ↦ λ apart k. without_kept cs (without_file c.fate c.path w) q t
          (kept_by c.fate c.path w q t (not_at c q (λ same. true≢false (sym ((bytes_decides c.path q).1 same) ∙ apart))).1 is) k
    ] refl none

-- ---- the file that a change makes
made_by : (o : Option (List ℕ)) (c : FileChange) (e : List ℕ × List ℕ) → option_and_then (λ text. file_by (Some c) (c.path, text)) o ≡ Some e →
    (before : List ℕ) × (o ≡ Some before) × (file_by (Some c) (c.path, before) ≡ Some e)
made_by None c e h = absurd (none-some e h)
made_by (Some before) c e h = (before, refl, h)

module _ (s : FileChanges) (w : Workspace) (changes : AreChanges s) where
  -- a file that no change puts has no change: one whose file stays would put it
  not_put : (q t : List ℕ) (o : Option FileChange) → change_in s.changed q ≡ o → get w q ≡ Some t → StaysBy o →
      ((u : List ℕ) → Contains (filter_map (file_made w) s.changed) (q, u) → ⊥) → ComesFrom s w q t
  not_put q t None none is stays unput = inr (q, t, is, ap (λ o. file_by o (q, t)) none)
  not_put q t (Some c) some is stays unput =
      let there = change_found s.changed q c some in
      let after : List ℕ = edited_text c.edits t in
      let gives : file_made w c ≡ Some (q, after) =
      ap (λ (p : List ℕ). option_and_then (λ text. file_by (Some c) (p, text)) (get w p)) there.1
      ∙ ap (option_and_then (λ text. file_by (Some c) (q, text))) is ∙ ap (λ f. option_map (λ path. (path, after)) (path_by f q)) stays in
      absurd (unput after (is_given (file_made w) s.changed c (q, after) there.0 gives))

  made_from : (q t : List ℕ) → get (made s w) q ≡ Some t → ComesFrom s w q t
  made_from q t h =
      let puts = filter_map (file_made w) s.changed in
      ⊎_elim
      (λ (new : Contains s.added (q, t)). inl new)
      (λ (old : (get (with_files puts (without_files s.changed w)) q ≡ Some t) × ((u : List ℕ) → Contains s.added (q, u) → ⊥)).
      ⊎_elim
      (λ (put : Contains puts (q, t)).
      let r = given_from (file_made w) s.changed (q, t) put in
      let b = made_by (get w r.0.path) r.0 (q, t) r.2 in
      inr (r.0.path, b.0, b.1, ap (λ o. file_by o (r.0.path, b.0)) (change_held s.changed changes.one_way r.0.path r.0 r.1 refl) ∙ b.2))
      (λ (stays : (get (without_files s.changed w) q ≡ Some t) × ((u : List ℕ) → Contains puts (q, u) → ⊥)).
      let r = without_from s.changed w q t stays.0 in
      not_put q t (change_in s.changed q) refl r.0 r.1 stays.1)
      (with_from puts (without_files s.changed w) q t old.0))
      (with_from s.added (with_files puts (without_files s.changed w)) q t h)

  old_made : (q t old before : List ℕ) (o : Option FileChange) → change_of s old ≡ o → get w old ≡ Some before → file_by o (old, before) ≡ Some (q, t) →
      IsSome (get (made s w) q)
  old_made q t old before None none is after =
      let puts = filter_map (file_made w) s.changed in
      let same : old ≡ q = ap (λ (e : List ℕ × List ℕ). e.0) (same_Some (old, before) (q, t) after) in
      subst (λ (p : List ℕ). IsSome (get (made s w) p)) same
      (with_kept s.added (with_files puts (without_files s.changed w)) old
      (with_kept puts (without_files s.changed w) old (some_is (get (without_files s.changed w) old) before (without_kept s.changed w old before is none))))
  old_made q t old before (Some c) some is after =
      let puts = filter_map (file_made w) s.changed in
      let there = change_found s.changed old c some in
      let gives : file_made w c ≡ Some (q, t) =
      ap (λ (p : List ℕ). option_and_then (λ text. file_by (Some c) (p, text)) (get w p)) there.1
      ∙ ap (option_and_then (λ text. file_by (Some c) (old, text))) is ∙ after in
      with_kept s.added (with_files puts (without_files s.changed w)) q
      (with_put puts (without_files s.changed w) q t (is_given (file_made w) s.changed c (q, t) there.0 gives))

  made_some : (q t : List ℕ) → ComesFrom s w q t → IsSome (get (made s w) q)
  made_some q t (inl new) = with_put s.added (with_files (filter_map (file_made w) s.changed) (without_files s.changed w)) q t new
  made_some q t (inr o) = old_made q t o.0 o.1 (change_of s o.0) refl o.2 o.3

  pub made_is_edited : Fits s w → made s w ≡ edited s w
  made_is_edited fits = same_files (made s w) (edited s w) (λ q t h. has_file s w fits q t (made_from q t h)) (λ q t h. made_some q t (comes_from s w q t h))
