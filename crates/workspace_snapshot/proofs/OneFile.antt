-- The edit sets of puts and dels: that they fit, and what they make of the files.
use Rattle.std.proofs.Common.{◌≡◌, ◌==◌, ℕ, inl, inr, true, false, cond, List, [], ◌∷◌, length, ◌≤◌, Option, Some, None, IsSome, refl, sym, ap, subst, ◌∙◌}
use Rattle.std.proofs.Common.{⊎_elim}
use Rattle.std.specs.Cmp.Lexicographic.{pointwise, bytes_decides}
use Rattle.std.specs.Ordering.{eq_by_cmp}
use Rattle.std.specs.List.{Contains, All, IsDistinct}
use Rattle.std.specs.List.Sorted.{IsStrictlySortedBy}
use Rattle.std.specs.FinMap.{get, insert, remove, get-insert, get-remove}
use Rattle.std.proofs.lemmas.Bool.{true≢false, false_from_ne_true}
use Rattle.std.proofs.lemmas.Option.{none-some, same_Some}
use Rattle.std.proofs.lemmas.List.Elements.{All-cons, All-nil}
use Rattle.base_lemmas.proofs.Elements.{nothing_in, first_in, first_or_later}
use Rattle.base_files.specs.Workspace.{Workspace, path_cmp}
use Rattle.base_files.proofs.WorkspaceLaws.{path_cmp_total}
use Rattle.base_edits.specs.Edits.{AreInOrder}
use Rattle.base_edits.specs.EditSet.{FileChanges, change_in, change_of, file_by, edited}
use Rattle.base_edits.specs.Fits.{IsEditSet, HasSpans, Fits, MovesTo, path_by_change, path_after}
use Rattle.base_edits.specs.Inverse.{dropped}
use Rattle.base_edits.specs.declared.edit.Edit.{Edit}
use Rattle.base_edits.specs.declared.change.FileChange.{FileChange}
use Rattle.base_edits.proofs.Entries.{exact_path, same_path, same_files, some_is, value_of}
use Rattle.base_edits.proofs.FilesAfter.{IsOldFile, comes_from, has_file, gets}
use Rattle.base_edits.proofs.Turned.{is_there}
use Rattle.workspace_snapshot.specs.Plan.{drop_changes, put_changes, del_changes}

-- the changes leave all files but that of one path, which goes if it is there
record OneGoes (s : FileChanges) (w : Workspace) (path : List ℕ) : Type 0 where
  others : (q : List ℕ) → (path ≡ q → ⊥) → change_of s q ≡ None
  goes : IsSome (get w path) → path_after s path ≡ None

gets_other : (s : FileChanges) (w : Workspace) (path : List ℕ) → OneGoes s w path → (old new : List ℕ) → MovesTo s w old new → (path ≡ old → ⊥) × (old ≡ new)
gets_other s w path one old new g =
    let apart : path ≡ old → ⊥ = λ same. none-some new
    (sym (one.goes (subst (λ (p : List ℕ). IsSome (get w p)) (sym same) g.0)) ∙ ap (path_after s) same ∙ g.1) in
    (apart, same_Some old new (sym (ap (λ o. path_by_change o old) (one.others old apart)) ∙ g.1))

kept_file : (s : FileChanges) (w : Workspace) (path : List ℕ) → OneGoes s w path → (q t : List ℕ) → (path ≡ q → ⊥) → get w q ≡ Some t → IsOldFile s w q t
kept_file s w path one q t apart is = (q, t, is, ap (λ o. file_by o (q, t)) (one.others q apart))

old_kept : (s : FileChanges) (w : Workspace) (path : List ℕ) → OneGoes s w path → (q t : List ℕ) → IsOldFile s w q t → (path ≡ q → ⊥) × (get w q ≡ Some t)
old_kept s w path one q t o =
    let g = gets_other s w path one o.0 q (gets s w q t o) in
    let same : (o.0, o.1) ≡ (q, t) = same_Some (o.0, o.1) (q, t) (sym (ap (λ x. file_by x (o.0, o.1)) (one.others o.0 g.0)) ∙ o.3) in
    (λ p. g.0 (p ∙ sym g.1), subst (λ (e : List ℕ × List ℕ). get w e.0 ≡ Some e.1) same o.2)

-- ---- one path that is dropped
other_path : (path old q : List ℕ) → (path ≡ q → ⊥) → change_in (dropped (path, old) ∷ []) q ≡ None
other_path path old q apart = ap (λ b. cond b (Some (dropped (path, old))) None) (false_from_ne_true (pointwise ◌==◌ path q) (λ t. apart ((bytes_decides
    path q).0 t)))

own_path : (path old : List ℕ) → change_in (dropped (path, old) ∷ []) path ≡ Some (dropped (path, old))
own_path path old = ap (λ b. cond b (Some (dropped (path, old))) None) ((bytes_decides path path).1 refl)

dropped_there : (w : Workspace) (path old text : List ℕ) → get w path ≡ Some text → All (HasSpans w) (dropped (path, old) ∷ [])
dropped_there w path old text is =
    All-cons (HasSpans w) (dropped (path, old)) [] (is_there w (dropped (path, old)) text is (All-nil (λ (e : Edit). e.span.end ≤ length text)))
    (All-nil (HasSpans w))

-- ---- edit sets
no_paths : IsDistinct {K = List ℕ} (pointwise ◌==◌) []
unfolding IsDistinct
no_paths = tt

one_path : (path : List ℕ) → IsDistinct {K = List ℕ} (pointwise ◌==◌) (path ∷ [])
unfolding IsDistinct
one_path path = (tt, tt)

no_changes : IsStrictlySortedBy {K = List ℕ} path_cmp []
unfolding IsStrictlySortedBy
no_changes = tt

one_change : (path : List ℕ) → IsStrictlySortedBy {K = List ℕ} path_cmp (path ∷ [])
unfolding IsStrictlySortedBy
one_change path = (tt, tt)

dropped_order : (path : List ℕ) → All (λ (c : FileChange). AreInOrder 0 c.edits) (dropped (path, []) ∷ [])
dropped_order path = All-cons (λ (c : FileChange). AreInOrder 0 c.edits) (dropped (path, [])) [] tt (All-nil (λ (c : FileChange). AreInOrder 0 c.edits))

pub del_is_set : (path : List ℕ) → IsEditSet (del_changes path)
del_is_set path = record { in_order = dropped_order path; by_path = one_change path; differ = no_paths }

put_is_set_by : (o : Option (List ℕ)) (path text : List ℕ) → IsEditSet (record { changed = drop_changes o path; added = (path, text) ∷ [] })
put_is_set_by None path text = record { in_order = All-nil (λ (c : FileChange). AreInOrder 0 c.edits); by_path = no_changes; differ = one_path path }
put_is_set_by (Some old) path text = record { in_order = dropped_order path; by_path = one_change path; differ = one_path path }

pub put_is_set : (w : Workspace) (path text : List ℕ) → IsEditSet (put_changes w path text)
put_is_set w path text = put_is_set_by (get w path) path text

-- lists that make such a set
pub del_set_from : (path : List ℕ) (cs : List FileChange) (es : List (List ℕ × List ℕ)) → cs ≡ dropped (path, []) ∷ [] → es ≡ [] →
    IsEditSet (record { changed = cs; added = es })
del_set_from path cs es h k =
    let same : ◌≡◌ {A = FileChanges} (del_changes path) (record { changed = cs; added = es }) = (λ i. record { changed = sym h i; added = sym k i }) in
    subst IsEditSet same (del_is_set path)

pub put_set_from : (w : Workspace) (path text : List ℕ) (cs : List FileChange) (es : List (List ℕ × List ℕ)) → cs ≡ drop_changes (get w path) path →
    es ≡ (path, text) ∷ [] → IsEditSet (record { changed = cs; added = es })
put_set_from w path text cs es h k =
    let same : ◌≡◌ {A = FileChanges} (put_changes w path text) (record { changed = cs; added = es }) = (λ i. record { changed = sym h i; added = sym k i }) in
    subst IsEditSet same (put_is_set w path text)

pub some_from : (o : Option (List ℕ)) → (o ≡ None → ⊥) → IsSome o
some_from None h = absurd (h refl)
some_from (Some x) h = refl

-- ---- a put
put_others : (o : Option (List ℕ)) (path q : List ℕ) → (path ≡ q → ⊥) → change_in (drop_changes o path) q ≡ None
put_others None path q apart = refl
put_others (Some old) path q apart = other_path path [] q apart

put_own : (o : Option (List ℕ)) (path : List ℕ) → IsSome o → path_by_change (change_in (drop_changes o path) path) path ≡ None
put_own None path h = absurd (true≢false (sym h))
put_own (Some old) path h = ap (λ o. path_by_change o path) (own_path path [])

put_goes : (w : Workspace) (path text : List ℕ) → OneGoes (put_changes w path text) w path
put_goes w path text = record { others = put_others (get w path) path; goes = put_own (get w path) path }

put_there : (w : Workspace) (path : List ℕ) (o : Option (List ℕ)) → get w path ≡ o → All (HasSpans w) (drop_changes o path)
put_there w path None is = All-nil (HasSpans w)
put_there w path (Some old) is = dropped_there w path [] old is

only : (file e : List ℕ × List ℕ) → Contains (file ∷ []) e → file ≡ e
only file e has = ⊎_elim (λ (is : file ≡ e). is) (λ (rest : Contains [] e). absurd (nothing_in e rest)) (first_or_later file [] e has)

pub put_fits : (w : Workspace) (path text : List ℕ) → Fits (put_changes w path text) w
put_fits w path text =
    let s = put_changes w path text in
    let one = put_goes w path text in
    record {
      there = put_there w path (get w path) refl;
      apart = λ a b p g h. (gets_other s w path one a p g).1 ∙ sym (gets_other s w path one b p h).1;
      free = λ old file has g. let r = gets_other s w path one old file.0 g in r.0 (ap (λ (e : List ℕ × List ℕ). e.0) (only (path, text) file has) ∙ sym r.1);
      once = λ a b x y same. sym (only (path, text) a x) ∙ only (path, text) b y;
    }

module _ (w : Workspace) (path text : List ℕ) where
  abbrev put_set : FileChanges
  put_set = put_changes w path text

  put_to : (q t : List ℕ) → get (edited put_set w) q ≡ Some t → get (insert w path text) q ≡ Some t
  put_to q t h =
      ⊎_elim
      (λ (new : Contains put_set.added (q, t)).
      let same = only (path, text) (q, t) new in
      get-insert path_cmp_total w path text q ∙ ap (λ b. cond b (Some text) (get w q)) (same_path q path (sym (ap (λ (e : List ℕ × List ℕ). e.0) same))) ∙
      ap (λ (e : List ℕ × List ℕ). Some e.1) same)
      (λ (o : IsOldFile put_set w q t).
      let r = old_kept put_set w path (put_goes w path text) q t o in
      get-insert path_cmp_total w path text q ∙ ap (λ b. cond b (Some text) (get w q))
      (false_from_ne_true (eq_by_cmp path_cmp q path) (λ tied. r.0 (sym (exact_path q path tied)))) ∙ r.1)
      (comes_from put_set w q t h)

  put_from : (q t : List ℕ) → get (insert w path text) q ≡ Some t → IsSome (get (edited put_set w) q)
  put_from q t h =
      elim (eq_by_cmp path_cmp q path) as (λ b. eq_by_cmp path_cmp q path ≡ b → cond b (Some text) (get w q) ≡ Some t → IsSome (get (edited put_set w) q)) [
        | true ↦ λ tied k. subst (λ (p : List ℕ). IsSome (get (edited put_set w) p)) (sym (exact_path q path tied))
            (some_is (get (edited put_set w) path) text (has_file put_set w (put_fits w path text) path text (inl (first_in (path, text) []))))
        | false ↦ λ apart k. some_is (get (edited put_set w) q) t
            (has_file put_set w (put_fits w path text) q t
            (inr (kept_file put_set w path (put_goes w path text) q t (λ same. true≢false (sym (same_path q path (sym same)) ∙ apart)) k)))
      ] refl (sym (get-insert path_cmp_total w path text q) ∙ h)

  pub put_edited : edited (put_changes w path text) w ≡ insert w path text
  put_edited = same_files (edited put_set w) (insert w path text) put_to put_from

-- ---- a del
del_goes : (w : Workspace) (path : List ℕ) → OneGoes (del_changes path) w path
del_goes w path = record { others = other_path path []; goes = λ h. ap (λ o. path_by_change o path) (own_path path []) }

pub del_fits : (w : Workspace) (path : List ℕ) → IsSome (get w path) → Fits (del_changes path) w
del_fits w path h =
    let s = del_changes path in
    let one = del_goes w path in
    let text = value_of (get w path) h in
    record {
      there = dropped_there w path [] text.0 text.1;
      apart = λ a b p g k. (gets_other s w path one a p g).1 ∙ sym (gets_other s w path one b p k).1;
      free = λ old file has g. absurd (nothing_in file has);
      once = λ a b x y same. absurd (nothing_in a x);
    }

module _ (w : Workspace) (path : List ℕ) (some : IsSome (get w path)) where
  abbrev del_set : FileChanges
  del_set = del_changes path

  del_to : (q t : List ℕ) → get (edited del_set w) q ≡ Some t → get (remove w path) q ≡ Some t
  del_to q t h =
      ⊎_elim
      (λ (new : Contains del_set.added (q, t)). let x : get (remove w path) q ≡ Some t = absurd (nothing_in (q, t) new) in x)
      (λ (o : IsOldFile del_set w q t).
      let r = old_kept del_set w path (del_goes w path) q t o in
      get-remove path_cmp_total w path q ∙ ap (λ b. cond b None (get w q))
      (false_from_ne_true (eq_by_cmp path_cmp q path) (λ tied. r.0 (sym (exact_path q path tied)))) ∙ r.1)
      (comes_from del_set w q t h)

  del_from : (q t : List ℕ) → get (remove w path) q ≡ Some t → IsSome (get (edited del_set w) q)
  del_from q t h =
      elim (eq_by_cmp path_cmp q path) as (λ b. eq_by_cmp path_cmp q path ≡ b → cond b None (get w q) ≡ Some t → IsSome (get (edited del_set w) q)) [
        | true ↦ λ tied k. absurd (none-some t k)
        | false ↦ λ apart k. some_is (get (edited del_set w) q) t
            (has_file del_set w (del_fits w path some) q t
            (inr (kept_file del_set w path (del_goes w path) q t (λ same. true≢false (sym (same_path q path (sym same)) ∙ apart)) k)))
      ] refl (sym (get-remove path_cmp_total w path q) ∙ h)

  pub del_edited : edited (del_changes path) w ≡ remove w path
  del_edited = same_files (edited del_set w) (remove w path) del_to del_from
