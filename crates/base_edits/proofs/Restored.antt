-- The inverse of an edit set that fits leads back from the files after it to those before.
use Rattle.std.proofs.Common.{◌≡◌, ℕ, ◌≤◌, ◌⊎◌, inl, inr, List, Option, Some, None, length, map, refl, sym, ap, subst, ◌∙◌, ⊎_elim, arith}
use Rattle.std.specs.List.{All, Contains, filter_map}
use Rattle.std.specs.Option.{option_map}
use Rattle.std.specs.FinMap.{get}
use Rattle.std.proofs.lemmas.Option.{none-some, same_Some}
use Rattle.std.proofs.lemmas.List.Elements.{Contains-append_left, Contains-append_right, Contains-append_cases, All-contains, All-contains_itself}
use Rattle.std.proofs.lemmas.List.Elements.{All-weaker, All-nil}
use Rattle.base_lemmas.proofs.Elements.{is_mapped}
use Rattle.base_files.specs.Workspace.{Workspace}
use Rattle.base_edits.specs.Edits.{AreInOrder, LieWithin, edited_text}
use Rattle.base_edits.specs.EditSet.{FileChanges, path_by, change_of, file_by, file_after, edited}
use Rattle.base_edits.specs.Fits.{Fits, MovesTo, HasSpans, path_after, path_by_change}
use Rattle.base_edits.specs.Inverse.{AreChanges, IsInverse, reversed, undo_of, drop_of, dropped, inverse}
use Rattle.base_edits.specs.declared.edit.Edit.{Edit}
use Rattle.base_edits.specs.declared.change.FileChange.{FileChange}
use Rattle.base_edits.proofs.Held.{given_from, is_given, mapped_from}
use Rattle.base_edits.proofs.Entries.{same_files, some_is, value_of, none_from}
use Rattle.base_edits.proofs.Changes.{change_found, change_held, none_changed, mapped_is, some_file}
use Rattle.base_edits.proofs.EditedText.{reversed_order, reversed_within, reversed_restore, ends_within, lie_within}
use Rattle.base_edits.proofs.FilesAfter.{IsOldFile, ComesFrom, comes_from, has_file}
use Rattle.base_edits.proofs.Turned.{is_back, back_there, IsLost, is_lost, lost_there, within_there, is_there}

module _ (s : FileChanges) (w : Workspace) (changes : AreChanges s) (fits : Fits s w) where
  abbrev turned : FileChanges
  turned = inverse s w

  abbrev after : Workspace
  after = edited s w

  -- ---- where changes and files of the inverse come from
  abbrev IsTurned : FileChange → Type 0
  IsTurned d = ((c : FileChange) × Contains s.changed c × (undo_of w c ≡ Some d)) ⊎ ((file : List ℕ × List ℕ) × Contains s.added file × (dropped file ≡ d))

  turned_from : (d : FileChange) → Contains turned.changed d → IsTurned d
  turned_from d has =
      ⊎_elim
      (λ (back : Contains (filter_map (undo_of w) s.changed) d). inl (given_from (undo_of w) s.changed d back))
      (λ (drops : Contains (map dropped s.added) d). inr (mapped_from dropped s.added d drops))
      (Contains-append_cases (filter_map (undo_of w) s.changed) (map dropped s.added) d has)

  back_in : (c d : FileChange) → Contains s.changed c → undo_of w c ≡ Some d → Contains turned.changed d
  back_in c d has is = Contains-append_left (filter_map (undo_of w) s.changed) (map dropped s.added) d (is_given (undo_of w) s.changed c d has is)

  dropped_in : (file : List ℕ × List ℕ) → Contains s.added file → Contains turned.changed (dropped file)
  dropped_in file has = Contains-append_right (filter_map (undo_of w) s.changed) (map dropped s.added) (dropped file) (is_mapped dropped s.added file has)

  own_change : (c : FileChange) → Contains s.changed c → change_of s c.path ≡ Some c
  own_change c has = change_held s.changed changes.one_way c.path c has refl

  -- the file of a change that goes back is then where that change is
  back_gets : (c d : FileChange) → Contains s.changed c → undo_of w c ≡ Some d → MovesTo s w c.path d.path
  back_gets c d has is = let b = is_back w c d is in (some_is (get w c.path) b.before b.is, ap (λ o. path_by_change o c.path) (own_change c has) ∙ b.goes.there)

  one_way : (one other : FileChange) → IsTurned one → IsTurned other → one.path ≡ other.path → one ≡ other
  one_way one other (inl a) (inl b) same =
      let path : a.0.path ≡ b.0.path = fits.apart a.0.path b.0.path other.path (subst (MovesTo s w a.0.path) same (back_gets a.0 one a.1 a.2))
      (back_gets b.0 other b.1 b.2) in
      same_Some one other (sym a.2 ∙ ap (undo_of w) (changes.one_way a.0 b.0 a.1 b.1 path) ∙ b.2)
  one_way one other (inl a) (inr b) same = absurd (fits.free a.0.path b.0 b.1
      (subst (MovesTo s w a.0.path) (same ∙ ap (λ (x : FileChange). x.path) (sym b.2)) (back_gets a.0 one a.1 a.2)))
  one_way one other (inr a) (inl b) same = absurd (fits.free b.0.path a.0 a.1
      (subst (MovesTo s w b.0.path) (sym same ∙ ap (λ (x : FileChange). x.path) (sym a.2)) (back_gets b.0 other b.1 b.2)))
  one_way one other (inr a) (inr b) same =
      sym a.2 ∙ ap dropped (fits.once a.0 b.0 a.1 b.1 (ap (λ (x : FileChange). x.path) a.2 ∙ same ∙ ap (λ (x : FileChange). x.path) (sym b.2))) ∙ b.2

  turned_one_way : (one other : FileChange) → Contains turned.changed one → Contains turned.changed other → one.path ≡ other.path → one ≡ other
  turned_one_way one other a b same = one_way one other (turned_from one a) (turned_from other b) same

  -- ---- the change of a path then
  back_change : (c d : FileChange) → Contains s.changed c → undo_of w c ≡ Some d → change_of turned d.path ≡ Some d
  back_change c d has is = change_held turned.changed turned_one_way d.path d (back_in c d has is) refl

  added_change : (file : List ℕ × List ℕ) → Contains s.added file → change_of turned file.0 ≡ Some (dropped file)
  added_change file has = change_held turned.changed turned_one_way file.0 (dropped file) (dropped_in file has) refl

  other_change : (q t : List ℕ) → change_of s q ≡ None → get w q ≡ Some t → change_of turned q ≡ None
  other_change q t none is = none_from (change_of turned q) (λ d some.
      let there = change_found turned.changed q d some in
      let own : MovesTo s w q q = (some_is (get w q) t is, ap (λ o. path_by_change o q) none) in
      ⊎_elim
      (λ (b : (c : FileChange) × Contains s.changed c × (undo_of w c ≡ Some d)).
      none_changed s.changed q b.0 none b.1 (fits.apart b.0.path q q (subst (MovesTo s w b.0.path) there.1 (back_gets b.0 d b.1 b.2)) own))
      (λ (b : (file : List ℕ × List ℕ) × Contains s.added file × (dropped file ≡ d)).
      fits.free q b.0 b.1 (subst (MovesTo s w q) (sym there.1 ∙ ap (λ (x : FileChange). x.path) (sym b.2)) own))
      (turned_from d there.0))

  -- ---- a file goes back where it was
  abbrev IsBackAt : List ℕ → List ℕ → List ℕ → Type 0
  IsBackAt path text new = (get w path ≡ Some text) × (path_after s path ≡ Some new)

  no_file : (u p t : List ℕ) (q : List ℕ) → file_by (Some (dropped (q, u))) (q, u) ≡ Some (p, t) → ⊥
  no_file u p t q h = none-some (p, t) h

  restored : (c d : FileChange) (before : List ℕ) → Contains s.changed c → get w c.path ≡ Some before → undo_of w c ≡ Some d →
      edited_text d.edits (edited_text c.edits before) ≡ before
  restored c d before has is back =
      let b = is_back w c d back in
      let same : b.before ≡ before = same_Some b.before before (sym b.is ∙ is) in
      ap (λ (es : List Edit). edited_text es (edited_text c.edits before)) (b.goes.same_edits ∙ ap (reversed c.edits) same)
      ∙ reversed_restore c.edits before (All-contains (λ (x : FileChange). AreInOrder 0 x.edits) s.changed c changes.in_order has)
      (within_there w c before is (All-contains (HasSpans w) s.changed c fits.there has))

  old_goes_back : (q u p t old before : List ℕ) (o : Option FileChange) → change_of s old ≡ o → get w old ≡ Some before → file_by o (old, before) ≡ Some (q, u)
      → file_after turned (q, u) ≡ Some (p, t) → IsBackAt p t q
  old_goes_back q u p t old before None none is gives back =
      let same = same_Some (old, before) (q, u) gives in
      let path : old ≡ q = ap (λ (e : List ℕ × List ℕ). e.0) same in
      let kept : change_of turned q ≡ None = subst (λ (x : List ℕ). change_of turned x ≡ None) path (other_change old before none is) in
      let file : (q, u) ≡ (p, t) = same_Some (q, u) (p, t) (sym (ap (λ o. file_by o (q, u)) kept) ∙ back) in
      let whole : (old, before) ≡ (p, t) = same ∙ file in (
        subst (λ (e : List ℕ × List ℕ). get w e.0 ≡ Some e.1) whole is,
        subst (λ (x : List ℕ). path_after s x ≡ Some q) (ap (λ (e : List ℕ × List ℕ). e.0) whole) (ap (λ o. path_by_change o old) none ∙ ap Some path),
      )
  old_goes_back q u p t old before (Some c) some is gives back =
      let there = change_found s.changed old c some in
      let at : get w c.path ≡ Some before = ap (get w) there.1 ∙ is in
      let new = mapped_is (path_by c.fate old) (edited_text c.edits before) q u gives in
      let moves : path_by c.fate c.path ≡ Some q = ap (path_by c.fate) there.1 ∙ new.0 in
      let d = back_there w c before q at moves in
      let b = is_back w c d.0 d.1 in
      let to : d.0.path ≡ q = same_Some d.0.path q (sym b.goes.there ∙ moves) in
      let change : change_of turned q ≡ Some d.0 = subst (λ (x : List ℕ). change_of turned x ≡ Some d.0) to (back_change c d.0 there.0 d.1) in
      let gives_back = mapped_is (path_by d.0.fate q) (edited_text d.0.edits u) p t (sym (ap (λ o. file_by o (q, u)) change) ∙ back) in
      let path : c.path ≡ p = same_Some c.path p (sym b.goes.back ∙ ap (path_by d.0.fate) to ∙ gives_back.0) in
      let text : before ≡ t = sym (restored c d.0 before there.0 at d.1) ∙ ap (edited_text d.0.edits) new.1 ∙ gives_back.1 in (
        ap (get w) (sym path) ∙ at ∙ ap Some text,
        ap (path_after s) (sym path) ∙ ap (λ o. path_by_change o c.path) (own_change c there.0) ∙ moves,
      )

  goes_back : (q u p t : List ℕ) → get after q ≡ Some u → file_after turned (q, u) ≡ Some (p, t) → IsBackAt p t q
  goes_back q u p t is back =
      ⊎_elim
      (λ (new : Contains s.added (q, u)). absurd (no_file u p t q (sym (ap (λ o. file_by o (q, u)) (added_change (q, u) new)) ∙ back)))
      (λ (o : IsOldFile s w q u). old_goes_back q u p t o.0 o.1 (change_of s o.0) refl o.2 o.3 back)
      (comes_from s w q u is)

  path_back : (q p : List ℕ) → MovesTo turned after q p → (t : List ℕ) × IsBackAt p t q
  path_back q p h =
      let u = value_of (get after q) h.0 in
      let file = some_file (change_of turned q) q u.0 p h.1 in
      (file.0, goes_back q u.0 p file.0 u.1 file.1)

  -- ---- the inverse fits
  all_held : {X : Type 0} (P : X → Type 0) (xs : List X) → ((x : X) → Contains xs x → P x) → All P xs
  all_held P xs each = All-weaker (Contains xs) P each xs (All-contains_itself xs)

  turned_there : (d : FileChange) → IsTurned d → HasSpans after d
  turned_there d (inl b) =
      let c = b.0 in
      let k = is_back w c d b.2 in
      let new = edited_text c.edits k.before in
      let order = All-contains (λ (x : FileChange). AreInOrder 0 x.edits) s.changed c changes.in_order b.1 in
      let within = within_there w c k.before k.is (All-contains (HasSpans w) s.changed c fits.there b.1) in
      let gives : file_after s (c.path, k.before) ≡ Some (d.path, new) = ap (λ o. file_by o (c.path, k.before)) (own_change c b.1) ∙
      ap (option_map {U = List ℕ × List ℕ} (λ p. (p, new))) k.goes.there in
      let is : get after d.path ≡ Some new = has_file s w fits d.path new (inr (c.path, k.before, k.is, gives)) in
      is_there after d new is (subst (LieWithin (length new)) (sym k.goes.same_edits)
      (lie_within (length new) (reversed c.edits k.before)
      (reversed_within c.edits k.before new 0 0 order (ends_within (length k.before) c.edits within) (omega arith) refl)))
  turned_there d (inr b) =
      subst (HasSpans after) b.2 (is_there after (dropped b.0) b.0.1 (has_file s w fits b.0.0 b.0.1 (inl b.1))
      (All-nil (λ (e : Edit). e.span.end ≤ length b.0.1)))

  lost_in : (file : List ℕ × List ℕ) → Contains turned.added file → (c : FileChange) × Contains s.changed c × IsLost w c file
  lost_in file has = let r = given_from (drop_of w) s.changed file has in (r.0, r.1, is_lost w r.0 file r.2)

  lost_at : (file : List ℕ × List ℕ) → Contains turned.added file → get w file.0 ≡ Some file.1
  lost_at file has = let r = lost_in file has in ap (get w) (sym r.2.path) ∙ r.2.is

  lost_path : (file : List ℕ × List ℕ) → Contains turned.added file → path_after s file.0 ≡ None
  lost_path file has = let r = lost_in file has in ap (path_after s) (sym r.2.path) ∙ ap (λ o. path_by_change o r.0.path) (own_change r.0 r.1) ∙ r.2.none

  turned_fits : Fits turned after
  turned_fits = record {
    there = all_held (HasSpans after) turned.changed (λ d has. turned_there d (turned_from d has));
    apart = λ one other path a b. same_Some one other (sym (path_back one path a).1.1 ∙ (path_back other path b).1.1);
    free = λ old file has h. none-some old (sym (lost_path file has) ∙ (path_back old file.0 h).1.1);
    once = λ one other a b same. (λ i. (same i, same_Some one.1 other.1 (sym (lost_at one a) ∙ ap (get w) same ∙ lost_at other b) i));
  }

  -- ---- and gives the files from before
  lost_file : (c : FileChange) (p t : List ℕ) → Contains s.changed c → c.path ≡ p → get w p ≡ Some t → path_by c.fate p ≡ None → Contains turned.added (p, t)
  lost_file c p t has at is none =
      let here : get w c.path ≡ Some t = ap (get w) at ∙ is in
      subst (λ (x : List ℕ). Contains turned.added (x, t)) at
      (is_given (drop_of w) s.changed c (c.path, t) has (lost_there w c t here (ap (path_by c.fate) at ∙ none)))

  moved_file : (c : FileChange) (p t q : List ℕ) → Contains s.changed c → c.path ≡ p → get w p ≡ Some t → path_by c.fate p ≡ Some q → (x : List ℕ) ×
      ComesFrom turned after p x
  moved_file c p t q has at is moves =
      let here : get w c.path ≡ Some t = ap (get w) at ∙ is in
      let goes : path_by c.fate c.path ≡ Some q = ap (path_by c.fate) at ∙ moves in
      let new = edited_text c.edits t in
      let gives : file_after s (c.path, t) ≡ Some (q, new) = ap (λ o. file_by o (c.path, t)) (own_change c has) ∙
      ap (option_map {U = List ℕ × List ℕ} (λ x. (x, new))) goes in
      let there : get after q ≡ Some new = has_file s w fits q new (inr (c.path, t, here, gives)) in
      let d = back_there w c t q here goes in
      let b = is_back w c d.0 d.1 in
      let to : d.0.path ≡ q = same_Some d.0.path q (sym b.goes.there ∙ goes) in
      let change : change_of turned q ≡ Some d.0 = subst (λ (x : List ℕ). change_of turned x ≡ Some d.0) to (back_change c d.0 has d.1) in
      let back : path_after turned q ≡ Some p = ap (λ o. path_by_change o q) change ∙ ap (path_by d.0.fate) (sym to) ∙ b.goes.back ∙ ap Some at in
      let file = some_file (change_of turned q) q new p back in
      (file.0, inr (q, new, there, file.1))

  with_change : (p t : List ℕ) (c : FileChange) (o : Option (List ℕ)) → Contains s.changed c → c.path ≡ p → get w p ≡ Some t → path_by c.fate p ≡ o →
      (x : List ℕ) × ComesFrom turned after p x
  with_change p t c None has at is goes = (t, inl (lost_file c p t has at is goes))
  with_change p t c (Some q) has at is goes = moved_file c p t q has at is goes

  comes_back : (p t : List ℕ) (o : Option FileChange) → change_of s p ≡ o → get w p ≡ Some t → (x : List ℕ) × ComesFrom turned after p x
  comes_back p t None none is =
      let there : get after p ≡ Some t = has_file s w fits p t (inr (p, t, is, ap (λ o. file_by o (p, t)) none)) in
      (t, inr (p, t, there, ap (λ o. file_by o (p, t)) (other_change p t none is)))
  comes_back p t (Some c) some is = let there = change_found s.changed p c some in with_change p t c (path_by c.fate p) there.0 there.1 is refl

  turned_from_after : (p t : List ℕ) → get (edited turned after) p ≡ Some t → get w p ≡ Some t
  turned_from_after p t h =
      ⊎_elim
      (λ (lost : Contains turned.added (p, t)). lost_at (p, t) lost)
      (λ (o : IsOldFile turned after p t). (goes_back o.0 o.1 p t o.2 o.3).0)
      (comes_from turned after p t h)

  turned_gives : edited turned after ≡ w
  turned_gives = same_files (edited turned after) w turned_from_after (λ p t is.
      let r = comes_back p t (change_of s p) refl is in
      some_is (get (edited turned after) p) r.0 (has_file turned after turned_fits p r.0 r.1))

  pub leads_back : IsInverse (inverse s w) (edited s w) w
  leads_back = record { fits = turned_fits; back = turned_gives }

  turned_order : (d : FileChange) → IsTurned d → AreInOrder 0 d.edits
  turned_order d (inl b) = let k = is_back w b.0 d b.2 in subst (AreInOrder 0) (sym k.goes.same_edits) (reversed_order b.0.edits k.before 0 0)
  turned_order d (inr b) = subst (λ (x : FileChange). AreInOrder 0 x.edits) b.2 tt

  pub inverse_changes : AreChanges (inverse s w)
  inverse_changes = record {
    in_order = all_held (λ (x : FileChange). AreInOrder 0 x.edits) turned.changed (λ d has. turned_order d (turned_from d has));
    one_way = turned_one_way;
  }
