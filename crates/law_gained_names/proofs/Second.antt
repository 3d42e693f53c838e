-- The second step fits the workspace after the first one.
use Rattle.std.proofs.Common.{◌≡◌, ℕ, ◌+◌, ◌-◌, ◌≤◌, List, [], ◌∷◌, ◌++◌, length, drop, map, Some, sym, ap, ◌∙◌, subst, arith}
use Rattle.std.specs.FinMap.{get}
use Rattle.std.specs.List.{AllByRecursion, slice_range}
use Rattle.std.specs.Option.{MatchOption}
use Rattle.std.proofs.lemmas.List.{length-append, length-drop}
use Rattle.std.proofs.lemmas.List.Elements.{All-cons, All-from_recursion, All-nil, recursion_from_All}
use Rattle.std.proofs.lemmas.Option.{same_Some}
use Rattle.base_lemmas.proofs.Elements.{nothing_in}
use Rattle.base_files.specs.Workspace.{Workspace}
use Rattle.base_edits.specs.Edits.{AreInOrder, LieWithin, edited_text}
use Rattle.base_edits.specs.EditSet.{FileChanges, edited}
use Rattle.base_edits.specs.Fits.{Fits, HasSpans, path_after}
use Rattle.base_edits.specs.declared.change.FileChange.{FileChange}
use Rattle.base_edits.specs.declared.change.Fate.TheVariants.{Stays}
use Rattle.base_edits.specs.declared.edit.Edit.{Edit}
use Rattle.law_gained_names.specs.FilesInTwoSteps.{SecondStepsLieWithin, TwoStepsExist, one_change}
use Rattle.law_gained_names.specs.TwoSteps.{AreNaming, NamingEdits, at_once, edit_between, first_step, later_edit, put_first, second_step}
use Rattle.law_gained_names.proofs.Ordered.{behind_one}
use Rattle.law_gained_names.proofs.Staying.{edits_one, file_then, same_path_after}
use Rattle.law_gained_names.proofs.Texts.{last_within, later_order, length_all, length_kept}

-- a change of one file fits

module _ (w : Workspace) (path text : List ℕ) (edits : List Edit) (is : get w path ≡ Some text) (within : LieWithin (length text) edits) where
  abbrev s : FileChanges
  s = one_change path edits

  abbrev change : FileChange
  change = record { path = path; edits = edits; fate = Stays }

  same_after : (one after : List ℕ) → path_after s one ≡ Some after → one ≡ after
  same_after one after goes =
      same_Some one after (sym (same_path_after s (edits_one path edits).none_added (edits_one path edits).stay one) ∙ goes)

  pub fits_one : Fits s w
  fits_one = record {
    there =
        All-cons (HasSpans w) change [] (subst (λ o. MatchOption o ⊥ (λ t. LieWithin (length t) edits)) (sym is) within) (All-nil (HasSpans w));
    apart = λ one other after a b. same_after one after a.1 ∙ sym (same_after other after b.1);
    free = λ old file has goes. nothing_in file has;
    once = λ one other a b same. absurd (nothing_in one a);
  }

-- the second step is in order, and within the text

in_order_from : (a b : ℕ) (es : List Edit) → a ≤ b → AreInOrder b es → AreInOrder a es
in_order_from a b [] le order = tt
in_order_from a b (e ∷ es) le order =
    let one : b ≤ e.span.start = order.0 in
    ((omega arith), order.1, order.2)

module _ (n : NamingEdits) (text : List ℕ) (are : AreNaming n) (within : LieWithin (length text) (at_once n)) where
  abbrev whole : Edit
  whole = edit_between n.at n.at (n.front ++ (n.name ++ n.back))

  abbrev k : ℕ
  k = length (put_first n)

  abbrev middle : ℕ
  middle = (n.at + length n.front) + length n.own

  abbrev renamed : Edit
  renamed = edit_between (n.at + length n.front) middle n.name

  all_within : AllByRecursion (λ (e : Edit). e.span.end ≤ length text) (at_once n)
  all_within = recursion_from_All (λ (e : Edit). e.span.end ≤ length text) (at_once n) within

  at_within : n.at ≤ length text
  at_within = last_within (length text) n.before whole n.behind all_within

  put_size : k ≡ length n.front + (length n.own + length n.back)
  put_size = length_all text n.at at_within n.front n.own n.back

  moved_order : AreInOrder middle (map (later_edit k) n.behind)
  moved_order =
      let size = put_size in
      in_order_from middle (n.at + k) (map (later_edit k) n.behind) (omega arith)
      (later_order text n.at at_within (put_first n) n.at k n.behind (behind_one 0 n.before whole n.behind are.in_order))

  order_by : (a : ℕ) (es : List Edit) → AreInOrder a (es ++ whole ∷ n.behind) → AreInOrder a (es ++ renamed ∷ map (later_edit k) n.behind)
  order_by a [] order =
      let one : a ≤ n.at = order.0 in
      ((omega arith), (omega arith), moved_order)
  order_by a (e ∷ es) order = (order.0, order.1, order_by e.span.end es order.2)

  -- the text after the first step

  abbrev new : List ℕ
  new = edited_text (first_step n) text

  new_size : length new ≡ length text + k
  new_size =
      let kept = slice_range text 0 n.at in
      let front : length kept ≡ n.at = length_kept text n.at at_within (put_first n) in
      let rest : length (drop n.at text) ≡ length text - n.at = length-drop n.at text in
      let both : length (put_first n ++ drop n.at text) ≡ k + length (drop n.at text) = length-append (put_first n) (drop n.at text) in
      let le = at_within in
      length-append kept (put_first n ++ drop n.at text)
      ∙ (let e : length kept + length (put_first n ++ drop n.at text) ≡ length text + k = omega arith in e)

  moved_within : (es : List Edit) → AllByRecursion (λ (e : Edit). e.span.end ≤ length text) es →
      AllByRecursion (λ (e : Edit). e.span.end ≤ length new) (map (later_edit k) es)
  moved_within [] all = tt
  moved_within (e ∷ es) all =
      let one : e.span.end ≤ length text = all.0 in
      let size = new_size in
      ((omega arith), moved_within es all.1)

  parts_within : (es : List Edit) → AllByRecursion (λ (e : Edit). e.span.end ≤ length text) (es ++ whole ∷ n.behind) →
      AllByRecursion (λ (e : Edit). e.span.end ≤ length new) (es ++ renamed ∷ map (later_edit k) n.behind)
  parts_within [] all =
      let le = at_within in
      let put = put_size in
      let size = new_size in
      ((omega arith), moved_within n.behind all.1)
  parts_within (e ∷ es) all =
      let one : e.span.end ≤ length text = all.0 in
      let size = new_size in
      ((omega arith), parts_within es all.1)

  pub second_within : LieWithin (length new) (second_step n)
  second_within = All-from_recursion (λ (e : Edit). e.span.end ≤ length new) (second_step n) (parts_within n.before all_within)

  pub second_order : AreInOrder 0 (second_step n)
  second_order = order_by 0 n.before are.in_order

  pub first_within : LieWithin (length text) (first_step n)
  first_within =
      All-cons (λ (e : Edit). e.span.end ≤ length text) (edit_between n.at n.at (put_first n)) [] at_within
      (All-nil (λ (e : Edit). e.span.end ≤ length text))

pub second_steps_lie_within : SecondStepsLieWithin
second_steps_lie_within n text are within = record { in_order = second_order n text are within; within = second_within n text are within }

pub two_steps_exist : TwoStepsExist
two_steps_exist w path text n s is are within whole fits =
    let one = edits_one path (first_step n) in
    let first = fits_one w path text (first_step n) is (first_within n text are within) in
    let then : get (edited (one_change path (first_step n)) w) path ≡ Some (edited_text (first_step n) text) =
    file_then (one_change path (first_step n)) one.none_added one.stay w first path text is
    ∙ ap (λ es. Some (edited_text es text)) one.here in
    record {
      naming = are;
      within = λ other at. subst (λ t. LieWithin (length t) (at_once n)) (same_Some text other (sym is ∙ at)) within;
      whole = whole;
      one = one;
      two = edits_one path (second_step n);
      fits = fits;
      fits_first = first;
      fits_second =
          fits_one (edited (one_change path (first_step n)) w) path (edited_text (first_step n) text) (second_step n) then
          (second_within n text are within);
    }
