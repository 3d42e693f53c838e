-- How both steps name what begins at an offset.
use Rattle.std.proofs.Common.{◌≡◌, ℕ, ◌+◌, ◌<◌, ◌≤◌, ⊎_elim, true, false, cond, List, [], ◌∷◌, ◌++◌, length, map, refl, sym, ap, ◌∙◌, arith}
use Rattle.std.specs.Prelude.{Some, None, find, ◌==◌, nat_lt, ◌&&◌}
use Rattle.std.specs.List.{AllByRecursion}
use Rattle.std.proofs.lemmas.Bool.{cases_lt}
use Rattle.std.proofs.lemmas.Bool.Decides.{nat_tests}
use Rattle.base_edits.specs.Moved.{moved_offset}
use Rattle.base_edits.specs.RevisionsOfEdits.{replaces_at, text_or}
use Rattle.base_edits.specs.declared.edit.Edit.{Edit}
use Rattle.law_gained_names.specs.TwoSteps.{AreNaming, NamesInTwoSteps, NamingEdits, at_once, first_step, later_edit, put_first, edit_between, second_step}
use Rattle.law_gained_names.proofs.Ordered.{begin_behind, behind_one, end_before}
use Rattle.law_gained_names.proofs.TwoStepsOffsets.{early_first, late_first, length_put}

past : (offset start end : ℕ) → end ≤ offset → ((start == offset) && nat_lt start end) ≡ false
past offset start end h = grind (arith, nat_tests)

later : (offset start end : ℕ) → offset < start → ((start == offset) && nat_lt start end) ≡ false
later offset start end h = grind (arith, nat_tests)

before_it : (offset start end : ℕ) → start < offset → ((start == offset) && nat_lt start end) ≡ false
before_it offset start end h = grind (arith, nat_tests)

both_more : (offset start end k : ℕ) → (((start + k) == (offset + k)) && nat_lt (start + k) (end + k)) ≡ ((start == offset) && nat_lt start end)
both_more offset start end k = grind (arith, nat_tests)

skip : (offset : ℕ) (e : Edit) (es : List Edit) → replaces_at offset e ≡ false → find (replaces_at offset) (e ∷ es) ≡ find (replaces_at offset) es
skip offset e es fails = ap (λ b. cond b (Some e) (find (replaces_at offset) es)) fails

-- no edit that ends before the offset or there
skip_all : (a offset : ℕ) (es fs : List Edit) → AllByRecursion (λ d. d.span.end ≤ a) es → a ≤ offset →
    find (replaces_at offset) (es ++ fs) ≡ find (replaces_at offset) fs
skip_all a offset [] fs ends le = refl
skip_all a offset (e ∷ es) fs ends le =
    let one : e.span.end ≤ a = ends.0 in
    skip offset e (es ++ fs) (past offset e.span.start e.span.end (omega arith)) ∙ skip_all a offset es fs ends.1 le

-- none that begins behind it
skip_behind : (offset : ℕ) (fs : List Edit) → AllByRecursion (λ d. offset < d.span.start) fs →
    find (replaces_at offset) fs ≡ None
skip_behind offset [] all = refl
skip_behind offset (e ∷ fs) all = skip offset e fs (later offset e.span.start e.span.end all.0) ∙ skip_behind offset fs all.1

-- the same first edits
same_first : (offset : ℕ) (es fs gs : List Edit) → find (replaces_at offset) fs ≡ find (replaces_at offset) gs →
    find (replaces_at offset) (es ++ fs) ≡ find (replaces_at offset) (es ++ gs)
same_first offset [] fs gs same = same
same_first offset (e ∷ es) fs gs same = ap (cond (replaces_at offset e) (Some e)) (same_first offset es fs gs same)

-- moved edits
moved_edits : (old : List ℕ) (offset k : ℕ) (fs : List Edit) →
    text_or old (find (replaces_at (offset + k)) (map (later_edit k) fs)) ≡ text_or old (find (replaces_at offset) fs)
moved_edits old offset k [] = refl
moved_edits old offset k (e ∷ fs) =
    ap (λ b. text_or old (cond b (Some (later_edit k e)) (find (replaces_at (offset + k)) (map (later_edit k) fs))))
    (both_more offset e.span.start e.span.end k)
    ∙ elim (replaces_at offset e) as (λ b. text_or old (cond b (Some (later_edit k e)) (find (replaces_at (offset + k)) (map (later_edit k) fs))) ≡
    text_or old (cond b (Some e) (find (replaces_at offset) fs))) [
      | true ↦ refl
      | false ↦ moved_edits old offset k fs
    ]

above : (offset a : ℕ) (fs : List Edit) → offset < a → AllByRecursion (λ d. a ≤ d.span.start) fs → AllByRecursion (λ d. offset < d.span.start) fs
above offset a [] lt all = tt
above offset a (e ∷ fs) lt all = ((let one : a ≤ e.span.start = all.0 in omega arith), above offset a fs lt all.1)

above_later : (offset a k : ℕ) (fs : List Edit) → offset < a → AllByRecursion (λ d. a ≤ d.span.start) fs →
    AllByRecursion (λ d. offset < d.span.start) (map (later_edit k) fs)
above_later offset a k [] lt all = tt
above_later offset a k (e ∷ fs) lt all = ((let one : a ≤ e.span.start = all.0 in omega arith), above_later offset a k fs lt all.1)

module _ (n : NamingEdits) (offset : ℕ) (old : List ℕ) (are : AreNaming n) where
  abbrev whole : Edit
  whole = edit_between n.at n.at (n.front ++ (n.name ++ n.back))

  abbrev k : ℕ
  k = length (put_first n)

  abbrev renamed : Edit
  renamed = edit_between (n.at + length n.front) ((n.at + length n.front) + length n.own) n.name

  ends : AllByRecursion (λ d. d.span.end ≤ n.at) n.before
  ends = end_before 0 n.before whole n.behind are.in_order

  begins : AllByRecursion (λ d. n.at ≤ d.span.start) n.behind
  begins = begin_behind n.at n.behind (behind_one 0 n.before whole n.behind are.in_order)

  early : offset < n.at →
      text_or old (find (replaces_at (moved_offset (first_step n) offset)) (second_step n)) ≡ text_or old (find (replaces_at offset) (at_once n))
  early lt =
      ap (λ o. text_or old (find (replaces_at o) (second_step n))) (early_first n offset are lt)
      ∙ ap (text_or old)
      (same_first offset n.before (renamed ∷ map (later_edit k) n.behind) (whole ∷ n.behind)
      (skip_behind offset (renamed ∷ map (later_edit k) n.behind) ((omega arith), above_later offset n.at k n.behind lt begins)
      ∙ sym (skip_behind offset (whole ∷ n.behind) (lt, above offset n.at n.behind lt begins))))

  late : n.at ≤ offset →
      text_or old (find (replaces_at (moved_offset (first_step n) offset)) (second_step n)) ≡ text_or old (find (replaces_at offset) (at_once n))
  late le =
      let len = length_put n offset are in
      let some = are.named in
      ap (λ o. text_or old (find (replaces_at o) (second_step n))) (late_first n offset are le)
      ∙ ap (text_or old)
      (skip_all n.at (offset + k) n.before (renamed ∷ map (later_edit k) n.behind) ends (omega arith)
      ∙ skip (offset + k) renamed (map (later_edit k) n.behind)
      (before_it (offset + k) renamed.span.start renamed.span.end (let lt : n.at + length n.front < offset + k = omega arith in lt)))
      ∙ moved_edits old offset k n.behind
      ∙ sym (ap (text_or old)
      (skip_all n.at offset n.before (whole ∷ n.behind) ends le ∙ skip offset whole n.behind (past offset n.at n.at le)))

pub names_in_two_steps : NamesInTwoSteps
names_in_two_steps n offset old are =
    ⊎_elim (λ (lt : offset < n.at). early n offset old are lt) (λ (le : n.at ≤ offset). late n offset old are le) (cases_lt offset n.at)
