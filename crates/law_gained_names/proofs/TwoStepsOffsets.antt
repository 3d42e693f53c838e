-- Where both steps move an offset, and how they name what begins there.
use Rattle.std.proofs.Common.{◌≡◌, ℕ, ◌+◌, ◌-◌, ◌<◌, ◌≤◌, ◌⊎◌, ⊎_elim, true, false, cond, nat_le, List, [], ◌∷◌, ◌++◌, length, map, refl, sym, ap}
use Rattle.std.proofs.Common.{◌∙◌, arith}
use Rattle.std.specs.Prelude.{sum_by}
use Rattle.std.specs.List.{AllByRecursion}
use Rattle.std.proofs.lemmas.Bool.{cases_lt}
use Rattle.std.proofs.lemmas.Bool.Decides.{nat_tests}
use Rattle.std.proofs.lemmas.List.{length-append}
use Rattle.std.proofs.lemmas.List.Elements.{filter-append}
use Rattle.std.proofs.lemmas.List.Sums.{sum_by-append, sum_by-cons}
use Rattle.base_edits.specs.Edits.{AreInOrder}
use Rattle.base_edits.specs.Moved.{added_by, edits_before, moved_offset, removed_by}
use Rattle.base_edits.specs.declared.edit.Edit.{Edit}
use Rattle.law_gained_names.specs.TwoSteps.{AreNaming, NamingEdits, OffsetsInTwoSteps, at_once, first_step, later_edit, put_first, edit_between}
use Rattle.law_gained_names.specs.TwoSteps.{second_step}
use Rattle.law_gained_names.proofs.Ordered.{behind_one, end_before}

le_true : (a b : ℕ) → a ≤ b → nat_le a b ≡ true
le_true a b h = grind (arith, nat_tests)

le_false : (a b : ℕ) → b < a → nat_le a b ≡ false
le_false a b h = grind (arith, nat_tests)

le_more : (a b k : ℕ) → nat_le (a + k) (b + k) ≡ nat_le a b
le_more a b k = ⊎_elim
    (λ (lt : b < a). le_false (a + k) (b + k) (omega arith) ∙ sym (le_false a b lt))
    (λ (le : a ≤ b). le_true (a + k) (b + k) (omega arith) ∙ sym (le_true a b le))
    (cases_lt b a)

-- sums over the edits that end at or before an offset

module _ (size : Edit → ℕ) where
  passed : (e : Edit) (es : List Edit) (offset : ℕ) → e.span.end ≤ offset → sum_by size (edits_before (e ∷ es) offset) ≡ size e + sum_by size
      (edits_before es offset)
  passed e es offset le =
      ap (λ b. sum_by size (cond b (e ∷ edits_before es offset) (edits_before es offset))) (le_true e.span.end offset le)
      ∙ sum_by-cons size e (edits_before es offset)

  not_passed : (e : Edit) (es : List Edit) (offset : ℕ) → offset < e.span.end →
      sum_by size (edits_before (e ∷ es) offset) ≡ sum_by size (edits_before es offset)
  not_passed e es offset lt = ap (λ b. sum_by size (cond b (e ∷ edits_before es offset) (edits_before es offset))) (le_false e.span.end offset lt)

  none_passed : (es : List Edit) (offset : ℕ) → AllByRecursion (λ d. offset < d.span.end) es → sum_by size (edits_before es offset) ≡ 0
  none_passed [] offset all = refl
  none_passed (e ∷ es) offset all = not_passed e es offset all.0 ∙ none_passed es offset all.1

  all_passed : (es : List Edit) (one other : ℕ) → AllByRecursion (λ d. d.span.end ≤ one) es → one ≤ other →
      sum_by size (edits_before es one) ≡ sum_by size (edits_before es other)
  all_passed [] one other all le = refl
  all_passed (e ∷ es) one other all le =
      let first : e.span.end ≤ one = all.0 in
      passed e es one first ∙ ap (λ k. size e + k) (all_passed es one other all.1 le) ∙ sym (passed e es other (omega arith))

  in_two : (es : List Edit) (e : Edit) (fs : List Edit) (offset : ℕ) →
      sum_by size (edits_before (es ++ e ∷ fs) offset) ≡ sum_by size (edits_before es offset) + sum_by size (edits_before (e ∷ fs) offset)
  in_two es e fs offset =
      ap (sum_by size) (filter-append (λ (d : Edit). nat_le d.span.end offset) es (e ∷ fs))
      ∙ sum_by-append size (edits_before es offset) (edits_before (e ∷ fs) offset)

  later_passed : (k : ℕ) → ((d : Edit) → size (later_edit k d) ≡ size d) → (es : List Edit) (offset : ℕ) →
      sum_by size (edits_before (map (later_edit k) es) (offset + k)) ≡ sum_by size (edits_before es offset)
  later_passed k same [] offset = refl
  later_passed k same (e ∷ es) offset = ⊎_elim
      (λ (lt : offset < e.span.end).
      not_passed (later_edit k e) (map (later_edit k) es) (offset + k) (let le : offset + k < e.span.end + k = omega arith in le)
      ∙ later_passed k same es offset ∙ sym (not_passed e es offset lt))
      (λ (le : e.span.end ≤ offset).
      passed (later_edit k e) (map (later_edit k) es) (offset + k) (let more : e.span.end + k ≤ offset + k = omega arith in more)
      ∙ ap (λ n. n + sum_by size (edits_before (map (later_edit k) es) (offset + k))) (same e)
      ∙ ap (λ n. size e + n) (later_passed k same es offset)
      ∙ sym (passed e es offset le))
      (cases_lt offset e.span.end)

abbrev size_new : Edit → ℕ
size_new e = length e.text

abbrev size_old : Edit → ℕ
size_old e = e.span.end - e.span.start

later_old : (k : ℕ) (d : Edit) → size_old (later_edit k d) ≡ size_old d
later_old k d = omega arith

module _ (n : NamingEdits) (offset : ℕ) (are : AreNaming n) where
  abbrev pub whole : Edit
  whole = edit_between n.at n.at (n.front ++ (n.name ++ n.back))

  abbrev pub k : ℕ
  k = length (put_first n)

  abbrev pub renamed : Edit
  renamed = edit_between (n.at + length n.front) ((n.at + length n.front) + length n.own) n.name

  pub length_put : k ≡ length n.front + (length n.own + length n.back)
  length_put = length-append n.front (n.own ++ n.back) ∙ ap (λ m. length n.front + m) (length-append n.own n.back)

  length_whole : length whole.text ≡ length n.front + (length n.name + length n.back)
  length_whole = length-append n.front (n.name ++ n.back) ∙ ap (λ m. length n.front + m) (length-append n.name n.back)

  ends : AllByRecursion (λ d. d.span.end ≤ n.at) n.before
  ends = end_before 0 n.before whole n.behind are.in_order

  order_behind : AreInOrder n.at n.behind
  order_behind = behind_one 0 n.before whole n.behind are.in_order

  -- an offset before the place of the name

  later_ends : (a m o : ℕ) (fs : List Edit) → AreInOrder a fs → o < a + m → AllByRecursion (λ d. o < d.span.end) (map (later_edit m) fs)
  later_ends a m o [] order lt = tt
  later_ends a m o (d ∷ fs) order lt =
      let one : a ≤ d.span.start = order.0 in
      let two : d.span.start ≤ d.span.end = order.1 in
      ((omega arith), later_ends d.span.end m o fs order.2 (omega arith))

  ends_later : (a o : ℕ) (fs : List Edit) → AreInOrder a fs → o < a → AllByRecursion (λ d. o < d.span.end) fs
  ends_later a o [] order lt = tt
  ends_later a o (d ∷ fs) order lt =
      let one : a ≤ d.span.start = order.0 in
      let two : d.span.start ≤ d.span.end = order.1 in
      ((omega arith), ends_later d.span.end o fs order.2 (omega arith))

  early_once : (size : Edit → ℕ) → offset < n.at →
      sum_by size (edits_before (at_once n) offset) ≡ sum_by size (edits_before n.before offset) + 0
  early_once size lt =
      in_two size n.before whole n.behind offset
      ∙ ap (λ m. sum_by size (edits_before n.before offset) + m)
      (none_passed size (whole ∷ n.behind) offset (lt, ends_later n.at offset n.behind order_behind lt))

  early_second : (size : Edit → ℕ) → offset < n.at →
      sum_by size (edits_before (second_step n) offset) ≡ sum_by size (edits_before n.before offset) + 0
  early_second size lt =
      in_two size n.before renamed (map (later_edit k) n.behind) offset
      ∙ ap (λ m. sum_by size (edits_before n.before offset) + m)
      (none_passed size (renamed ∷ map (later_edit k) n.behind) offset
      ((omega arith), later_ends n.at k offset n.behind order_behind (let le : offset < n.at + k = omega arith in le)))

  pub early_first : offset < n.at → moved_offset (first_step n) offset ≡ offset
  early_first lt =
      let added = none_passed size_new (first_step n) offset (lt, tt) in
      let removed = none_passed size_old (first_step n) offset (lt, tt) in
      unmoved offset (added_by (edits_before (first_step n) offset)) (removed_by (edits_before (first_step n) offset)) added removed
    where
      unmoved : (o a r : ℕ) → a ≡ 0 → r ≡ 0 → (o + a) - r ≡ o
      unmoved o a r e f = omega arith

  early : offset < n.at → moved_offset (second_step n) (moved_offset (first_step n) offset) ≡ moved_offset (at_once n) offset
  early lt =
      ap (moved_offset (second_step n)) (early_first lt)
      ∙ ap (λ m. (offset + m) - removed_by (edits_before (second_step n) offset)) (early_second size_new lt ∙ sym (early_once size_new lt))
      ∙ ap (λ m. (offset + added_by (edits_before (at_once n) offset)) - m) (early_second size_old lt ∙ sym (early_once size_old lt))

  -- an offset behind it

  pub late_first : n.at ≤ offset → moved_offset (first_step n) offset ≡ offset + k
  late_first le =
      let added = passed size_new (edit_between n.at n.at (put_first n)) [] offset le in
      let removed = passed size_old (edit_between n.at n.at (put_first n)) [] offset le in
      shifted offset k (added_by (edits_before (first_step n) offset)) (removed_by (edits_before (first_step n) offset)) n.at added removed
    where
      shifted : (o k a r at : ℕ) → a ≡ k + 0 → r ≡ (at - at) + 0 → (o + a) - r ≡ o + k
      shifted o k a r at e f = omega arith

  late_once : (size : Edit → ℕ) → n.at ≤ offset → sum_by size (edits_before (at_once n) offset) ≡
      sum_by size (edits_before n.before offset) + (size whole + sum_by size (edits_before n.behind offset))
  late_once size le =
      in_two size n.before whole n.behind offset
      ∙ ap (λ m. sum_by size (edits_before n.before offset) + m) (passed size whole n.behind offset le)

  late_second : (size : Edit → ℕ) → ((d : Edit) → size (later_edit k d) ≡ size d) → n.at ≤ offset →
      sum_by size (edits_before (second_step n) (offset + k)) ≡
      sum_by size (edits_before n.before offset) + (size renamed + sum_by size (edits_before n.behind offset))
  late_second size same le =
      let len = length_put in
      let others = map (later_edit k) n.behind in
      in_two size n.before renamed others (offset + k)
      ∙ ap (λ m. m + sum_by size (edits_before (renamed ∷ others) (offset + k)))
      (sym (all_passed size n.before n.at (offset + k) ends (omega arith)) ∙ all_passed size n.before n.at offset ends le)
      ∙ ap (λ m. sum_by size (edits_before n.before offset) + m)
      (passed size renamed others (offset + k) (omega arith) ∙ ap (λ m. size renamed + m) (later_passed size k same n.behind offset))

  late : n.at ≤ offset → moved_offset (second_step n) (moved_offset (first_step n) offset) ≡ moved_offset (at_once n) offset
  late le =
      ap (moved_offset (second_step n)) (late_first le)
      ∙ added_up offset k (length n.front) (length n.own) (length n.name) (length n.back) n.at
      (added_by (edits_before (second_step n) (offset + k))) (removed_by (edits_before (second_step n) (offset + k)))
      (added_by (edits_before (at_once n) offset)) (removed_by (edits_before (at_once n) offset))
      (length whole.text) (added_by (edits_before n.before offset)) (removed_by (edits_before n.before offset))
      (added_by (edits_before n.behind offset)) (removed_by (edits_before n.behind offset))
      length_put length_whole
      (late_second size_new (λ d. refl) le) (late_second size_old (later_old k) le) (late_once size_new le) (late_once size_old le)
    where
      added_up : (o k f w m b at a2 r2 a1 r1 t aa ra az rz : ℕ) → k ≡ f + (w + b) → t ≡ f + (m + b) →
          a2 ≡ aa + (m + az) → r2 ≡ ra + ((((at + f) + w) - (at + f)) + rz) → a1 ≡ aa + (t + az) → r1 ≡ ra + ((at - at) + rz) →
          ((o + k) + a2) - r2 ≡ (o + a1) - r1
      added_up o k f w m b at a2 r2 a1 r1 t aa ra az rz e1 e2 e3 e4 e5 e6 = omega arith

pub offsets_in_two_steps : OffsetsInTwoSteps
offsets_in_two_steps n offset are = ⊎_elim (λ (lt : offset < n.at). early n offset are lt) (λ (le : n.at ≤ offset). late n offset are le) (cases_lt offset n.at)
