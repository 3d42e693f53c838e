-- The text after both steps is the text after the edits at once.
use Rattle.std.proofs.Common.{◌≡◌, ℕ, ◌+◌, ◌-◌, ◌≤◌, List, [], ◌∷◌, ◌++◌, length, take, drop, map, sym, ap, ◌∙◌, append_assoc, arith}
use Rattle.std.specs.List.{slice_range, AllByRecursion}
use Rattle.std.proofs.lemmas.List.{take-append-drop, take-append-le, take-take, take_at, drop-append-le, drop-drop}
use Rattle.std.proofs.lemmas.List.{drop-take, drop_at, length-append, length-take-le}
use Rattle.std.proofs.lemmas.List.{length-drop}
use Rattle.std.proofs.lemmas.List.Elements.{recursion_from_All}
use Rattle.base_edits.specs.Edits.{AreInOrder, edited_from, edited_text}
use Rattle.base_edits.specs.declared.edit.Edit.{Edit}
use Rattle.base_edits.proofs.EditedText.{drop_on, range_then_rest}
use Rattle.law_gained_names.specs.TwoSteps.{NamingEdits, TextsInTwoSteps, at_once, first_step, later_edit, put_first, edit_between}
use Rattle.law_gained_names.proofs.Ordered.{behind_one, end_before}

-- a range in two parts

take_sum : (n m : ℕ) (xs : List ℕ) → take (n + m) xs ≡ take n xs ++ take m (drop n xs)
take_sum n m xs =
    sym (take-append-drop n (take (n + m) xs))
    ∙ ap (λ ys. ys ++ drop n (take (n + m) xs)) (take-take n (n + m) xs (omega arith))
    ∙ ap (λ ys. take n xs ++ ys) (drop-take n m xs)

two_ranges : (xs : List ℕ) (a b c : ℕ) → a ≤ b → b ≤ c → slice_range xs a c ≡ slice_range xs a b ++ slice_range xs b c
two_ranges xs a b c one two =
    ap (λ k. take k (drop a xs)) (let e : c - a ≡ (b - a) + (c - b) = omega arith in e)
    ∙ take_sum (b - a) (c - b) (drop a xs)
    ∙ ap (λ ys. take (b - a) (drop a xs) ++ take (c - b) ys) (drop_on a b xs one)

-- a text that is edited from `b` on only, seen from `a` on
seen_from : (a b : ℕ) (es : List Edit) (text : List ℕ) → a ≤ b → AreInOrder b es → edited_from a es text ≡ slice_range text a b ++ edited_from b es text
seen_from a b [] text le order = sym (range_then_rest text a b le)
seen_from a b (e ∷ es) text le order =
    ap (λ ys. ys ++ (e.text ++ edited_from e.span.end es text)) (two_ranges text a b e.span.start le order.0)
    ∙ append_assoc (slice_range text a b) (slice_range text b e.span.start) (e.text ++ edited_from e.span.end es text)

-- a text in which bytes are put at an offset

module _ (text : List ℕ) (at : ℕ) (within : at ≤ length text) (put : List ℕ) where
  abbrev pub kept : List ℕ
  kept = slice_range text 0 at

  abbrev rest : List ℕ
  rest = drop at text

  abbrev new : List ℕ
  new = kept ++ (put ++ rest)

  kept_is : kept ≡ take at text
  kept_is = ap (λ k. take k text) (let e : at - 0 ≡ at = omega arith in e)

  pub length_kept : length kept ≡ at
  length_kept = ap length kept_is ∙ length-take-le at text within

  drop_kept : (a : ℕ) → a ≤ at → drop a kept ≡ slice_range text a at
  drop_kept a le =
      ap (drop a) (kept_is ∙ ap (λ k. take k text) (let e : at ≡ a + (at - a) = omega arith in e)) ∙ drop-take a (at - a) text

  -- before the offset nothing changes
  same_before : (a b : ℕ) → a ≤ b → b ≤ at → slice_range new a b ≡ slice_range text a b
  same_before a b one two =
      let size = length_kept in
      ap (take (b - a)) (drop-append-le a kept (put ++ rest) (let le : a ≤ length kept = omega arith in le) ∙
      ap (λ ys. ys ++ (put ++ rest)) (drop_kept a (let le : a ≤ at = omega arith in le)))
      ∙ take-append-le (b - a) (slice_range text a at) (put ++ rest)
      (let len : length (slice_range text a at) ≡ at - a = ap length (sym (drop_kept a (let le : a ≤ at = omega arith in le))) ∙ length-drop a kept ∙
      ap (λ k. k - a) length_kept in let le : b - a ≤ length (slice_range text a at) = omega arith in le)
      ∙ take-take (b - a) (at - a) (drop a text) (let le : b - a ≤ at - a = omega arith in le)

  -- behind it all is moved
  at_rest : drop (at + length put) new ≡ rest
  at_rest =
      ap (drop (at + length put)) (sym (append_assoc kept put rest))
      ∙ drop_at (kept ++ put) rest (at + length put) (length-append kept put ∙ ap (λ k. k + length put) length_kept)

  same_drop : (a : ℕ) → at ≤ a → drop (a + length put) new ≡ drop a text
  same_drop a le =
      sym (drop-drop (a - at) (at + length put) new ∙ ap (λ k. drop k new) (let e : (at + length put) + (a - at) ≡ a + length put = omega arith in e))
      ∙ ap (drop (a - at)) at_rest
      ∙ drop-drop (a - at) at text
      ∙ ap (λ k. drop k text) (let e : at + (a - at) ≡ a = omega arith in e)

  same_behind : (a : ℕ) (fs : List Edit) → at ≤ a → AreInOrder a fs →
      edited_from (a + length put) (map (later_edit (length put)) fs) new ≡ edited_from a fs text
  same_behind a [] le order = same_drop a le
  same_behind a (d ∷ fs) le order =
      let one : a ≤ d.span.start = order.0 in
      let two : d.span.start ≤ d.span.end = order.1 in
      let range : slice_range new (a + length put) (d.span.start + length put) ≡ slice_range text a d.span.start =
      ap (λ k. take k (drop (a + length put) new)) (let e : (d.span.start + length put) - (a + length put) ≡ d.span.start - a = omega arith in e) ∙
      ap (take (d.span.start - a)) (same_drop a le) in
      ap (λ ys. ys ++ (d.text ++ edited_from (d.span.end + length put) (map (later_edit (length put)) fs) new)) range
      ∙ ap (λ ys. slice_range text a d.span.start ++ (d.text ++ ys))
      (same_behind d.span.end fs (let e : at ≤ d.span.end = omega arith in e) order.2)

  pub later_order : (a k : ℕ) (fs : List Edit) → AreInOrder a fs → AreInOrder (a + k) (map (later_edit k) fs)
  later_order a k [] order = tt
  later_order a k (d ∷ fs) order =
      let one : a ≤ d.span.start = order.0 in
      let two : d.span.start ≤ d.span.end = order.1 in
      ((omega arith), (omega arith), later_order d.span.end k fs order.2)

-- the bytes that are put, in three parts

module _ (text : List ℕ) (at : ℕ) (within : at ≤ length text) (front own back : List ℕ) where
  abbrev pub all : List ℕ
  all = front ++ (own ++ back)

  abbrev behind_it : List ℕ
  behind_it = drop at text

  abbrev put_in : List ℕ
  put_in = slice_range text 0 at ++ (all ++ behind_it)

  pub length_all : length all ≡ length front + (length own + length back)
  length_all = length-append front (own ++ back) ∙ ap (λ k. length front + k) (length-append own back)

  front_range : (a : ℕ) → a ≤ at → slice_range put_in a (at + length front) ≡ slice_range text a at ++ front
  front_range a le =
      let size = length_kept text at within all in
      let kept = slice_range text 0 at in
      let part = slice_range text a at in
      let len : length part ≡ at - a = ap length (sym (drop_kept text at within all a le)) ∙ length-drop a kept ∙ ap (λ k. k - a) size in
      ap (take ((at + length front) - a)) (drop-append-le a kept (all ++ behind_it) (omega arith)
      ∙ ap (λ ys. ys ++ (all ++ behind_it)) (drop_kept text at within all a le)
      ∙ ap (λ ys. part ++ ys) (append_assoc front (own ++ back) behind_it)
      ∙ sym (append_assoc part front ((own ++ back) ++ behind_it)))
      ∙ take_at (part ++ front) ((own ++ back) ++ behind_it) ((at + length front) - a)
      (length-append part front ∙ (let e : length part + length front ≡ (at + length front) - a = omega arith in e))

  back_range : slice_range put_in ((at + length front) + length own) (at + length all) ≡ back
  back_range =
      let size = length_kept text at within all in
      let kept = slice_range text 0 at in
      let len = length_all in
      ap (λ ys. take ((at + length all) - ((at + length front) + length own)) (drop ((at + length front) + length own) ys))
      (ap (λ ys. kept ++ ys) (append_assoc front (own ++ back) behind_it ∙ ap (λ ys. front ++ ys) (append_assoc own back behind_it))
      ∙ sym (append_assoc kept front (own ++ (back ++ behind_it)))
      ∙ sym (append_assoc (kept ++ front) own (back ++ behind_it)))
      ∙ ap (take ((at + length all) - ((at + length front) + length own)))
      (drop_at ((kept ++ front) ++ own) (back ++ behind_it) ((at + length front) + length own)
      (length-append (kept ++ front) own ∙ ap (λ k. k + length own) (length-append kept front ∙ ap (λ k. k + length front) size)))
      ∙ take_at back behind_it ((at + length all) - ((at + length front) + length own))
      (let e : length back ≡ (at + length all) - ((at + length front) + length own) = omega arith in e)

-- both ways

module _ (n : NamingEdits) (text : List ℕ) (within : n.at ≤ length text) (order : AreInOrder n.at n.behind) where
  abbrev k : ℕ
  k = length (put_first n)

  abbrev after : List ℕ
  after = edited_text (first_step n) text

  abbrev middle : ℕ
  middle = (n.at + length n.front) + length n.own

  last_part : edited_from middle (map (later_edit k) n.behind) after ≡ n.back ++ edited_from n.at n.behind text
  last_part =
      let len = length_all text n.at within n.front n.own n.back in
      seen_from middle (n.at + k) (map (later_edit k) n.behind) after (omega arith)
      (later_order text n.at within (put_first n) n.at k n.behind order)
      ∙ ap (λ ys. ys ++ edited_from (n.at + k) (map (later_edit k) n.behind) after) (back_range text n.at within n.front n.own n.back)
      ∙ ap (λ ys. n.back ++ ys) (same_behind text n.at within (put_first n) n.at n.behind (omega arith) order)

  from_before : (a : ℕ) (es : List Edit) → a ≤ n.at → AllByRecursion (λ d. d.span.end ≤ n.at) es →
      AreInOrder a (es ++ edit_between n.at n.at (n.front ++ (n.name ++ n.back)) ∷ n.behind) →
      edited_from a (es ++ edit_between (n.at + length n.front) middle n.name ∷ map (later_edit k) n.behind) after ≡
      edited_from a (es ++ edit_between n.at n.at (n.front ++ (n.name ++ n.back)) ∷ n.behind) text
  from_before a [] le ends order =
      let part = slice_range text a n.at in
      let last = edited_from n.at n.behind text in
      ap (λ ys. ys ++ (n.name ++ edited_from middle (map (later_edit k) n.behind) after)) (front_range text n.at within n.front n.own n.back a le)
      ∙ ap (λ ys. (part ++ n.front) ++ (n.name ++ ys)) last_part
      ∙ append_assoc part n.front (n.name ++ (n.back ++ last))
      ∙ ap (λ ys. part ++ ys) (ap (λ ys. n.front ++ ys) (sym (append_assoc n.name n.back last)) ∙ sym (append_assoc n.front (n.name ++ n.back) last))
  from_before a (d ∷ es) le ends order =
      let one : a ≤ d.span.start = order.0 in
      let two : d.span.start ≤ d.span.end = order.1 in
      let three : d.span.end ≤ n.at = ends.0 in
      ap (λ ys. ys ++ (d.text ++ edited_from d.span.end (es ++ edit_between (n.at + length n.front) middle n.name ∷ map (later_edit k) n.behind) after))
      (same_before text n.at within (put_first n) a d.span.start one (omega arith))
      ∙ ap (λ ys. slice_range text a d.span.start ++ (d.text ++ ys)) (from_before d.span.end es three ends.1 order.2)

-- the offset is within the text
pub last_within : (size : ℕ) (es : List Edit) (e : Edit) (fs : List Edit) → AllByRecursion (λ d. d.span.end ≤ size) (es ++ e ∷ fs) → e.span.end ≤ size
last_within size [] e fs all = all.0
last_within size (d ∷ es) e fs all = last_within size es e fs all.1

pub texts_in_two_steps : TextsInTwoSteps
texts_in_two_steps n text are lie =
    let whole = edit_between n.at n.at (n.front ++ (n.name ++ n.back)) in
    from_before n text
    (last_within (length text) n.before whole n.behind (recursion_from_All (λ e. e.span.end ≤ length text) (at_once n) lie))
    (behind_one 0 n.before whole n.behind are.in_order) 0 n.before (omega arith) (end_before 0 n.before whole n.behind are.in_order) are.in_order
