-- Edits that begin one behind another are told by their members.
use Rattle.std.proofs.Common.{◌≡◌, ℕ, ◌+◌, ◌<◌, ◌≤◌, inl, inr, List, [], ◌∷◌, ◌++◌, length, map, refl, sym, ap, ◌∙◌, subst, arith}
use Rattle.std.specs.Prelude.{Contains}
use Rattle.std.specs.List.{AllByRecursion}
use Rattle.std.proofs.lemmas.List.{length-append}
use Rattle.std.proofs.lemmas.List.Elements.{All-contains, All-from_recursion, Contains-append_cases, Contains-append_left, Contains-append_right}
use Rattle.base_lemmas.proofs.Elements.{first_in, first_or_later, is_mapped, later_in, nothing_in}
use Rattle.base_edits.specs.declared.edit.Edit.{Edit}
use Rattle.base_edits.proofs.Held.{mapped_from}
use Rattle.law_gained_names.specs.Members.{IsSecondEdit, SecondStepsAreOne, StartsRise}
use Rattle.law_gained_names.specs.TwoSteps.{AreNaming, NamingEdits, at_once, later_edit, put_first, edit_between, second_step}

-- lists with the same members

begins_behind : (e : Edit) (es : List Edit) → AllByRecursion (λ d. e.span.start < d.span.start) es → (d : Edit) → Contains es d → e.span.start < d.span.start
begins_behind e es all d has =
    let Behind : Edit → Type 0 = λ d. e.span.start < d.span.start in
    All-contains Behind es d (All-from_recursion Behind es all) has

never_both : (a b : ℕ) → a < b → b < a → ⊥
never_both a b one two = omega arith

never_same : (d e : Edit) → d ≡ e → d.span.start < e.span.start → ⊥
never_same d e same lt = let starts : d.span.start ≡ e.span.start = ap (λ (x : Edit). x.span.start) same in omega arith

module _ (x : Edit) (xs : List Edit) (y : Edit) (ys : List Edit) (rise : StartsRise (x ∷ xs)) (rise_too : StartsRise (y ∷ ys))
    (to : (e : Edit) → Contains (x ∷ xs) e → Contains (y ∷ ys) e) (from : (e : Edit) → Contains (y ∷ ys) e → Contains (x ∷ xs) e) where
  same_head : x ≡ y
  same_head = elim (first_or_later y ys x (to x (first_in x xs))) [
    | inl same ↦ sym same
    | inr later ↦ elim (first_or_later x xs y (from y (first_in y ys))) [
      | inl same ↦ same
      | inr behind ↦
          absurd (never_both x.span.start y.span.start (begins_behind x xs rise.0 y behind) (begins_behind y ys rise_too.0 x later))
    ]
  ]

  tail_to : (e : Edit) → Contains xs e → Contains ys e
  tail_to e has = elim (first_or_later y ys e (to e (later_in x xs e has))) [
    | inl same ↦ absurd (never_same x e (same_head ∙ same) (begins_behind x xs rise.0 e has))
    | inr later ↦ later
  ]

  tail_from : (e : Edit) → Contains ys e → Contains xs e
  tail_from e has = elim (first_or_later x xs e (from e (later_in y ys e has))) [
    | inl same ↦ absurd (never_same y e (sym same_head ∙ same) (begins_behind y ys rise_too.0 e has))
    | inr later ↦ later
  ]

one_list : (xs ys : List Edit) → StartsRise xs → StartsRise ys → ((e : Edit) → Contains xs e → Contains ys e) → ((e : Edit) → Contains ys e → Contains xs e) →
    xs ≡ ys
one_list [] [] rise rise_too to from = refl
one_list [] (y ∷ ys) rise rise_too to from = absurd (nothing_in y (from y (first_in y ys)))
one_list (x ∷ xs) [] rise rise_too to from = absurd (nothing_in x (to x (first_in x xs)))
one_list (x ∷ xs) (y ∷ ys) rise rise_too to from =
    let head = same_head x xs y ys rise rise_too to from in
    let tail = one_list xs ys rise.1 rise_too.1 (tail_to x xs y ys rise rise_too to from) (tail_from x xs y ys rise rise_too to from) in
    λ m. head m ∷ tail m

-- lists that are joined

all_joined : (P : Edit → Type 0) (es fs : List Edit) → AllByRecursion P es → AllByRecursion P fs → AllByRecursion P (es ++ fs)
all_joined P [] fs one two = two
all_joined P (e ∷ es) fs one two = (one.0, all_joined P es fs one.1 two)

further : (a b : ℕ) (fs : List Edit) → a < b → AllByRecursion (λ d. b ≤ d.span.start) fs → AllByRecursion (λ d. a < d.span.start) fs
further a b [] lt all = tt
further a b (f ∷ fs) lt all = ((let one : b ≤ f.span.start = all.0 in omega arith), further a b fs lt all.1)

joined : (a : ℕ) (es fs : List Edit) → StartsRise es → AllByRecursion (λ d. d.span.start < a) es → StartsRise fs →
    AllByRecursion (λ d. a ≤ d.span.start) fs → StartsRise (es ++ fs)
joined a [] fs rise below rise_too above = rise_too
joined a (e ∷ es) fs rise below rise_too above =
    (all_joined (λ d. e.span.start < d.span.start) es fs rise.0 (further e.span.start a fs below.0 above), joined a es fs rise.1 below.1 rise_too above)

-- the parts of a list around one of its edits

front_all : (P : Edit → Type 0) (es fs : List Edit) → AllByRecursion P (es ++ fs) → AllByRecursion P es
front_all P [] fs all = tt
front_all P (e ∷ es) fs all = (all.0, front_all P es fs all.1)

back_all : (P : Edit → Type 0) (es fs : List Edit) → AllByRecursion P (es ++ fs) → AllByRecursion P fs
back_all P [] fs all = all
back_all P (e ∷ es) fs all = back_all P es fs all.1

front_rise : (es : List Edit) (e : Edit) (fs : List Edit) → StartsRise (es ++ e ∷ fs) → StartsRise es × AllByRecursion (λ d. d.span.start < e.span.start) es
front_rise [] e fs rise = (tt, tt)
front_rise (d ∷ es) e fs rise =
    let more = front_rise es e fs rise.1 in
    let last = back_all (λ c. d.span.start < c.span.start) es (e ∷ fs) rise.0 in
    ((front_all (λ c. d.span.start < c.span.start) es (e ∷ fs) rise.0, more.0), (last.0, more.1))

back_rise : (es : List Edit) (e : Edit) (fs : List Edit) → StartsRise (es ++ e ∷ fs) → AllByRecursion (λ d. e.span.start < d.span.start) fs × StartsRise fs
back_rise [] e fs rise = rise
back_rise (d ∷ es) e fs rise = back_rise es e fs rise.1

-- moved edits

later_above : (k a : ℕ) (fs : List Edit) → AllByRecursion (λ d. a < d.span.start) fs → AllByRecursion (λ d. a + k < d.span.start) (map (later_edit k) fs)
later_above k a [] all = tt
later_above k a (f ∷ fs) all = ((let one : a < f.span.start = all.0 in omega arith), later_above k a fs all.1)

later_rise : (k : ℕ) (fs : List Edit) → StartsRise fs → StartsRise (map (later_edit k) fs)
later_rise k [] rise = tt
later_rise k (f ∷ fs) rise = (later_above k f.span.start fs rise.0, later_rise k fs rise.1)

lower : (a b : ℕ) (fs : List Edit) → a ≤ b → AllByRecursion (λ d. b < d.span.start) fs → AllByRecursion (λ d. a < d.span.start) fs
lower a b [] le all = tt
lower a b (f ∷ fs) le all = ((let one : b < f.span.start = all.0 in omega arith), lower a b fs le all.1)

above_all : (a : ℕ) (fs : List Edit) → AllByRecursion (λ d. a < d.span.start) fs → AllByRecursion (λ d. a ≤ d.span.start) fs
above_all a [] all = tt
above_all a (f ∷ fs) all = ((let one : a < f.span.start = all.0 in omega arith), above_all a fs all.1)

module _ (n : NamingEdits) (are : AreNaming n) (rise : StartsRise (at_once n)) where
  abbrev k : ℕ
  k = length (put_first n)

  abbrev whole : Edit
  whole = edit_between n.at n.at (n.front ++ (n.name ++ n.back))

  abbrev renamed : Edit
  renamed = edit_between (n.at + length n.front) ((n.at + length n.front) + length n.own) n.name

  abbrev moved : List Edit
  moved = map (later_edit k) n.behind

  second_rises : StartsRise (second_step n)
  second_rises =
      let len : k ≡ length n.front + length (n.own ++ n.back) = length-append n.front (n.own ++ n.back) in
      let front = front_rise n.before whole n.behind rise in
      let back = back_rise n.before whole n.behind rise in
      let above = lower (n.at + length n.front) (n.at + k) moved (omega arith) (later_above k n.at n.behind back.0) in
      let last : StartsRise (renamed ∷ moved) = (above, later_rise k n.behind back.1) in
      joined n.at n.before (renamed ∷ moved) front.0 front.1 last
      ((omega arith), above_all n.at moved (lower n.at (n.at + length n.front) moved (omega arith) above))

  second_to : (e : Edit) → Contains (second_step n) e → IsSecondEdit n e
  second_to e has = elim (Contains-append_cases n.before (renamed ∷ moved) e has) [
    | inl one ↦ inl one
    | inr two ↦ elim (first_or_later renamed moved e two) [
      | inl same ↦ inr (inl (sym same))
      | inr later ↦ let d = mapped_from (later_edit k) n.behind e later in inr (inr (d.0, (d.1, sym d.2)))
    ]
  ]

  second_from : (e : Edit) → IsSecondEdit n e → Contains (second_step n) e
  second_from e (inl one) = Contains-append_left n.before (renamed ∷ moved) e one
  second_from e (inr (inl same)) =
      Contains-append_right n.before (renamed ∷ moved) e (subst (Contains (renamed ∷ moved)) (sym same) (first_in renamed moved))
  second_from e (inr (inr (d, (has, same)))) =
      Contains-append_right n.before (renamed ∷ moved) e
      (later_in renamed moved e (subst (Contains moved) (sym same) (is_mapped (later_edit k) n.behind d has)))

pub second_steps_are_one : SecondStepsAreOne
second_steps_are_one n edits are rise rise_too each =
    one_list edits (second_step n) rise_too (second_rises n are rise)
    (λ e has. second_from n are rise e ((each e).0 has)) (λ e has. (each e).1 (second_to n are rise e has))
