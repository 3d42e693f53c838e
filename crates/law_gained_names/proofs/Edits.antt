-- Lists of edits around one of them, and lists in which no edit stands twice.
use Rattle.std.proofs.Common.{ℕ, ◌≡◌, ◌+◌, ◌≤◌, inl, inr, List, [], ◌∷◌, ◌++◌, length, map, refl, sym, ap, subst, arith, length-append}
use Rattle.std.specs.Prelude.{Contains}
use Rattle.std.proofs.lemmas.List.Elements.{All-contains, All-from_recursion, Contains-append_cases, Contains-append_left, Contains-append_right}
use Rattle.base_lemmas.proofs.Elements.{first_in, first_or_later, later_in, nothing_in}
use Rattle.base_edits.specs.Edits.{AreInOrder}
use Rattle.base_edits.specs.declared.edit.Edit.{Edit}
use Rattle.base_edits.proofs.Held.{mapped_from}
use Rattle.refactor_rename.specs.FileEdits.{NoneTwice}
use Rattle.law_gained_names.specs.TwoSteps.{AreNaming, NamingEdits, at_once, edit_between, later_edit, put_first, second_step}
use Rattle.law_gained_names.proofs.Ordered.{begin_behind, behind_one, end_before}

-- a list around one of its edits

pub record IsParted (es : List Edit) (e : Edit) : Type 0 where
  pub before : List Edit
  pub behind : List Edit
  pub parts : es ≡ before ++ e ∷ behind

pub parted : (es : List Edit) (e : Edit) → Contains es e → IsParted es e
parted [] e has = absurd (nothing_in e has)
parted (d ∷ es) e has = elim (first_or_later d es e has) [
  | inl same ↦ record { before = []; behind = es; parts = ap (λ c. c ∷ es) same }
  | inr later ↦ let rest = parted es e later in record { before = d ∷ rest.before; behind = rest.behind; parts = ap (λ cs. d ∷ cs) rest.parts }
]

pub none_there : (es : List Edit) → ((e : Edit) → Contains es e → ⊥) → es ≡ []
none_there [] none = refl
none_there (e ∷ es) none = absurd (none e (first_in e es))

-- no edit stands twice

pub record IsOnceAround (es : List Edit) (e : Edit) (fs : List Edit) : Type 0 where
  pub before : NoneTwice es
  pub behind : NoneTwice fs
  pub not_before : Contains es e → ⊥
  pub not_behind : Contains fs e → ⊥

pub once_around : (es : List Edit) (e : Edit) (fs : List Edit) → NoneTwice (es ++ e ∷ fs) → IsOnceAround es e fs
once_around [] e fs once = record { before = tt; behind = once.1; not_before = nothing_in e; not_behind = once.0 }
once_around (d ∷ es) e fs once =
    let rest = once_around es e fs once.1 in
    record {
      before = (λ has. once.0 (Contains-append_left es (e ∷ fs) d has), rest.before);
      behind = rest.behind;
      not_before = λ has. elim (first_or_later d es e has) [
        | inl same ↦ once.0 (Contains-append_right es (e ∷ fs) d (subst (Contains (e ∷ fs)) (sym same) (first_in e fs)))
        | inr later ↦ rest.not_before later
      ];
      not_behind = rest.not_behind;
    }

once_joined : (es fs : List Edit) → NoneTwice es → NoneTwice fs → ((e : Edit) → Contains es e → Contains fs e → ⊥) → NoneTwice (es ++ fs)
once_joined [] fs one two apart = two
once_joined (e ∷ es) fs one two apart = (
  (λ has. elim (Contains-append_cases es fs e has) [ inl own ↦ one.0 own | inr other ↦ apart e (first_in e es) other ]),
  once_joined es fs one.1 two (λ d has other. apart d (later_in e es d has) other),
)

same_number : (a b k : ℕ) → a + k ≡ b + k → a ≡ b
same_number a b k same = omega arith

later_one : (k : ℕ) (a b : Edit) → later_edit k a ≡ later_edit k b → a ≡ b
later_one k a b same =
    let start : a.span.start ≡ b.span.start = same_number a.span.start b.span.start k (ap (λ (x : Edit). x.span.start) same) in
    let end : a.span.end ≡ b.span.end = same_number a.span.end b.span.end k (ap (λ (x : Edit). x.span.end) same) in
    let text : a.text ≡ b.text = ap (λ (x : Edit). x.text) same in
    λ m. record { span = record { start = start m; end = end m }; text = text m }

once_later : (k : ℕ) (es : List Edit) → NoneTwice es → NoneTwice (map (later_edit k) es)
once_later k [] once = tt
once_later k (e ∷ es) once = (
  (λ has. let d = mapped_from (later_edit k) es (later_edit k e) has in once.0 (subst (Contains es) (later_one k d.0 e d.2) d.1)),
  once_later k es once.1,
)

-- edits in order around one

spans_grow : (a : ℕ) (es : List Edit) → AreInOrder a es → (e : Edit) → Contains es e → e.span.start ≤ e.span.end
spans_grow a [] order e has = absurd (nothing_in e has)
spans_grow a (d ∷ es) order e has = elim (first_or_later d es e has) [
  | inl same ↦ subst (λ (c : Edit). c.span.start ≤ c.span.end) same order.1
  | inr later ↦ spans_grow d.span.end es order.2 e later
]

module _ (n : NamingEdits) (are : AreNaming n) where
  abbrev whole : Edit
  whole = edit_between n.at n.at (n.front ++ (n.name ++ n.back))

  abbrev renamed : Edit
  renamed = edit_between (n.at + length n.front) ((n.at + length n.front) + length n.own) n.name

  abbrev k : ℕ
  k = length (put_first n)

  pub ends : (e : Edit) → Contains n.before e → e.span.end ≤ n.at
  ends e has =
      let Before : Edit → Type 0 = λ d. d.span.end ≤ n.at in
      All-contains Before n.before e (All-from_recursion Before n.before (end_before 0 n.before whole n.behind are.in_order)) has

  pub grows : (e : Edit) → Contains (at_once n) e → e.span.start ≤ e.span.end
  grows e has = spans_grow 0 (at_once n) are.in_order e has

  pub begins : (e : Edit) → Contains n.behind e → n.at ≤ e.span.start
  begins e has =
      let Behind : Edit → Type 0 = λ d. n.at ≤ d.span.start in
      All-contains Behind n.behind e (All-from_recursion Behind n.behind (begin_behind n.at n.behind (behind_one 0 n.before whole n.behind are.in_order))) has

  size : k ≡ length n.front + (length n.own + length n.back)
  size =
      let one : k ≡ length n.front + length (n.own ++ n.back) = length-append n.front (n.own ++ n.back) in
      let two : length (n.own ++ n.back) ≡ length n.own + length n.back = length-append n.own n.back in
      omega arith

  renamed_behind : (d : Edit) → Contains n.behind d → later_edit k d ≡ renamed → ⊥
  renamed_behind d has same =
      let start : d.span.start + k ≡ n.at + length n.front = ap (λ (x : Edit). x.span.start) same in
      let from = begins d has in
      let some = are.named in
      let long = size in
      omega arith

  before_renamed : (e : Edit) → Contains n.before e → renamed ≡ e → ⊥
  before_renamed e has same =
      let end : (n.at + length n.front) + length n.own ≡ e.span.end = ap (λ (x : Edit). x.span.end) same in
      let to = ends e has in
      let some = are.named in
      omega arith

  before_behind : (e : Edit) → Contains n.before e → (d : Edit) → Contains n.behind d → later_edit k d ≡ e → ⊥
  before_behind e has d other same =
      let start : d.span.start + k ≡ e.span.start = ap (λ (x : Edit). x.span.start) same in
      let from = begins d other in
      let to = ends e has in
      let order = grows e (Contains-append_left n.before (whole ∷ n.behind) e has) in
      let some = are.named in
      let long = size in
      omega arith

  -- so none stands twice in the second step
  pub second_once : NoneTwice (at_once n) → NoneTwice (second_step n)
  second_once once =
      let parts = once_around n.before whole n.behind once in
      once_joined n.before (renamed ∷ map (later_edit k) n.behind) parts.before (
        (λ has. let d = mapped_from (later_edit k) n.behind renamed has in renamed_behind d.0 d.1 d.2),
        once_later k n.behind parts.behind,
      )
      (λ e has other. elim (first_or_later renamed (map (later_edit k) n.behind) e other) [
        | inl same ↦ before_renamed e has same
        | inr later ↦ let d = mapped_from (later_edit k) n.behind e later in before_behind e has d.0 d.1 d.2
      ])
