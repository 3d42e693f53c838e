-- An order of packages, built block by block. A block is all that a package reaches and that is not listed yet, if all of it reaches that
-- package.
use Rattle.std.proofs.Common.{ℕ, ◌≡◌, ◌+◌, ◌-◌, ◌<◌, ◌≤◌, inl, inr, ◌↔◌, Bool, false, List, ◌++◌, length, get_or, Some, sym}
use Rattle.std.proofs.Common.{ap, subst, ◌∙◌, arith, length-append}
use Rattle.std.specs.List.{All, Contains}
use Rattle.std.proofs.Math.ListN.{set}
use Rattle.std.proofs.lemmas.Bool.{cases_lt, cases_eq, cases_order, false≢true}
use Rattle.std.proofs.lemmas.List.{get_or_append_left, get_or-append-add, get_or_default, get_or-set_same, get_or-set_other}
use Rattle.std.proofs.lemmas.List.Elements.{Contains-get_or, Contains-append_left, Contains-append_right, Contains-append_cases, All-from_get_or}
use Rattle.std.proofs.lemmas.Option.{get_or_from_slice_get, slice_get-get_or, slice_get_within}
use Rattle.workspace_graph.specs.Imports.{LinkTable, AreLinked, AreImporterRows, Reaches}
use Rattle.workspace_graph.specs.Orders.{IsOrder, IsBefore, AreListed, AreClear}
use Rattle.workspace_graph.specs.Search.{IsMarked, Visits}
use Rattle.workspace_graph.specs.declared.order.Blocks.{Blocks}
use Rattle.workspace_graph.proofs.Reached.{Reaches-trans, reached_within, closed_still, marks_reached, back_reaches}
use Rattle.workspace_graph.proofs.SearchSteps.{marked_within}

-- a mark that was taken off, and those that were
pub clear_still : (marks : List Bool) (n q : ℕ) → n < length marks → get_or marks q false ≡ false → get_or (set marks n false) q false ≡ false
clear_still marks n q within is = elim (cases_eq q n) [
  | inl e ↦ subst (λ (k : ℕ). get_or (set marks n false) k false ≡ false) (sym e) (get_or-set_same marks n false false within)
  | inr ne ↦ get_or-set_other marks n q false false ne ∙ is
]

-- what a search through the block did not find is not marked
pub found_back : (noted : LinkTable) (root : ℕ) (block : List ℕ) (barred : List Bool) (found : List ℕ) (marks : List Bool) → AreClear block barred →
    Visits noted root barred found marks → ((q : ℕ) → Contains block q → IsMarked marks q) → (q : ℕ) → Contains block q → Reaches noted root q
found_back noted root block barred found marks clear s all q has = elim (s.finds.places q (all q has)) [
  | inl before ↦ absurd (false≢true (sym (clear q has) ∙ before))
  | inr there ↦ (
      let within : there.0 < length found = there.1 in
      let at : get_or found there.0 0 ≡ q = get_or_default found there.0 0 q within ∙ there.2 in
      subst (Reaches noted root) at (s.reached there.0 within))
]

-- what was found is in range
pub found_below : (g : LinkTable) (root : ℕ) (old : List Bool) (found : List ℕ) (marks : List Bool) → Visits g root old found marks →
    All (λ q. q < length g) found
found_below g root old found marks s = All-from_get_or (λ q. q < length g) found 0 (λ k lt. reached_within (s.reached k lt))

-- Before the first block, no package is listed.
pub told_none : (g : LinkTable) (b : Blocks) → length b.order.items ≡ 0 → ((q : ℕ) → IsMarked b.told.items q → ⊥) → length b.told.items ≡ length g →
    length b.barred.items ≡ length g → AreListed g b
told_none g b none unmarked size bars = record {
  size = size;
  bars = bars;
  closed = λ p q m i. absurd (unmarked p m);
  each = λ n. ((λ m. absurd (unmarked n m)), (λ has. absurd (omega (arith, has.1))));
  once = λ i j lt below same. absurd (omega arith);
  behind = λ i lt m r back. absurd (omega arith);
}

-- one block more
module _ (g noted : LinkTable) (linked : AreLinked g) (back : AreImporterRows g (length g) noted) (root : ℕ) (b new : Blocks) (block : List ℕ)
    (told : AreListed g b) (s : Visits g root b.told.items block new.told.items) (is : new.order.items ≡ b.order.items ++ block)
    (leads : (q : ℕ) → Contains block q → Reaches noted root q) where
  abbrev o : List ℕ
  o = b.order.items

  abbrev n : List ℕ
  n = o ++ block

  long : length n ≡ length o + length block
  long = length-append o block

  old_at : (i : ℕ) → i < length o → get_or n i 0 ≡ get_or o i 0
  old_at i lt = get_or_append_left o block 0 i lt

  new_at : (i : ℕ) → length o ≤ i → get_or n i 0 ≡ get_or block (i - length o) 0
  new_at i ge = (let e : i ≡ length o + (i - length o) = omega arith in
      ap (λ k. get_or n k 0) e ∙ get_or-append-add o block (i - length o) 0)

  holds : (q : ℕ) → IsMarked new.told.items q ↔ Contains n q
  holds q = (
    λ m. elim (s.finds.places q m) [
      | inl before ↦ Contains-append_left o block q ((told.each q).0 before)
      | inr has ↦ Contains-append_right o block q has
    ],
    λ has. elim (Contains-append_cases o block q has) [
      | inl before ↦ s.finds.kept q ((told.each q).1 before)
      | inr there ↦ (
          let within : there.0 < length block = there.1 in
          let at : get_or block there.0 0 ≡ q = get_or_default block there.0 0 q within ∙ there.2 in
          subst (IsMarked new.told.items) at (s.finds.marked there.0 within))
    ],
  )

  once : (i j : ℕ) → i < j → j < length n → get_or n i 0 ≡ get_or n j 0 → ⊥
  once i j lt below same = elim (cases_lt j (length o)) [
    | inl before ↦ told.once i j lt before (sym (old_at i (omega arith)) ∙ same ∙ old_at j before)
    | inr ge ↦ (
        let within : j - length o < length block = omega (arith, long) in
        elim (cases_lt i (length o)) [
          | inl first ↦ (
              let e : get_or o i 0 ≡ get_or block (j - length o) 0 = sym (old_at i first) ∙ same ∙ new_at j ge in
              s.finds.fresh (j - length o) within (subst (IsMarked b.told.items) e ((told.each (get_or o i 0)).1 (Contains-get_or o i 0 first))))
          | inr later ↦ s.finds.once (i - length o) (j - length o) (omega arith) within (sym (new_at i later) ∙ same ∙ new_at j ge)
        ])
  ]

  -- A package that one of the block reaches, and that does not reach it, is listed before it.
  of_block : (k : ℕ) → k < length block → (m : ℕ) → Reaches g (get_or block k 0) m → (Reaches g m (get_or block k 0) → ⊥) → IsBefore n (length o) m
  of_block k lt m r never =
      let from = s.reached k lt in
      let marked = ((marks_reached g root b.told.items block new.told.items s told.closed).each m).1 (inr (Reaches-trans from r)) in
      elim (s.finds.places m marked) [
        | inl before ↦ (
            let has = (told.each m).0 before in
            let within : has.0 < length o = has.1 in
            (has.0, within, old_at has.0 within ∙ get_or_default o has.0 0 m within ∙ has.2))
        | inr has ↦ absurd (never (Reaches-trans (back_reaches g noted linked back (leads m has)) from))
      ]

  behind : (i : ℕ) → i < length n → (m : ℕ) → Reaches g (get_or n i 0) m → (Reaches g m (get_or n i 0) → ⊥) → IsBefore n i m
  behind i lt m r never = elim (cases_lt i (length o)) [
    | inl before ↦ (
        let e = old_at i before in
        let w = told.behind i before m (subst (λ (a : ℕ). Reaches g a m) e r) (λ h. never (subst (Reaches g m) (sym e) h)) in
        let less : w.0 < i = w.1 in
        (w.0, less, old_at w.0 (omega arith) ∙ w.2))
    | inr ge ↦ (
        let e = new_at i ge in
        let w = of_block (i - length o) (omega (arith, long)) m (subst (λ (a : ℕ). Reaches g a m) e r) (λ h. never (subst (Reaches g m) (sym e) h)) in
        let less : w.0 < length o = w.1 in
        (w.0, omega arith, w.2))
  ]

  pub told_more : length new.barred.items ≡ length g → AreListed g new
  told_more bars = record {
    size = s.finds.size ∙ told.size;
    bars = bars;
    closed = closed_still g root b.told.items block new.told.items s told.closed;
    each = λ q. subst (λ (l : List ℕ). IsMarked new.told.items q ↔ Contains l q) (sym is) (holds q);
    once = subst (λ (l : List ℕ). (i j : ℕ) → i < j → j < length l → get_or l i 0 ≡ get_or l j 0 → ⊥) (sym is) once;
    behind = subst (λ (l : List ℕ). (i : ℕ) → i < length l → (m : ℕ) → Reaches g (get_or l i 0) m → (Reaches g m (get_or l i 0) → ⊥) → IsBefore l i m) (sym is)
        behind;
  }

-- When all packages are listed, the list is an order of all.
pub order_is : (g : LinkTable) (b : Blocks) → AreListed g b → ((q : ℕ) → q < length b.told.items → IsMarked b.told.items q) → IsOrder g b.order.items
order_is g b told all =
    let o = b.order.items in
    record {
      each = λ n. (
        λ has. (let lt : n < length b.told.items = marked_within b.told.items n ((told.each n).1 has) in omega (arith, told.size)),
        λ lt. (told.each n).0 (all n (omega (arith, told.size))),
      );
      once = λ i j n at_i at_j.
          let same : get_or o i 0 ≡ get_or o j 0 = get_or_from_slice_get o i n 0 at_i ∙ sym (get_or_from_slice_get o j n 0 at_j) in
          elim (cases_order i j) [
            | inl e ↦ e
            | inr apart ↦ elim apart [
              | inl lt ↦ absurd (told.once i j lt (slice_get_within o j n at_j) same)
              | inr gt ↦ absurd (told.once j i gt (slice_get_within o i n at_i) (sym same))
            ]
          ];
      behind = λ i n m at r never.
          let is : get_or o i 0 ≡ n = get_or_from_slice_get o i n 0 at in
          let within = slice_get_within o i n at in
          let w = told.behind i within m (subst (λ (a : ℕ). Reaches g a m) (sym is) r) (λ h. never (subst (Reaches g m) is h)) in
          let less : w.0 < i = w.1 in
          (w.0, less, slice_get-get_or o w.0 0 (omega arith) ∙ ap Some w.2);
    }
