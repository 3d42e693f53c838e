-- The types that a search reaches, step by step.
use Rattle.std.proofs.Common.{ℕ, ◌≡◌, ◌<◌, ◌≤◌, ◌+◌, ◌⊎◌, inl, inr, Bool, true, false, List}
use Rattle.std.proofs.Common.{[], length, get_or, replicate, sym, ap, subst, ◌∙◌, refl, arith, eqb, eqb-true}
use Rattle.std.specs.Prelude.{◌↔◌, Contains, Option, Some, None, slice_get}
use Rattle.std.specs.List.{IsDistinct}
use Rattle.std.proofs.lemmas.Bool.{cases_Bool, cases_lt, false≢true}
use Rattle.std.proofs.lemmas.List.{length-replicate}
use Rattle.std.proofs.lemmas.Map.Keys.{IsDistinct-from_apart}
use Rattle.std.proofs.lemmas.Map.Steps.{length-le_from_distinct_below}
use Rattle.std.proofs.lemmas.Map.Views.{Contains-from_any}
use Rattle.std.proofs.lemmas.Option.{none-some, same_Some, slice_get_read, slice_get_within, slice_get-get_or}
use Rattle.base_lemmas.proofs.Elements.{nothing_in}
use Rattle.workspace_check.proofs.PackageFiles.{at_rank}
use Rattle.workspace_graph.specs.Search.{IsMarked}
use Rattle.workspace_graph.proofs.Reached.{none_in}
use Rattle.refs_binding.specs.WorkspaceFindings.{WorkspaceFindings}
use Rattle.refactor_coupled.specs.Called.{AreCalled}
use Rattle.types_expr.specs.declared.symbol.Symbol.{Symbol}
use Rattle.types_expr.specs.declared.world.Definitions.{Definitions}
use Rattle.refactor_coupled.specs.Reached.{AreCoupledAt, AsksAt, IsOrderOfMarks, IsReachedBy, IsSearched, ReachesAll, ReachesFrom, ReachesFromPlace}
use Rattle.refactor_coupled.specs.Reached.{ReachesIfCoupled, ReachesMore, ReachesOne, StartsAt, StartsIfAsking, are_coupled_if, asks_if, next, start}
use Rattle.refactor_coupled.specs.RenamedTypes.{SetRename}
use Rattle.refactor_coupled.specs.RenamedTypesView.{rename_of}
use Rattle.refactor_coupled.specs.declared.coupling.Reached.{Reached}
use Rattle.refactor_coupled.specs.declared.renamed_types.RenamedTypes.{RenamedTypes}

-- nothing is reached
pub reached_same : (P : ℕ → Type 0) (r : Reached) → ReachesMore P r r
reached_same P r = record { called = refl; ordered = λ o. o; places = λ step index at. at; kept = λ index m. m; only = λ index m. inl m }

-- one type is
pub reached_next : (P : ℕ → Type 0) (index : ℕ) (old new : Reached) → ReachesOne index old new → (IsMarked old.marks.items index → ⊥) →
    index < length old.called.items → P index → ReachesMore P old new
reached_next P index old new one off inside p = record {
  called = one.called;
  ordered = one.ordered off inside;
  places = one.places;
  kept = λ other m. (one.each other).1 (inl m);
  only = λ other m. elim ((one.each other).0 m) [ inl was ↦ inl was | inr same ↦ inr (subst P (sym same) p) ];
}

pub reached_as : (P Q : ℕ → Type 0) (a b : Reached) → ((index : ℕ) → P index → Q index) → ReachesMore P a b → ReachesMore Q a b
reached_as P Q a b to h = record {
  called = h.called;
  ordered = h.ordered;
  places = h.places;
  kept = h.kept;
  only = λ index m. elim (h.only index m) [ inl was ↦ inl was | inr p ↦ inr (to index p) ];
}

pub reached_then : (P : ℕ → Type 0) (a b c : Reached) → ReachesMore P a b → ReachesMore P b c → ReachesMore P a c
reached_then P a b c h k = record {
  called = k.called ∙ h.called;
  ordered = λ o. k.ordered (h.ordered o);
  places = λ step index at. k.places step index (h.places step index at);
  kept = λ index m. k.kept index (h.kept index m);
  only = λ index m. elim (k.only index m) [ inl was ↦ h.only index was | inr p ↦ inr p ];
}

-- two types are coupled in each state of the search
pub coupled_as : (t : RenamedTypes) (a b : Reached) (one other : ℕ) → a.called.items ≡ b.called.items → AreCoupledAt t a one other → AreCoupledAt t b one other
coupled_as t a b one other same c =
    subst (λ (l : List Symbol). are_coupled_if t.types.now (rename_of t.rename) (slice_get l one) (slice_get l other) ≡ true) same c

second_there : (ds : Definitions) (r : SetRename) (one other : Option Symbol) → are_coupled_if ds r one other ≡ true → other ≡ None → ⊥
second_there ds r None other h none = false≢true h
second_there ds r (Some s) None h none = false≢true h
second_there ds r (Some s) (Some t) h none = none-some t (sym none)

some_or_none : {X : Type 0} (o : Option X) → (o ≡ None) ⊎ ((x : X) × (o ≡ Some x))
some_or_none None = inl refl
some_or_none (Some x) = inr (x, refl)

coupled_within : (t : RenamedTypes) (r : Reached) (one other : ℕ) → AreCoupledAt t r one other → other < length r.called.items
coupled_within t r one other c = elim (some_or_none (slice_get r.called.items other)) [
  | inl none ↦
      absurd (second_there t.types.now (rename_of t.rename) (slice_get r.called.items one) (slice_get r.called.items other) c none)
  | inr some ↦ slice_get_within r.called.items other some.0 some.1
]

-- The types below an index that are coupled with one type are reached.
pub record ReachesBelow (t : RenamedTypes) (index : ℕ) (old : Reached) (below : ℕ) (now : Reached) : Type 0 where
  pub more : ReachesMore (AreCoupledAt t old index) old now
  pub all : (other : ℕ) → other < below → AreCoupledAt t old index other → IsMarked now.marks.items other

module _ (t : RenamedTypes) (index : ℕ) (old : Reached) where
  pub none_reached : ReachesBelow t index old 0 old
  none_reached = record { more = reached_same (AreCoupledAt t old index) old; all = λ other lt c. absurd (omega (arith, lt)) }

  pub next_reached : (below : ℕ) (now new : Reached) → ReachesBelow t index old below now → ReachesIfCoupled t index below now new →
      ReachesBelow t index old (below + 1) new
  next_reached below now new h k = record {
    more =
        reached_then (AreCoupledAt t old index) old now new h.more
        (reached_as (AreCoupledAt t now index) (AreCoupledAt t old index) now new (λ other c. coupled_as t now old index other h.more.called c) k.more);
    all = λ other lt c. elim (cases_lt other below) [
      | inl before ↦ k.more.kept other (h.all other before c)
      | inr later ↦
          let same : below ≡ other = omega (arith, lt, later) in
          subst (IsMarked new.marks.items) same
          (k.all (coupled_as t old now index below (sym h.more.called) (subst (AreCoupledAt t old index) (sym same) c)))
    ];
  }

  pub all_reached : (below : ℕ) (now : Reached) → below ≡ length old.called.items → ReachesBelow t index old below now → ReachesFrom t index old now
  all_reached below now e h = record {
    more = h.more;
    all = λ other c. h.all other (subst (λ n. other < n) (sym e) (coupled_within t old index other c)) c;
  }

-- from the type at a place of the order

pub from_no_place : (t : RenamedTypes) (place : ℕ) (r : Reached) → slice_get r.order.items place ≡ None → ReachesFromPlace t place r r
from_no_place t place r none = record {
  behind = λ is. refl;
  more = reached_same (λ other. (index : ℕ) × ((slice_get r.order.items place ≡ Some index) × AreCoupledAt t r index other)) r;
  all = λ index at. absurd (none-some index (sym none ∙ at));
}

pub from_place : (t : RenamedTypes) (place index : ℕ) (old new : Reached) → slice_get old.order.items place ≡ Some index → ReachesFrom t index old new →
    ReachesFromPlace t place old new
from_place t place index old new at h = record {
  behind = λ none. absurd (none-some index (sym none ∙ at));
  more =
      reached_as (AreCoupledAt t old index) (λ other. (one : ℕ) × ((slice_get old.order.items place ≡ Some one) × AreCoupledAt t old one other)) old new
      (λ other c. (index, (at, c))) h.more;
  all = λ one is other c. h.all other (subst (λ k. AreCoupledAt t old k other) (same_Some one index (sym is ∙ at)) c);
}

-- All that are coupled with the types at the first places are reached.
pub record ReachesToPlace (t : RenamedTypes) (old : Reached) (below : ℕ) (now : Reached) : Type 0 where
  pub more : ReachesMore (IsReachedBy t old) old now
  pub all : (place index : ℕ) → place < below → slice_get now.order.items place ≡ Some index → (other : ℕ) → AreCoupledAt t old index other →
      IsMarked now.marks.items other

module _ (t : RenamedTypes) (old : Reached) (o : IsOrderOfMarks old) where
  pub no_places : ReachesToPlace t old 0 old
  no_places = record { more = reached_same (IsReachedBy t old) old; all = λ place index lt. absurd (omega (arith, lt)) }

  module _ (below : ℕ) (now new : Reached) (h : ReachesToPlace t old below now) (k : ReachesFromPlace t below now new) where
    abbrev FromHere : ℕ → Type 0
    FromHere other = (index : ℕ) × ((slice_get now.order.items below ≡ Some index) × AreCoupledAt t now index other)

    reached_here : (index : ℕ) → IsMarked now.marks.items index → IsReachedBy t old index
    reached_here index m = elim (h.more.only index m) [ inl was ↦ start index was | inr p ↦ p ]

    reached_by : (other : ℕ) → FromHere other → IsReachedBy t old other
    reached_by other m =
        next m.0 other (reached_here m.0 (((h.more.ordered o).marked m.0).1 (at_rank now.order.items below m.0 m.1.0)))
        (coupled_as t now old m.0 other h.more.called m.1.1)

    -- Where the place is behind the order nothing changes
    behind_order : slice_get now.order.items below ≡ None → ReachesToPlace t old (below + 1) new
    behind_order none = subst (ReachesToPlace t old (below + 1)) (sym (k.behind none)) (record {
      more = h.more;
      all = λ place index lt at other c. elim (cases_lt place below) [
        | inl before ↦ h.all place index before at other c
        | inr later ↦
            let same : place ≡ below = omega (arith, lt, later) in
            absurd (none-some index (sym none ∙ subst (λ p. slice_get now.order.items p ≡ Some index) same at))
      ];
    })

    was_there : (here : ℕ) → slice_get now.order.items below ≡ Some here → (place index : ℕ) → place < below + 1 →
        slice_get new.order.items place ≡ Some index →
        slice_get now.order.items place ≡ Some index
    was_there here is place index lt at =
        let inside : below < length now.order.items = slice_get_within now.order.items below here is in
        let there = slice_get-get_or now.order.items place 0 (omega (arith, inside, lt)) in
        there ∙ (sym (k.more.places place (get_or now.order.items place 0) there) ∙ at)

    in_order : (here : ℕ) → slice_get now.order.items below ≡ Some here → ReachesToPlace t old (below + 1) new
    in_order here is = record {
      more = reached_then (IsReachedBy t old) old now new h.more (reached_as FromHere (IsReachedBy t old) now new reached_by k.more);
      all = λ place index lt at other c. elim (cases_lt place below) [
        | inl before ↦ k.more.kept other (h.all place index before (was_there here is place index lt at) other c)
        | inr later ↦
            let same : place ≡ below = omega (arith, lt, later) in
            k.all index (subst (λ p. slice_get now.order.items p ≡ Some index) same (was_there here is place index lt at)) other
            (coupled_as t old now index other (sym h.more.called) c)
      ];
    }

    pub next_place : ReachesToPlace t old (below + 1) new
    next_place = elim (some_or_none (slice_get now.order.items below)) [ inl none ↦ behind_order none | inr some ↦ in_order some.0 some.1 ]

  -- The order is no longer than the types.
  not_twice : (r : Reached) → IsOrderOfMarks r → IsDistinct eqb r.order.items
  not_twice r of = IsDistinct-from_apart eqb r.order.items (λ i j d lt within. elim (cases_Bool (eqb (get_or r.order.items i d) (get_or r.order.items j d))) [
    | inl same ↦
        let one : get_or r.order.items i d ≡ get_or r.order.items j d = eqb-true (get_or r.order.items i d) (get_or r.order.items j d) same in
        let equal : i ≡ j = of.once i j (get_or r.order.items j d) (slice_get-get_or r.order.items i d (omega (arith, lt, within)) ∙ ap Some one)
        (slice_get-get_or r.order.items j d within) in
        absurd (omega (arith, lt, equal))
    | inr apart ↦ apart
  ])

  order_fits : (r : Reached) → IsOrderOfMarks r → length r.order.items ≤ length r.called.items
  order_fits r of = length-le_from_distinct_below r.order.items (length r.called.items) (not_twice r of)
      (λ q h. of.inside q (Contains-from_any (λ x y e. eqb-true x y e) q r.order.items h))

  module _ (below : ℕ) (now : Reached) (e : below ≡ length old.called.items) (h : ReachesToPlace t old below now) where
    own : IsOrderOfMarks now
    own = h.more.ordered o

    closed : (index : ℕ) → IsMarked now.marks.items index → (other : ℕ) → AreCoupledAt t old index other → IsMarked now.marks.items other
    closed index m other c =
        let has = (own.marked index).0 m in
        let at = slice_get_read now.order.items (length now.order.items) has.0 index refl has.1 (sym has.2) in
        h.all has.0 index (omega (arith, has.1, order_fits now own, e, ap (λ (l : List Symbol). length l) h.more.called)) at other c

    all_marked : {index : ℕ} → IsReachedBy t old index → IsMarked now.marks.items index
    all_marked (start index m) = h.more.kept index m
    all_marked (next one other r c) = closed one (all_marked r) other c

    pub all_places : ReachesAll t old now
    all_places = record {
      called = h.more.called;
      order = own;
      each = λ index. ((λ m. elim (h.more.only index m) [ inl was ↦ start index was | inr p ↦ p ]), (λ r. all_marked r));
    }

-- The beginning: of the types below an index those are reached that ask for the method.
pub record StartsBelow (t : RenamedTypes) (s : Symbol) (old : Reached) (below : ℕ) (now : Reached) : Type 0 where
  pub called : now.called.items ≡ old.called.items
  pub order : IsOrderOfMarks now
  pub each : (index : ℕ) → IsMarked now.marks.items index ↔ ((index < below) × AsksAt t s old index)

asks_as : (t : RenamedTypes) (s : Symbol) (a b : Reached) (index : ℕ) → a.called.items ≡ b.called.items → AsksAt t s a index → AsksAt t s b index
asks_as t s a b index same k = subst (λ (l : List Symbol). asks_if t s (slice_get l index) ≡ true) same k

none_asks : (t : RenamedTypes) (s : Symbol) (o : Option Symbol) → asks_if t s o ≡ true → o ≡ None → ⊥
none_asks t s None h none = false≢true h
none_asks t s (Some named) h none = none-some named (sym none)

asks_within : (t : RenamedTypes) (s : Symbol) (r : Reached) (index : ℕ) → AsksAt t s r index → index < length r.called.items
asks_within t s r index k = elim (some_or_none (slice_get r.called.items index)) [
  | inl none ↦ absurd (none_asks t s (slice_get r.called.items index) k none)
  | inr some ↦ slice_get_within r.called.items index some.0 some.1
]

module _ (t : RenamedTypes) (s : Symbol) (old : Reached) where
  pub none_started : IsOrderOfMarks old → old.order.items ≡ [] → StartsBelow t s old 0 old
  none_started o empty = record {
    called = refl;
    order = o;
    each = λ index. (
      (λ m. absurd (nothing_in index (subst (λ (l : List ℕ). Contains l index) empty ((o.marked index).0 m)))),
      (λ k. absurd (omega (arith, k.0))),
    );
  }

  pub next_started : (below : ℕ) (now new : Reached) → below < length old.called.items → StartsBelow t s old below now → StartsIfAsking t s below now new →
      StartsBelow t s old (below + 1) new
  next_started below now new within h k = record {
    called = k.called ∙ h.called;
    order =
        k.ordered (λ m. let lt = ((h.each below).0 m).0 in omega (arith, lt)) (subst (λ (l : List Symbol). below < length l) (sym h.called) within) h.order;
    each = λ index. (
      (λ m. elim ((k.each index).0 m) [
        | inl was ↦ let old_one = (h.each index).0 was in (omega (arith, old_one.0), old_one.1)
        | inr here ↦ (omega (arith, here.0), asks_as t s now old index h.called (subst (AsksAt t s now) (sym here.0) here.1))
      ]),
      (λ m. elim (cases_lt index below) [
        | inl before ↦ (k.each index).1 (inl ((h.each index).1 (before, m.1)))
        | inr later ↦
            let same : index ≡ below = omega (arith, m.0, later) in
            (k.each index).1 (inr (same, subst (AsksAt t s now) same (asks_as t s old now index (sym h.called) m.1)))
      ]),
    );
  }

  pub all_started : (below : ℕ) (now : Reached) → below ≡ length old.called.items → StartsBelow t s old below now → StartsAt t s old now
  all_started below now e h = record {
    called = h.called;
    order = h.order;
    each = λ index. (
      (λ m. ((h.each index).0 m).1),
      (λ k. (h.each index).1 (subst (λ n. index < n) (sym e) (asks_within t s old index k), k)),
    );
  }

-- one type of the beginning

pub started_not : (t : RenamedTypes) (s : Symbol) (index : ℕ) (r : Reached) → (AsksAt t s r index → ⊥) → StartsIfAsking t s index r r
started_not t s index r not = record {
  called = refl;
  ordered = λ off inside o. o;
  each = λ other. ((λ m. inl m), (λ m. elim m [ inl was ↦ was | inr here ↦ absurd (not here.1) ]));
}

pub started_one : (t : RenamedTypes) (s : Symbol) (index : ℕ) (old new : Reached) → AsksAt t s old index → ReachesOne index old new →
    StartsIfAsking t s index old new
started_one t s index old new asks one = record {
  called = one.called;
  ordered = one.ordered;
  each = λ other. (
    (λ m. elim ((one.each other).0 m) [ inl was ↦ inl was | inr same ↦ inr (same, asks) ]),
    (λ m. elim m [ inl was ↦ (one.each other).1 (inl was) | inr here ↦ (one.each other).1 (inr here.0) ]),
  );
}

-- At first nothing is reached.
pub empty_search : (r : Reached) (n : ℕ) → r.marks.items ≡ replicate n false → n ≡ length r.called.items → r.order.items ≡ [] → IsOrderOfMarks r
empty_search r n is size empty = record {
  size = ap (λ (l : List Bool). length l) is ∙ length-replicate n false ∙ size;
  marked = λ index. ((λ m. absurd (none_in r.marks.items n is index m)), (λ has. absurd (not_in index has)));
  inside = λ index has. absurd (not_in index has);
  once = λ i j index at. absurd (not_at i index at);
} where
  not_in : (index : ℕ) → Contains r.order.items index → ⊥
  not_in index has = nothing_in index (subst (λ (l : List ℕ). Contains l index) empty has)

  not_at : (i index : ℕ) → slice_get r.order.items i ≡ Some index → ⊥
  not_at i index at = not_in index (at_rank r.order.items i index at)

-- At the end all is reached.
pub searched : (w : WorkspaceFindings) (t : RenamedTypes) (s : Symbol) (first started r : Reached) →
    AreCalled w t.rename.old.now t.rename.new.now false first.called.items → StartsAt t s first started → ReachesAll t started r → IsSearched w t s r
searched w t s first started r types h k = record {
  types = subst (AreCalled w t.rename.old.now t.rename.new.now false) (sym (k.called ∙ h.called)) types;
  size = k.order.size;
  started = started;
  same = sym k.called;
  starts = λ index. (
    (λ m. asks_as t s first started index (sym h.called) ((h.each index).0 m)),
    (λ asks. (h.each index).1 (asks_as t s started first index h.called asks)),
  );
  each = k.each;
}
