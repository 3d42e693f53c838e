-- The outcome of the checks of parts in sequence.
use Rattle.std.proofs.Common.{ℕ, ◌≡◌, ◌⊎◌, inl, inr, List, [], ◌∷◌, refl, sym, subst}
use Rattle.go_ast.specs.Tree.{Item, Group, single, several}
use Rattle.types_expr.specs.World.{Locals}
use Rattle.types_expr.specs.Judge.{Noted}
use Rattle.types_stmt.specs.Checked.{FoundSoFar, with_declared, check_items, check_group}
use Rattle.law_typing.proofs.Judgements.{empty_both}
use Rattle.law_typing.specs.Sequences.{PartRule, InTurn, no_item, then_item, InGroup, alone, together, Excuse, ExcusedInTurn, this_item, later_item}
use Rattle.law_typing.specs.Sequences.{ExcusedInGroup, excused_alone, excused_together}

-- the check s has found no fault, and its locals are `locals`
pub record IsAt (s : FoundSoFar) (locals : Locals) : Type 0 where
  pub locals_are : s.locals ≡ locals
  pub faultless : s.faults ≡ []

pub here : (s : FoundSoFar) → s.faults ≡ [] → IsAt s s.locals
here s h = record { locals_are = refl; faultless = h }

pub reached : (s : FoundSoFar) {locals after : Locals} (faults : List ℕ) (uses : List Noted) → s.faults ≡ [] → faults ≡ [] → locals ≡ after →
    IsAt (with_declared s locals faults uses) after
reached s faults uses h f e = record { locals_are = e; faultless = empty_both s.faults faults h f }

-- a rule of the locals `before` is one of those of the check
pub held : {X : Type 0} (R : PartRule X) {x : X} {s : FoundSoFar} {before after : Locals} → IsAt s before → R before x after → R s.locals x after
held R {x} {s} {before} {after} a r = subst (λ z. R z x after) (sym a.locals_are) r

-- a part after which no fault is found: nor was there one before it, and the part is typed or excused
abbrev pub IsSettled : {X : Type 0} → PartRule X → Excuse X → FoundSoFar → X → FoundSoFar → Type 0
IsSettled R E s x after = (s.faults ≡ []) × (R s.locals x after.locals ⊎ E s.locals x)

pub items_true : {X : Type 0} (R : PartRule X) (check : FoundSoFar → X → FoundSoFar) → ((s : FoundSoFar) (x : X) (after : Locals) → s.faults ≡ [] →
    R s.locals x after → IsAt (check s x) after) →
    {before after : Locals} {is : List (Item X)} → InTurn X R before is after → (s : FoundSoFar) → IsAt s before → IsAt (check_items check s is) after
unfolding check_items
items_true R check f no_item s a = a
items_true R check f (then_item {inside = inside} {i = i} r more) s a = items_true R check f more (check s i.value) (f s i.value inside a.faultless
    (held R a r))

pub group_true : {X : Type 0} (R : PartRule X) (check : FoundSoFar → X → FoundSoFar) → ((s : FoundSoFar) (x : X) (after : Locals) → s.faults ≡ [] →
    R s.locals x after → IsAt (check s x) after) →
    {before after : Locals} {g : Group X} → InGroup X R before g after → (s : FoundSoFar) → IsAt s before → IsAt (check_group check s g) after
unfolding check_group
group_true R check f (alone {after = after} {x = x} r) s a = f s x after a.faultless (held R a r)
group_true R check f (together more) s a = items_true R check f more s a

pub items_settled : {X : Type 0} (R : PartRule X) (E : Excuse X) (check : FoundSoFar → X → FoundSoFar) → ((s : FoundSoFar) (x : X) → (check s x).faults ≡ [] →
    IsSettled R E s x (check s x)) →
    (is : List (Item X)) (s : FoundSoFar) → (check_items check s is).faults ≡ [] → (s.faults ≡ []) × (InTurn X R s.locals is
    (check_items check s is).locals ⊎ ExcusedInTurn X R E s.locals is)
unfolding check_items
items_settled R E check f [] s h = (h, inl no_item)
items_settled R E check f (i ∷ is) s h = let more = items_settled R E check f is (check s i.value) h in
    let q = f s i.value more.0 in
    (q.0, elim q.1 [ inl r ↦ elim more.1 [ inl m ↦ inl (then_item r m) | inr e ↦ inr (later_item r e) ] | inr e ↦ inr (this_item e) ])

pub group_settled : {X : Type 0} (R : PartRule X) (E : Excuse X) (check : FoundSoFar → X → FoundSoFar) → ((s : FoundSoFar) (x : X) → (check s x).faults ≡ [] →
    IsSettled R E s x (check s x)) →
    (g : Group X) (s : FoundSoFar) → (check_group check s g).faults ≡ [] → (s.faults ≡ []) × (InGroup X R s.locals g
    (check_group check s g).locals ⊎ ExcusedInGroup X R E s.locals g)
unfolding check_group
group_settled R E check f (single x) s h = let q = f s x h in (q.0, elim q.1 [ inl r ↦ inl (alone r) | inr e ↦ inr (excused_alone e) ])
group_settled R E check f (several o is c) s h = let q = items_settled R E check f is s h in (
  q.0,
  elim q.1 [
    | inl r ↦ inl (together r)
    | inr e ↦ inr
        (excused_together e)
  ],
)
