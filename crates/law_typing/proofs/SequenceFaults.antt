-- Parts in sequence: their check finds faults and locals exactly, where the check of each part does.
use Rattle.std.proofs.Common.{ℕ, ◌≡◌, ◌⊎◌, inl, inr, List, [], ◌∷◌, ◌++◌, Option, Some, None, refl, sym, subst}
use Rattle.go_ast.specs.Tree.{Item, Group, single, several}
use Rattle.types_expr.specs.World.{Locals}
use Rattle.types_stmt.specs.Checked.{FoundSoFar, check_items, check_group}
use Rattle.law_typing.specs.Sequences.{PartRule, InTurn, no_item, then_item, InGroup, alone, together, IfPresent, absent, present}
use Rattle.law_typing.specs.SequenceFaults.{FaultRule, BreaksInTurn, this_item, later_item, BreaksInGroup, in_single, in_several, BreaksIfPresent, in_present}
use Rattle.law_typing.proofs.FaultLists.{HasToken, AreExactly, holds_right, holds_cases}

-- A check of a part is exact. The locals after it are exactly those that the part declares, by R. The faults after it are those before it,
-- and one at each token where the part breaks a rule, by B.
pub record IsExact (X : Type 0) (R : PartRule X) (B : FaultRule X) (check : FoundSoFar → X → FoundSoFar) : Type 0 where
  pub leads : (s : FoundSoFar) (x : X) → R s.locals x (check s x).locals
  pub only : (s : FoundSoFar) (x : X) (after : Locals) → R s.locals x after → (check s x).locals ≡ after
  pub stays : (s : FoundSoFar) (x : X) (p : ℕ) → HasToken s.faults p → HasToken (check s x).faults p
  pub found : (s : FoundSoFar) (x : X) (p : ℕ) → HasToken (check s x).faults p → HasToken s.faults p ⊎ B s.locals x p
  pub stands : (s : FoundSoFar) (x : X) (p : ℕ) → B s.locals x p → HasToken (check s x).faults p

-- faults that are added to those before
pub added_found : (before : List ℕ) {added : List ℕ} {B : ℕ → Type 0} → AreExactly added B → (p : ℕ) → HasToken (before ++ added) p → HasToken before p ⊎ B p
added_found before {added} t p h = elim (holds_cases before added p h) [ inl a ↦ inl a | inr b ↦ inr (t.found p b) ]

pub added_stands : (before : List ℕ) {added : List ℕ} {B : ℕ → Type 0} → AreExactly added B → (p : ℕ) → B p → HasToken (before ++ added) p
added_stands before {added} t p b = holds_right before added p (t.stands p b)

-- items

items_lead : {X : Type 0} {R : PartRule X} {B : FaultRule X} {check : FoundSoFar → X → FoundSoFar} → IsExact X R B check →
    (s : FoundSoFar) (is : List (Item X)) →
    InTurn X R s.locals is (check_items check s is).locals
unfolding check_items
items_lead t s [] = no_item
items_lead {check = check} t s (i ∷ is) = then_item (t.leads s i.value) (items_lead t (check s i.value) is)

items_only : {X : Type 0} {R : PartRule X} {B : FaultRule X} {check : FoundSoFar → X → FoundSoFar} → IsExact X R B check →
    (s : FoundSoFar) (is : List (Item X)) (after : Locals) →
    InTurn X R s.locals is after → (check_items check s is).locals ≡ after
unfolding check_items
items_only t s [] after no_item = refl
items_only {X} {R} {check = check} t s (i ∷ is) after (then_item {inside = inside} r more) = items_only t (check s i.value) is after (subst
    (λ z. InTurn X R z is after) (sym (t.only s i.value inside r)) more)

items_stay : {X : Type 0} {R : PartRule X} {B : FaultRule X} {check : FoundSoFar → X → FoundSoFar} → IsExact X R B check →
    (s : FoundSoFar) (is : List (Item X)) (p : ℕ) →
    HasToken s.faults p → HasToken (check_items check s is).faults p
unfolding check_items
items_stay t s [] p h = h
items_stay {check = check} t s (i ∷ is) p h = items_stay t (check s i.value) is p (t.stays s i.value p h)

items_found : {X : Type 0} {R : PartRule X} {B : FaultRule X} {check : FoundSoFar → X → FoundSoFar} → IsExact X R B check →
    (s : FoundSoFar) (is : List (Item X)) (p : ℕ) →
    HasToken (check_items check s is).faults p → HasToken s.faults p ⊎ BreaksInTurn X R B s.locals is p
unfolding check_items
items_found t s [] p h = inl h
items_found {check = check} t s (i ∷ is) p h = elim (items_found t (check s i.value) is p h) [
  | inl q ↦ elim (t.found s i.value p q) [ inl a ↦ inl a | inr b ↦ inr (this_item b) ]
  | inr b ↦ inr (later_item (t.leads s i.value) b)
]

items_stand : {X : Type 0} {R : PartRule X} {B : FaultRule X} {check : FoundSoFar → X → FoundSoFar} → IsExact X R B check →
    (s : FoundSoFar) (is : List (Item X)) (p : ℕ) →
    BreaksInTurn X R B s.locals is p → HasToken (check_items check s is).faults p
unfolding check_items
items_stand t s [] p b = elim b [ ]
items_stand {check = check} t s (i ∷ is) p (this_item b) = items_stay t (check s i.value) is p (t.stands s i.value p b)
items_stand {X} {R} {B} {check} t s (i ∷ is) p (later_item {inside = inside} r b) = items_stand t (check s i.value) is p (subst
    (λ z. BreaksInTurn X R B z is p) (sym (t.only s i.value inside r)) b)

pub items_told : {X : Type 0} {R : PartRule X} {B : FaultRule X} {check : FoundSoFar → X → FoundSoFar} → IsExact X R B check →
    IsExact (List (Item X)) (InTurn X R) (BreaksInTurn X R B) (check_items check)
items_told t = record {
  leads = λ s is. items_lead t s is;
  only = λ s is after r. items_only t s is after r;
  stays = λ s is p h. items_stay t s is p h;
  found = λ s is p h. items_found t s is p h;
  stands = λ s is p b. items_stand t s is p b;
}

-- groups

group_leads : {X : Type 0} {R : PartRule X} {B : FaultRule X} {check : FoundSoFar → X → FoundSoFar} → IsExact X R B check → (s : FoundSoFar) (g : Group X) →
    InGroup X R s.locals g (check_group check s g).locals
unfolding check_group
group_leads t s (single x) = alone (t.leads s x)
group_leads t s (several o is c) = together (items_lead t s is)

group_only : {X : Type 0} {R : PartRule X} {B : FaultRule X} {check : FoundSoFar → X → FoundSoFar} → IsExact X R B check →
    (s : FoundSoFar) (g : Group X) (after : Locals) →
    InGroup X R s.locals g after → (check_group check s g).locals ≡ after
unfolding check_group
group_only t s (single x) after (alone r) = t.only s x after r
group_only t s (several o is c) after (together r) = items_only t s is after r

group_stays : {X : Type 0} {R : PartRule X} {B : FaultRule X} {check : FoundSoFar → X → FoundSoFar} → IsExact X R B check →
    (s : FoundSoFar) (g : Group X) (p : ℕ) →
    HasToken s.faults p → HasToken (check_group check s g).faults p
unfolding check_group
group_stays t s (single x) p h = t.stays s x p h
group_stays t s (several o is c) p h = items_stay t s is p h

group_found : {X : Type 0} {R : PartRule X} {B : FaultRule X} {check : FoundSoFar → X → FoundSoFar} → IsExact X R B check →
    (s : FoundSoFar) (g : Group X) (p : ℕ) →
    HasToken (check_group check s g).faults p → HasToken s.faults p ⊎ BreaksInGroup X R B s.locals g p
unfolding check_group
group_found t s (single x) p h = elim (t.found s x p h) [ inl a ↦ inl a | inr b ↦ inr (in_single b) ]
group_found t s (several o is c) p h = elim (items_found t s is p h) [ inl a ↦ inl a | inr b ↦ inr (in_several b) ]

group_stands : {X : Type 0} {R : PartRule X} {B : FaultRule X} {check : FoundSoFar → X → FoundSoFar} → IsExact X R B check →
    (s : FoundSoFar) (g : Group X) (p : ℕ) →
    BreaksInGroup X R B s.locals g p → HasToken (check_group check s g).faults p
unfolding check_group
group_stands t s (single x) p (in_single b) = t.stands s x p b
group_stands t s (several o is c) p (in_several b) = items_stand t s is p b

pub group_told : {X : Type 0} {R : PartRule X} {B : FaultRule X} {check : FoundSoFar → X → FoundSoFar} → IsExact X R B check →
    IsExact (Group X) (InGroup X R) (BreaksInGroup X R B) (check_group check)
group_told t = record {
  leads = λ s g. group_leads t s g;
  only = λ s g after r. group_only t s g after r;
  stays = λ s g p h. group_stays t s g p h;
  found = λ s g p h. group_found t s g p h;
  stands = λ s g p b. group_stands t s g p b;
}

-- a part that may be left out

abbrev pub check_present : {X : Type 0} → (FoundSoFar → X → FoundSoFar) → FoundSoFar → Option X → FoundSoFar
check_present check s None = s
check_present check s (Some x) = check s x

present_leads : {X : Type 0} {R : PartRule X} {B : FaultRule X} {check : FoundSoFar → X → FoundSoFar} → IsExact X R B check → (s : FoundSoFar) (o : Option X) →
    IfPresent X R s.locals o (check_present check s o).locals
present_leads t s None = absent
present_leads t s (Some x) = present (t.leads s x)

present_only : {X : Type 0} {R : PartRule X} {B : FaultRule X} {check : FoundSoFar → X → FoundSoFar} → IsExact X R B check →
    (s : FoundSoFar) (o : Option X) (after : Locals) →
    IfPresent X R s.locals o after → (check_present check s o).locals ≡ after
present_only t s None after absent = refl
present_only t s (Some x) after (present r) = t.only s x after r

present_stays : {X : Type 0} {R : PartRule X} {B : FaultRule X} {check : FoundSoFar → X → FoundSoFar} → IsExact X R B check →
    (s : FoundSoFar) (o : Option X) (p : ℕ) →
    HasToken s.faults p → HasToken (check_present check s o).faults p
present_stays t s None p h = h
present_stays t s (Some x) p h = t.stays s x p h

present_found : {X : Type 0} {R : PartRule X} {B : FaultRule X} {check : FoundSoFar → X → FoundSoFar} → IsExact X R B check →
    (s : FoundSoFar) (o : Option X) (p : ℕ) →
    HasToken (check_present check s o).faults p → HasToken s.faults p ⊎ BreaksIfPresent X B s.locals o p
present_found t s None p h = inl h
present_found t s (Some x) p h = elim (t.found s x p h) [ inl a ↦ inl a | inr b ↦ inr (in_present b) ]

present_stands : {X : Type 0} {R : PartRule X} {B : FaultRule X} {check : FoundSoFar → X → FoundSoFar} → IsExact X R B check →
    (s : FoundSoFar) (o : Option X) (p : ℕ) →
    BreaksIfPresent X B s.locals o p → HasToken (check_present check s o).faults p
present_stands t s None p b = elim b [ ]
present_stands t s (Some x) p (in_present b) = t.stands s x p b

pub present_told : {X : Type 0} {R : PartRule X} {B : FaultRule X} {check : FoundSoFar → X → FoundSoFar} → IsExact X R B check →
    IsExact (Option X) (IfPresent X R) (BreaksIfPresent X B) (check_present check)
present_told t = record {
  leads = λ s o. present_leads t s o;
  only = λ s o after r. present_only t s o after r;
  stays = λ s o p h. present_stays t s o p h;
  found = λ s o p h. present_found t s o p h;
  stands = λ s o p b. present_stands t s o p b;
}
