-- Parts in sequence: each is typed with the locals after the part before it.
use Rattle.std.specs.Prelude.{ℕ, List, [], ◌∷◌, Option, Some, None}
use Rattle.go_ast.specs.Tree.{Item, Group, single, several}
use Rattle.types_expr.specs.World.{Locals}

-- the type of rules for parts of one sort: the locals before a part, the part, and the locals after it
abbrev pub PartRule : Type 0 → Type 1
PartRule X = Locals → X → Locals → Type 0

-- the items of a list keep the rule R in turn
pub data InTurn (X : Type 0) (R : PartRule X) : Locals → List (Item X) → Locals → Type 0 where
  no_item : {before : Locals} → InTurn X R before [] before
  then_item : {before inside after : Locals} {i : Item X} {is : List (Item X)} → R before i.value inside → InTurn X R inside is after →
      InTurn X R before (i ∷ is) after

-- one declaration, or all in parentheses, keep the rule R
pub data InGroup (X : Type 0) (R : PartRule X) : Locals → Group X → Locals → Type 0 where
  alone : {before after : Locals} {x : X} → R before x after → InGroup X R before (single x) after
  together : {before after : Locals} {o c : ℕ} {is : List (Item X)} → InTurn X R before is after → InGroup X R before (several o is c) after

-- a part that may be left out keeps the rule R, if it is there
pub data IfPresent (X : Type 0) (R : PartRule X) : Locals → Option X → Locals → Type 0 where
  absent : {before : Locals} → IfPresent X R before None before
  present : {before after : Locals} {x : X} → R before x after → IfPresent X R before (Some x) after

-- the type of relations by which a part is excused: the locals before the part, and the part
abbrev pub Excuse : Type 0 → Type 1
Excuse X = Locals → X → Type 0

-- one of the items is excused by E, and those before it keep the rule R
pub data ExcusedInTurn (X : Type 0) (R : PartRule X) (E : Excuse X) : Locals → List (Item X) → Type 0 where
  this_item : {before : Locals} {i : Item X} {is : List (Item X)} → E before i.value → ExcusedInTurn X R E before (i ∷ is)
  later_item : {before inside : Locals} {i : Item X} {is : List (Item X)} → R before i.value inside → ExcusedInTurn X R E inside is →
      ExcusedInTurn X R E before (i ∷ is)

-- one declaration, or one of those in parentheses, is excused
pub data ExcusedInGroup (X : Type 0) (R : PartRule X) (E : Excuse X) : Locals → Group X → Type 0 where
  excused_alone : {before : Locals} {x : X} → E before x → ExcusedInGroup X R E before (single x)
  excused_together : {before : Locals} {o c : ℕ} {is : List (Item X)} → ExcusedInTurn X R E before is → ExcusedInGroup X R E before (several o is c)

-- a part that may be left out is there, and is excused
pub data ExcusedIfPresent (X : Type 0) (E : Excuse X) : Locals → Option X → Type 0 where
  excused_present : {before : Locals} {x : X} → E before x → ExcusedIfPresent X E before (Some x)
