-- The tokens at which one of several parts in sequence breaks a rule, where the locals are those that the parts before it declare.
use Rattle.std.specs.Prelude.{ℕ, List, ◌∷◌, Option, Some}
use Rattle.go_ast.specs.Tree.{Item, Group, single, several}
use Rattle.types_expr.specs.World.{Locals}
use Rattle.law_typing.specs.Sequences.{PartRule}

-- the type of relations by which a part of one sort breaks a rule: the locals before the part, the part, and the token
abbrev pub FaultRule : Type 0 → Type 1
FaultRule X = Locals → X → ℕ → Type 0

-- one of the items breaks a rule, by B, at this token; those before it declare locals by R
pub data BreaksInTurn (X : Type 0) (R : PartRule X) (B : FaultRule X) : Locals → List (Item X) → ℕ → Type 0 where
  this_item : {before : Locals} {i : Item X} {is : List (Item X)} {p : ℕ} → B before i.value p → BreaksInTurn X R B before (i ∷ is) p
  later_item : {before inside : Locals} {i : Item X} {is : List (Item X)} {p : ℕ} → R before i.value inside → BreaksInTurn X R B inside is p →
      BreaksInTurn X R B before (i ∷ is) p

-- one declaration, or one of those in parentheses, breaks a rule at this token
pub data BreaksInGroup (X : Type 0) (R : PartRule X) (B : FaultRule X) : Locals → Group X → ℕ → Type 0 where
  in_single : {before : Locals} {x : X} {p : ℕ} → B before x p → BreaksInGroup X R B before (single x) p
  in_several : {before : Locals} {o c p : ℕ} {is : List (Item X)} → BreaksInTurn X R B before is p → BreaksInGroup X R B before (several o is c) p

-- a part that may be left out is there, and breaks a rule at this token
pub data BreaksIfPresent (X : Type 0) (B : FaultRule X) : Locals → Option X → ℕ → Type 0 where
  in_present : {before : Locals} {x : X} {p : ℕ} → B before x p → BreaksIfPresent X B before (Some x) p
