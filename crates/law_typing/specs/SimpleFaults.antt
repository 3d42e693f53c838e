-- The tokens at which a simple statement, condition or local declaration breaks a typing rule, though the parts of the broken part break
-- none. There is one constructor for each way to break a rule, and one for each part in which a fault can be.
use Rattle.std.specs.Prelude.{◌≡◌, ℕ, Bool, true, List, [], ◌∷◌, Option, Some, None, map}
use Rattle.go_ast.specs.declared.syntax.BinaryOp.{BinaryOp}
use Rattle.go_ast.specs.declared.syntax.StepOp.{StepOp}
use Rattle.go_ast.specs.declared.syntax.UpdateOp.{UpdateOp}
use Rattle.go_ast.specs.Tree.{Item, TypeTree, ExprTree, SimpleTree, LocalTree}
use Rattle.go_ast.specs.Tree as tree
use Rattle.types_expr.specs.declared.types.Basic.TheVariants as basic
use Rattle.types_expr.specs.Places.{place_of, first_token}
use Rattle.types_expr.specs.Types.{PlainType, ValueKind, Meaning, Value, Results}
use Rattle.types_expr.specs.World.{World, Locals}
use Rattle.types_expr.specs.Judge.{ListValue}
use Rattle.law_typing.specs.Operators.{IsBasic, Operates}
use Rattle.law_typing.specs.Meanings.{HasMeaning}
use Rattle.law_typing.specs.Faults.{IsNoValue, IsNoType}
use Rattle.types_stmt.specs.Sides.{first_of_exprs, first_of_idents, receiving}
use Rattle.types_stmt.specs.Simple.{without_parentheses}
use Rattle.law_typing.specs.Assignments.{Taker, Fresh}
use Rattle.law_typing.specs.Simple.{SimpleIsTyped, Updates}
use Rattle.law_typing.specs.Excused.{IsDeclaredName}
use Rattle.law_typing.specs.ExpressionFaults.{BreaksAt, ValueBreaksAt}
use Rattle.law_typing.specs.AssignmentFaults.{SidesGive, AssignedTakes, DefinedTakes, EachTakes, taker_of, IsAssignmentFault}
use Rattle.law_typing.specs.DeclaredLocals.{WrittenTypeIs}

-- an operand that is assigned breaks a rule at this token: a part of it does, or it is not addressable
pub data OperandBreaksAt (w : World) (locals : Locals) : ExprTree → ℕ → Type 0 where
  in_operand : {e : ExprTree} {p : ℕ} → BreaksAt w locals e p → OperandBreaksAt w locals e p
  not_assignable : {e : ExprTree} {m : Meaning} → HasMeaning w locals e m → ((k : ValueKind) → m ≡ Value k true → ⊥) → OperandBreaksAt w locals e (place_of e)

-- a condition breaks a rule at this token: a part of it does, or it is no bool
pub data ConditionBreaksAt (w : World) (locals : Locals) : ExprTree → ℕ → Type 0 where
  in_condition : {e : ExprTree} {p : ℕ} → ValueBreaksAt w locals e p → ConditionBreaksAt w locals e p
  no_bool : {e : ExprTree} {k : ValueKind} {a : Bool} → HasMeaning w locals e (Value k a) → (IsBasic w k basic.Bool → ⊥) →
      ConditionBreaksAt w locals e (place_of e)

-- A single right side breaks a rule at this token: a part of it does, or it is neither a value nor a call with several results or none.
pub data SingleBreaksAt (w : World) (locals : Locals) : ExprTree → ℕ → Type 0 where
  in_lone : {e : ExprTree} {p : ℕ} → BreaksAt w locals e p → SingleBreaksAt w locals e p
  gives_nothing : {e : ExprTree} {m : Meaning} → HasMeaning w locals e m → IsNoValue m → ((ts : List PlainType) → m ≡ Results ts → ⊥) →
      SingleBreaksAt w locals e (place_of e)

-- one of the expressions breaks a rule, by B, at this token
pub data AnyBreaksAt (B : ExprTree → ℕ → Type 0) : List (Item ExprTree) → ℕ → Type 0 where
  this_one : {i : Item ExprTree} {is : List (Item ExprTree)} {p : ℕ} → B i.value p → AnyBreaksAt B (i ∷ is) p
  a_later_one : {i : Item ExprTree} {is : List (Item ExprTree)} {p : ℕ} → AnyBreaksAt B is p → AnyBreaksAt B (i ∷ is) p

-- right sides or returned expressions break a rule at this token
pub data SidesBreakAt (w : World) (locals : Locals) : List (Item ExprTree) → ℕ → Type 0 where
  alone : {i : Item ExprTree} {p : ℕ} → SingleBreaksAt w locals i.value p → SidesBreakAt w locals (i ∷ []) p
  one_of_several : {i j : Item ExprTree} {is : List (Item ExprTree)} {p : ℕ} → AnyBreaksAt (ValueBreaksAt w locals) (i ∷ j ∷ is) p →
      SidesBreakAt w locals (i ∷ j ∷ is) p

-- A left side of `:=` that declares no local breaks a rule at this token: a part of it does, or it is a value but no name.
pub data DefinedBreaksAt (w : World) (locals : Locals) : ExprTree → ℕ → Type 0 where
  in_old_name : {e : ExprTree} {p : ℕ} → (IsDeclaredName w e → ⊥) → ValueBreaksAt w locals e p → DefinedBreaksAt w locals e p
  defines_no_name : {e : ExprTree} {k : ValueKind} {a : Bool} → ((p : ℕ) → e ≡ tree.Name p → ⊥) → HasMeaning w locals e (Value k a) →
      DefinedBreaksAt w locals e (place_of e)

-- A simple statement breaks a rule at this token. Parentheses around an expression statement ask for no value.
pub data SimpleBreaksAt (w : World) (locals : Locals) : SimpleTree → ℕ → Type 0 where
  in_alone : {e : ExprTree} {p : ℕ} → BreaksAt w locals (without_parentheses e) p → SimpleBreaksAt w locals (tree.Alone e) p
  no_statement : {e : ExprTree} {m : Meaning} → HasMeaning w locals (without_parentheses e) m →
      ((after : Locals) → SimpleIsTyped w locals (tree.Alone e) after → ⊥) →
      SimpleBreaksAt w locals (tree.Alone e) (place_of e)
  in_step : {e : ExprTree} {o : StepOp} {q p : ℕ} → OperandBreaksAt w locals e p → SimpleBreaksAt w locals (tree.Step e o q) p
  no_step : {e : ExprTree} {o : StepOp} {q : ℕ} {k : ValueKind} → HasMeaning w locals e (Value k true) → (IsBasic w k basic.Int → ⊥) →
      SimpleBreaksAt w locals (tree.Step e o q) (place_of e)
  in_updated : {x y : ExprTree} {o : UpdateOp} {q p : ℕ} → OperandBreaksAt w locals x p → SimpleBreaksAt w locals (tree.Update x o q y) p
  in_update : {x y : ExprTree} {o : UpdateOp} {q p : ℕ} → ValueBreaksAt w locals y p → SimpleBreaksAt w locals (tree.Update x o q y) p
  no_update : {x y : ExprTree} {o : UpdateOp} {b : BinaryOp} {q : ℕ} {j k : ValueKind} {a : Bool} → Updates o b → HasMeaning w locals x (Value j true) →
      HasMeaning w locals y (Value k a) → ((l : ValueKind) → Operates w b j k l → ⊥) → SimpleBreaksAt w locals (tree.Update x o q y) (first_token x)
  in_assigned : {xs ys : List (Item ExprTree)} {q p : ℕ} → AnyBreaksAt (OperandBreaksAt w locals) xs p → SimpleBreaksAt w locals (tree.Assign xs q ys) p
  in_assignment : {xs ys : List (Item ExprTree)} {q p : ℕ} → SidesBreakAt w locals ys p → SimpleBreaksAt w locals (tree.Assign xs q ys) p
  no_assignment : {xs ys : List (Item ExprTree)} {q p : ℕ} {vs : List ListValue} {ts : List (Option Taker)} → SidesGive w locals ys vs →
      EachTakes (AssignedTakes w locals) xs ts → IsAssignmentFault (receiving w ys vs) (first_of_exprs xs) vs ts p →
      SimpleBreaksAt w locals (tree.Assign xs q ys) p
  in_defined : {xs ys : List (Item ExprTree)} {q p : ℕ} → AnyBreaksAt (DefinedBreaksAt w locals) xs p → SimpleBreaksAt w locals (tree.Define xs q ys) p
  in_definition : {xs ys : List (Item ExprTree)} {q p : ℕ} → SidesBreakAt w locals ys p → SimpleBreaksAt w locals (tree.Define xs q ys) p
  no_definition : {xs ys : List (Item ExprTree)} {q p : ℕ} {vs : List ListValue} {ts : List (Option Taker)} → SidesGive w locals ys vs →
      EachTakes (DefinedTakes w locals) xs ts → IsAssignmentFault (receiving w ys vs) (first_of_exprs xs) vs ts p →
      SimpleBreaksAt w locals (tree.Define xs q ys) p

-- a declaration of locals breaks a rule at this token
pub data LocalBreaksAt (w : World) (locals : Locals) : LocalTree → ℕ → Type 0 where
  in_type : {l : LocalTree} {x : TypeTree} {p : ℕ} → l.type_use ≡ Some x → IsNoType w x p → LocalBreaksAt w locals l p
  in_values : {l : LocalTree} {v : ℕ × List (Item ExprTree)} {p : ℕ} → l.values ≡ Some v → SidesBreakAt w locals v.1 p → LocalBreaksAt w locals l p
  no_values_of_type : {l : LocalTree} {x : TypeTree} {t : Option PlainType} {v : ℕ × List (Item ExprTree)} {vs : List ListValue} {p : ℕ} →
      l.type_use ≡ Some x → l.values ≡ Some v → WrittenTypeIs w x t → SidesGive w locals v.1 vs →
      IsAssignmentFault (receiving w v.1 vs) (first_of_idents l.names) vs (map (λ i. taker_of t) l.names) p → LocalBreaksAt w locals l p
  no_values : {l : LocalTree} {v : ℕ × List (Item ExprTree)} {vs : List ListValue} {p : ℕ} → l.type_use ≡ None → l.values ≡ Some v → SidesGive w locals v.1 vs →
      IsAssignmentFault (receiving w v.1 vs) (first_of_idents l.names) vs (map (λ i. Some Fresh) l.names) p → LocalBreaksAt w locals l p
