-- The typing rules of simple statements, conditions and declarations of locals, one constructor for each.
use Rattle.std.specs.Prelude.{◌≡◌, ℕ, Bool, true, List, [], ◌∷◌, Option, Some, None, map}
use Rattle.go_ast.specs.declared.syntax.BinaryOp.{BinaryOp}
use Rattle.go_ast.specs.declared.syntax.BinaryOp.TheVariants as binary
use Rattle.go_ast.specs.declared.syntax.StepOp.{StepOp}
use Rattle.go_ast.specs.declared.syntax.UpdateOp.{UpdateOp}
use Rattle.go_ast.specs.declared.syntax.UpdateOp.TheVariants as update
use Rattle.go_ast.specs.Tree.{Item, TypeTree, ExprTree, LinkTrees, ArgumentTrees, SimpleTree, LocalTree}
use Rattle.go_ast.specs.Tree as tree
use Rattle.types_expr.specs.declared.types.Basic.TheVariants as basic
use Rattle.types_expr.specs.declared.types.Builtin.TheVariants as builtin
use Rattle.types_expr.specs.Types.{PlainType, ValueKind, Typed, Signature, Meaning, Value, Function, BuiltinName}
use Rattle.types_expr.specs.World.{World, Locals, Local}
use Rattle.law_typing.specs.Fits.{FitsType}
use Rattle.law_typing.specs.Operators.{IsBasic, Operates}
use Rattle.law_typing.specs.Names.{IsType}
use Rattle.law_typing.specs.Meanings.{HasMeaning}
use Rattle.types_stmt.specs.Sides.{all_named, receiving}
use Rattle.law_typing.specs.Assignments.{Taker, Fresh, OfType, TakenInTurn, GiveKinds, Declare, DeclareAs}

-- a condition is typed: a value whose underlying type is bool
pub data ConditionIsTyped (w : World) : Locals → ExprTree → Locals → Type 0 where
  a_condition : {locals : Locals} {e : ExprTree} {k : ValueKind} {a : Bool} → HasMeaning w locals e (Value k a) → IsBasic w k basic.Bool →
      ConditionIsTyped w locals e locals

-- the assignment operator `op=` applies the binary operator op
pub data Updates : UpdateOp → BinaryOp → Type 0 where
  by_sum : Updates update.Add binary.Add
  by_difference : Updates update.Subtract binary.Subtract
  by_product : Updates update.Multiply binary.Multiply
  by_quotient : Updates update.Divide binary.Divide
  by_remainder : Updates update.Remainder binary.Remainder

-- the first links are the second ones, followed by a call
pub data EndsInCall : LinkTrees → LinkTrees → Type 0 where
  the_call : {o c : ℕ} {xs : ArgumentTrees} → EndsInCall (tree.call o xs c tree.no_link) tree.no_link
  behind_selector : {d n : ℕ} {rest front : LinkTrees} → EndsInCall rest front → EndsInCall (tree.selector d n rest) (tree.selector d n front)
  behind_index : {o c : ℕ} {e : ExprTree} {rest front : LinkTrees} → EndsInCall rest front → EndsInCall (tree.index o e c rest) (tree.index o e c front)
  behind_call : {o c : ℕ} {xs : ArgumentTrees} {rest front : LinkTrees} → EndsInCall rest front → EndsInCall (tree.call o xs c rest) (tree.call o xs c front)

-- a call of an operand of this meaning may be a statement: of a function, a method, `panic`, `print` or `println`
pub data MayBeStatement : Meaning → Type 0 where
  a_function : {s : Signature} → MayBeStatement (Function s)
  a_panic : MayBeStatement (BuiltinName builtin.Panic)
  a_print : MayBeStatement (BuiltinName builtin.Print)
  a_println : MayBeStatement (BuiltinName builtin.Println)

-- left sides of `=` are these targets: `_`, or a variable
pub data AreAssigned (w : World) (locals : Locals) : List (Item ExprTree) → List Taker → Type 0 where
  no_left : AreAssigned w locals [] []
  a_blank : {i : Item ExprTree} {is : List (Item ExprTree)} {p : ℕ} {ts : List Taker} → i.value ≡ tree.Blank p → AreAssigned w locals is ts →
      AreAssigned w locals (i ∷ is) (Fresh ∷ ts)
  an_operand : {i : Item ExprTree} {is : List (Item ExprTree)} {t : PlainType} {ts : List Taker} → HasMeaning w locals i.value (Value (Typed t) true) →
      AreAssigned w locals is ts →
      AreAssigned w locals (i ∷ is) (OfType t ∷ ts)

-- Left sides of `:=` are these targets and declare these names: `_`, a new name, which is bound to itself, or the name of a variable.
pub data AreDefined (w : World) (locals : Locals) : List (Item ExprTree) → List Taker → List (Option ℕ) → Type 0 where
  no_definition : AreDefined w locals [] [] []
  an_underscore : {i : Item ExprTree} {is : List (Item ExprTree)} {p : ℕ} {ts : List Taker} {ns : List (Option ℕ)} → i.value ≡ tree.Blank p →
      AreDefined w locals is ts ns →
      AreDefined w locals (i ∷ is) (Fresh ∷ ts) (None ∷ ns)
  a_new_name : {i : Item ExprTree} {is : List (Item ExprTree)} {p : ℕ} {ts : List Taker} {ns : List (Option ℕ)} → i.value ≡ tree.Name p →
      w.bound p ≡ Local p → AreDefined w locals is ts ns →
      AreDefined w locals (i ∷ is) (Fresh ∷ ts) (Some p ∷ ns)
  an_old_name : {i : Item ExprTree} {is : List (Item ExprTree)} {p : ℕ} {t : PlainType} {ts : List Taker} {ns : List (Option ℕ)} → i.value ≡ tree.Name p →
      (w.bound p ≡ Local p → ⊥) →
      HasMeaning w locals (tree.Name p) (Value (Typed t) true) → AreDefined w locals is ts ns → AreDefined w locals (i ∷ is) (OfType t ∷ ts) (None ∷ ns)

-- a simple statement is typed: the locals before it, the statement, and the locals after it
pub data SimpleIsTyped (w : World) : Locals → SimpleTree → Locals → Type 0 where
  a_call : {locals : Locals} {e : ExprTree} {links front : LinkTrees} {m f : Meaning} → HasMeaning w locals (tree.Chain e links) m → EndsInCall links front →
      HasMeaning w locals (tree.Chain e front) f → MayBeStatement f → SimpleIsTyped w locals (tree.Alone (tree.Chain e links)) locals
  a_step : {locals : Locals} {e : ExprTree} {o : StepOp} {p : ℕ} {k : ValueKind} → HasMeaning w locals e (Value k true) → IsBasic w k basic.Int →
      SimpleIsTyped w locals (tree.Step e o p) locals
  an_update : {locals : Locals} {x y : ExprTree} {o : UpdateOp} {b : BinaryOp} {p : ℕ} {t : PlainType} {k l : ValueKind} {a : Bool} → Updates o b →
      HasMeaning w locals x (Value (Typed t) true) →
      HasMeaning w locals y (Value k a) → Operates w b (Typed t) k l → FitsType w l t → SimpleIsTyped w locals (tree.Update x o p y) locals
  an_assignment : {locals : Locals} {xs ys : List (Item ExprTree)} {p : ℕ} {ts : List Taker} {ks : List ValueKind} → AreAssigned w locals xs ts →
      GiveKinds w locals ys ks → TakenInTurn (receiving w ys ks) ks ts →
      SimpleIsTyped w locals (tree.Assign xs p ys) locals
  a_definition : {before after : Locals} {xs ys : List (Item ExprTree)} {p : ℕ} {ts : List Taker} {ns : List (Option ℕ)} {ks : List ValueKind} →
      AreDefined w before xs ts ns → GiveKinds w before ys ks →
      TakenInTurn (receiving w ys ks) ks ts → Declare before ns ks after → SimpleIsTyped w before (tree.Define xs p ys) after

-- a declaration of locals is typed: with a written type, with or without values; or with values alone
pub data LocalIsTyped (w : World) : Locals → LocalTree → Locals → Type 0 where
  of_type : {before after : Locals} {l : LocalTree} {x : TypeTree} {t : PlainType} → l.type_use ≡ Some x → l.values ≡ None → IsType w x t →
      DeclareAs t before (all_named l.names) after →
      LocalIsTyped w before l after
  of_type_with_values : {before after : Locals} {l : LocalTree} {x : TypeTree} {t : PlainType} {v : ℕ × List (Item ExprTree)} {ks : List ValueKind} →
      l.type_use ≡ Some x → l.values ≡ Some v → IsType w x t →
      GiveKinds w before v.1 ks → TakenInTurn (receiving w v.1 ks) ks (map (λ i. OfType t) l.names) → DeclareAs t before (all_named l.names) after →
      LocalIsTyped w before l after
  of_values : {before after : Locals} {l : LocalTree} {v : ℕ × List (Item ExprTree)} {ks : List ValueKind} → l.type_use ≡ None → l.values ≡ Some v →
      GiveKinds w before v.1 ks →
      TakenInTurn (receiving w v.1 ks) ks (map (λ i. Fresh) l.names) → Declare before (all_named l.names) ks after → LocalIsTyped w before l after
