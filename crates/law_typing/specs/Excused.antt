-- Excused parts: those that are not typed and yet need not have a fault of their own, where all parts before them are typed. Such a part
-- uses something broken. Or it is what no parsed and bound file has: a local declaration without type and values, a variable without a
-- type, a left name of `:=` that neither declares nor is a variable.
use Rattle.std.specs.Prelude.{◌≡◌, ℕ, Bool, false, true, List, ◌∷◌, Option, Some, None}
use Rattle.go_ast.specs.declared.syntax.StepOp.{StepOp}
use Rattle.go_ast.specs.declared.syntax.UpdateOp.{UpdateOp}
use Rattle.go_ast.specs.Tree.{Item, Group, TypeTree, ExprTree, SimpleTree, LocalTree, InitTree, ForTree, StatementTree, BlockTree, StatementTrees, IfTree}
use Rattle.go_ast.specs.Tree.{ElseTree, ReceiverTree, ParamTree, ResultTree, FuncTree, GlobalTree, FieldTree, MethodTree, BodyTree, TypeSpecTree, DeclTree}
use Rattle.go_ast.specs.Tree.{FileTree}
use Rattle.go_ast.specs.Tree as tree
use Rattle.types_expr.specs.Types.{PlainType, ValueKind, Value}
use Rattle.types_expr.specs.World.{World, Locals, Local, BrokenType, no_locals}
use Rattle.law_typing.specs.Operators.{IsUntyped}
use Rattle.law_typing.specs.Meanings.{HasMeaning}
use Rattle.law_typing.specs.BrokenUses.{UsesBroken, IsBrokenType}
use Rattle.law_typing.specs.Sequences.{InTurn, IfPresent, ExcusedInTurn, ExcusedInGroup, ExcusedIfPresent}
use Rattle.law_typing.specs.Simple.{ConditionIsTyped, SimpleIsTyped, LocalIsTyped}
use Rattle.law_typing.specs.Statements.{InitIsTyped, HeaderIsTyped, StatementIsTyped, BlockIsTyped}
use Rattle.law_typing.specs.Declarations.{ReceiverIsTyped, ParamIsTyped, AreResults, GlobalIsTyped, TypeIsTyped, DeclIsTyped}

-- a value of kind k, addressable or not, is no variable with a type: it has no type, or is not addressable
pub data IsNoVariable : ValueKind → Bool → Type 0 where
  without_type : {k : ValueKind} {a : Bool} → IsUntyped k → IsNoVariable k a
  constant : {k : ValueKind} → IsNoVariable k false

-- one of the expressions uses something broken
pub data AnyUsesBroken (w : World) (locals : Locals) : List (Item ExprTree) → Type 0 where
  this_one : {i : Item ExprTree} {is : List (Item ExprTree)} → UsesBroken w locals i.value → AnyUsesBroken w locals (i ∷ is)
  a_later_one : {i : Item ExprTree} {is : List (Item ExprTree)} → AnyUsesBroken w locals is → AnyUsesBroken w locals (i ∷ is)

-- the expression is `_`
pub data IsBlank : ExprTree → Type 0 where
  underscored : {p : ℕ} → IsBlank (tree.Blank p)

-- the expression is a name that declares a local: it is bound to itself
pub data IsDeclaredName (w : World) : ExprTree → Type 0 where
  bound_to_itself : {p : ℕ} → w.bound p ≡ Local p → IsDeclaredName w (tree.Name p)

-- one of the left sides of `=`, and not `_`, uses something broken or is a variable without a type
pub data AssignedIsExcused (w : World) (locals : Locals) : List (Item ExprTree) → Type 0 where
  assigned_uses : {i : Item ExprTree} {is : List (Item ExprTree)} → (IsBlank i.value → ⊥) → UsesBroken w locals i.value → AssignedIsExcused w locals (i ∷ is)
  assigned_without_type : {i : Item ExprTree} {is : List (Item ExprTree)} {k : ValueKind} → HasMeaning w locals i.value (Value k true) → IsUntyped k →
      AssignedIsExcused w locals (i ∷ is)
  later_assigned : {i : Item ExprTree} {is : List (Item ExprTree)} → AssignedIsExcused w locals is → AssignedIsExcused w locals (i ∷ is)

-- A left side of `:=` uses something broken or is no variable with a type. It is neither `_` nor a name that declares a local.
pub data DefinedIsExcused (w : World) (locals : Locals) : List (Item ExprTree) → Type 0 where
  defined_uses : {i : Item ExprTree} {is : List (Item ExprTree)} → (IsBlank i.value → ⊥) → (IsDeclaredName w i.value → ⊥) → UsesBroken w locals i.value →
      DefinedIsExcused w locals (i ∷ is)
  defined_no_variable : {i : Item ExprTree} {is : List (Item ExprTree)} {k : ValueKind} {a : Bool} → (IsDeclaredName w i.value → ⊥) →
      HasMeaning w locals i.value (Value k a) → IsNoVariable k a → DefinedIsExcused w locals (i ∷ is)
  later_defined : {i : Item ExprTree} {is : List (Item ExprTree)} → DefinedIsExcused w locals is → DefinedIsExcused w locals (i ∷ is)

-- a simple statement is excused
pub data SimpleIsExcused (w : World) : Locals → SimpleTree → Type 0 where
  in_call : {locals : Locals} {e : ExprTree} → UsesBroken w locals e → SimpleIsExcused w locals (tree.Alone e)
  in_step : {locals : Locals} {e : ExprTree} {o : StepOp} {p : ℕ} → UsesBroken w locals e → SimpleIsExcused w locals (tree.Step e o p)
  in_updated : {locals : Locals} {x y : ExprTree} {o : UpdateOp} {p : ℕ} → UsesBroken w locals x → SimpleIsExcused w locals (tree.Update x o p y)
  in_update : {locals : Locals} {x y : ExprTree} {o : UpdateOp} {p : ℕ} → UsesBroken w locals y → SimpleIsExcused w locals (tree.Update x o p y)
  updated_without_type : {locals : Locals} {x y : ExprTree} {o : UpdateOp} {p : ℕ} {k : ValueKind} → HasMeaning w locals x (Value k true) → IsUntyped k →
      SimpleIsExcused w locals (tree.Update x o p y)
  in_assigned : {locals : Locals} {xs ys : List (Item ExprTree)} {p : ℕ} → AssignedIsExcused w locals xs → SimpleIsExcused w locals (tree.Assign xs p ys)
  in_assignment : {locals : Locals} {xs ys : List (Item ExprTree)} {p : ℕ} → AnyUsesBroken w locals ys → SimpleIsExcused w locals (tree.Assign xs p ys)
  in_defined : {locals : Locals} {xs ys : List (Item ExprTree)} {p : ℕ} → DefinedIsExcused w locals xs → SimpleIsExcused w locals (tree.Define xs p ys)
  in_definition : {locals : Locals} {xs ys : List (Item ExprTree)} {p : ℕ} → AnyUsesBroken w locals ys → SimpleIsExcused w locals (tree.Define xs p ys)

-- a declaration of locals is excused: its type is broken, a value uses something broken, or it has neither type nor values
pub data LocalIsExcused (w : World) : Locals → LocalTree → Type 0 where
  of_broken_type : {locals : Locals} {l : LocalTree} {x : TypeTree} → l.type_use ≡ Some x → IsBrokenType w x → LocalIsExcused w locals l
  of_broken_value : {locals : Locals} {l : LocalTree} {v : ℕ × List (Item ExprTree)} → l.values ≡ Some v → AnyUsesBroken w locals v.1 →
      LocalIsExcused w locals l
  of_nothing : {locals : Locals} {l : LocalTree} → l.type_use ≡ None → l.values ≡ None → LocalIsExcused w locals l

-- the statement before the condition of an `if` is excused
pub data InitIsExcused (w : World) : Locals → InitTree → Type 0 where
  in_init : {locals : Locals} {i : InitTree} → ExcusedIfPresent SimpleTree (SimpleIsExcused w) locals i.simple → InitIsExcused w locals i

-- the header of a `for` is excused, in its first part that is not typed
pub data HeaderIsExcused (w : World) : Locals → ForTree → Type 0 where
  in_while : {locals : Locals} {e : ExprTree} → UsesBroken w locals e → HeaderIsExcused w locals (tree.while e)
  in_first : {before : Locals} {init post : Option SimpleTree} {condition : Option ExprTree} {p q : ℕ} →
      ExcusedIfPresent SimpleTree (SimpleIsExcused w) before init →
      HeaderIsExcused w before (tree.clauses init p condition q post)
  in_test : {before entered : Locals} {init post : Option SimpleTree} {condition : Option ExprTree} {p q : ℕ} →
      IfPresent SimpleTree (SimpleIsTyped w) before init entered →
      ExcusedIfPresent ExprTree (UsesBroken w) entered condition → HeaderIsExcused w before (tree.clauses init p condition q post)
  in_post : {before entered tested : Locals} {init post : Option SimpleTree} {condition : Option ExprTree} {p q : ℕ} →
      IfPresent SimpleTree (SimpleIsTyped w) before init entered →
      IfPresent ExprTree (ConditionIsTyped w) entered condition tested → ExcusedIfPresent SimpleTree (SimpleIsExcused w) tested post →
      HeaderIsExcused w before (tree.clauses init p condition q post)

mutual
  -- a statement of a function with these results is excused
  pub data StatementIsExcused (w : World) (results : List PlainType) : Locals → StatementTree → Type 0 where
    in_declaration : {before : Locals} {p : ℕ} {g : Group LocalTree} → ExcusedInGroup LocalTree (LocalIsTyped w) (LocalIsExcused w) before g →
        StatementIsExcused w results before (tree.Var p g)
    in_simple : {before : Locals} {s : SimpleTree} → SimpleIsExcused w before s → StatementIsExcused w results before (tree.Simple s)
    in_inner : {before : Locals} {b : BlockTree} → BlockIsExcused w results before b → StatementIsExcused w results before (tree.Inner b)
    in_choice : {before : Locals} {i : IfTree} → IfIsExcused w results before i → StatementIsExcused w results before (tree.If i)
    in_header : {before : Locals} {p : ℕ} {h : ForTree} {b : BlockTree} → HeaderIsExcused w before h → StatementIsExcused w results before (tree.For p h b)
    in_loop : {before entered : Locals} {p : ℕ} {h : ForTree} {b : BlockTree} → HeaderIsTyped w before h entered → BlockIsExcused w results entered b →
        StatementIsExcused w results before (tree.For p h b)
    in_return : {before : Locals} {p : ℕ} {es : List (Item ExprTree)} → AnyUsesBroken w before es → StatementIsExcused w results before (tree.Return p es)

  -- a block is excused
  pub data BlockIsExcused (w : World) (results : List PlainType) : Locals → BlockTree → Type 0 where
    in_block : {before : Locals} {o c : ℕ} {ss : StatementTrees} → StatementsAreExcused w results before ss →
        BlockIsExcused w results before (tree.block o ss c)

  -- one of the statements is excused; those before it are typed
  pub data StatementsAreExcused (w : World) (results : List PlainType) : Locals → StatementTrees → Type 0 where
    this_statement : {before : Locals} {s : StatementTree} {p : Option ℕ} {rest : StatementTrees} → StatementIsExcused w results before s →
        StatementsAreExcused w results before (tree.statement s p rest)
    later_statement : {before inside : Locals} {s : StatementTree} {p : Option ℕ} {rest : StatementTrees} → StatementIsTyped w results before s inside →
        StatementsAreExcused w results inside rest →
        StatementsAreExcused w results before (tree.statement s p rest)

  -- an `if` is excused, in its first part that is not typed
  pub data IfIsExcused (w : World) (results : List PlainType) : Locals → IfTree → Type 0 where
    before_condition : {before : Locals} {p : ℕ} {init : Option InitTree} {e : ExprTree} {b : BlockTree} {otherwise : ElseTree} →
        ExcusedIfPresent InitTree (InitIsExcused w) before init →
        IfIsExcused w results before (tree.if_tree p init e b otherwise)
    in_condition : {before entered : Locals} {p : ℕ} {init : Option InitTree} {e : ExprTree} {b : BlockTree} {otherwise : ElseTree} →
        IfPresent InitTree (InitIsTyped w) before init entered →
        UsesBroken w entered e → IfIsExcused w results before (tree.if_tree p init e b otherwise)
    in_then : {before entered tested : Locals} {p : ℕ} {init : Option InitTree} {e : ExprTree} {b : BlockTree} {otherwise : ElseTree} →
        IfPresent InitTree (InitIsTyped w) before init entered →
        ConditionIsTyped w entered e tested → BlockIsExcused w results tested b → IfIsExcused w results before (tree.if_tree p init e b otherwise)
    in_otherwise : {before entered tested inside : Locals} {p : ℕ} {init : Option InitTree} {e : ExprTree} {b : BlockTree} {otherwise : ElseTree} →
        IfPresent InitTree (InitIsTyped w) before init entered →
        ConditionIsTyped w entered e tested → BlockIsTyped w results tested b inside → ElseIsExcused w results inside otherwise →
        IfIsExcused w results before (tree.if_tree p init e b otherwise)

  -- an `else` is excused
  pub data ElseIsExcused (w : World) (results : List PlainType) : Locals → ElseTree → Type 0 where
    in_else_if : {before : Locals} {p : ℕ} {i : IfTree} → IfIsExcused w results before i → ElseIsExcused w results before (tree.else_if p i)
    in_else : {before : Locals} {p : ℕ} {b : BlockTree} → BlockIsExcused w results before b → ElseIsExcused w results before (tree.else_block p b)

-- a receiver is excused: it names a broken type
pub data ReceiverIsExcused (w : World) : Locals → ReceiverTree → Type 0 where
  of_broken : {before : Locals} {r : ReceiverTree} → w.bound r.type_name ≡ BrokenType → ReceiverIsExcused w before r

-- parameters are excused: their type is broken
pub data ParamIsExcused (w : World) : Locals → ParamTree → Type 0 where
  param_of_broken : {before : Locals} {p : ParamTree} → IsBrokenType w p.type_use → ParamIsExcused w before p

-- one of the written types is broken
pub data AnyIsBrokenType (w : World) : List (Item TypeTree) → Type 0 where
  this_type : {i : Item TypeTree} {is : List (Item TypeTree)} → IsBrokenType w i.value → AnyIsBrokenType w (i ∷ is)
  later_type : {i : Item TypeTree} {is : List (Item TypeTree)} → AnyIsBrokenType w is → AnyIsBrokenType w (i ∷ is)

-- the results of a function are excused: one of their types is broken
pub data ResultIsExcused (w : World) : ResultTree → Type 0 where
  one_broken : {x : TypeTree} → IsBrokenType w x → ResultIsExcused w (tree.one_result x)
  one_of_several : {o c : ℕ} {is : List (Item TypeTree)} → AnyIsBrokenType w is → ResultIsExcused w (tree.results o is c)

-- a function is excused, in one of its parts
pub data FunctionIsExcused (w : World) : Locals → FuncTree → Type 0 where
  in_receiver : {before : Locals} {f : FuncTree} → ExcusedIfPresent ReceiverTree (ReceiverIsExcused w) before f.receiver → FunctionIsExcused w before f
  in_params : {before received : Locals} {f : FuncTree} → IfPresent ReceiverTree (ReceiverIsTyped w) before f.receiver received →
      ExcusedInTurn ParamTree (ParamIsTyped w) (ParamIsExcused w) received f.params → FunctionIsExcused w before f
  in_result : {before : Locals} {f : FuncTree} → ResultIsExcused w f.result → FunctionIsExcused w before f
  in_body : {before received entered : Locals} {f : FuncTree} {ts : List PlainType} → IfPresent ReceiverTree (ReceiverIsTyped w) before f.receiver received →
      InTurn ParamTree (ParamIsTyped w) received f.params entered → AreResults w f.result ts → BlockIsExcused w ts entered f.body → FunctionIsExcused w before f

-- package-level variables are excused: their type is broken
pub data GlobalIsExcused (w : World) : Locals → GlobalTree → Type 0 where
  global_of_broken : {locals : Locals} {g : GlobalTree} → IsBrokenType w g.type_use → GlobalIsExcused w locals g

-- the type of one of the fields is broken
pub data FieldIsBroken (w : World) : List (Item FieldTree) → Type 0 where
  this_field : {i : Item FieldTree} {is : List (Item FieldTree)} → IsBrokenType w i.value.type_use → FieldIsBroken w (i ∷ is)
  later_field : {i : Item FieldTree} {is : List (Item FieldTree)} → FieldIsBroken w is → FieldIsBroken w (i ∷ is)

-- the type of one of the parameters of a method that an interface asks for is broken
pub data AskedIsBroken (w : World) : List (Item ParamTree) → Type 0 where
  this_param : {i : Item ParamTree} {is : List (Item ParamTree)} → IsBrokenType w i.value.type_use → AskedIsBroken w (i ∷ is)
  later_param : {i : Item ParamTree} {is : List (Item ParamTree)} → AskedIsBroken w is → AskedIsBroken w (i ∷ is)

-- a type that one of the methods writes which an interface asks for is broken
pub data MethodIsBroken (w : World) : List (Item MethodTree) → Type 0 where
  in_asked : {i : Item MethodTree} {is : List (Item MethodTree)} → AskedIsBroken w i.value.params → MethodIsBroken w (i ∷ is)
  in_asked_result : {i : Item MethodTree} {is : List (Item MethodTree)} → ResultIsExcused w i.value.result → MethodIsBroken w (i ∷ is)
  later_method : {i : Item MethodTree} {is : List (Item MethodTree)} → MethodIsBroken w is → MethodIsBroken w (i ∷ is)

-- the type that a definition writes is broken
pub data BodyIsBroken (w : World) : BodyTree → Type 0 where
  other_broken : {x : TypeTree} → IsBrokenType w x → BodyIsBroken w (tree.Other x)
  in_struct : {p o c : ℕ} {is : List (Item FieldTree)} → FieldIsBroken w is → BodyIsBroken w (tree.Struct p o is c)
  in_interface : {p o c : ℕ} {is : List (Item MethodTree)} → MethodIsBroken w is → BodyIsBroken w (tree.Interface p o is c)

-- a type definition is excused
pub data TypeIsExcused (w : World) : Locals → TypeSpecTree → Type 0 where
  in_type_body : {locals : Locals} {t : TypeSpecTree} → BodyIsBroken w t.body → TypeIsExcused w locals t

-- a declaration is excused
pub data DeclIsExcused (w : World) : Locals → DeclTree → Type 0 where
  in_variables : {before : Locals} {p c : ℕ} {g : Group GlobalTree} → ExcusedInGroup GlobalTree (GlobalIsTyped w) (GlobalIsExcused w) before g →
      DeclIsExcused w before (tree.VarDecl p g c)
  in_types : {before : Locals} {p c : ℕ} {g : Group TypeSpecTree} → ExcusedInGroup TypeSpecTree (TypeIsTyped w) (TypeIsExcused w) before g →
      DeclIsExcused w before (tree.TypeDecl p g c)
  in_function : {before : Locals} {p c : ℕ} {f : FuncTree} → FunctionIsExcused w before f → DeclIsExcused w before (tree.FuncDecl p f c)

-- one of the declarations is excused; those before it are typed
pub data DeclsAreExcused (w : World) (is_init : ℕ → Bool) : Locals → List DeclTree → Type 0 where
  this_decl : {before : Locals} {d : DeclTree} {ds : List DeclTree} → DeclIsExcused w before d → DeclsAreExcused w is_init before (d ∷ ds)
  later_decl : {before inside : Locals} {d : DeclTree} {ds : List DeclTree} → DeclIsTyped w is_init before d inside →
      DeclsAreExcused w is_init inside ds → DeclsAreExcused w is_init before (d ∷ ds)

-- one of the file's declarations is excused; those before it are typed
pub data FileIsExcused (w : World) (is_init : ℕ → Bool) (f : FileTree) : Type 0 where
  in_file : DeclsAreExcused w is_init no_locals f.decls → FileIsExcused w is_init f
