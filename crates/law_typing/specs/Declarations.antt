-- The typing rules of functions, of package-level declarations and of files.
use Rattle.std.specs.Prelude.{◌≡◌, ℕ, Bool, false, List, [], ◌∷◌, Option, Some, None, map}
use Rattle.go_ast.specs.Tree.{Item, Group, TypeTree, BasicTree, Integer, String, ReceiverTree, ParamTree, ResultTree, FuncTree, GlobalTree, FieldTree}
use Rattle.go_ast.specs.Tree.{MethodTree, BodyTree, TypeSpecTree, DeclTree, FileTree}
use Rattle.go_ast.specs.Tree as tree
use Rattle.types_expr.specs.declared.types.Basic.TheVariants as basic
use Rattle.types_expr.specs.declared.symbol.Symbol.{Symbol}
use Rattle.types_expr.specs.Types.{PlainType, Defined, Pointer, Underlying, PointerTo, Interface, ValueKind, Untyped, TypeName}
use Rattle.types_expr.specs.World.{World, Locals, Means, no_locals}
use Rattle.law_typing.specs.Names.{IsType}
use Rattle.types_stmt.specs.Sides.{named, all_named}
use Rattle.law_typing.specs.Sequences.{InTurn, InGroup, IfPresent}
use Rattle.law_typing.specs.Assignments.{OfType, TakenInTurn, DeclareAs}
use Rattle.law_typing.specs.Statements.{BlockIsTyped}

-- The second type is that of a receiver which names the first: T, or `*T` where a star is written.
pub data IsBehindStar : Option ℕ → PlainType → PlainType → Type 0 where
  no_star : {t : PlainType} → IsBehindStar None t t
  a_star : {p : ℕ} {t : PlainType} → IsBehindStar (Some p) t (Pointer t)

-- the types with this underlying type have no methods of receivers: it is a pointer or an interface
pub data TakesNoMethods : Underlying → Type 0 where
  a_pointer_takes_none : {t : PlainType} → TakesNoMethods (PointerTo t)
  an_interface_takes_none : {s : Symbol} → TakesNoMethods (Interface s)

-- A receiver T or `*T` is typed, where T is a definition whose underlying type is neither a pointer nor an interface. It declares its name:
-- the locals before and after it.
pub data ReceiverIsTyped (w : World) : Locals → ReceiverTree → Locals → Type 0 where
  a_receiver : {before after : Locals} {r : ReceiverTree} {s : Symbol} {t : PlainType} → w.bound r.type_name ≡ Means (TypeName (Defined s)) →
      (TakesNoMethods (w.definition s) → ⊥) →
      IsBehindStar r.star (Defined s) t → DeclareAs t before (named r.name ∷ []) after → ReceiverIsTyped w before r after

-- parameters of one type are typed; they declare their names
pub data ParamIsTyped (w : World) : Locals → ParamTree → Locals → Type 0 where
  a_param : {before after : Locals} {p : ParamTree} {t : PlainType} → IsType w p.type_use t → DeclareAs t before (all_named p.names) after →
      ParamIsTyped w before p after

-- the written types denote these types
pub data AreTypes (w : World) : List (Item TypeTree) → List PlainType → Type 0 where
  no_type_left : AreTypes w [] []
  also_type : {i : Item TypeTree} {is : List (Item TypeTree)} {t : PlainType} {ts : List PlainType} → IsType w i.value t → AreTypes w is ts →
      AreTypes w (i ∷ is) (t ∷ ts)

-- the results of a function have these types
pub data AreResults (w : World) : ResultTree → List PlainType → Type 0 where
  none_written : AreResults w tree.no_result []
  one_written : {x : TypeTree} {t : PlainType} → IsType w x t → AreResults w (tree.one_result x) (t ∷ [])
  several_written : {o c : ℕ} {is : List (Item TypeTree)} {ts : List PlainType} → AreTypes w is ts → AreResults w (tree.results o is c) ts

-- A function whose name is `init` (`true`) has neither parameters nor results, unless it has a receiver. Any other function keeps this
-- rule.
pub data KeepsInit : Bool → FuncTree → List PlainType → Type 0 where
  another_name : {f : FuncTree} {ts : List PlainType} → KeepsInit false f ts
  a_method : {is_init : Bool} {f : FuncTree} {ts : List PlainType} {r : ReceiverTree} → f.receiver ≡ Some r → KeepsInit is_init f ts
  a_plain_one : {is_init : Bool} {f : FuncTree} → f.params ≡ [] → KeepsInit is_init f []

-- A function is typed: its receiver, parameters, results and body are. is_init: whether its name is `init`.
pub data FunctionIsTyped (w : World) (is_init : Bool) : Locals → FuncTree → Locals → Type 0 where
  a_function : {before received entered after : Locals} {f : FuncTree} {ts : List PlainType} →
      IfPresent ReceiverTree (ReceiverIsTyped w) before f.receiver received →
      InTurn ParamTree (ParamIsTyped w) received f.params entered → AreResults w f.result ts → KeepsInit is_init f ts →
      BlockIsTyped w ts entered f.body after → FunctionIsTyped w is_init before f after

-- literals have these kinds
pub data AreLiterals : List (Item BasicTree) → List ValueKind → Type 0 where
  no_literal : AreLiterals [] []
  an_integer : {i : Item BasicTree} {is : List (Item BasicTree)} {p : ℕ} {ks : List ValueKind} → i.value ≡ Integer p → AreLiterals is ks →
      AreLiterals (i ∷ is) (Untyped basic.Int ∷ ks)
  a_string : {i : Item BasicTree} {is : List (Item BasicTree)} {p : ℕ} {ks : List ValueKind} → i.value ≡ String p → AreLiterals is ks →
      AreLiterals (i ∷ is) (Untyped basic.String ∷ ks)

-- Package-level variables of one type are typed: they have no values, or as many literals that fit the type. They declare no local.
pub data GlobalIsTyped (w : World) : Locals → GlobalTree → Locals → Type 0 where
  without_values : {locals : Locals} {g : GlobalTree} {t : PlainType} → IsType w g.type_use t → g.values ≡ None → GlobalIsTyped w locals g locals
  with_literals : {locals : Locals} {g : GlobalTree} {t : PlainType} {v : ℕ × List (Item BasicTree)} {ks : List ValueKind} → IsType w g.type_use t →
      g.values ≡ Some v → AreLiterals v.1 ks →
      TakenInTurn w ks (map (λ i. OfType t) g.names) → GlobalIsTyped w locals g locals

-- the types of fields are typed
pub data FieldsAreTyped (w : World) : List (Item FieldTree) → Type 0 where
  no_field_left : FieldsAreTyped w []
  also_field : {i : Item FieldTree} {is : List (Item FieldTree)} {t : PlainType} → IsType w i.value.type_use t → FieldsAreTyped w is → FieldsAreTyped w (i ∷ is)

-- the types of the parameters of a method that an interface asks for are typed
pub data AskedAreTyped (w : World) : List (Item ParamTree) → Type 0 where
  no_param_left : AskedAreTyped w []
  also_param : {i : Item ParamTree} {is : List (Item ParamTree)} {t : PlainType} → IsType w i.value.type_use t → AskedAreTyped w is → AskedAreTyped w (i ∷ is)

-- the types of the parameters and results of methods that an interface asks for are typed
pub data MethodsAreTyped (w : World) : List (Item MethodTree) → Type 0 where
  no_method_left : MethodsAreTyped w []
  also_method : {i : Item MethodTree} {is : List (Item MethodTree)} {ts : List PlainType} → AskedAreTyped w i.value.params →
      AreResults w i.value.result ts → MethodsAreTyped w is → MethodsAreTyped w (i ∷ is)

-- the type that a definition writes is typed
pub data BodyIsTyped (w : World) : BodyTree → Type 0 where
  another_type : {x : TypeTree} {t : PlainType} → IsType w x t → BodyIsTyped w (tree.Other x)
  a_struct : {p o c : ℕ} {is : List (Item FieldTree)} → FieldsAreTyped w is → BodyIsTyped w (tree.Struct p o is c)
  an_interface : {p o c : ℕ} {is : List (Item MethodTree)} → MethodsAreTyped w is → BodyIsTyped w (tree.Interface p o is c)

-- a type definition is typed; it declares no local
pub data TypeIsTyped (w : World) : Locals → TypeSpecTree → Locals → Type 0 where
  a_definition_of : {locals : Locals} {t : TypeSpecTree} → BodyIsTyped w t.body → TypeIsTyped w locals t locals

-- A declaration is typed. is_init: whether the name at a token is `init`.
pub data DeclIsTyped (w : World) (is_init : ℕ → Bool) : Locals → DeclTree → Locals → Type 0 where
  variables : {before after : Locals} {p c : ℕ} {g : Group GlobalTree} → InGroup GlobalTree (GlobalIsTyped w) before g after →
      DeclIsTyped w is_init before (tree.VarDecl p g c) after
  types : {before after : Locals} {p c : ℕ} {g : Group TypeSpecTree} → InGroup TypeSpecTree (TypeIsTyped w) before g after →
      DeclIsTyped w is_init before (tree.TypeDecl p g c) after
  one_function : {before after : Locals} {p c : ℕ} {f : FuncTree} → FunctionIsTyped w (is_init f.name) before f after →
      DeclIsTyped w is_init before (tree.FuncDecl p f c) after

-- declarations are typed in turn
pub data DeclsAreTyped (w : World) (is_init : ℕ → Bool) : Locals → List DeclTree → Locals → Type 0 where
  no_decl : {locals : Locals} → DeclsAreTyped w is_init locals [] locals
  also_decl : {before inside after : Locals} {d : DeclTree} {ds : List DeclTree} → DeclIsTyped w is_init before d inside →
      DeclsAreTyped w is_init inside ds after →
      DeclsAreTyped w is_init before (d ∷ ds) after

-- A file keeps the typing rules: all its declarations do, from the first on.
pub data FileIsTyped (w : World) (is_init : ℕ → Bool) (f : FileTree) : Type 0 where
  a_file : {after : Locals} → DeclsAreTyped w is_init no_locals f.decls after → FileIsTyped w is_init f
