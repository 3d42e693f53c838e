-- The tokens at which a function, a package-level declaration or a file breaks a typing rule, though the parts of the broken part break
-- none.
use Rattle.std.specs.Prelude.{◌≡◌, ℕ, Bool, true, List, [], ◌∷◌, Option, Some, None, length}
use Rattle.go_ast.specs.Tree.{Item, Group, BasicTree, Integer, String, TypeTree, ReceiverTree, ParamTree, ResultTree, FuncTree, GlobalTree, FieldTree}
use Rattle.go_ast.specs.Tree.{MethodTree, BodyTree, TypeSpecTree, DeclTree, FileTree}
use Rattle.go_ast.specs.Tree as tree
use Rattle.types_expr.specs.declared.types.Basic.TheVariants as basic
use Rattle.types_expr.specs.declared.symbol.Symbol.{Symbol}
use Rattle.types_expr.specs.Types.{PlainType, Untyped}
use Rattle.types_expr.specs.World.{World, Locals, BrokenType, no_locals}
use Rattle.law_typing.specs.Fits.{FitsType}
use Rattle.law_typing.specs.Names.{IsType}
use Rattle.law_typing.specs.Faults.{IsNoType}
use Rattle.types_stmt.specs.Declarations.{first_name}
use Rattle.law_typing.specs.Sequences.{InTurn, IfPresent}
use Rattle.law_typing.specs.DeclaredLocals.{WrittenTypeIs, MayReceive, ReceiverDeclares, ParamDeclares, FunctionDeclares}
use Rattle.law_typing.specs.SequenceFaults.{BreaksInTurn, BreaksInGroup, BreaksIfPresent}
use Rattle.law_typing.specs.StatementFaults.{BlockBreaksAt}

-- Functions

-- a receiver breaks a rule, at its type's name: it denotes no type that may have methods, and no broken type
pub data ReceiverBreaksAt (w : World) : Locals → ReceiverTree → ℕ → Type 0 where
  no_receiver : {before : Locals} {r : ReceiverTree} → ((s : Symbol) → MayReceive w r.type_name s → ⊥) → (w.bound r.type_name ≡ BrokenType → ⊥) →
      ReceiverBreaksAt w before r r.type_name

-- parameters break a rule at this token: no type is written there
pub data ParamBreaksAt (w : World) : Locals → ParamTree → ℕ → Type 0 where
  in_param : {before : Locals} {x : ParamTree} {p : ℕ} → IsNoType w x.type_use p → ParamBreaksAt w before x p

-- the types of written types; a broken one has none
pub data WrittenTypesAre (w : World) : List (Item TypeTree) → List (Option PlainType) → Type 0 where
  no_type_left : WrittenTypesAre w [] []
  also_written : {i : Item TypeTree} {is : List (Item TypeTree)} {t : Option PlainType} {ts : List (Option PlainType)} → WrittenTypeIs w i.value t →
      WrittenTypesAre w is ts → WrittenTypesAre w (i ∷ is) (t ∷ ts)

-- the types of a function's results; a broken one has none
pub data ResultTypesAre (w : World) : ResultTree → List (Option PlainType) → Type 0 where
  none_written : ResultTypesAre w tree.no_result []
  one_written : {x : TypeTree} {t : Option PlainType} → WrittenTypeIs w x t → ResultTypesAre w (tree.one_result x) (t ∷ [])
  several_written : {o c : ℕ} {is : List (Item TypeTree)} {ts : List (Option PlainType)} → WrittenTypesAre w is ts → ResultTypesAre w (tree.results o is c) ts

-- one of the written types denotes no type, at this token
pub data AnyIsNoType (w : World) : List (Item TypeTree) → ℕ → Type 0 where
  this_type : {i : Item TypeTree} {is : List (Item TypeTree)} {p : ℕ} → IsNoType w i.value p → AnyIsNoType w (i ∷ is) p
  later_type : {i : Item TypeTree} {is : List (Item TypeTree)} {p : ℕ} → AnyIsNoType w is p → AnyIsNoType w (i ∷ is) p

-- a result breaks a rule at this token: no type is written there
pub data ResultBreaksAt (w : World) : ResultTree → ℕ → Type 0 where
  in_one_result : {x : TypeTree} {p : ℕ} → IsNoType w x p → ResultBreaksAt w (tree.one_result x) p
  in_results : {o c p : ℕ} {is : List (Item TypeTree)} → AnyIsNoType w is p → ResultBreaksAt w (tree.results o is c) p

-- A function breaks a rule at this token. is_init: whether its name is `init`; such a function without a receiver has neither parameters
-- nor results.
pub data FunctionBreaksAt (w : World) (is_init : Bool) : Locals → FuncTree → ℕ → Type 0 where
  in_receiver : {before : Locals} {f : FuncTree} {p : ℕ} → BreaksIfPresent ReceiverTree (ReceiverBreaksAt w) before f.receiver p →
      FunctionBreaksAt w is_init before f p
  in_params : {before received : Locals} {f : FuncTree} {p : ℕ} → IfPresent ReceiverTree (ReceiverDeclares w) before f.receiver received →
      BreaksInTurn ParamTree (ParamDeclares w) (ParamBreaksAt w) received f.params p → FunctionBreaksAt w is_init before f p
  in_result : {before : Locals} {f : FuncTree} {p : ℕ} → ResultBreaksAt w f.result p → FunctionBreaksAt w is_init before f p
  no_init : {before : Locals} {f : FuncTree} → is_init ≡ true → f.receiver ≡ None → (f.params ≡ [] → ResultTypesAre w f.result [] → ⊥) →
      FunctionBreaksAt w is_init before f f.name
  in_body : {before received entered : Locals} {f : FuncTree} {ts : List (Option PlainType)} {p : ℕ} →
      IfPresent ReceiverTree (ReceiverDeclares w) before f.receiver received → InTurn ParamTree (ParamDeclares w) received f.params entered →
      ResultTypesAre w f.result ts → BlockBreaksAt w ts entered f.body p → FunctionBreaksAt w is_init before f p

-- Variables and types of a package

-- one of the literals, at this token, does not fit type t
pub data LiteralMisfits (w : World) (t : PlainType) : List (Item BasicTree) → ℕ → Type 0 where
  no_int : {i : Item BasicTree} {is : List (Item BasicTree)} {n : ℕ} → i.value ≡ Integer n → (FitsType w (Untyped basic.Int) t → ⊥) →
      LiteralMisfits w t (i ∷ is) n
  no_string : {i : Item BasicTree} {is : List (Item BasicTree)} {n : ℕ} → i.value ≡ String n → (FitsType w (Untyped basic.String) t → ⊥) →
      LiteralMisfits w t (i ∷ is) n
  later_literal : {i : Item BasicTree} {is : List (Item BasicTree)} {p : ℕ} → LiteralMisfits w t is p → LiteralMisfits w t (i ∷ is) p

-- Package-level variables break a rule at this token. A wrong count of literals breaks one also where the type is broken.
pub data GlobalBreaksAt (w : World) : Locals → GlobalTree → ℕ → Type 0 where
  in_global_type : {before : Locals} {g : GlobalTree} {p : ℕ} → IsNoType w g.type_use p → GlobalBreaksAt w before g p
  literal_misfit : {before : Locals} {g : GlobalTree} {t : PlainType} {v : ℕ × List (Item BasicTree)} {p : ℕ} → g.values ≡ Some v → IsType w g.type_use t →
      length v.1 ≡ length g.names → LiteralMisfits w t v.1 p → GlobalBreaksAt w before g p
  wrong_literals : {before : Locals} {g : GlobalTree} {v : ℕ × List (Item BasicTree)} → g.values ≡ Some v → (length v.1 ≡ length g.names → ⊥) →
      GlobalBreaksAt w before g (first_name g.names)

-- the type of one of the fields breaks a rule at this token
pub data FieldBreaksAt (w : World) : List (Item FieldTree) → ℕ → Type 0 where
  this_field : {i : Item FieldTree} {is : List (Item FieldTree)} {p : ℕ} → IsNoType w i.value.type_use p → FieldBreaksAt w (i ∷ is) p
  later_field : {i : Item FieldTree} {is : List (Item FieldTree)} {p : ℕ} → FieldBreaksAt w is p → FieldBreaksAt w (i ∷ is) p

-- the type of one of the parameters of a method that an interface asks for breaks a rule at this token
pub data AskedBreaksAt (w : World) : List (Item ParamTree) → ℕ → Type 0 where
  this_param : {i : Item ParamTree} {is : List (Item ParamTree)} {p : ℕ} → IsNoType w i.value.type_use p → AskedBreaksAt w (i ∷ is) p
  later_param : {i : Item ParamTree} {is : List (Item ParamTree)} {p : ℕ} → AskedBreaksAt w is p → AskedBreaksAt w (i ∷ is) p

-- a type that one of the methods writes which an interface asks for breaks a rule at this token
pub data MethodBreaksAt (w : World) : List (Item MethodTree) → ℕ → Type 0 where
  in_asked : {i : Item MethodTree} {is : List (Item MethodTree)} {p : ℕ} → AskedBreaksAt w i.value.params p → MethodBreaksAt w (i ∷ is) p
  in_asked_result : {i : Item MethodTree} {is : List (Item MethodTree)} {p : ℕ} → ResultBreaksAt w i.value.result p → MethodBreaksAt w (i ∷ is) p
  later_method : {i : Item MethodTree} {is : List (Item MethodTree)} {p : ℕ} → MethodBreaksAt w is p → MethodBreaksAt w (i ∷ is) p

-- The type that a definition writes breaks a rule at this token.
pub data BodyBreaksAt (w : World) : BodyTree → ℕ → Type 0 where
  in_other : {x : TypeTree} {p : ℕ} → IsNoType w x p → BodyBreaksAt w (tree.Other x) p
  in_struct : {q o c p : ℕ} {is : List (Item FieldTree)} → FieldBreaksAt w is p → BodyBreaksAt w (tree.Struct q o is c) p
  in_interface : {q o c p : ℕ} {is : List (Item MethodTree)} → MethodBreaksAt w is p → BodyBreaksAt w (tree.Interface q o is c) p

-- a type definition breaks a rule at this token
pub data TypeBreaksAt (w : World) : Locals → TypeSpecTree → ℕ → Type 0 where
  in_type_body : {before : Locals} {t : TypeSpecTree} {p : ℕ} → BodyBreaksAt w t.body p → TypeBreaksAt w before t p

-- Declarations and files

-- a part that declares no local: the locals before and after it are equal
pub data DeclaresNone (X : Type 0) : Locals → X → Locals → Type 0 where
  stays : {locals : Locals} {x : X} → DeclaresNone X locals x locals

-- a declaration, and the locals before and after it
pub data DeclDeclares (w : World) : Locals → DeclTree → Locals → Type 0 where
  behind_variables : {locals : Locals} {p c : ℕ} {g : Group GlobalTree} → DeclDeclares w locals (tree.VarDecl p g c) locals
  behind_types : {locals : Locals} {p c : ℕ} {g : Group TypeSpecTree} → DeclDeclares w locals (tree.TypeDecl p g c) locals
  behind_one_function : {before after : Locals} {p c : ℕ} {f : FuncTree} → FunctionDeclares w before f after → DeclDeclares w before (tree.FuncDecl p f c) after

-- A declaration breaks a rule at this token. is_init: whether the name at a token is `init`.
pub data DeclBreaksAt (w : World) (is_init : ℕ → Bool) : Locals → DeclTree → ℕ → Type 0 where
  in_variables : {before : Locals} {q c p : ℕ} {g : Group GlobalTree} → BreaksInGroup GlobalTree (DeclaresNone GlobalTree) (GlobalBreaksAt w) before g p →
      DeclBreaksAt w is_init before (tree.VarDecl q g c) p
  in_types : {before : Locals} {q c p : ℕ} {g : Group TypeSpecTree} → BreaksInGroup TypeSpecTree (DeclaresNone TypeSpecTree) (TypeBreaksAt w) before g p →
      DeclBreaksAt w is_init before (tree.TypeDecl q g c) p
  in_function : {before : Locals} {q c p : ℕ} {f : FuncTree} → FunctionBreaksAt w (is_init f.name) before f p →
      DeclBreaksAt w is_init before (tree.FuncDecl q f c) p

-- one of the declarations breaks a rule at this token
pub data DeclsBreakAt (w : World) (is_init : ℕ → Bool) : Locals → List DeclTree → ℕ → Type 0 where
  this_decl : {before : Locals} {d : DeclTree} {ds : List DeclTree} {p : ℕ} → DeclBreaksAt w is_init before d p → DeclsBreakAt w is_init before (d ∷ ds) p
  later_decl : {before inside : Locals} {d : DeclTree} {ds : List DeclTree} {p : ℕ} → DeclDeclares w before d inside → DeclsBreakAt w is_init inside ds p →
      DeclsBreakAt w is_init before (d ∷ ds) p

-- a file breaks a rule at this token: one of its declarations does
pub data FileBreaksAt (w : World) (is_init : ℕ → Bool) (f : FileTree) : ℕ → Type 0 where
  in_file : {p : ℕ} → DeclsBreakAt w is_init no_locals f.decls p → FileBreaksAt w is_init f p
