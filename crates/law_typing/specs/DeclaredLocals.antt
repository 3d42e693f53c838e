-- The locals that a part of a function declares, whether or not it keeps the typing rules. A name whose type is not known declares a local
-- without a type.
use Rattle.std.specs.Prelude.{◌≡◌, ℕ, List, [], ◌∷◌, Option, Some, None, length}
use Rattle.go_ast.specs.declared.syntax.StepOp.{StepOp}
use Rattle.go_ast.specs.declared.syntax.UpdateOp.{UpdateOp}
use Rattle.go_ast.specs.Tree.{Item, Group, TypeTree, ExprTree, SimpleTree, LocalTree, InitTree, ForTree, StatementTree, BlockTree, StatementTrees, IfTree}
use Rattle.go_ast.specs.Tree.{ElseTree, ReceiverTree, ParamTree, FuncTree}
use Rattle.go_ast.specs.Tree as tree
use Rattle.types_expr.specs.declared.symbol.Symbol.{Symbol}
use Rattle.types_expr.specs.Types.{PlainType, Defined, ValueKind, Nil, TypeName}
use Rattle.types_expr.specs.World.{World, Locals, Means, Local, declared}
use Rattle.types_expr.specs.Judge.{ListValue}
use Rattle.law_typing.specs.Names.{IsType}
use Rattle.types_stmt.specs.Sides.{named, all_named}
use Rattle.law_typing.specs.Sequences.{InTurn, InGroup, IfPresent}
use Rattle.law_typing.specs.Assignments.{DefaultsTo}
use Rattle.law_typing.specs.Declarations.{IsBehindStar, TakesNoMethods}
use Rattle.law_typing.specs.Excused.{IsDeclaredName}
use Rattle.law_typing.specs.AssignmentFaults.{SidesGive}

-- Names

-- the type that a name without a written type takes from a value; none where the value is nil, or is none
pub data InfersType : Option ValueKind → Option PlainType → Type 0 where
  from_value : {k : ValueKind} {t : PlainType} → DefaultsTo k t → InfersType (Some k) (Some t)
  from_nil : InfersType (Some Nil) None
  from_nothing : InfersType None None

-- names declare locals, each of the type that it takes from the value at its position
pub data DeclareEach : Locals → List (Option ℕ) → List ListValue → Locals → Type 0 where
  all_declared : {before : Locals} → DeclareEach before [] [] before
  no_local : {before after : Locals} {ns : List (Option ℕ)} {v : ListValue} {vs : List ListValue} → DeclareEach before ns vs after →
      DeclareEach before (None ∷ ns) (v ∷ vs) after
  new_local : {before after : Locals} {p : ℕ} {ns : List (Option ℕ)} {v : ListValue} {vs : List ListValue} {t : Option PlainType} → InfersType v.kind t →
      DeclareEach (declared before p t) ns vs after → DeclareEach before (Some p ∷ ns) (v ∷ vs) after

-- names declare locals of type t, which is none where it is broken
pub data DeclareAll (t : Option PlainType) : Locals → List (Option ℕ) → Locals → Type 0 where
  no_name_left : {before : Locals} → DeclareAll t before [] before
  not_named : {before after : Locals} {ns : List (Option ℕ)} → DeclareAll t before ns after → DeclareAll t before (None ∷ ns) after
  also_named : {before after : Locals} {p : ℕ} {ns : List (Option ℕ)} → DeclareAll t (declared before p t) ns after → DeclareAll t before (Some p ∷ ns) after

-- names declare locals of types that they take from values; under a wrong count their types are broken
pub data DeclareInferred : Locals → List (Option ℕ) → List ListValue → Locals → Type 0 where
  in_turn : {before after : Locals} {ns : List (Option ℕ)} {vs : List ListValue} → DeclareEach before ns vs after → DeclareInferred before ns vs after
  under_wrong_count : {before after : Locals} {ns : List (Option ℕ)} {vs : List ListValue} → (length vs ≡ length ns → ⊥) → DeclareAll None before ns after →
      DeclareInferred before ns vs after

-- the names that left sides of `:=` declare, by their tokens; none for a left side that declares no local
pub data DeclaresNames (w : World) : List (Item ExprTree) → List (Option ℕ) → Type 0 where
  no_names : DeclaresNames w [] []
  a_new_name : {i : Item ExprTree} {is : List (Item ExprTree)} {p : ℕ} {ns : List (Option ℕ)} → i.value ≡ tree.Name p → w.bound p ≡ Local p →
      DeclaresNames w is ns →
      DeclaresNames w (i ∷ is) (Some p ∷ ns)
  no_new_name : {i : Item ExprTree} {is : List (Item ExprTree)} {ns : List (Option ℕ)} → (IsDeclaredName w i.value → ⊥) → DeclaresNames w is ns →
      DeclaresNames w (i ∷ is) (None ∷ ns)

-- the type that is written; none where no type is written
pub data WrittenTypeIs (w : World) (x : TypeTree) : Option PlainType → Type 0 where
  a_type : {t : PlainType} → IsType w x t → WrittenTypeIs w x (Some t)
  no_type : ((t : PlainType) → IsType w x t → ⊥) → WrittenTypeIs w x None

-- Statements: each relation has the locals before, the statement, and the locals after

-- a simple statement, of which only `:=` declares locals
pub data SimpleDeclares (w : World) : Locals → SimpleTree → Locals → Type 0 where
  behind_call : {locals : Locals} {e : ExprTree} → SimpleDeclares w locals (tree.Alone e) locals
  behind_step : {locals : Locals} {e : ExprTree} {o : StepOp} {p : ℕ} → SimpleDeclares w locals (tree.Step e o p) locals
  behind_update : {locals : Locals} {x y : ExprTree} {o : UpdateOp} {p : ℕ} → SimpleDeclares w locals (tree.Update x o p y) locals
  behind_assignment : {locals : Locals} {xs ys : List (Item ExprTree)} {p : ℕ} → SimpleDeclares w locals (tree.Assign xs p ys) locals
  behind_definition : {before after : Locals} {xs ys : List (Item ExprTree)} {p : ℕ} {ns : List (Option ℕ)} {vs : List ListValue} → DeclaresNames w xs ns →
      SidesGive w before ys vs → DeclareInferred before ns vs after → SimpleDeclares w before (tree.Define xs p ys) after

-- a declaration of locals: with a written type; with values alone; with neither, which no parsed file has
pub data LocalDeclares (w : World) : Locals → LocalTree → Locals → Type 0 where
  of_type : {before after : Locals} {l : LocalTree} {x : TypeTree} {t : Option PlainType} → l.type_use ≡ Some x → WrittenTypeIs w x t →
      DeclareAll t before (all_named l.names) after → LocalDeclares w before l after
  of_values : {before after : Locals} {l : LocalTree} {v : ℕ × List (Item ExprTree)} {vs : List ListValue} → l.type_use ≡ None → l.values ≡ Some v →
      SidesGive w before v.1 vs → DeclareInferred before (all_named l.names) vs after → LocalDeclares w before l after
  of_neither : {before after : Locals} {l : LocalTree} → l.type_use ≡ None → l.values ≡ None → DeclareAll None before (all_named l.names) after →
      LocalDeclares w before l after

-- the statement before the condition of an `if`
pub data InitDeclares (w : World) : Locals → InitTree → Locals → Type 0 where
  behind_init : {before after : Locals} {i : InitTree} → IfPresent SimpleTree (SimpleDeclares w) before i.simple after → InitDeclares w before i after

-- the header of a `for`, whose condition declares nothing
pub data HeaderDeclares (w : World) : Locals → ForTree → Locals → Type 0 where
  behind_for : {locals : Locals} → HeaderDeclares w locals tree.forever locals
  behind_while : {locals : Locals} {e : ExprTree} → HeaderDeclares w locals (tree.while e) locals
  behind_clauses : {before entered after : Locals} {init post : Option SimpleTree} {condition : Option ExprTree} {p q : ℕ} →
      IfPresent SimpleTree (SimpleDeclares w) before init entered → IfPresent SimpleTree (SimpleDeclares w) entered post after →
      HeaderDeclares w before (tree.clauses init p condition q post) after

mutual
  -- a statement
  pub data StatementDeclares (w : World) : Locals → StatementTree → Locals → Type 0 where
    behind_nothing : {locals : Locals} → StatementDeclares w locals tree.Empty locals
    behind_declaration : {before after : Locals} {p : ℕ} {g : Group LocalTree} → InGroup LocalTree (LocalDeclares w) before g after →
        StatementDeclares w before (tree.Var p g) after
    behind_simple : {before after : Locals} {s : SimpleTree} → SimpleDeclares w before s after → StatementDeclares w before (tree.Simple s) after
    behind_inner : {before after : Locals} {b : BlockTree} → BlockDeclares w before b after → StatementDeclares w before (tree.Inner b) after
    behind_choice : {before after : Locals} {i : IfTree} → IfDeclares w before i after → StatementDeclares w before (tree.If i) after
    behind_loop : {before entered after : Locals} {p : ℕ} {h : ForTree} {b : BlockTree} → HeaderDeclares w before h entered → BlockDeclares w entered b after →
        StatementDeclares w before (tree.For p h b) after
    behind_break : {locals : Locals} {p : ℕ} → StatementDeclares w locals (tree.Break p) locals
    behind_continue : {locals : Locals} {p : ℕ} → StatementDeclares w locals (tree.Continue p) locals
    behind_return : {locals : Locals} {p : ℕ} {es : List (Item ExprTree)} → StatementDeclares w locals (tree.Return p es) locals

  -- a block
  pub data BlockDeclares (w : World) : Locals → BlockTree → Locals → Type 0 where
    behind_block : {before after : Locals} {o c : ℕ} {ss : StatementTrees} → StatementsDeclare w before ss after →
        BlockDeclares w before (tree.block o ss c) after

  -- statements in turn
  pub data StatementsDeclare (w : World) : Locals → StatementTrees → Locals → Type 0 where
    behind_none : {locals : Locals} → StatementsDeclare w locals tree.no_statement locals
    behind_one : {before inside after : Locals} {s : StatementTree} {p : Option ℕ} {rest : StatementTrees} → StatementDeclares w before s inside →
        StatementsDeclare w inside rest after → StatementsDeclare w before (tree.statement s p rest) after

  -- an `if`
  pub data IfDeclares (w : World) : Locals → IfTree → Locals → Type 0 where
    behind_if : {before entered inside after : Locals} {p : ℕ} {init : Option InitTree} {e : ExprTree} {b : BlockTree} {otherwise : ElseTree} →
        IfPresent InitTree (InitDeclares w) before init entered → BlockDeclares w entered b inside → ElseDeclares w inside otherwise after →
        IfDeclares w before (tree.if_tree p init e b otherwise) after

  -- an `else`
  pub data ElseDeclares (w : World) : Locals → ElseTree → Locals → Type 0 where
    without_else : {locals : Locals} → ElseDeclares w locals tree.no_else locals
    behind_else_if : {before after : Locals} {p : ℕ} {i : IfTree} → IfDeclares w before i after → ElseDeclares w before (tree.else_if p i) after
    behind_else : {before after : Locals} {p : ℕ} {b : BlockTree} → BlockDeclares w before b after → ElseDeclares w before (tree.else_block p b) after

-- Functions

-- the name at token `place` denotes the definition s, whose underlying type is neither a pointer nor an interface, so that it may have methods
pub data MayReceive (w : World) (place : ℕ) : Symbol → Type 0 where
  may_receive : {s : Symbol} → w.bound place ≡ Means (TypeName (Defined s)) → (TakesNoMethods (w.definition s) → ⊥) → MayReceive w place s

-- the type of a receiver; none where its name denotes no such definition
pub data ReceiverTypeIs (w : World) (r : ReceiverTree) : Option PlainType → Type 0 where
  receives : {s : Symbol} {t : PlainType} → MayReceive w r.type_name s → IsBehindStar r.star (Defined s) t → ReceiverTypeIs w r (Some t)
  receives_nothing : ((s : Symbol) → MayReceive w r.type_name s → ⊥) → ReceiverTypeIs w r None

-- a receiver declares its name
pub data ReceiverDeclares (w : World) : Locals → ReceiverTree → Locals → Type 0 where
  behind_receiver : {before after : Locals} {r : ReceiverTree} {t : Option PlainType} → ReceiverTypeIs w r t → DeclareAll t before (named r.name ∷ []) after →
      ReceiverDeclares w before r after

-- parameters declare their names
pub data ParamDeclares (w : World) : Locals → ParamTree → Locals → Type 0 where
  behind_param : {before after : Locals} {p : ParamTree} {t : Option PlainType} → WrittenTypeIs w p.type_use t → DeclareAll t before (all_named p.names) after →
      ParamDeclares w before p after

-- a function declares its receiver, its parameters and the locals of its body
pub data FunctionDeclares (w : World) : Locals → FuncTree → Locals → Type 0 where
  behind_function : {before received entered after : Locals} {f : FuncTree} → IfPresent ReceiverTree (ReceiverDeclares w) before f.receiver received →
      InTurn ParamTree (ParamDeclares w) received f.params entered → BlockDeclares w entered f.body after → FunctionDeclares w before f after
