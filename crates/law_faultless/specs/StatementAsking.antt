-- The questions that the code of statements and functions asks beside its tree: those of their expressions, and the slots of declared
-- locals.
use Rattle.std.specs.Prelude.{◌≡◌, ℕ, List, ◌∷◌, Option, Some}
use Rattle.go_ast.specs.declared.syntax.StepOp.{StepOp}
use Rattle.go_ast.specs.declared.syntax.UpdateOp.{UpdateOp}
use Rattle.go_ast.specs.Tree.{Item, Group, single, several, IdentTree, ExprTree, SimpleTree, LocalTree, InitTree, ForTree, StatementTree, BlockTree}
use Rattle.go_ast.specs.Tree.{StatementTrees, IfTree, ElseTree, ReceiverTree, ParamTree, FuncTree}
use Rattle.go_ast.specs.Tree as tree
use Rattle.types_expr.specs.Types.{PlainType}
use Rattle.types_expr.specs.World.{World, Locals}
use Rattle.law_typing.specs.Sequences.{PartRule, InTurn, IfPresent}
use Rattle.law_typing.specs.Simple.{ConditionIsTyped, SimpleIsTyped, LocalIsTyped}
use Rattle.law_typing.specs.Statements.{InitIsTyped, HeaderIsTyped, StatementIsTyped, BlockIsTyped}
use Rattle.law_typing.specs.Declarations.{ReceiverIsTyped, ParamIsTyped, AreResults}
use Rattle.law_faultless.specs.Questions.{TokenQuestion, OfDeclared, OfLeft, Asks}

-- A relation of locals, a part of a tree and a question: where these locals are in scope, the code of the part asks the question.
abbrev pub Asking : Type 0 → Type 1
Asking X = Locals → X → TokenQuestion → Type 0

-- The code of one item of a list asks the question. The items before it are typed, and lead to its locals.
pub data AskInTurn (X : Type 0) (R : PartRule X) (A : Asking X) : Locals → List (Item X) → TokenQuestion → Type 0 where
  this_item : {before : Locals} {i : Item X} {is : List (Item X)} {q : TokenQuestion} → A before i.value q → AskInTurn X R A before (i ∷ is) q
  later_item : {before inside : Locals} {i : Item X} {is : List (Item X)} {q : TokenQuestion} → R before i.value inside → AskInTurn X R A inside is q →
      AskInTurn X R A before (i ∷ is) q

-- The code of one part of a group asks the question: of a single part, or of one item between parentheses.
pub data AskInGroup (X : Type 0) (R : PartRule X) (A : Asking X) : Locals → Group X → TokenQuestion → Type 0 where
  asks_alone : {before : Locals} {x : X} {q : TokenQuestion} → A before x q → AskInGroup X R A before (single x) q
  asks_together : {before : Locals} {o c : ℕ} {is : List (Item X)} {q : TokenQuestion} → AskInTurn X R A before is q →
      AskInGroup X R A before (several o is c) q

-- The optional part is there, and its code asks the question.
pub data AskIfPresent (X : Type 0) (A : Asking X) : Locals → Option X → TokenQuestion → Type 0 where
  asks_present : {before : Locals} {x : X} {q : TokenQuestion} → A before x q → AskIfPresent X A before (Some x) q

-- The code of one of several expressions asks the question.
pub data AnyAsks (w : World) (locals : Locals) : List (Item ExprTree) → TokenQuestion → Type 0 where
  this_one : {i : Item ExprTree} {is : List (Item ExprTree)} {q : TokenQuestion} → Asks w locals i.value q → AnyAsks w locals (i ∷ is) q
  a_later_one : {i : Item ExprTree} {is : List (Item ExprTree)} {q : TokenQuestion} → AnyAsks w locals is q → AnyAsks w locals (i ∷ is) q

-- The name at a token is one of these left sides of `:=`.
pub data IsLeft : List (Item ExprTree) → ℕ → Type 0 where
  this_left : {i : Item ExprTree} {is : List (Item ExprTree)} {p : ℕ} → i.value ≡ tree.Name p → IsLeft (i ∷ is) p
  a_later_left : {i : Item ExprTree} {is : List (Item ExprTree)} {p : ℕ} → IsLeft is p → IsLeft (i ∷ is) p

-- The name at a token is one of these names of a declaration.
pub data IsDeclared : List (Item IdentTree) → ℕ → Type 0 where
  this_declared : {i : Item IdentTree} {is : List (Item IdentTree)} {p : ℕ} → i.value ≡ tree.Named p → IsDeclared (i ∷ is) p
  a_later_declared : {i : Item IdentTree} {is : List (Item IdentTree)} {p : ℕ} → IsDeclared is p → IsDeclared (i ∷ is) p

-- The code of a simple statement asks the question.
pub data SimpleAsks (w : World) : Locals → SimpleTree → TokenQuestion → Type 0 where
  in_call : {locals : Locals} {e : ExprTree} {q : TokenQuestion} → Asks w locals e q → SimpleAsks w locals (tree.Alone e) q
  in_step : {locals : Locals} {e : ExprTree} {o : StepOp} {p : ℕ} {q : TokenQuestion} → Asks w locals e q → SimpleAsks w locals (tree.Step e o p) q
  in_updated : {locals : Locals} {x y : ExprTree} {o : UpdateOp} {p : ℕ} {q : TokenQuestion} → Asks w locals x q → SimpleAsks w locals (tree.Update x o p y) q
  in_update : {locals : Locals} {x y : ExprTree} {o : UpdateOp} {p : ℕ} {q : TokenQuestion} → Asks w locals y q → SimpleAsks w locals (tree.Update x o p y) q
  in_assigned : {locals : Locals} {xs ys : List (Item ExprTree)} {p : ℕ} {q : TokenQuestion} → AnyAsks w locals xs q →
      SimpleAsks w locals (tree.Assign xs p ys) q
  in_assignment : {locals : Locals} {xs ys : List (Item ExprTree)} {p : ℕ} {q : TokenQuestion} → AnyAsks w locals ys q →
      SimpleAsks w locals (tree.Assign xs p ys) q
  for_left : {locals : Locals} {xs ys : List (Item ExprTree)} {p n : ℕ} → IsLeft xs n → SimpleAsks w locals (tree.Define xs p ys) (OfLeft n)
  in_definition : {locals : Locals} {xs ys : List (Item ExprTree)} {p : ℕ} {q : TokenQuestion} → AnyAsks w locals ys q →
      SimpleAsks w locals (tree.Define xs p ys) q

-- The code of a declaration of locals asks the question.
pub data LocalAsks (w : World) : Locals → LocalTree → TokenQuestion → Type 0 where
  for_declared : {locals : Locals} {l : LocalTree} {n : ℕ} → IsDeclared l.names n → LocalAsks w locals l (OfDeclared n)
  in_values : {locals : Locals} {l : LocalTree} {v : ℕ × List (Item ExprTree)} {q : TokenQuestion} → l.values ≡ Some v → AnyAsks w locals v.1 q →
      LocalAsks w locals l q

-- The code of the simple statement before a condition asks the question.
pub data InitAsks (w : World) : Locals → InitTree → TokenQuestion → Type 0 where
  in_init : {locals : Locals} {i : InitTree} {q : TokenQuestion} → AskIfPresent SimpleTree (SimpleAsks w) locals i.simple q → InitAsks w locals i q

-- The code of the header of a `for` asks the question.
pub data HeaderAsks (w : World) : Locals → ForTree → TokenQuestion → Type 0 where
  in_while : {locals : Locals} {e : ExprTree} {q : TokenQuestion} → Asks w locals e q → HeaderAsks w locals (tree.while e) q
  in_first : {before : Locals} {init post : Option SimpleTree} {condition : Option ExprTree} {p r : ℕ} {q : TokenQuestion} →
      AskIfPresent SimpleTree (SimpleAsks w) before init q →
      HeaderAsks w before (tree.clauses init p condition r post) q
  in_test : {before entered : Locals} {init post : Option SimpleTree} {condition : Option ExprTree} {p r : ℕ} {q : TokenQuestion} →
      IfPresent SimpleTree (SimpleIsTyped w) before init entered →
      AskIfPresent ExprTree (Asks w) entered condition q → HeaderAsks w before (tree.clauses init p condition r post) q
  in_post : {before entered tested : Locals} {init post : Option SimpleTree} {condition : Option ExprTree} {p r : ℕ} {q : TokenQuestion} →
      IfPresent SimpleTree (SimpleIsTyped w) before init entered →
      IfPresent ExprTree (ConditionIsTyped w) entered condition tested → AskIfPresent SimpleTree (SimpleAsks w) tested post q →
      HeaderAsks w before (tree.clauses init p condition r post) q

-- The questions of statements of a function with these results.
mutual
  -- The code of a statement asks the question.
  pub data StatementAsks (w : World) (results : List PlainType) : Locals → StatementTree → TokenQuestion → Type 0 where
    in_declaration : {before : Locals} {p : ℕ} {g : Group LocalTree} {q : TokenQuestion} → AskInGroup LocalTree (LocalIsTyped w) (LocalAsks w) before g q →
        StatementAsks w results before (tree.Var p g) q
    in_simple : {before : Locals} {s : SimpleTree} {q : TokenQuestion} → SimpleAsks w before s q → StatementAsks w results before (tree.Simple s) q
    in_inner : {before : Locals} {b : BlockTree} {q : TokenQuestion} → BlockAsks w results before b q → StatementAsks w results before (tree.Inner b) q
    in_choice : {before : Locals} {i : IfTree} {q : TokenQuestion} → IfAsks w results before i q → StatementAsks w results before (tree.If i) q
    in_header : {before : Locals} {p : ℕ} {h : ForTree} {b : BlockTree} {q : TokenQuestion} → HeaderAsks w before h q →
        StatementAsks w results before (tree.For p h b) q
    in_loop : {before entered : Locals} {p : ℕ} {h : ForTree} {b : BlockTree} {q : TokenQuestion} → HeaderIsTyped w before h entered →
        BlockAsks w results entered b q →
        StatementAsks w results before (tree.For p h b) q
    in_return : {before : Locals} {p : ℕ} {es : List (Item ExprTree)} {q : TokenQuestion} → AnyAsks w before es q →
        StatementAsks w results before (tree.Return p es) q

  -- The code of a block asks the question.
  pub data BlockAsks (w : World) (results : List PlainType) : Locals → BlockTree → TokenQuestion → Type 0 where
    in_block : {before : Locals} {o c : ℕ} {ss : StatementTrees} {q : TokenQuestion} → StatementsAsk w results before ss q →
        BlockAsks w results before (tree.block o ss c) q

  -- The code of one of several statements asks the question. The statements before it are typed, and lead to its locals.
  pub data StatementsAsk (w : World) (results : List PlainType) : Locals → StatementTrees → TokenQuestion → Type 0 where
    this_statement : {before : Locals} {s : StatementTree} {p : Option ℕ} {rest : StatementTrees} {q : TokenQuestion} → StatementAsks w results before s q →
        StatementsAsk w results before (tree.statement s p rest) q
    later_statement : {before inside : Locals} {s : StatementTree} {p : Option ℕ} {rest : StatementTrees} {q : TokenQuestion} →
        StatementIsTyped w results before s inside →
        StatementsAsk w results inside rest q → StatementsAsk w results before (tree.statement s p rest) q

  -- The code of an `if` asks the question.
  pub data IfAsks (w : World) (results : List PlainType) : Locals → IfTree → TokenQuestion → Type 0 where
    before_condition : {before : Locals} {p : ℕ} {init : Option InitTree} {e : ExprTree} {b : BlockTree} {otherwise : ElseTree} {q : TokenQuestion} →
        AskIfPresent InitTree (InitAsks w) before init q → IfAsks w results before (tree.if_tree p init e b otherwise) q
    in_condition : {before entered : Locals} {p : ℕ} {init : Option InitTree} {e : ExprTree} {b : BlockTree} {otherwise : ElseTree} {q : TokenQuestion} →
        IfPresent InitTree (InitIsTyped w) before init entered → Asks w entered e q → IfAsks w results before (tree.if_tree p init e b otherwise) q
    in_then : {before entered tested : Locals} {p : ℕ} {init : Option InitTree} {e : ExprTree} {b : BlockTree} {otherwise : ElseTree} {q : TokenQuestion} →
        IfPresent InitTree (InitIsTyped w) before init entered → ConditionIsTyped w entered e tested → BlockAsks w results tested b q →
        IfAsks w results before (tree.if_tree p init e b otherwise) q
    in_otherwise : {before entered tested inside : Locals} {p : ℕ} {init : Option InitTree} {e : ExprTree} {b : BlockTree} {otherwise : ElseTree}
        {q : TokenQuestion} →
        IfPresent InitTree (InitIsTyped w) before init entered → ConditionIsTyped w entered e tested → BlockIsTyped w results tested b inside →
        ElseAsks w results inside otherwise q → IfAsks w results before (tree.if_tree p init e b otherwise) q

  -- The code behind an `else` asks the question.
  pub data ElseAsks (w : World) (results : List PlainType) : Locals → ElseTree → TokenQuestion → Type 0 where
    in_else_if : {before : Locals} {p : ℕ} {i : IfTree} {q : TokenQuestion} → IfAsks w results before i q → ElseAsks w results before (tree.else_if p i) q
    in_else : {before : Locals} {p : ℕ} {b : BlockTree} {q : TokenQuestion} → BlockAsks w results before b q → ElseAsks w results before (tree.else_block p b) q

-- The code of the body of a function asks the question. Its receiver and its parameters are declared before the body.
pub data FunctionAsks (w : World) : Locals → FuncTree → TokenQuestion → Type 0 where
  in_body : {before received entered : Locals} {f : FuncTree} {ts : List PlainType} {q : TokenQuestion} →
      IfPresent ReceiverTree (ReceiverIsTyped w) before f.receiver received →
      InTurn ParamTree (ParamIsTyped w) received f.params entered → AreResults w f.result ts → BlockAsks w ts entered f.body q → FunctionAsks w before f q
