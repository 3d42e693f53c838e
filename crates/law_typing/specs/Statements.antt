-- The typing rules of statements and blocks. The locals of an inner block stay known after it, since a name is bound to a local by its
-- token.
use Rattle.std.specs.Prelude.{ℕ, List, Option, map}
use Rattle.go_ast.specs.Tree.{Item, Group, ExprTree, SimpleTree, LocalTree, InitTree, ForTree, StatementTree, BlockTree, StatementTrees, IfTree, ElseTree}
use Rattle.go_ast.specs.Tree as tree
use Rattle.types_expr.specs.Types.{PlainType, ValueKind}
use Rattle.types_expr.specs.World.{World, Locals}
use Rattle.law_typing.specs.Sequences.{InGroup, IfPresent}
use Rattle.law_typing.specs.Assignments.{OfType, TakenInTurn, GiveKinds}
use Rattle.law_typing.specs.Simple.{ConditionIsTyped, SimpleIsTyped, LocalIsTyped}
use Rattle.types_stmt.specs.Sides.{receiving}

-- the statement before the condition of an `if` is typed
pub data InitIsTyped (w : World) : Locals → InitTree → Locals → Type 0 where
  an_init : {before after : Locals} {i : InitTree} → IfPresent SimpleTree (SimpleIsTyped w) before i.simple after → InitIsTyped w before i after

-- the header of a `for` is typed: the part before its block
pub data HeaderIsTyped (w : World) : Locals → ForTree → Locals → Type 0 where
  endless : {locals : Locals} → HeaderIsTyped w locals tree.forever locals
  a_while : {before after : Locals} {e : ExprTree} → ConditionIsTyped w before e after → HeaderIsTyped w before (tree.while e) after
  with_clauses : {before entered tested after : Locals} {init post : Option SimpleTree} {condition : Option ExprTree} {p q : ℕ} →
      IfPresent SimpleTree (SimpleIsTyped w) before init entered →
      IfPresent ExprTree (ConditionIsTyped w) entered condition tested → IfPresent SimpleTree (SimpleIsTyped w) tested post after →
      HeaderIsTyped w before (tree.clauses init p condition q post) after

-- results: the types of the function's results
mutual
  -- a statement is typed: the locals before it, the statement, and the locals after it
  pub data StatementIsTyped (w : World) (results : List PlainType) : Locals → StatementTree → Locals → Type 0 where
    nothing : {locals : Locals} → StatementIsTyped w results locals tree.Empty locals
    a_declaration : {before after : Locals} {p : ℕ} {g : Group LocalTree} → InGroup LocalTree (LocalIsTyped w) before g after →
        StatementIsTyped w results before (tree.Var p g) after
    a_simple : {before after : Locals} {s : SimpleTree} → SimpleIsTyped w before s after → StatementIsTyped w results before (tree.Simple s) after
    an_inner_block : {before after : Locals} {b : BlockTree} → BlockIsTyped w results before b after → StatementIsTyped w results before (tree.Inner b) after
    a_choice : {before after : Locals} {i : IfTree} → IfIsTyped w results before i after → StatementIsTyped w results before (tree.If i) after
    a_loop : {before entered after : Locals} {p : ℕ} {h : ForTree} {b : BlockTree} → HeaderIsTyped w before h entered → BlockIsTyped w results entered b after →
        StatementIsTyped w results before (tree.For p h b) after
    a_break : {locals : Locals} {p : ℕ} → StatementIsTyped w results locals (tree.Break p) locals
    a_continue : {locals : Locals} {p : ℕ} → StatementIsTyped w results locals (tree.Continue p) locals
    a_return : {locals : Locals} {p : ℕ} {es : List (Item ExprTree)} {ks : List ValueKind} → GiveKinds w locals es ks →
        TakenInTurn (receiving w es ks) ks (map OfType results) →
        StatementIsTyped w results locals (tree.Return p es) locals

  -- a block is typed
  pub data BlockIsTyped (w : World) (results : List PlainType) : Locals → BlockTree → Locals → Type 0 where
    a_block : {before after : Locals} {o c : ℕ} {ss : StatementTrees} → StatementsAreTyped w results before ss after →
        BlockIsTyped w results before (tree.block o ss c) after

  -- statements are typed in turn
  pub data StatementsAreTyped (w : World) (results : List PlainType) : Locals → StatementTrees → Locals → Type 0 where
    no_more : {locals : Locals} → StatementsAreTyped w results locals tree.no_statement locals
    one_more : {before inside after : Locals} {s : StatementTree} {p : Option ℕ} {rest : StatementTrees} → StatementIsTyped w results before s inside →
        StatementsAreTyped w results inside rest after →
        StatementsAreTyped w results before (tree.statement s p rest) after

  -- an `if` is typed
  pub data IfIsTyped (w : World) (results : List PlainType) : Locals → IfTree → Locals → Type 0 where
    an_if : {before entered tested inside after : Locals} {p : ℕ} {init : Option InitTree} {e : ExprTree} {b : BlockTree} {otherwise : ElseTree} →
        IfPresent InitTree (InitIsTyped w) before init entered →
        ConditionIsTyped w entered e tested → BlockIsTyped w results tested b inside → ElseIsTyped w results inside otherwise after →
        IfIsTyped w results before (tree.if_tree p init e b otherwise) after

  -- an `else` is typed
  pub data ElseIsTyped (w : World) (results : List PlainType) : Locals → ElseTree → Locals → Type 0 where
    without_else : {locals : Locals} → ElseIsTyped w results locals tree.no_else locals
    an_else_if : {before after : Locals} {p : ℕ} {i : IfTree} → IfIsTyped w results before i after → ElseIsTyped w results before (tree.else_if p i) after
    an_else : {before after : Locals} {p : ℕ} {b : BlockTree} → BlockIsTyped w results before b after → ElseIsTyped w results before (tree.else_block p b) after
