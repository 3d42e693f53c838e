-- The tokens at which a statement or block breaks a typing rule, though the parts of the broken part break none. The statements before it
-- need not be typed: the locals are those that they declare.
use Rattle.std.specs.Prelude.{ℕ, List, Option, map}
use Rattle.go_ast.specs.Tree.{Item, Group, ExprTree, SimpleTree, LocalTree, InitTree, ForTree, StatementTree, BlockTree, StatementTrees, IfTree, ElseTree}
use Rattle.go_ast.specs.Tree as tree
use Rattle.types_expr.specs.Types.{PlainType}
use Rattle.types_expr.specs.World.{World, Locals}
use Rattle.types_expr.specs.Judge.{ListValue}
use Rattle.law_typing.specs.Sequences.{IfPresent}
use Rattle.law_typing.specs.AssignmentFaults.{SidesGive, taker_of, IsReturnFault}
use Rattle.law_typing.specs.DeclaredLocals.{SimpleDeclares, LocalDeclares, InitDeclares, HeaderDeclares, StatementDeclares, BlockDeclares}
use Rattle.law_typing.specs.SequenceFaults.{BreaksInGroup, BreaksIfPresent}
use Rattle.law_typing.specs.SimpleFaults.{ConditionBreaksAt, SidesBreakAt, SimpleBreaksAt, LocalBreaksAt}
use Rattle.types_stmt.specs.Sides.{receiving}

-- the statement before the condition of an `if` breaks a rule at this token
pub data InitBreaksAt (w : World) : Locals → InitTree → ℕ → Type 0 where
  in_init : {before : Locals} {i : InitTree} {p : ℕ} → BreaksIfPresent SimpleTree (SimpleBreaksAt w) before i.simple p → InitBreaksAt w before i p

-- the header of a `for` breaks a rule at this token
pub data HeaderBreaksAt (w : World) : Locals → ForTree → ℕ → Type 0 where
  in_while : {before : Locals} {e : ExprTree} {p : ℕ} → ConditionBreaksAt w before e p → HeaderBreaksAt w before (tree.while e) p
  in_first : {before : Locals} {init post : Option SimpleTree} {condition : Option ExprTree} {o q p : ℕ} →
      BreaksIfPresent SimpleTree (SimpleBreaksAt w) before init p → HeaderBreaksAt w before (tree.clauses init o condition q post) p
  in_test : {before entered : Locals} {init post : Option SimpleTree} {condition : Option ExprTree} {o q p : ℕ} →
      IfPresent SimpleTree (SimpleDeclares w) before init entered → BreaksIfPresent ExprTree (ConditionBreaksAt w) entered condition p →
      HeaderBreaksAt w before (tree.clauses init o condition q post) p
  in_post : {before entered : Locals} {init post : Option SimpleTree} {condition : Option ExprTree} {o q p : ℕ} →
      IfPresent SimpleTree (SimpleDeclares w) before init entered → BreaksIfPresent SimpleTree (SimpleBreaksAt w) entered post p →
      HeaderBreaksAt w before (tree.clauses init o condition q post) p

-- results: the types of the function's results; a broken one has none
mutual
  -- a statement breaks a rule at this token
  pub data StatementBreaksAt (w : World) (results : List (Option PlainType)) : Locals → StatementTree → ℕ → Type 0 where
    in_declaration : {before : Locals} {q p : ℕ} {g : Group LocalTree} → BreaksInGroup LocalTree (LocalDeclares w) (LocalBreaksAt w) before g p →
        StatementBreaksAt w results before (tree.Var q g) p
    in_simple : {before : Locals} {s : SimpleTree} {p : ℕ} → SimpleBreaksAt w before s p → StatementBreaksAt w results before (tree.Simple s) p
    in_inner : {before : Locals} {b : BlockTree} {p : ℕ} → BlockBreaksAt w results before b p → StatementBreaksAt w results before (tree.Inner b) p
    in_choice : {before : Locals} {i : IfTree} {p : ℕ} → IfBreaksAt w results before i p → StatementBreaksAt w results before (tree.If i) p
    in_header : {before : Locals} {q p : ℕ} {h : ForTree} {b : BlockTree} → HeaderBreaksAt w before h p → StatementBreaksAt w results before (tree.For q h b) p
    in_loop : {before entered : Locals} {q p : ℕ} {h : ForTree} {b : BlockTree} → HeaderDeclares w before h entered → BlockBreaksAt w results entered b p →
        StatementBreaksAt w results before (tree.For q h b) p
    in_return : {before : Locals} {q p : ℕ} {es : List (Item ExprTree)} → SidesBreakAt w before es p → StatementBreaksAt w results before (tree.Return q es) p
    no_return : {before : Locals} {q p : ℕ} {es : List (Item ExprTree)} {vs : List ListValue} → SidesGive w before es vs →
        IsReturnFault (receiving w es vs) q vs (map taker_of results) p → StatementBreaksAt w results before (tree.Return q es) p

  -- a block breaks a rule at this token
  pub data BlockBreaksAt (w : World) (results : List (Option PlainType)) : Locals → BlockTree → ℕ → Type 0 where
    in_block : {before : Locals} {o c p : ℕ} {ss : StatementTrees} → StatementsBreakAt w results before ss p →
        BlockBreaksAt w results before (tree.block o ss c) p

  -- one of the statements breaks a rule at this token
  pub data StatementsBreakAt (w : World) (results : List (Option PlainType)) : Locals → StatementTrees → ℕ → Type 0 where
    this_statement : {before : Locals} {s : StatementTree} {q : Option ℕ} {rest : StatementTrees} {p : ℕ} → StatementBreaksAt w results before s p →
        StatementsBreakAt w results before (tree.statement s q rest) p
    later_statement : {before inside : Locals} {s : StatementTree} {q : Option ℕ} {rest : StatementTrees} {p : ℕ} → StatementDeclares w before s inside →
        StatementsBreakAt w results inside rest p → StatementsBreakAt w results before (tree.statement s q rest) p

  -- an `if` breaks a rule at this token
  pub data IfBreaksAt (w : World) (results : List (Option PlainType)) : Locals → IfTree → ℕ → Type 0 where
    before_condition : {before : Locals} {q p : ℕ} {init : Option InitTree} {e : ExprTree} {b : BlockTree} {otherwise : ElseTree} →
        BreaksIfPresent InitTree (InitBreaksAt w) before init p → IfBreaksAt w results before (tree.if_tree q init e b otherwise) p
    in_condition : {before entered : Locals} {q p : ℕ} {init : Option InitTree} {e : ExprTree} {b : BlockTree} {otherwise : ElseTree} →
        IfPresent InitTree (InitDeclares w) before init entered → ConditionBreaksAt w entered e p →
        IfBreaksAt w results before (tree.if_tree q init e b otherwise) p
    in_then : {before entered : Locals} {q p : ℕ} {init : Option InitTree} {e : ExprTree} {b : BlockTree} {otherwise : ElseTree} →
        IfPresent InitTree (InitDeclares w) before init entered → BlockBreaksAt w results entered b p →
        IfBreaksAt w results before (tree.if_tree q init e b otherwise) p
    in_otherwise : {before entered inside : Locals} {q p : ℕ} {init : Option InitTree} {e : ExprTree} {b : BlockTree} {otherwise : ElseTree} →
        IfPresent InitTree (InitDeclares w) before init entered → BlockDeclares w entered b inside → ElseBreaksAt w results inside otherwise p →
        IfBreaksAt w results before (tree.if_tree q init e b otherwise) p

  -- an `else` breaks a rule at this token
  pub data ElseBreaksAt (w : World) (results : List (Option PlainType)) : Locals → ElseTree → ℕ → Type 0 where
    in_else_if : {before : Locals} {q p : ℕ} {i : IfTree} → IfBreaksAt w results before i p → ElseBreaksAt w results before (tree.else_if q i) p
    in_else : {before : Locals} {q p : ℕ} {b : BlockTree} → BlockBreaksAt w results before b p → ElseBreaksAt w results before (tree.else_block q b) p
