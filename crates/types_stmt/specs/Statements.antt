-- The check of statements and blocks, in source order. The locals of an inner block stay known after it: a name is bound to a local by its
-- token, so none of them can be mistaken for another.
use Rattle.std.specs.Prelude.{ℕ, ◌==◌, if◌then◌else◌, List, ◌++◌, Option, Some, None, length}
use Rattle.go_ast.specs.Tree.{Item, ExprTree, InitTree, ForTree, forever, while, clauses, StatementTree, Empty, Var, Simple, Inner, If, For, Break}
use Rattle.go_ast.specs.Tree.{Continue, Return, BlockTree, block, StatementTrees, no_statement, statement, IfTree, if_tree, ElseTree, no_else, else_if}
use Rattle.go_ast.specs.Tree.{else_block}
use Rattle.types_expr.specs.World.{World}
use Rattle.types_expr.specs.Judge.{ListValue, JudgedList, all_whole}
use Rattle.types_stmt.specs.Checked.{FoundSoFar, with_found, fault_if, check_group}
use Rattle.types_stmt.specs.Sides.{Target, rhs, all_refused, given_enterings, receiving}
use Rattle.types_stmt.specs.Simple.{check_simple, check_optional_simple, check_condition, check_optional_condition, check_local}

-- The faults of the values of a `return`, given to the function's results. A wrong count is a fault at `place`, also where a result is
-- broken, since results are no part of the statement.
unfoldable pub returned : World → ℕ → List ListValue → List Target → List ℕ
returned w place vs ts = if length vs == length ts then all_refused w vs ts else fault_if (all_whole vs) place

-- the check of a `return` whose values are judged as r, in the world as the results receive them
abbrev pub returning : World → FoundSoFar → ℕ → List Target → JudgedList → FoundSoFar
returning w s place results r = with_found s (r.faults ++ returned w place r.values results) (r.uses ++ given_enterings w r.values results)

-- the check of a `return` at token `place`
unfoldable pub check_return : World → FoundSoFar → ℕ → List Target → List (Item ExprTree) → FoundSoFar
check_return w s place results es = returning (receiving w es (rhs w s.locals es).values) s place results (rhs w s.locals es)

-- the check of the statement before the condition of an `if`, if there is one
abbrev pub check_init : World → FoundSoFar → Option InitTree → FoundSoFar
check_init w s None = s
check_init w s (Some i) = check_optional_simple w s i.simple

-- the check of the header of a `for`: the part before its block
unfoldable pub check_for_header : World → FoundSoFar → ForTree → FoundSoFar
check_for_header w s forever = s
check_for_header w s (while e) = check_condition w s e
check_for_header w s (clauses init p condition q post) = check_optional_simple w (check_optional_condition w (check_optional_simple w s init) condition) post

-- results: the targets of the function's returned values
unfoldable mutual
  pub check_statement : World → List Target → FoundSoFar → StatementTree → FoundSoFar
  check_statement w results s Empty = s
  check_statement w results s (Var p g) = check_group (check_local w) s g
  check_statement w results s (Simple a) = check_simple w s a
  check_statement w results s (Inner b) = check_block w results s b
  check_statement w results s (If i) = check_if w results s i
  check_statement w results s (For p h b) = check_block w results (check_for_header w s h) b
  check_statement w results s (Break p) = s
  check_statement w results s (Continue p) = s
  check_statement w results s (Return p es) = check_return w s p results es

  pub check_block : World → List Target → FoundSoFar → BlockTree → FoundSoFar
  check_block w results s (block o ss c) = check_statements w results s ss

  pub check_statements : World → List Target → FoundSoFar → StatementTrees → FoundSoFar
  check_statements w results s no_statement = s
  check_statements w results s (statement x p rest) = check_statements w results (check_statement w results s x) rest

  pub check_if : World → List Target → FoundSoFar → IfTree → FoundSoFar
  check_if w results s (if_tree p init e b otherwise) = check_else w results (check_block w results (check_condition w (check_init w s init) e) b) otherwise

  pub check_else : World → List Target → FoundSoFar → ElseTree → FoundSoFar
  check_else w results s no_else = s
  check_else w results s (else_if p i) = check_if w results s i
  check_else w results s (else_block p b) = check_block w results s b
