-- The code of statements. A jump counts the lines that it passes, so code doesn't depend on its place in the function.
use Rattle.std.specs.Prelude.{ℕ, suc, ◌+◌, List, [], ◌∷◌, ◌++◌, Option, Some, None, length}
use Rattle.std.specs.List.{flat_map}
use Rattle.go_ast.specs.declared.syntax.BinaryOp.{BinaryOp}
use Rattle.go_ast.specs.declared.syntax.BinaryOp.TheVariants as op
use Rattle.go_ast.specs.declared.syntax.StepOp.{StepOp}
use Rattle.go_ast.specs.declared.syntax.StepOp.TheVariants as step
use Rattle.go_ast.specs.Tree.{Item, IdentTree, Named, Underscore, TypeTree, ExprTree, Name, Blank}
use Rattle.go_ast.specs.Tree.{SimpleTree, Alone, Step, Update, Assign, Define, LocalTree, InitTree, ForTree, forever, while, clauses}
use Rattle.go_ast.specs.Tree.{StatementTree, Empty, Var, Simple, Inner, If, For, Break, Continue, Return, BlockTree, block, StatementTrees, no_statement}
use Rattle.go_ast.specs.Tree.{statement, IfTree, if_tree, ElseTree, no_else, else_if, else_block}
use Rattle.types_expr.specs.World.{Bound, Local, Means, BrokenVariable, BrokenFunction, BrokenType}
use Rattle.types_expr.specs.Judge.{judge_type}
use Rattle.types_declared.specs.Files.{group_items}
use Rattle.types_stmt.specs.Simple.{binary_of}
use Rattle.build_object.specs.Lines.{CodeLine, line_if_known, pops}
use Rattle.build_object.specs.Lines as line
use Rattle.build_object.specs.Source.{Source}
use Rattle.build_object.specs.Numbering.{slot_of}
use Rattle.build_object.specs.Expressions.{value_lines, given_lines, address_lines, values_left}

-- Values, and the lines that take them from the last to the first.

-- The lines that leave the values of expressions, in order, each as its target takes it.
abbrev pub lines_of_values : Source → (slots : List ℕ) → List (Item ExprTree) → List CodeLine
lines_of_values s slots es = flat_map (λ i. given_lines s slots i.value) es

-- The lines for each item of a list, those of the last item first.
unfoldable pub from_last : {X : Type 0} → (X → List CodeLine) → List (Item X) → List CodeLine
from_last does [] = []
from_last does (i ∷ is) = from_last does is ++ does i.value

-- The line that gives a declared local its value. A `_` drops the value.
abbrev pub set_name : (slots : List ℕ) → IdentTree → List CodeLine
set_name slots (Named n) = line_if_known line.Set (slot_of slots n)
set_name slots (Underscore n) = line.Pop ∷ []

-- The line that gives a left side of `:=` its value, by the local to which it is bound.
abbrev pub set_bound : (slots : List ℕ) → Bound → List CodeLine
set_bound slots (Local place) = line_if_known line.Set (slot_of slots place)
set_bound slots (Means m) = []
set_bound slots BrokenVariable = []
set_bound slots BrokenFunction = []
set_bound slots BrokenType = []

-- The line that gives a left side of `:=` its value. A `_` drops the value.
unfoldable pub set_left : Source → (slots : List ℕ) → ExprTree → List CodeLine
set_left s slots (Name p) = set_bound slots (s.world.bound p)
set_left s slots (Blank p) = line.Pop ∷ []
set_left s slots e = []

-- Simple statements

-- The lines that leave the address of a left side of `=`.
unfoldable pub target_lines : Source → (slots : List ℕ) → ExprTree → List CodeLine
target_lines s slots (Blank p) = line.BlankAddress ∷ []
target_lines s slots e = address_lines s slots e

-- The lines that leave the addresses of the left sides of `=`, in order.
abbrev pub targets_of : Source → (slots : List ℕ) → List (Item ExprTree) → List CodeLine
targets_of s slots es = flat_map (λ i. target_lines s slots i.value) es

-- The lines of `x op= y`, where x has these lines for its address, and y these for its value.
abbrev pub update_lines : List CodeLine → List CodeLine → BinaryOp → List CodeLine
update_lines address y o = address ++ (line.Duplicate ∷ line.Load ∷ (y ++ (line.Operate o ∷ line.Assign 1 ∷ [])))

-- The binary operator of `++` or `--`.
abbrev pub step_op : StepOp → BinaryOp
step_op step.Increment = op.Add
step_op step.Decrement = op.Subtract

-- The code of a simple statement. The values of an expression statement are dropped.
unfoldable pub simple_lines : Source → (slots : List ℕ) → SimpleTree → List CodeLine
simple_lines s slots (Alone e) = value_lines s slots e ++ pops (values_left s slots e)
simple_lines s slots (Step e o p) = update_lines (address_lines s slots e) (line.Integer 1 ∷ []) (step_op o)
simple_lines s slots (Update x o p y) = update_lines (address_lines s slots x) (value_lines s slots y) (binary_of o)
simple_lines s slots (Assign xs p ys) = targets_of s slots xs ++ (lines_of_values s slots ys ++ (line.Assign (length xs) ∷ []))
simple_lines s slots (Define xs p ys) = lines_of_values s slots ys ++ from_last (set_left s slots) xs

-- The code of an optional simple statement.
abbrev pub optional_lines : Source → (slots : List ℕ) → Option SimpleTree → List CodeLine
optional_lines s slots None = []
optional_lines s slots (Some a) = simple_lines s slots a

-- The code before the condition of an `if`.
abbrev pub init_lines : Source → (slots : List ℕ) → Option InitTree → List CodeLine
init_lines s slots None = []
init_lines s slots (Some i) = optional_lines s slots i.simple

-- Declarations of locals: their values, or for each name the zero value of its type.

-- For each name the zero value of the type that is written.
unfoldable pub zeros : Source → Option TypeTree → List (Item IdentTree) → List CodeLine
zeros s None names = []
zeros s (Some t) names = flat_map (λ i. line_if_known line.Zero (judge_type s.world t).type_of) names

-- The values with which locals begin.
unfoldable pub first_values : Source → (slots : List ℕ) → LocalTree → Option (ℕ × List (Item ExprTree)) → List CodeLine
first_values s slots l None = zeros s l.type_use l.names
first_values s slots l (Some v) = lines_of_values s slots v.1

-- The code of a `var` line of locals.
unfoldable pub local_lines : Source → (slots : List ℕ) → LocalTree → List CodeLine
local_lines s slots l = first_values s slots l l.values ++ from_last (set_name slots) l.names

-- Jumps

-- The exits of a statement: how many lines stand between its end and the targets of `continue` (`next`) and `break` (`out`).
pub record Exits : Type 0 where
  pub next : ℕ
  pub out : ℕ

-- The exits of a statement behind which n more lines stand.
abbrev pub further : ℕ → Exits → Exits
further n x = record { next = n + x.next; out = n + x.out }

-- The exits of a function's body, out of which no `break` or `continue` leads.
abbrev pub no_exits : Exits
no_exits = record { next = 0; out = 0 }

-- The exits of the block of an `if`: the lines behind `else` stand behind it, and the jump over them.
abbrev pub block_exits : Option (List CodeLine) → Exits → Exits
block_exits None x = x
block_exits (Some other) x = further (suc (length other)) x

-- The lines of an `if` behind its condition: its block, and the lines behind `else`, if there are any.
abbrev pub branched : List CodeLine → Option (List CodeLine) → List CodeLine
branched body None = line.JumpUnless (length body) ∷ body
branched body (Some other) = line.JumpUnless (suc (length body)) ∷ (body ++ (line.Jump (length other) ∷ other))

-- The header of a `for`: its init statement, its condition and its post statement.

-- The code of the init statement of a `for`.
abbrev pub for_init : Source → (slots : List ℕ) → ForTree → List CodeLine
for_init s slots forever = []
for_init s slots (while e) = []
for_init s slots (clauses init p condition q post) = optional_lines s slots init

-- The condition of a `for`, if it has one.
abbrev pub for_condition : ForTree → Option ExprTree
for_condition forever = None
for_condition (while e) = Some e
for_condition (clauses init p condition q post) = condition

-- The code of the post statement of a `for`.
abbrev pub for_post : Source → (slots : List ℕ) → ForTree → List CodeLine
for_post s slots forever = []
for_post s slots (while e) = []
for_post s slots (clauses init p condition q post) = optional_lines s slots post

-- The code of a loop's condition, behind which n lines of the loop stand.
abbrev pub loop_condition : Source → (slots : List ℕ) → Option ExprTree → ℕ → List CodeLine
loop_condition s slots None n = []
loop_condition s slots (Some e) n = value_lines s slots e ++ (line.JumpUnless n ∷ [])

-- The exits of a loop's body. `continue` leads to the post statement, and `break` behind the jump back.
abbrev pub body_exits : List CodeLine → Exits
body_exits post = record { next = 0; out = suc (length post) }

-- These lines, and a jump back to the first of them.
abbrev pub with_jump_back : List CodeLine → List CodeLine
with_jump_back lines = lines ++ (line.JumpBack (suc (length lines)) ∷ [])

-- The code of a loop: its condition, its body, its post statement, and the jump back to the condition.
abbrev pub loop_lines : Source → (slots : List ℕ) → Option ExprTree → (body post : List CodeLine) → List CodeLine
loop_lines s slots condition body post = with_jump_back (loop_condition s slots condition (suc (length (body ++ post))) ++ (body ++ post))

-- Statements and blocks. `results` is the number of the function's results.

unfoldable mutual
  -- The code of a statement.
  pub statement_lines : Source → (slots : List ℕ) → (results : ℕ) → Exits → StatementTree → List CodeLine
  statement_lines s slots results x Empty = []
  statement_lines s slots results x (Var p g) = flat_map (local_lines s slots) (group_items g)
  statement_lines s slots results x (Simple a) = simple_lines s slots a
  statement_lines s slots results x (Inner b) = block_lines s slots results x b
  statement_lines s slots results x (If i) = if_lines s slots results x i
  statement_lines s slots results x (For p h b) =
      for_init s slots h ++ loop_lines s slots (for_condition h) (block_lines s slots results (body_exits (for_post s slots h)) b) (for_post s slots h)
  statement_lines s slots results x (Break p) = line.Jump x.out ∷ []
  statement_lines s slots results x (Continue p) = line.Jump x.next ∷ []
  statement_lines s slots results x (Return p es) = lines_of_values s slots es ++ (line.Return results ∷ [])

  -- The code of a block.
  pub block_lines : Source → (slots : List ℕ) → (results : ℕ) → Exits → BlockTree → List CodeLine
  block_lines s slots results x (block o ss c) = statements_lines s slots results x ss

  -- The code of a list of statements.
  pub statements_lines : Source → (slots : List ℕ) → (results : ℕ) → Exits → StatementTrees → List CodeLine
  statements_lines s slots results x no_statement = []
  statements_lines s slots results x (statement a p rest) =
      statement_lines s slots results (further (length (statements_lines s slots results x rest)) x) a ++ statements_lines s slots results x rest

  -- The code of an `if`.
  pub if_lines : Source → (slots : List ℕ) → (results : ℕ) → Exits → IfTree → List CodeLine
  if_lines s slots results x (if_tree p init e b otherwise) =
      init_lines s slots init ++ (value_lines s slots e
      ++ branched (block_lines s slots results (block_exits (else_lines s slots results x otherwise) x) b) (else_lines s slots results x otherwise))

  -- The code behind an `else`, and `None` where there is no `else`.
  pub else_lines : Source → (slots : List ℕ) → (results : ℕ) → Exits → ElseTree → Option (List CodeLine)
  else_lines s slots results x no_else = None
  else_lines s slots results x (else_if p i) = Some (if_lines s slots results x i)
  else_lines s slots results x (else_block p b) = Some (block_lines s slots results x b)

-- The code of a function's body.
abbrev pub body_lines : Source → (slots : List ℕ) → (results : ℕ) → BlockTree → List CodeLine
body_lines s slots results b = block_lines s slots results no_exits b ++ (line.End ∷ [])
