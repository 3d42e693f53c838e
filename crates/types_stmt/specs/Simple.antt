-- The check of simple statements, of conditions, and of declarations of locals.
use Rattle.std.specs.Prelude.{ℕ, Bool, true, false, ◌||◌, if◌then◌else◌, List, [], ◌∷◌, ◌++◌, Option, Some, None, map}
use Rattle.go_ast.specs.declared.syntax.BinaryOp.{BinaryOp}
use Rattle.go_ast.specs.declared.syntax.BinaryOp.TheVariants as binary
use Rattle.go_ast.specs.declared.syntax.UpdateOp.{UpdateOp}
use Rattle.go_ast.specs.declared.syntax.UpdateOp.TheVariants as update
use Rattle.go_ast.specs.Tree.{Item, IdentTree, TypeTree, ExprTree, Paren, Chain, LinkTrees, no_link, selector, index, call, SimpleTree, Alone, Step}
use Rattle.go_ast.specs.Tree.{Update, Assign, Define, LocalTree}
use Rattle.types_expr.specs.Types.{PlainType, ValueKind, Meaning, Function, BuiltinName, Broken}
use Rattle.types_expr.specs.World.{World, Locals}
use Rattle.types_expr.specs.Operations.{operate, class_of, is_int, is_bool}
use Rattle.types_expr.specs.Places.{place_of, first_token}
use Rattle.types_expr.specs.declared.types.Builtin.{Builtin}
use Rattle.types_expr.specs.declared.types.Builtin.TheVariants as builtin
use Rattle.types_expr.specs.Judge.{JudgedList, TypeJudged, judge, judge_value, judge_type, value_kind}
use Rattle.types_stmt.specs.Checked.{FoundSoFar, with_declared, with_found, with_judged}
use Rattle.types_stmt.specs.Sides.{rhs, Target, Takes, Wants, given_faults, given_enterings, Lefts, judge_operand, assigned, defined, with_inferred}
use Rattle.types_stmt.specs.Sides.{with_locals, defined_names}
use Rattle.types_stmt.specs.Sides.{all_named, first_of_exprs, first_of_idents, receiving}

-- Conditions: a value whose underlying type is bool

-- the fault of a condition of kind k at `place`; none for a broken one
unfoldable pub condition_faults : World → ℕ → Option ValueKind → List ℕ
condition_faults w place None = []
condition_faults w place (Some k) = if is_bool (class_of w k) then [] else place ∷ []

-- the check of the condition of an `if` or `for`
unfoldable pub check_condition : World → FoundSoFar → ExprTree → FoundSoFar
check_condition w s e = with_judged s (judge_value w s.locals e) (condition_faults w (place_of e) (value_kind (judge_value w s.locals e).meaning))

-- `++` and `--`: an assignable operand whose underlying type is int

-- the fault of an operand of kind k at `place`; none for a broken one
unfoldable pub step_faults : World → ℕ → Option ValueKind → List ℕ
step_faults w place None = []
step_faults w place (Some k) = if is_int (class_of w k) then [] else place ∷ []

-- the check of `++` and `--`
unfoldable pub check_step : World → FoundSoFar → ExprTree → FoundSoFar
check_step w s e = with_judged s (judge_operand w s.locals e) (step_faults w (place_of e) (value_kind (judge_operand w s.locals e).meaning))

-- `x op= y`: the binary operation `x op y`, the result of which has to fit x

-- the binary operator op of an assignment `op=`
abbrev pub binary_of : UpdateOp → BinaryOp
binary_of update.Add = binary.Add
binary_of update.Subtract = binary.Subtract
binary_of update.Multiply = binary.Multiply
binary_of update.Divide = binary.Divide
binary_of update.Remainder = binary.Remainder

-- a fault at `place`, where there is no kind
abbrev pub fault_if_none : Option ValueKind → ℕ → List ℕ
fault_if_none None place = place ∷ []
fault_if_none (Some k) place = []

-- The fault of `x op= y` at `start`, the first token of x. Where the operation has a result, that has the type of x, and so fits x.
unfoldable pub update_faults : World → ℕ → BinaryOp → Option ValueKind → Option ValueKind → List ℕ
update_faults w start o (Some a) (Some b) = fault_if_none (operate w o a b) start
update_faults w start o a b = []

-- the check of `x op= y`
unfoldable pub check_update : World → FoundSoFar → BinaryOp → ExprTree → ExprTree → FoundSoFar
check_update w s o x y =
    with_found s ((judge_operand w s.locals x).faults ++ ((judge_value w s.locals y).faults
    ++ update_faults w (first_token x) o (value_kind (judge_operand w s.locals x).meaning) (value_kind (judge_value w s.locals y).meaning)))
    ((judge_operand w s.locals x).uses ++ (judge_value w s.locals y).uses)

-- Expression statements: calls of functions, methods, `panic`, `print` and `println`

-- whether there is no link left
abbrev pub is_end : LinkTrees → Bool
is_end no_link = true
is_end links = false

-- whether the last of the links is a call
unfoldable pub ends_in_call : LinkTrees → Bool
ends_in_call no_link = false
ends_in_call (selector d n rest) = ends_in_call rest
ends_in_call (index o e c rest) = ends_in_call rest
ends_in_call (call o xs c rest) = is_end rest || ends_in_call rest

-- the links without the last: none if the first is the last (`rest` is empty)
abbrev pub unless_end : LinkTrees → LinkTrees → LinkTrees
unless_end rest links = if is_end rest then no_link else links

-- the links without the last
unfoldable pub without_last : LinkTrees → LinkTrees
without_last no_link = no_link
without_last (selector d n rest) = unless_end rest (selector d n (without_last rest))
without_last (index o e c rest) = unless_end rest (index o e c (without_last rest))
without_last (call o xs c rest) = unless_end rest (call o xs c (without_last rest))

-- whether a call of this builtin may be a statement: all but `append` and `len` (Go specification, "Expression statements")
abbrev pub builtin_may_be_statement : Builtin → Bool
builtin_may_be_statement builtin.Append = false
builtin_may_be_statement builtin.Len = false
builtin_may_be_statement b = true

-- whether a call of an operand that means m may be a statement: a function, a method or such a builtin, but no conversion
--   f(1)
--   len(s)   // a fault
--   int(n)   // a fault
unfoldable pub may_be_statement : Meaning → Bool
may_be_statement (Function s) = true
may_be_statement (BuiltinName b) = builtin_may_be_statement b
may_be_statement m = false

-- whether an expression is a call that may be a statement
unfoldable pub is_statement : World → Locals → ExprTree → Bool
is_statement w ls (Chain e links) = if ends_in_call links then may_be_statement (judge w ls (Chain e (without_last links))).meaning else false
is_statement w ls e = false

-- the expression without the parentheses around it
unfoldable pub without_parentheses : ExprTree → ExprTree
without_parentheses (Paren o e c) = without_parentheses e
without_parentheses e = e

-- the fault of an expression that may not be a statement (`false`) and means m; none for a broken one
unfoldable pub statement_faults : ℕ → Bool → Meaning → List ℕ
statement_faults place true m = []
statement_faults place false Broken = []
statement_faults place false m = place ∷ []

-- The check of an expression statement. Parentheses around it ask for no value, so the fault stands at the first of them.
--   (f())   // a fault at the `(`, whatever results f has
unfoldable pub check_expr_statement : World → FoundSoFar → ExprTree → FoundSoFar
check_expr_statement w s e = with_judged s (judge w s.locals (without_parentheses e))
    (statement_faults (place_of e) (is_statement w s.locals e) (judge w s.locals (without_parentheses e)).meaning)

-- Assignments and definitions

-- left sides l given the values r of right sides, in the world as they receive them, where the statement changes the locals to `locals`; a
-- wrong count is a fault at `place`
abbrev pub with_given : World → FoundSoFar → ℕ → Locals → Lefts → JudgedList → FoundSoFar
with_given w s place locals l r =
    with_declared s locals (l.faults ++ (r.faults ++ given_faults w place r.values l.targets)) (l.uses ++ (r.uses ++ given_enterings w r.values l.targets))

-- the check of `xs = ys`
unfoldable pub check_assign : World → FoundSoFar → List (Item ExprTree) → List (Item ExprTree) → FoundSoFar
check_assign w s xs ys =
    with_given (receiving w ys (rhs w s.locals ys).values) s (first_of_exprs xs) s.locals (assigned w s.locals xs) (rhs w s.locals ys)

-- the check of `xs := ys`
unfoldable pub check_define : World → FoundSoFar → List (Item ExprTree) → List (Item ExprTree) → FoundSoFar
check_define w s xs ys =
    with_given (receiving w ys (rhs w s.locals ys).values) s (first_of_exprs xs)
    (with_inferred s.locals (defined_names w xs) (rhs w s.locals ys).values) (defined w s.locals xs) (rhs w s.locals ys)

-- the check of a simple statement
unfoldable pub check_simple : World → FoundSoFar → SimpleTree → FoundSoFar
check_simple w s (Alone e) = check_expr_statement w s e
check_simple w s (Step e op p) = check_step w s e
check_simple w s (Update x o p y) = check_update w s (binary_of o) x y
check_simple w s (Assign xs p ys) = check_assign w s xs ys
check_simple w s (Define xs p ys) = check_define w s xs ys

-- the check of a simple statement, if there is one
abbrev pub check_optional_simple : World → FoundSoFar → Option SimpleTree → FoundSoFar
check_optional_simple w s None = s
check_optional_simple w s (Some a) = check_simple w s a

-- the check of a condition, if there is one
abbrev pub check_optional_condition : World → FoundSoFar → Option ExprTree → FoundSoFar
check_optional_condition w s None = s
check_optional_condition w s (Some e) = check_condition w s e

-- Declarations of locals

-- the names of a declaration, each the target t
abbrev pub name_targets : List (Item IdentTree) → Target → Lefts
name_targets names t = record { targets = map (λ i. t) names; faults = []; uses = [] }

-- the names of a declaration with a written type, each a target of that type
abbrev pub written_targets : List (Item IdentTree) → TypeJudged → Lefts
written_targets names t = record { targets = map (λ i. Wants t.type_of) names; faults = t.faults; uses = [] }

-- the locals, with those of the given names, all of one type
abbrev pub written_locals : Locals → List (Item IdentTree) → Option PlainType → Locals
written_locals ls names t = with_locals ls (all_named names) (map (λ i. t) names)

-- the check of a local declaration with a written type, with or without values
unfoldable pub check_typed_local : World → FoundSoFar → List (Item IdentTree) → TypeJudged → Option (ℕ × List (Item ExprTree)) → FoundSoFar
check_typed_local w s names t None = with_declared s (written_locals s.locals names t.type_of) t.faults []
check_typed_local w s names t (Some v) = with_given (receiving w v.1 (rhs w s.locals v.1).values) s (first_of_idents names)
    (written_locals s.locals names t.type_of) (written_targets names t) (rhs w s.locals v.1)

-- The check of a local declaration without a written type. It has values: the grammar has no declaration without both.
unfoldable pub check_untyped_local : World → FoundSoFar → List (Item IdentTree) → Option (ℕ × List (Item ExprTree)) → FoundSoFar
check_untyped_local w s names None = with_declared s (with_locals s.locals (all_named names) []) [] []
check_untyped_local w s names (Some v) =
    with_given (receiving w v.1 (rhs w s.locals v.1).values) s (first_of_idents names)
    (with_inferred s.locals (all_named names) (rhs w s.locals v.1).values) (name_targets names Takes) (rhs w s.locals v.1)

-- the check of a local declaration, with or without a written type
abbrev pub check_local_of : World → FoundSoFar → List (Item IdentTree) → Option TypeTree → Option (ℕ × List (Item ExprTree)) → FoundSoFar
check_local_of w s names (Some t) values = check_typed_local w s names (judge_type w t) values
check_local_of w s names None values = check_untyped_local w s names values

-- the check of a declaration of locals
unfoldable pub check_local : World → FoundSoFar → LocalTree → FoundSoFar
check_local w s l = check_local_of w s l.names l.type_use l.values
