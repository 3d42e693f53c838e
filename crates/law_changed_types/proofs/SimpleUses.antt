-- What is found of a simple statement and of a declaration of locals asks for the members of its uses alone.
use Rattle.std.proofs.Common.{ℕ, ◌≡◌, Bool, true, false, if◌then◌else◌, List, [], ◌∷◌, ◌++◌, Option, Some, None, refl, ap, ◌∙◌}
use Rattle.go_ast.specs.declared.syntax.BinaryOp.{BinaryOp}
use Rattle.go_ast.specs.Tree.{Item, IdentTree, TypeTree, ExprTree, Name, Blank, Chain}
use Rattle.go_ast.specs.Tree.{LinkTrees, no_link, selector, index, call, SimpleTree, Alone, Step, Update, Assign, Define, LocalTree}
use Rattle.types_expr.specs.Places.{first_token, place_of}
use Rattle.types_expr.specs.World.{World, Locals}
use Rattle.types_expr.specs.Judge.{Judged, JudgedList, TypeJudged, followed, select, index_rule, call_rule, value_at, value_kind, value_before, judge}
use Rattle.types_expr.specs.Judge.{judge_links, judge_arguments, judge_value, judge_type, imported_type}
use Rattle.types_stmt.specs.Checked.{FoundSoFar, with_found}
use Rattle.types_stmt.specs.Sides.{Wants, Takes, Lefts, left_side, join_lefts, own_type, assignable, judge_operand, values_of, list_followed, judge_each, rhs}
use Rattle.types_stmt.specs.Sides.{assigned_one, assigned, no_name, defined_one, defined, defined_name, defined_names, all_named, with_locals, with_inferred}
use Rattle.types_stmt.specs.Sides.{first_of_exprs, first_of_idents}
use Rattle.types_stmt.specs.Simple.{condition_faults, check_condition, step_faults, check_step, binary_of, update_faults, check_update, is_end}
use Rattle.types_stmt.specs.Simple.{ends_in_call, without_last, without_parentheses, may_be_statement, is_statement, statement_faults}
use Rattle.types_stmt.specs.Simple.{check_expr_statement, check_assign}
use Rattle.types_stmt.specs.Simple.{check_define, check_simple, check_optional_simple, check_optional_condition, written_targets, name_targets, written_locals}
use Rattle.types_stmt.specs.Simple.{check_typed_local, check_untyped_local, check_local_of, check_local}
use Rattle.law_changed_types.proofs.Agreement.{Members, with_members, AreMembersAt, AreIn, of_part, of_first, of_second}
use Rattle.law_changed_types.proofs.ExpressionUses.{links_keep, same_value, same_judged}
use Rattle.law_changed_types.proofs.StatementRules.{same_condition, same_step, same_update}
use Rattle.law_changed_types.proofs.Settling.{IsSettled, unchecked, part, judged, given}

-- values, operands and right sides

pub same_judged_value : (v : World) (m : Members) (locals : Locals) (e : ExprTree) → AreMembersAt v m (judge_value v locals e).uses →
    judge_value (with_members v m) locals e ≡ judge_value v locals e
same_judged_value v m locals e h = same_value e (judge v locals e) (judge (with_members v m) locals e) (λ q. same_judged v m locals e q) h

same_operand : (v : World) (m : Members) (locals : Locals) (e : ExprTree) → AreMembersAt v m (judge_operand v locals e).uses →
    judge_operand (with_members v m) locals e ≡ judge_operand v locals e
same_operand v m locals e h = let j = judge v locals e in
    ap (λ (z : Judged). followed z (assignable (place_of e))) (same_judged v m locals e (of_first j.uses (assignable (place_of e) j.meaning).uses h))

same_each : (v : World) (m : Members) (locals : Locals) (is : List (Item ExprTree)) → AreMembersAt v m (judge_each v locals is).uses →
    judge_each (with_members v m) locals is ≡ judge_each v locals is
unfolding judge_each
same_each v m locals [] h = refl
same_each v m locals (i ∷ is) h =
    let j = judge_value v locals i.value in
    let others = judge_each v locals is in
    ap (λ (z : Judged). value_before (place_of i.value) z (judge_each (with_members v m) locals is))
    (same_judged_value v m locals i.value (of_first j.uses others.uses h))
    ∙ ap (λ (z : JudgedList). value_before (place_of i.value) j z) (same_each v m locals is (of_second j.uses others.uses h))

pub same_rhs : (v : World) (m : Members) (locals : Locals) (is : List (Item ExprTree)) → AreMembersAt v m (rhs v locals is).uses →
    rhs (with_members v m) locals is ≡ rhs v locals is
unfolding rhs
same_rhs v m locals [] h = same_each v m locals [] h
same_rhs v m locals (i ∷ []) h = let j = judge v locals i.value in
    ap (λ (z : Judged). list_followed z (values_of (place_of i.value)))
    (same_judged v m locals i.value (of_first j.uses (values_of (place_of i.value) j.meaning).uses h))
same_rhs v m locals (i ∷ k ∷ is) h = same_each v m locals (i ∷ k ∷ is) h

-- left sides

same_assigned_one : (v : World) (m : Members) (locals : Locals) (e : ExprTree) → AreMembersAt v m (assigned_one v locals e).uses →
    assigned_one (with_members v m) locals e ≡ assigned_one v locals e
unfolding assigned_one
same_assigned_one v m locals (Blank p) h = refl
same_assigned_one v m locals e h = ap (λ (z : Judged). left_side (Wants (own_type z.meaning)) z) (same_operand v m locals e h)

same_assigned : (v : World) (m : Members) (locals : Locals) (is : List (Item ExprTree)) → AreMembersAt v m (assigned v locals is).uses →
    assigned (with_members v m) locals is ≡ assigned v locals is
unfolding assigned
same_assigned v m locals [] h = refl
same_assigned v m locals (i ∷ is) h =
    let one = assigned_one v locals i.value in
    let others = assigned v locals is in
    ap (λ (z : Lefts). join_lefts z (assigned (with_members v m) locals is)) (same_assigned_one v m locals i.value (of_first one.uses others.uses h))
    ∙ ap (λ (z : Lefts). join_lefts one z) (same_assigned v m locals is (of_second one.uses others.uses h))

same_defined_one : (v : World) (m : Members) (locals : Locals) (e : ExprTree) → AreMembersAt v m (defined_one v locals e).uses →
    defined_one (with_members v m) locals e ≡ defined_one v locals e
unfolding defined_one judge
same_defined_one v m locals (Blank p) h = refl
same_defined_one v m locals (Name p) h = refl
same_defined_one v m locals e h = let j = judge_value v locals e in
    ap (λ (z : Judged). left_side (Wants None) (followed z (no_name (place_of e))))
    (same_judged_value v m locals e (of_first j.uses (no_name (place_of e) j.meaning).uses h))

same_defined : (v : World) (m : Members) (locals : Locals) (is : List (Item ExprTree)) → AreMembersAt v m (defined v locals is).uses →
    defined (with_members v m) locals is ≡ defined v locals is
unfolding defined
same_defined v m locals [] h = refl
same_defined v m locals (i ∷ is) h =
    let one = defined_one v locals i.value in
    let others = defined v locals is in
    ap (λ (z : Lefts). join_lefts z (defined (with_members v m) locals is)) (same_defined_one v m locals i.value (of_first one.uses others.uses h))
    ∙ ap (λ (z : Lefts). join_lefts one z) (same_defined v m locals is (of_second one.uses others.uses h))

-- expression statements: the chain without its last link is judged again, and its uses are among those of the chain

links_or_none : (v : World) (locals : Locals) (start place : ℕ) (j whole : Judged) (test : Bool) (links : LinkTrees) → AreIn j.uses whole.uses →
    AreIn (judge_links v locals start place j links).uses whole.uses →
    AreIn (judge_links v locals start place j (if test then no_link else links)).uses whole.uses
unfolding judge
links_or_none v locals start place j whole true links none some = none
links_or_none v locals start place j whole false links none some = some

shorter_in : (v : World) (locals : Locals) (links : LinkTrees) (start place : ℕ) (j : Judged) →
    AreIn (judge_links v locals start place j (without_last links)).uses (judge_links v locals start place j links).uses
unfolding judge without_last
shorter_in v locals no_link start place j = λ u c. c
shorter_in v locals (selector d n rest) start place j =
    links_or_none v locals start place j (judge_links v locals start place j (selector d n rest)) (is_end rest) (selector d n (without_last rest))
    (links_keep v locals (selector d n rest) start place j) (shorter_in v locals rest start n (followed j (select v locals place n)))
shorter_in v locals (index o e c rest) start place j =
    links_or_none v locals start place j (judge_links v locals start place j (index o e c rest)) (is_end rest) (index o e c (without_last rest))
    (links_keep v locals (index o e c rest) start place j)
    (shorter_in v locals rest start start (followed j (index_rule v start place e (value_at e (judge v locals e)))))
shorter_in v locals (call o xs c rest) start place j =
    links_or_none v locals start place j (judge_links v locals start place j (call o xs c rest)) (is_end rest) (call o xs c (without_last rest))
    (links_keep v locals (call o xs c rest) start place j)
    (shorter_in v locals rest start start (followed j (call_rule v start place (judge_arguments v locals xs))))

same_shorter : (v : World) (m : Members) (locals : Locals) (e : ExprTree) (links : LinkTrees) → AreMembersAt v m (judge v locals (Chain e links)).uses →
    judge (with_members v m) locals (Chain e (without_last links)) ≡ judge v locals (Chain e (without_last links))
unfolding judge
same_shorter v m locals e links h = same_judged v m locals (Chain e (without_last links))
    (of_part (judge v locals (Chain e (without_last links))).uses (shorter_in v locals links (first_token e) (place_of e) (judge v locals e)) h)

same_statement : (v : World) (m : Members) (locals : Locals) (e : ExprTree) → AreMembersAt v m (judge v locals (without_parentheses e)).uses →
    is_statement (with_members v m) locals e ≡ is_statement v locals e
unfolding is_statement without_parentheses
same_statement v m locals (Chain e links) h =
    ap (λ (z : Judged). if ends_in_call links then may_be_statement z.meaning else false) (same_shorter v m locals e links h)
same_statement v m locals e h = refl

-- simple statements

pub condition : (v : World) (m : Members) (s : FoundSoFar) (e : ExprTree) → IsSettled v m s (check_condition v s e) (check_condition (with_members v m) s e)
unfolding check_condition
condition v m s e =
    judged s (judge_value v s.locals e) (judge_value (with_members v m) s.locals e)
    (λ (z : Judged). condition_faults v (place_of e) (value_kind z.meaning))
    (λ (z : Judged). condition_faults (with_members v m) (place_of e) (value_kind z.meaning))
    (λ q. same_judged_value v m s.locals e q) (λ q. same_condition v m (place_of e) (value_kind (judge_value v s.locals e).meaning))

step : (v : World) (m : Members) (s : FoundSoFar) (e : ExprTree) → IsSettled v m s (check_step v s e) (check_step (with_members v m) s e)
unfolding check_step
step v m s e =
    judged s (judge_operand v s.locals e) (judge_operand (with_members v m) s.locals e)
    (λ (z : Judged). step_faults v (place_of e) (value_kind z.meaning)) (λ (z : Judged). step_faults (with_members v m) (place_of e) (value_kind z.meaning))
    (λ q. same_operand v m s.locals e q) (λ q. same_step v m (place_of e) (value_kind (judge_operand v s.locals e).meaning))

-- `x op= y`, where x and y are judged as i and j
updated : World → FoundSoFar → BinaryOp → (start : ℕ) → (i j : Judged) → FoundSoFar
updated w s o start i j =
    with_found s (i.faults ++ (j.faults ++ update_faults w start o (value_kind i.meaning) (value_kind j.meaning))) (i.uses ++ j.uses)

update : (v : World) (m : Members) (s : FoundSoFar) (o : BinaryOp) (x y : ExprTree) →
    IsSettled v m s (check_update v s o x y) (check_update (with_members v m) s o x y)
unfolding check_update updated
update v m s o x y =
    let w = with_members v m in
    let i = judge_operand v s.locals x in
    let j = judge_value v s.locals y in
    part s s.locals (i.faults ++ (j.faults ++ update_faults v (first_token x) o (value_kind i.meaning) (value_kind j.meaning))) (i.uses ++ j.uses)
    (check_update w s o x y) (λ h.
    ap (λ (z : Judged). updated w s o (first_token x) z (judge_value w s.locals y)) (same_operand v m s.locals x (of_first i.uses j.uses h))
    ∙ (ap (λ (z : Judged). updated w s o (first_token x) i z) (same_judged_value v m s.locals y (of_second i.uses j.uses h))
    ∙ ap (λ (z : List ℕ). with_found s (i.faults ++ (j.faults ++ z)) (i.uses ++ j.uses))
    (same_update v m (first_token x) o (value_kind i.meaning) (value_kind j.meaning))))

alone : (v : World) (m : Members) (s : FoundSoFar) (e : ExprTree) → IsSettled v m s (check_expr_statement v s e) (check_expr_statement (with_members v m) s e)
unfolding check_expr_statement
alone v m s e =
    let w = with_members v m in
    let inner = without_parentheses e in
    judged s (judge v s.locals inner) (judge w s.locals inner) (λ (z : Judged). statement_faults (place_of e) (is_statement v s.locals e) z.meaning)
    (λ (z : Judged). statement_faults (place_of e) (is_statement w s.locals e) z.meaning) (λ q. same_judged v m s.locals inner q)
    (λ q. ap (λ (z : Bool). statement_faults (place_of e) z (judge v s.locals inner).meaning) (same_statement v m s.locals e q))

assign : (v : World) (m : Members) (s : FoundSoFar) (xs ys : List (Item ExprTree)) →
    IsSettled v m s (check_assign v s xs ys) (check_assign (with_members v m) s xs ys)
unfolding check_assign
assign v m s xs ys =
    let w = with_members v m in
    given v m s (first_of_exprs xs) ys (λ r. s.locals) (assigned v s.locals xs) (assigned w s.locals xs) (rhs v s.locals ys) (rhs w s.locals ys)
    (λ q. same_assigned v m s.locals xs q) (λ q. same_rhs v m s.locals ys q)

define : (v : World) (m : Members) (s : FoundSoFar) (xs ys : List (Item ExprTree)) →
    IsSettled v m s (check_define v s xs ys) (check_define (with_members v m) s xs ys)
unfolding check_define defined_name
define v m s xs ys =
    let w = with_members v m in
    given v m s (first_of_exprs xs) ys (λ (r : JudgedList). with_inferred s.locals (defined_names v xs) r.values) (defined v s.locals xs)
    (defined w s.locals xs) (rhs v s.locals ys) (rhs w s.locals ys) (λ q. same_defined v m s.locals xs q) (λ q. same_rhs v m s.locals ys q)

pub simple : (v : World) (m : Members) (s : FoundSoFar) (a : SimpleTree) → IsSettled v m s (check_simple v s a) (check_simple (with_members v m) s a)
unfolding check_simple
simple v m s (Alone e) = alone v m s e
simple v m s (Step e o p) = step v m s e
simple v m s (Update x o p y) = update v m s (binary_of o) x y
simple v m s (Assign xs p ys) = assign v m s xs ys
simple v m s (Define xs p ys) = define v m s xs ys

pub optional_simple : (v : World) (m : Members) (s : FoundSoFar) (a : Option SimpleTree) →
    IsSettled v m s (check_optional_simple v s a) (check_optional_simple (with_members v m) s a)
optional_simple v m s None = unchecked s
optional_simple v m s (Some a) = simple v m s a

pub optional_condition : (v : World) (m : Members) (s : FoundSoFar) (e : Option ExprTree) →
    IsSettled v m s (check_optional_condition v s e) (check_optional_condition (with_members v m) s e)
optional_condition v m s None = unchecked s
optional_condition v m s (Some e) = condition v m s e

-- declarations of locals

typed_local : (v : World) (m : Members) (s : FoundSoFar) (names : List (Item IdentTree)) (t : TypeJudged) (values : Option (ℕ × List (Item ExprTree))) →
    IsSettled v m s (check_typed_local v s names t values) (check_typed_local (with_members v m) s names t values)
unfolding check_typed_local
typed_local v m s names t None =
    part s (written_locals s.locals names t.type_of) t.faults [] (check_typed_local (with_members v m) s names t None) (λ h. refl)
typed_local v m s names t (Some x) =
    given v m s (first_of_idents names) x.1 (λ r. written_locals s.locals names t.type_of) (written_targets names t) (written_targets names t)
    (rhs v s.locals x.1) (rhs (with_members v m) s.locals x.1) (λ q. refl) (λ q. same_rhs v m s.locals x.1 q)

untyped_local : (v : World) (m : Members) (s : FoundSoFar) (names : List (Item IdentTree)) (values : Option (ℕ × List (Item ExprTree))) →
    IsSettled v m s (check_untyped_local v s names values) (check_untyped_local (with_members v m) s names values)
unfolding check_untyped_local
untyped_local v m s names None =
    part s (with_locals s.locals (all_named names) []) [] [] (check_untyped_local (with_members v m) s names None) (λ h. refl)
untyped_local v m s names (Some x) =
    given v m s (first_of_idents names) x.1 (λ (r : JudgedList). with_inferred s.locals (all_named names) r.values) (name_targets names Takes)
    (name_targets names Takes) (rhs v s.locals x.1) (rhs (with_members v m) s.locals x.1) (λ q. refl) (λ q. same_rhs v m s.locals x.1 q)

local_of : (v : World) (m : Members) (s : FoundSoFar) (names : List (Item IdentTree)) (t : Option TypeTree) (values : Option (ℕ × List (Item ExprTree))) →
    IsSettled v m s (check_local_of v s names t values) (check_local_of (with_members v m) s names t values)
unfolding judge_type imported_type
local_of v m s names (Some t) values = typed_local v m s names (judge_type v t) values
local_of v m s names None values = untyped_local v m s names values

pub local : (v : World) (m : Members) (s : FoundSoFar) (l : LocalTree) → IsSettled v m s (check_local v s l) (check_local (with_members v m) s l)
unfolding check_local
local v m s l = local_of v m s l.names l.type_use l.values
