-- The code of statements and of functions stays within its function.
use Rattle.std.proofs.Common.{ℕ, zero, suc, ◌≡◌, ◌+◌, ◌<◌, ◌≤◌, List, [], ◌∷◌, ◌++◌, length, length-append, refl, subst, Option, Some}
use Rattle.std.proofs.Common.{None, arith}
use Rattle.std.specs.Prelude.{⊤}
use Rattle.go_ast.specs.declared.syntax.BinaryOp.{BinaryOp}
use Rattle.go_ast.specs.Tree.{Item, IdentTree, Named, Underscore, TypeTree, ExprTree, Number, Text, Name, Blank, Composite, Paren, Prefix, Address}
use Rattle.go_ast.specs.Tree.{Chain, Binary, SimpleTree, Alone, Step, Update, Assign, Define, LocalTree, InitTree, ForTree, forever, while, clauses}
use Rattle.go_ast.specs.Tree.{StatementTree, Empty, Var, Simple, Inner, If, For, Break, Continue, Return, BlockTree, block, StatementTrees, no_statement}
use Rattle.go_ast.specs.Tree.{statement, IfTree, if_tree, ElseTree, no_else, else_if, else_block, FuncTree}
use Rattle.types_expr.specs.World.{Bound, Means, BrokenVariable, BrokenFunction, BrokenType}
use Rattle.types_expr.specs.World.{Local as LocalName}
use Rattle.types_expr.specs.Judge.{judge_type}
use Rattle.types_declared.specs.Files.{group_items}
use Rattle.types_stmt.specs.Simple.{binary_of}
use Rattle.types_declared.specs.MeaningOf.{result_types}
use Rattle.build_object.specs.Lines.{CodeLine, FunctionName, Duplicate, Load, Operate, Jump, JumpUnless, JumpBack, Zero, Set, End}
use Rattle.build_object.specs.Lines.{line_if_known, pops}
use Rattle.build_object.specs.Lines as line
use Rattle.build_object.specs.Source.{Source}
use Rattle.build_object.specs.Numbering.{slot_of}
use Rattle.build_object.specs.Slots.{slots_of}
use Rattle.build_object.specs.Expressions.{operand_of, value_lines, given_lines, enter_line, address_lines, values_left}
use Rattle.build_object.specs.Statements.{lines_of_values, from_last, set_name, set_bound, set_left}
use Rattle.build_object.specs.Statements.{target_lines, targets_of, update_lines, step_op, simple_lines}
use Rattle.build_object.specs.Statements.{optional_lines, init_lines, zeros, first_values, local_lines, Exits, further, no_exits, block_exits, branched}
use Rattle.build_object.specs.Statements.{for_init, for_condition, for_post, loop_condition}
use Rattle.build_object.specs.Statements.{body_exits, with_jump_back, loop_lines, statement_lines, block_lines}
use Rattle.build_object.specs.Statements.{statements_lines, if_lines, else_lines, body_lines}
use Rattle.build_object.specs.Objects.{function_of}
use Rattle.build_object.specs.Fitting.{HasFittingCode}
use Rattle.build_object.proofs.FittingParts.{count, after, is_count, is_after, Within, Before, Stays, fits_at, joined, before_joined, stays_before, none_stays}
use Rattle.build_object.proofs.FittingParts.{stays_joined, each_stays, known_stays, is_slot, slot_stays}
use Rattle.build_object.proofs.FittingExpressions.{expr_sound, enter_stays}

-- Values, and what takes them

values_stay : (s : Source) (slots : List ℕ) (es : List (Item ExprTree)) → Stays (length slots) (lines_of_values s slots es)
values_stay s slots es = each_stays (length slots) (λ i. given_lines s slots i.value)
    (λ i. stays_joined (length slots) (value_lines s slots i.value) (enter_line s (operand_of s slots i.value) i.value) (expr_sound s slots i.value).0
    (enter_stays (length slots) s (operand_of s slots i.value) i.value)) es

last_stays : {X : Type 0} (k : ℕ) (f : X → List CodeLine) → ((x : X) → Stays k (f x)) → (xs : List (Item X)) → Stays k (from_last f xs)
unfolding from_last
last_stays k f h [] = none_stays k
last_stays k f h (x ∷ xs) = stays_joined k (from_last f xs) (f x.value) (last_stays k f h xs) (h x.value)

set_stays : (slots : List ℕ) (place : ℕ) → Stays (length slots) (line_if_known Set (slot_of slots place))
set_stays slots place = slot_stays (length slots) Set (λ n b a lt. lt) (slot_of slots place) (is_slot slots place)

name_stays : (slots : List ℕ) (n : IdentTree) → Stays (length slots) (set_name slots n)
name_stays slots (Named n) = set_stays slots n
name_stays slots (Underscore n) = λ a b. (tt, tt)

bound_stays : (slots : List ℕ) (bound : Bound) → Stays (length slots) (set_bound slots bound)
bound_stays slots (LocalName place) = set_stays slots place
bound_stays slots (Means m) = none_stays (length slots)
bound_stays slots BrokenVariable = none_stays (length slots)
bound_stays slots BrokenFunction = none_stays (length slots)
bound_stays slots BrokenType = none_stays (length slots)

left_stays : (s : Source) (slots : List ℕ) (e : ExprTree) → Stays (length slots) (set_left s slots e)
unfolding set_left
left_stays s slots (Name p) = bound_stays slots (s.world.bound p)
left_stays s slots (Blank p) = λ a b. (tt, tt)
left_stays s slots (Number p) = none_stays (length slots)
left_stays s slots (Text p) = none_stays (length slots)
left_stays s slots (Composite l) = none_stays (length slots)
left_stays s slots (Paren o e c) = none_stays (length slots)
left_stays s slots (Prefix o p e) = none_stays (length slots)
left_stays s slots (Address p l) = none_stays (length slots)
left_stays s slots (Chain e links) = none_stays (length slots)
left_stays s slots (Binary e rest) = none_stays (length slots)

target_stays : (s : Source) (slots : List ℕ) (e : ExprTree) → Stays (length slots) (target_lines s slots e)
unfolding target_lines
target_stays s slots (Blank p) = λ a b. (tt, tt)
target_stays s slots (Name p) = (expr_sound s slots (Name p)).1
target_stays s slots (Number p) = (expr_sound s slots (Number p)).1
target_stays s slots (Text p) = (expr_sound s slots (Text p)).1
target_stays s slots (Composite l) = (expr_sound s slots (Composite l)).1
target_stays s slots (Paren o e c) = (expr_sound s slots (Paren o e c)).1
target_stays s slots (Prefix o p e) = (expr_sound s slots (Prefix o p e)).1
target_stays s slots (Address p l) = (expr_sound s slots (Address p l)).1
target_stays s slots (Chain e links) = (expr_sound s slots (Chain e links)).1
target_stays s slots (Binary e rest) = (expr_sound s slots (Binary e rest)).1

pops_stay : (k n : ℕ) → Stays k (pops n)
unfolding pops
pops_stay k zero = none_stays k
pops_stay k (suc n) = λ a b. (tt, pops_stay k n a (suc b))

-- Simple statements

update_stays : (k : ℕ) (address y : List CodeLine) (o : BinaryOp) → Stays k address → Stays k y → Stays k (update_lines address y o)
update_stays k address y o f g =
    let ends : Stays k (Operate o ∷ line.Assign 1 ∷ []) = λ a b. (tt, (tt, tt)) in
    let behind : Stays k (Duplicate ∷ Load ∷ (y ++ (Operate o ∷ line.Assign 1 ∷ []))) = λ a b.
    (tt, (tt, stays_joined k y (Operate o ∷ line.Assign 1 ∷ []) g ends a (suc (suc b)))) in
    stays_joined k address (Duplicate ∷ Load ∷ (y ++ (Operate o ∷ line.Assign 1 ∷ []))) f behind

simple_stays : (s : Source) (slots : List ℕ) (a : SimpleTree) → Stays (length slots) (simple_lines s slots a)
unfolding simple_lines
simple_stays s slots (Alone e) = stays_joined (length slots) (value_lines s slots e) (pops (values_left s slots e)) (expr_sound s slots e).0
    (pops_stay (length slots) (values_left s slots e))
simple_stays s slots (Step e o p) = update_stays (length slots) (address_lines s slots e) (line.Integer 1 ∷ []) (step_op o) (expr_sound s slots e).1
    (λ a b. (tt, tt))
simple_stays s slots (Update x o p y) = update_stays (length slots) (address_lines s slots x) (value_lines s slots y) (binary_of o) (expr_sound s slots x).1
    (expr_sound s slots y).0
simple_stays s slots (Assign xs p ys) =
    stays_joined (length slots) (targets_of s slots xs) (lines_of_values s slots ys ++ (line.Assign (length xs) ∷ []))
    (each_stays (length slots) (λ i. target_lines s slots i.value) (λ i. target_stays s slots i.value) xs)
    (stays_joined (length slots) (lines_of_values s slots ys) (line.Assign (length xs) ∷ []) (values_stay s slots ys) (λ a b. (tt, tt)))
simple_stays s slots (Define xs p ys) =
    stays_joined (length slots) (lines_of_values s slots ys) (from_last (set_left s slots) xs) (values_stay s slots ys)
    (last_stays (length slots) (set_left s slots) (left_stays s slots) xs)

optional_stays : (s : Source) (slots : List ℕ) (a : Option SimpleTree) → Stays (length slots) (optional_lines s slots a)
optional_stays s slots None = none_stays (length slots)
optional_stays s slots (Some a) = simple_stays s slots a

init_stays : (s : Source) (slots : List ℕ) (i : Option InitTree) → Stays (length slots) (init_lines s slots i)
init_stays s slots None = none_stays (length slots)
init_stays s slots (Some i) = optional_stays s slots i.simple

-- Declarations of locals

zeros_stay : (k : ℕ) (s : Source) (t : Option TypeTree) (names : List (Item IdentTree)) → Stays k (zeros s t names)
unfolding zeros
zeros_stay k s None names = none_stays k
zeros_stay k s (Some t) names = each_stays k (λ i. line_if_known Zero (judge_type s.world t).type_of)
    (λ i. known_stays k Zero (λ own a b. (tt, tt)) (judge_type s.world t).type_of) names

first_stay : (s : Source) (slots : List ℕ) (l : LocalTree) (values : Option (ℕ × List (Item ExprTree))) → Stays (length slots) (first_values s slots l values)
unfolding first_values
first_stay s slots l None = zeros_stay (length slots) s l.type_use l.names
first_stay s slots l (Some v) = values_stay s slots v.1

local_stays : (s : Source) (slots : List ℕ) (l : LocalTree) → Stays (length slots) (local_lines s slots l)
unfolding local_lines
local_stays s slots l = stays_joined (length slots) (first_values s slots l l.values) (from_last (set_name slots) l.names) (first_stay s slots l l.values)
    (last_stays (length slots) (set_name slots) (name_stays slots) l.names)

-- Jumps

jump_fits : (k n a : ℕ) → n ≤ a → Before k a (Jump n ∷ [])
jump_fits k n a le = λ b. let lt : n < suc a = omega arith in (lt, tt)

abbrev IsBefore : (slots behind : ℕ) → Option (List CodeLine) → Type 0
IsBefore k a None = ⊤
IsBefore k a (Some lines) = Before k a lines

over_fits : (k a : ℕ) (body other : List CodeLine) → Before k (suc (count other a)) body → Before k a other → Before k a (branched body (Some other))
over_fits k a body other f g = λ b.
    let over : length other < count other (suc a) = omega (arith, is_count other (suc a)) in
    let more : length (Jump (length other) ∷ other) ≡ suc (length other) = refl in
    let lt : suc (length body) < count (body ++ (Jump (length other) ∷ other)) (suc a) =
    omega (arith, is_count (body ++ (Jump (length other) ∷ other)) (suc a), length-append body (Jump (length other) ∷ other), more) in
    (lt, before_joined k a body (Jump (length other) ∷ other) f (λ c. (over, g (suc c))) (suc b))

-- body: the lines of the block of an `if`, by where `continue` and `break` lead
branched_fits : (k a : ℕ) (x : Exits) (body : Exits → List CodeLine) → ((y : Exits) (c : ℕ) → y.next ≤ c → y.out ≤ c → Before k c (body y)) →
    (other : Option (List CodeLine)) → IsBefore k a other →
    x.next ≤ a → x.out ≤ a → Before k a (branched (body (block_exits other x)) other)
branched_fits k a x body h None f next out = λ b.
    let lt : length (body x) < count (body x) (suc a) = omega (arith, is_count (body x) (suc a)) in
    (lt, h x a next out (suc b))
branched_fits k a x body h (Some other) f next out =
    let to_next : suc (length other) + x.next ≤ suc (count other a) = omega (arith, next, is_count other a) in
    let to_out : suc (length other) + x.out ≤ suc (count other a) = omega (arith, out, is_count other a) in
    over_fits k a (body (further (suc (length other)) x)) other (h (further (suc (length other)) x) (suc (count other a)) to_next to_out) f

condition_fits : (s : Source) (slots : List ℕ) (e : Option ExprTree) (n a : ℕ) → n ≤ a → Before (length slots) a (loop_condition s slots e n)
condition_fits s slots None n a le = λ b. tt
condition_fits s slots (Some e) n a le =
    let lt : n < suc a = omega arith in
    stays_before (length slots) a (value_lines s slots e) (JumpUnless n ∷ []) (expr_sound s slots e).0 (λ b. (lt, tt))

turned_fits : (k a : ℕ) (lines : List CodeLine) → Before k (suc a) lines → Before k a (with_jump_back lines)
turned_fits k a lines f = λ b.
    let back : suc (length lines) ≤ suc (after lines b) = omega (arith, is_after lines b) in
    joined k b (suc a) lines (JumpBack (suc (length lines)) ∷ []) (f b) (back, tt)

loop_fits : (s : Source) (slots : List ℕ) (e : Option ExprTree) (body post : List CodeLine) (a : ℕ) → Before (length slots) (count post (suc a)) body →
    Stays (length slots) post →
    Before (length slots) a (loop_lines s slots e body post)
loop_fits s slots e body post a f g =
    let le : suc (length (body ++ post)) ≤ count (body ++ post) (suc a) = omega (arith, is_count (body ++ post) (suc a)) in
    turned_fits (length slots) a (loop_condition s slots e (suc (length (body ++ post))) ++ (body ++ post))
    (before_joined (length slots) (suc a) (loop_condition s slots e (suc (length (body ++ post)))) (body ++ post)
    (condition_fits s slots e (suc (length (body ++ post))) (count (body ++ post) (suc a)) le)
    (before_joined (length slots) (suc a) body post f (g (suc a))))

post_stays : (s : Source) (slots : List ℕ) (h : ForTree) → Stays (length slots) (for_post s slots h)
post_stays s slots forever = none_stays (length slots)
post_stays s slots (while e) = none_stays (length slots)
post_stays s slots (clauses init p condition q post) = optional_stays s slots post

first_stays : (s : Source) (slots : List ℕ) (h : ForTree) → Stays (length slots) (for_init s slots h)
first_stays s slots forever = none_stays (length slots)
first_stays s slots (while e) = none_stays (length slots)
first_stays s slots (clauses init p condition q post) = optional_stays s slots init

-- Statements and blocks: where `continue` and `break` lead lies within the lines behind

mutual
  unfolding statement_lines block_lines statements_lines if_lines else_lines

  statement_fits : (s : Source) (slots : List ℕ) (r : ℕ) (x : Exits) (t : StatementTree) (a : ℕ) → x.next ≤ a → x.out ≤ a →
      Before (length slots) a (statement_lines s slots r x t)
  statement_fits s slots r x Empty a next out = λ b. tt
  statement_fits s slots r x (Var p g) a next out = each_stays (length slots) (local_lines s slots) (local_stays s slots) (group_items g) a
  statement_fits s slots r x (Simple t) a next out = simple_stays s slots t a
  statement_fits s slots r x (Inner t) a next out = block_fits s slots r x t a next out
  statement_fits s slots r x (If t) a next out = if_fits s slots r x t a next out
  statement_fits s slots r x (For p h t) a next out =
      let to_next : 0 ≤ count (for_post s slots h) (suc a) = omega arith in
      let to_out : suc (length (for_post s slots h)) ≤ count (for_post s slots h) (suc a) = omega (arith, is_count (for_post s slots h) (suc a)) in
      stays_before (length slots) a (for_init s slots h)
      (loop_lines s slots (for_condition h) (block_lines s slots r (body_exits (for_post s slots h)) t) (for_post s slots h)) (first_stays s slots h)
      (loop_fits s slots (for_condition h) (block_lines s slots r (body_exits (for_post s slots h)) t) (for_post s slots h) a
      (block_fits s slots r (body_exits (for_post s slots h)) t (count (for_post s slots h) (suc a)) to_next to_out) (post_stays s slots h))
  statement_fits s slots r x (Break p) a next out = jump_fits (length slots) x.out a out
  statement_fits s slots r x (Continue p) a next out = jump_fits (length slots) x.next a next
  statement_fits s slots r x (Return p es) a next out =
      stays_joined (length slots) (lines_of_values s slots es) (line.Return r ∷ []) (values_stay s slots es) (λ c b. (tt, tt)) a

  block_fits : (s : Source) (slots : List ℕ) (r : ℕ) (x : Exits) (t : BlockTree) (a : ℕ) → x.next ≤ a → x.out ≤ a →
      Before (length slots) a (block_lines s slots r x t)
  block_fits s slots r x (block o ts c) a next out = statements_fit s slots r x ts a next out

  statements_fit : (s : Source) (slots : List ℕ) (r : ℕ) (x : Exits) (ts : StatementTrees) (a : ℕ) → x.next ≤ a → x.out ≤ a →
      Before (length slots) a (statements_lines s slots r x ts)
  statements_fit s slots r x no_statement a next out = λ b. tt
  statements_fit s slots r x (statement t p ts) a next out =
      let to_next : length (statements_lines s slots r x ts) + x.next ≤ count (statements_lines s slots r x ts) a =
      omega (arith, next, is_count (statements_lines s slots r x ts) a) in
      let to_out : length (statements_lines s slots r x ts) + x.out ≤ count (statements_lines s slots r x ts) a =
      omega (arith, out, is_count (statements_lines s slots r x ts) a) in
      before_joined (length slots) a (statement_lines s slots r (further (length (statements_lines s slots r x ts)) x) t) (statements_lines s slots r x ts)
      (statement_fits s slots r (further (length (statements_lines s slots r x ts)) x) t (count (statements_lines s slots r x ts) a) to_next to_out)
      (statements_fit s slots r x ts a next out)

  if_fits : (s : Source) (slots : List ℕ) (r : ℕ) (x : Exits) (t : IfTree) (a : ℕ) → x.next ≤ a → x.out ≤ a → Before (length slots) a (if_lines s slots r x t)
  if_fits s slots r x (if_tree p init e t otherwise) a next out =
      stays_before (length slots) a (init_lines s slots init)
      (value_lines s slots e ++ branched (block_lines s slots r (block_exits (else_lines s slots r x otherwise) x) t)
      (else_lines s slots r x otherwise)) (init_stays s slots init)
      (stays_before (length slots) a (value_lines s slots e)
      (branched (block_lines s slots r (block_exits (else_lines s slots r x otherwise) x) t) (else_lines s slots r x otherwise)) (expr_sound s slots e).0
      (branched_fits (length slots) a x (λ y. block_lines s slots r y t) (λ y c to_next to_out. block_fits s slots r y t c to_next to_out)
      (else_lines s slots r x otherwise) (else_fits s slots r x otherwise a next out) next out))

  else_fits : (s : Source) (slots : List ℕ) (r : ℕ) (x : Exits) (t : ElseTree) (a : ℕ) → x.next ≤ a → x.out ≤ a →
      IsBefore (length slots) a (else_lines s slots r x t)
  else_fits s slots r x no_else a next out = tt
  else_fits s slots r x (else_if p t) a next out = if_fits s slots r x t a next out
  else_fits s slots r x (else_block p t) a next out = block_fits s slots r x t a next out

-- Functions

body_fits : (s : Source) (slots : List ℕ) (r : ℕ) (t : BlockTree) → Within (length slots) 0 (body_lines s slots r t) 0
body_fits s slots r t =
    let le : 0 ≤ 0 = omega arith in
    joined (length slots) 0 0 (block_lines s slots r no_exits t) (End ∷ []) (block_fits s slots r no_exits t 0 le le 0) (tt, tt)

pub function_fits : (s : Source) (f : FuncTree) (name : FunctionName) → HasFittingCode (function_of s f name)
function_fits s f name = λ before behind l e.
    fits_at (length (slots_of s.world f)) before behind l
    (subst (λ lines. Within (length (slots_of s.world f)) 0 lines 0) e (body_fits s (slots_of s.world f) (length (result_types f.result)) f.body))
