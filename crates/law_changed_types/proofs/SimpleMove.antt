-- What is found of a simple statement, of a condition and of a declaration of locals moves.
use Rattle.std.proofs.Common.{ℕ, ◌≡◌, Bool, true, false, if◌then◌else◌, List, [], ◌∷◌, ◌++◌, map, Option, Some, None, option_map, refl, ap, ◌∙◌}
use Rattle.go_ast.specs.declared.syntax.BinaryOp.{BinaryOp}
use Rattle.go_ast.specs.Tree.{Item, IdentTree, TypeTree, ExprTree, Chain, LinkTrees, no_link, selector, index, call}
use Rattle.go_ast.specs.Tree.{SimpleTree, Alone, Step, Update, Assign, Define, LocalTree}
use Rattle.types_expr.specs.Places.{first_token, place_of}
use Rattle.types_expr.specs.Types.{PlainType, ValueKind, Meaning, Value, TypeName, Function, BuiltinName, Package, Results, Broken}
use Rattle.types_expr.specs.World.{World, Locals}
use Rattle.types_expr.specs.Operations.{is_int, is_bool, operate}
use Rattle.types_expr.specs.Judge.{Judged, JudgedList, TypeJudged, followed, select, index_rule, call_rule, value_at, value_kind, judge, judge_links}
use Rattle.types_expr.specs.Judge.{judge_arguments, judge_value, judge_type, Noted}
use Rattle.types_stmt.specs.Checked.{FoundSoFar, with_found}
use Rattle.types_stmt.specs.Sides.{Target, Wants, Takes, judge_operand, rhs, assigned, defined, defined_names, all_named, with_locals, with_inferred}
use Rattle.types_stmt.specs.Sides.{first_of_exprs, first_of_idents}
use Rattle.types_stmt.specs.Simple.{condition_faults, check_condition, step_faults, check_step, binary_of, fault_if_none, update_faults, check_update, is_end}
use Rattle.types_stmt.specs.Simple.{ends_in_call, without_last, without_parentheses, may_be_statement, is_statement, statement_faults}
use Rattle.types_stmt.specs.Simple.{check_expr_statement, check_assign}
use Rattle.types_stmt.specs.Simple.{check_define, check_simple, check_optional_simple, check_optional_condition, written_targets, name_targets, written_locals}
use Rattle.types_stmt.specs.Simple.{check_typed_local, check_untyped_local, check_local_of, check_local}
use Rattle.law_changed_types.proofs.ExpressionUses.{links_keep}
use Rattle.law_changed_types.specs.Moved.{moved_type, moved_kind, moved_meaning, moved_locals, moved_found, moved_target, moved_checked}
use Rattle.law_changed_types.proofs.Moving.{Move, Moves, of_part, of_first, of_second, ap2}
use Rattle.law_changed_types.proofs.OperationsMove.{class_stays, operate_moves}
use Rattle.law_changed_types.proofs.RulesMove.{moved_values, three_uses, value_kind_moves}
use Rattle.law_changed_types.proofs.LiteralsMove.{moved_written, type_moves}
use Rattle.law_changed_types.proofs.FoundMove.{found_moves, selector_moves, index_moves, call_moves, arguments_move}
use Rattle.law_changed_types.proofs.SidesMove.{moved_lefts, judged_value_moves, rhs_moves, operand_moves, assigned_moves, defined_moves}
use Rattle.law_changed_types.proofs.SidesMove.{defined_names_stay, with_locals_moves, with_inferred_moves}
use Rattle.law_changed_types.proofs.PartsMove.{IsMoved, unchecked, same_as, part, judged, given, declared_after}

-- faults that stay

condition_stays : (m : Move) (place : ℕ) (k : Option ValueKind) → condition_faults m.new place (option_map (moved_kind m.path) k) ≡ condition_faults m.old
    place k
unfolding condition_faults
condition_stays m place None = refl
condition_stays m place (Some k) = ap (λ z. if is_bool z then [] else place ∷ []) (class_stays m k)

step_stays : (m : Move) (place : ℕ) (k : Option ValueKind) → step_faults m.new place (option_map (moved_kind m.path) k) ≡ step_faults m.old place k
unfolding step_faults
step_stays m place None = refl
step_stays m place (Some k) = ap (λ z. if is_int z then [] else place ∷ []) (class_stays m k)

some_kind : (m : Move) (k : Option ValueKind) (start : ℕ) → fault_if_none (option_map (moved_kind m.path) k) start ≡ fault_if_none k start
some_kind m None start = refl
some_kind m (Some k) start = refl

update_stays : (m : Move) (start : ℕ) (o : BinaryOp) (a b : Option ValueKind) →
    update_faults m.new start o (option_map (moved_kind m.path) a) (option_map (moved_kind m.path) b) ≡ update_faults m.old start o a b
unfolding update_faults
update_stays m start o (Some a) (Some b) = ap (λ z. fault_if_none z start) (operate_moves m o a b) ∙ some_kind m (operate m.old o a b) start
update_stays m start o (Some a) None = refl
update_stays m start o None b = refl

may_be_stays : (m : Move) (x : Meaning) → may_be_statement (moved_meaning m.path x) ≡ may_be_statement x
unfolding may_be_statement
may_be_stays m (Value k a) = refl
may_be_stays m (TypeName t) = refl
may_be_stays m (Function s) = refl
may_be_stays m (BuiltinName b) = refl
may_be_stays m Package = refl
may_be_stays m (Results ts) = refl
may_be_stays m Broken = refl

statement_faults_stay : (m : Move) (place : ℕ) (b : Bool) (x : Meaning) → statement_faults place b (moved_meaning m.path x) ≡ statement_faults place b x
unfolding statement_faults
statement_faults_stay m place true x = refl
statement_faults_stay m place false (Value k a) = refl
statement_faults_stay m place false (TypeName t) = refl
statement_faults_stay m place false (Function s) = refl
statement_faults_stay m place false (BuiltinName b) = refl
statement_faults_stay m place false Package = refl
statement_faults_stay m place false (Results ts) = refl
statement_faults_stay m place false Broken = refl

-- expression statements: the chain without its last link is judged again, and its uses are among those of the chain

links_or_none : (m : Move) (locals : Locals) (start place : ℕ) (j : Judged) (test : Bool) (links : LinkTrees) →
    judge_links m.new (moved_locals m.path locals) start place (moved_found m.path j) links ≡
    moved_found m.path (judge_links m.old locals start place j links) →
    judge_links m.new (moved_locals m.path locals) start place (moved_found m.path j) (if test then no_link else links) ≡
    moved_found m.path (judge_links m.old locals start place j (if test then no_link else links))
unfolding judge
links_or_none m locals start place j true links e = refl
links_or_none m locals start place j false links e = e

shorter_moves : (m : Move) (locals : Locals) (links : LinkTrees) (start place : ℕ) (j : Judged) →
    Moves m (judge_links m.old locals start place j links).uses →
    judge_links m.new (moved_locals m.path locals) start place (moved_found m.path j) (without_last links) ≡
    moved_found m.path (judge_links m.old locals start place j (without_last links))
unfolding judge without_last
shorter_moves m locals no_link start place j h = refl
shorter_moves m locals (selector d n rest) start place j h =
    let k = followed j (select m.old locals place n) in
    links_or_none m locals start place j (is_end rest) (selector d n (without_last rest))
    (ap (λ (z : Judged). judge_links m.new (moved_locals m.path locals) start n z (without_last rest))
    (selector_moves m locals place n j (of_part k.uses (links_keep m.old locals rest start n k) h))
    ∙ shorter_moves m locals rest start n k h)
shorter_moves m locals (index o e c rest) start place j h =
    let i = value_at e (judge m.old locals e) in
    let k = followed j (index_rule m.old start place e i) in
    links_or_none m locals start place j (is_end rest) (index o e c (without_last rest))
    (ap (λ (z : Judged). judge_links m.new (moved_locals m.path locals) start start z (without_last rest))
    (index_moves m start place e i (value_at e (judge m.new (moved_locals m.path locals) e)) j (λ q. judged_value_moves m locals e q)
    (of_part k.uses (links_keep m.old locals rest start start k) h))
    ∙ shorter_moves m locals rest start start k h)
shorter_moves m locals (call o xs c rest) start place j h =
    let args = judge_arguments m.old locals xs in
    let k = followed j (call_rule m.old start place args) in
    links_or_none m locals start place j (is_end rest) (call o xs c (without_last rest))
    (ap (λ (z : Judged). judge_links m.new (moved_locals m.path locals) start start z (without_last rest))
    (call_moves m start place args (judge_arguments m.new (moved_locals m.path locals) xs) j (λ q. arguments_move m locals xs q)
    (of_part k.uses (links_keep m.old locals rest start start k) h))
    ∙ shorter_moves m locals rest start start k h)

statement_stays : (m : Move) (locals : Locals) (e : ExprTree) → Moves m (judge m.old locals (without_parentheses e)).uses →
    is_statement m.new (moved_locals m.path locals) e ≡ is_statement m.old locals e
unfolding is_statement without_parentheses judge
statement_stays m locals (Chain e links) h =
    let j = judge m.old locals e in
    let shorter = judge_links m.old locals (first_token e) (place_of e) j (without_last links) in
    ap (λ (z : Judged). if ends_in_call links then may_be_statement z.meaning else false)
    (ap (λ (z : Judged). judge_links m.new (moved_locals m.path locals) (first_token e) (place_of e) z (without_last links))
    (found_moves m locals e (of_part j.uses (links_keep m.old locals links (first_token e) (place_of e) j) h))
    ∙ shorter_moves m locals links (first_token e) (place_of e) j h)
    ∙ ap (λ (z : Bool). if ends_in_call links then z else false) (may_be_stays m shorter.meaning)
statement_stays m locals e h = refl

-- simple statements

pub condition : (m : Move) (s : FoundSoFar) (e : ExprTree) → IsMoved m s (check_condition m.old s e) (check_condition m.new (moved_checked m.path s) e)
unfolding check_condition
condition m s e =
    let j = judge_value m.old s.locals e in
    judged s j (judge_value m.new (moved_locals m.path s.locals) e) (λ (z : Judged). condition_faults m.old (place_of e) (value_kind z.meaning))
    (λ (z : Judged). condition_faults m.new (place_of e) (value_kind z.meaning)) (λ q. judged_value_moves m s.locals e q)
    (λ q. ap (condition_faults m.new (place_of e)) (value_kind_moves m j.meaning) ∙ condition_stays m (place_of e) (value_kind j.meaning))

step : (m : Move) (s : FoundSoFar) (e : ExprTree) → IsMoved m s (check_step m.old s e) (check_step m.new (moved_checked m.path s) e)
unfolding check_step
step m s e =
    let j = judge_operand m.old s.locals e in
    judged s j (judge_operand m.new (moved_locals m.path s.locals) e) (λ (z : Judged). step_faults m.old (place_of e) (value_kind z.meaning))
    (λ (z : Judged). step_faults m.new (place_of e) (value_kind z.meaning)) (λ q. operand_moves m s.locals e q)
    (λ q. ap (step_faults m.new (place_of e)) (value_kind_moves m j.meaning) ∙ step_stays m (place_of e) (value_kind j.meaning))

-- `x op= y`, where x and y are judged as i and j
updated : World → FoundSoFar → BinaryOp → (start : ℕ) → (i j : Judged) → FoundSoFar
updated w s o start i j =
    with_found s (i.faults ++ (j.faults ++ update_faults w start o (value_kind i.meaning) (value_kind j.meaning))) (i.uses ++ j.uses)

updated_moves : (m : Move) (s : FoundSoFar) (o : BinaryOp) (start : ℕ) (i j : Judged) →
    updated m.new (moved_checked m.path s) o start (moved_found m.path i) (moved_found m.path j) ≡ moved_checked m.path (updated m.old s o start i j)
unfolding updated
updated_moves m s o start i j =
    ap2 (λ (fs : List ℕ) (us : List Noted). record {
      locals = moved_locals m.path s.locals;
      faults = s.faults ++ (i.faults ++ (j.faults ++ fs));
      uses = us;
    }) (ap2 (update_faults m.new start o) (value_kind_moves m i.meaning) (value_kind_moves m j.meaning)
    ∙ update_stays m start o (value_kind i.meaning) (value_kind j.meaning)) (three_uses m s.uses i.uses j.uses)

update : (m : Move) (s : FoundSoFar) (o : BinaryOp) (x y : ExprTree) →
    IsMoved m s (check_update m.old s o x y) (check_update m.new (moved_checked m.path s) o x y)
unfolding check_update updated
update m s o x y =
    let i = judge_operand m.old s.locals x in
    let j = judge_value m.old s.locals y in
    part s s.locals (i.faults ++ (j.faults ++ update_faults m.old (first_token x) o (value_kind i.meaning) (value_kind j.meaning))) (i.uses ++ j.uses)
    (check_update m.new (moved_checked m.path s) o x y) (λ h.
    ap2 (updated m.new (moved_checked m.path s) o (first_token x)) (operand_moves m s.locals x (of_first i.uses j.uses h))
    (judged_value_moves m s.locals y (of_second i.uses j.uses h))
    ∙ updated_moves m s o (first_token x) i j)

alone : (m : Move) (s : FoundSoFar) (e : ExprTree) → IsMoved m s (check_expr_statement m.old s e) (check_expr_statement m.new (moved_checked m.path s) e)
unfolding check_expr_statement
alone m s e =
    let inner = without_parentheses e in
    let j = judge m.old s.locals inner in
    let new = moved_locals m.path s.locals in
    judged s j (judge m.new new inner) (λ (z : Judged). statement_faults (place_of e) (is_statement m.old s.locals e) z.meaning)
    (λ (z : Judged). statement_faults (place_of e) (is_statement m.new new e) z.meaning) (λ q. found_moves m s.locals inner q)
    (λ q. ap (λ (b : Bool). statement_faults (place_of e) b (moved_meaning m.path j.meaning)) (statement_stays m s.locals e q)
    ∙ statement_faults_stay m (place_of e) (is_statement m.old s.locals e) j.meaning)

assign : (m : Move) (s : FoundSoFar) (xs ys : List (Item ExprTree)) →
    IsMoved m s (check_assign m.old s xs ys) (check_assign m.new (moved_checked m.path s) xs ys)
unfolding check_assign
assign m s xs ys =
    let new = moved_locals m.path s.locals in
    given m s (first_of_exprs xs) ys (λ r. s.locals) (λ r. new) (assigned m.old s.locals xs) (assigned m.new new xs) (rhs m.old s.locals ys)
    (rhs m.new new ys) (λ q. assigned_moves m s.locals xs q) (λ q. rhs_moves m s.locals ys q) refl

define : (m : Move) (s : FoundSoFar) (xs ys : List (Item ExprTree)) →
    IsMoved m s (check_define m.old s xs ys) (check_define m.new (moved_checked m.path s) xs ys)
unfolding check_define
define m s xs ys =
    let new = moved_locals m.path s.locals in
    let r = rhs m.old s.locals ys in
    given m s (first_of_exprs xs) ys (λ (r : JudgedList). with_inferred s.locals (defined_names m.old xs) r.values)
    (λ (r : JudgedList). with_inferred new (defined_names m.new xs) r.values) (defined m.old s.locals xs) (defined m.new new xs) r (rhs m.new new ys)
    (λ q. defined_moves m s.locals xs q) (λ q. rhs_moves m s.locals ys q)
    (ap (λ (ns : List (Option ℕ)). with_inferred new ns (moved_values m r.values)) (defined_names_stay m xs)
    ∙ with_inferred_moves m s.locals (defined_names m.old xs) r.values)

pub simple : (m : Move) (s : FoundSoFar) (a : SimpleTree) → IsMoved m s (check_simple m.old s a) (check_simple m.new (moved_checked m.path s) a)
unfolding check_simple
simple m s (Alone e) = alone m s e
simple m s (Step e o p) = step m s e
simple m s (Update x o p y) = update m s (binary_of o) x y
simple m s (Assign xs p ys) = assign m s xs ys
simple m s (Define xs p ys) = define m s xs ys

pub optional_simple : (m : Move) (s : FoundSoFar) (a : Option SimpleTree) →
    IsMoved m s (check_optional_simple m.old s a) (check_optional_simple m.new (moved_checked m.path s) a)
optional_simple m s None = unchecked s
optional_simple m s (Some a) = simple m s a

pub optional_condition : (m : Move) (s : FoundSoFar) (e : Option ExprTree) →
    IsMoved m s (check_optional_condition m.old s e) (check_optional_condition m.new (moved_checked m.path s) e)
optional_condition m s None = unchecked s
optional_condition m s (Some e) = condition m s e

-- declarations of locals

-- a list of one value, moved
pub constant_moves : {X A : Type 0} (f : A → A) (x : A) (is : List X) → map (λ i. f x) is ≡ map f (map (λ i. x) is)
constant_moves f x [] = refl
constant_moves f x (i ∷ is) = ap (λ z. f x ∷ z) (constant_moves f x is)

pub written_locals_move : (m : Move) (ls : Locals) (names : List (Item IdentTree)) (t : Option PlainType) →
    written_locals (moved_locals m.path ls) names (option_map (moved_type m.path) t) ≡ moved_locals m.path (written_locals ls names t)
written_locals_move m ls names t =
    ap (with_locals (moved_locals m.path ls) (all_named names)) (constant_moves (option_map (moved_type m.path)) t names)
    ∙ with_locals_moves m ls (all_named names) (map (λ i. t) names)

written_targets_move : (m : Move) (names : List (Item IdentTree)) (t : TypeJudged) →
    written_targets names (moved_written m t) ≡ moved_lefts m (written_targets names t)
written_targets_move m names t =
    ap (λ (ts : List Target). record { targets = ts; faults = t.faults; uses = [] }) (constant_moves (moved_target m.path) (Wants t.type_of) names)

name_targets_move : (m : Move) (names : List (Item IdentTree)) → name_targets names Takes ≡ moved_lefts m (name_targets names Takes)
name_targets_move m names =
    ap (λ (ts : List Target). record { targets = ts; faults = []; uses = [] }) (constant_moves (moved_target m.path) Takes names)

typed_local : (m : Move) (s : FoundSoFar) (names : List (Item IdentTree)) (t : TypeJudged) (values : Option (ℕ × List (Item ExprTree))) →
    IsMoved m s (check_typed_local m.old s names t values) (check_typed_local m.new (moved_checked m.path s) names (moved_written m t) values)
unfolding check_typed_local
typed_local m s names t None =
    part s (written_locals s.locals names t.type_of) t.faults [] _
    (λ h. declared_after m s (written_locals s.locals names t.type_of) _ t.faults [] (written_locals_move m s.locals names t.type_of))
typed_local m s names t (Some x) =
    given m s (first_of_idents names) x.1 (λ r. written_locals s.locals names t.type_of)
    (λ r. written_locals (moved_locals m.path s.locals) names (option_map (moved_type m.path) t.type_of)) (written_targets names t)
    (written_targets names (moved_written m t)) (rhs m.old s.locals x.1) (rhs m.new (moved_locals m.path s.locals) x.1)
    (λ q. written_targets_move m names t) (λ q. rhs_moves m s.locals x.1 q) (written_locals_move m s.locals names t.type_of)

untyped_local : (m : Move) (s : FoundSoFar) (names : List (Item IdentTree)) (values : Option (ℕ × List (Item ExprTree))) →
    IsMoved m s (check_untyped_local m.old s names values) (check_untyped_local m.new (moved_checked m.path s) names values)
unfolding check_untyped_local
untyped_local m s names None =
    part s (with_locals s.locals (all_named names) []) [] [] _
    (λ h. declared_after m s (with_locals s.locals (all_named names) []) _ [] [] (with_locals_moves m s.locals (all_named names) []))
untyped_local m s names (Some x) =
    given m s (first_of_idents names) x.1 (λ (r : JudgedList). with_inferred s.locals (all_named names) r.values)
    (λ (r : JudgedList). with_inferred (moved_locals m.path s.locals) (all_named names) r.values) (name_targets names Takes)
    (name_targets names Takes) (rhs m.old s.locals x.1) (rhs m.new (moved_locals m.path s.locals) x.1) (λ q. name_targets_move m names)
    (λ q. rhs_moves m s.locals x.1 q) (with_inferred_moves m s.locals (all_named names) (rhs m.old s.locals x.1).values)

local_of : (m : Move) (s : FoundSoFar) (names : List (Item IdentTree)) (t : Option TypeTree) (values : Option (ℕ × List (Item ExprTree))) →
    IsMoved m s (check_local_of m.old s names t values) (check_local_of m.new (moved_checked m.path s) names t values)
local_of m s names (Some t) values =
    same_as (check_typed_local m.new (moved_checked m.path s) names (moved_written m (judge_type m.old t)) values) _
    (ap (λ (z : TypeJudged). check_typed_local m.new (moved_checked m.path s) names z values) (type_moves m t))
    (typed_local m s names (judge_type m.old t) values)
local_of m s names None values = untyped_local m s names values

pub local : (m : Move) (s : FoundSoFar) (l : LocalTree) → IsMoved m s (check_local m.old s l) (check_local m.new (moved_checked m.path s) l)
unfolding check_local
local m s l = local_of m s l.names l.type_use l.values
