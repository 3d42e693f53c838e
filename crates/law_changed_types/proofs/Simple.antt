-- What is found of a simple statement, of a condition and of a declaration of locals has the new numbers.
use Rattle.std.proofs.Common.{ℕ, ◌≡◌, Bool, true, false, ◌||◌, if◌then◌else◌, List, [], ◌∷◌}
use Rattle.std.proofs.Common.{◌++◌, map, Option, Some, None, option_map, refl, sym, ap, ◌∙◌, subst}
use Rattle.go_ast.specs.declared.syntax.BinaryOp.{BinaryOp}
use Rattle.go_ast.specs.Tree.{Item, IdentTree, TypeTree, ExprTree, Paren, Chain, LinkTrees, no_link, selector, index, call}
use Rattle.go_ast.specs.Tree.{SimpleTree, Alone, Step, Update, Assign, Define, LocalTree}
use Rattle.types_expr.specs.Places.{first_token, place_of}
use Rattle.types_expr.specs.Types.{PlainType, ValueKind, Meaning, Value, TypeName, Function, BuiltinName, Package, Results, Broken}
use Rattle.types_expr.specs.World.{Locals}
use Rattle.types_expr.specs.Operations.{fits, joined, class_of, is_int, is_bool, operate}
use Rattle.types_expr.specs.Judge.{Judged, JudgedList, TypeJudged, value_kind, judge, judge_value, judge_type}
use Rattle.types_stmt.specs.Checked.{FoundSoFar}
use Rattle.types_stmt.specs.Sides.{Target, Wants, Takes, judge_operand, rhs, assigned, defined, defined_names, all_named, with_locals, with_inferred}
use Rattle.types_stmt.specs.Sides.{first_of_exprs, first_of_idents}
use Rattle.types_stmt.specs.Simple.{condition_faults, check_condition, step_faults, check_step, binary_of, fault_if_none, update_faults, check_update, is_end}
use Rattle.types_stmt.specs.Simple.{ends_in_call, without_last, without_parentheses, may_be_statement, is_statement, statement_faults}
use Rattle.types_stmt.specs.Simple.{check_expr_statement, check_assign}
use Rattle.types_stmt.specs.Simple.{check_define, check_simple, check_optional_simple, check_optional_condition, written_targets, name_targets, written_locals}
use Rattle.types_stmt.specs.Simple.{check_typed_local, check_untyped_local, check_local_of, check_local}
use Rattle.law_rename.specs.Renumbered.{items_by, ident_by, type_by, expr_by, exprs_by, links_by, arguments_by, simple_by, values_by, local_by, item_by}
use Rattle.law_changed_types.specs.Renumbering.{AreRenumberedLocals, renumbered_noted, renumbered_uses, renumbered_found}
use Rattle.law_changed_types.proofs.Renumber.{Renumber, new, ap2, ap3, if_maps, two, three}
use Rattle.law_changed_types.proofs.Literals.{type_found, written_found}
use Rattle.law_changed_types.proofs.Places.{begins, reports, exprs_begin, idents_begin}
use Rattle.law_changed_types.proofs.Found.{Judging, found}
use Rattle.law_changed_types.proofs.Sides.{judged_value_found, rhs_found, operand_found, assigned_found, defined_found, defined_names_found}
use Rattle.law_changed_types.proofs.Sides.{new_names, all_named_found, with_locals_are, with_inferred_are}
use Rattle.law_changed_types.proofs.RenumberedTokensRules.{list_values}
use Rattle.law_changed_types.proofs.RenumberedTokensParts.{Same, judging, part, judged, given}
use Rattle.std.proofs.lemmas.List.{length-map}

-- faults at new tokens

condition_fault : (m : Renumber) (place : ℕ) (k : Option ValueKind) → condition_faults (new m) (m.to place) k ≡ map m.to (condition_faults m.old place k)
unfolding condition_faults class_of
condition_fault m place None = refl
condition_fault m place (Some k) = if_maps (map m.to) (is_bool (class_of m.old k)) [] (place ∷ [])

step_fault : (m : Renumber) (place : ℕ) (k : Option ValueKind) → step_faults (new m) (m.to place) k ≡ map m.to (step_faults m.old place k)
unfolding step_faults class_of
step_fault m place None = refl
step_fault m place (Some k) = if_maps (map m.to) (is_int (class_of m.old k)) [] (place ∷ [])

some_kind : (m : Renumber) (k : Option ValueKind) (start : ℕ) → fault_if_none k (m.to start) ≡ map m.to (fault_if_none k start)
some_kind m None start = refl
some_kind m (Some k) start = refl

update_fault : (m : Renumber) (start : ℕ) (o : BinaryOp) (a b : Option ValueKind) →
    update_faults (new m) (m.to start) o a b ≡ map m.to (update_faults m.old start o a b)
unfolding update_faults operate joined class_of fits
update_fault m start o (Some a) (Some b) = some_kind m (operate m.old o a b) start
update_fault m start o (Some a) None = refl
update_fault m start o None b = refl

statement_fault : (m : Renumber) (place : ℕ) (b : Bool) (x : Meaning) → statement_faults (m.to place) b x ≡ map m.to (statement_faults place b x)
unfolding statement_faults
statement_fault m place true x = refl
statement_fault m place false (Value k a) = refl
statement_fault m place false (TypeName t) = refl
statement_fault m place false (Function s) = refl
statement_fault m place false (BuiltinName b) = refl
statement_fault m place false Package = refl
statement_fault m place false (Results ts) = refl
statement_fault m place false Broken = refl

-- expression statements: the chain without its last link is judged again

end_stays : (m : Renumber) (ls : LinkTrees) → is_end (links_by m.to ls) ≡ is_end ls
unfolding expr_by
end_stays m no_link = refl
end_stays m (selector d n rest) = refl
end_stays m (index o e c rest) = refl
end_stays m (call o xs c rest) = refl

call_stays : (m : Renumber) (ls : LinkTrees) → ends_in_call (links_by m.to ls) ≡ ends_in_call ls
unfolding ends_in_call expr_by
call_stays m no_link = refl
call_stays m (selector d n rest) = call_stays m rest
call_stays m (index o e c rest) = call_stays m rest
call_stays m (call o xs c rest) = ap2 (λ x y. x || y) (end_stays m rest) (call_stays m rest)

shorter : (m : Renumber) (ls : LinkTrees) → without_last (links_by m.to ls) ≡ links_by m.to (without_last ls)
unfolding without_last expr_by
shorter m no_link = refl
shorter m (selector d n rest) =
    ap2 (λ (b : Bool) (z : LinkTrees). if b then no_link else selector (m.to d) (m.to n) z) (end_stays m rest) (shorter m rest)
    ∙ if_maps (links_by m.to) (is_end rest) no_link (selector d n (without_last rest))
shorter m (index o e c rest) =
    ap2 (λ (b : Bool) (z : LinkTrees). if b then no_link else index (m.to o) (expr_by m.to e) (m.to c) z) (end_stays m rest) (shorter m rest)
    ∙ if_maps (links_by m.to) (is_end rest) no_link (index o e c (without_last rest))
shorter m (call o xs c rest) =
    ap2 (λ (b : Bool) (z : LinkTrees). if b then no_link else call (m.to o) (arguments_by m.to xs) (m.to c) z) (end_stays m rest) (shorter m rest)
    ∙ if_maps (links_by m.to) (is_end rest) no_link (call o xs c (without_last rest))

statement_stays : (c : Judging) (e : ExprTree) → is_statement (new c.by) c.later (expr_by c.by.to e) ≡ is_statement c.by.old c.locals e
unfolding is_statement expr_by
statement_stays c (Chain e links) =
    ap2 (λ (b : Bool) (z : Meaning). if b then may_be_statement z else false) (call_stays c.by links)
    (ap (λ (z : LinkTrees). (judge (new c.by) c.later (Chain (expr_by c.by.to e) z)).meaning) (shorter c.by links)
    ∙ ap (λ (z : Judged). z.meaning) (found c (Chain e (without_last links))))
statement_stays c e = refl

-- simple statements

pub condition : (m : Renumber) (s z : FoundSoFar) → Same m s z → (e : ExprTree) →
    Same m (check_condition m.old s e) (check_condition (new m) z (expr_by m.to e))
unfolding check_condition
condition m s z r e =
    let j = judge_value m.old s.locals e in
    let is = judged_value_found (judging m s z r) e in
    judged m s z r j _ is (condition_faults m.old (place_of e) (value_kind j.meaning)) _
    (ap2 (λ (place : ℕ) (x : Judged). condition_faults (new m) place (value_kind x.meaning)) (reports m e) is
    ∙ condition_fault m (place_of e) (value_kind j.meaning))

step : (m : Renumber) (s z : FoundSoFar) → Same m s z → (e : ExprTree) → Same m (check_step m.old s e) (check_step (new m) z (expr_by m.to e))
unfolding check_step
step m s z r e =
    let j = judge_operand m.old s.locals e in
    let is = operand_found (judging m s z r) e in
    judged m s z r j _ is (step_faults m.old (place_of e) (value_kind j.meaning)) _
    (ap2 (λ (place : ℕ) (x : Judged). step_faults (new m) place (value_kind x.meaning)) (reports m e) is
    ∙ step_fault m (place_of e) (value_kind j.meaning))

update : (m : Renumber) (s z : FoundSoFar) → Same m s z → (o : BinaryOp) (x y : ExprTree) →
    Same m (check_update m.old s o x y) (check_update (new m) z o (expr_by m.to x) (expr_by m.to y))
unfolding check_update
update m s z r o x y =
    let i = judge_operand m.old s.locals x in
    let j = judge_value m.old s.locals y in
    let first = operand_found (judging m s z r) x in
    let second = judged_value_found (judging m s z r) y in
    let bad = update_faults m.old (first_token x) o (value_kind i.meaning) (value_kind j.meaning) in
    part m s z r s.locals z.locals r.locals (i.faults ++ (j.faults ++ bad)) _
    (ap3 (λ (start : ℕ) (a b : Judged). a.faults ++ (b.faults ++ update_faults (new m) start o (value_kind a.meaning) (value_kind b.meaning)))
    (begins m x) first second
    ∙ (ap (λ (fs : List ℕ). map m.to i.faults ++ (map m.to j.faults ++ fs)) (update_fault m (first_token x) o (value_kind i.meaning) (value_kind j.meaning))
    ∙ three m.to i.faults j.faults bad)) (i.uses ++ j.uses) _
    (ap2 (λ (a b : Judged). a.uses ++ b.uses) first second ∙ two (renumbered_noted m.to) i.uses j.uses)

parentheses_stay : (m : Renumber) (e : ExprTree) → without_parentheses (expr_by m.to e) ≡ expr_by m.to (without_parentheses e)
unfolding without_parentheses expr_by
parentheses_stay m (Paren o e c) = parentheses_stay m e
parentheses_stay m e = refl

found_inside : (c : Judging) (e : ExprTree) →
    judge (new c.by) c.later (without_parentheses (expr_by c.by.to e)) ≡ renumbered_found c.by.to (judge c.by.old c.locals (without_parentheses e))
found_inside c e = ap (judge (new c.by) c.later) (parentheses_stay c.by e) ∙ found c (without_parentheses e)

alone : (m : Renumber) (s z : FoundSoFar) → Same m s z → (e : ExprTree) →
    Same m (check_expr_statement m.old s e) (check_expr_statement (new m) z (expr_by m.to e))
unfolding check_expr_statement
alone m s z r e =
    let c = judging m s z r in
    let j = judge m.old s.locals (without_parentheses e) in
    judged m s z r j _ (found_inside c e) (statement_faults (place_of e) (is_statement m.old s.locals e) j.meaning) _
    (ap3 (λ (place : ℕ) (b : Bool) (x : Judged). statement_faults place b x.meaning) (reports m e) (statement_stays c e) (found_inside c e)
    ∙ statement_fault m (place_of e) (is_statement m.old s.locals e) j.meaning)

assign : (m : Renumber) (s z : FoundSoFar) → Same m s z → (xs ys : List (Item ExprTree)) →
    Same m (check_assign m.old s xs ys) (check_assign (new m) z (exprs_by m.to xs) (exprs_by m.to ys))
unfolding check_assign
assign m s z r xs ys =
    let c = judging m s z r in
    given m s z r (first_of_exprs xs) _ (exprs_begin m xs) ys _ (length-map ys (item_by m.to (expr_by m.to))) s.locals z.locals r.locals
    (assigned m.old s.locals xs) _ (assigned_found c xs)
    (rhs m.old s.locals ys) _ (rhs_found c ys)

-- locals that take types from values
inferred_are : (m : Renumber) (ls later : Locals) → AreRenumberedLocals m.to ls later → (ns xs : List (Option ℕ)) → xs ≡ new_names m ns →
    (v q : JudgedList) → q ≡ record { values = list_values m v.values; faults = map m.to v.faults; uses = renumbered_uses m.to v.uses } →
    AreRenumberedLocals m.to (with_inferred ls ns v.values) (with_inferred later xs q.values)
inferred_are m ls later l ns xs e v q f = λ token.
    ap2 (λ (x : List (Option ℕ)) (y : JudgedList). with_inferred later x y.values (m.to token)) e f
    ∙ with_inferred_are m ls later ns v.values l token

define : (m : Renumber) (s z : FoundSoFar) → Same m s z → (xs ys : List (Item ExprTree)) →
    Same m (check_define m.old s xs ys) (check_define (new m) z (exprs_by m.to xs) (exprs_by m.to ys))
unfolding check_define
define m s z r xs ys =
    let c = judging m s z r in
    let v = rhs m.old s.locals ys in
    given m s z r (first_of_exprs xs) _ (exprs_begin m xs) ys _ (length-map ys (item_by m.to (expr_by m.to))) (with_inferred s.locals
    (defined_names m.old xs) v.values) _
    (inferred_are m s.locals z.locals r.locals (defined_names m.old xs) _ (defined_names_found m xs) v _ (rhs_found c ys))
    (defined m.old s.locals xs) _ (defined_found c xs) v _ (rhs_found c ys)

pub simple : (m : Renumber) (s z : FoundSoFar) → Same m s z → (a : SimpleTree) → Same m (check_simple m.old s a) (check_simple (new m) z (simple_by m.to a))
unfolding check_simple
simple m s z r (Alone e) = alone m s z r e
simple m s z r (Step e o p) = step m s z r e
simple m s z r (Update x o p y) = update m s z r (binary_of o) x y
simple m s z r (Assign xs p ys) = assign m s z r xs ys
simple m s z r (Define xs p ys) = define m s z r xs ys

pub optional_simple : (m : Renumber) (s z : FoundSoFar) → Same m s z → (a : Option SimpleTree) →
    Same m (check_optional_simple m.old s a) (check_optional_simple (new m) z (option_map (simple_by m.to) a))
optional_simple m s z r None = r
optional_simple m s z r (Some a) = simple m s z r a

pub optional_condition : (m : Renumber) (s z : FoundSoFar) → Same m s z → (e : Option ExprTree) →
    Same m (check_optional_condition m.old s e) (check_optional_condition (new m) z (option_map (expr_by m.to) e))
optional_condition m s z r None = r
optional_condition m s z r (Some e) = condition m s z r e

-- declarations of locals

-- a list of one value for each item
pub constant : {X A : Type 0} (m : Renumber) (h : X → X) (a : A) (is : List (Item X)) → map (λ i. a) (items_by m.to h is) ≡ map (λ i. a) is
constant m h a [] = refl
constant m h a (i ∷ is) = ap (λ z. a ∷ z) (constant m h a is)

pub written_locals_are : (m : Renumber) (ls later : Locals) → AreRenumberedLocals m.to ls later → (names : List (Item IdentTree)) (t : Option PlainType) →
    AreRenumberedLocals m.to (written_locals ls names t) (written_locals later (items_by m.to (ident_by m.to) names) t)
written_locals_are m ls later l names t = λ token.
    ap2 (λ (ns : List (Option ℕ)) (ts : List (Option PlainType)). with_locals later ns ts (m.to token)) (all_named_found m names)
    (constant m (ident_by m.to) t names)
    ∙ with_locals_are m ls later (all_named names) (map (λ i. t) names) l token

typed_local : (m : Renumber) (s z : FoundSoFar) → Same m s z → (names : List (Item IdentTree)) (t : TypeJudged) (values : Option (ℕ × List (Item ExprTree))) →
    Same m (check_typed_local m.old s names t values)
    (check_typed_local (new m) z (items_by m.to (ident_by m.to) names) (type_found m t) (option_map (values_by m.to (expr_by m.to)) values))
unfolding check_typed_local
typed_local m s z r names t None =
    part m s z r (written_locals s.locals names t.type_of) _ (written_locals_are m s.locals z.locals r.locals names t.type_of) t.faults _ refl [] _ refl
typed_local m s z r names t (Some x) =
    given m s z r (first_of_idents names) _ (idents_begin m names) x.1 _ (length-map x.1 (item_by m.to (expr_by m.to)))
    (written_locals s.locals names t.type_of) _
    (written_locals_are m s.locals z.locals r.locals names t.type_of) (written_targets names t) _
    (ap (λ (ts : List Target). record { targets = ts; faults = map m.to t.faults; uses = [] }) (constant m (ident_by m.to) (Wants t.type_of) names))
    (rhs m.old s.locals x.1) _ (rhs_found (judging m s z r) x.1)

untyped_local : (m : Renumber) (s z : FoundSoFar) → Same m s z → (names : List (Item IdentTree)) (values : Option (ℕ × List (Item ExprTree))) →
    Same m (check_untyped_local m.old s names values)
    (check_untyped_local (new m) z (items_by m.to (ident_by m.to) names) (option_map (values_by m.to (expr_by m.to)) values))
unfolding check_untyped_local
untyped_local m s z r names None =
    part m s z r (with_locals s.locals (all_named names) []) _ (λ token.
    ap (λ (ns : List (Option ℕ)). with_locals z.locals ns [] (m.to token)) (all_named_found m names)
    ∙ with_locals_are m s.locals z.locals (all_named names) [] r.locals token) [] _ refl [] _ refl
untyped_local m s z r names (Some x) =
    let v = rhs m.old s.locals x.1 in
    let same = rhs_found (judging m s z r) x.1 in
    given m s z r (first_of_idents names) _ (idents_begin m names) x.1 _ (length-map x.1 (item_by m.to (expr_by m.to))) (with_inferred s.locals
    (all_named names) v.values) _
    (inferred_are m s.locals z.locals r.locals (all_named names) _ (all_named_found m names) v _ same) (name_targets names Takes) _
    (ap (λ (ts : List Target). record { targets = ts; faults = []; uses = [] }) (constant m (ident_by m.to) Takes names)) v _ same

local_of : (m : Renumber) (s z : FoundSoFar) → Same m s z → (names : List (Item IdentTree)) (t : Option TypeTree) (values : Option (ℕ × List (Item ExprTree))) →
    Same m (check_local_of m.old s names t values)
    (check_local_of (new m) z (items_by m.to (ident_by m.to) names) (option_map (type_by m.to) t) (option_map (values_by m.to (expr_by m.to)) values))
local_of m s z r names (Some t) values =
    let ns = items_by m.to (ident_by m.to) names in
    let vs = option_map (values_by m.to (expr_by m.to)) values in
    subst (λ (x : TypeJudged). Same m (check_typed_local m.old s names (judge_type m.old t) values) (check_typed_local (new m) z ns x vs))
    (sym (written_found m t)) (typed_local m s z r names (judge_type m.old t) values)
local_of m s z r names None values = untyped_local m s z r names values

pub local : (m : Renumber) (s z : FoundSoFar) → Same m s z → (l : LocalTree) → Same m (check_local m.old s l) (check_local (new m) z (local_by m.to l))
unfolding check_local
local m s z r l = local_of m s z r l.names l.type_use l.values
