-- Conditions and simple statements: a typed one has no fault, and one without a fault is typed or excused.
use Rattle.std.proofs.Common.{ℕ, ◌≡◌, Bool, true, false, if◌then◌else◌, ◌⊎◌, inl, inr, List, [], ◌∷◌, ◌++◌, map, Option, Some, None, refl, sym, ap, ◌∙◌, subst}
use Rattle.go_ast.specs.declared.syntax.BinaryOp.{BinaryOp}
use Rattle.go_ast.specs.declared.syntax.StepOp.{StepOp}
use Rattle.go_ast.specs.declared.syntax.UpdateOp.{UpdateOp}
use Rattle.go_ast.specs.Tree.{Item, ExprTree, LinkTrees, SimpleTree}
use Rattle.go_ast.specs.Tree as tree
use Rattle.types_expr.specs.declared.types.Basic.TheVariants as basic
use Rattle.types_expr.specs.Places.{place_of, first_token}
use Rattle.types_expr.specs.Types.{ValueKind, Typed, Untyped, Nil, Meaning, Value}
use Rattle.types_expr.specs.World.{World, Locals}
use Rattle.types_expr.specs.Operations.{operate, class_of, is_int, is_bool}
use Rattle.types_expr.specs.Judge.{JudgedList, ListValue, judge, judge_value, value_kind}
use Rattle.types_stmt.specs.Checked.{FoundSoFar}
use Rattle.types_stmt.specs.Sides.{rhs, Target, Lefts, judge_operand, assigned, defined, given_faults, given_enterings, defined_names, first_of_exprs}
use Rattle.types_stmt.specs.Sides.{with_inferred, receiving}
use Rattle.types_stmt.specs.Simple.{check_simple, check_expr_statement, check_step, check_update, check_assign, check_define, check_condition, condition_faults}
use Rattle.types_stmt.specs.Simple.{step_faults, update_faults, fault_if_none, statement_faults, is_statement, without_parentheses, binary_of, with_given}
use Rattle.law_typing.specs.Operators.{IsBasic, a_constant, a_nil, Operates}
use Rattle.law_typing.specs.Meanings.{HasMeaning}
use Rattle.law_typing.specs.BrokenUses.{UsesBroken, in_paren}
use Rattle.law_typing.proofs.Judgements.{empty_first, empty_second, empty_both, kind_known}
use Rattle.law_typing.proofs.Classes.{class_true, is_of_int, is_of_bool}
use Rattle.law_typing.proofs.Operating.{operates_true, true_operates}
use Rattle.law_typing.proofs.BrokenRules.{no_fault}
use Rattle.law_typing.proofs.Soundness.{sound}
use Rattle.law_typing.proofs.Completeness.{complete}
use Rattle.law_typing.proofs.FaultlessExpressions.{settle}
use Rattle.law_typing.proofs.Arguments.{AreOf}
use Rattle.law_typing.specs.Assignments.{Taker, TakenInTurn}
use Rattle.law_typing.specs.Simple.{ConditionIsTyped, a_condition, SimpleIsTyped, a_call, a_step, an_update, an_assignment, a_definition}
use Rattle.law_typing.specs.Excused.{SimpleIsExcused, in_call, in_step, in_updated, in_update, updated_without_type, in_assigned, in_assignment}
use Rattle.law_typing.specs.Excused.{in_defined, in_definition}
use Rattle.law_typing.proofs.Values.{value_true, value_settled, operand_true, operand_settled, AreGiven, rights_given, rights_settled}
use Rattle.law_typing.proofs.Assignments.{aim, given_silent, silent_given, declare_true, declare_found, taken_by, taken_as}
use Rattle.law_typing.proofs.Lefts.{AreLefts, assigned_true, assigned_settled, defined_true, defined_new, defined_settled}
use Rattle.law_typing.proofs.PartOutcomes.{IsAt, reached, IsSettled}
use Rattle.law_typing.proofs.StatementCalling.{statement_true, IsCallFound, true_statement, stands_silent, silent_stands, update_is, is_update, update_fits}

test_silent : (b : Bool) (place : ℕ) → (if b then [] else (place ∷ [])) ≡ [] → b ≡ true
test_silent true place h = refl
test_silent false place h = no_fault h

-- conditions

bool_silent : (w : World) (place : ℕ) {o : Option ValueKind} {k : ValueKind} → o ≡ Some k → IsBasic w k basic.Bool → condition_faults w place o ≡ []
unfolding condition_faults
bool_silent w place e i = ap (condition_faults w place) e ∙ ap (λ c. if is_bool c then [] else (place ∷ [])) (class_true w i)

silent_bool : (w : World) (place : ℕ) {o : Option ValueKind} {k : ValueKind} → o ≡ Some k → condition_faults w place o ≡ [] → IsBasic w k basic.Bool
unfolding condition_faults
silent_bool w place {k = k} e h = is_of_bool w k (test_silent (is_bool (class_of w k)) place (ap (condition_faults w place) (sym e) ∙ h))

pub condition_true : (w : World) (s : FoundSoFar) (e : ExprTree) (after : Locals) → s.faults ≡ [] → ConditionIsTyped w s.locals e after →
    IsAt (check_condition w s e) after
unfolding check_condition
condition_true w s e after h (a_condition c i) = let a = value_true w s.locals e c in
    let f = bool_silent w (place_of e) (kind_known a.meaning) i in
    reached s ((judge_value w s.locals e).faults ++ condition_faults w (place_of e) (value_kind (judge_value w s.locals e).meaning))
    (judge_value w s.locals e).uses h
    (empty_both (judge_value w s.locals e).faults (condition_faults w (place_of e) (value_kind (judge_value w s.locals e).meaning)) a.faultless f) refl

condition_parts : (w : World) (ls : Locals) (e : ExprTree) → ((judge_value w ls e).faults ++ condition_faults w (place_of e) (value_kind
    (judge_value w ls e).meaning)) ≡ [] → ConditionIsTyped w ls e ls ⊎ UsesBroken w ls e
condition_parts w ls e h = elim (value_settled w ls e (empty_first (judge_value w ls e).faults (condition_faults w (place_of e) (value_kind
    (judge_value w ls e).meaning)) h)) [
      | inl v ↦ inl (a_condition v.means (silent_bool w (place_of e) (kind_known v.found) (empty_second (judge_value w ls e).faults (condition_faults w
          (place_of e) (value_kind (judge_value w ls e).meaning)) h)))
      | inr u ↦ inr u
    ]

pub condition_settled : (w : World) (s : FoundSoFar) (e : ExprTree) → (check_condition w s e).faults ≡ [] →
    IsSettled (ConditionIsTyped w) (UsesBroken w) s e (check_condition w s e)
unfolding check_condition
condition_settled w s e h = let f = (judge_value w s.locals e).faults ++ condition_faults w (place_of e) (value_kind (judge_value w s.locals e).meaning) in
    (empty_first s.faults f h, condition_parts w s.locals e (empty_second s.faults f h))

-- calls

alone_true : (w : World) (s : FoundSoFar) (e : ExprTree) {m : Meaning} → s.faults ≡ [] → HasMeaning w s.locals (without_parentheses e) m →
    is_statement w s.locals e ≡ true →
    IsAt (check_expr_statement w s e) s.locals
unfolding check_expr_statement
alone_true w s e h v t = let a = sound w s.locals v in
    let j = judge w s.locals (without_parentheses e) in
    reached s (j.faults ++ statement_faults (place_of e) (is_statement w s.locals e) j.meaning) j.uses h
    (empty_both j.faults (statement_faults (place_of e) (is_statement w s.locals e) j.meaning) a.faultless
    (stands_silent (place_of e) j.meaning t)) refl

call_true : (w : World) (s : FoundSoFar) {e : ExprTree} {links : LinkTrees} {m : Meaning} → s.faults ≡ [] → HasMeaning w s.locals (tree.Chain e links) m →
    is_statement w s.locals (tree.Chain e links) ≡ true → IsAt (check_expr_statement w s (tree.Chain e links)) s.locals
unfolding without_parentheses
call_true w s {e} {links} h v t = alone_true w s (tree.Chain e links) h v t

pub call_found : (w : World) (ls : Locals) (e : ExprTree) (m : Meaning) → HasMeaning w ls (without_parentheses e) m → IsCallFound w ls e →
    SimpleIsTyped w ls (tree.Alone e) ls
unfolding without_parentheses
call_found w ls e m v c = subst (λ z. SimpleIsTyped w ls (tree.Alone z) ls) (sym c.is_chain) (a_call (subst
    (λ z. HasMeaning w ls (without_parentheses z) m) c.is_chain v) c.ends c.means c.stands)

broken_around : (w : World) (ls : Locals) (e : ExprTree) → UsesBroken w ls (without_parentheses e) → UsesBroken w ls e
unfolding without_parentheses
broken_around w ls (tree.Paren o e c) u = in_paren (broken_around w ls e u)
broken_around w ls e u = u

alone_parts : (w : World) (ls : Locals) (e : ExprTree) → ((judge w ls (without_parentheses e)).faults
    ++ statement_faults (place_of e) (is_statement w ls e) (judge w ls (without_parentheses e)).meaning) ≡ [] →
    SimpleIsTyped w ls (tree.Alone e) ls ⊎ SimpleIsExcused w ls (tree.Alone e)
alone_parts w ls e h = let j = judge w ls (without_parentheses e) in
    let more = statement_faults (place_of e) (is_statement w ls e) j.meaning in
    elim (settle w ls (without_parentheses e) (empty_first j.faults more h)) [
      | inl n ↦ inl (call_found w ls e j.meaning (complete w ls (without_parentheses e) n)
          (true_statement w ls e (silent_stands (place_of e) (is_statement w ls e) j.meaning n (empty_second j.faults more h))))
      | inr u ↦ inr (in_call (broken_around w ls e u))
    ]

alone_settled : (w : World) (s : FoundSoFar) (e : ExprTree) → (check_expr_statement w s e).faults ≡ [] →
    IsSettled (SimpleIsTyped w) (SimpleIsExcused w) s (tree.Alone e) (check_expr_statement w s e)
unfolding check_expr_statement
alone_settled w s e h = let j = judge w s.locals (without_parentheses e) in
    let f = j.faults ++ statement_faults (place_of e) (is_statement w s.locals e) j.meaning in
    (empty_first s.faults f h, alone_parts w s.locals e (empty_second s.faults f h))

-- `++` and `--`

int_silent : (w : World) (place : ℕ) {o : Option ValueKind} {k : ValueKind} → o ≡ Some k → IsBasic w k basic.Int → step_faults w place o ≡ []
unfolding step_faults
int_silent w place e i = ap (step_faults w place) e ∙ ap (λ c. if is_int c then [] else (place ∷ [])) (class_true w i)

silent_int : (w : World) (place : ℕ) {o : Option ValueKind} {k : ValueKind} → o ≡ Some k → step_faults w place o ≡ [] → IsBasic w k basic.Int
unfolding step_faults
silent_int w place {k = k} e h = is_of_int w k (test_silent (is_int (class_of w k)) place (ap (step_faults w place) (sym e) ∙ h))

step_true : (w : World) (s : FoundSoFar) {e : ExprTree} {k : ValueKind} → s.faults ≡ [] → HasMeaning w s.locals e (Value k true) → IsBasic w k basic.Int →
    IsAt (check_step w s e) s.locals
unfolding check_step
step_true w s {e} h v i = let a = operand_true w s.locals e v in
    reached s ((judge_operand w s.locals e).faults ++ step_faults w (place_of e) (value_kind (judge_operand w s.locals e).meaning))
    (judge_operand w s.locals e).uses h
    (empty_both (judge_operand w s.locals e).faults (step_faults w (place_of e) (value_kind (judge_operand w s.locals e).meaning)) a.faultless
    (int_silent w (place_of e) (kind_known a.meaning) i)) refl

step_parts : (w : World) (ls : Locals) (e : ExprTree) (o : StepOp) (p : ℕ) → ((judge_operand w ls e).faults ++ step_faults w (place_of e) (value_kind
    (judge_operand w ls e).meaning)) ≡ [] →
    SimpleIsTyped w ls (tree.Step e o p) ls ⊎ SimpleIsExcused w ls (tree.Step e o p)
step_parts w ls e o p h = elim (operand_settled w ls e (empty_first (judge_operand w ls e).faults (step_faults w (place_of e) (value_kind
    (judge_operand w ls e).meaning)) h)) [
      | inl v ↦ inl (a_step v.means (silent_int w (place_of e) (kind_known v.found) (empty_second (judge_operand w ls e).faults (step_faults w (place_of e)
          (value_kind (judge_operand w ls e).meaning)) h)))
      | inr u ↦ inr (in_step u)
    ]

step_settled : (w : World) (s : FoundSoFar) (e : ExprTree) (o : StepOp) (p : ℕ) → (check_step w s e).faults ≡ [] →
    IsSettled (SimpleIsTyped w) (SimpleIsExcused w) s (tree.Step e o p) (check_step w s e)
unfolding check_step
step_settled w s e o p h = let f = (judge_operand w s.locals e).faults ++ step_faults w (place_of e) (value_kind (judge_operand w s.locals e).meaning) in
    (empty_first s.faults f h, step_parts w s.locals e o p (empty_second s.faults f h))

-- `x op= y`

update_silent : (w : World) (start : ℕ) (b : BinaryOp) {x y : Option ValueKind} {j k l : ValueKind} → x ≡ Some j → y ≡ Some k → Operates w b j k l →
    update_faults w start b x y ≡ []
unfolding update_faults
update_silent w start b {x} {y} {j} e f o = ap (λ z. update_faults w start b z y) e ∙ (ap (λ z. update_faults w start b (Some j) z) f
    ∙ ap (λ z. fault_if_none z start) (operates_true w o))

one_or_fault : (start : ℕ) (o : Option ValueKind) → fault_if_none o start ≡ [] → (l : ValueKind) × (o ≡ Some l)
one_or_fault start None h = no_fault h
one_or_fault start (Some l) h = (l, refl)

silent_update : (w : World) (start : ℕ) (b : BinaryOp) (x y : Option ValueKind) {j k : ValueKind} → x ≡ Some j → y ≡ Some k → update_faults w start b x y ≡ [] →
    (l : ValueKind) × Operates w b j k l
unfolding update_faults
silent_update w start b x y {j} {k} e f h = let q = one_or_fault start (operate w b j k) (ap (λ z. update_faults w start b (Some j) z) (sym f)
    ∙ (ap (λ z. update_faults w start b z y) (sym e) ∙ h)) in
    (q.0, true_operates w b j k q.0 q.1)

update_true : (w : World) (s : FoundSoFar) {x y : ExprTree} {b : BinaryOp} {j k l : ValueKind} {a : Bool} → s.faults ≡ [] →
    HasMeaning w s.locals x (Value j true) → HasMeaning w s.locals y (Value k a) → Operates w b j k l →
    IsAt (check_update w s b x y) s.locals
unfolding check_update
update_true w s {x} {y} {b} h v u o = let p = operand_true w s.locals x v in let q = value_true w s.locals y u in
    let f = update_faults w (first_token x) b (value_kind (judge_operand w s.locals x).meaning) (value_kind (judge_value w s.locals y).meaning) in
    reached s ((judge_operand w s.locals x).faults ++ ((judge_value w s.locals y).faults ++ f)) ((judge_operand w s.locals x).uses ++
    (judge_value w s.locals y).uses) h
    (empty_both (judge_operand w s.locals x).faults ((judge_value w s.locals y).faults ++ f) p.faultless
    (empty_both (judge_value w s.locals y).faults f q.faultless (update_silent w (first_token x) b (kind_known p.meaning) (kind_known q.meaning) o))) refl

abbrev IsSimpleSettled : World → Locals → SimpleTree → Locals → Type 0
IsSimpleSettled w ls s after = SimpleIsTyped w ls s after ⊎ SimpleIsExcused w ls s

typed_update : (w : World) (ls : Locals) (x y : ExprTree) (o : UpdateOp) (p : ℕ) (j k l : ValueKind) (a : Bool) → HasMeaning w ls x (Value j true) →
    HasMeaning w ls y (Value k a) → Operates w (binary_of o) j k l →
    IsSimpleSettled w ls (tree.Update x o p y) ls
typed_update w ls x y o p (Typed t) k l a v u q = inl (an_update (is_update o) v u q (update_fits (is_update o) q))
typed_update w ls x y o p (Untyped b) k l a v u q = inr (updated_without_type v a_constant)
typed_update w ls x y o p Nil k l a v u q = inr (updated_without_type v a_nil)

update_parts : (w : World) (ls : Locals) (x y : ExprTree) (o : UpdateOp) (p : ℕ) → ((judge_operand w ls x).faults ++ ((judge_value w ls y).faults
    ++ update_faults w (first_token x) (binary_of o) (value_kind (judge_operand w ls x).meaning) (value_kind (judge_value w ls y).meaning))) ≡ [] →
    IsSimpleSettled w ls (tree.Update x o p y) ls
update_parts w ls x y o p h = let f = update_faults w (first_token x) (binary_of o) (value_kind (judge_operand w ls x).meaning) (value_kind
    (judge_value w ls y).meaning) in
    let r = empty_second (judge_operand w ls x).faults ((judge_value w ls y).faults ++ f) h in
    elim (operand_settled w ls x (empty_first (judge_operand w ls x).faults ((judge_value w ls y).faults ++ f) h)) [
      | inl v ↦ elim (value_settled w ls y (empty_first (judge_value w ls y).faults f r)) [
        | inl u ↦ let q = silent_update w (first_token x) (binary_of o) (value_kind (judge_operand w ls x).meaning) (value_kind
            (judge_value w ls y).meaning) (kind_known v.found) (kind_known u.found)
            (empty_second (judge_value w ls y).faults f r) in
            typed_update w ls x y o p v.kind u.kind q.0 u.addressable v.means u.means q.1
        | inr e ↦ inr (in_update e)
      ]
      | inr e ↦ inr (in_updated e)
    ]

update_settled : (w : World) (s : FoundSoFar) (x y : ExprTree) (o : UpdateOp) (p : ℕ) → (check_update w s (binary_of o) x y).faults ≡ [] →
    IsSettled (SimpleIsTyped w) (SimpleIsExcused w) s (tree.Update x o p y) (check_update w s (binary_of o) x y)
unfolding check_update
update_settled w s x y o p h = let f = (judge_operand w s.locals x).faults ++ ((judge_value w s.locals y).faults
    ++ update_faults w (first_token x) (binary_of o) (value_kind (judge_operand w s.locals x).meaning) (value_kind (judge_value w s.locals y).meaning)) in
    (empty_first s.faults f h, update_parts w s.locals x y o p (empty_second s.faults f h))

-- values given to targets

pub giving_at : (w : World) (s : FoundSoFar) (place : ℕ) (locals : Locals) (l : Lefts) (r : JudgedList) {after : Locals} {ks : List ValueKind} {ts : List
    Taker} →
    s.faults ≡ [] → AreLefts l ts → AreGiven r ks → TakenInTurn w ks ts →
    locals ≡ after → IsAt (with_given w s place locals l r) after
giving_at w s place locals l r {ts = ts} h a g t e = reached s (l.faults ++ (r.faults ++ given_faults w place r.values l.targets)) (l.uses ++ (r.uses ++
    given_enterings w r.values l.targets)) h
    (empty_both l.faults (r.faults ++ given_faults w place r.values l.targets) a.faultless (empty_both r.faults (given_faults w place r.values l.targets)
    g.faultless
    (ap (given_faults w place r.values) a.targets ∙ given_silent w place r.values g.kinds t))) e

-- values given to targets without a fault
pub record IsGiving (w : World) (s : FoundSoFar) (place : ℕ) (l : Lefts) (r : JudgedList) : Type 0 where
  pub before : s.faults ≡ []
  pub lefts : l.faults ≡ []
  pub rhs : r.faults ≡ []
  pub given : given_faults w place r.values l.targets ≡ []

pub giving_parts : (w : World) (s : FoundSoFar) (place : ℕ) (locals : Locals) (l : Lefts) (r : JudgedList) → (with_given w s place locals l r).faults ≡ [] →
    IsGiving w s place l r
giving_parts w s place locals l r h = let f = r.faults ++ given_faults w place r.values l.targets in
    let q = empty_second s.faults (l.faults ++ f) h in
    let g = empty_second l.faults f q in
    record {
      before = empty_first s.faults (l.faults ++ f) h;
      lefts = empty_first l.faults f q;
      rhs = empty_first r.faults (given_faults w place r.values l.targets) g;
      given = empty_second r.faults (given_faults w place r.values l.targets) g;
    }

pub taken_found : (w : World) (place : ℕ) (vs : List ListValue) (ks : List ValueKind) {targets : List Target} (ts : List Taker) → AreOf vs ks →
    targets ≡ map aim ts → given_faults w place vs targets ≡ [] → TakenInTurn w ks ts
taken_found w place vs ks ts a e h = silent_given w place vs ks ts a (ap (given_faults w place vs) (sym e) ∙ h)

assign_settled : (w : World) (s : FoundSoFar) (xs : List (Item ExprTree)) (p : ℕ) (ys : List (Item ExprTree)) → (check_assign w s xs ys).faults ≡ [] →
    IsSettled (SimpleIsTyped w) (SimpleIsExcused w) s (tree.Assign xs p ys) (check_assign w s xs ys)
unfolding check_assign
assign_settled w s xs p ys h = let v = receiving w ys (rhs w s.locals ys).values in
    let g = giving_parts v s (first_of_exprs xs) s.locals (assigned w s.locals xs) (rhs w s.locals ys) h in (
      g.before,
      elim (assigned_settled w s.locals xs g.lefts) [
        | inl l ↦ elim (rights_settled w s.locals ys g.rhs) [
          | inl r ↦ inl (an_assignment l.assigned r.given (taken_as w ys (rhs w s.locals ys).values r.found (taken_found v (first_of_exprs xs)
              (rhs w s.locals ys).values r.kinds l.takers r.found l.found g.given)))
          | inr u ↦ inr (in_assignment u)
        ]
        | inr u ↦ inr (in_assigned u)
      ],
    )

define_settled : (w : World) (s : FoundSoFar) (xs : List (Item ExprTree)) (p : ℕ) (ys : List (Item ExprTree)) → (check_define w s xs ys).faults ≡ [] →
    IsSettled (SimpleIsTyped w) (SimpleIsExcused w) s (tree.Define xs p ys) (check_define w s xs ys)
unfolding check_define
define_settled w s xs p ys h = let locals = with_inferred s.locals (defined_names w xs) (rhs w s.locals ys).values in
    let v = receiving w ys (rhs w s.locals ys).values in
    let g = giving_parts v s (first_of_exprs xs) locals (defined w s.locals xs) (rhs w s.locals ys) h in (
      g.before,
      elim (defined_settled w s.locals xs g.lefts) [
        | inl l ↦ elim (rights_settled w s.locals ys g.rhs) [
          | inl r ↦ let t = taken_found v (first_of_exprs xs) (rhs w s.locals ys).values r.kinds l.takers r.found l.found g.given in
              inl (a_definition l.defined_are r.given (taken_as w ys (rhs w s.locals ys).values r.found t) (declare_found v
              (rhs w s.locals ys).values s.locals (defined_names w xs)
              (defined_new l.defined_are) r.found t))
          | inr u ↦ inr (in_definition u)
        ]
        | inr u ↦ inr (in_defined u)
      ],
    )

-- simple statements

pub simple_true : (w : World) (s : FoundSoFar) (a : SimpleTree) (after : Locals) → s.faults ≡ [] → SimpleIsTyped w s.locals a after →
    IsAt (check_simple w s a) after
unfolding check_simple check_assign check_define
simple_true w s a after h (a_call v c u m) = call_true w s h v (statement_true w s.locals c u m)
simple_true w s a after h (a_step v i) = step_true w s h v i
simple_true w s a after h (an_update {x = x} {y = y} u v q o f) = subst (λ z. IsAt (check_update w s z x y) s.locals) (sym (update_is u))
    (update_true w s h v q o)
simple_true w s a after h (an_assignment {xs} {ys} l g t) = let r = rights_given w s.locals g in
    giving_at (receiving w ys (rhs w s.locals ys).values) s (first_of_exprs xs) s.locals (assigned w s.locals xs) (rhs w s.locals ys) h
    (assigned_true w s.locals l) r (taken_by w ys (rhs w s.locals ys).values r.kinds t) refl
simple_true w s a after h (a_definition {xs = xs} {ys = ys} l g t d) = let n = defined_true w s.locals l in let r = rights_given w s.locals g in
    giving_at (receiving w ys (rhs w s.locals ys).values) s (first_of_exprs xs)
    (with_inferred s.locals (defined_names w xs) (rhs w s.locals ys).values) (defined w s.locals xs) (rhs w s.locals ys) h n.lefts r
    (taken_by w ys (rhs w s.locals ys).values r.kinds t)
    (ap (λ z. with_inferred s.locals z (rhs w s.locals ys).values) n.names ∙ declare_true (rhs w s.locals ys).values r.kinds d)

pub simple_settled : (w : World) (s : FoundSoFar) (a : SimpleTree) → (check_simple w s a).faults ≡ [] →
    IsSettled (SimpleIsTyped w) (SimpleIsExcused w) s a (check_simple w s a)
unfolding check_simple
simple_settled w s (tree.Alone e) h = alone_settled w s e h
simple_settled w s (tree.Step e o p) h = step_settled w s e o p h
simple_settled w s (tree.Update x o p y) h = update_settled w s x y o p h
simple_settled w s (tree.Assign xs p ys) h = assign_settled w s xs p ys h
simple_settled w s (tree.Define xs p ys) h = define_settled w s xs p ys h
