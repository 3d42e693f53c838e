-- Conditions and simple statements: the check finds a fault at exactly the tokens where a rule is broken.
use Rattle.std.proofs.Common.{ℕ, ◌≡◌, Bool, true, false, ◌⊎◌, inl, inr, List, ◌++◌, map, Option, Some, None, refl, sym, ap, ◌∙◌, subst, true≢false}
use Rattle.go_ast.specs.declared.syntax.BinaryOp.{BinaryOp}
use Rattle.go_ast.specs.declared.syntax.StepOp.{StepOp}
use Rattle.go_ast.specs.declared.syntax.UpdateOp.{UpdateOp}
use Rattle.go_ast.specs.Tree.{Item, ExprTree, SimpleTree}
use Rattle.go_ast.specs.Tree as tree
use Rattle.types_expr.specs.declared.types.Basic.TheVariants as basic
use Rattle.types_expr.specs.Places.{place_of, first_token}
use Rattle.types_expr.specs.Types.{ValueKind, Meaning, Value, TypeName, Function, BuiltinName, Package, Results, Broken}
use Rattle.types_expr.specs.World.{World, Locals}
use Rattle.types_expr.specs.Operations.{operate, class_of, is_int, is_bool}
use Rattle.types_expr.specs.Judge.{ListValue, judge, judge_value, value_kind}
use Rattle.types_stmt.specs.Checked.{FoundSoFar}
use Rattle.types_stmt.specs.Sides.{rhs, Target, Lefts, judge_operand, assigned, defined, given_faults, defined_names, first_of_exprs, with_inferred, receiving}
use Rattle.types_stmt.specs.Simple.{check_simple, check_expr_statement, check_step, check_update, check_assign, check_define, check_condition, condition_faults}
use Rattle.types_stmt.specs.Simple.{step_faults, update_faults, fault_if_none, statement_faults, is_statement, without_parentheses, binary_of}
use Rattle.law_typing.specs.Names.{IsNotBroken}
use Rattle.law_typing.specs.Operators.{IsBasic, Operates}
use Rattle.law_typing.specs.Meanings.{HasMeaning}
use Rattle.law_typing.proofs.Tests.{none_is_some}
use Rattle.law_typing.proofs.Judgements.{value_whole, function_whole, results_whole}
use Rattle.law_typing.proofs.Classes.{class_true, is_of_int, is_of_bool}
use Rattle.law_typing.proofs.Operating.{operates_true, true_operates}
use Rattle.law_typing.proofs.Completeness.{complete}
use Rattle.law_typing.specs.Assignments.{Taker}
use Rattle.law_typing.specs.Simple.{SimpleIsTyped, a_call}
use Rattle.law_typing.proofs.StatementCalling.{statement_true, true_statement, update_is, is_update}
use Rattle.law_typing.proofs.Simple.{call_found}
use Rattle.law_typing.specs.ExpressionFaults.{BreaksAt, ValueBreaksAt}
use Rattle.law_typing.specs.AssignmentFaults.{SidesGive, AssignedTakes, DefinedTakes, EachTakes, IsAssignmentFault}
use Rattle.law_typing.specs.DeclaredLocals.{SimpleDeclares, behind_call, behind_step, behind_update, behind_assignment, behind_definition}
use Rattle.law_typing.specs.SimpleFaults.{OperandBreaksAt, ConditionBreaksAt, in_condition, no_bool, AnyBreaksAt, SidesBreakAt, DefinedBreaksAt, SimpleBreaksAt}
use Rattle.law_typing.specs.SimpleFaults.{in_alone, no_statement, in_step, no_step, in_updated, in_update, no_update, in_assigned, in_assignment, no_assignment}
use Rattle.law_typing.specs.SimpleFaults.{in_defined, in_definition, no_definition}
use Rattle.law_typing.proofs.FaultLists.{HasToken, AreExactly, both_told, told_as, At, at_place, nothing_at, fault_at, test_told, holds_left, some_same}
use Rattle.law_typing.proofs.ValueFaults.{meant_whole, kind_is, kind_means, operand_kind_is, operand_kind_means}
use Rattle.law_typing.proofs.ExpressionFaults.{expression_told, value_told, operand_told}
use Rattle.law_typing.proofs.AssignmentFaults.{aim_of, sides_found, sides_only, sides_told, misgiven_told}
use Rattle.law_typing.proofs.LeftFaults.{assigned_take, assigned_targets, assigned_told, defined_take, defined_targets, defined_told, names_found, names_only}
use Rattle.law_typing.proofs.DeclaredLocals.{taken_found, taken_only}
use Rattle.law_typing.proofs.SequenceFaults.{IsExact, added_found, added_stands}

-- conditions

bool_told : (w : World) (place : ℕ) (o : Option ValueKind) {C : Type 0} → ((k : ValueKind) → o ≡ Some k → (IsBasic w k basic.Bool → ⊥) → C) → (C →
    (k : ValueKind) × (o ≡ Some k) ×
    (IsBasic w k basic.Bool → ⊥)) → AreExactly (condition_faults w place o) (At place C)
unfolding condition_faults
bool_told w place None f g = nothing_at place (λ c. let q = g c in none_is_some q.0 q.1)
bool_told w place (Some k) f g = test_told (is_bool (class_of w k)) place (λ t c. let q = g c in q.2 (subst (λ z. IsBasic w z basic.Bool) (some_same q.1)
    (is_of_bool w k t))) (λ t. f k refl (λ i. true≢false (sym (ap is_bool (class_true w i)) ∙ t)))

record IsNoBool (w : World) (locals : Locals) (e : ExprTree) : Type 0 where
  kind : ValueKind
  addressable : Bool
  means : HasMeaning w locals e (Value kind addressable)
  is_none : IsBasic w kind basic.Bool → ⊥

condition_cases : {w : World} {locals : Locals} {e : ExprTree} {p : ℕ} → ConditionBreaksAt w locals e p → ValueBreaksAt w locals e p ⊎ At (place_of e)
    (IsNoBool w locals e) p
condition_cases (in_condition b) = inl b
condition_cases (no_bool {k = k} {a = a} h n) = inr (refl, record { kind = k; addressable = a; means = h; is_none = n })

abbrev condition_added : World → Locals → ExprTree → List ℕ
condition_added w locals e = (judge_value w locals e).faults ++ condition_faults w (place_of e) (value_kind (judge_value w locals e).meaning)

condition_places : (w : World) (locals : Locals) (e : ExprTree) → AreExactly (condition_added w locals e) (ConditionBreaksAt w locals e)
condition_places w locals e = both_told (judge_value w locals e).faults (condition_faults w (place_of e) (value_kind (judge_value w locals e).meaning))
    (value_told w locals e) (bool_told w (place_of e) (value_kind (judge_value w locals e).meaning) {C = IsNoBool w locals e}
    (λ k h n. let q = kind_means w locals e k h in record { kind = k; addressable = q.0; means = q.1; is_none = n })
    (λ c. (c.kind, kind_is w locals c.means, c.is_none))) (λ p b. in_condition b) (at_place (ConditionBreaksAt w locals e) (λ c. no_bool c.means c.is_none))
    (λ p b. condition_cases b)

-- a condition leaves the locals as they are
pub data Keeps : Locals → ExprTree → Locals → Type 0 where
  keeps : {locals : Locals} {e : ExprTree} → Keeps locals e locals

condition_leads : (w : World) (s : FoundSoFar) (e : ExprTree) → Keeps s.locals e (check_condition w s e).locals
unfolding check_condition
condition_leads w s e = keeps

condition_only : (w : World) (s : FoundSoFar) (e : ExprTree) (after : Locals) → Keeps s.locals e after → (check_condition w s e).locals ≡ after
unfolding check_condition
condition_only w s e after keeps = refl

condition_faults_are : (w : World) (s : FoundSoFar) (e : ExprTree) → (check_condition w s e).faults ≡ s.faults ++ condition_added w s.locals e
unfolding check_condition
condition_faults_are w s e = refl

pub told_of : (X : Type 0) (R : (Locals → X → Locals → Type 0)) (B : (Locals → X → ℕ → Type 0)) (check : FoundSoFar → X → FoundSoFar) (added : Locals → X →
    List ℕ) →
    ((s : FoundSoFar) (x : X) → R s.locals x (check s x).locals) → ((s : FoundSoFar) (x : X) (after : Locals) → R s.locals x after →
    (check s x).locals ≡ after) →
    ((s : FoundSoFar) (x : X) → (check s x).faults ≡ s.faults ++ added s.locals x) → ((locals : Locals) (x : X) → AreExactly (added locals x) (B locals x)) →
    IsExact X R B check
told_of X R B check added leads only faults t = record {
  leads = leads;
  only = only;
  stays = λ s x p h. subst (λ z. HasToken z p) (sym (faults s x)) (holds_left s.faults (added s.locals x) p h);
  found = λ s x p h. added_found s.faults (t s.locals x) p (subst (λ z. HasToken z p) (faults s x) h);
  stands = λ s x p b. subst (λ z. HasToken z p) (sym (faults s x)) (added_stands s.faults (t s.locals x) p b);
}

pub condition_told : (w : World) → IsExact ExprTree Keeps (ConditionBreaksAt w) (check_condition w)
condition_told w = told_of ExprTree Keeps (ConditionBreaksAt w) (check_condition w) (condition_added w) (condition_leads w) (condition_only w)
    (condition_faults_are w) (condition_places w)

-- calls

stands_told : (place : ℕ) (b : Bool) (m : Meaning) {C : Type 0} → (IsNotBroken m → b ≡ false → C) → (C → IsNotBroken m × (b ≡ false)) →
    AreExactly (statement_faults place b m) (At place C)
unfolding statement_faults
stands_told place true m f g = nothing_at place (λ c. let q = g c in true≢false q.1)
stands_told place false (Value k a) f g = fault_at place (f value_whole refl)
stands_told place false (TypeName t) f g = fault_at place (f (λ h. cc) refl)
stands_told place false (Function s) f g = fault_at place (f function_whole refl)
stands_told place false (BuiltinName b) f g = fault_at place (f (λ h. cc) refl)
stands_told place false Package f g = fault_at place (f (λ h. cc) refl)
stands_told place false (Results ts) f g = fault_at place (f results_whole refl)
stands_told place false Broken f g = nothing_at place (λ c. let q = g c in q.0 refl)

typed_alone : (w : World) (locals after : Locals) (e : ExprTree) → SimpleIsTyped w locals (tree.Alone e) after → is_statement w locals e ≡ true
typed_alone w locals after e (a_call h c f m) = statement_true w locals c f m

alone_typed : (w : World) (locals : Locals) (e : ExprTree) (m : Meaning) → HasMeaning w locals (without_parentheses e) m →
    ((after : Locals) → SimpleIsTyped w locals (tree.Alone e) after → ⊥) → (b : Bool) → is_statement w locals e ≡ b → b ≡ false
alone_typed w locals e m h n true t = absurd (n locals (call_found w locals e m h (true_statement w locals e t)))
alone_typed w locals e m h n false t = refl

record IsNoStatement (w : World) (locals : Locals) (e : ExprTree) : Type 0 where
  meaning : Meaning
  means : HasMeaning w locals (without_parentheses e) meaning
  is_none : (after : Locals) → SimpleIsTyped w locals (tree.Alone e) after → ⊥

alone_cases : {w : World} {locals : Locals} {e : ExprTree} {p : ℕ} → SimpleBreaksAt w locals (tree.Alone e) p →
    BreaksAt w locals (without_parentheses e) p ⊎ At (place_of e) (IsNoStatement w locals e) p
alone_cases (in_alone b) = inl b
alone_cases (no_statement {m = m} h n) = inr (refl, record { meaning = m; means = h; is_none = n })

alone_places : (w : World) (locals : Locals) (e : ExprTree) → AreExactly ((judge w locals (without_parentheses e)).faults
    ++ statement_faults (place_of e) (is_statement w locals e) (judge w locals (without_parentheses e)).meaning) (SimpleBreaksAt w locals (tree.Alone e))
alone_places w locals e = let j = judge w locals (without_parentheses e) in
    both_told j.faults (statement_faults (place_of e) (is_statement w locals e) j.meaning) (expression_told w locals (without_parentheses e))
    (stands_told (place_of e) (is_statement w locals e) j.meaning {C = IsNoStatement w locals e} (λ n b. record {
      meaning = j.meaning;
      means = complete w locals (without_parentheses e) n;
      is_none = λ after t. true≢false (sym (typed_alone w locals after e t) ∙ b);
    }) (λ c. (meant_whole w locals c.means, alone_typed w locals e c.meaning c.means c.is_none (is_statement w locals e) refl))) (λ p b. in_alone b)
    (at_place (SimpleBreaksAt w locals (tree.Alone e)) (λ c. no_statement c.means c.is_none)) (λ p b. alone_cases b)

-- `++` and `--`

int_told : (w : World) (place : ℕ) (o : Option ValueKind) {C : Type 0} → ((k : ValueKind) → o ≡ Some k → (IsBasic w k basic.Int → ⊥) → C) → (C →
    (k : ValueKind) × (o ≡ Some k) ×
    (IsBasic w k basic.Int → ⊥)) → AreExactly (step_faults w place o) (At place C)
unfolding step_faults
int_told w place None f g = nothing_at place (λ c. let q = g c in none_is_some q.0 q.1)
int_told w place (Some k) f g = test_told (is_int (class_of w k)) place (λ t c. let q = g c in q.2 (subst (λ z. IsBasic w z basic.Int) (some_same q.1)
    (is_of_int w k t))) (λ t. f k refl (λ i. true≢false (sym (ap is_int (class_true w i)) ∙ t)))

record IsNoInt (w : World) (locals : Locals) (e : ExprTree) : Type 0 where
  kind : ValueKind
  means : HasMeaning w locals e (Value kind true)
  is_none : IsBasic w kind basic.Int → ⊥

step_cases : {w : World} {locals : Locals} {e : ExprTree} {o : StepOp} {q p : ℕ} → SimpleBreaksAt w locals (tree.Step e o q) p → OperandBreaksAt w locals e p ⊎
    At (place_of e) (IsNoInt w locals e) p
step_cases (in_step b) = inl b
step_cases (no_step {k = k} h n) = inr (refl, record { kind = k; means = h; is_none = n })

step_places : (w : World) (locals : Locals) (e : ExprTree) (o : StepOp) (q : ℕ) →
    AreExactly ((judge_operand w locals e).faults ++ step_faults w (place_of e) (value_kind
    (judge_operand w locals e).meaning)) (SimpleBreaksAt w locals (tree.Step e o q))
step_places w locals e o q = both_told (judge_operand w locals e).faults (step_faults w (place_of e) (value_kind (judge_operand w locals e).meaning))
    (operand_told w locals e) (int_told w (place_of e) (value_kind (judge_operand w locals e).meaning) {C = IsNoInt w locals e}
    (λ k h n. record { kind = k; means = operand_kind_means w locals e k h; is_none = n }) (λ c. (c.kind, operand_kind_is w locals c.means, c.is_none)))
    (λ p b. in_step b) (at_place (SimpleBreaksAt w locals (tree.Step e o q)) (λ c. no_step c.means c.is_none)) (λ p b. step_cases b)

-- `x op= y`

abbrev CannotOperate : World → BinaryOp → Option ValueKind → Option ValueKind → Type 0
CannotOperate w b x y = (j : ValueKind) × (k : ValueKind) × (x ≡ Some j) × (y ≡ Some k) × ((l : ValueKind) → Operates w b j k l → ⊥)

operated : (w : World) (b : BinaryOp) (start : ℕ) (j k : ValueKind) (r : Option ValueKind) → operate w b j k ≡ r → {C : Type 0} → (((l : ValueKind) →
    Operates w b j k l →
    ⊥) → C) →
    (C → (l : ValueKind) → Operates w b j k l → ⊥) → AreExactly (fault_if_none r start) (At start C)
operated w b start j k None e f g = fault_at start (f (λ l o. none_is_some l (sym e ∙ operates_true w o)))
operated w b start j k (Some l) e f g = nothing_at start (λ c. g c l (true_operates w b j k l e))

update_told : (w : World) (b : BinaryOp) (start : ℕ) (x y : Option ValueKind) {C : Type 0} → (CannotOperate w b x y → C) → (C → CannotOperate w b x y) →
    AreExactly (update_faults w start b x y) (At start C)
unfolding update_faults
update_told w b start None y f g = nothing_at start (λ c. let q = g c in none_is_some q.0 q.2)
update_told w b start (Some j) None f g = nothing_at start (λ c. let q = g c in none_is_some q.1 q.3)
update_told w b start (Some j) (Some k) f g = operated w b start j k (operate w b j k) refl (λ n. f (j, k, refl, refl, n)) (λ c l o. let q = g c in q.4 l (subst
    (λ z. Operates w b z q.1 l) (some_same q.2) (subst (λ z. Operates w b j z l) (some_same q.3) o)))

record IsNoUpdate (w : World) (locals : Locals) (b : BinaryOp) (x y : ExprTree) : Type 0 where
  left : ValueKind
  right : ValueKind
  addressable : Bool
  left_means : HasMeaning w locals x (Value left true)
  right_means : HasMeaning w locals y (Value right addressable)
  is_none : (l : ValueKind) → Operates w b left right l → ⊥

update_cases : {w : World} {locals : Locals} {x y : ExprTree} {o : UpdateOp} {q p : ℕ} → SimpleBreaksAt w locals (tree.Update x o q y) p →
    OperandBreaksAt w locals x p ⊎ (ValueBreaksAt w locals y p ⊎ At (first_token x) (IsNoUpdate w locals (binary_of o) x y) p)
update_cases (in_updated b) = inl b
update_cases (in_update b) = inr (inl b)
update_cases {w} (no_update {j = j} {k = k} {a = a} u h g n) = inr (inr (
  refl,
  record {
    left = j;
    right = k;
    addressable = a;
    left_means = h;
    right_means = g;
    is_none = λ l r. n l (subst (λ z. Operates w z j k l) (update_is u) r);
  },
))

update_places : (w : World) (locals : Locals) (x y : ExprTree) (o : UpdateOp) (q : ℕ) →
    AreExactly ((judge_operand w locals x).faults ++ ((judge_value w locals y).faults
    ++ update_faults w (first_token x) (binary_of o) (value_kind (judge_operand w locals x).meaning) (value_kind (judge_value w locals y).meaning)))
    (SimpleBreaksAt w locals (tree.Update x o q y))
update_places w locals x y o q = let f = update_faults w (first_token x) (binary_of o) (value_kind (judge_operand w locals x).meaning) (value_kind
    (judge_value w locals y).meaning) in
    both_told (judge_operand w locals x).faults ((judge_value w locals y).faults ++ f) (operand_told w locals x)
    (both_told (judge_value w locals y).faults f {B = λ p. ValueBreaksAt w locals y p ⊎ At (first_token x) (IsNoUpdate w locals (binary_of o) x y) p}
    (value_told w locals y)
    (update_told w (binary_of o) (first_token x) (value_kind (judge_operand w locals x).meaning) (value_kind (judge_value w locals y).meaning)
    {C = IsNoUpdate w locals (binary_of o) x y} (λ r. let v = kind_means w locals y r.1 r.3 in record {
      left = r.0;
      right = r.1;
      addressable = v.0;
      left_means = operand_kind_means w locals x r.0 r.2;
      right_means = v.1;
      is_none = r.4;
    }) (λ c. (c.left, c.right, operand_kind_is w locals c.left_means, kind_is w locals c.right_means, c.is_none))) (λ p b. inl b) (λ p b. inr b) (λ p b. b))
    (λ p b. in_updated b) (λ p b. elim b [
      | inl v ↦ in_update v
      | inr a ↦ at_place (SimpleBreaksAt w locals (tree.Update x o q y))
          (λ c. no_update (is_update o) c.left_means c.right_means c.is_none) p a
    ]) (λ p b. update_cases b)

-- values given to targets

pub record IsMisgivenBy (w : World) (locals : Locals) (ys : List (Item ExprTree)) (place : ℕ) (T : List (Option Taker) → Type 0) (p : ℕ) : Type 0 where
  pub values : List ListValue
  pub takers : List (Option Taker)
  pub give : SidesGive w locals ys values
  pub take : T takers
  pub misgiven : IsAssignmentFault (receiving w ys values) place values takers p

given_part : (w : World) (locals : Locals) (ys : List (Item ExprTree)) (place : ℕ) (targets : List Target) (T : List (Option Taker) → Type 0) (ts : List
    (Option Taker)) → T ts → targets ≡ map aim_of ts → ((us : List (Option Taker)) → T us → targets ≡ map aim_of us) →
    AreExactly (given_faults (receiving w ys (rhs w locals ys).values) place (rhs w locals ys).values targets) (IsMisgivenBy w locals ys place T)
given_part w locals ys place targets T ts t e only = let V = (rhs w locals ys).values in record {
  found = λ p h. let m = misgiven_told (receiving w ys V) place V ts in record {
    values = V;
    takers = ts;
    give = sides_found w locals ys;
    take = t;
    misgiven = m.found p (subst (λ z. HasToken (given_faults (receiving w ys V) place V z) p) e h);
  };
  stands = λ p b. let m = misgiven_told (receiving w ys b.values) place b.values b.takers in
      subst (λ z. HasToken (given_faults (receiving w ys z) place z targets) p) (sym (sides_only w locals b.give)) (subst
      (λ z. HasToken (given_faults (receiving w ys b.values) place b.values z) p) (sym (only b.takers b.take)) (m.stands p b.misgiven));
}

pub giving_told : (w : World) (locals : Locals) (ys : List (Item ExprTree)) (place : ℕ) (l : Lefts) {A : ℕ → Type 0} (T : List (Option Taker) →
    Type 0) (ts : List
    (Option Taker)) → AreExactly l.faults A → T ts → l.targets ≡ map aim_of ts → ((us : List (Option Taker)) → T us → l.targets ≡ map aim_of us) →
    AreExactly (l.faults ++ ((rhs w locals ys).faults ++ given_faults (receiving w ys (rhs w locals ys).values) place (rhs w locals ys).values l.targets))
    (λ p. A p ⊎ (SidesBreakAt w locals ys p ⊎ IsMisgivenBy w locals ys place T p))
giving_told w locals ys place l T ts a t e only = both_told l.faults ((rhs w locals ys).faults
    ++ given_faults (receiving w ys (rhs w locals ys).values) place (rhs w locals ys).values l.targets) a
    (both_told (rhs w locals ys).faults (given_faults (receiving w ys (rhs w locals ys).values) place
    (rhs w locals ys).values l.targets) {B = λ p. SidesBreakAt w locals ys p ⊎
    IsMisgivenBy w locals ys place T p} (sides_told w locals ys) (given_part w locals ys place l.targets T ts t e only) (λ p b. inl b) (λ p b. inr b)
    (λ p b. b))
    (λ p b. inl b) (λ p b. inr b) (λ p b. b)

assign_cases : {w : World} {locals : Locals} {xs ys : List (Item ExprTree)} {q p : ℕ} → SimpleBreaksAt w locals (tree.Assign xs q ys) p → AnyBreaksAt
    (OperandBreaksAt w locals) xs p ⊎ (SidesBreakAt w locals ys p ⊎ IsMisgivenBy w locals ys (first_of_exprs xs) (EachTakes (AssignedTakes w locals) xs) p)
assign_cases (in_assigned b) = inl b
assign_cases (in_assignment b) = inr (inl b)
assign_cases (no_assignment {vs = vs} {ts = ts} g t m) = inr (inr (record { values = vs; takers = ts; give = g; take = t; misgiven = m }))

assign_places : (w : World) (locals : Locals) (xs : List (Item ExprTree)) (q : ℕ) (ys : List (Item ExprTree)) →
    AreExactly ((assigned w locals xs).faults ++ ((rhs w locals ys).faults
    ++ given_faults (receiving w ys (rhs w locals ys).values) (first_of_exprs xs) (rhs w locals ys).values (assigned w locals xs).targets))
    (SimpleBreaksAt w locals (tree.Assign xs q ys))
assign_places w locals xs q ys = let t = assigned_take w locals xs in
    told_as (giving_told w locals ys (first_of_exprs xs) (assigned w locals xs) (EachTakes (AssignedTakes w locals) xs) t.takers
    (assigned_told w locals xs) t.take t.found
    (λ us u. assigned_targets w locals u)) (λ p b. elim b [
      | inl a ↦ in_assigned a
      | inr c ↦ elim c [ inl d ↦ in_assignment d | inr m ↦ no_assignment m.give m.take m.misgiven ]
    ]) (λ p b. assign_cases b)

define_cases : {w : World} {locals : Locals} {xs ys : List (Item ExprTree)} {q p : ℕ} → SimpleBreaksAt w locals (tree.Define xs q ys) p → AnyBreaksAt
    (DefinedBreaksAt w locals) xs p ⊎ (SidesBreakAt w locals ys p ⊎ IsMisgivenBy w locals ys (first_of_exprs xs) (EachTakes (DefinedTakes w locals) xs) p)
define_cases (in_defined b) = inl b
define_cases (in_definition b) = inr (inl b)
define_cases (no_definition {vs = vs} {ts = ts} g t m) = inr (inr (record { values = vs; takers = ts; give = g; take = t; misgiven = m }))

define_places : (w : World) (locals : Locals) (xs : List (Item ExprTree)) (q : ℕ) (ys : List (Item ExprTree)) →
    AreExactly ((defined w locals xs).faults ++ ((rhs w locals ys).faults
    ++ given_faults (receiving w ys (rhs w locals ys).values) (first_of_exprs xs) (rhs w locals ys).values (defined w locals xs).targets))
    (SimpleBreaksAt w locals (tree.Define xs q ys))
define_places w locals xs q ys = let t = defined_take w locals xs in
    told_as (giving_told w locals ys (first_of_exprs xs) (defined w locals xs) (EachTakes (DefinedTakes w locals) xs) t.takers
    (defined_told w locals xs) t.take t.found
    (λ us u. defined_targets w locals u)) (λ p b. elim b [
      | inl a ↦ in_defined a
      | inr c ↦ elim c [ inl d ↦ in_definition d | inr m ↦ no_definition m.give m.take m.misgiven ]
    ]) (λ p b. define_cases b)

-- simple statements

abbrev simple_added : World → Locals → SimpleTree → List ℕ
simple_added w ls (tree.Alone e) = (judge w ls (without_parentheses e)).faults
    ++ statement_faults (place_of e) (is_statement w ls e) (judge w ls (without_parentheses e)).meaning
simple_added w ls (tree.Step e o q) = (judge_operand w ls e).faults ++ step_faults w (place_of e) (value_kind (judge_operand w ls e).meaning)
simple_added w ls (tree.Update x o q y) = (judge_operand w ls x).faults ++ ((judge_value w ls y).faults
    ++ update_faults w (first_token x) (binary_of o) (value_kind (judge_operand w ls x).meaning) (value_kind (judge_value w ls y).meaning))
simple_added w ls (tree.Assign xs q ys) = (assigned w ls xs).faults ++ ((rhs w ls ys).faults
    ++ given_faults (receiving w ys (rhs w ls ys).values) (first_of_exprs xs) (rhs w ls ys).values (assigned w ls xs).targets)
simple_added w ls (tree.Define xs q ys) = (defined w ls xs).faults ++ ((rhs w ls ys).faults
    ++ given_faults (receiving w ys (rhs w ls ys).values) (first_of_exprs xs) (rhs w ls ys).values (defined w ls xs).targets)

simple_places : (w : World) (locals : Locals) (a : SimpleTree) → AreExactly (simple_added w locals a) (SimpleBreaksAt w locals a)
simple_places w locals (tree.Alone e) = alone_places w locals e
simple_places w locals (tree.Step e o q) = step_places w locals e o q
simple_places w locals (tree.Update x o q y) = update_places w locals x y o q
simple_places w locals (tree.Assign xs q ys) = assign_places w locals xs q ys
simple_places w locals (tree.Define xs q ys) = define_places w locals xs q ys

simple_faults_are : (w : World) (s : FoundSoFar) (a : SimpleTree) → (check_simple w s a).faults ≡ s.faults ++ simple_added w s.locals a
unfolding check_simple check_expr_statement check_step check_update check_assign check_define
simple_faults_are w s (tree.Alone e) = refl
simple_faults_are w s (tree.Step e o q) = refl
simple_faults_are w s (tree.Update x o q y) = refl
simple_faults_are w s (tree.Assign xs q ys) = refl
simple_faults_are w s (tree.Define xs q ys) = refl

simple_leads : (w : World) (s : FoundSoFar) (a : SimpleTree) → SimpleDeclares w s.locals a (check_simple w s a).locals
unfolding check_simple check_expr_statement check_step check_update check_assign check_define
simple_leads w s (tree.Alone e) = behind_call
simple_leads w s (tree.Step e o q) = behind_step
simple_leads w s (tree.Update x o q y) = behind_update
simple_leads w s (tree.Assign xs q ys) = behind_assignment
simple_leads w s (tree.Define xs q ys) = behind_definition (names_found w s.locals xs) (sides_found w s.locals ys) (taken_found s.locals (defined_names w xs)
    (rhs w s.locals ys).values)

simple_only : (w : World) (s : FoundSoFar) (a : SimpleTree) (after : Locals) → SimpleDeclares w s.locals a after → (check_simple w s a).locals ≡ after
unfolding check_simple check_expr_statement check_step check_update check_assign check_define
simple_only w s (tree.Alone e) after behind_call = refl
simple_only w s (tree.Step e o q) after behind_step = refl
simple_only w s (tree.Update x o q y) after behind_update = refl
simple_only w s (tree.Assign xs q ys) after behind_assignment = refl
simple_only w s (tree.Define xs q ys) after (behind_definition {ns = ns} n g d) = ap (λ z. with_inferred s.locals z (rhs w s.locals ys).values)
    (names_only w s.locals n)
    ∙ (ap (λ z. with_inferred s.locals ns z) (sides_only w s.locals g) ∙ taken_only d)

pub simple_told : (w : World) → IsExact SimpleTree (SimpleDeclares w) (SimpleBreaksAt w) (check_simple w)
simple_told w = told_of SimpleTree (SimpleDeclares w) (SimpleBreaksAt w) (check_simple w) (simple_added w) (simple_leads w) (simple_only w)
    (simple_faults_are w) (simple_places w)
