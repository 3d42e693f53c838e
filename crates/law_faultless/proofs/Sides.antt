-- What the two sides of assignments and declarations leave on the stack.
use Rattle.std.proofs.Common.{ℕ, zero, suc, ◌≡◌, ◌+◌, List, [], ◌∷◌, ◌++◌, length, ap, refl, sym, subst, arith, Option, Some, append-nil}
use Rattle.std.specs.List.{flat_map, All}
use Rattle.std.proofs.lemmas.List.{length-map}
use Rattle.std.proofs.lemmas.List.Elements.{All-head, All-tail}
use Rattle.go_ast.specs.Tree.{Item, IdentTree, Named, Underscore, TypeTree, ExprTree}
use Rattle.go_ast.specs.Tree as tree
use Rattle.go_ast.specs.WellFormed.{IsExpr}
use Rattle.types_expr.specs.Types.{PlainType, ValueKind, Typed, Meaning}
use Rattle.types_expr.specs.World.{World, Locals}
use Rattle.types_expr.specs.Judge.{judge_type}
use Rattle.law_typing.specs.Names.{IsType}
use Rattle.law_typing.specs.Meanings.{HasMeaning, number, text, name, composite, paren, prefix, address, chain, binary}
use Rattle.law_typing.proofs.Naming.{type_true}
use Rattle.law_typing.specs.Assignments.{Taker, TakenInTurn, none_given, also_given, AreEachValues, no_expression, also_value, GiveKinds, values, results}
use Rattle.law_typing.specs.Simple.{AreAssigned, no_left, a_blank, an_operand, AreDefined, no_definition, an_underscore, a_new_name, an_old_name}
use Rattle.build_object.specs.Lines.{FunctionName, CodeLine, line_if_known, pops}
use Rattle.build_object.specs.Lines as line
use Rattle.build_object.specs.Source.{Source}
use Rattle.build_object.specs.Numbering.{slot_of}
use Rattle.build_object.specs.Expressions.{operand_of, given_lines, address_lines}
use Rattle.build_object.specs.Statements.{lines_of_values, from_last, set_name, set_bound, set_left, target_lines, targets_of, zeros}
use Rattle.law_faultless.specs.Stack.{Arity}
use Rattle.law_faultless.specs.Questions.{OfDeclared, OfLeft}
use Rattle.law_faultless.specs.QuestionAnswers.{IsKnown, IsAnswered}
use Rattle.law_faultless.specs.StatementAsking.{AnyAsks, this_one, a_later_one, IsLeft, this_left, a_later_left, IsDeclared, this_declared, a_later_declared}
use Rattle.law_faultless.proofs.StackParts.{Turns, none_turns, turns_as, turns_joined, turns_over, line_turns, turns_then, known_turns}
use Rattle.law_faultless.proofs.ExpressionsBalanced.{over, Answers, expression_settles, one_given}
use Rattle.law_faultless.proofs.OperandStack.{given_turns}

-- each of them is a tree of the grammar
abbrev pub AreExprs : List (Item ExprTree) → Type 0
AreExprs is = All (λ (i : Item ExprTree). IsExpr i.value) is

first_expr : (i : Item ExprTree) (is : List (Item ExprTree)) → AreExprs (i ∷ is) → IsExpr i.value
first_expr i is f = All-head (λ (x : Item ExprTree). IsExpr x.value) i is f

other_exprs : (i : Item ExprTree) (is : List (Item ExprTree)) → AreExprs (i ∷ is) → AreExprs is
other_exprs i is f = All-tail (λ (x : Item ExprTree). IsExpr x.value) i is f

pub taken_length : {w : World} {ks : List ValueKind} {ts : List Taker} → TakenInTurn w ks ts → length ks ≡ length ts
taken_length none_given = refl
taken_length (also_given t more) = ap suc (taken_length more)

-- one more in front
pub one_before : (arity : FunctionName → Arity) (n : ℕ) (xs ys : List CodeLine) → Turns arity 0 1 xs → Turns arity 0 n ys → Turns arity 0 (suc n) (xs ++ ys)
one_before arity n xs ys f g = turns_as arity (xs ++ ys) refl (let e : 1 + n ≡ suc n = omega arith in e) (turns_then arity 1 n xs ys f g)

-- values

each_turns : (arity : FunctionName → Arity) (w : World) (s : Source) (slots : List ℕ) (locals : Locals) {is : List (Item ExprTree)} {ks : List ValueKind} →
    AreEachValues w locals is ks → AreExprs is →
    Answers arity (over w s) slots (AnyAsks w locals is) → Turns arity 0 (length ks) (lines_of_values (over w s) slots is)
each_turns arity w s slots locals no_expression f k = none_turns arity 0
each_turns arity w s slots locals (also_value {i} {is} {ks = ks} h more) f k =
    one_before arity (length ks) (given_lines (over w s) slots i.value) (lines_of_values (over w s) slots is)
    (one_given arity (over w s) slots i.value (expression_settles arity w s slots locals h (first_expr i is f) (λ q a. k q (this_one a))))
    (each_turns arity w s slots locals more (other_exprs i is f) (λ q a. k q (a_later_one a)))

pub give_turns : (arity : FunctionName → Arity) (w : World) (s : Source) (slots : List ℕ) (locals : Locals) {is : List (Item ExprTree)} {ks : List ValueKind} →
    GiveKinds w locals is ks → AreExprs is →
    Answers arity (over w s) slots (AnyAsks w locals is) → Turns arity 0 (length ks) (lines_of_values (over w s) slots is)
give_turns arity w s slots locals (values h) f k = each_turns arity w s slots locals h f k
give_turns arity w s slots locals (results {i} {ts} h) f k =
    turns_as arity (lines_of_values (over w s) slots (i ∷ [])) refl (sym (length-map ts Typed))
    (subst (λ z. Turns arity 0 (length ts) z) (sym (append-nil (given_lines (over w s) slots i.value)))
    (let v = expression_settles arity w s slots locals h (first_expr i [] f) (λ q a. k q (this_one a)) in
    given_turns arity (over w s) (operand_of (over w s) slots i.value) i.value (length ts) v.is v.value))

-- left sides of `=`

target_is : (s : Source) (slots : List ℕ) (w : World) (locals : Locals) {e : ExprTree} {m : Meaning} → HasMeaning w locals e m →
    target_lines s slots e ≡ address_lines s slots e
unfolding target_lines
target_is s slots w locals number = refl
target_is s slots w locals text = refl
target_is s slots w locals (name h) = refl
target_is s slots w locals (composite h) = refl
target_is s slots w locals (paren h) = refl
target_is s slots w locals (prefix h r) = refl
target_is s slots w locals (address h) = refl
target_is s slots w locals (chain h more) = refl
target_is s slots w locals (binary h more) = refl

blank_turns : (arity : FunctionName → Arity) (s : Source) (slots : List ℕ) (e : ExprTree) (p : ℕ) → e ≡ tree.Blank p → Turns arity 0 1 (target_lines s slots e)
unfolding target_lines
blank_turns arity s slots e p is = subst (λ z. Turns arity 0 1 (target_lines s slots z)) (sym is)
    (line_turns arity line.BlankAddress 0 1 refl refl (λ at i m. m))

pub targets_turn : (arity : FunctionName → Arity) (w : World) (s : Source) (slots : List ℕ) (locals : Locals) {is : List (Item ExprTree)} {ts : List Taker} →
    AreAssigned w locals is ts → AreExprs is →
    Answers arity (over w s) slots (AnyAsks w locals is) → Turns arity 0 (length is) (targets_of (over w s) slots is)
targets_turn arity w s slots locals no_left f k = none_turns arity 0
targets_turn arity w s slots locals (a_blank {i} {is} {p} e more) f k =
    one_before arity (length is) (target_lines (over w s) slots i.value) (targets_of (over w s) slots is) (blank_turns arity (over w s) slots i.value p e)
    (targets_turn arity w s slots locals more (other_exprs i is f) (λ q a. k q (a_later_one a)))
targets_turn arity w s slots locals (an_operand {i} {is} h more) f k =
    one_before arity (length is) (target_lines (over w s) slots i.value) (targets_of (over w s) slots is)
    (subst (λ z. Turns arity 0 1 z) (sym (target_is (over w s) slots w locals h)) (expression_settles arity w s slots locals h (first_expr i is f)
    (λ q a. k q (this_one a))).address)
    (targets_turn arity w s slots locals more (other_exprs i is f) (λ q a. k q (a_later_one a)))

pub assigned_length : {w : World} {locals : Locals} {is : List (Item ExprTree)} {ts : List Taker} → AreAssigned w locals is ts → length is ≡ length ts
assigned_length no_left = refl
assigned_length (a_blank e more) = ap suc (assigned_length more)
assigned_length (an_operand h more) = ap suc (assigned_length more)

-- names, the last one first

last_first : (arity : FunctionName → Arity) (n : ℕ) (xs ys : List CodeLine) → Turns arity n 0 xs → Turns arity 1 0 ys → Turns arity (suc n) 0 (xs ++ ys)
last_first arity n xs ys f g = turns_joined arity (suc n) 1 0 xs ys (turns_as arity xs (let e : 1 + n ≡ suc n = omega arith in e) refl
    (turns_over arity 1 n 0 xs f)) g

set_turns : (arity : FunctionName → Arity) (slot : Option ℕ) → IsKnown slot → Turns arity 1 0 (line_if_known line.Set slot)
set_turns arity slot k = known_turns arity line.Set slot k.0 1 0 k.1 (line_turns arity (line.Set k.0) 1 0 refl refl (λ at i m. m))

pop_turns : (arity : FunctionName → Arity) → Turns arity 1 0 (line.Pop ∷ [])
pop_turns arity = line_turns arity line.Pop 1 0 refl refl (λ at i m. m)

left_turns : (arity : FunctionName → Arity) (s : Source) (slots : List ℕ) (e : ExprTree) (p : ℕ) → e ≡ tree.Name p → IsAnswered arity s slots (OfLeft p) →
    Turns arity 1 0 (set_left s slots e)
unfolding set_left
left_turns arity s slots e p is k =
    subst (λ z. Turns arity 1 0 (set_left s slots z)) (sym is) (subst (λ z. Turns arity 1 0 (set_bound slots z)) (sym k.1.0)
    (set_turns arity (slot_of slots k.0) k.1.1))

blank_left : (arity : FunctionName → Arity) (s : Source) (slots : List ℕ) (e : ExprTree) (p : ℕ) → e ≡ tree.Blank p → Turns arity 1 0 (set_left s slots e)
unfolding set_left
blank_left arity s slots e p is = subst (λ z. Turns arity 1 0 (set_left s slots z)) (sym is) (pop_turns arity)

pub lefts_turn : (arity : FunctionName → Arity) (w : World) (s : Source) (slots : List ℕ) (locals : Locals) {is : List (Item ExprTree)} {ts : List Taker}
    {ns : List (Option ℕ)} → AreDefined w locals is ts ns →
    ((n : ℕ) → IsLeft is n → IsAnswered arity s slots (OfLeft n)) → Turns arity (length is) 0 (from_last (set_left s slots) is)
unfolding from_last
lefts_turn arity w s slots locals no_definition k = none_turns arity 0
lefts_turn arity w s slots locals (an_underscore {i} {is} {p} e more) k =
    last_first arity (length is) (from_last (set_left s slots) is) (set_left s slots i.value)
    (lefts_turn arity w s slots locals more (λ n l. k n (a_later_left l))) (blank_left arity s slots i.value p e)
lefts_turn arity w s slots locals (a_new_name {i} {is} {p} e b more) k =
    last_first arity (length is) (from_last (set_left s slots) is) (set_left s slots i.value)
    (lefts_turn arity w s slots locals more (λ n l. k n (a_later_left l))) (left_turns arity s slots i.value p e (k p (this_left e)))
lefts_turn arity w s slots locals (an_old_name {i} {is} {p} e other h more) k =
    last_first arity (length is) (from_last (set_left s slots) is) (set_left s slots i.value)
    (lefts_turn arity w s slots locals more (λ n l. k n (a_later_left l))) (left_turns arity s slots i.value p e (k p (this_left e)))

pub defined_length : {w : World} {locals : Locals} {is : List (Item ExprTree)} {ts : List Taker} {ns : List (Option ℕ)} → AreDefined w locals is ts ns →
    length is ≡ length ts
defined_length no_definition = refl
defined_length (an_underscore e more) = ap suc (defined_length more)
defined_length (a_new_name e b more) = ap suc (defined_length more)
defined_length (an_old_name e other h more) = ap suc (defined_length more)

name_turns : (arity : FunctionName → Arity) (s : Source) (slots : List ℕ) (x : IdentTree) →
    ((p : ℕ) → x ≡ Named p → IsAnswered arity s slots (OfDeclared p)) → Turns arity 1 0 (set_name slots x)
name_turns arity s slots (Named n) k = set_turns arity (slot_of slots n) (k n refl)
name_turns arity s slots (Underscore n) k = pop_turns arity

pub names_turn : (arity : FunctionName → Arity) (s : Source) (slots : List ℕ) (is : List (Item IdentTree)) →
    ((n : ℕ) → IsDeclared is n → IsAnswered arity s slots (OfDeclared n)) →
    Turns arity (length is) 0 (from_last (set_name slots) is)
unfolding from_last
names_turn arity s slots [] k = none_turns arity 0
names_turn arity s slots (i ∷ is) k =
    last_first arity (length is) (from_last (set_name slots) is) (set_name slots i.value) (names_turn arity s slots is (λ n l. k n (a_later_declared l)))
    (name_turns arity s slots i.value (λ p e. k p (this_declared e)))

-- zeros

zero_lines : (arity : FunctionName → Arity) (t : Option PlainType) → IsKnown t → (is : List (Item IdentTree)) →
    Turns arity 0 (length is) (flat_map (λ (i : Item IdentTree). line_if_known line.Zero t) is)
zero_lines arity t k [] = none_turns arity 0
zero_lines arity t k (i ∷ is) =
    one_before arity (length is) (line_if_known line.Zero t) (flat_map (λ (i : Item IdentTree). line_if_known line.Zero t) is)
    (known_turns arity line.Zero t k.0 0 1 k.1 (line_turns arity (line.Zero k.0) 0 1 refl refl (λ at i m. m))) (zero_lines arity t k is)

pub zeros_turn : (arity : FunctionName → Arity) (s : Source) (x : TypeTree) (t : PlainType) (is : List (Item IdentTree)) → IsType s.world x t →
    Turns arity 0 (length is) (zeros s (Some x) is)
unfolding zeros
zeros_turn arity s x t is h = zero_lines arity (judge_type s.world x).type_of (t, ap (λ z. z.type_of) (type_true s.world h)) is

pub pops_turn : (arity : FunctionName → Arity) (n : ℕ) → Turns arity n 0 (pops n)
unfolding pops
pops_turn arity zero = none_turns arity 0
pops_turn arity (suc n) =
    turns_joined arity (suc n) n 0 (line.Pop ∷ []) (pops n) (turns_as arity (line.Pop ∷ []) (let e : n + 1 ≡ suc n = omega arith in e)
    (let e : n + 0 ≡ n = omega arith in e) (turns_over arity n 1 0 (line.Pop ∷ []) (pop_turns arity)))
    (pops_turn arity n)
