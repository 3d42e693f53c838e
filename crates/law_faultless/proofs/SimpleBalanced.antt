-- Simple statements, conditions and declarations of locals leave the stack as it was.
use Rattle.std.proofs.Common.{ℕ, ◌≡◌, ◌+◌, Bool, false, List, [], ◌∷◌, ◌++◌, length, map, refl, sym, ◌∙◌, subst, arith, Option, Some}
use Rattle.std.specs.List.{flat_map, All}
use Rattle.std.proofs.lemmas.List.{length-map}
use Rattle.std.proofs.lemmas.List.Elements.{All-nil, All-cons, All-head, All-tail}
use Rattle.go_ast.specs.declared.syntax.BinaryOp.{BinaryOp}
use Rattle.go_ast.specs.Tree.{Item, Group, IdentTree, ExprTree, LinkTrees, SimpleTree, LocalTree}
use Rattle.go_ast.specs.Tree as tree
use Rattle.go_ast.specs.WellFormed.{IsExpr, IsExprIn, IsList, IsSimple, IsLocal, IsNoneOr, IsGroup}
use Rattle.types_declared.specs.Files.{group_items}
use Rattle.types_expr.specs.Types.{PlainType, ValueKind, Meaning, Value, TypeName, Function, BuiltinName, Package, Results, Broken}
use Rattle.types_expr.specs.World.{World, Locals}
use Rattle.law_typing.specs.Links.{ResultsMean, nothing, one, several as many_given, CallGives, function, conversion, len, append, panic, print, println}
use Rattle.law_typing.specs.Meanings.{HasMeaning, chain, LinksMean, no_link, selector, index, call}
use Rattle.types_stmt.specs.Simple.{binary_of}
use Rattle.law_typing.specs.Sequences.{PartRule, InTurn, no_item, then_item, InGroup, alone, together, IfPresent, absent, present}
use Rattle.law_typing.specs.Assignments.{Fresh, OfType, GiveKinds}
use Rattle.law_typing.specs.Simple.{ConditionIsTyped, a_condition, EndsInCall, the_call, behind_selector as ends_behind_selector}
use Rattle.law_typing.specs.Simple.{behind_index as ends_behind_index, behind_call as ends_behind_call, SimpleIsTyped, a_call, a_step, an_update}
use Rattle.law_typing.specs.Simple.{an_assignment, a_definition, LocalIsTyped, of_type, of_type_with_values, of_values}
use Rattle.build_object.specs.Lines.{FunctionName, CodeLine, pops}
use Rattle.build_object.specs.Lines as line
use Rattle.build_object.specs.Source.{Source}
use Rattle.build_object.specs.Operands.{CodeOperand, Values, value_count}
use Rattle.build_object.specs.Expressions.{operand_of, value_lines, address_lines}
use Rattle.build_object.specs.Statements.{lines_of_values, from_last, set_name, set_left, targets_of}
use Rattle.build_object.specs.Statements.{update_lines, step_op, simple_lines, optional_lines, zeros}
use Rattle.build_object.specs.Statements.{first_values, local_lines}
use Rattle.law_faultless.specs.Stack.{Arity}
use Rattle.law_faultless.specs.Questions.{TokenQuestion, OfDeclared, OfLeft, Asks}
use Rattle.law_faultless.specs.QuestionAnswers.{IsAnswered}
use Rattle.law_faultless.specs.StatementAsking.{Asking, AskInTurn, this_item, later_item, AskInGroup, asks_alone, asks_together, AskIfPresent, asks_present}
use Rattle.law_faultless.specs.StatementAsking.{SimpleAsks, in_call, in_step, in_updated, in_update, in_assigned, in_assignment, for_left, in_definition}
use Rattle.law_faultless.specs.StatementAsking.{LocalAsks, for_declared, in_values}
use Rattle.law_faultless.proofs.StackParts.{Turns, none_turns, turns_as, turns_joined, turns_over, line_turns}
use Rattle.law_faultless.proofs.OperandStack.{Settles}
use Rattle.law_faultless.proofs.ExpressionsBalanced.{over, Answers, expression_settles}
use Rattle.law_faultless.proofs.Sides.{AreExprs, give_turns, targets_turn, assigned_length, lefts_turn, defined_length, names_turn, zeros_turn, taken_length}
use Rattle.law_faultless.proofs.Sides.{pops_turn}

pub exprs_in : (h : Bool) (is : List (Item ExprTree)) → All (λ (i : Item ExprTree). IsExprIn h i.value) is → AreExprs is
exprs_in h [] f = All-nil (λ (i : Item ExprTree). IsExpr i.value)
exprs_in h (i ∷ is) f = All-cons (λ (x : Item ExprTree). IsExpr x.value) i is (All-head (λ (x : Item ExprTree). IsExprIn h x.value) i is f).grouped
    (exprs_in h is (All-tail (λ (x : Item ExprTree). IsExprIn h x.value) i is f))

-- what ends in a call is a value, or its results
IsGiven : Meaning → Type 0
IsGiven (Value k a) = Unit {0}
IsGiven (Results ts) = Unit {0}
IsGiven m = ⊥

given : {ts : List PlainType} {r : Meaning} → ResultsMean ts r → IsGiven r
unfolding IsGiven
given nothing = tt
given one = tt
given many_given = tt

call_given : {w : World} {m r : Meaning} {ks : List ValueKind} → CallGives w m ks r → IsGiven r
unfolding IsGiven
call_given (function f g) = given g
call_given (conversion h) = tt
call_given (len h) = tt
call_given (append h i) = tt
call_given panic = tt
call_given (print h) = tt
call_given (println h) = tt

end_given : {w : World} {locals : Locals} {links front : LinkTrees} {m r : Meaning} → EndsInCall links front → LinksMean w locals m links r → IsGiven r
end_given the_call (call vs c no_link) = call_given c
end_given (ends_behind_selector e) (selector s more) = end_given e more
end_given (ends_behind_index e) (index v i more) = end_given e more
end_given (ends_behind_call e) (call vs c more) = end_given e more

chain_given : {w : World} {locals : Locals} {e : ExprTree} {links front : LinkTrees} {m : Meaning} → EndsInCall links front →
    HasMeaning w locals (tree.Chain e links) m → IsGiven m
chain_given ends (chain h more) = end_given ends more

-- the values that a call leaves are dropped
dropped : (arity : FunctionName → Arity) (o : CodeOperand) (n : ℕ) → o.mode ≡ Values n → Turns arity 0 n o.value →
    Turns arity 0 0 (o.value ++ pops (value_count o.mode))
dropped arity o n e t = subst (λ z. Turns arity 0 0 (o.value ++ pops (value_count z))) (sym e) (turns_joined arity 0 n 0 o.value (pops n) t (pops_turn arity n))

alone_turns : (arity : FunctionName → Arity) (o : CodeOperand) (m : Meaning) → IsGiven m → Settles arity o m →
    Turns arity 0 0 (o.value ++ pops (value_count o.mode))
unfolding IsGiven
alone_turns arity o (Value k a) g h = dropped arity o 1 h.mode h.value
alone_turns arity o (TypeName t) g h = absurd g
alone_turns arity o (Function f) g h = absurd g
alone_turns arity o (BuiltinName b) g h = absurd g
alone_turns arity o Package g h = absurd g
alone_turns arity o (Results ts) g h = dropped arity o (length ts) h.is h.value
alone_turns arity o Broken g h = absurd g

-- `x op= y`
update_turns : (arity : FunctionName → Arity) (x y : List CodeLine) (o : BinaryOp) → Turns arity 0 1 x → Turns arity 0 1 y →
    Turns arity 0 0 (update_lines x y o)
update_turns arity x y o f g =
    turns_joined arity 0 1 0 x (line.Duplicate ∷ line.Load ∷ (y ++ (line.Operate o ∷ line.Assign 1 ∷ []))) f
    (turns_joined arity 1 2 0 (line.Duplicate ∷ []) (line.Load ∷ (y ++ (line.Operate o ∷ line.Assign 1 ∷ [])))
    (line_turns arity line.Duplicate 1 2 refl refl (λ at i m. m))
    (turns_joined arity 2 2 0 (line.Load ∷ []) (y ++ (line.Operate o ∷ line.Assign 1 ∷ []))
    (turns_over arity 1 1 1 (line.Load ∷ []) (line_turns arity line.Load 1 1 refl refl (λ at i m. m)))
    (turns_joined arity 2 3 0 y (line.Operate o ∷ line.Assign 1 ∷ []) (turns_over arity 2 0 1 y g)
    (turns_joined arity 3 2 0 (line.Operate o ∷ []) (line.Assign 1 ∷ []) (turns_over arity 1 2 1 (line.Operate o ∷ [])
    (line_turns arity (line.Operate o) 2 1 refl refl (λ at i m. m)))
    (line_turns arity (line.Assign 1) 2 0 refl refl (λ at i m. m))))))

-- as many values as addresses
assign_turns : (arity : FunctionName → Arity) (n m k : ℕ) (xs ys : List CodeLine) → m ≡ n → k ≡ n → Turns arity 0 m xs → Turns arity 0 k ys →
    Turns arity 0 0 (xs ++ (ys ++ (line.Assign m ∷ [])))
assign_turns arity n m k xs ys e f g h =
    turns_joined arity 0 m 0 xs (ys ++ (line.Assign m ∷ [])) g
    (turns_joined arity m (m + m) 0 ys (line.Assign m ∷ []) (turns_as arity ys (let z : m + 0 ≡ m = omega arith in z)
    (let z : m + k ≡ m + m = omega arith in z) (turns_over arity m 0 k ys h))
    (line_turns arity (line.Assign m) (m + m) 0 refl refl (λ at i m. m)))

define_turns : (arity : FunctionName → Arity) (n m k : ℕ) (xs ys : List CodeLine) → m ≡ n → k ≡ n → Turns arity 0 k ys → Turns arity m 0 xs →
    Turns arity 0 0 (ys ++ xs)
define_turns arity n m k xs ys e f g h = turns_joined arity 0 k 0 ys xs g (turns_as arity xs (e ∙ sym f) refl h)

pub simple_turns : (arity : FunctionName → Arity) (w : World) (s : Source) (slots : List ℕ) (h : Bool) {before after : Locals} {x : SimpleTree} →
    SimpleIsTyped w before x after → IsSimple h x →
    Answers arity (over w s) slots (SimpleAsks w before x) → Turns arity 0 0 (simple_lines (over w s) slots x)
unfolding simple_lines
simple_turns arity w s slots h (a_call {locals} {e} {links} {m = m} v ends front stands) f k =
    alone_turns arity (operand_of (over w s) slots (tree.Chain e links)) m (chain_given ends v)
    (expression_settles arity w s slots locals v f.grouped (λ q a. k q (in_call a)))
simple_turns arity w s slots h (a_step {locals} {e} {o} v i) f k =
    update_turns arity (address_lines (over w s) slots e) (line.Integer 1 ∷ []) (step_op o)
    (expression_settles arity w s slots locals v f.grouped (λ q a. k q (in_step a))).address
    (line_turns arity (line.Integer 1) 0 1 refl refl (λ at i m. m))
simple_turns arity w s slots h (an_update {locals} {x} {y} {o} u v i r t) f k =
    update_turns arity (address_lines (over w s) slots x) (value_lines (over w s) slots y) (binary_of o)
    (expression_settles arity w s slots locals v f.0.grouped (λ q a. k q (in_updated a))).address
    (expression_settles arity w s slots locals i f.1.grouped (λ q a. k q (in_update a))).value
simple_turns arity w s slots h (an_assignment {locals} {xs} {ys} {ts = ts} {ks} ls g t) f k =
    assign_turns arity (length ts) (length xs) (length ks) (targets_of (over w s) slots xs) (lines_of_values (over w s) slots ys) (assigned_length ls)
    (taken_length t)
    (targets_turn arity w s slots locals ls (exprs_in h xs f.0.each) (λ q a. k q (in_assigned a)))
    (give_turns arity w s slots locals g (exprs_in h ys f.1.each) (λ q a. k q (in_assignment a)))
simple_turns arity w s slots h (a_definition {before} {xs = xs} {ys} {ts = ts} {ks = ks} ls g t d) f k =
    define_turns arity (length ts) (length xs) (length ks) (from_last (set_left (over w s) slots) xs) (lines_of_values (over w s) slots ys) (defined_length ls)
    (taken_length t)
    (give_turns arity w s slots before g (exprs_in h ys f.1.each) (λ q a. k q (in_definition a)))
    (lefts_turn arity w (over w s) slots before ls (λ n l. k (OfLeft n) (for_left l)))

pub condition_turns : (arity : FunctionName → Arity) (w : World) (s : Source) (slots : List ℕ) {before after : Locals} {e : ExprTree} →
    ConditionIsTyped w before e after → IsExpr e →
    Answers arity (over w s) slots (Asks w before e) → Turns arity 0 1 (value_lines (over w s) slots e)
condition_turns arity w s slots (a_condition {locals} v b) f k = (expression_settles arity w s slots locals v f k).value

-- declarations of locals

named_values : (arity : FunctionName → Arity) (w : World) (s : Source) (slots : List ℕ) (before : Locals) (l : LocalTree) (v : ℕ × List (Item ExprTree))
    (ks : List ValueKind) → l.values ≡ Some v → IsLocal l → GiveKinds w before v.1 ks → length ks ≡ length l.names →
    Answers arity (over w s) slots (LocalAsks w before l) → Turns arity 0 0 (local_lines (over w s) slots l)
unfolding local_lines first_values
named_values arity w s slots before l v ks e f g t k =
    let values : All (λ (i : Item ExprTree). IsExprIn false i.value) v.1 =
    (subst (λ z. IsNoneOr (λ (x : ℕ × List (Item ExprTree)). IsList (IsExprIn false) x.1) z) e f.values).each in
    subst (λ z. Turns arity 0 0 (first_values (over w s) slots l z ++ from_last (set_name slots) l.names)) (sym e)
    (define_turns arity (length l.names) (length l.names) (length ks) (from_last (set_name slots) l.names) (lines_of_values (over w s) slots v.1) refl t
    (give_turns arity w s slots before g (exprs_in false v.1 values) (λ q a. k q (in_values e a)))
    (names_turn arity (over w s) slots l.names (λ n d. k (OfDeclared n) (for_declared d))))

pub local_turns : (arity : FunctionName → Arity) (w : World) (s : Source) (slots : List ℕ) {before after : Locals} {l : LocalTree} →
    LocalIsTyped w before l after → IsLocal l →
    Answers arity (over w s) slots (LocalAsks w before l) → Turns arity 0 0 (local_lines (over w s) slots l)
unfolding local_lines first_values
local_turns arity w s slots (of_type {l = l} {x} {t} e v i d) f k =
    subst (λ z. Turns arity 0 0 (first_values (over w s) slots l z ++ from_last (set_name slots) l.names)) (sym v)
    (subst (λ z. Turns arity 0 0 (zeros (over w s) z l.names ++ from_last (set_name slots) l.names)) (sym e)
    (define_turns arity (length l.names) (length l.names) (length l.names) (from_last (set_name slots) l.names) (zeros (over w s) (Some x) l.names) refl refl
    (zeros_turn arity (over w s) x t l.names i)
    (names_turn arity (over w s) slots l.names (λ n d. k (OfDeclared n) (for_declared d)))))
local_turns arity w s slots (of_type_with_values {before} {l = l} {t = t} {v} {ks} e u i g taken d) f k =
    named_values arity w s slots before l v ks u f g (taken_length taken ∙ length-map l.names (λ (i : Item IdentTree). OfType t)) k
local_turns arity w s slots (of_values {before} {l = l} {v} {ks} e u g taken d) f k =
    named_values arity w s slots before l v ks u f g (taken_length taken ∙ length-map l.names (λ (i : Item IdentTree). Fresh)) k

-- parts that stand one behind another

items_turn : {X : Type 0} (arity : FunctionName → Arity) (R : PartRule X) (A : Asking X) (P : X → Type 0) (Q : TokenQuestion → Type 0) (lines : X →
    List CodeLine) →
    ((before after : Locals) (x : X) → R before x after → P x → ((q : TokenQuestion) → A before x q → Q q) → Turns arity 0 0 (lines x)) →
    {before after : Locals} {is : List (Item X)} → InTurn X R before is after → All (λ (i : Item X). P i.value) is →
    ((q : TokenQuestion) → AskInTurn X R A before is q → Q q) →
    Turns arity 0 0 (flat_map lines (map (λ (i : Item X). i.value) is))
items_turn arity R A P Q lines part no_item f k = none_turns arity 0
items_turn {X} arity R A P Q lines part (then_item {before} {inside} {after} {i} {is} r more) f k =
    turns_joined arity 0 0 0 (lines i.value) (flat_map lines (map (λ (i : Item X). i.value) is))
    (part before inside i.value r (All-head (λ (x : Item X). P x.value) i is f) (λ q a. k q (this_item a)))
    (items_turn arity R A P Q lines part more (All-tail (λ (x : Item X). P x.value) i is f) (λ q a. k q (later_item r a)))

group_turns : {X : Type 0} (arity : FunctionName → Arity) (R : PartRule X) (A : Asking X) (P : X → Type 0) (Q : TokenQuestion → Type 0) (lines : X →
    List CodeLine) →
    ((before after : Locals) (x : X) → R before x after → P x → ((q : TokenQuestion) → A before x q → Q q) → Turns arity 0 0 (lines x)) →
    {before after : Locals} {g : Group X} → InGroup X R before g after → IsGroup P g → ((q : TokenQuestion) → AskInGroup X R A before g q → Q q) →
    Turns arity 0 0 (flat_map lines (group_items g))
group_turns arity R A P Q lines part (alone {before} {after} {x} r) f k =
    turns_joined arity 0 0 0 (lines x) [] (part before after x r f (λ q a. k q (asks_alone a))) (none_turns arity 0)
group_turns arity R A P Q lines part (together more) f k = items_turn arity R A P Q lines part more f.each (λ q a. k q (asks_together a))

pub locals_turn : (arity : FunctionName → Arity) (w : World) (s : Source) (slots : List ℕ) {before after : Locals} {g : Group LocalTree} →
    InGroup LocalTree (LocalIsTyped w) before g after → IsGroup IsLocal g →
    Answers arity (over w s) slots (AskInGroup LocalTree (LocalIsTyped w) (LocalAsks w) before g) →
    Turns arity 0 0 (flat_map (local_lines (over w s) slots) (group_items g))
locals_turn arity w s slots r f k =
    group_turns arity (LocalIsTyped w) (LocalAsks w) IsLocal (λ q. IsAnswered arity (over w s) slots q) (local_lines (over w s) slots)
    (λ before after l r f k. local_turns arity w s slots r f k) r f k

pub optional_turns : (arity : FunctionName → Arity) (w : World) (s : Source) (slots : List ℕ) (h : Bool) {before after : Locals} {x : Option SimpleTree} →
    IfPresent SimpleTree (SimpleIsTyped w) before x after → IsNoneOr (IsSimple h) x →
    Answers arity (over w s) slots (AskIfPresent SimpleTree (SimpleAsks w) before x) → Turns arity 0 0 (optional_lines (over w s) slots x)
optional_turns arity w s slots h absent f k = none_turns arity 0
optional_turns arity w s slots h (present r) f k = simple_turns arity w s slots h r f (λ q a. k q (asks_present a))
