-- The check of small statements and declarations, by computation.
use Rattle.std.proofs.Common.{ℕ, ◌≡◌, ◌==◌, List, [], ◌∷◌, Option, Some, None, true, false, refl, if◌then◌else◌}
use Rattle.go_ast.specs.declared.syntax.StepOp.TheVariants as step
use Rattle.go_ast.specs.declared.syntax.UpdateOp.TheVariants as update
use Rattle.go_ast.specs.Tree.{Item, Named, Underscore, ExprTree, Number, Text, Name, Blank, Paren, Chain, selector, call, no_link, argument, no_argument}
use Rattle.go_ast.specs.Tree.{Alone, Step, Update, Assign, Define, ReceiverTree, FuncTree, no_result, block, no_statement, Integer, String, GlobalTree}
use Rattle.go_ast.specs.Tree.{Local as LocalType, Imported as ImportedType}
use Rattle.types_expr.specs.declared.types.Basic.TheVariants as basic
use Rattle.types_expr.specs.declared.types.Builtin.TheVariants as builtin
use Rattle.types_expr.specs.declared.symbol.Symbol.{Symbol}
use Rattle.types_expr.specs.Types.{PlainType, BasicType, Defined, Pointer, PointerTo, Struct, Typed, Nil, Value, TypeName, Function, BuiltinName, Broken}
use Rattle.types_expr.specs.Types.{same_type, same_underlying, is_named, AFieldOf}
use Rattle.types_expr.specs.World.{World, Bound, Local, Means, BrokenVariable, BrokenFunction, BrokenType, Member, AField, no_locals}
use Rattle.types_expr.specs.Operations.{fits, operate, joined, class_of}
use Rattle.types_expr.specs.Places.{first_token, place_of, place_of_links}
use Rattle.types_expr.specs.Judge.{judge, as_value, value_kind, select, select_member, all_whole, misfit, misfits, unless_faults, call_function, convert}
use Rattle.types_expr.specs.Judge.{call_builtin, call_of, all_printed, judge_type, named_type, imported_type}
use Rattle.types_stmt.specs.Checked.{FoundSoFar}
use Rattle.types_stmt.specs.Sides.{Wants, rhs, values_of, judge_each, given_faults, refused_at, nil_refused, all_refused, assignable, own_type, assigned}
use Rattle.types_stmt.specs.Sides.{assigned_one, defined, defined_one, no_name, default_type}
use Rattle.types_stmt.specs.Sides.{inferred_type, inferred, with_locals, defined_name, named, ident_place}
use Rattle.types_stmt.specs.Sides.{first_of_exprs, first_of_idents}
use Rattle.types_stmt.specs.Simple.{condition_faults, check_condition, step_faults, update_faults, ends_in_call, without_last, may_be_statement, is_statement}
use Rattle.types_stmt.specs.Simple.{without_parentheses, statement_faults, check_expr_statement, check_step, check_update, check_assign, check_define}
use Rattle.types_stmt.specs.Simple.{check_simple, check_typed_local, check_untyped_local, check_local}
use Rattle.types_stmt.specs.Statements.{returned, check_return}
use Rattle.types_stmt.specs.Headers.{may_receive, receiver_or_fault, receiver_base, judge_receiver, check_receiver, check_param, is_bad_init}
use Rattle.types_stmt.specs.Declarations.{first_name, literal_faults, value_faults, global_faults}

abbrev int : PlainType
int = BasicType basic.Int

abbrev text : PlainType
text = BasicType basic.String

-- a struct, and a type whose underlying type is a pointer
abbrev structure : Symbol
structure = record { «package» = []; rank = 0 }

abbrev pointer : Symbol
pointer = record { «package» = []; rank = 1 }

-- 10: a string variable; 11: an int variable; 20: a function from int to string; 21: one without results; 22: one of two
-- results, int and string; 30: a variable of the struct, with a field of type int at 33 and one of type string at 35
-- 40: nil; 50: len; 51: println; 60: the struct; 61: int; 62: the pointer type; 63 to 65: a broken type, variable and function
-- 70, 72: new locals; 71, 73: uses of them
abbrev names : ℕ → Bound
names p = if p == 10 then Means (Value (Typed text) true) else (if p == 11 then Means (Value (Typed int) true)
    else (if p == 20 then Means (Function (record { parameters = int ∷ []; results = text ∷ [] })) else
    (if p == 21 then Means (Function (record { parameters = []; results = [] }))
    else (if p == 22 then Means (Function (record { parameters = []; results = int ∷ text ∷ [] })) else
    (if p == 30 then Means (Value (Typed (Defined structure)) true)
    else (if p == 40 then Means (Value Nil false) else
    (if p == 50 then Means (BuiltinName builtin.Len) else (if p == 51 then Means (BuiltinName builtin.Println)
    else (if p == 60 then Means (TypeName (Defined structure)) else
    (if p == 61 then Means (TypeName int) else (if p == 62 then Means (TypeName (Defined pointer))
    else (if p == 63 then BrokenType else (if p == 64 then BrokenVariable else (if p == 65 then BrokenFunction
    else (if p == 70 then Local 70 else (if p == 71 then Local 70 else
    (if p == 72 then Local 72 else (if p == 73 then Local 72 else Means Broken))))))))))))))))))

abbrev field : ℕ → PlainType → Option Member
field p t = if p == 33 then Some (AField structure (AFieldOf int)) else (if p == 35 then Some (AField pointer (AFieldOf text)) else None)

abbrev w : World
w = record { bound = names; member = field; definition = λ s. if s.rank == 1 then PointerTo int else Struct s; implements = λ t s. false }

abbrev start : FoundSoFar
start = record { locals = no_locals; faults = []; uses = [] }

-- the types of x at 70 and of y at 72, and the faults
abbrev found : FoundSoFar → Option PlainType × List ℕ
found s = (s.locals 70, s.faults)

abbrev found_both : FoundSoFar → Option PlainType × Option PlainType × List ℕ
found_both s = (s.locals 70, s.locals 72, s.faults)

abbrev item : ExprTree → Item ExprTree
item e = record { value = e; separator = None }

-- `g()`, `f(1)`, `two()`, `t.f`, `t.s`
abbrev g : ExprTree
g = Chain (Name 21) (call 1 no_argument 2 no_link)

abbrev f : ExprTree
f = Chain (Name 20) (call 1 (argument (Number 2) None no_argument) 3 no_link)

abbrev two : ExprTree
two = Chain (Name 22) (call 1 no_argument 2 no_link)

abbrev t_f : ExprTree
t_f = Chain (Name 30) (selector 32 33 no_link)

abbrev t_s : ExprTree
t_s = Chain (Name 30) (selector 32 35 no_link)

-- `:=`, `=` and declarations

-- `x := nil`: at nil
nil_defined : (check_simple w start (Define (item (Name 70) ∷ []) 1 (item (Name 40) ∷ []))).faults ≡ 40 ∷ []
unfolding check_simple check_define defined defined_one defined_name first_of_exprs with_locals inferred inferred_type default_type rhs values_of given_faults
    all_refused refused_at nil_refused judge place_of first_token as_value value_kind
nil_defined = refl

-- `_ = nil`: at nil
nil_assigned : (check_simple w start (Assign (item (Blank 5) ∷ []) 1 (item (Name 40) ∷ []))).faults ≡ 40 ∷ []
unfolding check_simple check_assign assigned assigned_one first_of_exprs rhs values_of given_faults all_refused refused_at nil_refused judge place_of
    first_token as_value value_kind
nil_assigned = refl

-- `x, y := 1, nil`: x is an int, y is broken
types_taken : found_both (check_simple w start (Define (item (Name 70) ∷ item (Name 72) ∷ []) 1 (item (Number 2) ∷ item (Name 40) ∷ []))) ≡
    (Some int, None, 40 ∷ [])
unfolding check_simple check_define defined defined_one defined_name first_of_exprs with_locals inferred inferred_type default_type rhs values_of judge_each
    given_faults all_refused refused_at nil_refused judge place_of first_token as_value value_kind
types_taken = refl

-- `x := 1`, `x = "a"`: at the string
misfit_assigned : (check_simple w (check_simple w start (Define (item (Name 70) ∷ []) 1 (item (Number 2) ∷ [])))
    (Assign (item (Name 71) ∷ []) 3 (item (Text 4) ∷ []))).faults ≡ 4 ∷ []
unfolding check_simple check_define defined defined_one defined_name first_of_exprs with_locals inferred inferred_type default_type rhs values_of given_faults
    all_refused refused_at nil_refused judge place_of first_token as_value value_kind assigned assigned_one assignable own_type misfit fits same_underlying
    check_assign
misfit_assigned = refl

-- `x := g()`, g without results: at the statement; a use of x is broken and no fault
nothing_defined : (check_simple w (check_simple w start (Define (item (Name 70) ∷ []) 1 (item g ∷ [])))
    (Assign (item (Name 71) ∷ []) 3 (item (Text 4) ∷ []))).faults ≡ 70 ∷ []
unfolding check_simple check_define defined defined_one defined_name first_of_exprs with_locals inferred rhs values_of given_faults all_refused refused_at
    nil_refused judge place_of place_of_links first_token as_value value_kind call_of call_function misfits unless_faults all_whole assigned assigned_one
    assignable own_type check_assign
nothing_defined = refl

-- `x := 1, len(5)`: a wrong count, but of a broken value; the value is looked through
values_looked_through : (check_simple w start (Define (item (Name 70) ∷ []) 1
    (item (Number 2) ∷ item (Chain (Name 50) (call 4 (argument (Number 5) None no_argument) 6 no_link)) ∷ []))).faults ≡ 50 ∷ []
unfolding check_simple check_define defined defined_one defined_name first_of_exprs with_locals inferred rhs judge_each given_faults judge place_of
    place_of_links first_token as_value value_kind call_of call_builtin all_printed class_of all_whole
values_looked_through = refl

-- `a, b = two()` with misfits: at the first token of the call
misfit_results : (check_simple w start (Assign (item (Name 10) ∷ item (Name 11) ∷ []) 1 (item two ∷ []))).faults ≡ 22 ∷ 22 ∷ []
unfolding check_simple check_assign assigned assigned_one assignable own_type first_of_exprs rhs values_of given_faults all_refused refused_at nil_refused
    misfit fits same_type same_underlying is_named judge place_of place_of_links first_token as_value call_of call_function misfits unless_faults all_whole
misfit_results = refl

-- `x, y := two()`
results_taken : found_both (check_simple w start (Define (item (Name 70) ∷ item (Name 72) ∷ []) 1 (item two ∷ []))) ≡ (Some int, Some text, [])
unfolding check_simple check_define defined defined_one defined_name first_of_exprs with_locals inferred inferred_type default_type rhs values_of given_faults
    all_refused refused_at nil_refused judge place_of place_of_links first_token as_value call_of call_function misfits unless_faults all_whole
results_taken = refl

-- `5 = n`, `f(1) = s`: at the left side
not_assigned : (check_simple w start (Assign (item (Number 5) ∷ item f ∷ []) 6 (item (Name 11) ∷ item (Name 10) ∷ []))).faults ≡ 5 ∷ 20 ∷ []
unfolding check_simple check_assign assigned assigned_one assignable own_type first_of_exprs rhs judge_each given_faults all_refused refused_at nil_refused
    judge place_of place_of_links first_token as_value value_kind call_of call_function misfits misfit fits same_underlying unless_faults all_whole
not_assigned = refl

-- `x, t.s := 1, "a"`: no identifier, behind the dot
no_identifier : (check_simple w start (Define (item (Name 70) ∷ item t_s ∷ []) 1 (item (Number 2) ∷ item (Text 3) ∷ []))).faults ≡ 35 ∷ []
unfolding check_simple check_define defined defined_one no_name defined_name first_of_exprs with_locals inferred inferred_type default_type rhs judge_each
    given_faults all_refused refused_at nil_refused judge place_of place_of_links first_token as_value value_kind select select_member
no_identifier = refl

-- `var x int = 1, 2`: at x
local_count : (check_local w start (record {
  names = record { value = Named 70; separator = None } ∷ [];
  type_use = Some (LocalType 61);
  values =
      Some (1, item (Number 2) ∷ item (Number 3) ∷ []);
})).faults ≡ 70 ∷ []
unfolding check_local check_typed_local check_untyped_local first_of_idents ident_place named with_locals rhs judge_each given_faults all_whole judge judge_type
    named_type place_of first_token as_value value_kind
local_count = refl

-- `var x v = 1, 2` with v no type: at v alone
local_count_of_broken : (check_local w start (record {
  names = record { value = Named 70; separator = None } ∷ [];
  type_use = Some (LocalType 11);
  values =
      Some (1, item (Number 2) ∷ item (Number 3) ∷ []);
})).faults ≡ 11 ∷ []
unfolding check_local check_typed_local check_untyped_local first_of_idents ident_place named with_locals rhs judge_each given_faults all_whole judge judge_type
    named_type place_of first_token as_value value_kind
local_count_of_broken = refl

-- `var _ = nil`
local_nil : (check_local w start (record {
  names = record { value = Underscore 70; separator = None } ∷ [];
  type_use = None;
  values =
      Some (1, item (Name 40) ∷ []);
})).faults ≡ 40 ∷ []
unfolding check_local check_typed_local check_untyped_local first_of_idents ident_place named with_locals inferred inferred_type default_type rhs values_of
    given_faults
    all_refused refused_at nil_refused judge place_of first_token as_value value_kind
local_nil = refl

-- Conditions, `++`, `+=`

-- `if t.f`: behind the dot
condition_no_bool : (check_condition w start t_f).faults ≡ 33 ∷ []
unfolding check_condition value_kind condition_faults judge place_of place_of_links first_token as_value select select_member class_of
condition_no_bool = refl

-- `if nil`
condition_nil : (check_condition w start (Name 40)).faults ≡ 40 ∷ []
unfolding check_condition value_kind condition_faults judge place_of first_token as_value class_of
condition_nil = refl

-- `t.s++`: behind the dot; `5++`: at 5
step_of_text : (check_simple w start (Step t_s step.Increment 36)).faults ≡ 35 ∷ []
unfolding check_simple check_step value_kind step_faults assignable judge place_of place_of_links first_token as_value select select_member class_of
step_of_text = refl

step_of_number : (check_simple w start (Step (Number 5) step.Decrement 6)).faults ≡ 5 ∷ []
unfolding check_simple check_step value_kind step_faults assignable judge place_of first_token
step_of_number = refl

-- `t.f += "a"`: at t; `5 += n`: at 5
update_mixed : (check_simple w start (Update t_f update.Add 36 (Text 37))).faults ≡ 30 ∷ []
unfolding check_simple check_update value_kind update_faults assignable judge place_of place_of_links first_token as_value select select_member operate
    joined fits same_underlying
update_mixed = refl

update_of_number : (check_simple w start (Update (Number 5) update.Add 6 (Name 11))).faults ≡ 5 ∷ []
unfolding check_simple check_update value_kind update_faults assignable judge place_of first_token as_value
update_of_number = refl

-- Expression statements

-- `t.f`: behind the dot
value_stands : (check_simple w start (Alone t_f)).faults ≡ 33 ∷ []
unfolding check_simple check_expr_statement without_parentheses is_statement ends_in_call statement_faults judge place_of place_of_links first_token as_value
    select select_member
value_stands = refl

-- `g()`, `f(1)`, `println(n)`
calls_stand : (check_simple w (check_simple w (check_simple w start (Alone g)) (Alone f))
    (Alone (Chain (Name 51) (call 2 (argument (Name 11) None no_argument) 3 no_link)))).faults ≡ []
unfolding check_simple check_expr_statement without_parentheses is_statement ends_in_call without_last may_be_statement statement_faults judge place_of
    place_of_links first_token as_value value_kind call_of call_function call_builtin all_printed class_of misfits misfit fits same_underlying unless_faults
    all_whole
calls_stand = refl

-- `(f(1))` and `((g()))`: at the parenthesis, whatever results there are; `len(s)`, `int(n)`: at the first token
call_in_parentheses : (check_simple w start (Alone (Paren 1 f 4))).faults ≡ 1 ∷ []
unfolding check_simple check_expr_statement without_parentheses is_statement statement_faults judge place_of place_of_links first_token as_value value_kind
    call_of call_function misfits misfit fits same_underlying unless_faults all_whole
call_in_parentheses = refl

empty_call_in_parentheses : (check_simple w start (Alone (Paren 1 (Paren 3 g 6) 7))).faults ≡ 1 ∷ []
unfolding check_simple check_expr_statement without_parentheses is_statement statement_faults judge place_of place_of_links first_token as_value value_kind
    call_of call_function misfits misfit fits same_underlying unless_faults all_whole
empty_call_in_parentheses = refl

length_stands : (check_simple w start (Alone (Chain (Name 50) (call 2 (argument (Name 10) None no_argument) 3 no_link)))).faults ≡ 50 ∷ []
unfolding check_simple check_expr_statement without_parentheses is_statement ends_in_call without_last may_be_statement statement_faults judge place_of
    place_of_links first_token as_value value_kind call_of call_builtin all_printed class_of all_whole
length_stands = refl

conversion_stands : (check_simple w start (Alone (Chain (Name 61) (call 2 (argument (Name 11) None no_argument) 3 no_link)))).faults ≡ 61 ∷ []
unfolding check_simple check_expr_statement without_parentheses is_statement ends_in_call without_last may_be_statement statement_faults judge place_of
    place_of_links first_token as_value value_kind call_of convert fits same_type all_whole
conversion_stands = refl

-- `return`

-- `return (s)` of an int: at the parenthesis
misfit_in_parentheses : (check_return w start 80 (Wants (Some int) ∷ []) (item (Paren 81 (Name 10) 82) ∷ [])).faults ≡ 81 ∷ []
unfolding check_return returned rhs values_of all_refused refused_at nil_refused misfit fits same_type same_underlying is_named judge place_of first_token
    as_value value_kind
misfit_in_parentheses = refl

-- `return "a", 1` of one result, also where it is broken: at the `return`
return_count : (check_return w start 80 (Wants None ∷ []) (item (Text 81) ∷ item (Number 82) ∷ [])).faults ≡ 80 ∷ []
unfolding check_return returned rhs judge_each judge place_of first_token as_value value_kind all_whole
return_count = refl

-- `return g()` where neither has results
nothing_returned : (check_return w start 80 [] (item g ∷ [])).faults ≡ []
unfolding check_return returned rhs values_of all_refused refused_at nil_refused judge place_of place_of_links first_token as_value call_of call_function
    misfits unless_faults all_whole
nothing_returned = refl

-- `return two()` with a misfit: at the first token of the call
misfit_returned : (check_return w start 80 (Wants (Some int) ∷ Wants (Some int) ∷ []) (item two ∷ [])).faults ≡ 22 ∷ []
unfolding check_return returned rhs values_of all_refused refused_at nil_refused misfit fits same_type same_underlying is_named judge place_of
    place_of_links first_token as_value call_of call_function misfits unless_faults all_whole
misfit_returned = refl

-- Headers

abbrev receiver : ℕ → Option ℕ → ReceiverTree
receiver n star = record { lparen = 1; name = Named 70; star = star; type_name = n; comma = None; rparen = 4 }

-- `(x T)`, `(x *T)`
struct_receives : found (check_receiver w start (receiver 60 None)) ≡ (Some (Defined structure), [])
unfolding check_receiver judge_receiver receiver_base receiver_or_fault may_receive named_type with_locals named
struct_receives = refl

pointer_receives : found (check_receiver w start (receiver 60 (Some 2))) ≡ (Some (Pointer (Defined structure)), [])
unfolding check_receiver judge_receiver receiver_base receiver_or_fault may_receive named_type with_locals named
pointer_receives = refl

-- `(x int)`, a type whose underlying type is a pointer, a variable: at the name
int_receives : found (check_receiver w start (receiver 61 None)) ≡ (None, 61 ∷ [])
unfolding check_receiver judge_receiver receiver_base receiver_or_fault may_receive named_type with_locals named
int_receives = refl

pointer_type_receives : found (check_receiver w start (receiver 62 (Some 2))) ≡ (None, 62 ∷ [])
unfolding check_receiver judge_receiver receiver_base receiver_or_fault may_receive named_type with_locals named
pointer_type_receives = refl

variable_receives : found (check_receiver w start (receiver 11 None)) ≡ (None, 11 ∷ [])
unfolding check_receiver judge_receiver receiver_base receiver_or_fault may_receive named_type with_locals named
variable_receives = refl

-- a broken type is no fault again
broken_type_receives : found (check_receiver w start (receiver 63 None)) ≡ (None, [])
unfolding check_receiver judge_receiver receiver_base receiver_or_fault may_receive named_type with_locals named
broken_type_receives = refl

-- `func F(x F)`: a name that is no type, in the place of one
function_as_type : found (check_param w start (record { names = record { value = Named 70; separator = None } ∷ []; type_use = LocalType 65 })) ≡
    (None, 65 ∷ [])
unfolding check_param judge_type named_type with_locals named
function_as_type = refl

abbrev header : Option ReceiverTree → FuncTree
header r = record {
  receiver = r;
  name = 6;
  lparen = 7;
  params = record { value = record { names = record { value = Named 70; separator = None } ∷ []; type_use = LocalType 63 }; separator = None } ∷ [];
  rparen = 9;
  result = no_result;
  body = block 10 no_statement 11;
}

-- `func init(x T)`: at the name, also where T is broken; a method may be named so
init_with_parameter : is_bad_init true (header None) [] ≡ true
unfolding is_bad_init
init_with_parameter = refl

init_as_method : is_bad_init true (header (Some (receiver 60 None))) [] ≡ false
unfolding is_bad_init
init_as_method = refl

-- Package-level declarations

abbrev global : ℕ → GlobalTree
global t = record { names = record { value = 90; separator = None } ∷ []; type_use = LocalType t; values = None }

-- `var v v`, at the second v: a name that is no type, though it is broken itself
variable_as_type : global_faults w (global 64) ≡ 64 ∷ []
unfolding global_faults value_faults judge_type named_type
variable_as_type = refl

-- `var v T` with T broken
broken_global : global_faults w (global 63) ≡ []
unfolding global_faults value_faults judge_type named_type
broken_global = refl

-- `T.y` as a type: at T
type_as_package : (judge_type w (ImportedType 60 1 2)).faults ≡ 60 ∷ []
unfolding judge_type imported_type
type_as_package = refl

-- `var x int = "a"`: at the literal
global_misfit : global_faults w (record {
  names = record { value = 90; separator = None } ∷ [];
  type_use = LocalType 61;
  values =
      Some (1, record { value = String 91; separator = None } ∷ []);
}) ≡ 91 ∷ []
unfolding global_faults value_faults literal_faults all_refused refused_at nil_refused misfit fits same_underlying judge_type named_type
global_misfit = refl

-- `var x T = 1, 2`: at x, also where T is broken
global_count : global_faults w (record {
  names = record { value = 90; separator = None } ∷ [];
  type_use = LocalType 63;
  values =
      Some (1, record { value = Integer 91; separator = None } ∷ record { value = Integer 92; separator = None } ∷ []);
}) ≡ 90 ∷ []
unfolding global_faults value_faults literal_faults first_name judge_type named_type
global_count = refl
