-- The judgement of small expressions, by computation: the token of each kind of fault.
use Rattle.std.proofs.Common.{ℕ, ◌≡◌, ◌==◌, [], ◌∷◌, List, Option, Some, None, true, false, refl, map, if◌then◌else◌}
use Rattle.go_ast.specs.declared.syntax.BinaryOp.TheVariants as op
use Rattle.go_ast.specs.declared.syntax.PrefixOp.TheVariants as prefix
use Rattle.go_ast.specs.Tree.{ExprTree, Number, Text, Name, Composite, Paren, Prefix, Address, Chain, Binary, no_operand, operand, LinkTrees, no_link}
use Rattle.go_ast.specs.Tree.{selector, index, call, ArgumentTrees, no_argument, argument, TypeTree, literal, ElementTrees, no_element, element}
use Rattle.go_ast.specs.Tree.{Local as LocalType, Imported as ImportedType, Pointer as PointerType, Slice as SliceType}
use Rattle.types_expr.specs.declared.types.Basic.TheVariants as basic
use Rattle.types_expr.specs.declared.types.Builtin.TheVariants as builtin
use Rattle.types_expr.specs.declared.symbol.Symbol.{Symbol}
use Rattle.types_expr.specs.Places.{first_token, place_of, place_of_links}
use Rattle.types_expr.specs.Types.{PlainType, BasicType, Defined, Pointer, Slice, Struct, Typed, Untyped, Nil, Meaning, Value, TypeName, Function, BuiltinName}
use Rattle.types_expr.specs.Types.{Package, Broken, same_type, same_underlying, is_named, has_nil, AFieldOf}
use Rattle.types_expr.specs.World.{World, Bound, Means, BrokenVariable, BrokenFunction, BrokenType, Member, AField, AMethod, ABrokenMethod, no_locals}
use Rattle.types_expr.specs.Operations.{fits, operate, joined, class_of, family_of, result_of, is_nil, prefixed}
use Rattle.types_expr.specs.Judge.{judge, judge_type, as_value, value_kind, select, select_member, all_whole, misfit, misfits, all_misfits, unless_faults}
use Rattle.types_expr.specs.Judge.{OfMember, entering, enterings, all_enterings}
use Rattle.types_expr.specs.Judge.{call_function, convert, append, all_printed, call_builtin, call_of, bad_index, indexed, index_of, operation, prefix_of}
use Rattle.types_expr.specs.Judge.{named_type, imported_type, address_of}

abbrev int : PlainType
int = BasicType basic.Int

abbrev string : PlainType
string = BasicType basic.String

abbrev here : Symbol
here = record { «package» = []; rank = 7 }

abbrev member_at : ℕ → Symbol
member_at n = record { «package» = []; rank = n }

-- What the names at tokens mean. 10: a string variable s; 11: an int variable n; 12: a variable t of the struct type T; 13: a
-- variable p of type *T; 14: a variable of type []int; 15: nil; 16: a broken variable; 20: a function f(int) string; 21: g();
-- 22: h() (int, string); 23: a broken function; 30: the type T; 31: the type int; 32: a broken type; 40: len; 41: append; 42: print; 43: panic;
-- 50: an imported package b; 51: a function f(int) string of it
abbrev meaning_at : ℕ → Bound
meaning_at p =
    if p == 10 then Means (Value (Typed string) true) else
    (if p == 11 then Means (Value (Typed int) true) else (if p == 12 then Means (Value (Typed (Defined here)) true)
    else (if p == 13 then Means (Value (Typed (Pointer (Defined here))) true) else
    (if p == 14 then Means (Value (Typed (Slice int)) true) else (if p == 15 then Means (Value Nil false)
    else (if p == 16 then BrokenVariable else (if p == 20 then Means (Function (record { parameters = int ∷ []; results = string ∷ [] }))
    else (if p == 21 then Means (Function (record { parameters = []; results = [] })) else
    (if p == 22 then Means (Function (record { parameters = []; results = int ∷ string ∷ [] }))
    else (if p == 23 then BrokenFunction else (if p == 30 then Means (TypeName (Defined here)) else
    (if p == 31 then Means (TypeName int) else (if p == 32 then BrokenType
    else (if p == 40 then Means (BuiltinName builtin.Len) else
    (if p == 41 then Means (BuiltinName builtin.Append) else
    (if p == 42 then Means (BuiltinName builtin.Print) else (if p == 43 then Means (BuiltinName builtin.Panic)
    else (if p == 50 then Means Package else (if p == 51 then Means (Function (record { parameters = int ∷ []; results = string ∷ [] })) else Means
    Broken)))))))))))))))))))

-- what the names behind dots and the keys are. 60 and 64: the field x of T, an int; 61: the method m(int); 62: the method q() of *T; 63: a broken method
abbrev member_of : ℕ → Option Member
member_of p = if p == 60 then Some (AField (member_at 0) (AFieldOf int)) else
    (if p == 64 then Some (AField (member_at 0) (AFieldOf int)) else (if p == 61 then Some (AMethod (member_at 1) false
    (record { parameters = int ∷ []; results = [] }))
    else (if p == 62 then Some (AMethod (member_at 2) true (record { parameters = []; results = [] })) else
    (if p == 63 then Some (ABrokenMethod (member_at 3)) else None))))

abbrev w : World
w = record { bound = meaning_at; member = λ p t. member_of p; definition = λ s. Struct s; implements = λ t s. false }

abbrev faults_of : ExprTree → List ℕ
faults_of e = (judge w no_locals e).faults

abbrev meaning_of : ExprTree → Meaning
meaning_of e = (judge w no_locals e).meaning

abbrev dot : ℕ → LinkTrees
dot n = selector 99 n no_link

abbrev called : ArgumentTrees → LinkTrees
called xs = call 99 xs 99 no_link

abbrev at_index : ExprTree → LinkTrees
at_index e = index 99 e 99 no_link

abbrev one : ExprTree → ArgumentTrees
one e = argument e None no_argument

abbrev two : ExprTree → ExprTree → ArgumentTrees
two a b = argument a None (one b)

abbrev value : ExprTree → ElementTrees → ElementTrees
value e rest = element None e None rest

abbrev keyed : ℕ → ExprTree → ElementTrees → ElementTrees
keyed k e rest = element (Some (k, 99)) e None rest

abbrev brace : TypeTree → ElementTrees → ExprTree
brace t es = Composite (literal t 99 es 99)

abbrev minus : ExprTree → ExprTree → ExprTree
minus a b = Binary a (operand op.Subtract 98 b no_operand)

abbrev equals : ExprTree → ExprTree → ExprTree
equals a b = Binary a (operand op.Equal 98 b no_operand)

-- expressions, with the places of their faults
abbrev expressions : List (ExprTree × List ℕ)
expressions =
    -- `-s`, `!1`, `*n`: the operator
    (Prefix prefix.Minus 9 (Name 10), 9 ∷ []) ∷
    (Prefix prefix.Not 9 (Number 70), 9 ∷ []) ∷
    (Prefix prefix.Deref 9 (Name 11), 9 ∷ []) ∷
    -- `n[0]` with n no slice: the first token of the index expression
    (Chain (Name 11) (at_index (Number 70)), 11 ∷ []) ∷
    -- `s["a"]`: the index; also behind what is no slice
    (Chain (Name 14) (at_index (Text 70)), 70 ∷ []) ∷
    (Chain (Name 11) (at_index (Text 70)), 70 ∷ []) ∷
    -- an argument that does not fit: the argument, behind the dot for a selector, at the parenthesis for one in parentheses
    (Chain (Name 20) (called (one (Text 70))), 70 ∷ []) ∷
    (Chain (Name 20) (called (one (Chain (Name 50) (selector 99 51 (called (one (Number 70))))))), 50 ∷ []) ∷
    (Chain (Name 41) (called (two (Name 14) (Paren 71 (Text 72) 73))), 71 ∷ []) ∷
    (Chain (Name 41) (called (two (brace (SliceType 74 75 (LocalType 30)) no_element) (Chain (Name 12) (dot 60)))), 60 ∷ []) ∷
    -- `x + "a"`: the first token of the binary
    (minus (Chain (Name 12) (dot 60)) (Text 70), 12 ∷ []) ∷
    -- `nil == nil`: the first nil; a slice is compared with nil alone
    (equals (Name 15) (Name 15), 15 ∷ []) ∷
    (equals (Name 14) (Name 14), 14 ∷ []) ∷
    -- `T(x)` that cannot convert, or has a wrong count: the first token of the conversion
    (Chain (Name 30) (called (one (Number 70))), 30 ∷ []) ∷
    (Chain (Name 31) (called (two (Number 70) (Number 71))), 31 ∷ []) ∷
    -- `len(5)`, `print(nil)`, `append(5, 1)`, a wrong count of a builtin: the builtin's name
    (Chain (Name 40) (called (one (Number 70))), 40 ∷ []) ∷
    (Chain (Name 42) (called (one (Name 15))), 42 ∷ []) ∷
    (Chain (Name 41) (called (two (Number 70) (Number 71))), 41 ∷ []) ∷
    (Chain (Name 41) (called (two (Name 14) (Text 71))), 71 ∷ []) ∷
    (Chain (Name 43) (called no_argument), 43 ∷ []) ∷
    (Chain (Name 41) (called no_argument), 41 ∷ []) ∷
    (Chain (Name 40) (called (two (Name 10) (Name 10))), 40 ∷ []) ∷
    -- `x(1)`, `t.f(1)` with x, f no functions, and a wrong count: the first token of the call
    (Chain (Name 11) (called (one (Number 70))), 11 ∷ []) ∷
    (Chain (Name 12) (selector 99 60 (called (one (Number 70)))), 12 ∷ []) ∷
    (Chain (Name 12) (selector 99 61 (called no_argument)), 12 ∷ []) ∷
    -- the innermost expression alone: `x(y.z)` with x no function and y.z no field
    (Chain (Name 11) (called (one (Chain (Name 12) (dot 66)))), 66 ∷ []) ∷
    -- no member, and a method of *T on a T that is not addressable: the name behind the dot
    (Chain (Name 12) (dot 66), 66 ∷ []) ∷
    (Chain (Number 70) (dot 60), 60 ∷ []) ∷
    (Chain (brace (LocalType 30) no_element) (selector 99 62 (called no_argument)), 62 ∷ []) ∷
    (Chain (Name 12) (selector 99 62 (called no_argument)), []) ∷
    -- a function, method, type, package or builtin where a value is wanted: its name; a call without one result: its first token
    (minus (Number 70) (Name 20), 20 ∷ []) ∷
    (minus (Number 70) (Chain (Name 12) (dot 61)), 61 ∷ []) ∷
    (minus (Number 70) (Name 30), 30 ∷ []) ∷
    (minus (Number 70) (Name 50), 50 ∷ []) ∷
    (Chain (Name 30) (dot 60), 30 ∷ []) ∷
    (Chain (Name 50) (selector 99 51 (at_index (Number 70))), 51 ∷ []) ∷
    (minus (Number 70) (Chain (Name 21) (called no_argument)), 21 ∷ []) ∷
    (Chain (Name 22) (call 99 no_argument 99 (called (one (Name 16)))), 22 ∷ []) ∷
    -- `(f)(1)`, `(T)(x)`, `(t.m)()`, `(b).X`: inside the parentheses, at the name
    (Chain (Paren 99 (Name 20) 99) (called (one (Number 70))), 20 ∷ []) ∷
    (Chain (Paren 99 (Name 30) 99) (called (one (Name 12))), 30 ∷ []) ∷
    (Chain (Paren 99 (Chain (Name 12) (dot 61)) 99) (called (one (Number 70))), 61 ∷ []) ∷
    (Chain (Paren 99 (Name 50) 99) (dot 51), 50 ∷ []) ∷
    -- an element that does not fit: the value; an unkeyed element of a struct literal: the literal's first token, once
    (brace (SliceType 74 75 (LocalType 31)) (value (Number 70) (value (Text 71) no_element)), 71 ∷ []) ∷
    (brace (LocalType 30) (value (Number 70) (value (Number 71) no_element)), 30 ∷ []) ∷
    (brace (LocalType 30) (keyed 60 (Text 70) no_element), 70 ∷ []) ∷
    -- The key: one in a slice literal, whose value still has to fit; one that is no field; a method; a field's second key.
    (brace (SliceType 74 75 (LocalType 31)) (keyed 60 (Text 70) no_element), 60 ∷ 70 ∷ []) ∷
    (brace (LocalType 30) (keyed 66 (Text 70) no_element), 66 ∷ []) ∷
    (brace (LocalType 30) (keyed 61 (Text 70) no_element), 61 ∷ []) ∷
    (brace (LocalType 30) (keyed 60 (Number 70) (keyed 64 (Text 71) no_element)), 64 ∷ []) ∷
    -- a literal of a type that is neither struct nor slice: its first token; a key in it: the key instead
    (brace (LocalType 31) (value (Text 70) no_element), 31 ∷ []) ∷
    (brace (LocalType 31) (keyed 60 (Text 70) no_element), 60 ∷ []) ∷
    -- what is broken is no fault again
    (Chain (Name 23) (called (one (Text 70))), []) ∷
    (minus (Name 16) (Text 70), []) ∷
    (Chain (Name 12) (selector 99 63 (called no_argument)), []) ∷
    (brace (LocalType 32) (keyed 66 (Chain (Name 12) (dot 66)) no_element), 66 ∷ []) ∷
    []

-- types, with the places of their faults
abbrev types : List (TypeTree × List ℕ)
types =
    -- `b.T` as a Type: behind a variable or nil at T; behind a type, function or builtin at b; T itself if it is no type
    (ImportedType 11 99 51, 51 ∷ []) ∷
    (ImportedType 15 99 51, 51 ∷ []) ∷
    (ImportedType 16 99 51, 51 ∷ []) ∷
    (ImportedType 30 99 51, 30 ∷ []) ∷
    (ImportedType 20 99 51, 20 ∷ []) ∷
    (PointerType 98 (ImportedType 40 99 51), 40 ∷ []) ∷
    (ImportedType 50 99 51, 51 ∷ []) ∷
    -- a name that is bound to no type is a fault in the place of a Type, broken or not; a broken type is none
    (LocalType 16, 16 ∷ []) ∷
    (LocalType 32, []) ∷
    []

-- expressions, with their meanings
abbrev values : List (ExprTree × Meaning)
values =
    (Prefix prefix.Deref 9 (Name 13), Value (Typed (Defined here)) true) ∷
    (equals (Name 14) (Name 15), Value (Untyped basic.Bool) false) ∷
    (Chain (Address 9 (literal (LocalType 30) 99 no_element 99)) no_link, Value (Typed (Pointer (Defined here))) false) ∷
    []

faults_stand : map (λ e. faults_of e.0) expressions ≡ map (λ e. e.1) expressions
unfolding first_token place_of place_of_links same_type same_underlying is_named has_nil fits operate joined class_of family_of result_of is_nil prefixed
    judge judge_type as_value value_kind select select_member all_whole misfit misfits all_misfits unless_faults call_function convert append all_printed
    entering enterings all_enterings call_builtin call_of bad_index indexed index_of operation prefix_of named_type imported_type address_of
faults_stand = refl

types_stand : map (λ t. (judge_type w t.0).faults) types ≡ map (λ t. t.1) types
unfolding judge_type named_type imported_type
types_stand = refl

values_stand : map (λ e. meaning_of e.0) values ≡ map (λ e. e.1) values
unfolding first_token place_of place_of_links same_type same_underlying is_named has_nil fits operate joined class_of family_of result_of is_nil prefixed
    judge judge_type as_value value_kind select select_member all_whole misfit misfits all_misfits unless_faults call_function convert append all_printed
    entering enterings all_enterings call_builtin call_of bad_index indexed index_of operation prefix_of named_type imported_type address_of
values_stand = refl

-- the members that are used, in source order
uses_found : (judge w no_locals (brace (LocalType 30) (keyed 60 (Chain (Name 13) (dot 64)) no_element))).uses ≡ OfMember
    (record { place = 60; before = Defined here; member = Some (member_at 0) }) ∷ OfMember
    (record { place = 64; before = Pointer (Defined here); member = Some (member_at 0) }) ∷ []
unfolding first_token place_of place_of_links same_type same_underlying is_named has_nil fits operate joined class_of family_of result_of is_nil prefixed
    judge judge_type as_value value_kind select select_member all_whole misfit misfits all_misfits unless_faults call_function convert append all_printed
    entering enterings all_enterings call_builtin call_of bad_index indexed index_of operation prefix_of named_type imported_type address_of
uses_found = refl
