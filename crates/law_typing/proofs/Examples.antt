-- The meanings of small expressions by the rules, and some expressions without a meaning.
use Rattle.std.proofs.Common.{ℕ, ◌==◌, [], ◌∷◌, Option, Some, None, true, false, refl, sym, inl, if◌then◌else◌}
use Rattle.go_ast.specs.declared.syntax.BinaryOp.TheVariants as op
use Rattle.go_ast.specs.Tree.{ExprTree}
use Rattle.go_ast.specs.Tree as tree
use Rattle.types_expr.specs.declared.types.Basic.TheVariants as basic
use Rattle.types_expr.specs.declared.types.Builtin.TheVariants as builtin
use Rattle.types_expr.specs.declared.symbol.Symbol.{Symbol}
use Rattle.types_expr.specs.Places.{first_token, place_of, place_of_links}
use Rattle.types_expr.specs.Types.{PlainType, BasicType, Defined, Struct, Typed, Meaning, Value, TypeName, Function, BuiltinName, Broken, same_type, AFieldOf}
use Rattle.types_expr.specs.Types.{same_underlying, is_named, has_nil}
use Rattle.types_expr.specs.World.{World, Means, Member, AField, AMethod, no_locals}
use Rattle.types_expr.specs.Operations.{fits, operate, joined, class_of, family_of, result_of, is_nil, prefixed}
use Rattle.types_expr.specs.Judge.{judge, judge_type, as_value, value_kind, select, select_member, all_whole, misfit, misfits, all_misfits, unless_faults}
use Rattle.types_expr.specs.Judge.{call_function, convert, append, all_printed, call_builtin, call_of, bad_index, indexed, index_of, operation, prefix_of}
use Rattle.types_expr.specs.Judge.{named_type, imported_type, address_of}
use Rattle.law_typing.specs.Fits.{untyped, no_values, then_fits, identical}
use Rattle.law_typing.specs.Operators.{by_type, a_constant, right_fits, adds}
use Rattle.law_typing.specs.Names.{a_bound, named}
use Rattle.law_typing.specs.Links.{method_on_variable, one, function}
use Rattle.law_typing.specs.Meanings.{HasMeaning, number, name, binary, chain, composite, no_link, selector, call, no_operand, operand, no_argument, argument}
use Rattle.law_typing.specs.Meanings.{struct_literal, no_field, field, first}
use Rattle.law_typing.proofs.Judgements.{value_whole, function_whole}
use Rattle.law_typing.proofs.Soundness.{sound}

abbrev int : PlainType
int = BasicType basic.Int

abbrev string : PlainType
string = BasicType basic.String

abbrev symbol : ℕ → Symbol
symbol n = record { «package» = []; rank = n }

abbrev thing : PlainType
thing = Defined (symbol 0)

-- 10: a variable n, an int; 11: s, a string; 12: t, of the struct type T; 13: a function f(int) string; 14: len; 15: the type T
abbrev meaning_at : ℕ → Meaning
meaning_at p =
    if p == 10 then Value (Typed int) true else (if p == 11 then Value (Typed string) true else (if p == 12 then Value (Typed thing) true
    else (if p == 13 then Function (record { parameters = int ∷ []; results = string ∷ [] }) else
    (if p == 14 then BuiltinName builtin.Len else (if p == 15 then TypeName thing else Broken)))))

-- 20: the field x of T, an int; 21: the method m() of *T
abbrev member_at : ℕ → Option Member
member_at p = if p == 20 then Some (AField (symbol 1) (AFieldOf int)) else
    (if p == 21 then Some (AMethod (symbol 2) true (record { parameters = []; results = [] })) else None)

abbrev w : World
w = record { bound = λ p. Means (meaning_at p); member = λ p t. member_at p; definition = λ s. Struct s; implements = λ t s. false }

abbrev plus : ExprTree → ExprTree → ExprTree
plus a b = tree.Binary a (tree.operand op.Add 90 b tree.no_operand)

abbrev called : ExprTree → ExprTree → ExprTree
called f a = tree.Chain f (tree.call 91 (tree.argument a None tree.no_argument) 92 tree.no_link)

abbrev dot : ExprTree → ℕ → ExprTree
dot x n = tree.Chain x (tree.selector 93 n tree.no_link)

abbrev empty : ExprTree
empty = tree.Composite (tree.literal (tree.Local 15) 94 tree.no_element 95)

abbrev with_x : ExprTree → ExprTree
with_x e = tree.Composite (tree.literal (tree.Local 15) 94 (tree.element (Some (20, 96)) e None tree.no_element) 95)

-- `n + 1` is an int
sum_means : HasMeaning w no_locals (plus (tree.Name 10) (tree.Number 30)) (Value (Typed int) false)
sum_means = binary (name (a_bound refl value_whole)) (operand number (adds (right_fits a_constant (untyped refl)) (inl (by_type refl))) no_operand)

-- `f(n + 1)` is a string
call_means : HasMeaning w no_locals (called (tree.Name 13) (plus (tree.Name 10) (tree.Number 30))) (Value (Typed string) false)
call_means = chain (name (a_bound refl function_whole)) (call (argument sum_means no_argument) (function (then_fits identical no_values) one) no_link)

-- `t.m`, with t a variable and m a method of `*T`, is a method
method_means : HasMeaning w no_locals (dot (tree.Name 12) 21) (Function (record { parameters = []; results = [] }))
method_means = chain (name (a_bound refl value_whole)) (selector (method_on_variable refl) no_link)

-- `T{x: 1}` is a T
literal_means : HasMeaning w no_locals (with_x (tree.Number 30)) (Value (Typed thing) false)
literal_means = composite (struct_literal (named refl) refl (field refl first number (untyped refl) no_field))

abbrev MeansNothing : ExprTree → Type 0
MeansNothing e = (m : Meaning) → HasMeaning w no_locals e m → ⊥

-- `n + s`
no_sum : MeansNothing (plus (tree.Name 10) (tree.Name 11))
unfolding first_token place_of place_of_links same_type same_underlying is_named has_nil fits operate joined class_of family_of result_of is_nil prefixed
    judge judge_type as_value value_kind select select_member all_whole misfit misfits all_misfits unless_faults call_function convert append all_printed
    call_builtin call_of bad_index indexed index_of operation prefix_of named_type imported_type address_of
no_sum m h = let a = sound w no_locals h in a.whole (sym a.meaning)

-- `f(s)`
no_call : MeansNothing (called (tree.Name 13) (tree.Name 11))
unfolding first_token place_of place_of_links same_type same_underlying is_named has_nil fits operate joined class_of family_of result_of is_nil prefixed
    judge judge_type as_value value_kind select select_member all_whole misfit misfits all_misfits unless_faults call_function convert append all_printed
    call_builtin call_of bad_index indexed index_of operation prefix_of named_type imported_type address_of
no_call m h = let a = sound w no_locals h in a.whole (sym a.meaning)

-- `len(n)`
no_length : MeansNothing (called (tree.Name 14) (tree.Name 10))
unfolding first_token place_of place_of_links same_type same_underlying is_named has_nil fits operate joined class_of family_of result_of is_nil prefixed
    judge judge_type as_value value_kind select select_member all_whole misfit misfits all_misfits unless_faults call_function convert append all_printed
    call_builtin call_of bad_index indexed index_of operation prefix_of named_type imported_type address_of
no_length m h = let a = sound w no_locals h in a.whole (sym a.meaning)

-- `T{}.m`, with m a method of `*T`
no_method : MeansNothing (dot empty 21)
unfolding first_token place_of place_of_links same_type same_underlying is_named has_nil fits operate joined class_of family_of result_of is_nil prefixed
    judge judge_type as_value value_kind select select_member all_whole misfit misfits all_misfits unless_faults call_function convert append all_printed
    call_builtin call_of bad_index indexed index_of operation prefix_of named_type imported_type address_of
no_method m h = let a = sound w no_locals h in a.whole (sym a.meaning)

-- `T{x: s}`
no_literal : MeansNothing (with_x (tree.Name 11))
unfolding first_token place_of place_of_links same_type same_underlying is_named has_nil fits operate joined class_of family_of result_of is_nil prefixed
    judge judge_type as_value value_kind select select_member all_whole misfit misfits all_misfits unless_faults call_function convert append all_printed
    call_builtin call_of bad_index indexed index_of operation prefix_of named_type imported_type address_of
no_literal m h = let a = sound w no_locals h in a.whole (sym a.meaning)
