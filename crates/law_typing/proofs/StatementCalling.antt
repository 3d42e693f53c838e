-- Expression statements, and the operators of assignments `op=`.
use Rattle.std.proofs.Common.{ℕ, ◌≡◌, Bool, true, false, if◌then◌else◌, [], refl, sym, ap, ◌∙◌, subst, true≢false}
use Rattle.go_ast.specs.declared.syntax.BinaryOp.{BinaryOp}
use Rattle.go_ast.specs.declared.syntax.UpdateOp.{UpdateOp}
use Rattle.go_ast.specs.declared.syntax.UpdateOp.TheVariants as update
use Rattle.go_ast.specs.Tree.{ExprTree, LinkTrees}
use Rattle.go_ast.specs.Tree as tree
use Rattle.types_expr.specs.declared.types.Builtin.TheVariants as builtin
use Rattle.types_expr.specs.Types.{PlainType, ValueKind, Typed, Meaning, Value, TypeName, Function, BuiltinName, Package, Results, Broken}
use Rattle.types_expr.specs.World.{World, Locals}
use Rattle.types_expr.specs.Judge.{judge}
use Rattle.types_stmt.specs.Simple.{ends_in_call, unless_end, without_last, may_be_statement, is_statement, statement_faults, binary_of}
use Rattle.law_typing.specs.Names.{IsNotBroken}
use Rattle.law_typing.specs.Fits.{FitsType, identical}
use Rattle.law_typing.specs.Operators.{IsUntyped, HaveCommonKind, of_one_type, right_fits, left_fits}
use Rattle.law_typing.specs.Operators.{of_one_kind, IsOrderOperator, IsEquality, IsLogic, Operates, adds}
use Rattle.law_typing.specs.Operators.{computes, orders, connects, compares, compares_with_nil}
use Rattle.law_typing.specs.Meanings.{HasMeaning}
use Rattle.law_typing.proofs.BrokenRules.{no_fault}
use Rattle.law_typing.proofs.Soundness.{sound}
use Rattle.law_typing.proofs.Completeness.{complete}
use Rattle.law_typing.proofs.Judgements.{function_whole}
use Rattle.law_typing.specs.Simple.{EndsInCall, the_call, behind_selector, behind_index, behind_call, MayBeStatement, a_function, a_panic, a_print}
use Rattle.law_typing.specs.Simple.{a_println, Updates, by_sum, by_difference, by_product, by_quotient, by_remainder}

-- links that end in a call

pub end_true : {links front : LinkTrees} → EndsInCall links front → ends_in_call links ≡ true
unfolding ends_in_call
end_true the_call = refl
end_true (behind_selector e) = end_true e
end_true (behind_index e) = end_true e
end_true (behind_call {rest = tree.no_link} e) = refl
end_true (behind_call {rest = tree.selector d n more} e) = end_true e
end_true (behind_call {rest = tree.index o i c more} e) = end_true e
end_true (behind_call {rest = tree.call o xs c more} e) = end_true e

kept : (rest links : LinkTrees) → ends_in_call rest ≡ true → unless_end rest links ≡ links
unfolding ends_in_call
kept tree.no_link links h = absurd (true≢false (sym h))
kept (tree.selector d n more) links h = refl
kept (tree.index o e c more) links h = refl
kept (tree.call o xs c more) links h = refl

pub front_is : {links front : LinkTrees} → EndsInCall links front → without_last links ≡ front
unfolding without_last
front_is the_call = refl
front_is (behind_selector {d} {n} {rest} e) = kept rest (tree.selector d n (without_last rest)) (end_true e) ∙ ap (λ z. tree.selector d n z) (front_is e)
front_is (behind_index {o} {c} {e = x} {rest = rest} e) = kept rest (tree.index o x c (without_last rest)) (end_true e)
    ∙ ap (λ z. tree.index o x c z) (front_is e)
front_is (behind_call {o} {c} {xs} {rest} e) = kept rest (tree.call o xs c (without_last rest)) (end_true e) ∙ ap (λ z. tree.call o xs c z) (front_is e)

before_last : (links whole rest : LinkTrees) → unless_end rest whole ≡ whole → EndsInCall links whole → EndsInCall links (unless_end rest whole)
before_last links whole rest e h = subst (λ z. EndsInCall links z) (sym e) h

pub true_end : (links : LinkTrees) → ends_in_call links ≡ true → EndsInCall links (without_last links)
unfolding ends_in_call without_last
true_end tree.no_link h = absurd (true≢false (sym h))
true_end (tree.selector d n rest) h = before_last (tree.selector d n rest) (tree.selector d n (without_last rest)) rest (kept rest (tree.selector d n
    (without_last rest)) h) (behind_selector (true_end rest h))
true_end (tree.index o e c rest) h = before_last (tree.index o e c rest) (tree.index o e c (without_last rest)) rest (kept rest (tree.index o e c
    (without_last rest)) h) (behind_index (true_end rest h))
true_end (tree.call o xs c tree.no_link) h = the_call
true_end (tree.call o xs c (tree.selector d n rest)) h = behind_call (true_end (tree.selector d n rest) h)
true_end (tree.call o xs c (tree.index p e q rest)) h = behind_call (true_end (tree.index p e q rest) h)
true_end (tree.call o xs c (tree.call p ys q rest)) h = behind_call (true_end (tree.call p ys q rest) h)

-- operands whose calls may be statements

stand_true : {m : Meaning} → MayBeStatement m → may_be_statement m ≡ true
unfolding may_be_statement
stand_true a_function = refl
stand_true a_panic = refl
stand_true a_print = refl
stand_true a_println = refl

true_stand : (m : Meaning) → may_be_statement m ≡ true → MayBeStatement m × IsNotBroken m
unfolding may_be_statement
true_stand (Function s) h = (a_function, function_whole)
true_stand (BuiltinName builtin.Panic) h = (a_panic, λ q. cc)
true_stand (BuiltinName builtin.Print) h = (a_print, λ q. cc)
true_stand (BuiltinName builtin.Println) h = (a_println, λ q. cc)
true_stand (BuiltinName builtin.Append) h = absurd (true≢false (sym h))
true_stand (BuiltinName builtin.Len) h = absurd (true≢false (sym h))
true_stand (Value k a) h = absurd (true≢false (sym h))
true_stand (TypeName t) h = absurd (true≢false (sym h))
true_stand Package h = absurd (true≢false (sym h))
true_stand (Results ts) h = absurd (true≢false (sym h))
true_stand Broken h = absurd (true≢false (sym h))

abbrev stands_by : World → Locals → ExprTree → Bool → LinkTrees → Bool
stands_by w locals e ends front = if ends then may_be_statement (judge w locals (tree.Chain e front)).meaning else false

pub statement_true : (w : World) (locals : Locals) {e : ExprTree} {links front : LinkTrees} {f : Meaning} → EndsInCall links front →
    HasMeaning w locals (tree.Chain e front) f → MayBeStatement f → is_statement w locals (tree.Chain e links) ≡ true
unfolding is_statement
statement_true w locals {e} {links} {front} {f} c h s = ap (λ z. stands_by w locals e z (without_last links)) (end_true c)
    ∙ (ap (λ z. stands_by w locals e true z) (front_is c) ∙ (ap may_be_statement (sound w locals h).meaning ∙ stand_true s))

-- a call that is a statement
pub record IsCallFound (w : World) (locals : Locals) (e : ExprTree) : Type 0 where
  pub operand : ExprTree
  pub links : LinkTrees
  pub front : LinkTrees
  pub callee : Meaning
  pub is_chain : e ≡ tree.Chain operand links
  pub ends : EndsInCall links front
  pub means : HasMeaning w locals (tree.Chain operand front) callee
  pub stands : MayBeStatement callee

chain_found : (w : World) (locals : Locals) (e : ExprTree) (links : LinkTrees) (b : Bool) → ends_in_call links ≡ b →
    stands_by w locals e b (without_last links) ≡ true → IsCallFound w locals (tree.Chain e links)
chain_found w locals e links false d h = absurd (true≢false (sym h))
chain_found w locals e links true d h = let m = true_stand (judge w locals (tree.Chain e (without_last links))).meaning h in record {
  operand = e;
  links = links;
  front = without_last links;
  callee = (judge w locals (tree.Chain e (without_last links))).meaning;
  is_chain = refl;
  ends = true_end links d;
  means = complete w locals (tree.Chain e (without_last links)) m.1;
  stands = m.0;
}

pub true_statement : (w : World) (locals : Locals) (e : ExprTree) → is_statement w locals e ≡ true → IsCallFound w locals e
unfolding is_statement
true_statement w locals (tree.Chain e links) h = chain_found w locals e links (ends_in_call links) refl h
true_statement w locals e h = absurd (true≢false (sym h))

pub stands_silent : (place : ℕ) {b : Bool} (m : Meaning) → b ≡ true → statement_faults place b m ≡ []
unfolding statement_faults
stands_silent place m e = ap (λ z. statement_faults place z m) e

pub silent_stands : (place : ℕ) (b : Bool) (m : Meaning) → IsNotBroken m → statement_faults place b m ≡ [] → b ≡ true
unfolding statement_faults
silent_stands place true m n h = refl
silent_stands place false (Value k a) n h = no_fault h
silent_stands place false (TypeName t) n h = no_fault h
silent_stands place false (Function s) n h = no_fault h
silent_stands place false (BuiltinName b) n h = no_fault h
silent_stands place false Package n h = no_fault h
silent_stands place false (Results ts) n h = no_fault h
silent_stands place false Broken n h = absurd (n refl)

-- the operators of assignments `op=`

pub update_is : {o : UpdateOp} {b : BinaryOp} → Updates o b → binary_of o ≡ b
update_is by_sum = refl
update_is by_difference = refl
update_is by_product = refl
update_is by_quotient = refl
update_is by_remainder = refl

pub is_update : (o : UpdateOp) → Updates o (binary_of o)
is_update update.Add = by_sum
is_update update.Subtract = by_difference
is_update update.Multiply = by_product
is_update update.Divide = by_quotient
is_update update.Remainder = by_remainder

typed_untyped : {A : Type 0} {t : PlainType} → IsUntyped (Typed t) → A
typed_untyped h = elim h [ ]

together_typed : {w : World} {t : PlainType} {k l : ValueKind} → HaveCommonKind w (Typed t) k l → FitsType w l t
together_typed of_one_type = identical
together_typed (right_fits u f) = identical
together_typed (left_fits u f) = typed_untyped u
together_typed (of_one_kind u) = typed_untyped u

no_order : {A : Type 0} {o : UpdateOp} {b : BinaryOp} → Updates o b → IsOrderOperator b → A
no_order by_sum h = elim h [ ]
no_order by_difference h = elim h [ ]
no_order by_product h = elim h [ ]
no_order by_quotient h = elim h [ ]
no_order by_remainder h = elim h [ ]

no_equality : {A : Type 0} {o : UpdateOp} {b : BinaryOp} → Updates o b → IsEquality b → A
no_equality by_sum h = elim h [ ]
no_equality by_difference h = elim h [ ]
no_equality by_product h = elim h [ ]
no_equality by_quotient h = elim h [ ]
no_equality by_remainder h = elim h [ ]

no_logic : {A : Type 0} {o : UpdateOp} {b : BinaryOp} → Updates o b → IsLogic b → A
no_logic by_sum h = elim h [ ]
no_logic by_difference h = elim h [ ]
no_logic by_product h = elim h [ ]
no_logic by_quotient h = elim h [ ]
no_logic by_remainder h = elim h [ ]

pub update_fits : {w : World} {o : UpdateOp} {b : BinaryOp} {t : PlainType} {k l : ValueKind} → Updates o b → Operates w b (Typed t) k l → FitsType w l t
update_fits u (adds g i) = together_typed g
update_fits u (computes a g i) = together_typed g
update_fits u (orders a g i) = no_order u a
update_fits u (connects a g i) = no_logic u a
update_fits u (compares a g i) = no_equality u a
update_fits u (compares_with_nil a f) = no_equality u a
