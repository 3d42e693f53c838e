-- Calls and operators: their meanings, and the tokens where they break a rule.
use Rattle.std.proofs.Common.{ℕ, ◌≡◌, ◌==◌, Bool, true, false, if◌then◌else◌, inl, inr, List, [], ◌∷◌, length, Option, Some, None, refl, sym, ap, ◌∙◌}
use Rattle.std.proofs.Common.{subst, suc, true≢false, eq-eqb}
use Rattle.go_ast.specs.declared.syntax.BinaryOp.{BinaryOp}
use Rattle.go_ast.specs.Tree.{ExprTree, ArgumentTrees}
use Rattle.go_ast.specs.Tree as tree
use Rattle.types_expr.specs.declared.types.Builtin.TheVariants as builtin
use Rattle.types_expr.specs.Places.{place_of}
use Rattle.types_expr.specs.Types.{PlainType, SliceOf, ValueKind, Typed, Signature, Meaning, Value, TypeName, Function, BuiltinName, Package, Results, Broken}
use Rattle.types_expr.specs.Types.{element_of}
use Rattle.types_expr.specs.World.{World, Locals, underlying}
use Rattle.types_expr.specs.Operations.{fits, operate}
use Rattle.types_expr.specs.Judge.{ListValue, value_kind, value_at, call_rule, call_of, call_function, call_builtin, append, append_first, append_to, misfit}
use Rattle.types_expr.specs.Judge.{misfits, all_misfits, unless_faults, wrong_if_whole, result_meaning, all_whole, value_or_wrong, operation, operation_on}
use Rattle.types_expr.specs.Judge.{judge, judge_value, judge_arguments, noting, enterings}
use Rattle.law_typing.specs.Fits.{FitsType}
use Rattle.law_typing.specs.Operators.{Operates}
use Rattle.law_typing.specs.Names.{IsNotBroken}
use Rattle.law_typing.specs.Links.{CallGives}
use Rattle.law_typing.specs.Meanings.{HasMeaning, AreValues, no_argument, argument}
use Rattle.law_typing.specs.Faults.{IsNoCallee, a_package, a_call, Misfits, no_fit, no_element, IsMisfit, this_argument, other_argument, IsMisfitOf}
use Rattle.law_typing.specs.Faults.{this_value, other_value, AreAsMany, no_more, one_more}
use Rattle.law_typing.proofs.Judgements.{value_whole, function_whole, known_kind}
use Rattle.law_typing.proofs.Fitting.{true_fits}
use Rattle.law_typing.proofs.Arguments.{AreOf, whole_all, kinds_of}
use Rattle.law_typing.proofs.Operating.{operates_true, true_operates}
use Rattle.law_typing.proofs.Calling.{calls_true, true_calls}
use Rattle.law_typing.proofs.BrokenRules.{call_or_fault}
use Rattle.law_typing.proofs.Completeness.{complete, complete_arguments, has_value, value_was}
use Rattle.law_typing.proofs.RuleFaults.{status, call_each, ElementsMisfit, IsWrong}
use Rattle.law_typing.proofs.PartFaults.{misfits_each, all_misfits_each, as_many_arguments}
use Rattle.law_typing.specs.ExpressionFaults.{CalledWith, by_values, NextKind, operates, operates_on_nothing, nothing_operated}
use Rattle.law_typing.proofs.FaultLists.{HasToken, holds_left, holds_right, AreExactly, none_told, At, nothing_at, fault_at, some_same, none_some}
use Rattle.law_typing.proofs.TypeFaults.{each_holds}
use Rattle.law_typing.proofs.ValueFaults.{kind_is, kind_means}
use Rattle.law_typing.proofs.LinkFaults.{IsRule}

-- arguments

arguments_of : (w : World) (locals : Locals) {xs : ArgumentTrees} {ks : List ValueKind} → AreValues w locals xs ks →
    AreOf (judge_arguments w locals xs).values ks
unfolding judge
arguments_of w locals no_argument = tt
arguments_of w locals (argument h more) = (kind_is w locals h, arguments_of w locals more)

same_kinds : (vs : List ListValue) (js ks : List ValueKind) → AreOf vs js → AreOf vs ks → js ≡ ks
same_kinds [] [] [] a b = refl
same_kinds [] [] (k ∷ ks) a b = absurd b
same_kinds [] (j ∷ js) ks a b = absurd a
same_kinds (v ∷ vs) [] ks a b = absurd a
same_kinds (v ∷ vs) (j ∷ js) [] a b = absurd b
same_kinds (v ∷ vs) (j ∷ js) (k ∷ ks) a b = ap (λ z. z ∷ js) (some_same (sym a.0 ∙ b.0)) ∙ ap (λ z. k ∷ z) (same_kinds vs js ks a.1 b.1)

called_only : (w : World) (locals : Locals) (start place : ℕ) (xs : ArgumentTrees) (m s : Meaning) → CalledWith w locals xs m s →
    ((call_of w start place (judge_arguments w locals xs).values m).meaning ≡ s) × IsNotBroken s
called_only w locals start place xs m s (by_values vs c) = let t = calls_true w start place (judge_arguments w locals xs).values (arguments_of w locals vs) c in
    (t.meaning, t.whole)

pub calls_rule : (w : World) (locals : Locals) (start place : ℕ) (xs : ArgumentTrees) (m : Meaning) →
    IsRule (CalledWith w locals xs) m (call_rule w start place (judge_arguments w locals xs) m).meaning
calls_rule w locals start place xs m = record {
  only = λ s h. called_only w locals start place xs m s h;
  holds = λ n. let q = true_calls w start place (judge_arguments w locals xs).values m n in
      (q.0, by_values (complete_arguments w locals xs q.1.0 q.1.1) q.1.2);
}

-- a call after an operand of a given meaning breaks a rule at this token
pub data CallBreaks (w : World) (locals : Locals) (start place : ℕ) (xs : ArgumentTrees) : Option Meaning → ℕ → Type 0 where
  cannot_be_called : {m : Meaning} → IsNoCallee m → CallBreaks w locals start place xs (Some m) place
  a_misfit : {m : Meaning} {p : ℕ} → Misfits w locals m xs p → CallBreaks w locals start place xs (Some m) p
  wrong_call : {m : Meaning} {ks : List ValueKind} → (IsNoCallee m → ⊥) → AreValues w locals xs ks → ((s : Meaning) → CallGives w m ks s → ⊥) →
      ((p : ℕ) → Misfits w locals m xs p → ⊥) → CallBreaks w locals start place xs (Some m) start

-- misfits are found

misfit_holds : (w : World) (place : ℕ) {o : Option ValueKind} {k : ValueKind} {t : PlainType} → o ≡ Some k → (FitsType w k t → ⊥) →
    HasToken (misfit w place o t) place
unfolding misfit
misfit_holds w place {k = k} {t = t} e n = subst (λ z. HasToken (misfit w place z t) place) (sym e) (unfit (fits w k t) refl)
  where
    unfit : (b : Bool) → fits w k t ≡ b → HasToken (if b then [] else (place ∷ [])) place
    unfit true h = absurd (n (true_fits w k t h))
    unfit false h = inl refl

misfits_hold : (w : World) (locals : Locals) {xs : ArgumentTrees} {ts : List PlainType} {p : ℕ} → IsMisfit w locals xs ts p →
    HasToken (misfits w (judge_arguments w locals xs).values ts) p
unfolding judge misfits
misfits_hold w locals (this_argument {e} {rest = rest} {t = t} {ts = ts} h n) = holds_left (misfit w (place_of e) (value_kind
    (judge_value w locals e).meaning) t)
    (misfits w (judge_arguments w locals rest).values ts) (place_of e) (misfit_holds w (place_of e) (kind_is w locals h) n)
misfits_hold w locals (other_argument {e} {rest = rest} {t = t} {ts = ts} {p = p} m) = holds_right (misfit w (place_of e) (value_kind
    (judge_value w locals e).meaning) t)
    (misfits w (judge_arguments w locals rest).values ts) p (misfits_hold w locals m)

all_misfits_hold : (w : World) (locals : Locals) {t : PlainType} {xs : ArgumentTrees} {p : ℕ} → IsMisfitOf w locals t xs p →
    HasToken (all_misfits w (judge_arguments w locals xs).values t) p
unfolding judge all_misfits
all_misfits_hold w locals {t} (this_value {e} {rest = rest} h n) = holds_left (misfit w (place_of e) (value_kind (judge_value w locals e).meaning) t)
    (all_misfits w (judge_arguments w locals rest).values t) (place_of e) (misfit_holds w (place_of e) (kind_is w locals h) n)
all_misfits_hold w locals {t} (other_value {e} {rest = rest} {p = p} m) = holds_right (misfit w (place_of e) (value_kind (judge_value w locals e).meaning) t)
    (all_misfits w (judge_arguments w locals rest).values t) p (all_misfits_hold w locals m)

as_many : (w : World) (locals : Locals) {xs : ArgumentTrees} {ts : List PlainType} → AreAsMany xs ts → length (judge_arguments w locals xs).values ≡ length ts
unfolding judge
as_many w locals no_more = refl
as_many w locals (one_more more) = ap suc (as_many w locals more)

unless_holds : (places : List ℕ) (b : Bool) (m : Meaning) (p : ℕ) → HasToken places p → HasToken (unless_faults places b m).faults p
unfolding unless_faults
unless_holds [] b m p h = absurd h
unless_holds (x ∷ xs) b m p h = h

right_count : (w : World) (start : ℕ) (s : Signature) (vs : List ListValue) (p : ℕ) (c : Bool) → c ≡ true → HasToken (misfits w vs s.parameters) p →
    HasToken (if c then noting (enterings w vs s.parameters) (unless_faults (misfits w vs s.parameters) (all_whole vs) (result_meaning s.results))
    else wrong_if_whole (all_whole vs) start).faults p
right_count w start s vs p true e h = unless_holds (misfits w vs s.parameters) (all_whole vs) (result_meaning s.results) p h
right_count w start s vs p false e h = absurd (true≢false (sym e))

append_holds : (w : World) (start : ℕ) (vs : List ListValue) (p : ℕ) {o : Option ValueKind} {t u : PlainType} → o ≡ Some (Typed t) →
    underlying w t ≡ SliceOf u →
    HasToken (all_misfits w vs u) p → HasToken (append_first w start o vs).faults p
append_holds w start vs p {t = t} {u = u} e s h = subst (λ z. HasToken (append_first w start z vs).faults p) (sym e) (subst
    (λ z. HasToken (append_to w start (Typed t) z vs).faults p) (sym (ap element_of s)) (unless_holds (all_misfits w vs u) (all_whole vs) (Value
    (Typed t) false) p h))

misfit_stands : (w : World) (locals : Locals) (start place : ℕ) {m : Meaning} {xs : ArgumentTrees} {p : ℕ} → Misfits w locals m xs p →
    HasToken (call_of w start place (judge_arguments w locals xs).values m).faults p
unfolding call_of call_function call_builtin append judge
misfit_stands w locals start place (no_fit {s} {xs} {p} n b) = right_count w start s (judge_arguments w locals xs).values p (length
    (judge_arguments w locals xs).values ==
    length s.parameters) (eq-eqb (length (judge_arguments w locals xs).values) (length s.parameters) (as_many w locals n)) (misfits_hold w locals b)
misfit_stands w locals start place (no_element {xs = xs} {p = p} h s b) = append_holds w start (judge_arguments w locals xs).values p (kind_is w locals h) s
    (all_misfits_hold w locals b)

-- where a wrong call is none by its arguments

no_misfits : (w : World) (locals : Locals) (m : Meaning) (xs : ArgumentTrees) {p : ℕ} → IsWrong w (judge_arguments w locals xs).values m →
    Misfits w locals m xs p → ⊥
unfolding judge
no_misfits w locals m xs wr (no_fit n h) = wr (as_many w locals n)
no_misfits w locals m xs wr (no_element {t = t} {u = u} v s h) = wr t u (kind_is w locals v) s

append_each : (P : ℕ → Type 0) (w : World) (locals : Locals) (xs : ArgumentTrees) → ((p : ℕ) → Misfits w locals (BuiltinName builtin.Append) xs p → P p) →
    ElementsMisfit P w (judge_arguments w locals xs).values
unfolding judge
append_each P w locals tree.no_argument f = tt
append_each P w locals (tree.argument e comma xs) f = λ t u k s. let v = known_kind (value_at e (judge w locals e)).meaning (Typed t) k in
    all_misfits_each P w locals xs u (λ p h. f p (no_element (has_value (λ q. complete w locals e q) (value_was (place_of e)
    (judge w locals e).meaning v.1)) s h))

call_found : (w : World) (locals : Locals) (start place : ℕ) (xs : ArgumentTrees) (m : Meaning) → (IsNoCallee m → ⊥) → (p : ℕ) →
    HasToken (call_of w start place (judge_arguments w locals xs).values m).faults p → CallBreaks w locals start place xs (Some m) p
call_found w locals start place xs m n = let vs = (judge_arguments w locals xs).values in
    let P : ℕ → Type 0 = λ p. CallBreaks w locals start place xs (Some m) p in
    each_holds P (call_of w start place vs m).faults (call_each P w start place vs m (λ q. absurd (n q))
    (λ s e l. misfits_each P w locals xs s.parameters (λ p h. a_misfit (subst (λ z. Misfits w locals z xs p) (sym e) (no_fit
    (as_many_arguments w locals xs s.parameters l) h))))
    (λ e. append_each P w locals xs (λ p h. a_misfit (subst (λ z. Misfits w locals z xs p) (sym e) h)))
    (λ whole wr b e. let ks = kinds_of vs b in wrong_call n (complete_arguments w locals xs ks.0 ks.1) (λ s h. let g = calls_true w start place vs ks.1 h in
    g.whole (sym g.meaning ∙ e)) (λ p h. no_misfits w locals m xs wr h)))

start_only : {w : World} {locals : Locals} {start place p : ℕ} {xs : ArgumentTrees} {m : Meaning} → (IsNoCallee m → ⊥) → ((q : ℕ) → Misfits w locals m xs q →
    ⊥) →
    CallBreaks w locals start place xs (Some m) p → p ≡ start
start_only n f (cannot_be_called c) = absurd (n c)
start_only {p = p} n f (a_misfit b) = absurd (f p b)
start_only n f (wrong_call c a g h) = refl

wrong_stands : (w : World) (locals : Locals) (start place : ℕ) (xs : ArgumentTrees) (m : Meaning) {ks : List ValueKind} → IsNotBroken m → (IsNoCallee m → ⊥) →
    AreValues w locals xs ks → ((s : Meaning) → CallGives w m ks s → ⊥) → ((p : ℕ) → Misfits w locals m xs p → ⊥) → (fs : List ℕ) →
    (call_of w start place (judge_arguments w locals xs).values m).faults ≡ fs → HasToken fs start
wrong_stands w locals start place xs m {ks} whole n a g f [] e = let vs = (judge_arguments w locals xs).values in
    let q = true_calls w start place vs m (call_or_fault w start place vs m whole (whole_all vs ks (arguments_of w locals a)) e) in
    absurd (g (call_of w start place vs m).meaning (subst (λ z. CallGives w m z (call_of w start place vs m).meaning) (same_kinds vs q.1.0 ks q.1.1
    (arguments_of w locals a)) q.1.2))
wrong_stands w locals start place xs m whole n a g f (x ∷ rest) e =
    inl (start_only n f (call_found w locals start place xs m n x (subst (λ z. HasToken z x) (sym e) (inl refl))))

call_stands : (w : World) (locals : Locals) (start place : ℕ) (xs : ArgumentTrees) (m : Meaning) → IsNotBroken m → (IsNoCallee m → ⊥) → (p : ℕ) →
    CallBreaks w locals start place xs (Some m) p → HasToken (call_of w start place (judge_arguments w locals xs).values m).faults p
call_stands w locals start place xs m whole n p (cannot_be_called c) = absurd (n c)
call_stands w locals start place xs m whole n p (a_misfit b) = misfit_stands w locals start place b
call_stands w locals start place xs m whole n p (wrong_call c a g f) =
    wrong_stands w locals start place xs m whole n a g f (call_of w start place (judge_arguments w locals xs).values m).faults refl

callable_told : (w : World) (locals : Locals) (start place : ℕ) (xs : ArgumentTrees) (m : Meaning) → IsNotBroken m → (IsNoCallee m → ⊥) →
    AreExactly (call_of w start place (judge_arguments w locals xs).values m).faults (CallBreaks w locals start place xs (Some m))
callable_told w locals start place xs m whole n = record {
  found = call_found w locals start place xs m n;
  stands = call_stands w locals start place xs m whole n;
}

place_only : {w : World} {locals : Locals} {start place p : ℕ} {xs : ArgumentTrees} {m : Meaning} → IsNoCallee m → ((q : ℕ) → Misfits w locals m xs q → ⊥) →
    CallBreaks w locals start place xs (Some m) p → place ≡ p
place_only c f (cannot_be_called d) = refl
place_only {p = p} c f (a_misfit b) = absurd (f p b)
place_only c f (wrong_call n a g h) = absurd (n c)

callee_told : (w : World) (locals : Locals) (start place : ℕ) (xs : ArgumentTrees) (m : Meaning) → IsNoCallee m → ((q : ℕ) → Misfits w locals m xs q → ⊥) →
    AreExactly (place ∷ []) (CallBreaks w locals start place xs (Some m))
callee_told w locals start place xs m c f = record {
  found = λ p h. elim h [ inl q ↦ subst (λ z. CallBreaks w locals start place xs (Some m) z) q (cannot_be_called c) | inr x ↦ absurd x ];
  stands = λ p b. inl (place_only c f b);
}

pub call_told : (w : World) (locals : Locals) (start place : ℕ) (xs : ArgumentTrees) (m : Meaning) →
    AreExactly (call_of w start place (judge_arguments w locals xs).values m).faults (CallBreaks w locals start place xs (status m))
unfolding call_of
call_told w locals start place xs (Function s) = callable_told w locals start place xs (Function s) function_whole (λ c. elim c [ ])
call_told w locals start place xs (TypeName t) = callable_told w locals start place xs (TypeName t) (λ h. cc) (λ c. elim c [ ])
call_told w locals start place xs (BuiltinName b) = callable_told w locals start place xs (BuiltinName b) (λ h. cc) (λ c. elim c [ ])
call_told w locals start place xs (Value k a) = callable_told w locals start place xs (Value k a) value_whole (λ c. elim c [ ])
call_told w locals start place xs Package = callee_told w locals start place xs Package a_package (λ q b. elim b [ ])
call_told w locals start place xs (Results ts) = callee_told w locals start place xs (Results ts) a_call (λ q b. elim b [ ])
call_told w locals start place xs Broken = none_told (λ p b. elim b [ ])

-- operators

pub record IsNoOperation (w : World) (locals : Locals) (o : BinaryOp) (e : ExprTree) (q : Option ValueKind) : Type 0 where
  pub left : ValueKind
  pub known : q ≡ Some left
  pub right : ValueKind
  pub addressable : Bool
  pub means : HasMeaning w locals e (Value right addressable)
  pub is_none : (l : ValueKind) → Operates w o left right l → ⊥

one_operation : (w : World) (o : BinaryOp) (start : ℕ) (j k : ValueKind) (r : Option ValueKind) → operate w o j k ≡ r → {C : Type 0} → (((l : ValueKind) →
    Operates w o j k l → ⊥) → C) →
    (C → (l : ValueKind) → Operates w o j k l → ⊥) → AreExactly (value_or_wrong r start).faults (At start C)
one_operation w o start j k None e f g = fault_at start (f (λ l x. none_some e (operates_true w x)))
one_operation w o start j k (Some l) e f g = nothing_at start (λ c. g c l (true_operates w o j k l e))

on_kinds : (w : World) (locals : Locals) (o : BinaryOp) (start : ℕ) (e : ExprTree) (x y : Option ValueKind) → value_kind (judge_value w locals e).meaning ≡ y →
    AreExactly (operation_on w o start x y).faults (At start (IsNoOperation w locals o e x))
on_kinds w locals o start e None y h = nothing_at start (λ c. none_some refl c.known)
on_kinds w locals o start e (Some j) None h = nothing_at start (λ c. none_some h (kind_is w locals c.means))
on_kinds w locals o start e (Some j) (Some k) h = one_operation w o start j k (operate w o j k) refl (λ n. let v = kind_means w locals e k h in record {
  left = j;
  known = refl;
  right = k;
  addressable = v.0;
  means = v.1;
  is_none = n;
}) (λ c l r. c.is_none l (subst (λ z. Operates w o z c.right l) (some_same c.known) (subst (λ z. Operates w o j z l) (some_same (sym h
    ∙ kind_is w locals c.means)) r)))

pub operation_told : (w : World) (locals : Locals) (o : BinaryOp) (start : ℕ) (e : ExprTree) (m : Meaning) →
    AreExactly (operation w o start m (judge_value w locals e).meaning).faults (At start (IsNoOperation w locals o e (value_kind m)))
unfolding operation
operation_told w locals o start e m = on_kinds w locals o start e (value_kind m) (value_kind (judge_value w locals e).meaning) refl

one_kind : (w : World) (locals : Locals) {e : ExprTree} {j k : ValueKind} {a b : Bool} → HasMeaning w locals e (Value j a) → HasMeaning w locals e (Value k b) →
    j ≡ k
one_kind w locals h g = some_same (sym (kind_is w locals h) ∙ kind_is w locals g)

next_by : (w : World) (locals : Locals) (o : BinaryOp) (start : ℕ) (e : ExprTree) (j k : ValueKind) → value_kind (judge_value w locals e).meaning ≡ Some k →
    (r : Option ValueKind) →
    operate w o j k ≡ r → NextKind w locals o e (Some j) (value_kind (value_or_wrong r start).meaning)
unfolding value_kind
next_by w locals o start e j k h None f = operates_on_nothing (λ i l a g r. none_some f (subst (λ z. operate w o j z ≡ Some l)
    (some_same (sym (kind_is w locals g) ∙ h)) (operates_true w r)))
next_by w locals o start e j k h (Some l) f = let v = kind_means w locals e k h in operates v.1 (true_operates w o j k l f)

next_on : (w : World) (locals : Locals) (o : BinaryOp) (start : ℕ) (e : ExprTree) (x y : Option ValueKind) → value_kind (judge_value w locals e).meaning ≡ y →
    NextKind w locals o e x (value_kind (operation_on w o start x y).meaning)
unfolding value_kind
next_on w locals o start e None y h = nothing_operated
next_on w locals o start e (Some j) None h = operates_on_nothing (λ k l a g r. none_some h (kind_is w locals g))
next_on w locals o start e (Some j) (Some k) h = next_by w locals o start e j k h (operate w o j k) refl

pub operated_found : (w : World) (locals : Locals) (o : BinaryOp) (start : ℕ) (e : ExprTree) (m : Meaning) →
    NextKind w locals o e (value_kind m) (value_kind (operation w o start m (judge_value w locals e).meaning).meaning)
unfolding operation
operated_found w locals o start e m = next_on w locals o start e (value_kind m) (value_kind (judge_value w locals e).meaning) refl

-- an operation has at most one kind
pub operated_once : (w : World) (locals : Locals) {o : BinaryOp} {e : ExprTree} {q r s : Option ValueKind} → NextKind w locals o e q r →
    NextKind w locals o e q s → r ≡ s
operated_once w locals {o} (operates {j = j} {l = l} h r) (operates g s) = sym (operates_true w r) ∙ (ap (operate w o j) (one_kind w locals h g)
    ∙ operates_true w s)
operated_once w locals (operates {k = k} {l = l} {a = a} h r) (operates_on_nothing n) = absurd (n k l a h r)
operated_once w locals (operates_on_nothing n) (operates {k = k} {l = l} {a = a} h r) = absurd (n k l a h r)
operated_once w locals (operates_on_nothing n) (operates_on_nothing m) = refl
operated_once w locals nothing_operated nothing_operated = refl
