-- Each fault of an expression is at the innermost part that breaks a rule.
use Rattle.std.proofs.Common.{ℕ, ◌≡◌, Bool, true, false, inl, inr, List, [], ◌∷◌, ◌++◌, length, Option, Some, None, refl, sym, ap, ◌∙◌, subst, true≢false, suc}
use Rattle.go_ast.specs.declared.syntax.BinaryOp.{BinaryOp}
use Rattle.go_ast.specs.Tree.{TypeTree, ExprTree, LinkTrees, OperandTrees, ArgumentTrees, LiteralTree, ElementTrees}
use Rattle.go_ast.specs.Tree as tree
use Rattle.types_expr.specs.declared.types.Builtin.TheVariants as builtin
use Rattle.types_expr.specs.declared.symbol.Symbol.{Symbol}
use Rattle.types_expr.specs.Places.{first_token, first_of_type, place_of}
use Rattle.types_expr.specs.Types.{PlainType, Underlying, Plain, PointerTo, SliceOf, Struct, Interface, Typed, Untyped, Nil, Meaning, Value, TypeName, Function}
use Rattle.types_expr.specs.Types.{BuiltinName, Package, Results, Broken, element_of}
use Rattle.types_expr.specs.World.{World, Locals, underlying}
use Rattle.types_expr.specs.Judge.{Judged, Seen, KeyMeaning, FieldKey, WrongKey, BrokenKey}
use Rattle.types_expr.specs.Judge.{followed, value_at, value_kind, select, index_rule, index_of, as_value}
use Rattle.types_expr.specs.Judge.{call_rule, call_of, operation, prefix_of, address_of, judge, judge_links, judge_operands, judge_arguments, judge_literal}
use Rattle.types_expr.specs.Judge.{judge_elements, judge_type, key_at, key_in, key_of_member, judge_key, key_faults, is_whole_key, wanted_after_key, seen_with}
use Rattle.types_expr.specs.Judge.{none_seen, misfit_if, literal_meaning, literal_result}
use Rattle.types_expr.specs.Judge.{no_key as no_key_there}
use Rattle.law_typing.specs.Fits.{FitsType}
use Rattle.law_typing.specs.Names.{IsType}
use Rattle.law_typing.specs.Meanings.{HasMeaning}
use Rattle.law_typing.specs.Faults.{HasFault, in_composite, in_address, in_paren, in_prefix, no_prefix, in_chain, in_links, in_binary, in_operands}
use Rattle.law_typing.specs.Faults.{ValueHasFault, in_value, no_value, MeaningOrNone, IsNoCallee, a_package, a_call, LinksHaveFault, not_indexed, in_index}
use Rattle.law_typing.specs.Faults.{no_int, no_slice, behind_index, behind_no_index, not_called, in_arguments, misfit, no_call, Misfits, no_fit, no_element}
use Rattle.law_typing.specs.Faults.{behind_call, behind_no_call, OperandsHaveFault, in_operand, no_operation, behind_operation, behind_no_operation}
use Rattle.law_typing.specs.Faults.{ArgumentsHaveFault, in_this, in_other, LiteralHasFault, in_type, in_untyped, in_elements, unkeyed, no_literal}
use Rattle.law_typing.specs.Faults.{ValuesHaveFault, this_element, other_element, ElementsHaveFault, in_element, no_key, field_misfit, element_misfit}
use Rattle.law_typing.specs.Faults.{behind_field, behind_element, IsKey, of_field, IsBrokenKey, of_method, HaveValues, no_value_left, one_value_more}
use Rattle.law_typing.specs.Faults.{AreAsMany, no_more, one_more, HasUnkeyed, this_unkeyed, other_unkeyed}
use Rattle.law_typing.proofs.Judgements.{only_value, value_kept, known_kind, kind_known, value_at_agrees}
use Rattle.law_typing.proofs.Soundness.{sound}
use Rattle.law_typing.proofs.Naming.{true_type}
use Rattle.law_typing.proofs.Selecting.{true_indexes}
use Rattle.law_typing.proofs.Arguments.{kinds_of}
use Rattle.law_typing.proofs.Calling.{calls_true, true_calls}
use Rattle.law_typing.proofs.Elements.{whole_element, is_taken, new_free, free_new, field_key, IsFieldKey, whole_key}
use Rattle.law_typing.proofs.BrokenRules.{whole_or_broken}
use Rattle.law_typing.proofs.Completeness.{complete, complete_arguments, value_was, has_value, only_indexed, operation_found}
use Rattle.law_typing.proofs.RuleFaults.{Each, each_append, status, whole_status, operand_status, as_value_each, prefix_each, operation_each, select_each}
use Rattle.law_typing.proofs.RuleFaults.{behind_select, index_each, no_slice_here, call_each, ElementsMisfit, IsWrong}
use Rattle.law_typing.proofs.PartFaults.{type_each, wanted_each, misfits_each, all_misfits_each, as_many_arguments, key_each, element_slice}

-- values

value_each : (P : ℕ → Type 0) (w : World) (locals : Locals) (e : ExprTree) → (((p : ℕ) → HasFault w locals e p → P p) → Each P (judge w locals e).faults) →
    ((p : ℕ) → ValueHasFault w locals e p → P p) →
    Each P (value_at e (judge w locals e)).faults
value_each P w locals e g f = each_append P (judge w locals e).faults (as_value (place_of e) (judge w locals e).meaning).faults (g (λ p h. f p (in_value h)))
    (as_value_each P (place_of e) (judge w locals e).meaning (λ n v. f (place_of e) (no_value (complete w locals e n) v)))

value_operand : (w : World) (locals : Locals) (e : ExprTree) → MeaningOrNone w locals e (status (value_at e (judge w locals e)).meaning)
value_operand w locals e = operand_status (value_at e (judge w locals e)).meaning (λ n. let v = only_value (place_of e) (judge w locals e).meaning n in
    subst (λ z. HasMeaning w locals e z) (sym (value_kept (place_of e) v.2)) (has_value (λ q. complete w locals e q) v.2))

address_each : (P : ℕ → Type 0) (m : Meaning) → Each P (address_of m).faults
unfolding address_of
address_each P (Value (Typed t) a) = tt
address_each P (Value (Untyped b) a) = tt
address_each P (Value Nil a) = tt
address_each P (TypeName t) = tt
address_each P (Function s) = tt
address_each P (BuiltinName b) = tt
address_each P Package = tt
address_each P (Results ts) = tt
address_each P Broken = tt

-- indexes and calls

index_rule_each : (P : ℕ → Type 0) (w : World) (locals : Locals) (start place o : ℕ) (e : ExprTree) (c : ℕ) (rest : LinkTrees) (m : Meaning) →
    Each P (value_at e (judge w locals e)).faults →
    ((p : ℕ) → LinksHaveFault w locals start place (status m) (tree.index o e c rest) p → P p) →
    Each P (index_rule w start place e (value_at e (judge w locals e)) m).faults
index_rule_each P w locals start place o e c rest m v f =
    let V = value_at e (judge w locals e) in
    let M = (as_value place m).meaning in
    each_append P (as_value place m).faults (V.faults ++ (index_of w start (place_of e) M V.meaning).faults)
    (as_value_each P place m (λ n q. f place (subst (λ z. LinksHaveFault w locals start place z (tree.index o e c rest) place) (sym (whole_status m n))
    (not_indexed q))))
    (each_append P V.faults (index_of w start (place_of e) M V.meaning).faults v
    (index_each P w start (place_of e) M V.meaning
    (λ k a h n. f (place_of e) (no_int (has_value (λ q. complete w locals e q) (value_was (place_of e) (judge w locals e).meaning h)) n))
    (λ s k x a h i int none. f start (subst (λ z. LinksHaveFault w locals start place (status z) (tree.index o e c rest) start) (sym (value_was place m h))
    (no_slice (has_value (λ q. complete w locals e q) (value_was (place_of e) (judge w locals e).meaning i)) int (λ r ix. no_slice_here ix s x refl none))))))

behind_index_rule : (w : World) (locals : Locals) (start place o : ℕ) (e : ExprTree) (c p : ℕ) (rest : LinkTrees) (m : Meaning) →
    LinksHaveFault w locals start start (status (index_rule w start place e (value_at e (judge w locals e)) m).meaning) rest p →
    LinksHaveFault w locals start place (status m) (tree.index o e c rest) p
behind_index_rule w locals start place o e c p rest m h =
    let V = value_at e (judge w locals e) in
    let R = (index_rule w start place e V m).meaning in
    elim (whole_or_broken R) [
      | inl q ↦ (let i = true_indexes w start place (place_of e) m V.meaning q in
          subst (λ z. LinksHaveFault w locals start place z (tree.index o e c rest) p)
          (sym (whole_status m (only_indexed w start place (place_of e) m V.meaning q)))
          (behind_index (has_value (λ z. complete w locals e z) (value_was (place_of e) (judge w locals e).meaning i.2)) i.3
          (subst (λ z. LinksHaveFault w locals start start z rest p) (whole_status R q) h)))
      | inr b ↦ behind_no_index (subst (λ z. LinksHaveFault w locals start start (status z) rest p) b h)
    ]

callee_status : {w : World} {locals : Locals} {start place o : ℕ} {xs : ArgumentTrees} {c : ℕ} {rest : LinkTrees} {m : Meaning} → IsNoCallee m →
    LinksHaveFault w locals start place (status m) (tree.call o xs c rest) place
callee_status a_package = not_called a_package
callee_status a_call = not_called a_call

append_each : (P : ℕ → Type 0) (w : World) (locals : Locals) (start place o : ℕ) (xs : ArgumentTrees) (c : ℕ) (rest : LinkTrees) →
    ((p : ℕ) → LinksHaveFault w locals start place (Some (BuiltinName builtin.Append)) (tree.call o xs c rest) p → P p) →
    ElementsMisfit P w (judge_arguments w locals xs).values
unfolding judge
append_each P w locals start place o tree.no_argument c rest f = tt
append_each P w locals start place o (tree.argument e comma xs) c rest f = λ t u k s. let v = known_kind (value_at e (judge w locals e)).meaning (Typed t) k in
    all_misfits_each P w locals xs u (λ p h. f p (misfit
    (no_element (has_value (λ q. complete w locals e q) (value_was (place_of e) (judge w locals e).meaning v.1)) s h)))

arguments_as_many : (w : World) (locals : Locals) {xs : ArgumentTrees} {ts : List PlainType} → AreAsMany xs ts →
    length (judge_arguments w locals xs).values ≡ length ts
unfolding judge
arguments_as_many w locals no_more = refl
arguments_as_many w locals (one_more more) = ap suc (arguments_as_many w locals more)

no_misfits : (w : World) (locals : Locals) (m : Meaning) (xs : ArgumentTrees) {p : ℕ} → IsWrong w (judge_arguments w locals xs).values m →
    Misfits w locals m xs p → ⊥
unfolding judge
no_misfits w locals m xs wr (no_fit n h) = wr (arguments_as_many w locals n)
no_misfits w locals m xs wr (no_element {e} {t = t} {u} v s h) = wr t u (kind_known (value_at_agrees e (sound w locals v)).meaning) s

call_rule_each : (P : ℕ → Type 0) (w : World) (locals : Locals) (start place o : ℕ) (xs : ArgumentTrees) (c : ℕ) (rest : LinkTrees) (m : Meaning) →
    Each P (judge_arguments w locals xs).faults →
    ((p : ℕ) → LinksHaveFault w locals start place (status m) (tree.call o xs c rest) p → P p) →
    Each P (call_rule w start place (judge_arguments w locals xs) m).faults
call_rule_each P w locals start place o xs c rest m a f =
    let A = judge_arguments w locals xs in
    each_append P A.faults (call_of w start place A.values m).faults a
    (call_each P w start place A.values m (λ q. f place (callee_status q))
    (λ s e l. misfits_each P w locals xs s.parameters (λ p h.
    f p (subst (λ z. LinksHaveFault w locals start place (status z) (tree.call o xs c rest) p) (sym e)
    (misfit (no_fit (as_many_arguments w locals xs s.parameters l) h)))))
    (λ e. append_each P w locals start place o xs c rest
    (λ p h. f p (subst (λ z. LinksHaveFault w locals start place (status z) (tree.call o xs c rest) p) (sym e) h)))
    (λ n wr b e. let ks = kinds_of A.values b in f start
    (subst (λ z. LinksHaveFault w locals start place z (tree.call o xs c rest) start) (sym (whole_status m n))
    (no_call (complete_arguments w locals xs ks.0 ks.1) (λ s h. let g = calls_true w start place A.values ks.1 h in g.whole (sym g.meaning ∙ e))
    (λ p h. no_misfits w locals m xs wr h)))))

behind_call_rule : (w : World) (locals : Locals) (start place o : ℕ) (xs : ArgumentTrees) (c p : ℕ) (rest : LinkTrees) (m : Meaning) →
    LinksHaveFault w locals start start (status (call_rule w start place (judge_arguments w locals xs) m).meaning) rest p →
    LinksHaveFault w locals start place (status m) (tree.call o xs c rest) p
behind_call_rule w locals start place o xs c p rest m h =
    let A = judge_arguments w locals xs in
    let R = (call_of w start place A.values m).meaning in
    elim (whole_or_broken R) [
      | inl q ↦ (let s = true_calls w start place A.values m q in
          subst (λ z. LinksHaveFault w locals start place z (tree.call o xs c rest) p) (sym (whole_status m s.0))
          (behind_call (complete_arguments w locals xs s.1.0 s.1.1) s.1.2 (subst (λ z. LinksHaveFault w locals start start z rest p) (whole_status R q) h)))
      | inr b ↦ behind_no_call (subst (λ z. LinksHaveFault w locals start start (status z) rest p) b h)
    ]

-- operators

behind_operator : (w : World) (locals : Locals) (start q : ℕ) (o : BinaryOp) (e : ExprTree) (p : ℕ) (rest : OperandTrees) (m : Meaning) →
    OperandsHaveFault w locals start (status (operation w o start m (value_at e (judge w locals e)).meaning).meaning) rest p →
    OperandsHaveFault w locals start (status m) (tree.operand o q e rest) p
behind_operator w locals start q o e p rest m h =
    let V = value_at e (judge w locals e) in
    let R = (operation w o start m V.meaning).meaning in
    elim (whole_or_broken R) [
      | inl n ↦ (let x = operation_found w o start m V.meaning n in
          subst (λ z. OperandsHaveFault w locals start (status z) (tree.operand o q e rest) p) (sym x.left_value)
          (behind_operation (has_value (λ z. complete w locals e z) (value_was (place_of e) (judge w locals e).meaning x.right_value)) x.operates
          (subst (λ z. OperandsHaveFault w locals start (status z) rest p) x.found h)))
      | inr b ↦ behind_no_operation (subst (λ z. OperandsHaveFault w locals start (status z) rest p) b h)
    ]

-- literals

unkeyed_found : (w : World) (locals : Locals) (t : PlainType) (seen : Seen) (es : ElementTrees) →
    (judge_elements w locals (Some t) seen es).unkeyed ≡ true → HasUnkeyed es
unfolding judge
unkeyed_found w locals t seen tree.no_element h = absurd (true≢false (sym h))
unkeyed_found w locals t seen (tree.element None e c rest) h = this_unkeyed
unkeyed_found w locals t seen (tree.element (Some key) e c rest) h = other_unkeyed (unkeyed_found w locals t (seen_with (key_at w seen t key.0) seen) rest h)

values_found : (w : World) (locals : Locals) (t : PlainType) (seen : Seen) (es : ElementTrees) → (judge_elements w locals (Some t) seen es).whole ≡ true →
    HaveValues w locals es
unfolding judge
values_found w locals t seen tree.no_element h = no_value_left
values_found w locals t seen (tree.element None e c rest) h = let x =
    whole_element w (no_key_there w t) (place_of e) (value_at e (judge w locals e)) (judge_elements w locals (Some t) seen rest) h in
    one_value_more (has_value (λ q. complete w locals e q) (value_was (place_of e) (judge w locals e).meaning x.value))
    (values_found w locals t seen rest x.others)
values_found w locals t seen (tree.element (Some key) e c rest) h =
    let x = whole_element w (judge_key w t key.0 (key_at w seen t key.0)) (place_of e) (value_at e (judge w locals e))
    (judge_elements w locals (Some t) (seen_with (key_at w seen t key.0) seen) rest) h in
    one_value_more (has_value (λ q. complete w locals e q) (value_was (place_of e) (judge w locals e).meaning x.value))
    (values_found w locals t (seen_with (key_at w seen t key.0) seen) rest x.others)

ends_each : (P : ℕ → Type 0) (w : World) (locals : Locals) (x : TypeTree) (o : ℕ) (es : ElementTrees) (c : ℕ) (t : PlainType) (u : Underlying)
    (whole keyless : Bool) → IsType w x t → underlying w t ≡ u → (whole ≡ true → HaveValues w locals es) →
    (keyless ≡ true → HasUnkeyed es) → ((p : ℕ) → LiteralHasFault w locals (tree.literal x o es c) p → P p) →
    Each P (literal_result (first_of_type x) t u whole keyless).faults
ends_each P w locals x o es c t (Struct s) true true i e v k f = (f (first_of_type x) (unkeyed i e (v refl) (k refl)), tt)
ends_each P w locals x o es c t (Struct s) true false i e v k f = tt
ends_each P w locals x o es c t (Struct s) false b i e v k f = tt
ends_each P w locals x o es c t (SliceOf y) true b i e v k f = tt
ends_each P w locals x o es c t (SliceOf y) false b i e v k f = tt
ends_each P w locals x o es c t (Plain y) true b i e v k f = (
  f (first_of_type x) (no_literal i (v refl) (λ s h. let q : Plain y ≡ Struct s = sym e ∙ h in cc)
      (λ z h. let q : Plain y ≡ SliceOf z = sym e ∙ h in cc)),
  tt,
)
ends_each P w locals x o es c t (Plain y) false b i e v k f = tt
ends_each P w locals x o es c t (PointerTo y) true b i e v k f = (
  f (first_of_type x) (no_literal i (v refl) (λ s h. let q : PointerTo y ≡ Struct s = sym e ∙ h in cc)
      (λ z h. let q : PointerTo y ≡ SliceOf z = sym e ∙ h in cc)),
  tt,
)
ends_each P w locals x o es c t (PointerTo y) false b i e v k f = tt
ends_each P w locals x o es c t (Interface y) true b i e v k f = (
  f (first_of_type x) (no_literal i (v refl) (λ s h. let q : Interface y ≡ Struct s = sym e ∙ h in cc)
      (λ z h. let q : Interface y ≡ SliceOf z = sym e ∙ h in cc)),
  tt,
)
ends_each P w locals x o es c t (Interface y) false b i e v k f = tt

literal_each : (P : ℕ → Type 0) (w : World) (locals : Locals) (x : TypeTree) (o : ℕ) (es : ElementTrees) (c : ℕ) (type_of : Option PlainType) →
    (judge_type w x).type_of ≡ type_of →
    ((p : ℕ) → LiteralHasFault w locals (tree.literal x o es c) p → P p) →
    (((p : ℕ) → ValuesHaveFault w locals es p → P p) → Each P (judge_elements w locals None none_seen es).faults) →
    ((t : PlainType) → ((p : ℕ) → ElementsHaveFault w locals t [] es p → P p) → Each P (judge_elements w locals (Some t) none_seen es).faults) →
    Each P (judge_elements w locals type_of none_seen es).faults ×
    Each P (literal_meaning w (first_of_type x) type_of (judge_elements w locals type_of none_seen es).whole
    (judge_elements w locals type_of none_seen es).unkeyed).faults
literal_each P w locals x o es c None e f g h = (g (λ p q. f p (in_untyped q)), tt)
literal_each P w locals x o es c (Some t) e f g h = (
  h t (λ p q. f p (in_elements (true_type w x t e) q)),
  ends_each P w locals x o es c t (underlying w t) (judge_elements w locals (Some t) none_seen es).whole
      (judge_elements w locals (Some t) none_seen es).unkeyed (true_type w x t e) refl (values_found w locals t none_seen es)
      (unkeyed_found w locals t none_seen es) f,
)

-- an element: its key, its value, whether that fits, the others
parts_each : (P : ℕ → Type 0) (a b c d : List ℕ) → Each P a → Each P b → Each P c → Each P d → Each P (a ++ (b ++ (c ++ d)))
parts_each P a b c d h i j k = each_append P a (b ++ (c ++ d)) h (each_append P b (c ++ d) i (each_append P c d j k))

wrong_is_no_key : (w : World) (t : PlainType) (named : List ℕ) (key : ℕ) → key_at w (is_taken named) t key ≡ WrongKey → (s : Symbol) (u : PlainType) →
    IsKey w t named key s u → ⊥
wrong_is_no_key w t named key e s u (of_field i m n) = let q : WrongKey ≡ FieldKey s.rank u = sym e ∙ field_key (is_taken named) i m (new_free s.rank n) in cc

wrong_is_unbroken : (w : World) (t : PlainType) (named : List ℕ) (key : ℕ) → key_at w (is_taken named) t key ≡ WrongKey → IsBrokenKey w t key → ⊥
wrong_is_unbroken w t named key e (of_method i m) =
    let q : WrongKey ≡ BrokenKey = sym e ∙ (ap (λ z. key_in z (is_taken named) (w.member key t)) i ∙ ap (key_of_member (is_taken named)) m) in cc

field_is_key : (w : World) (t : PlainType) (named : List ℕ) (key : ℕ) {k : KeyMeaning} (f : IsFieldKey (underlying w t) (is_taken named) (w.member key t) k) →
    IsKey w t named key f.symbol f.type_of
field_is_key w t named key f = of_field f.is_struct f.is_field (free_new f.symbol.rank named f.is_free)

known_key : (w : World) (t : PlainType) (named : List ℕ) (key rank : ℕ) (u : PlainType) → key_at w (is_taken named) t key ≡ FieldKey rank u →
    IsFieldKey (underlying w t) (is_taken named) (w.member key t) (key_at w (is_taken named) t key)
known_key w t named key rank u e = whole_key (underlying w t) (is_taken named) (w.member key t) (ap is_whole_key e)

-- the value after a key
slice_each : (P : ℕ → Type 0) (w : World) (locals : Locals) (t : PlainType) (named : List ℕ) (key : Option (ℕ × ℕ)) (e : ExprTree) (c : Option ℕ)
    (rest : ElementTrees) →
    ((p : ℕ) → ElementsHaveFault w locals t named (tree.element key e c rest) p → P p) →
    Each P (misfit_if w (place_of e) (value_kind (value_at e (judge w locals e)).meaning) (element_of (underlying w t)))
slice_each P w locals t named key e c rest f = wanted_each P w (place_of e) (place_of e) (judge w locals e).meaning (element_of (underlying w t))
    (λ u h l a v n. f (place_of e) (element_misfit (element_slice (underlying w t) u h) (has_value (λ y. complete w locals e y) v) n))

behind_key_each : (P : ℕ → Type 0) (w : World) (locals : Locals) (t : PlainType) (named : List ℕ) (key : ℕ × ℕ) (e : ExprTree) (c : Option ℕ)
    (rest : ElementTrees) (k : KeyMeaning) → key_at w (is_taken named) t key.0 ≡ k →
    ((p : ℕ) → ElementsHaveFault w locals t named (tree.element (Some key) e c rest) p → P p) →
    Each P (misfit_if w (place_of e) (value_kind (value_at e (judge w locals e)).meaning) (wanted_after_key k (underlying w t)))
behind_key_each P w locals t named key e c rest (FieldKey rank u) i f = let q = known_key w t named key.0 rank u i in
    let same : FieldKey q.symbol.rank q.type_of ≡ FieldKey rank u = sym q.is_key ∙ i in
    let type_same : q.type_of ≡ u = cc in
    wanted_each P w (place_of e) (place_of e) (judge w locals e).meaning (Some u) (λ z h l a v n. let z_same : u ≡ z = cc in
    f (place_of e) (field_misfit (field_is_key w t named key.0 q) (has_value (λ y. complete w locals e y) v)
    (λ fit. n (subst (λ y. FitsType w l y) (type_same ∙ z_same) fit))))
behind_key_each P w locals t named key e c rest WrongKey i f = slice_each P w locals t named (Some key) e c rest f
behind_key_each P w locals t named key e c rest BrokenKey i f = slice_each P w locals t named (Some key) e c rest f

behind_key_others : (P : ℕ → Type 0) (w : World) (locals : Locals) (t : PlainType) (named : List ℕ) (key : ℕ × ℕ) (e : ExprTree) (c : Option ℕ)
    (rest : ElementTrees) (k : KeyMeaning) → key_at w (is_taken named) t key.0 ≡ k →
    ((p : ℕ) → ElementsHaveFault w locals t named (tree.element (Some key) e c rest) p → P p) →
    ((ranks : List ℕ) → ((p : ℕ) → ElementsHaveFault w locals t ranks rest p → P p) → Each P (judge_elements w locals (Some t) (is_taken ranks) rest).faults) →
    Each P (judge_elements w locals (Some t) (seen_with k (is_taken named)) rest).faults
behind_key_others P w locals t named key e c rest (FieldKey rank u) i f g = let q = known_key w t named key.0 rank u i in
    let same : FieldKey q.symbol.rank q.type_of ≡ FieldKey rank u = sym q.is_key ∙ i in
    let rank_same : q.symbol.rank ≡ rank = cc in
    g (rank ∷ named) (λ p h. f p (behind_field (field_is_key w t named key.0 q)
    (subst (λ z. ElementsHaveFault w locals t (z ∷ named) rest p) (sym rank_same) h)))
behind_key_others P w locals t named key e c rest WrongKey i f g = g named (λ p h. f p (behind_element h))
behind_key_others P w locals t named key e c rest BrokenKey i f g = g named (λ p h. f p (behind_element h))

mutual
  unfolding judge

  pub find : (P : ℕ → Type 0) (w : World) (locals : Locals) (e : ExprTree) → ((p : ℕ) → HasFault w locals e p → P p) → Each P (judge w locals e).faults
  find P w locals (tree.Number p) f = tt
  find P w locals (tree.Text p) f = tt
  find P w locals (tree.Name p) f = tt
  find P w locals (tree.Blank p) f = tt
  find P w locals (tree.Composite l) f = find_literal P w locals l (λ p h. f p (in_composite h))
  find P w locals (tree.Paren o e c) f = value_each P w locals e (λ g. find P w locals e g) (λ p h. f p (in_paren h))
  find P w locals (tree.Prefix o q e) f = each_append P (value_at e (judge w locals e)).faults (prefix_of w o q (value_at e (judge w locals e)).meaning).faults
      (value_each P w locals e (λ g. find P w locals e g) (λ p h. f p (in_prefix h)))
      (prefix_each P w o q (place_of e) (judge w locals e).meaning (λ k a h n. f q (no_prefix (has_value (λ z. complete w locals e z) h) n)))
  find P w locals (tree.Address q l) f = each_append P (judge_literal w locals l).faults (address_of (judge_literal w locals l).meaning).faults
      (find_literal P w locals l (λ p h. f p (in_address h)))
      (address_each P (judge_literal w locals l).meaning)
  find P w locals (tree.Chain e links) f = find_links P w locals links (first_token e) (place_of e) (judge w locals e)
      (find P w locals e (λ p h. f p (in_chain h)))
      (λ p h. f p (in_links (operand_status (judge w locals e).meaning (λ n. complete w locals e n)) h))
  find P w locals (tree.Binary e rest) f = find_operands P w locals rest (first_token e) (value_at e (judge w locals e))
      (value_each P w locals e (λ g. find P w locals e g) (λ p h. f p (in_binary h)))
      (λ p h. f p (in_operands (value_operand w locals e) h))

  find_links : (P : ℕ → Type 0) (w : World) (locals : Locals) (links : LinkTrees) (start place : ℕ) (j : Judged) → Each P j.faults →
      ((p : ℕ) → LinksHaveFault w locals start place (status j.meaning) links p → P p) →
      Each P (judge_links w locals start place j links).faults
  find_links P w locals tree.no_link start place j b f = b
  find_links P w locals (tree.selector d n rest) start place j b f =
      find_links P w locals rest start n (followed j (select w locals place n))
      (each_append P j.faults (select w locals place n j.meaning).faults b (select_each P w locals start place d n rest j.meaning f))
      (λ p h. f p (behind_select w locals start place d n p rest j.meaning h))
  find_links P w locals (tree.index o e c rest) start place j b f =
      find_links P w locals rest start start (followed j (index_rule w start place e (value_at e (judge w locals e))))
      (each_append P j.faults (index_rule w start place e (value_at e (judge w locals e)) j.meaning).faults b
      (index_rule_each P w locals start place o e c rest j.meaning (value_each P w locals e (λ g. find P w locals e g) (λ p h. f p (in_index h))) f))
      (λ p h. f p (behind_index_rule w locals start place o e c p rest j.meaning h))
  find_links P w locals (tree.call o xs c rest) start place j b f =
      find_links P w locals rest start start (followed j (call_rule w start place (judge_arguments w locals xs)))
      (each_append P j.faults (call_rule w start place (judge_arguments w locals xs) j.meaning).faults b
      (call_rule_each P w locals start place o xs c rest j.meaning (find_arguments P w locals xs (λ p h. f p (in_arguments h))) f))
      (λ p h. f p (behind_call_rule w locals start place o xs c p rest j.meaning h))

  find_operands : (P : ℕ → Type 0) (w : World) (locals : Locals) (rest : OperandTrees) (start : ℕ) (j : Judged) → Each P j.faults →
      ((p : ℕ) → OperandsHaveFault w locals start (status j.meaning) rest p → P p) →
      Each P (judge_operands w locals start j rest).faults
  find_operands P w locals tree.no_operand start j b f = b
  find_operands P w locals (tree.operand o q e rest) start j b f =
      find_operands P w locals rest start (followed j (λ a. followed (value_at e (judge w locals e)) (operation w o start a)))
      (each_append P j.faults (followed (value_at e (judge w locals e)) (operation w o start j.meaning)).faults b
      (each_append P (value_at e (judge w locals e)).faults (operation w o start j.meaning (value_at e (judge w locals e)).meaning).faults
      (value_each P w locals e (λ g. find P w locals e g) (λ p h. f p (in_operand h)))
      (operation_each P w o start (place_of e) j.meaning (judge w locals e).meaning
      (λ x k a y hm hn n. f start (subst (λ z. OperandsHaveFault w locals start (status z) (tree.operand o q e rest) start) (sym hm)
      (no_operation (has_value (λ z. complete w locals e z) hn) n))))))
      (λ p h. f p (behind_operator w locals start q o e p rest j.meaning h))

  find_arguments : (P : ℕ → Type 0) (w : World) (locals : Locals) (xs : ArgumentTrees) → ((p : ℕ) → ArgumentsHaveFault w locals xs p → P p) →
      Each P (judge_arguments w locals xs).faults
  find_arguments P w locals tree.no_argument f = tt
  find_arguments P w locals (tree.argument e c rest) f =
      each_append P (value_at e (judge w locals e)).faults (judge_arguments w locals rest).faults
      (value_each P w locals e (λ g. find P w locals e g) (λ p h. f p (in_this h)))
      (find_arguments P w locals rest (λ p h. f p (in_other h)))

  find_literal : (P : ℕ → Type 0) (w : World) (locals : Locals) (l : LiteralTree) → ((p : ℕ) → LiteralHasFault w locals l p → P p) →
      Each P (judge_literal w locals l).faults
  find_literal P w locals (tree.literal x o es c) f =
      let T = judge_type w x in
      let E = judge_elements w locals T.type_of none_seen es in
      let both = literal_each P w locals x o es c T.type_of refl f (λ g. find_values P w locals es none_seen g) (λ t g. find_elements P w locals es t [] g) in
      each_append P (T.faults ++ E.faults) (literal_meaning w (first_of_type x) T.type_of E.whole E.unkeyed).faults
      (each_append P T.faults E.faults (type_each P w x (λ p h. f p (in_type h))) both.0) both.1

  find_values : (P : ℕ → Type 0) (w : World) (locals : Locals) (es : ElementTrees) (seen : Seen) → ((p : ℕ) → ValuesHaveFault w locals es p → P p) →
      Each P (judge_elements w locals None seen es).faults
  find_values P w locals tree.no_element seen f = tt
  find_values P w locals (tree.element key e c rest) seen f =
      each_append P (value_at e (judge w locals e)).faults (judge_elements w locals None seen rest).faults
      (value_each P w locals e (λ g. find P w locals e g) (λ p h. f p (this_element h))) (find_values P w locals rest seen (λ p h. f p (other_element h)))

  find_elements : (P : ℕ → Type 0) (w : World) (locals : Locals) (es : ElementTrees) (t : PlainType) (named : List ℕ) →
      ((p : ℕ) → ElementsHaveFault w locals t named es p → P p) →
      Each P (judge_elements w locals (Some t) (is_taken named) es).faults
  find_elements P w locals tree.no_element t named f = tt
  find_elements P w locals (tree.element None e c rest) t named f =
      parts_each P [] (value_at e (judge w locals e)).faults
      (misfit_if w (place_of e) (value_kind (value_at e (judge w locals e)).meaning) (element_of (underlying w t)))
      (judge_elements w locals (Some t) (is_taken named) rest).faults tt
      (value_each P w locals e (λ g. find P w locals e g) (λ p h. f p (in_element h))) (slice_each P w locals t named None e c rest f)
      (find_elements P w locals rest t named (λ p h. f p (behind_element h)))
  find_elements P w locals (tree.element (Some key) e c rest) t named f =
      let K = key_at w (is_taken named) t key.0 in
      parts_each P (key_faults K key.0) (value_at e (judge w locals e)).faults
      (misfit_if w (place_of e) (value_kind (value_at e (judge w locals e)).meaning) (wanted_after_key K (underlying w t)))
      (judge_elements w locals (Some t) (seen_with K (is_taken named)) rest).faults
      (key_each P K key.0 (λ i. f key.0 (no_key (wrong_is_no_key w t named key.0 i) (wrong_is_unbroken w t named key.0 i))))
      (value_each P w locals e (λ g. find P w locals e g) (λ p h. f p (in_element h))) (behind_key_each P w locals t named key e c rest K refl f)
      (behind_key_others P w locals t named key e c rest K refl f (λ ranks g. find_elements P w locals rest t ranks g))
