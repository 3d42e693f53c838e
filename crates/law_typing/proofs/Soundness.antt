-- An expression with a meaning by the rules is judged to have this meaning, without a fault.
use Rattle.std.proofs.Common.{ℕ, ◌≡◌, Bool, false, List, [], Some, refl, sym, ap, ◌∙◌, subst}
use Rattle.go_ast.specs.declared.syntax.BinaryOp.{BinaryOp}
use Rattle.go_ast.specs.declared.syntax.PrefixOp.{PrefixOp}
use Rattle.go_ast.specs.Tree.{ExprTree, LinkTrees, OperandTrees, ArgumentTrees, LiteralTree, ElementTrees}
use Rattle.types_expr.specs.declared.symbol.Symbol.{Symbol}
use Rattle.types_expr.specs.Places.{first_token, first_of_type, place_of}
use Rattle.types_expr.specs.Types.{PlainType, SliceOf, Struct, ValueKind, Typed, Meaning, Value, element_of}
use Rattle.types_expr.specs.World.{World, Locals, underlying}
use Rattle.types_expr.specs.Judge.{Judged, JudgedList, JudgedElements, Seen, means, value_or_wrong, followed, value_at, value_kind, select, index_rule}
use Rattle.types_expr.specs.Judge.{index_of, call_rule, call_of, operation, prefix_of, address_of, judge, judge_links, judge_operands, judge_arguments}
use Rattle.types_expr.specs.Judge.{judge_literal, judge_elements, judge_key, seen_with, with_element, no_key, none_seen, misfit_if, KeyMeaning, FieldKey}
use Rattle.law_typing.specs.Operators.{Operates, Prefixes}
use Rattle.law_typing.specs.Links.{Indexes, CallGives}
use Rattle.law_typing.specs.Links.{element as slice_element}
use Rattle.law_typing.specs.Meanings.{HasMeaning, number, text, name, composite, paren, prefix, address, chain, binary, LinksMean, no_link, selector, index}
use Rattle.law_typing.specs.Meanings.{call, OperandsMean, no_operand, operand, AreValues, no_argument, argument, IsLiteralOf, struct_literal, slice_literal}
use Rattle.law_typing.specs.Meanings.{AreFields, no_field, field, AreElements, no_element, element}
use Rattle.law_typing.specs.IsJudgedAs.{IsJudgedAs}
use Rattle.law_typing.proofs.Judgements.{value_whole, agrees_as, means_it, followed_agrees}
use Rattle.law_typing.proofs.Judgements.{chosen_agrees, value_agrees, value_at_agrees, kind_known, empty_both}
use Rattle.law_typing.proofs.Naming.{name_true, name_whole, type_true}
use Rattle.law_typing.proofs.Operating.{operates_true, prefixes_true, prefix_whole}
use Rattle.law_typing.proofs.Selecting.{selects_true, indexes_true}
use Rattle.law_typing.proofs.Arguments.{AreOf, fit_silent}
use Rattle.law_typing.proofs.Calling.{calls_true}
use Rattle.law_typing.proofs.Elements.{is_taken, new_free, field_key, IsWholeElement, element_whole, literal_agrees, struct_ends, slice_ends}

prefix_agrees : (w : World) {o : PrefixOp} {k : ValueKind} {m : Meaning} (p : ℕ) (a : Bool) → Prefixes w o k m → IsJudgedAs (prefix_of w o p (Value k a)) m
unfolding prefix_of
prefix_agrees w p a q = chosen_agrees p (prefixes_true w q) (prefix_whole q)

operation_agrees : (w : World) {o : BinaryOp} {j k l : ValueKind} (start : ℕ) (a b : Bool) → Operates w o j k l →
    IsJudgedAs (operation w o start (Value j a) (Value k b)) (Value l false)
unfolding operation value_kind
operation_agrees w start a b q = agrees_as (ap (λ z. value_or_wrong z start) (operates_true w q)) (means_it value_whole)

pub index_agrees : (w : World) (start place : ℕ) (e : ExprTree) {m s : Meaning} {k : ValueKind} {a : Bool} {i : Judged} → Indexes w m k s →
    IsJudgedAs i (Value k a) →
    IsJudgedAs (index_rule w start place e i m) s
index_agrees w start place e {a = a} {i} (slice_element {t} {a = b} h j) v =
    followed_agrees (λ s. followed i (index_of w start (place_of e) s)) (value_agrees place)
    (followed_agrees (index_of w start (place_of e) (Value (Typed t) b)) v (indexes_true w start (place_of e) a (slice_element h j)))

-- arguments as the judgement finds them
pub record AreFound (js : JudgedList) (ks : List ValueKind) : Type 0 where
  pub values : AreOf js.values ks
  pub faultless : js.faults ≡ []

pub call_agrees : (w : World) (start place : ℕ) {js : JudgedList} {ks : List ValueKind} {m s : Meaning} → AreFound js ks → CallGives w m ks s →
    IsJudgedAs (call_rule w start place js m) s
call_agrees w start place {js} {ks} {m} a c = let r = calls_true w start place js.values a.values c in
    record { meaning = r.meaning; faultless = empty_both js.faults (call_of w start place js.values m).faults a.faultless r.faultless; whole = r.whole }

mutual
  unfolding judge address_of

  pub sound : (w : World) (locals : Locals) {e : ExprTree} {m : Meaning} → HasMeaning w locals e m → IsJudgedAs (judge w locals e) m
  sound w locals number = means_it value_whole
  sound w locals text = means_it value_whole
  sound w locals (name h) = agrees_as (ap means (name_true w locals h)) (means_it (name_whole w locals h))
  sound w locals (composite h) = sound_literal w locals h
  sound w locals (paren {e = e} h) = value_at_agrees e (sound w locals h)
  sound w locals (prefix {o} {p} {e} {a = a} h q) = followed_agrees (prefix_of w o p) (value_at_agrees e (sound w locals h)) (prefix_agrees w p a q)
  sound w locals (address h) = followed_agrees address_of (sound_literal w locals h) (means_it value_whole)
  sound w locals (chain {e} h more) = sound_links w locals more (first_token e) (place_of e) (judge w locals e) (sound w locals h)
  sound w locals (binary {e} h more) = sound_operands w locals more (first_token e) (value_at e (judge w locals e)) (value_at_agrees e (sound w locals h))

  sound_links : (w : World) (locals : Locals) {m : Meaning} {links : LinkTrees} {r : Meaning} → LinksMean w locals m links r →
      (start place : ℕ) (j : Judged) → IsJudgedAs j m → IsJudgedAs (judge_links w locals start place j links) r
  sound_links w locals no_link start place j h = h
  sound_links w locals (selector {n = n} s more) start place j h =
      sound_links w locals more start n (followed j (select w locals place n)) (followed_agrees (select w locals place n) h (selects_true w locals place s))
  sound_links w locals (index {e = e} v i more) start place j h =
      sound_links w locals more start start (followed j (index_rule w start place e (value_at e (judge w locals e))))
      (followed_agrees (index_rule w start place e (value_at e (judge w locals e))) h
      (index_agrees w start place e i (value_at_agrees e (sound w locals v))))
  sound_links w locals (call {arguments = xs} vs c more) start place j h =
      sound_links w locals more start start (followed j (call_rule w start place (judge_arguments w locals xs)))
      (followed_agrees (call_rule w start place (judge_arguments w locals xs)) h
      (call_agrees w start place (sound_arguments w locals vs) c))

  sound_operands : (w : World) (locals : Locals) {m : Meaning} {rest : OperandTrees} {r : Meaning} → OperandsMean w locals m rest r →
      (start : ℕ) (j : Judged) → IsJudgedAs j m → IsJudgedAs (judge_operands w locals start j rest) r
  sound_operands w locals no_operand start j h = h
  sound_operands w locals (operand {o} {e = e} {j = x} {a = a} {b = b} v q more) start j h =
      sound_operands w locals more start (followed j (λ z. followed (value_at e (judge w locals e)) (operation w o start z)))
      (followed_agrees (λ z. followed (value_at e (judge w locals e)) (operation w o start z)) h
      (followed_agrees (operation w o start (Value x a)) (value_at_agrees e (sound w locals v)) (operation_agrees w start a b q)))

  pub sound_arguments : (w : World) (locals : Locals) {xs : ArgumentTrees} {ks : List ValueKind} → AreValues w locals xs ks →
      AreFound (judge_arguments w locals xs) ks
  sound_arguments w locals no_argument = record { values = tt; faultless = refl }
  sound_arguments w locals (argument {e} {rest = rest} v more) = let h = value_at_agrees e (sound w locals v) in
      let others = sound_arguments w locals more in
      record {
        values = (kind_known h.meaning, others.values);
        faultless =
            empty_both (value_at e (judge w locals e)).faults (judge_arguments w locals rest).faults h.faultless others.faultless;
      }

  sound_literal : (w : World) (locals : Locals) {l : LiteralTree} {t : PlainType} → IsLiteralOf w locals l t →
      IsJudgedAs (judge_literal w locals l) (Value (Typed t) false)
  sound_literal w locals (struct_literal {x} {es = es} {t} {s} h e fs) = let f = sound_fields w locals fs s e in
      literal_agrees w (first_of_type x) (λ j. judge_elements w locals j.type_of none_seen es) (type_true w h) f.0.faultless
      (struct_ends w (first_of_type x) t e f.0.whole f.1)
  sound_literal w locals (slice_literal {x} {es = es} {t} {u} h e vs) = let f = sound_elements w locals vs t none_seen e in
      literal_agrees w (first_of_type x) (λ j. judge_elements w locals j.type_of none_seen es) (type_true w h) f.faultless
      (slice_ends w (first_of_type x) t (judge_elements w locals (Some t) none_seen es).unkeyed e f.whole)

  sound_fields : (w : World) (locals : Locals) {t : PlainType} {named : List ℕ} {es : ElementTrees} → AreFields w locals t named es → (x : Symbol) →
      underlying w t ≡ Struct x →
      IsWholeElement (judge_elements w locals (Some t) (is_taken named) es) × ((judge_elements w locals (Some t) (is_taken named) es).unkeyed ≡ false)
  sound_fields w locals no_field x i = (record { whole = refl; faultless = refl }, refl)
  sound_fields w locals (field {t} {u} {named} {key} {e} {rest = rest} {s} {k} m n v f more) x i =
      let others = sound_fields w locals more x i in
      let F : KeyMeaning → JudgedElements = λ z. with_element w (judge_key w t key.0 z) (place_of e) (value_at e (judge w locals e))
      (judge_elements w locals (Some t) (seen_with z (is_taken named)) rest) in
      subst (λ z. IsWholeElement (F z) × ((F z).unkeyed ≡ false)) (sym (field_key (is_taken named) i m (new_free s.rank n))) (
        element_whole w (judge_key w t key.0 (FieldKey s.rank u)) (place_of e) refl refl (value_at_agrees e (sound w locals v))
            (fit_silent w (place_of e) refl f) others.0,
        others.1,
      )

  sound_elements : (w : World) (locals : Locals) {u : PlainType} {es : ElementTrees} → AreElements w locals u es → (t : PlainType) (seen : Seen) →
      underlying w t ≡ SliceOf u →
      IsWholeElement (judge_elements w locals (Some t) seen es)
  sound_elements w locals no_element t seen i = record { whole = refl; faultless = refl }
  sound_elements w locals (element {u} {e} {rest = rest} {k} v f more) t seen i =
      element_whole w (no_key w t) (place_of e) refl refl (value_at_agrees e (sound w locals v))
      (ap (λ z. misfit_if w (place_of e) (Some k) (element_of z)) i ∙ fit_silent w (place_of e) refl f)
      (sound_elements w locals more t seen i)
