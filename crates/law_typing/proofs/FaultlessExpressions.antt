-- An expression without a fault has a meaning, or it uses something broken.
use Rattle.std.proofs.Common.{ℕ, ◌≡◌, Bool, true, false, ◌⊎◌, inl, inr, List, [], ◌∷◌, ◌++◌, Option, Some, None, refl, sym, ap, ◌∙◌, subst, true≢false}
use Rattle.go_ast.specs.declared.syntax.BinaryOp.{BinaryOp}
use Rattle.go_ast.specs.declared.syntax.PrefixOp.{PrefixOp}
use Rattle.go_ast.specs.Tree.{TypeTree, ExprTree, LinkTrees, OperandTrees, ArgumentTrees, LiteralTree, ElementTrees}
use Rattle.go_ast.specs.Tree as tree
use Rattle.types_expr.specs.Places.{first_token, first_of_type, place_of}
use Rattle.types_expr.specs.Types.{PlainType, ValueKind, Typed, Meaning, Value}
use Rattle.types_expr.specs.World.{World, Locals, underlying, name_meaning}
use Rattle.types_expr.specs.Judge.{Judged, ListValue, JudgedElements, Seen, followed, value_at, value_kind, select, index_rule, index_of, as_value, call_rule}
use Rattle.types_expr.specs.Judge.{call_of, operation, prefix_of, address_of, judge, judge_links, judge_operands, judge_arguments, judge_literal}
use Rattle.types_expr.specs.Judge.{judge_elements, judge_type, judge_key, key_at, seen_with, no_key, none_seen, is_whole, all_whole, literal_of}
use Rattle.types_expr.specs.Judge.{literal_meaning}
use Rattle.law_typing.specs.Names.{IsNotBroken}
use Rattle.law_typing.specs.BrokenUses.{UsesBroken, blank, a_name, in_composite, in_address, in_paren, in_prefix, in_chain, in_links, in_binary, in_operands}
use Rattle.law_typing.specs.BrokenUses.{LinksUseBroken, selected, in_index, in_call}
use Rattle.law_typing.specs.BrokenUses.{behind_selector, behind_index, behind_call, OperandsUseBroken, this_operand}
use Rattle.law_typing.specs.BrokenUses.{other_operand, ArgumentsUseBroken, this_argument, other_argument, LiteralUsesBroken, of_broken_type, in_elements}
use Rattle.law_typing.specs.BrokenUses.{ElementsUseBroken, a_key, this_value, other_element}
use Rattle.law_typing.proofs.Tests.{and_both}
use Rattle.law_typing.proofs.Judgements.{value_whole, value_kept, kind_known, empty_first, empty_second}
use Rattle.law_typing.proofs.Naming.{true_type}
use Rattle.law_typing.proofs.Selecting.{true_selects, true_indexes}
use Rattle.law_typing.proofs.Calling.{true_calls}
use Rattle.law_typing.proofs.BrokenRules.{whole_or_broken, no_name, value_or_fault, prefix_or_fault, operation_or_fault, select_or_broken, index_or_fault}
use Rattle.law_typing.proofs.BrokenRules.{call_or_fault, type_or_broken, key_or_broken, faultless_parts, all_parts_whole, ends_or_fault}
use Rattle.law_typing.proofs.Completeness.{complete, complete_arguments, complete_literal, value_was, has_value, whole_as}

-- faults found before links, operands and elements stay

links_first : (w : World) (locals : Locals) (links : LinkTrees) (start place : ℕ) (j : Judged) → (judge_links w locals start place j links).faults ≡ [] →
    j.faults ≡ []
unfolding judge
links_first w locals tree.no_link start place j h = h
links_first w locals (tree.selector d n rest) start place j h =
    empty_first j.faults (select w locals place n j.meaning).faults (links_first w locals rest start n (followed j (select w locals place n)) h)
links_first w locals (tree.index o e c rest) start place j h =
    empty_first j.faults (index_rule w start place e (value_at e (judge w locals e)) j.meaning).faults
    (links_first w locals rest start start (followed j (index_rule w start place e (value_at e (judge w locals e)))) h)
links_first w locals (tree.call o xs c rest) start place j h =
    empty_first j.faults (call_rule w start place (judge_arguments w locals xs) j.meaning).faults
    (links_first w locals rest start start (followed j (call_rule w start place (judge_arguments w locals xs))) h)

operands_first : (w : World) (locals : Locals) (rest : OperandTrees) (start : ℕ) (j : Judged) → (judge_operands w locals start j rest).faults ≡ [] →
    j.faults ≡ []
unfolding judge
operands_first w locals tree.no_operand start j h = h
operands_first w locals (tree.operand o p e rest) start j h =
    empty_first j.faults (followed (value_at e (judge w locals e)) (operation w o start j.meaning)).faults
    (operands_first w locals rest start (followed j (λ a. followed (value_at e (judge w locals e)) (operation w o start a))) h)

-- parts

abbrev IsSettled : Judged → Type 0 → Type 0
IsSettled j uses = IsNotBroken j.meaning ⊎ uses

abbrev IsValue : Meaning → Type 0
IsValue m = (k : ValueKind) × (a : Bool) × (m ≡ Value k a)

settled_value : {uses : Type 0} (e : ExprTree) (j : Judged) → (j.faults ≡ [] → IsSettled j uses) → (value_at e j).faults ≡ [] → IsValue j.meaning ⊎ uses
settled_value e j f h = elim (f (empty_first j.faults (as_value (place_of e) j.meaning).faults h)) [
  | inl n ↦ inl (value_or_fault (place_of e) j.meaning n (empty_second j.faults (as_value (place_of e) j.meaning).faults h))
  | inr u ↦ inr u
]

value_stays : (place : ℕ) {m : Meaning} → IsValue m → IsNotBroken (as_value place m).meaning
value_stays place v = whole_as (value_kept place v.2) value_whole

prefixed_value : (w : World) (o : PrefixOp) (p place : ℕ) (m : Meaning) → IsValue m → (prefix_of w o p (as_value place m).meaning).faults ≡ [] →
    IsNotBroken (prefix_of w o p (as_value place m).meaning).meaning
prefixed_value w o p place m v h = let e = value_kept place v.2 in
    subst (λ z. IsNotBroken (prefix_of w o p z).meaning) (sym e) (prefix_or_fault w o p v.0 v.1 (ap (λ z. (prefix_of w o p z).faults) (sym e) ∙ h))

operation_value : (w : World) (o : BinaryOp) (start place : ℕ) (m n : Meaning) → IsValue m → IsValue n →
    (operation w o start m (as_value place n).meaning).faults ≡ [] →
    IsValue (operation w o start m (as_value place n).meaning).meaning
operation_value w o start place m n v u h = let e = value_kept place u.2 in
    subst (λ z. IsValue (operation w o start z (as_value place n).meaning).meaning) (sym v.2)
    (subst (λ z. IsValue (operation w o start (Value v.0 v.1) z).meaning) (sym e)
    (let f = operation_or_fault w o start v.0 u.0 v.1 u.1
    (ap (λ z. (operation w o start (Value v.0 v.1) z).faults) (sym e) ∙
    (ap (λ z. (operation w o start z (as_value place n).meaning).faults) (sym v.2) ∙ h)) in
    (f.0, false, f.1)))

index_value : (w : World) (start here : ℕ) (e : ExprTree) (i : Judged) (m x : Meaning) → IsNotBroken m → i.meaning ≡ (as_value (place_of e) x).meaning →
    IsValue x → (index_rule w start here e i m).faults ≡ [] →
    IsNotBroken (index_rule w start here e i m).meaning
index_value w start here e i m x n same v h =
    let operand = value_or_fault here m n (empty_first (as_value here m).faults
    (followed i (index_of w start (place_of e) (as_value here m).meaning)).faults h) in
    index_or_fault w start here (place_of e) m i.meaning operand.2 (same ∙ value_kept (place_of e) v.2)
    (empty_second i.faults (index_of w start (place_of e) (as_value here m).meaning i.meaning).faults
    (empty_second (as_value here m).faults (followed i (index_of w start (place_of e) (as_value here m).meaning)).faults h))

address_stays : (m : Meaning) (t : PlainType) → m ≡ Value (Typed t) false → IsNotBroken (address_of m).meaning
unfolding address_of
address_stays m t e = subst (λ z. IsNotBroken (address_of z).meaning) (sym e) value_whole

literal_settled : (w : World) (start : ℕ) (t : PlainType) (whole unkeyed : Bool) → whole ≡ true →
    (literal_meaning w start (Some t) whole unkeyed).faults ≡ [] → IsNotBroken (literal_meaning w start (Some t) whole unkeyed).meaning
literal_settled w start t true unkeyed e h = ends_or_fault start t (underlying w t) unkeyed h
literal_settled w start t false unkeyed e h = absurd (true≢false (sym e))

-- a literal whose type is known
typed_literal : (w : World) (locals : Locals) (x : TypeTree) (o : ℕ) (es : ElementTrees) (c : ℕ) (type_of : Option PlainType) (faults : List ℕ)
    (t : PlainType) → (judge_type w x).type_of ≡ Some t → type_of ≡ Some t →
    ((judge_elements w locals (Some t) none_seen es).faults ≡ [] → ((judge_elements w locals (Some t) none_seen es).whole ≡ true) ⊎
    ElementsUseBroken w locals t es) →
    (literal_of w (first_of_type x) (record { type_of = type_of; faults = faults }) (judge_elements w locals type_of none_seen es)).faults ≡ [] →
    IsSettled (literal_of w (first_of_type x) (record { type_of = type_of; faults = faults }) (judge_elements w locals type_of none_seen es))
    (LiteralUsesBroken w locals (tree.literal x o es c))
typed_literal w locals x o es c type_of faults t known e f h =
    let E : (z : Option PlainType) → JudgedElements = λ z. judge_elements w locals z none_seen es in
    let M : (z : Option PlainType) → Judged = λ z. literal_meaning w (first_of_type x) z (E z).whole (E z).unkeyed in
    let front = empty_first (faults ++ (E type_of).faults) (M type_of).faults h in
    let silent : (E (Some t)).faults ≡ [] = ap (λ z. (E z).faults) (sym e) ∙ empty_second faults (E type_of).faults front in
    let last : (M (Some t)).faults ≡ [] = ap (λ z. (M z).faults) (sym e) ∙ empty_second (faults ++ (E type_of).faults) (M type_of).faults h in
    elim (f silent) [
      | inl whole ↦ inl (subst (λ z. IsNotBroken (M z).meaning) (sym e) (literal_settled w (first_of_type x) t (E (Some t)).whole (E (Some t)).unkeyed whole
          last))
      | inr u ↦ inr (in_elements (true_type w x t known) u)
    ]

address_kept : (w : World) (locals : Locals) (l : LiteralTree) → IsNotBroken (judge_literal w locals l).meaning →
    IsNotBroken (address_of (judge_literal w locals l).meaning).meaning
address_kept w locals l n = let f = complete_literal w locals l n in address_stays (judge_literal w locals l).meaning f.type_of f.found

all_of_none : all_whole [] ≡ true
unfolding all_whole
all_of_none = refl

all_of_more : (place : ℕ) (m : Meaning) (vs : List ListValue) → is_whole (value_kind m) ≡ true → all_whole vs ≡ true →
    all_whole (record { place = place; kind = value_kind m } ∷ vs) ≡ true
unfolding all_whole
all_of_more place m vs a b = and_both (is_whole (value_kind m)) (all_whole vs) a b

mutual
  unfolding judge

  pub settle : (w : World) (locals : Locals) (e : ExprTree) → (judge w locals e).faults ≡ [] → IsSettled (judge w locals e) (UsesBroken w locals e)
  settle w locals (tree.Number p) h = inl value_whole
  settle w locals (tree.Text p) h = inl value_whole
  settle w locals (tree.Name p) h = elim (whole_or_broken (name_meaning w locals p)) [ inl n ↦ inl n | inr e ↦ inr (a_name (no_name w locals p e)) ]
  settle w locals (tree.Blank p) h = inr blank
  settle w locals (tree.Composite l) h = elim (settle_literal w locals l h) [ inl n ↦ inl n | inr u ↦ inr (in_composite u) ]
  settle w locals (tree.Paren o e c) h = elim (settled_value e (judge w locals e) (λ q. settle w locals e q) h)
      [ inl v ↦ inl (value_stays (place_of e) v) | inr u ↦ inr (in_paren u) ]
  settle w locals (tree.Prefix o p e) h =
      let V = value_at e (judge w locals e) in
      elim (settled_value e (judge w locals e) (λ q. settle w locals e q) (empty_first V.faults (prefix_of w o p V.meaning).faults h)) [
        | inl v ↦ inl (prefixed_value w o p (place_of e) (judge w locals e).meaning v (empty_second V.faults (prefix_of w o p V.meaning).faults h))
        | inr u ↦ inr (in_prefix u)
      ]
  settle w locals (tree.Address p l) h = elim (settle_literal w locals l
      (empty_first (judge_literal w locals l).faults (address_of (judge_literal w locals l).meaning).faults h)) [
        | inl n ↦ inl (address_kept w locals l n)
        | inr u ↦ inr (in_address u)
      ]
  settle w locals (tree.Chain e links) h = elim (settle w locals e (links_first w locals links (first_token e) (place_of e) (judge w locals e) h)) [
    | inl n ↦ (elim (settle_links w locals links (first_token e) (place_of e) (judge w locals e) n h)
        [ inl q ↦ inl q | inr u ↦ inr (in_links (complete w locals e n) u) ])
    | inr u ↦ inr (in_chain u)
  ]
  settle w locals (tree.Binary e rest) h =
      elim (settled_value e (judge w locals e) (λ q. settle w locals e q) (operands_first w locals rest (first_token e) (value_at e (judge w locals e)) h)) [
        | inl v ↦ (elim (settle_operands w locals rest (first_token e) (value_at e (judge w locals e)) (v.0, v.1, value_kept (place_of e) v.2) h)
            [ inl q ↦ inl q | inr u ↦ inr (in_operands u) ])
        | inr u ↦ inr (in_binary u)
      ]

  settle_links : (w : World) (locals : Locals) (links : LinkTrees) (start place : ℕ) (j : Judged) → IsNotBroken j.meaning →
      (judge_links w locals start place j links).faults ≡ [] →
      IsSettled (judge_links w locals start place j links) (LinksUseBroken w locals j.meaning links)
  settle_links w locals tree.no_link start place j n h = inl n
  settle_links w locals (tree.selector d x rest) start place j n h =
      let k = followed j (select w locals place x) in
      elim (select_or_broken w locals place x j.meaning n
      (empty_second j.faults (select w locals place x j.meaning).faults (links_first w locals rest start x k h))) [
        | inl q ↦ (elim (settle_links w locals rest start x k q h)
            [ inl z ↦ inl z | inr u ↦ inr (behind_selector (true_selects w locals place x j.meaning q).1 u) ])
        | inr u ↦ inr (selected u)
      ]
  settle_links w locals (tree.index o e c rest) start place j n h =
      let V = value_at e (judge w locals e) in
      let k = followed j (index_rule w start place e V) in
      let now : (index_rule w start place e V j.meaning).faults ≡ [] =
      empty_second j.faults (index_rule w start place e V j.meaning).faults (links_first w locals rest start start k h) in
      let inner = empty_second (as_value place j.meaning).faults (followed V (index_of w start (place_of e) (as_value place j.meaning).meaning)).faults now in
      elim (settled_value e (judge w locals e) (λ q. settle w locals e q)
      (empty_first V.faults (index_of w start (place_of e) (as_value place j.meaning).meaning V.meaning).faults inner)) [
        | inl v ↦ (let q = index_value w start place e V j.meaning (judge w locals e).meaning n refl v now in
            elim (settle_links w locals rest start start k q h) [
              | inl z ↦ inl z
              | inr u ↦ (let i = true_indexes w start place (place_of e) j.meaning V.meaning q in
                  inr (behind_index (has_value (λ y. complete w locals e y) (value_was (place_of e) (judge w locals e).meaning i.2)) i.3 u))
            ])
        | inr u ↦ inr (in_index u)
      ]
  settle_links w locals (tree.call o xs c rest) start place j n h =
      let A = judge_arguments w locals xs in
      let k = followed j (call_rule w start place A) in
      let now : (call_rule w start place A j.meaning).faults ≡ [] =
      empty_second j.faults (call_rule w start place A j.meaning).faults (links_first w locals rest start start k h) in
      elim (settle_arguments w locals xs (empty_first A.faults (call_of w start place A.values j.meaning).faults now)) [
        | inl all ↦ (let q = call_or_fault w start place A.values j.meaning n all
            (empty_second A.faults (call_of w start place A.values j.meaning).faults now) in
            elim (settle_links w locals rest start start k q h) [
              | inl z ↦ inl z
              | inr u ↦ (let s = true_calls w start place A.values j.meaning q in inr (behind_call (complete_arguments w locals xs s.1.0 s.1.1) s.1.2 u))
            ])
        | inr u ↦ inr (in_call u)
      ]

  settle_operands : (w : World) (locals : Locals) (rest : OperandTrees) (start : ℕ) (j : Judged) → IsValue j.meaning →
      (judge_operands w locals start j rest).faults ≡ [] →
      IsSettled (judge_operands w locals start j rest) (OperandsUseBroken w locals rest)
  settle_operands w locals tree.no_operand start j v h = inl (whole_as v.2 value_whole)
  settle_operands w locals (tree.operand o p e rest) start j v h =
      let V = value_at e (judge w locals e) in
      let k = followed j (λ a. followed V (operation w o start a)) in
      let now = empty_second j.faults (followed V (operation w o start j.meaning)).faults (operands_first w locals rest start k h) in
      elim (settled_value e (judge w locals e) (λ q. settle w locals e q) (empty_first V.faults (operation w o start j.meaning V.meaning).faults now)) [
        | inl u ↦ (elim (settle_operands w locals rest start k
            (operation_value w o start (place_of e) j.meaning (judge w locals e).meaning v u
            (empty_second V.faults (operation w o start j.meaning V.meaning).faults now)) h) [
              | inl q ↦ inl q
              | inr b ↦ inr (other_operand b)
            ])
        | inr b ↦ inr (this_operand b)
      ]

  settle_arguments : (w : World) (locals : Locals) (xs : ArgumentTrees) → (judge_arguments w locals xs).faults ≡ [] →
      (all_whole (judge_arguments w locals xs).values ≡ true) ⊎ ArgumentsUseBroken w locals xs
  settle_arguments w locals tree.no_argument h = inl all_of_none
  settle_arguments w locals (tree.argument e c rest) h =
      let V = value_at e (judge w locals e) in
      let A = judge_arguments w locals rest in
      elim (settled_value e (judge w locals e) (λ q. settle w locals e q) (empty_first V.faults A.faults h)) [
        | inl v ↦ (elim (settle_arguments w locals rest (empty_second V.faults A.faults h)) [
          | inl all ↦ inl (all_of_more (place_of e) V.meaning A.values (ap is_whole (kind_known (value_kept (place_of e) v.2))) all)
          | inr u ↦ inr (other_argument u)
        ])
        | inr u ↦ inr (this_argument u)
      ]

  settle_literal : (w : World) (locals : Locals) (l : LiteralTree) → (judge_literal w locals l).faults ≡ [] →
      IsSettled (judge_literal w locals l) (LiteralUsesBroken w locals l)
  settle_literal w locals (tree.literal x o es c) h =
      let T = judge_type w x in
      let E = judge_elements w locals T.type_of none_seen es in
      let M = literal_meaning w (first_of_type x) T.type_of E.whole E.unkeyed in
      elim (type_or_broken w x (empty_first T.faults E.faults (empty_first (T.faults ++ E.faults) M.faults h))) [
        | inl t ↦ typed_literal w locals x o es c T.type_of T.faults t.0 t.1 t.1 (λ q. settle_elements w locals es t.0 none_seen q) h
        | inr u ↦ inr (of_broken_type u)
      ]

  settle_elements : (w : World) (locals : Locals) (es : ElementTrees) (t : PlainType) (seen : Seen) → (judge_elements w locals (Some t) seen es).faults ≡ [] →
      ((judge_elements w locals (Some t) seen es).whole ≡ true) ⊎ ElementsUseBroken w locals t es
  settle_elements w locals tree.no_element t seen h = inl refl
  settle_elements w locals (tree.element None e c rest) t seen h =
      let V = value_at e (judge w locals e) in
      let R = judge_elements w locals (Some t) seen rest in
      let p = faultless_parts w (no_key w t) (place_of e) V R h in
      elim (settled_value e (judge w locals e) (λ q. settle w locals e q) p.value) [
        | inl v ↦ (elim (settle_elements w locals rest t seen p.others) [
          | inl all ↦ inl (all_parts_whole w (no_key w t) (place_of e) V R refl (ap is_whole (kind_known (value_kept (place_of e) v.2))) p.fitting all)
          | inr u ↦ inr (other_element u)
        ])
        | inr u ↦ inr (this_value u)
      ]
  settle_elements w locals (tree.element (Some key) e c rest) t seen h =
      let V = value_at e (judge w locals e) in
      let K = key_at w seen t key.0 in
      let R = judge_elements w locals (Some t) (seen_with K seen) rest in
      let p = faultless_parts w (judge_key w t key.0 K) (place_of e) V R h in
      elim (key_or_broken (underlying w t) seen (w.member key.0 t) key.0 p.key) [
        | inl known ↦ (elim (settled_value e (judge w locals e) (λ q. settle w locals e q) p.value) [
          | inl v ↦ (elim (settle_elements w locals rest t (seen_with K seen) p.others) [
            | inl all ↦ inl (all_parts_whole w (judge_key w t key.0 K) (place_of e) V R known (ap is_whole (kind_known (value_kept (place_of e) v.2)))
                p.fitting all)
            | inr u ↦ inr (other_element u)
          ])
          | inr u ↦ inr (this_value u)
        ])
        | inr b ↦ inr (a_key b.1)
      ]
