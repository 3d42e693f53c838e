-- What is found of an expression asks for the members of its uses alone.
use Rattle.std.proofs.Common.{ℕ, ◌≡◌, Bool, [], ◌++◌, Option, Some, None, option_map, refl, sym, ap, ◌∙◌}
use Rattle.go_ast.specs.Tree.{TypeTree, ExprTree, LinkTrees, OperandTrees, ArgumentTrees, LiteralTree, ElementTrees}
use Rattle.go_ast.specs.Tree as tree
use Rattle.types_expr.specs.Places.{first_token, first_of_type, place_of}
use Rattle.types_expr.specs.Types.{PlainType, Typed, Untyped, Nil, Meaning, Value, TypeName, Function, BuiltinName, Package, Results, Broken}
use Rattle.types_expr.specs.World.{World, Locals, Member, member_symbol}
use Rattle.types_expr.specs.Judge.{Judged, JudgedList, JudgedKey, JudgedElements, TypeJudged, Seen, also, followed, value_at, select, select_member, index_rule}
use Rattle.types_expr.specs.Judge.{index_of, as_value, call_rule, call_of, operation, prefix_of, address_of, judge, judge_links, judge_operands}
use Rattle.types_expr.specs.Judge.{judge_arguments, judge_literal, judge_elements, judge_type, element_key, seen_after, none_seen, literal_of}
use Rattle.types_expr.specs.Judge.{literal_meaning, with_element, value_before, with_values, means_or_wrong, member_meaning, value_kind, entering_if}
use Rattle.law_changed_types.specs.MemberUses.{ExpressionsAskForTheirUses}
use Rattle.law_changed_types.proofs.Agreement.{Members, with_members, with_member, AreMembersAt, AreIn, of_part, in_first, of_first, of_second, at_first}
use Rattle.law_changed_types.proofs.Agreement.{only_members_differ, members_agree}
use Rattle.law_changed_types.proofs.Rules.{same_prefix, same_operation, same_index, same_call, same_type, same_literal_rule, same_element}

-- uses of a part

pub links_keep : (v : World) (locals : Locals) (links : LinkTrees) (start place : ℕ) (j : Judged) → AreIn j.uses (judge_links v locals start place j links).uses
unfolding judge
links_keep v locals tree.no_link start place j = λ u c. c
links_keep v locals (tree.selector d n rest) start place j = λ u c. links_keep v locals rest start n (followed j (select v locals place n)) u
    (in_first j.uses (select v locals place n j.meaning).uses u c)
links_keep v locals (tree.index o e c rest) start place j = λ u h.
    links_keep v locals rest start start (followed j (index_rule v start place e (value_at e (judge v locals e)))) u
    (in_first j.uses (index_rule v start place e (value_at e (judge v locals e)) j.meaning).uses u h)
links_keep v locals (tree.call o xs c rest) start place j = λ u h.
    links_keep v locals rest start start (followed j (call_rule v start place (judge_arguments v locals xs))) u
    (in_first j.uses (call_rule v start place (judge_arguments v locals xs) j.meaning).uses u h)

pub operands_keep : (v : World) (locals : Locals) (rest : OperandTrees) (start : ℕ) (j : Judged) → AreIn j.uses (judge_operands v locals start j rest).uses
unfolding judge
operands_keep v locals tree.no_operand start j = λ u c. c
operands_keep v locals (tree.operand o p e rest) start j = λ u c.
    operands_keep v locals rest start (followed j (λ a. followed (value_at e (judge v locals e)) (operation v o start a))) u
    (in_first j.uses (followed (value_at e (judge v locals e)) (operation v o start j.meaning)).uses u c)

-- parts

-- a value, where the expression is judged alike
pub same_value : {v : World} {m : Members} (e : ExprTree) (j k : Judged) → (AreMembersAt v m j.uses → k ≡ j) → AreMembersAt v m (value_at e j).uses →
    value_at e k ≡ value_at e j
same_value e j k f h = ap (value_at e) (f (of_first j.uses (as_value (place_of e) j.meaning).uses h))

same_selection : (v : World) (m : Members) (name : ℕ) (t : PlainType) (a : Bool) → AreMembersAt v m (select_member v name t a).uses →
    select_member (with_members v m) name t a ≡ select_member v name t a
unfolding select_member
same_selection v m name t a h =
    ap (λ (z : Option Member). select_member (with_member v z) name t a)
    (at_first (record { place = name; before = t; member = option_map member_symbol (v.member name t) })
    (means_or_wrong (member_meaning v t a (v.member name t)) name).uses h)

pub same_selector : (v : World) (m : Members) (locals : Locals) (place name : ℕ) (x : Meaning) → AreMembersAt v m (select v locals place name x).uses →
    select (with_members v m) locals place name x ≡ select v locals place name x
unfolding select
same_selector v m locals place name (Value (Typed t) a) h = same_selection v m name t a h
same_selector v m locals place name (Value (Untyped b) a) h = refl
same_selector v m locals place name (Value Nil a) h = refl
same_selector v m locals place name (TypeName t) h = refl
same_selector v m locals place name (Function s) h = refl
same_selector v m locals place name (BuiltinName b) h = refl
same_selector v m locals place name Package h = refl
same_selector v m locals place name (Results ts) h = refl
same_selector v m locals place name Broken h = refl

same_key : (v : World) (m : Members) (t : Option PlainType) (seen : Seen) (k : Option (ℕ × ℕ)) → AreMembersAt v m (element_key v t seen k).uses →
    element_key (with_members v m) t seen k ≡ element_key v t seen k
same_key v m None seen k h = refl
same_key v m (Some t) seen None h = refl
same_key v m (Some t) seen (Some k) h =
    ap (λ (z : Option Member). element_key (with_member v z) (Some t) seen (Some k)) (at_first _ [] h)

same_seen : (v : World) (m : Members) (t : Option PlainType) (seen : Seen) (k : Option (ℕ × ℕ)) → AreMembersAt v m (element_key v t seen k).uses →
    seen_after (with_members v m) t seen k ≡ seen_after v t seen k
same_seen v m None seen k h = refl
same_seen v m (Some t) seen None h = refl
same_seen v m (Some t) seen (Some k) h =
    ap (λ (z : Option Member). seen_after (with_member v z) (Some t) seen (Some k)) (at_first _ [] h)

-- an expression and its parts, in the world v with the members m at its uses

mutual
  unfolding judge

  pub same_judged : (v : World) (m : Members) (locals : Locals) (e : ExprTree) → AreMembersAt v m (judge v locals e).uses →
      judge (with_members v m) locals e ≡ judge v locals e
  same_judged v m locals (tree.Number p) h = refl
  same_judged v m locals (tree.Text p) h = refl
  same_judged v m locals (tree.Name p) h = refl
  same_judged v m locals (tree.Blank p) h = refl
  same_judged v m locals (tree.Composite l) h = same_literal v m locals l h
  same_judged v m locals (tree.Paren o e c) h = same_value e (judge v locals e) (judge (with_members v m) locals e) (λ q. same_judged v m locals e q) h
  same_judged v m locals (tree.Prefix o p e) h =
      let i = value_at e (judge v locals e) in
      ap (λ (z : Judged). followed z (prefix_of (with_members v m) o p))
      (same_value e (judge v locals e) (judge (with_members v m) locals e) (λ q. same_judged v m locals e q)
      (of_first i.uses (prefix_of v o p i.meaning).uses h))
      ∙ ap (also i) (same_prefix v m o p i.meaning)
  same_judged v m locals (tree.Address p l) h =
      ap (λ (z : Judged). followed z address_of)
      (same_literal v m locals l (of_first (judge_literal v locals l).uses (address_of (judge_literal v locals l).meaning).uses h))
  same_judged v m locals (tree.Chain e links) h =
      let j = judge v locals e in
      ap (λ (z : Judged). judge_links (with_members v m) locals (first_token e) (place_of e) z links)
      (same_judged v m locals e (of_part j.uses (links_keep v locals links (first_token e) (place_of e) j) h))
      ∙ same_links v m locals links (first_token e) (place_of e) j h
  same_judged v m locals (tree.Binary e rest) h =
      let j = value_at e (judge v locals e) in
      ap (λ (z : Judged). judge_operands (with_members v m) locals (first_token e) z rest)
      (same_value e (judge v locals e) (judge (with_members v m) locals e) (λ q. same_judged v m locals e q)
      (of_part j.uses (operands_keep v locals rest (first_token e) j) h))
      ∙ same_operands v m locals rest (first_token e) j h

  pub same_operands : (v : World) (m : Members) (locals : Locals) (rest : OperandTrees) (start : ℕ) (j : Judged) →
      AreMembersAt v m (judge_operands v locals start j rest).uses →
      judge_operands (with_members v m) locals start j rest ≡ judge_operands v locals start j rest
  same_operands v m locals tree.no_operand start j h = refl
  same_operands v m locals (tree.operand o p e rest) start j h =
      let i = value_at e (judge v locals e) in
      let x = operation v o start j.meaning i.meaning in
      let k = followed j (λ a. followed i (operation v o start a)) in
      let here = of_second j.uses (i.uses ++ x.uses) (of_part k.uses (operands_keep v locals rest start k) h) in
      ap (λ (z : Judged). judge_operands (with_members v m) locals start z rest)
      (ap (λ (z : Judged). followed j (λ a. followed z (operation (with_members v m) o start a)))
      (same_value e (judge v locals e) (judge (with_members v m) locals e) (λ q. same_judged v m locals e q) (of_first i.uses x.uses here))
      ∙ ap (λ (z : Judged). also j (also i z)) (same_operation v m o start j.meaning i.meaning))
      ∙ same_operands v m locals rest start k h

  pub same_links : (v : World) (m : Members) (locals : Locals) (links : LinkTrees) (start place : ℕ) (j : Judged) →
      AreMembersAt v m (judge_links v locals start place j links).uses →
      judge_links (with_members v m) locals start place j links ≡ judge_links v locals start place j links
  same_links v m locals tree.no_link start place j h = refl
  same_links v m locals (tree.selector d n rest) start place j h =
      let x = select v locals place n j.meaning in
      let k = followed j (select v locals place n) in
      let here = of_second j.uses x.uses (of_part k.uses (links_keep v locals rest start n k) h) in
      ap (λ (z : Judged). judge_links (with_members v m) locals start n z rest) (ap (also j) (same_selector v m locals place n j.meaning here))
      ∙ same_links v m locals rest start n k h
  same_links v m locals (tree.index o e c rest) start place j h =
      let i = value_at e (judge v locals e) in
      let s = as_value place j.meaning in
      let x = index_of v start (place_of e) s.meaning i.meaning in
      let k = followed j (index_rule v start place e i) in
      let here = of_second j.uses (s.uses ++ (i.uses ++ x.uses)) (of_part k.uses (links_keep v locals rest start start k) h) in
      ap (λ (z : Judged). judge_links (with_members v m) locals start start z rest)
      (ap (λ (z : Judged). followed j (index_rule (with_members v m) start place e z))
      (same_value e (judge v locals e) (judge (with_members v m) locals e) (λ q. same_judged v m locals e q)
      (of_first i.uses x.uses (of_second s.uses (i.uses ++ x.uses) here)))
      ∙ ap (λ (z : Judged). also j (also s (also i z))) (same_index v m start (place_of e) s.meaning i.meaning))
      ∙ same_links v m locals rest start start k h
  same_links v m locals (tree.call o xs c rest) start place j h =
      let args = judge_arguments v locals xs in
      let x = call_of v start place args.values j.meaning in
      let k = followed j (call_rule v start place args) in
      let here = of_second j.uses (args.uses ++ x.uses) (of_part k.uses (links_keep v locals rest start start k) h) in
      ap (λ (z : Judged). judge_links (with_members v m) locals start start z rest)
      (ap (λ (z : JudgedList). followed j (call_rule (with_members v m) start place z)) (same_arguments v m locals xs (of_first args.uses x.uses here))
      ∙ ap (λ (z : Judged). also j (with_values args (λ vs. z))) (same_call v m start place args.values j.meaning))
      ∙ same_links v m locals rest start start k h

  pub same_arguments : (v : World) (m : Members) (locals : Locals) (xs : ArgumentTrees) → AreMembersAt v m (judge_arguments v locals xs).uses →
      judge_arguments (with_members v m) locals xs ≡ judge_arguments v locals xs
  same_arguments v m locals tree.no_argument h = refl
  same_arguments v m locals (tree.argument e c rest) h =
      let i = value_at e (judge v locals e) in
      let others = judge_arguments v locals rest in
      ap (λ (z : Judged). value_before (place_of e) z (judge_arguments (with_members v m) locals rest))
      (same_value e (judge v locals e) (judge (with_members v m) locals e) (λ q. same_judged v m locals e q) (of_first i.uses others.uses h))
      ∙ ap (λ (z : JudgedList). value_before (place_of e) i z) (same_arguments v m locals rest (of_second i.uses others.uses h))

  pub same_literal : (v : World) (m : Members) (locals : Locals) (l : LiteralTree) → AreMembersAt v m (judge_literal v locals l).uses →
      judge_literal (with_members v m) locals l ≡ judge_literal v locals l
  same_literal v m locals (tree.literal t o es c) h =
      let T = judge_type v t in
      let E = judge_elements v locals T.type_of none_seen es in
      ap (λ (z : TypeJudged). literal_of (with_members v m) (first_of_type t) z (judge_elements (with_members v m) locals z.type_of none_seen es))
      (same_type v m t)
      ∙ (ap (λ (z : JudgedElements). literal_of (with_members v m) (first_of_type t) T z)
      (same_elements v m locals es T.type_of none_seen
      (of_first E.uses (literal_meaning v (first_of_type t) T.type_of E.whole E.unkeyed).uses h))
      ∙ same_literal_rule v m (first_of_type t) T E)

  pub same_elements : (v : World) (m : Members) (locals : Locals) (es : ElementTrees) (t : Option PlainType) (seen : Seen) →
      AreMembersAt v m (judge_elements v locals t seen es).uses → judge_elements (with_members v m) locals t seen es ≡ judge_elements v locals t seen es
  same_elements v m locals tree.no_element t seen h = refl
  same_elements v m locals (tree.element k e c rest) t seen h =
      let key = element_key v t seen k in
      let after = seen_after v t seen k in
      let i = value_at e (judge v locals e) in
      let others = judge_elements v locals t after rest in
      let entry = entering_if v (place_of e) (value_kind i.meaning) key.wanted in
      let of_key = of_first key.uses (i.uses ++ (entry ++ others.uses)) h in
      let behind = of_second key.uses (i.uses ++ (entry ++ others.uses)) h in
      let w = with_members v m in
      ap (λ (z : JudgedKey). with_element w z (place_of e) (value_at e (judge w locals e)) (judge_elements w locals t (seen_after w t seen k) rest))
      (same_key v m t seen k of_key)
      ∙ (ap (λ (z : Judged). with_element w key (place_of e) z (judge_elements w locals t (seen_after w t seen k) rest))
      (same_value e (judge v locals e) (judge w locals e) (λ q. same_judged v m locals e q)
      (of_first i.uses (entry ++ others.uses) behind))
      ∙ (ap (λ (z : Seen). with_element w key (place_of e) i (judge_elements w locals t z rest)) (same_seen v m t seen k of_key)
      ∙ (ap (λ (z : JudgedElements). with_element w key (place_of e) i z)
      (same_elements v m locals rest t after (of_second entry others.uses (of_second i.uses (entry ++ others.uses) behind)))
      ∙ same_element v m key (place_of e) i others)))

pub expressions_ask : ExpressionsAskForTheirUses
expressions_ask v w locals e h =
    ap (λ (z : World). judge z locals e) (sym (only_members_differ v w h))
    ∙ same_judged v w.member locals e (members_agree v w h)
