-- The members that the code of an expression asks for are among its uses of members.
use Rattle.std.proofs.Common.{ℕ, ◌≡◌, ◌⊎◌, inl, inr, Bool, List, [], ◌∷◌, ◌++◌, Option, Some, ap, refl, sym, subst}
use Rattle.go_ast.specs.Tree.{ExprTree, LinkTrees, OperandTrees, ArgumentTrees, LiteralTree, ElementTrees}
use Rattle.go_ast.specs.Tree as tree
use Rattle.types_expr.specs.Places.{first_token, first_of_type, place_of}
use Rattle.types_expr.specs.Types.{PlainType, Typed, Meaning, Value}
use Rattle.types_expr.specs.World.{World, Locals}
use Rattle.types_expr.specs.Judge.{MemberUse, Noted, members_of, value_kind, entering_if}
use Rattle.types_expr.proofs.NoteLists.{members_append}
use Rattle.types_expr.specs.Judge.{Judged, Seen, none_seen, followed, as_value, value_at, select_member, select, index_of, index_rule}
use Rattle.types_expr.specs.Judge.{call_of, call_rule, operation, prefix_of, address_of, judge_type, literal_meaning, element_key, seen_after, judge}
use Rattle.types_expr.specs.Judge.{judge_operands, judge_links, judge_arguments, judge_literal, judge_elements}
use Rattle.law_typing.specs.IsJudgedAs.{IsJudgedAs}
use Rattle.law_typing.proofs.Judgements.{followed_agrees, value_at_agrees}
use Rattle.law_typing.proofs.Naming.{type_true}
use Rattle.law_typing.proofs.Selecting.{selects_true}
use Rattle.law_typing.proofs.Soundness.{index_agrees, call_agrees, sound, sound_arguments}
use Rattle.law_faultless.specs.Questions.{TokenQuestion, OfInteger, OfText, OfName, OfExport, OfMember}
use Rattle.law_faultless.specs.Questions.{OfDeclared, OfLeft, Asks, for_integer, for_text, for_name}
use Rattle.law_faultless.specs.Questions.{in_composite, in_paren, in_prefix, in_address, in_chain, in_links, in_binary, in_operands, LinksAsk, for_member}
use Rattle.law_faultless.specs.Questions.{for_export, behind_selector, in_index, behind_index, in_arguments, behind_call, OperandsAsk, in_operand}
use Rattle.law_faultless.specs.Questions.{in_later_operand, ArgumentsAsk, in_argument, in_later_argument, LiteralAsks, in_elements, ElementsAsk, for_key}
use Rattle.law_faultless.specs.Questions.{in_element, in_later_element}

-- a use at that token, behind a value of that type
abbrev pub IsUsed : ℕ → PlainType → List MemberUse → Type 0
IsUsed n t [] = ⊥
IsUsed n t (u ∷ us) = ((u.place ≡ n) × (u.before ≡ t)) ⊎ IsUsed n t us

used_left : (n : ℕ) (t : PlainType) (us vs : List MemberUse) → IsUsed n t us → IsUsed n t (us ++ vs)
used_left n t [] vs h = absurd h
used_left n t (u ∷ us) vs h = elim h [ inl here ↦ inl here | inr more ↦ inr (used_left n t us vs more) ]

used_right : (n : ℕ) (t : PlainType) (us vs : List MemberUse) → IsUsed n t vs → IsUsed n t (us ++ vs)
used_right n t [] vs h = h
used_right n t (u ∷ us) vs h = inr (used_right n t us vs h)

-- where a member is asked for, there is its use
abbrev pub Met : TokenQuestion → List Noted → Type 0
Met (OfInteger n) us = Unit {0}
Met (OfText n) us = Unit {0}
Met (OfName n) us = Unit {0}
Met (OfExport n) us = Unit {0}
Met (OfMember n t) us = IsUsed n t (members_of us)
Met (OfDeclared n) us = Unit {0}
Met (OfLeft n) us = Unit {0}

pub met_left : (q : TokenQuestion) (us vs : List Noted) → Met q us → Met q (us ++ vs)
met_left (OfInteger n) us vs h = tt
met_left (OfText n) us vs h = tt
met_left (OfName n) us vs h = tt
met_left (OfExport n) us vs h = tt
met_left (OfMember n t) us vs h = subst (IsUsed n t) (sym (members_append us vs)) (used_left n t (members_of us) (members_of vs) h)
met_left (OfDeclared n) us vs h = tt
met_left (OfLeft n) us vs h = tt

pub met_right : (q : TokenQuestion) (us vs : List Noted) → Met q vs → Met q (us ++ vs)
met_right (OfInteger n) us vs h = tt
met_right (OfText n) us vs h = tt
met_right (OfName n) us vs h = tt
met_right (OfExport n) us vs h = tt
met_right (OfMember n t) us vs h = subst (IsUsed n t) (sym (members_append us vs)) (used_right n t (members_of us) (members_of vs) h)
met_right (OfDeclared n) us vs h = tt
met_right (OfLeft n) us vs h = tt

-- in the middle of three
pub met_inner : (q : TokenQuestion) (us vs ws : List Noted) → Met q vs → Met q (us ++ (vs ++ ws))
met_inner q us vs ws h = met_right q us (vs ++ ws) (met_left q vs ws h)

-- what is found stays, whatever stands behind it

pub links_keep : (q : TokenQuestion) (w : World) (locals : Locals) (links : LinkTrees) (start place : ℕ) (j : Judged) → Met q j.uses →
    Met q (judge_links w locals start place j links).uses
unfolding judge
links_keep q w locals tree.no_link start place j h = h
links_keep q w locals (tree.selector d n rest) start place j h =
    links_keep q w locals rest start n (followed j (select w locals place n)) (met_left q j.uses (select w locals place n j.meaning).uses h)
links_keep q w locals (tree.index o e c rest) start place j h =
    let rule = index_rule w start place e (value_at e (judge w locals e)) in
    links_keep q w locals rest start start (followed j rule) (met_left q j.uses (rule j.meaning).uses h)
links_keep q w locals (tree.call o xs c rest) start place j h =
    let rule = call_rule w start place (judge_arguments w locals xs) in
    links_keep q w locals rest start start (followed j rule) (met_left q j.uses (rule j.meaning).uses h)

pub operands_keep : (q : TokenQuestion) (w : World) (locals : Locals) (rest : OperandTrees) (start : ℕ) (j : Judged) → Met q j.uses →
    Met q (judge_operands w locals start j rest).uses
unfolding judge
operands_keep q w locals tree.no_operand start j h = h
operands_keep q w locals (tree.operand o p e rest) start j h =
    let rule : Meaning → Judged = λ a. followed (value_at e (judge w locals e)) (operation w o start a) in
    operands_keep q w locals rest start (followed j rule) (met_left q j.uses (rule j.meaning).uses h)

-- the selector of a member
selected_used : (w : World) (locals : Locals) (place n : ℕ) (t : PlainType) (a : Bool) →
    IsUsed n t (members_of (select w locals place n (Value (Typed t) a)).uses)
unfolding select select_member
selected_used w locals place n t a = inl (refl, refl)

element_met : (w : World) (locals : Locals) (t : PlainType) (key : Option (ℕ × ℕ)) (e : ExprTree) (c : Option ℕ) (rest : ElementTrees) (q : TokenQuestion)
    (seen : Seen) → Met q (judge w locals e).uses →
    Met q (judge_elements w locals (Some t) seen (tree.element key e c rest)).uses
unfolding judge
element_met w locals t key e c rest q seen h =
    let k = element_key w (Some t) seen key in
    let v = value_at e (judge w locals e) in
    met_inner q k.uses v.uses
    (entering_if w (place_of e) (value_kind v.meaning) k.wanted ++ (judge_elements w locals (Some t) (seen_after w (Some t) seen key) rest).uses)
    (met_left q (judge w locals e).uses (as_value (place_of e) (judge w locals e).meaning).uses h)

later_met : (w : World) (locals : Locals) (t : PlainType) (key : Option (ℕ × ℕ)) (e : ExprTree) (c : Option ℕ) (rest : ElementTrees) (q : TokenQuestion)
    (seen : Seen) →
    Met q (judge_elements w locals (Some t) (seen_after w (Some t) seen key) rest).uses → Met q
    (judge_elements w locals (Some t) seen (tree.element key e c rest)).uses
unfolding judge
later_met w locals t key e c rest q seen h =
    let k = element_key w (Some t) seen key in
    let v = value_at e (judge w locals e) in
    let entry = entering_if w (place_of e) (value_kind v.meaning) k.wanted in
    let others = judge_elements w locals (Some t) (seen_after w (Some t) seen key) rest in
    met_right q k.uses (v.uses ++ (entry ++ others.uses)) (met_right q v.uses (entry ++ others.uses) (met_right q entry others.uses h))

mutual
  unfolding judge

  pub expression_met : (w : World) (locals : Locals) {e : ExprTree} {q : TokenQuestion} → Asks w locals e q → Met q (judge w locals e).uses
  expression_met w locals for_integer = tt
  expression_met w locals for_text = tt
  expression_met w locals for_name = tt
  expression_met w locals (in_composite a) = literal_met w locals a
  expression_met w locals (in_paren {e = e} {q} a) = met_left q (judge w locals e).uses (as_value (place_of e) (judge w locals e).meaning).uses
      (expression_met w locals a)
  expression_met w locals (in_prefix {o} {p} {e} {q} a) =
      met_left q (value_at e (judge w locals e)).uses (prefix_of w o p (value_at e (judge w locals e)).meaning).uses
      (met_left q (judge w locals e).uses (as_value (place_of e) (judge w locals e).meaning).uses (expression_met w locals a))
  expression_met w locals (in_address {l = l} {q} a) = met_left q (judge_literal w locals l).uses (address_of (judge_literal w locals l).meaning).uses
      (literal_met w locals a)
  expression_met w locals (in_chain {e} {links} {q} a) = links_keep q w locals links (first_token e) (place_of e) (judge w locals e) (expression_met w locals a)
  expression_met w locals (in_links {e} h a) = links_met w locals a (first_token e) (place_of e) (judge w locals e) (sound w locals h)
  expression_met w locals (in_binary {e} {rest} {q} a) =
      operands_keep q w locals rest (first_token e) (value_at e (judge w locals e)) (met_left q (judge w locals e).uses
      (as_value (place_of e) (judge w locals e).meaning).uses (expression_met w locals a))
  expression_met w locals (in_operands {e} a) = operands_met w locals a (first_token e) (value_at e (judge w locals e))

  links_met : (w : World) (locals : Locals) {m : Meaning} {links : LinkTrees} {q : TokenQuestion} → LinksAsk w locals m links q →
      (start place : ℕ) (j : Judged) →
      IsJudgedAs j m →
      Met q (judge_links w locals start place j links).uses
  links_met w locals (for_member {n = n} {rest} {t} {a}) start place j h =
      links_keep (OfMember n t) w locals rest start n (followed j (select w locals place n))
      (met_right (OfMember n t) j.uses (select w locals place n j.meaning).uses
      (subst (λ z. IsUsed n t (members_of (select w locals place n z).uses)) (sym h.meaning) (selected_used w locals place n t a)))
  links_met w locals for_export start place j h = tt
  links_met w locals (behind_selector {n = n} s a) start place j h =
      links_met w locals a start n (followed j (select w locals place n)) (followed_agrees (select w locals place n) h (selects_true w locals place s))
  links_met w locals (in_index {e = e} {rest} {q = q} a) start place j h =
      let i = value_at e (judge w locals e) in
      let rule = index_rule w start place e i in
      let s = (as_value place j.meaning).meaning in
      links_keep q w locals rest start start (followed j rule)
      (met_right q j.uses (rule j.meaning).uses (met_inner q (as_value place j.meaning).uses i.uses (index_of w start (place_of e) s i.meaning).uses
      (met_left q (judge w locals e).uses (as_value (place_of e) (judge w locals e).meaning).uses (expression_met w locals a))))
  links_met w locals (behind_index {e = e} v i a) start place j h =
      let rule = index_rule w start place e (value_at e (judge w locals e)) in
      links_met w locals a start start (followed j rule) (followed_agrees rule h (index_agrees w start place e i (value_at_agrees e (sound w locals v))))
  links_met w locals (in_arguments {xs = xs} {rest} {q = q} a) start place j h =
      let args = judge_arguments w locals xs in
      let rule = call_rule w start place args in
      links_keep q w locals rest start start (followed j rule)
      (met_inner q j.uses args.uses (call_of w start place args.values j.meaning).uses (arguments_met w locals a))
  links_met w locals (behind_call {xs = xs} vs c a) start place j h =
      let rule = call_rule w start place (judge_arguments w locals xs) in
      links_met w locals a start start (followed j rule) (followed_agrees rule h (call_agrees w start place (sound_arguments w locals vs) c))

  operands_met : (w : World) (locals : Locals) {rest : OperandTrees} {q : TokenQuestion} → OperandsAsk w locals rest q → (start : ℕ) (j : Judged) →
      Met q (judge_operands w locals start j rest).uses
  operands_met w locals (in_operand {o} {e = e} {rest} {q} a) start j =
      let i = value_at e (judge w locals e) in
      let rule : Meaning → Judged = λ m. followed i (operation w o start m) in
      operands_keep q w locals rest start (followed j rule)
      (met_inner q j.uses i.uses (operation w o start j.meaning i.meaning).uses (met_left q (judge w locals e).uses
      (as_value (place_of e) (judge w locals e).meaning).uses (expression_met w locals a)))
  operands_met w locals (in_later_operand {o} {e = e} a) start j =
      operands_met w locals a start (followed j (λ m. followed (value_at e (judge w locals e)) (operation w o start m)))

  arguments_met : (w : World) (locals : Locals) {xs : ArgumentTrees} {q : TokenQuestion} → ArgumentsAsk w locals xs q → Met q (judge_arguments w locals xs).uses
  arguments_met w locals (in_argument {e} {rest = rest} {q} a) =
      met_left q (value_at e (judge w locals e)).uses (judge_arguments w locals rest).uses
      (met_left q (judge w locals e).uses (as_value (place_of e) (judge w locals e).meaning).uses (expression_met w locals a))
  arguments_met w locals (in_later_argument {e} {rest = rest} {q} a) = met_right q (value_at e (judge w locals e)).uses (judge_arguments w locals rest).uses
      (arguments_met w locals a)

  literal_met : (w : World) (locals : Locals) {l : LiteralTree} {q : TokenQuestion} → LiteralAsks w locals l q → Met q (judge_literal w locals l).uses
  literal_met w locals (in_elements {x} {es = es} {t} {q} h a) =
      let own = (judge_type w x).type_of in
      let found = judge_elements w locals own none_seen es in
      met_left q found.uses (literal_meaning w (first_of_type x) own found.whole found.unkeyed).uses
      (subst (λ z. Met q (judge_elements w locals z none_seen es).uses) (sym (ap (λ z. z.type_of) (type_true w h))) (elements_met w locals a none_seen))

  elements_met : (w : World) (locals : Locals) {t : PlainType} {es : ElementTrees} {q : TokenQuestion} → ElementsAsk w locals t es q → (seen : Seen) →
      Met q (judge_elements w locals (Some t) seen es).uses
  elements_met w locals for_key seen = inl (refl, refl)
  elements_met w locals (in_element {t} {key} {e} {c} {rest} {q} a) seen = element_met w locals t key e c rest q seen (expression_met w locals a)
  elements_met w locals (in_later_element {t} {key} {e} {c} {rest} {q} a) seen = later_met w locals t key e c rest q seen
      (elements_met w locals a (seen_after w (Some t) seen key))
