-- What is found of an expression in the moved world is what was found in the old one, moved.
use Rattle.std.proofs.Common.{ℕ, ◌≡◌, ◌++◌, Option, option_map, refl, ap, ◌∙◌}
use Rattle.go_ast.specs.Tree.{ExprTree, LinkTrees, OperandTrees, ArgumentTrees, LiteralTree, ElementTrees}
use Rattle.go_ast.specs.Tree as tree
use Rattle.types_expr.specs.Places.{first_token, first_of_type, place_of}
use Rattle.types_expr.specs.Types.{PlainType}
use Rattle.types_expr.specs.World.{Locals}
use Rattle.types_expr.specs.Judge.{Judged, JudgedList, JudgedKey, JudgedElements, TypeJudged, Seen, means, followed, value_at, as_value, select, index_rule}
use Rattle.types_expr.specs.Judge.{index_of, call_rule, call_of, operation, prefix_of, address_of, judge, judge_links, judge_operands, judge_arguments}
use Rattle.types_expr.specs.Judge.{judge_literal, judge_elements, judge_type, element_key, seen_after, none_seen, literal_of, literal_meaning, with_element}
use Rattle.types_expr.specs.Judge.{value_before, value_kind, entering_if}
use Rattle.law_changed_types.proofs.ExpressionUses.{links_keep, operands_keep}
use Rattle.law_changed_types.specs.Moved.{moved_type, moved_meaning, moved_locals, moved_found}
use Rattle.law_changed_types.specs.Moves.{ExpressionsMove}
use Rattle.law_changed_types.proofs.Moving.{Move, Moves, of_part, of_first, of_second, the_move, ap2}
use Rattle.law_changed_types.proofs.RulesMove.{moved_list, followed_moves, value_at_moves, value_before_moves, name_moves, select_moves, call_rule_moves}
use Rattle.law_changed_types.proofs.RulesMove.{index_rule_moves, operation_moves, prefix_moves}
use Rattle.law_changed_types.proofs.LiteralsMove.{moved_written, moved_judged_key, moved_elements, type_moves, key_moves, seen_after_stays, with_element_moves}
use Rattle.law_changed_types.proofs.LiteralsMove.{literal_of_moves, address_of_moves}

-- a value, where the expression is judged as k in the new world
pub value_moves : {m : Move} (e : ExprTree) (j k : Judged) → (Moves m j.uses → k ≡ moved_found m.path j) → Moves m (value_at e j).uses →
    value_at e k ≡ moved_found m.path (value_at e j)
value_moves {m = m} e j k f h = ap (value_at e) (f (of_first j.uses (as_value (place_of e) j.meaning).uses h)) ∙ value_at_moves m e j

-- an operand with one link, whose parts are judged as i2 and args2 in the new world

pub selector_moves : (m : Move) (locals : Locals) (place name : ℕ) (j : Judged) → Moves m (followed j (select m.old locals place name)).uses →
    followed (moved_found m.path j) (select m.new (moved_locals m.path locals) place name) ≡ moved_found m.path (followed j (select m.old locals place name))
selector_moves m locals place name j h =
    followed_moves m j (select m.old locals place name) (select m.new (moved_locals m.path locals) place name)
    (select_moves m locals place name j.meaning (of_second j.uses (select m.old locals place name j.meaning).uses h))

pub index_moves : (m : Move) (start place : ℕ) (e : ExprTree) (i i2 j : Judged) → (Moves m i.uses → i2 ≡ moved_found m.path i) →
    Moves m (followed j (index_rule m.old start place e i)).uses →
    followed (moved_found m.path j) (index_rule m.new start place e i2) ≡ moved_found m.path (followed j (index_rule m.old start place e i))
index_moves m start place e i i2 j f h =
    let s = as_value place j.meaning in
    let x = index_of m.old start (place_of e) s.meaning i.meaning in
    let here = of_second j.uses (s.uses ++ (i.uses ++ x.uses)) h in
    ap (λ (z : Judged). followed (moved_found m.path j) (index_rule m.new start place e z))
    (f (of_first i.uses x.uses (of_second s.uses (i.uses ++ x.uses) here)))
    ∙ followed_moves m j (index_rule m.old start place e i) (index_rule m.new start place e (moved_found m.path i))
    (index_rule_moves m start place e i j.meaning)

pub call_moves : (m : Move) (start place : ℕ) (args args2 : JudgedList) (j : Judged) → (Moves m args.uses → args2 ≡ moved_list m args) →
    Moves m (followed j (call_rule m.old start place args)).uses →
    followed (moved_found m.path j) (call_rule m.new start place args2) ≡ moved_found m.path (followed j (call_rule m.old start place args))
call_moves m start place args args2 j f h =
    let x = call_of m.old start place args.values j.meaning in
    let here = of_second j.uses (args.uses ++ x.uses) h in
    ap (λ (z : JudgedList). followed (moved_found m.path j) (call_rule m.new start place z)) (f (of_first args.uses x.uses here))
    ∙ followed_moves m j (call_rule m.old start place args) (call_rule m.new start place (moved_list m args))
    (call_rule_moves m start place args j.meaning)

mutual
  unfolding judge

  pub found_moves : (m : Move) (locals : Locals) (e : ExprTree) → Moves m (judge m.old locals e).uses →
      judge m.new (moved_locals m.path locals) e ≡ moved_found m.path (judge m.old locals e)
  found_moves m locals (tree.Number p) h = refl
  found_moves m locals (tree.Text p) h = refl
  found_moves m locals (tree.Name p) h = ap means (name_moves m locals p)
  found_moves m locals (tree.Blank p) h = refl
  found_moves m locals (tree.Composite l) h = literal_moves m locals l h
  found_moves m locals (tree.Paren o e c) h =
      value_moves e (judge m.old locals e) (judge m.new (moved_locals m.path locals) e) (λ q. found_moves m locals e q) h
  found_moves m locals (tree.Prefix o p e) h =
      let i = value_at e (judge m.old locals e) in
      ap (λ (z : Judged). followed z (prefix_of m.new o p))
      (value_moves e (judge m.old locals e) (judge m.new (moved_locals m.path locals) e) (λ q. found_moves m locals e q)
      (of_first i.uses (prefix_of m.old o p i.meaning).uses h))
      ∙ followed_moves m i (prefix_of m.old o p) (prefix_of m.new o p) (prefix_moves m o p i.meaning)
  found_moves m locals (tree.Address p l) h =
      let j = judge_literal m.old locals l in
      ap (λ (z : Judged). followed z address_of) (literal_moves m locals l (of_first j.uses (address_of j.meaning).uses h))
      ∙ followed_moves m j address_of address_of (address_of_moves m j.meaning)
  found_moves m locals (tree.Chain e links) h =
      let j = judge m.old locals e in
      ap (λ (z : Judged). judge_links m.new (moved_locals m.path locals) (first_token e) (place_of e) z links)
      (found_moves m locals e (of_part j.uses (links_keep m.old locals links (first_token e) (place_of e) j) h))
      ∙ links_move m locals links (first_token e) (place_of e) j h
  found_moves m locals (tree.Binary e rest) h =
      let j = value_at e (judge m.old locals e) in
      ap (λ (z : Judged). judge_operands m.new (moved_locals m.path locals) (first_token e) z rest)
      (value_moves e (judge m.old locals e) (judge m.new (moved_locals m.path locals) e) (λ q. found_moves m locals e q)
      (of_part j.uses (operands_keep m.old locals rest (first_token e) j) h))
      ∙ operands_move m locals rest (first_token e) j h

  pub operands_move : (m : Move) (locals : Locals) (rest : OperandTrees) (start : ℕ) (j : Judged) →
      Moves m (judge_operands m.old locals start j rest).uses →
      judge_operands m.new (moved_locals m.path locals) start (moved_found m.path j) rest ≡ moved_found m.path (judge_operands m.old locals start j rest)
  operands_move m locals tree.no_operand start j h = refl
  operands_move m locals (tree.operand o p e rest) start j h =
      let i = value_at e (judge m.old locals e) in
      let x = operation m.old o start j.meaning i.meaning in
      let k = followed j (λ a. followed i (operation m.old o start a)) in
      let here = of_second j.uses (i.uses ++ x.uses) (of_part k.uses (operands_keep m.old locals rest start k) h) in
      ap (λ (z : Judged). judge_operands m.new (moved_locals m.path locals) start z rest)
      (ap (λ (z : Judged). followed (moved_found m.path j) (λ a. followed z (operation m.new o start a)))
      (value_moves e (judge m.old locals e) (judge m.new (moved_locals m.path locals) e) (λ q. found_moves m locals e q) (of_first i.uses x.uses here))
      ∙ followed_moves m j (λ a. followed i (operation m.old o start a)) (λ a. followed (moved_found m.path i) (operation m.new o start a))
      (followed_moves m i (operation m.old o start j.meaning) (operation m.new o start (moved_meaning m.path j.meaning))
      (operation_moves m o start j.meaning i.meaning)))
      ∙ operands_move m locals rest start k h

  pub links_move : (m : Move) (locals : Locals) (links : LinkTrees) (start place : ℕ) (j : Judged) →
      Moves m (judge_links m.old locals start place j links).uses →
      judge_links m.new (moved_locals m.path locals) start place (moved_found m.path j) links ≡
      moved_found m.path (judge_links m.old locals start place j links)
  links_move m locals tree.no_link start place j h = refl
  links_move m locals (tree.selector d n rest) start place j h =
      let k = followed j (select m.old locals place n) in
      ap (λ (z : Judged). judge_links m.new (moved_locals m.path locals) start n z rest)
      (selector_moves m locals place n j (of_part k.uses (links_keep m.old locals rest start n k) h))
      ∙ links_move m locals rest start n k h
  links_move m locals (tree.index o e c rest) start place j h =
      let k = followed j (index_rule m.old start place e (value_at e (judge m.old locals e))) in
      ap (λ (z : Judged). judge_links m.new (moved_locals m.path locals) start start z rest)
      (index_moves m start place e (value_at e (judge m.old locals e)) (value_at e (judge m.new (moved_locals m.path locals) e)) j
      (λ q. value_moves e (judge m.old locals e) (judge m.new (moved_locals m.path locals) e) (λ r. found_moves m locals e r) q)
      (of_part k.uses (links_keep m.old locals rest start start k) h))
      ∙ links_move m locals rest start start k h
  links_move m locals (tree.call o xs c rest) start place j h =
      let k = followed j (call_rule m.old start place (judge_arguments m.old locals xs)) in
      ap (λ (z : Judged). judge_links m.new (moved_locals m.path locals) start start z rest)
      (call_moves m start place (judge_arguments m.old locals xs) (judge_arguments m.new (moved_locals m.path locals) xs) j
      (λ q. arguments_move m locals xs q) (of_part k.uses (links_keep m.old locals rest start start k) h))
      ∙ links_move m locals rest start start k h

  pub arguments_move : (m : Move) (locals : Locals) (xs : ArgumentTrees) → Moves m (judge_arguments m.old locals xs).uses →
      judge_arguments m.new (moved_locals m.path locals) xs ≡ moved_list m (judge_arguments m.old locals xs)
  arguments_move m locals tree.no_argument h = refl
  arguments_move m locals (tree.argument e c rest) h =
      let i = value_at e (judge m.old locals e) in
      let others = judge_arguments m.old locals rest in
      ap2 (λ (z : Judged) (y : JudgedList). value_before (place_of e) z y)
      (value_moves e (judge m.old locals e) (judge m.new (moved_locals m.path locals) e) (λ q. found_moves m locals e q) (of_first i.uses others.uses h))
      (arguments_move m locals rest (of_second i.uses others.uses h))
      ∙ value_before_moves m (place_of e) i others

  pub literal_moves : (m : Move) (locals : Locals) (l : LiteralTree) → Moves m (judge_literal m.old locals l).uses →
      judge_literal m.new (moved_locals m.path locals) l ≡ moved_found m.path (judge_literal m.old locals l)
  literal_moves m locals (tree.literal t o es c) h =
      let T = judge_type m.old t in
      let E = judge_elements m.old locals T.type_of none_seen es in
      let new = moved_locals m.path locals in
      ap (λ (z : TypeJudged). literal_of m.new (first_of_type t) z (judge_elements m.new new z.type_of none_seen es)) (type_moves m t)
      ∙ (ap (λ (z : JudgedElements). literal_of m.new (first_of_type t) (moved_written m T) z)
      (elements_move m locals es T.type_of none_seen (of_first E.uses (literal_meaning m.old (first_of_type t) T.type_of E.whole E.unkeyed).uses h))
      ∙ literal_of_moves m (first_of_type t) T E)

  pub elements_move : (m : Move) (locals : Locals) (es : ElementTrees) (t : Option PlainType) (seen : Seen) →
      Moves m (judge_elements m.old locals t seen es).uses →
      judge_elements m.new (moved_locals m.path locals) (option_map (moved_type m.path) t) seen es ≡ moved_elements m (judge_elements m.old locals t seen es)
  elements_move m locals tree.no_element t seen h = refl
  elements_move m locals (tree.element k e c rest) t seen h =
      let key = element_key m.old t seen k in
      let after = seen_after m.old t seen k in
      let i = value_at e (judge m.old locals e) in
      let others = judge_elements m.old locals t after rest in
      let entry = entering_if m.old (place_of e) (value_kind i.meaning) key.wanted in
      let of_key = of_first key.uses (i.uses ++ (entry ++ others.uses)) h in
      let behind = of_second key.uses (i.uses ++ (entry ++ others.uses)) h in
      let new = moved_locals m.path locals in
      let u = option_map (moved_type m.path) t in
      ap2 (λ (z : JudgedKey) (y : Judged). with_element m.new z (place_of e) y (judge_elements m.new new u (seen_after m.new u seen k) rest))
      (key_moves m t seen k of_key)
      (value_moves e (judge m.old locals e) (judge m.new new e) (λ q. found_moves m locals e q)
      (of_first i.uses (entry ++ others.uses) behind))
      ∙ (ap (λ (z : JudgedElements). with_element m.new (moved_judged_key m key) (place_of e) (moved_found m.path i) z)
      (ap (λ (z : Seen). judge_elements m.new new u z rest) (seen_after_stays m t seen k of_key)
      ∙ elements_move m locals rest t after (of_second entry others.uses (of_second i.uses (entry ++ others.uses) behind)))
      ∙ with_element_moves m key (place_of e) i others)

pub expressions_move : ExpressionsMove
expressions_move g inj v w locals e h = found_moves (the_move g inj v w h) locals e (record { each = λ u c. h.members u c })
