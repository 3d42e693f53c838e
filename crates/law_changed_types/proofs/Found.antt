-- What is found of an expression with the new numbers is what was found of the old one, with the new numbers.
use Rattle.std.proofs.Common.{ℕ, ◌≡◌, Option, refl, sym, ap, ◌∙◌}
use Rattle.go_ast.specs.Tree.{ExprTree, LinkTrees, OperandTrees, ArgumentTrees, LiteralTree, ElementTrees}
use Rattle.go_ast.specs.Tree as tree
use Rattle.types_expr.specs.Places.{first_token, first_of_type, place_of}
use Rattle.types_expr.specs.Types.{PlainType}
use Rattle.types_expr.specs.World.{Locals}
use Rattle.types_expr.specs.Judge.{Judged, JudgedList, JudgedKey, JudgedElements, TypeJudged, Seen, means, followed, value_at, as_value, select, index_of}
use Rattle.types_expr.specs.Judge.{index_rule, call_rule, operation, prefix_of, address_of, judge, judge_links, judge_operands}
use Rattle.types_expr.specs.Judge.{judge_arguments, judge_literal, judge_elements, judge_type, element_key, seen_after, none_seen, literal_of, with_element}
use Rattle.types_expr.specs.Judge.{value_before}
use Rattle.law_rename.specs.Renumbered.{expr_by, operands_by, links_by, arguments_by, literal_by, elements_by, key_by}
use Rattle.law_changed_types.specs.Renumbering.{AreRenumberedLocals, renumbered_found}
use Rattle.law_changed_types.specs.Renumbers.{ExpressionsRenumber}
use Rattle.law_changed_types.proofs.Renumber.{Renumber, new, the_renumber, new_is, ap2, ap3}
use Rattle.law_changed_types.proofs.RenumberedTokensRules.{list_found, followed_found, value_found, value_before_found, name_stays, select_found, call_found}
use Rattle.law_changed_types.proofs.RenumberedTokensRules.{index_found, operation_found, prefix_found}
use Rattle.law_changed_types.proofs.Literals.{type_found, key_found, elements_found, written_found, element_key_found, seen_after_stays}
use Rattle.law_changed_types.proofs.Literals.{with_element_found, literal_of_found, address_found}
use Rattle.law_changed_types.proofs.Places.{type_begins, begins, reports}

-- new numbers, and the locals before and after them
pub record Judging : Type 0 where
  pub by : Renumber
  pub locals : Locals
  pub later : Locals
  pub are : AreRenumberedLocals by.to locals later

-- a value, where the expression is judged as k by the new numbers
pub at_value : (m : Renumber) (e : ExprTree) (j k : Judged) → k ≡ renumbered_found m.to j →
    value_at (expr_by m.to e) k ≡ renumbered_found m.to (value_at e j)
at_value m e j k f =
    ap2 (λ (place : ℕ) (z : Judged). followed z (as_value place)) (reports m e) f
    ∙ followed_found m j (as_value (place_of e)) (as_value (m.to (place_of e))) (value_found m (place_of e) j.meaning)

indexed_found : (m : Renumber) (start place : ℕ) (e : ExprTree) (i k j : Judged) → k ≡ renumbered_found m.to i →
    followed (renumbered_found m.to j) (index_rule (new m) (m.to start) (m.to place) (expr_by m.to e) k) ≡
    renumbered_found m.to (followed j (index_rule m.old start place e i))
indexed_found m start place e i k j f =
    ap2 (λ (at : ℕ) (z : Judged). followed (renumbered_found m.to j)
    (λ x. followed (as_value (m.to place) x) (λ s. followed z (index_of (new m) (m.to start) at s)))) (reports m e) f
    ∙ followed_found m j (index_rule m.old start place e i)
    (λ x. followed (as_value (m.to place) x) (λ s. followed (renumbered_found m.to i) (index_of (new m) (m.to start) (m.to (place_of e)) s)))
    (index_found m start place (place_of e) i j.meaning)

called_found : (m : Renumber) (start place : ℕ) (args xs : JudgedList) (j : Judged) → xs ≡ list_found m args →
    followed (renumbered_found m.to j) (call_rule (new m) (m.to start) (m.to place) xs) ≡ renumbered_found m.to (followed j (call_rule m.old start place args))
called_found m start place args xs j f =
    ap (λ (z : JudgedList). followed (renumbered_found m.to j) (call_rule (new m) (m.to start) (m.to place) z)) f
    ∙ followed_found m j (call_rule m.old start place args) (call_rule (new m) (m.to start) (m.to place) (list_found m args))
    (call_found m start place args j.meaning)

mutual
  unfolding judge expr_by

  pub found : (c : Judging) (e : ExprTree) → judge (new c.by) c.later (expr_by c.by.to e) ≡ renumbered_found c.by.to (judge c.by.old c.locals e)
  found c (tree.Number p) = refl
  found c (tree.Text p) = refl
  found c (tree.Name p) = ap means (name_stays c.by c.locals c.later c.are p)
  found c (tree.Blank p) = refl
  found c (tree.Composite l) = literal_found c l
  found c (tree.Paren o e x) = at_value c.by e (judge c.by.old c.locals e) _ (found c e)
  found c (tree.Prefix o p e) =
      let m = c.by in
      let i = value_at e (judge m.old c.locals e) in
      ap (λ (z : Judged). followed z (prefix_of (new m) o (m.to p))) (at_value m e (judge m.old c.locals e) _ (found c e))
      ∙ followed_found m i (prefix_of m.old o p) (prefix_of (new m) o (m.to p)) (prefix_found m o p i.meaning)
  found c (tree.Address p l) =
      let m = c.by in
      let j = judge_literal m.old c.locals l in
      ap (λ (z : Judged). followed z address_of) (literal_found c l) ∙ followed_found m j address_of address_of (address_found m j.meaning)
  found c (tree.Chain e links) =
      let m = c.by in
      let j = judge m.old c.locals e in
      ap3 (λ (start place : ℕ) (z : Judged). judge_links (new m) c.later start place z (links_by m.to links)) (begins m e) (reports m e) (found c e)
      ∙ links_found c links (first_token e) (place_of e) j
  found c (tree.Binary e rest) =
      let m = c.by in
      let j = value_at e (judge m.old c.locals e) in
      ap2 (λ (start : ℕ) (z : Judged). judge_operands (new m) c.later start z (operands_by m.to rest)) (begins m e)
      (at_value m e (judge m.old c.locals e) _ (found c e))
      ∙ operands_found c rest (first_token e) j

  pub operands_found : (c : Judging) (rest : OperandTrees) (start : ℕ) (j : Judged) →
      judge_operands (new c.by) c.later (c.by.to start) (renumbered_found c.by.to j) (operands_by c.by.to rest) ≡
      renumbered_found c.by.to (judge_operands c.by.old c.locals start j rest)
  operands_found c tree.no_operand start j = refl
  operands_found c (tree.operand o p e rest) start j =
      let m = c.by in
      let i = value_at e (judge m.old c.locals e) in
      let k = followed j (λ a. followed i (operation m.old o start a)) in
      ap (λ (z : Judged). judge_operands (new m) c.later (m.to start) z (operands_by m.to rest))
      (ap (λ (z : Judged). followed (renumbered_found m.to j) (λ a. followed z (operation (new m) o (m.to start) a)))
      (at_value m e (judge m.old c.locals e) _ (found c e))
      ∙ followed_found m j (λ a. followed i (operation m.old o start a)) (λ a. followed (renumbered_found m.to i) (operation (new m) o (m.to start) a))
      (followed_found m i (operation m.old o start j.meaning) (operation (new m) o (m.to start) j.meaning)
      (operation_found m o start j.meaning i.meaning)))
      ∙ operands_found c rest start k

  pub links_found : (c : Judging) (links : LinkTrees) (start place : ℕ) (j : Judged) →
      judge_links (new c.by) c.later (c.by.to start) (c.by.to place) (renumbered_found c.by.to j) (links_by c.by.to links) ≡
      renumbered_found c.by.to (judge_links c.by.old c.locals start place j links)
  links_found c tree.no_link start place j = refl
  links_found c (tree.selector d n rest) start place j =
      let m = c.by in
      let k = followed j (select m.old c.locals place n) in
      ap (λ (z : Judged). judge_links (new m) c.later (m.to start) (m.to n) z (links_by m.to rest))
      (followed_found m j (select m.old c.locals place n) (select (new m) c.later (m.to place) (m.to n))
      (select_found m c.locals c.later c.are place n j.meaning))
      ∙ links_found c rest start n k
  links_found c (tree.index o e x rest) start place j =
      let m = c.by in
      let i = value_at e (judge m.old c.locals e) in
      let k = followed j (index_rule m.old start place e i) in
      ap (λ (z : Judged). judge_links (new m) c.later (m.to start) (m.to start) z (links_by m.to rest))
      (indexed_found m start place e i _ j (at_value m e (judge m.old c.locals e) _ (found c e)))
      ∙ links_found c rest start start k
  links_found c (tree.call o xs x rest) start place j =
      let m = c.by in
      let k = followed j (call_rule m.old start place (judge_arguments m.old c.locals xs)) in
      ap (λ (z : Judged). judge_links (new m) c.later (m.to start) (m.to start) z (links_by m.to rest))
      (called_found m start place (judge_arguments m.old c.locals xs) _ j (arguments_found c xs))
      ∙ links_found c rest start start k

  pub arguments_found : (c : Judging) (xs : ArgumentTrees) →
      judge_arguments (new c.by) c.later (arguments_by c.by.to xs) ≡ list_found c.by (judge_arguments c.by.old c.locals xs)
  arguments_found c tree.no_argument = refl
  arguments_found c (tree.argument e x rest) =
      let m = c.by in
      ap3 (λ (place : ℕ) (z : Judged) (y : JudgedList). value_before place z y) (reports m e)
      (at_value m e (judge m.old c.locals e) _ (found c e)) (arguments_found c rest)
      ∙ value_before_found m (place_of e) (value_at e (judge m.old c.locals e)) (judge_arguments m.old c.locals rest)

  pub literal_found : (c : Judging) (l : LiteralTree) →
      judge_literal (new c.by) c.later (literal_by c.by.to l) ≡ renumbered_found c.by.to (judge_literal c.by.old c.locals l)
  literal_found c (tree.literal t o es x) =
      let m = c.by in
      let T = judge_type m.old t in
      let E = judge_elements m.old c.locals T.type_of none_seen es in
      ap2 (λ (start : ℕ) (z : TypeJudged). literal_of (new m) start z (judge_elements (new m) c.later z.type_of none_seen (elements_by m.to es)))
      (type_begins m t) (written_found m t)
      ∙ (ap (λ (z : JudgedElements). literal_of (new m) (m.to (first_of_type t)) (type_found m T) z) (elements_are c es T.type_of none_seen)
      ∙ literal_of_found m (first_of_type t) T E)

  pub elements_are : (c : Judging) (es : ElementTrees) (t : Option PlainType) (seen : Seen) →
      judge_elements (new c.by) c.later t seen (elements_by c.by.to es) ≡ elements_found c.by (judge_elements c.by.old c.locals t seen es)
  elements_are c tree.no_element t seen = refl
  elements_are c (tree.element k e x rest) t seen =
      let m = c.by in
      let key = element_key m.old t seen k in
      let after = seen_after m.old t seen k in
      let i = value_at e (judge m.old c.locals e) in
      ap3 (λ (place : ℕ) (z : JudgedKey) (y : Judged). with_element (new m) z place y
      (judge_elements (new m) c.later t (seen_after (new m) t seen (key_by m.to k)) (elements_by m.to rest)))
      (reports m e) (element_key_found m t seen k) (at_value m e (judge m.old c.locals e) _ (found c e))
      ∙ (ap (λ (z : JudgedElements). with_element (new m) (key_found m key) (m.to (place_of e)) (renumbered_found m.to i) z)
      (ap (λ (z : Seen). judge_elements (new m) c.later t z (elements_by m.to rest)) (seen_after_stays m t seen k)
      ∙ elements_are c rest t after)
      ∙ with_element_found m key (place_of e) i (judge_elements m.old c.locals t after rest))

pub expressions_renumber : ExpressionsRenumber
expressions_renumber t n v w h locals later l e =
    ap (λ z. judge z later (expr_by t e)) (sym (new_is t n v w h))
    ∙ found (record { by = the_renumber t n v w h; locals = locals; later = later; are = l }) e
