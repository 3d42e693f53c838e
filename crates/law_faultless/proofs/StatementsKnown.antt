-- The members that the code of statements asks for are among the uses of members that are found in them.
use Rattle.std.proofs.Common.{ℕ, ◌≡◌, List, [], ◌∷◌, ◌++◌, Option, Some, None, sym, subst}
use Rattle.go_ast.specs.Tree.{Item, Group, IdentTree, TypeTree, ExprTree, SimpleTree, LocalTree, InitTree, ForTree, StatementTree, BlockTree}
use Rattle.go_ast.specs.Tree.{StatementTrees, IfTree, ElseTree}
use Rattle.go_ast.specs.Tree as tree
use Rattle.types_expr.specs.Places.{place_of}
use Rattle.types_expr.specs.Types.{PlainType}
use Rattle.types_expr.specs.World.{World, Locals}
use Rattle.types_expr.specs.Judge.{judge, judge_value, judge_type, as_value}
use Rattle.types_stmt.specs.Checked.{FoundSoFar, check_items, check_group}
use Rattle.types_stmt.specs.Sides.{Target, Takes, receiving, given_enterings}
use Rattle.types_stmt.specs.Sides.{values_of, judge_each, rhs, assignable, judge_operand, assigned_one, assigned, defined}
use Rattle.types_stmt.specs.Simple.{without_parentheses, check_condition, check_step, check_update}
use Rattle.types_stmt.specs.Simple.{check_expr_statement, check_assign, check_define, check_simple}
use Rattle.types_stmt.specs.Simple.{check_optional_simple, written_targets, name_targets, check_optional_condition}
use Rattle.types_stmt.specs.Simple.{check_typed_local, check_untyped_local, check_local_of, check_local}
use Rattle.types_stmt.specs.Statements.{check_return, check_init, check_for_header, check_statement, check_block, check_statements, check_if, check_else}
use Rattle.law_typing.specs.Simple.{ConditionIsTyped, LocalIsTyped}
use Rattle.law_typing.specs.Statements.{a_while}
use Rattle.law_typing.proofs.PartOutcomes.{IsAt, held}
use Rattle.law_typing.proofs.Locals.{local_true}
use Rattle.law_typing.proofs.Statements.{AreTargets, optional_true, optional_condition_true, init_true, header_true, statement_true, block_true}
use Rattle.law_faultless.specs.Questions.{TokenQuestion, Asks, for_integer, for_text, for_name}
use Rattle.law_faultless.specs.Questions.{in_composite, in_paren, in_prefix, in_address, in_chain, in_links}
use Rattle.law_faultless.specs.Questions.{in_binary, in_operands}
use Rattle.law_faultless.specs.StatementAsking.{AskInTurn, this_item, later_item, AskInGroup, asks_alone, asks_together, AskIfPresent, asks_present}
use Rattle.law_faultless.specs.StatementAsking.{AnyAsks, this_one, a_later_one, SimpleAsks, in_call, in_step, in_updated, in_update, in_assigned}
use Rattle.law_faultless.specs.StatementAsking.{in_assignment, for_left, in_definition, LocalAsks, for_declared, in_values, InitAsks, in_init, HeaderAsks}
use Rattle.law_faultless.specs.StatementAsking.{in_while, in_first, in_test, in_post, StatementAsks, in_declaration, in_simple, in_inner, in_choice, in_header}
use Rattle.law_faultless.specs.StatementAsking.{in_loop, in_return, BlockAsks, in_block, StatementsAsk, this_statement, later_statement, IfAsks}
use Rattle.law_faultless.specs.StatementAsking.{before_condition, in_condition, in_then, in_otherwise, ElseAsks, in_else_if, in_else}
use Rattle.law_faultless.proofs.Used.{Met, met_left, met_right, met_inner, expression_met}
use Rattle.law_faultless.proofs.KeptUses.{condition_keeps, optional_keeps, optional_condition_keeps, local_keeps}
use Rattle.law_faultless.proofs.KeptUses.{items_keep, block_keeps, statements_keep, else_keeps}

-- lists of expressions

value_met : (q : TokenQuestion) (w : World) (ls : Locals) (e : ExprTree) → Asks w ls e q → Met q (judge_value w ls e).uses
value_met q w ls e a = met_left q (judge w ls e).uses (as_value (place_of e) (judge w ls e).meaning).uses (expression_met w ls a)

operand_met : (q : TokenQuestion) (w : World) (ls : Locals) (e : ExprTree) → Asks w ls e q → Met q (judge_operand w ls e).uses
operand_met q w ls e a = met_left q (judge w ls e).uses (assignable (place_of e) (judge w ls e).meaning).uses (expression_met w ls a)

each_met : (w : World) (ls : Locals) {is : List (Item ExprTree)} {q : TokenQuestion} → AnyAsks w ls is q → Met q (judge_each w ls is).uses
unfolding judge_each
each_met w ls (this_one {i} {is} {q} a) = met_left q (judge_value w ls i.value).uses (judge_each w ls is).uses (value_met q w ls i.value a)
each_met w ls (a_later_one {i} {is} {q} a) = met_right q (judge_value w ls i.value).uses (judge_each w ls is).uses (each_met w ls a)

one_right : (q : TokenQuestion) (w : World) (ls : Locals) (i : Item ExprTree) → Asks w ls i.value q → Met q (rhs w ls (i ∷ [])).uses
unfolding rhs
one_right q w ls i a = met_left q (judge w ls i.value).uses (values_of (place_of i.value) (judge w ls i.value).meaning).uses (expression_met w ls a)

first_right : (q : TokenQuestion) (w : World) (ls : Locals) (i : Item ExprTree) (is : List (Item ExprTree)) → Asks w ls i.value q →
    Met q (rhs w ls (i ∷ is)).uses
unfolding rhs
first_right q w ls i [] a = one_right q w ls i a
first_right q w ls i (j ∷ is) a = each_met w ls (this_one a)

later_right : (q : TokenQuestion) (w : World) (ls : Locals) (i : Item ExprTree) (is : List (Item ExprTree)) → AnyAsks w ls is q → Met q (rhs w ls (i ∷ is)).uses
unfolding rhs
later_right q w ls i [] a = elim a [ ]
later_right q w ls i (j ∷ is) a = each_met w ls (a_later_one a)

rights_met : (q : TokenQuestion) (w : World) (ls : Locals) {is : List (Item ExprTree)} → AnyAsks w ls is q → Met q (rhs w ls is).uses
rights_met q w ls (this_one {i} {is} a) = first_right q w ls i is a
rights_met q w ls (a_later_one {i} {is} a) = later_right q w ls i is a

-- what asks is no `_`
one_assigned : (w : World) (ls : Locals) {e : ExprTree} {q : TokenQuestion} → Asks w ls e q → Met q (assigned_one w ls e).uses
unfolding assigned_one
one_assigned w ls (for_integer {p}) = tt
one_assigned w ls (for_text {p}) = tt
one_assigned w ls (for_name {p}) = tt
one_assigned w ls (in_composite {l} {q} a) = operand_met q w ls (tree.Composite l) (in_composite a)
one_assigned w ls (in_paren {o} {c} {e} {q} a) = operand_met q w ls (tree.Paren o e c) (in_paren a)
one_assigned w ls (in_prefix {o} {p} {e} {q} a) = operand_met q w ls (tree.Prefix o p e) (in_prefix a)
one_assigned w ls (in_address {p} {l} {q} a) = operand_met q w ls (tree.Address p l) (in_address a)
one_assigned w ls (in_chain {e} {links} {q} a) = operand_met q w ls (tree.Chain e links) (in_chain a)
one_assigned w ls (in_links {e} {links} {q = q} h a) = operand_met q w ls (tree.Chain e links) (in_links h a)
one_assigned w ls (in_binary {e} {rest} {q} a) = operand_met q w ls (tree.Binary e rest) (in_binary a)
one_assigned w ls (in_operands {e} {rest} {q} a) = operand_met q w ls (tree.Binary e rest) (in_operands a)

assigned_met : (w : World) (ls : Locals) {is : List (Item ExprTree)} {q : TokenQuestion} → AnyAsks w ls is q → Met q (assigned w ls is).uses
unfolding assigned
assigned_met w ls (this_one {i} {is} {q} a) = met_left q (assigned_one w ls i.value).uses (assigned w ls is).uses (one_assigned w ls a)
assigned_met w ls (a_later_one {i} {is} {q} a) = met_right q (assigned_one w ls i.value).uses (assigned w ls is).uses (assigned_met w ls a)

asks_inside : {w : World} {ls : Locals} {e : ExprTree} {q : TokenQuestion} → Asks w ls e q → Asks w ls (without_parentheses e) q
unfolding without_parentheses
asks_inside for_integer = for_integer
asks_inside for_text = for_text
asks_inside for_name = for_name
asks_inside (in_composite a) = in_composite a
asks_inside (in_paren a) = asks_inside a
asks_inside (in_prefix a) = in_prefix a
asks_inside (in_address a) = in_address a
asks_inside (in_chain a) = in_chain a
asks_inside (in_links h a) = in_links h a
asks_inside (in_binary a) = in_binary a
asks_inside (in_operands a) = in_operands a

alone_met : (q : TokenQuestion) (w : World) (s : FoundSoFar) (ls : Locals) (e : ExprTree) → s.locals ≡ ls → Asks w ls e q →
    Met q (check_expr_statement w s e).uses
unfolding check_expr_statement
alone_met q w s ls e at a = met_right q s.uses (judge w s.locals (without_parentheses e)).uses
    (expression_met w s.locals (asks_inside (subst (λ z. Asks w z e q) (sym at) a)))

step_met : (q : TokenQuestion) (w : World) (s : FoundSoFar) (ls : Locals) (e : ExprTree) → s.locals ≡ ls → Asks w ls e q → Met q (check_step w s e).uses
unfolding check_step
step_met q w s ls e at a = met_right q s.uses (judge_operand w s.locals e).uses (operand_met q w s.locals e (subst (λ z. Asks w z e q) (sym at) a))

simple_met : (q : TokenQuestion) (w : World) (s : FoundSoFar) {before : Locals} {x : SimpleTree} → s.locals ≡ before → SimpleAsks w before x q →
    Met q (check_simple w s x).uses
unfolding check_simple check_update check_assign check_define
simple_met q w s at (in_call {locals} {e} a) = alone_met q w s locals e at a
simple_met q w s at (in_step {locals} {e} a) = step_met q w s locals e at a
simple_met q w s at (in_updated {x = x} {y} a) =
    met_right q s.uses ((judge_operand w s.locals x).uses ++ (judge_value w s.locals y).uses)
    (met_left q (judge_operand w s.locals x).uses (judge_value w s.locals y).uses (operand_met q w s.locals x (subst (λ z. Asks w z x q) (sym at) a)))
simple_met q w s at (in_update {x = x} {y} a) =
    met_right q s.uses ((judge_operand w s.locals x).uses ++ (judge_value w s.locals y).uses)
    (met_right q (judge_operand w s.locals x).uses (judge_value w s.locals y).uses (value_met q w s.locals y (subst (λ z. Asks w z y q) (sym at) a)))
simple_met q w s at (in_assigned {xs = xs} {ys} a) =
    let l = assigned w s.locals xs in
    let r = rhs w s.locals ys in
    let entries = given_enterings (receiving w ys r.values) r.values l.targets in
    met_right q s.uses (l.uses ++ (r.uses ++ entries))
    (met_left q l.uses (r.uses ++ entries) (assigned_met w s.locals (subst (λ z. AnyAsks w z xs q) (sym at) a)))
simple_met q w s at (in_assignment {xs = xs} {ys} a) =
    let l = assigned w s.locals xs in
    let r = rhs w s.locals ys in
    let entries = given_enterings (receiving w ys r.values) r.values l.targets in
    met_right q s.uses (l.uses ++ (r.uses ++ entries))
    (met_inner q l.uses r.uses entries (rights_met q w s.locals (subst (λ z. AnyAsks w z ys q) (sym at) a)))
simple_met q w s at (for_left l) = tt
simple_met q w s at (in_definition {xs = xs} {ys} a) =
    let l = defined w s.locals xs in
    let r = rhs w s.locals ys in
    let entries = given_enterings (receiving w ys r.values) r.values l.targets in
    met_right q s.uses (l.uses ++ (r.uses ++ entries))
    (met_inner q l.uses r.uses entries (rights_met q w s.locals (subst (λ z. AnyAsks w z ys q) (sym at) a)))

-- behind typed parts

condition_at : (w : World) (s : FoundSoFar) {e : ExprTree} {before after : Locals} → IsAt s before → ConditionIsTyped w before e after →
    IsAt (check_condition w s e) after
unfolding check_for_header
condition_at w s a r = header_true w s a (a_while r)

-- parts that stand one behind another

optional_met : (w : World) {before : Locals} {x : Option SimpleTree} {q : TokenQuestion} → AskIfPresent SimpleTree (SimpleAsks w) before x q →
    (s : FoundSoFar) →
    s.locals ≡ before → Met q (check_optional_simple w s x).uses
optional_met w (asks_present {q = q} a) s at = simple_met q w s at a

condition_met : (q : TokenQuestion) (w : World) (s : FoundSoFar) (ls : Locals) (e : ExprTree) → s.locals ≡ ls → Asks w ls e q →
    Met q (check_condition w s e).uses
unfolding check_condition
condition_met q w s ls e at a = met_right q s.uses (judge_value w s.locals e).uses (value_met q w s.locals e (subst (λ z. Asks w z e q) (sym at) a))

optional_condition_met : (w : World) {before : Locals} {x : Option ExprTree} {q : TokenQuestion} → AskIfPresent ExprTree (Asks w) before x q →
    (s : FoundSoFar) →
    s.locals ≡ before → Met q (check_optional_condition w s x).uses
optional_condition_met w (asks_present {before} {x} {q} a) s at = condition_met q w s before x at a

init_met : (w : World) {before : Locals} {x : Option InitTree} {q : TokenQuestion} → AskIfPresent InitTree (InitAsks w) before x q → (s : FoundSoFar) →
    s.locals ≡ before → Met q (check_init w s x).uses
init_met w (asks_present (in_init a)) s at = optional_met w a s at

header_met : (w : World) {before : Locals} {h : ForTree} {q : TokenQuestion} → HeaderAsks w before h q → (s : FoundSoFar) → IsAt s before →
    Met q (check_for_header w s h).uses
unfolding check_for_header
header_met w (in_while {locals} {e} {q} a) s at = condition_met q w s locals e at.locals_are a
header_met w (in_first {init = init} {post} {condition} {q = q} a) s at =
    let first = check_optional_simple w s init in
    optional_keeps q w (check_optional_condition w first condition) post (optional_condition_keeps q w first condition (optional_met w a s at.locals_are))
header_met w (in_test {init = init} {post} {condition} {q = q} i a) s at =
    let first = check_optional_simple w s init in
    optional_keeps q w (check_optional_condition w first condition) post (optional_condition_met w a first (optional_true w s at i).locals_are)
header_met w (in_post {init = init} {post} {condition} {q = q} i c a) s at =
    let first = check_optional_simple w s init in
    optional_met w a (check_optional_condition w first condition) (optional_condition_true w first (optional_true w s at i) c).locals_are

local_of_met : (q : TokenQuestion) (w : World) (s : FoundSoFar) (names : List (Item IdentTree)) (t : Option TypeTree) (v : ℕ × List (Item ExprTree)) →
    AnyAsks w s.locals v.1 q → Met q (check_local_of w s names t (Some v)).uses
unfolding check_typed_local check_untyped_local
local_of_met q w s names (Some t) v a = let r = rhs w s.locals v.1 in
    met_inner q s.uses r.uses (given_enterings (receiving w v.1 r.values) r.values (written_targets names (judge_type w t)).targets)
    (rights_met q w s.locals a)
local_of_met q w s names None v a = let r = rhs w s.locals v.1 in
    met_inner q s.uses r.uses (given_enterings (receiving w v.1 r.values) r.values (name_targets names Takes).targets) (rights_met q w s.locals a)

local_met : (w : World) (s : FoundSoFar) {before : Locals} {l : LocalTree} {q : TokenQuestion} → s.locals ≡ before → LocalAsks w before l q →
    Met q (check_local w s l).uses
unfolding check_local
local_met w s at (for_declared d) = tt
local_met w s at (in_values {l = l} {v} {q} e a) =
    subst (λ z. Met q (check_local_of w s l.names l.type_use z).uses) (sym e) (local_of_met q w s l.names l.type_use v
    (subst (λ z. AnyAsks w z v.1 q) (sym at) a))

locals_met : (w : World) {before : Locals} {is : List (Item LocalTree)} {q : TokenQuestion} → AskInTurn LocalTree (LocalIsTyped w) (LocalAsks w) before is q →
    (s : FoundSoFar) → IsAt s before → Met q (check_items (check_local w) s is).uses
unfolding check_items
locals_met w (this_item {i = i} {is} {q} a) s at = items_keep q (check_local w) (local_keeps q w) is (check_local w s i.value) (local_met w s at.locals_are a)
locals_met w (later_item {inside = inside} {i} r a) s at = locals_met w a (check_local w s i.value)
    (local_true w s i.value inside at.faultless (held (LocalIsTyped w) at r))

local_group_met : (w : World) {before : Locals} {g : Group LocalTree} {q : TokenQuestion} → AskInGroup LocalTree (LocalIsTyped w) (LocalAsks w) before g q →
    (s : FoundSoFar) → IsAt s before → Met q (check_group (check_local w) s g).uses
unfolding check_group
local_group_met w (asks_alone a) s at = local_met w s at.locals_are a
local_group_met w (asks_together a) s at = locals_met w a s at

mutual
  unfolding check_statement check_return

  pub statement_met : (w : World) (results : List PlainType) (targets : List Target) → AreTargets targets results →
      {before : Locals} {x : StatementTree} {q : TokenQuestion} → StatementAsks w results before x q → (s : FoundSoFar) → IsAt s before →
      Met q (check_statement w targets s x).uses
  statement_met w results targets t (in_declaration a) s at = local_group_met w a s at
  statement_met w results targets t (in_simple {q = q} a) s at = simple_met q w s at.locals_are a
  statement_met w results targets t (in_inner a) s at = block_met w results targets t a s at
  statement_met w results targets t (in_choice a) s at = if_met w results targets t a s at
  statement_met w results targets t (in_header {h = h} {b} {q} a) s at = block_keeps q w targets b (check_for_header w s h) (header_met w a s at)
  statement_met w results targets t (in_loop {h = h} r a) s at = block_met w results targets t a (check_for_header w s h) (header_true w s at r)
  statement_met w results targets t (in_return {es = es} {q} a) s at =
      let r = rhs w s.locals es in
      met_inner q s.uses r.uses (given_enterings (receiving w es r.values) r.values targets)
      (rights_met q w s.locals (subst (λ z. AnyAsks w z es q) (sym at.locals_are) a))

  pub block_met : (w : World) (results : List PlainType) (targets : List Target) → AreTargets targets results →
      {before : Locals} {x : BlockTree} {q : TokenQuestion} → BlockAsks w results before x q → (s : FoundSoFar) → IsAt s before →
      Met q (check_block w targets s x).uses
  block_met w results targets t (in_block a) s at = statements_met w results targets t a s at

  statements_met : (w : World) (results : List PlainType) (targets : List Target) → AreTargets targets results →
      {before : Locals} {x : StatementTrees} {q : TokenQuestion} → StatementsAsk w results before x q → (s : FoundSoFar) → IsAt s before →
      Met q (check_statements w targets s x).uses
  statements_met w results targets t (this_statement {s = x} {rest = rest} {q} a) s at = statements_keep q w targets rest (check_statement w targets s x)
      (statement_met w results targets t a s at)
  statements_met w results targets t (later_statement {s = x} r a) s at = statements_met w results targets t a (check_statement w targets s x)
      (statement_true w results targets t r s at)

  if_met : (w : World) (results : List PlainType) (targets : List Target) → AreTargets targets results → {before : Locals} {x : IfTree} {q : TokenQuestion} →
      IfAsks w results before x q → (s : FoundSoFar) → IsAt s before →
      Met q (check_if w targets s x).uses
  if_met w results targets t (before_condition {init = init} {e} {b} {otherwise} {q} a) s at =
      let first = check_init w s init in
      else_keeps q w targets otherwise (check_block w targets (check_condition w first e) b)
      (block_keeps q w targets b (check_condition w first e) (condition_keeps q w first e (init_met w a s at.locals_are)))
  if_met w results targets t (in_condition {entered = entered} {init = init} {e} {b} {otherwise} {q} i a) s at =
      let first = check_init w s init in
      else_keeps q w targets otherwise (check_block w targets (check_condition w first e) b)
      (block_keeps q w targets b (check_condition w first e) (condition_met q w first entered e (init_true w s at i).locals_are a))
  if_met w results targets t (in_then {init = init} {e} {b} {otherwise} {q} i c a) s at =
      let first = check_init w s init in
      else_keeps q w targets otherwise (check_block w targets (check_condition w first e) b)
      (block_met w results targets t a (check_condition w first e) (condition_at w first (init_true w s at i) c))
  if_met w results targets t (in_otherwise {init = init} {e} {b} i c r a) s at =
      let first = check_init w s init in
      else_met w results targets t a (check_block w targets (check_condition w first e) b)
      (block_true w results targets t r (check_condition w first e) (condition_at w first (init_true w s at i) c))

  else_met : (w : World) (results : List PlainType) (targets : List Target) → AreTargets targets results →
      {before : Locals} {x : ElseTree} {q : TokenQuestion} →
      ElseAsks w results before x q → (s : FoundSoFar) → IsAt s before →
      Met q (check_else w targets s x).uses
  else_met w results targets t (in_else_if a) s at = if_met w results targets t a s at
  else_met w results targets t (in_else a) s at = block_met w results targets t a s at
