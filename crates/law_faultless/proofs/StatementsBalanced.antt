-- The code of typed statements leaves the stack as it was.
use Rattle.std.proofs.Common.{ℕ, suc, ◌≡◌, true, false, List, [], ◌++◌, ◌⊎◌, inl, inr, length, refl, sym, ◌∙◌, subst, Option, Some, None}
use Rattle.std.specs.List.{flat_map}
use Rattle.std.proofs.lemmas.List.{length-map}
use Rattle.std.proofs.lemmas.List.Elements.{All-nil}
use Rattle.go_ast.specs.Tree.{Item, ExprTree, SimpleTree, InitTree, ForTree, StatementTree, BlockTree, StatementTrees, IfTree, ElseTree}
use Rattle.go_ast.specs.Tree as tree
use Rattle.go_ast.specs.WellFormed.{IsExpr, IsExprIn, IsList, IsSimple, IsPost, IsInit, IsFor, IsNoneOr, IsStatement, IsBlock, AreStatements, IsIf, IsElse}
use Rattle.types_declared.specs.Files.{group_items}
use Rattle.types_expr.specs.Types.{PlainType}
use Rattle.types_expr.specs.World.{World, Locals}
use Rattle.law_typing.specs.Sequences.{IfPresent, absent, present}
use Rattle.law_typing.specs.Assignments.{OfType}
use Rattle.law_typing.specs.Simple.{ConditionIsTyped}
use Rattle.law_typing.specs.Statements.{InitIsTyped, an_init, HeaderIsTyped, endless, a_while, with_clauses, StatementIsTyped, nothing}
use Rattle.law_typing.specs.Statements.{a_declaration, a_simple, an_inner_block, a_choice, a_loop, a_break, a_continue, a_return, BlockIsTyped}
use Rattle.law_typing.specs.Statements.{a_block, StatementsAreTyped, no_more, one_more, IfIsTyped, an_if, ElseIsTyped, without_else, an_else_if}
use Rattle.law_typing.specs.Statements.{an_else}
use Rattle.build_object.specs.Lines.{FunctionName, CodeLine}
use Rattle.build_object.specs.Source.{Source}
use Rattle.build_object.specs.Expressions.{value_lines}
use Rattle.build_object.specs.Statements.{lines_of_values, init_lines, local_lines, simple_lines, Exits}
use Rattle.build_object.specs.Statements.{further, block_exits, branched, for_init, for_condition}
use Rattle.build_object.specs.Statements.{for_post, loop_condition, body_exits, loop_lines, statement_lines, block_lines, statements_lines, if_lines}
use Rattle.build_object.specs.Statements.{else_lines}
use Rattle.law_faultless.specs.Stack.{Arity}
use Rattle.law_faultless.specs.Questions.{Asks}
use Rattle.law_faultless.specs.StatementAsking.{AskIfPresent, asks_present, InitAsks, in_init, HeaderAsks, in_while, in_first, in_test, in_post, StatementAsks}
use Rattle.law_faultless.specs.StatementAsking.{in_declaration, in_simple, in_inner, in_choice, in_header, in_loop, in_return, BlockAsks, in_block}
use Rattle.law_faultless.specs.StatementAsking.{StatementsAsk, this_statement, later_statement, IfAsks, before_condition, in_condition, in_then, in_otherwise}
use Rattle.law_faultless.specs.StatementAsking.{ElseAsks, in_else_if, in_else}
use Rattle.law_faultless.proofs.StackParts.{Turns, none_turns, turns_as}
use Rattle.law_faultless.proofs.ExpressionsBalanced.{over, Answers}
use Rattle.law_faultless.proofs.Sides.{AreExprs, give_turns, taken_length}
use Rattle.law_faultless.proofs.SimpleBalanced.{exprs_in, simple_turns, condition_turns, locals_turn, optional_turns}
use Rattle.law_faultless.proofs.EmptyStacks.{Keeps, turns_keep, keeps_joined, jump_out, jump_next, return_keeps, if_keeps, else_keeps, Tests, no_test, one_test}
use Rattle.law_faultless.proofs.EmptyStacks.{loop_keeps}

init_turns : (arity : FunctionName → Arity) (w : World) (s : Source) (slots : List ℕ) {before after : Locals} {x : Option InitTree} →
    IfPresent InitTree (InitIsTyped w) before x after → IsNoneOr IsInit x →
    Answers arity (over w s) slots (AskIfPresent InitTree (InitAsks w) before x) → Turns arity 0 0 (init_lines (over w s) slots x)
init_turns arity w s slots absent f k = none_turns arity 0
init_turns arity w s slots (present (an_init r)) f k = optional_turns arity w s slots true r f (λ q a. k q (asks_present (in_init a)))

-- what may stand last in the header of a `for` is a simple statement
post_simple : (x : SimpleTree) → IsPost x → IsSimple true x
post_simple (tree.Alone e) f = f
post_simple (tree.Step e o p) f = f
post_simple (tree.Update x o p y) f = f
post_simple (tree.Assign xs p ys) f = f
post_simple (tree.Define xs p ys) f = absurd f

post_perhaps : (x : Option SimpleTree) → IsNoneOr IsPost x → IsNoneOr (IsSimple true) x
post_perhaps None f = tt
post_perhaps (Some x) f = post_simple x f

-- the parts of a header: its first statement, its test, which leads behind so many lines, and what is done after each turn
record Heads (arity : FunctionName → Arity) (s : Source) (slots : List ℕ) (h : ForTree) : Type 0 where
  first : Turns arity 0 0 (for_init s slots h)
  test : (n : ℕ) → Tests arity n (loop_condition s slots (for_condition h) n)
  post : Turns arity 0 0 (for_post s slots h)

optional_test : (arity : FunctionName → Arity) (w : World) (s : Source) (slots : List ℕ) {before after : Locals} {x : Option ExprTree} →
    IfPresent ExprTree (ConditionIsTyped w) before x after → IsNoneOr (IsExprIn true) x →
    Answers arity (over w s) slots (AskIfPresent ExprTree (Asks w) before x) → (n : ℕ) → Tests arity n (loop_condition (over w s) slots x n)
optional_test arity w s slots absent f k n = no_test arity n
optional_test arity w s slots (present {x = e} r) f k n = one_test arity n (value_lines (over w s) slots e)
    (condition_turns arity w s slots r f.grouped (λ q a. k q (asks_present a)))

header_parts : (arity : FunctionName → Arity) (w : World) (s : Source) (slots : List ℕ) {before after : Locals} {h : ForTree} →
    HeaderIsTyped w before h after → IsFor h →
    Answers arity (over w s) slots (HeaderAsks w before h) → Heads arity (over w s) slots h
header_parts arity w s slots endless f k = record { first = none_turns arity 0; test = λ n. no_test arity n; post = none_turns arity 0 }
header_parts arity w s slots (a_while {e = e} r) f k = record {
  first = none_turns arity 0;
  test = λ n. one_test arity n (value_lines (over w s) slots e) (condition_turns arity w s slots r f.grouped (λ q a. k q (in_while a)));
  post = none_turns arity 0;
}
header_parts arity w s slots (with_clauses {post = post} a b c) f k = record {
  first = optional_turns arity w s slots true a f.0 (λ q x. k q (in_first x));
  test = optional_test arity w s slots b f.1 (λ q x. k q (in_test a x));
  post = optional_turns arity w s slots true c (post_perhaps post f.2) (λ q x. k q (in_post a b x));
}

-- a statement before others
statements_of : (s : StatementTree) (p : Option ℕ) (rest : StatementTrees) → AreStatements (tree.statement s p rest) →
    IsStatement s × ((rest ≡ tree.no_statement) ⊎ AreStatements rest)
unfolding AreStatements
statements_of s None rest f = (f.0, inl f.1)
statements_of s (Some p) rest f = (f.0, inr f.2)

some_statement : (s : StatementTree) (p : Option ℕ) (rest : StatementTrees) → (tree.statement s p rest ≡ tree.no_statement) ⊎ AreStatements
    (tree.statement s p rest) → AreStatements (tree.statement s p rest)
some_statement s p rest f = elim f [ inl e ↦ cc | inr h ↦ h ]

returned_exprs : (es : List (Item ExprTree)) → (es ≡ []) ⊎ IsList (IsExprIn false) es → AreExprs es
returned_exprs es f = elim f [ inl e ↦ subst (λ z. AreExprs z) (sym e) (All-nil (λ (i : Item ExprTree). IsExpr i.value)) | inr l ↦ exprs_in false es l.each ]

mutual
  unfolding statement_lines IsStatement

  pub statement_keeps : (arity : FunctionName → Arity) (w : World) (results : List PlainType) (s : Source) (slots : List ℕ) (x : Exits)
      {before after : Locals} {a : StatementTree} → StatementIsTyped w results before a after → IsStatement a →
      Answers arity (over w s) slots (StatementAsks w results before a) → Keeps arity x (statement_lines (over w s) slots (length results) x a)
  statement_keeps arity w results s slots x nothing f k = turns_keep arity x [] (none_turns arity 0)
  statement_keeps arity w results s slots x (a_declaration {g = g} r) f k = turns_keep arity x (flat_map (local_lines (over w s) slots) (group_items g))
      (locals_turn arity w s slots r f (λ q a. k q (in_declaration a)))
  statement_keeps arity w results s slots x (a_simple {s = a} r) f k = turns_keep arity x (simple_lines (over w s) slots a)
      (simple_turns arity w s slots false r f (λ q a. k q (in_simple a)))
  statement_keeps arity w results s slots x (an_inner_block r) f k = block_keeps arity w results s slots x r f (λ q a. k q (in_inner a))
  statement_keeps arity w results s slots x (a_choice r) f k = if_statement_keeps arity w results s slots x r f (λ q a. k q (in_choice a))
  statement_keeps arity w results s slots x (a_loop {h = h} {b} header r) f k =
      let parts = header_parts arity w s slots header f.0 (λ q a. k q (in_header a)) in
      let post : List CodeLine = for_post (over w s) slots h in
      let body : List CodeLine = block_lines (over w s) slots (length results) (body_exits post) b in
      keeps_joined arity x (for_init (over w s) slots h) (loop_lines (over w s) slots (for_condition h) body post)
      (turns_keep arity (further (length (loop_lines (over w s) slots (for_condition h) body post)) x) (for_init (over w s) slots h) parts.first)
      (loop_keeps arity x (loop_condition (over w s) slots (for_condition h) (suc (length (body ++ post)))) body post (parts.test (suc (length (body ++ post))))
      (block_keeps arity w results s slots (body_exits post) r f.1 (λ q a. k q (in_loop header a))) parts.post)
  statement_keeps arity w results s slots x a_break f k = jump_out arity x
  statement_keeps arity w results s slots x a_continue f k = jump_next arity x
  statement_keeps arity w results s slots x (a_return {locals} {es = es} {ks} g t) f k =
      return_keeps arity x (length results) (lines_of_values (over w s) slots es)
      (turns_as arity (lines_of_values (over w s) slots es) refl (taken_length t ∙ length-map results OfType)
      (give_turns arity w s slots locals g (returned_exprs es f) (λ q a. k q (in_return a))))

  pub block_keeps : (arity : FunctionName → Arity) (w : World) (results : List PlainType) (s : Source) (slots : List ℕ) (x : Exits) {before after : Locals}
      {b : BlockTree} → BlockIsTyped w results before b after → IsBlock b →
      Answers arity (over w s) slots (BlockAsks w results before b) → Keeps arity x (block_lines (over w s) slots (length results) x b)
  block_keeps arity w results s slots x (a_block r) f k = statements_keep arity w results s slots x r (inr f.1) (λ q a. k q (in_block a))

  statements_keep : (arity : FunctionName → Arity) (w : World) (results : List PlainType) (s : Source) (slots : List ℕ) (x : Exits) {before after : Locals}
      {ss : StatementTrees} → StatementsAreTyped w results before ss after →
      (ss ≡ tree.no_statement) ⊎ AreStatements ss → Answers arity (over w s) slots (StatementsAsk w results before ss) →
      Keeps arity x (statements_lines (over w s) slots (length results) x ss)
  statements_keep arity w results s slots x no_more f k = turns_keep arity x [] (none_turns arity 0)
  statements_keep arity w results s slots x (one_more {s = a} {p} {rest} r more) f k =
      let parts = statements_of a p rest (some_statement a p rest f) in
      keeps_joined arity x (statement_lines (over w s) slots (length results) (further (length (statements_lines (over w s) slots (length results) x rest)) x)
      a) (statements_lines (over w s) slots (length results) x rest)
      (statement_keeps arity w results s slots (further (length (statements_lines (over w s) slots (length results) x rest)) x) r parts.0
      (λ q b. k q (this_statement b)))
      (statements_keep arity w results s slots x more parts.1 (λ q b. k q (later_statement r b)))

  if_statement_keeps : (arity : FunctionName → Arity) (w : World) (results : List PlainType) (s : Source) (slots : List ℕ) (x : Exits) {before after : Locals}
      {i : IfTree} → IfIsTyped w results before i after → IsIf i →
      Answers arity (over w s) slots (IfAsks w results before i) → Keeps arity x (if_lines (over w s) slots (length results) x i)
  if_statement_keeps arity w results s slots x (an_if {init = init} {e} {b} {otherwise} i c r o) f k =
      let lines : List CodeLine = value_lines (over w s) slots e ++ branched (block_lines (over w s) slots (length results)
      (block_exits (else_lines (over w s) slots (length results) x otherwise) x) b) (else_lines (over w s) slots (length results) x otherwise) in
      keeps_joined arity x (init_lines (over w s) slots init) lines
      (turns_keep arity (further (length lines) x) (init_lines (over w s) slots init) (init_turns arity w s slots i f.0 (λ q a. k q (before_condition a))))
      (else_keep arity w results s slots x (value_lines (over w s) slots e) (λ y. block_lines (over w s) slots (length results) y b) o f.3
      (condition_turns arity w s slots c f.1.grouped (λ q a. k q (in_condition i a)))
      (λ y. block_keeps arity w results s slots y r f.2 (λ q a. k q (in_then i c a))) (λ q a. k q (in_otherwise i c r a)))

  -- A condition, a block, and the code behind `else`
  else_keep : (arity : FunctionName → Arity) (w : World) (results : List PlainType) (s : Source) (slots : List ℕ) (x : Exits) (cond : List CodeLine)
      (body : Exits → List CodeLine) {before after : Locals} {o : ElseTree} → ElseIsTyped w results before o after →
      IsElse o → Turns arity 0 1 cond → ((y : Exits) → Keeps arity y (body y)) → Answers arity (over w s) slots (ElseAsks w results before o) →
      Keeps arity x (cond ++ branched (body (block_exits (else_lines (over w s) slots (length results) x o) x))
      (else_lines (over w s) slots (length results) x o))
  else_keep arity w results s slots x cond body without_else f c b k = if_keeps arity x cond (body x) c (b x)
  else_keep arity w results s slots x cond body (an_else_if {i = i} r) f c b k =
      let other : List CodeLine = if_lines (over w s) slots (length results) x i in
      else_keeps arity x cond (body (block_exits (Some other) x)) other c (b (block_exits (Some other) x))
      (if_statement_keeps arity w results s slots x r f (λ q a. k q (in_else_if a)))
  else_keep arity w results s slots x cond body (an_else {b = last} r) f c b k =
      let other : List CodeLine = block_lines (over w s) slots (length results) x last in
      else_keeps arity x cond (body (block_exits (Some other) x)) other c (b (block_exits (Some other) x))
      (block_keeps arity w results s slots x r f (λ q a. k q (in_else a)))
