-- The same of statements.
use Rattle.std.proofs.Common.{ℕ, List, ◌++◌, Option}
use Rattle.std.specs.Option.{unwrap_or}
use Rattle.go_ast.specs.Tree.{ExprTree, SimpleTree, InitTree, ForTree, StatementTree, BlockTree, StatementTrees, IfTree, ElseTree}
use Rattle.go_scope.specs.declared.model.Block.{Block}
use Rattle.go_scope.specs.declared.model.Block.TheVariants as blocks
use Rattle.go_scope.specs.Site.{TokenSpellings}
use Rattle.go_scope.specs.ExpressionSites.{sites_if, expr_sites}
use Rattle.go_scope.specs.StatementSites.{simple_sites, init_sites, for_sites, open_of, statement_sites, block_sites, statements_sites, if_sites, else_sites}
use Rattle.types_expr.specs.Types.{PlainType}
use Rattle.types_expr.specs.World.{World, Locals}
use Rattle.law_typing.specs.Sequences.{IfPresent, absent, present}
use Rattle.law_typing.specs.Simple.{ConditionIsTyped, a_condition, SimpleIsTyped}
use Rattle.law_typing.specs.Statements.{InitIsTyped, an_init, HeaderIsTyped, endless, a_while, with_clauses, StatementIsTyped, nothing}
use Rattle.law_typing.specs.Statements.{a_declaration, a_simple, an_inner_block, a_choice, a_loop, a_break, a_continue, a_return, BlockIsTyped}
use Rattle.law_typing.specs.Statements.{a_block, StatementsAreTyped, no_more, one_more, IfIsTyped, an_if, ElseIsTyped, without_else, an_else_if}
use Rattle.law_typing.specs.Statements.{an_else}
use Rattle.law_faultless.specs.Questions.{Asks}
use Rattle.law_faultless.specs.StatementAsking.{AskIfPresent, asks_present, SimpleAsks, InitAsks, in_init, HeaderAsks, in_while, in_first, in_test, in_post}
use Rattle.law_faultless.specs.StatementAsking.{StatementAsks, in_declaration, in_simple, in_inner, in_choice, in_header, in_loop, in_return, BlockAsks}
use Rattle.law_faultless.specs.StatementAsking.{in_block, StatementsAsk, this_statement, later_statement, IfAsks, before_condition, in_condition, in_then}
use Rattle.law_faultless.specs.StatementAsking.{in_otherwise, ElseAsks, in_else_if, in_else}
use Rattle.law_faultless.proofs.ExpressionsUsed.{AreLinked, linked_append, Tells, expr_links}
use Rattle.law_faultless.proofs.SimpleUsed.{give_links, simple_links, group_links}

-- headers

condition_links : (w : World) (U : ℕ → Type 0) (s : TokenSpellings) {before after : Locals} {e : ExprTree} → Tells w U (Asks w before e) →
    ConditionIsTyped w before e after → AreLinked w U (expr_sites s e)
condition_links w U s {before} f (a_condition h i) = expr_links w before U s f h

test_links : (w : World) (U : ℕ → Type 0) (s : TokenSpellings) {before after : Locals} {e : Option ExprTree} →
    Tells w U (AskIfPresent ExprTree (Asks w) before e) → IfPresent ExprTree (ConditionIsTyped w) before e after →
    AreLinked w U (sites_if (expr_sites s) e)
test_links w U s f absent = tt
test_links w U s f (present h) = condition_links w U s (λ n t m a. f n t m (asks_present a)) h

optional_links : (w : World) (U : ℕ → Type 0) (s : TokenSpellings) (b : Block) (q : ℕ) {before after : Locals} {x : Option SimpleTree} →
    Tells w U (AskIfPresent SimpleTree (SimpleAsks w) before x) → IfPresent SimpleTree (SimpleIsTyped w) before x after →
    AreLinked w U (sites_if (simple_sites s b q) x)
optional_links w U s b q f absent = tt
optional_links w U s b q f (present h) = simple_links w U s b q (λ n t m a. f n t m (asks_present a)) h

init_links : (w : World) (U : ℕ → Type 0) (s : TokenSpellings) (b : Block) {before after : Locals} {x : Option InitTree} →
    Tells w U (AskIfPresent InitTree (InitAsks w) before x) → IfPresent InitTree (InitIsTyped w) before x after →
    AreLinked w U (sites_if (init_sites s b) x)
unfolding init_sites
init_links w U s b f absent = tt
init_links w U s b f (present (an_init {i} h)) = optional_links w U s b i.semicolon (λ n t m a. f n t m (asks_present (in_init a))) h

header_links : (w : World) (U : ℕ → Type 0) (s : TokenSpellings) (b : Block) (open_brace : ℕ) {before after : Locals} {h : ForTree} →
    Tells w U (HeaderAsks w before h) → HeaderIsTyped w before h after → AreLinked w U (for_sites s b open_brace h)
unfolding for_sites
header_links w U s b o f endless = tt
header_links w U s b o f (a_while c) = condition_links w U s (λ n t m a. f n t m (in_while a)) c
header_links w U s b o f (with_clauses {init} {post} {condition} {p} i c r) =
    linked_append w U (sites_if (simple_sites s b p) init) (sites_if (expr_sites s) condition ++ sites_if (simple_sites s b o) post)
    (optional_links w U s b p (λ n t m a. f n t m (in_first a)) i)
    (linked_append w U (sites_if (expr_sites s) condition) (sites_if (simple_sites s b o) post)
    (test_links w U s (λ n t m a. f n t m (in_test i a)) c) (optional_links w U s b o (λ n t m a. f n t m (in_post i c a)) r))

mutual
  unfolding statement_sites

  pub statement_links : (w : World) (results : List PlainType) (U : ℕ → Type 0) (s : TokenSpellings) (b : Block) (q : ℕ) {before after : Locals}
      {x : StatementTree} → Tells w U (StatementAsks w results before x) → StatementIsTyped w results before x after →
      AreLinked w U (statement_sites s b q x)
  statement_links w results U s b q f nothing = tt
  statement_links w results U s b q f (a_declaration h) = group_links w U s b q (λ n t m a. f n t m (in_declaration a)) h
  statement_links w results U s b q f (a_simple h) = simple_links w U s b q (λ n t m a. f n t m (in_simple a)) h
  statement_links w results U s b q f (an_inner_block h) = block_links w results U s (λ n t m a. f n t m (in_inner a)) h
  statement_links w results U s b q f (a_choice h) = if_links w results U s q (λ n t m a. f n t m (in_choice a)) h
  statement_links w results U s b q f (a_loop {p} {h} {b = x} i k) =
      linked_append w U (for_sites s (blocks.Inner s.rank p q) (open_of x) h) (block_sites s x)
      (header_links w U s (blocks.Inner s.rank p q) (open_of x) (λ n t m a. f n t m (in_header a)) i)
      (block_links w results U s (λ n t m a. f n t m (in_loop i a)) k)
  statement_links w results U s b q f a_break = tt
  statement_links w results U s b q f a_continue = tt
  statement_links w results U s b q {before} f (a_return g taken) = give_links w before U s (λ n t m a. f n t m (in_return a)) g

  pub block_links : (w : World) (results : List PlainType) (U : ℕ → Type 0) (s : TokenSpellings) {before after : Locals} {x : BlockTree} →
      Tells w U (BlockAsks w results before x) → BlockIsTyped w results before x after → AreLinked w U (block_sites s x)
  block_links w results U s f (a_block {o} {c} h) = statements_links w results U s (blocks.Inner s.rank o c) c (λ n t m a. f n t m (in_block a)) h

  statements_links : (w : World) (results : List PlainType) (U : ℕ → Type 0) (s : TokenSpellings) (b : Block) (close : ℕ) {before after : Locals}
      {x : StatementTrees} → Tells w U (StatementsAsk w results before x) → StatementsAreTyped w results before x after →
      AreLinked w U (statements_sites s b close x)
  statements_links w results U s b close f no_more = tt
  statements_links w results U s b close f (one_more {s = x} {p} {rest} h more) =
      linked_append w U (statement_sites s b (unwrap_or p close) x) (statements_sites s b close rest)
      (statement_links w results U s b (unwrap_or p close) (λ n t m a. f n t m (this_statement a)) h)
      (statements_links w results U s b close (λ n t m a. f n t m (later_statement h a)) more)

  if_links : (w : World) (results : List PlainType) (U : ℕ → Type 0) (s : TokenSpellings) (q : ℕ) {before after : Locals} {x : IfTree} →
      Tells w U (IfAsks w results before x) → IfIsTyped w results before x after → AreLinked w U (if_sites s q x)
  if_links w results U s q f (an_if {p} {init} {e} {b} {otherwise} i c h more) =
      linked_append w U (sites_if (init_sites s (blocks.Inner s.rank p q)) init) (expr_sites s e ++ (block_sites s b ++ else_sites s q otherwise))
      (init_links w U s (blocks.Inner s.rank p q) (λ n t m a. f n t m (before_condition a)) i)
      (linked_append w U (expr_sites s e) (block_sites s b ++ else_sites s q otherwise)
      (condition_links w U s (λ n t m a. f n t m (in_condition i a)) c)
      (linked_append w U (block_sites s b) (else_sites s q otherwise) (block_links w results U s (λ n t m a. f n t m (in_then i c a)) h)
      (else_links w results U s q (λ n t m a. f n t m (in_otherwise i c h a)) more)))

  else_links : (w : World) (results : List PlainType) (U : ℕ → Type 0) (s : TokenSpellings) (q : ℕ) {before after : Locals} {x : ElseTree} →
      Tells w U (ElseAsks w results before x) → ElseIsTyped w results before x after → AreLinked w U (else_sites s q x)
  else_links w results U s q f without_else = tt
  else_links w results U s q f (an_else_if h) = if_links w results U s q (λ n t m a. f n t m (in_else_if a)) h
  else_links w results U s q f (an_else h) = block_links w results U s (λ n t m a. f n t m (in_else a)) h
