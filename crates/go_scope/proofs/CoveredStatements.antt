-- The identifiers of statements stand at the names among their tokens.
use Rattle.std.proofs.Common.{ℕ, ◌≡◌, List, ◌∷◌, ◌++◌, false, refl}
use Rattle.std.specs.Option.{unwrap_or}
use Rattle.go_ast.specs.declared.syntax.StepOp.{StepOp}
use Rattle.go_ast.specs.declared.syntax.StepOp.TheVariants as step
use Rattle.go_ast.specs.declared.syntax.UpdateOp.{UpdateOp}
use Rattle.go_ast.specs.declared.syntax.UpdateOp.TheVariants as update
use Rattle.go_ast.specs.declared.syntax.Kind.TheVariants as kind
use Rattle.go_ast.specs.Flatten.{sign, sign_if, tokens_if, list_tokens, step_kind, update_kind, ident_tokens, type_tokens, expr_tokens, exprs_tokens}
use Rattle.go_ast.specs.Flatten.{value_tokens, simple_tokens, local_tokens, init_tokens, for_tokens, statement_tokens, block_tokens, statements_tokens}
use Rattle.go_ast.specs.Flatten.{if_tokens, else_tokens}
use Rattle.go_ast.specs.Tree.{Item, IdentTree, Named, Underscore, ExprTree, Name, Blank, SimpleTree, Alone, Step, Update, Assign, Define, LocalTree}
use Rattle.go_ast.specs.Tree.{InitTree, ForTree, forever, while, clauses, StatementTree, Empty, Var, Simple, Inner, If, For, Break, Continue, Return}
use Rattle.go_ast.specs.Tree.{BlockTree, block, StatementTrees, no_statement, statement, IfTree, if_tree, ElseTree, no_else, else_if, else_block}
use Rattle.go_scope.specs.declared.model.Block.{Block}
use Rattle.go_scope.specs.declared.model.Block.TheVariants as blocks
use Rattle.go_scope.specs.declared.model.Role.{Role}
use Rattle.go_scope.specs.declared.model.Role.TheVariants.{Declaring}
use Rattle.go_scope.specs.Site.{TokenSpellings}
use Rattle.go_scope.specs.ExpressionSites.{sites_if, list_sites, type_sites, expr_sites, exprs_sites}
use Rattle.go_scope.specs.StatementSites.{ident_sites, left_sites, assigned_sites, simple_sites, value_sites, local_sites, init_sites, for_sites, open_of}
use Rattle.go_scope.specs.StatementSites.{statement_sites, block_sites, statements_sites, if_sites, else_sites}
use Rattle.go_scope.specs.IdentifierTokens.{is_ident_token}
use Rattle.go_scope.proofs.Covers.{IsSkipped, Stands, ends, skips, takes, covers_end, covers_behind, list_covers, group_covers, option_covers}
use Rattle.go_scope.proofs.CoveredExpressions.{Named as AtNames, named_append, type_named, expr_named, exprs_named}

no_step : (op : StepOp) → IsSkipped is_ident_token (step_kind op)
no_step step.Increment = refl
no_step step.Decrement = refl

no_update : (op : UpdateOp) → IsSkipped is_ident_token (update_kind op)
no_update update.Add = refl
no_update update.Subtract = refl
no_update update.Multiply = refl
no_update update.Divide = refl
no_update update.Remainder = refl

pub ident_named : (s : TokenSpellings) (role : Role) → Stands role kind.Name → (i : IdentTree) → AtNames s (ident_sites s role i) (ident_tokens i)
ident_named s role h (Named n) = takes refl h refl ends
ident_named s role h (Underscore n) = takes refl refl refl ends

left_named : (s : TokenSpellings) (b : Block) (following : ℕ) (e : ExprTree) → AtNames s (left_sites s b following e) (expr_tokens e)
unfolding expr_tokens
left_named s b following (Name n) = takes refl refl refl ends
left_named s b following (Blank n) = takes refl refl refl ends
left_named s b following e = expr_named s e

assigned_named : (s : TokenSpellings) (e : ExprTree) → AtNames s (assigned_sites s e) (expr_tokens e)
unfolding expr_tokens
assigned_named s (Blank n) = takes refl refl refl ends
assigned_named s e = expr_named s e

simple_named : (s : TokenSpellings) (b : Block) (following : ℕ) (x : SimpleTree) → AtNames s (simple_sites s b following x) (simple_tokens x)
unfolding simple_sites simple_tokens
simple_named s b following (Alone e) = expr_named s e
simple_named s b following (Step e op p) = covers_end is_ident_token s (expr_sites s e) (expr_tokens e) (step_kind op) p (no_step op) (expr_named s e)
simple_named s b following (Update e op p f) =
    named_append s (expr_sites s e) (expr_sites s f) (expr_tokens e) (sign (update_kind op) p ∷ expr_tokens f) (expr_named s e)
    (skips (no_update op) (expr_named s f))
simple_named s b following (Assign es p fs) =
    named_append s (list_sites (assigned_sites s) es) (exprs_sites s fs) (exprs_tokens es) (sign kind.Assign p ∷ exprs_tokens fs)
    (list_covers is_ident_token s kind.Comma refl (assigned_sites s) expr_tokens (assigned_named s) es) (skips refl (exprs_named s fs))
simple_named s b following (Define es p fs) =
    named_append s (list_sites (left_sites s b following) es) (exprs_sites s fs) (exprs_tokens es) (sign kind.Define p ∷ exprs_tokens fs)
    (list_covers is_ident_token s kind.Comma refl (left_sites s b following) expr_tokens (left_named s b following) es) (skips refl (exprs_named s fs))

value_named : (s : TokenSpellings) (v : ℕ × List (Item ExprTree)) → AtNames s (value_sites s v) (value_tokens expr_tokens v)
value_named s v = skips refl (exprs_named s v.1)

local_named : (s : TokenSpellings) (b : Block) (following : ℕ) (l : LocalTree) → AtNames s (local_sites s b following l) (local_tokens l)
unfolding local_sites local_tokens
local_named s b following l =
    named_append s (list_sites (ident_sites s (Declaring b following)) l.names) (sites_if (type_sites s) l.type_use ++ sites_if (value_sites s) l.values)
    (list_tokens kind.Comma ident_tokens l.names)
    (tokens_if type_tokens l.type_use ++ tokens_if (value_tokens expr_tokens) l.values)
    (list_covers is_ident_token s kind.Comma refl (ident_sites s (Declaring b following)) ident_tokens (ident_named s (Declaring b following) refl) l.names)
    (named_append s (sites_if (type_sites s) l.type_use) (sites_if (value_sites s) l.values) (tokens_if type_tokens l.type_use)
    (tokens_if (value_tokens expr_tokens) l.values)
    (option_covers is_ident_token s (type_sites s) type_tokens (type_named s) l.type_use)
    (option_covers is_ident_token s (value_sites s) (value_tokens expr_tokens) (value_named s) l.values))

init_named : (s : TokenSpellings) (b : Block) (i : InitTree) → AtNames s (init_sites s b i) (init_tokens i)
unfolding init_sites init_tokens
init_named s b i =
    covers_end is_ident_token s (sites_if (simple_sites s b i.semicolon) i.simple) (tokens_if simple_tokens i.simple) kind.Semicolon i.semicolon refl
    (option_covers is_ident_token s (simple_sites s b i.semicolon) simple_tokens (simple_named s b i.semicolon) i.simple)

for_named : (s : TokenSpellings) (b : Block) (open_brace : ℕ) (f : ForTree) → AtNames s (for_sites s b open_brace f) (for_tokens f)
unfolding for_sites for_tokens
for_named s b open_brace forever = ends
for_named s b open_brace (while e) = expr_named s e
for_named s b open_brace (clauses init first condition second post) =
    named_append s (sites_if (simple_sites s b first) init) (sites_if (expr_sites s) condition ++ sites_if (simple_sites s b open_brace) post)
    (tokens_if simple_tokens init)
    (sign kind.Semicolon first ∷ (tokens_if expr_tokens condition ++ (sign kind.Semicolon second ∷ tokens_if simple_tokens post)))
    (option_covers is_ident_token s (simple_sites s b first) simple_tokens (simple_named s b first) init)
    (skips refl
    (named_append s (sites_if (expr_sites s) condition) (sites_if (simple_sites s b open_brace) post) (tokens_if expr_tokens condition)
    (sign kind.Semicolon second ∷ tokens_if simple_tokens post)
    (option_covers is_ident_token s (expr_sites s) expr_tokens (expr_named s) condition)
    (skips refl (option_covers is_ident_token s (simple_sites s b open_brace) simple_tokens (simple_named s b open_brace) post))))

mutual
  unfolding statement_sites block_sites statements_sites if_sites else_sites statement_tokens block_tokens statements_tokens if_tokens else_tokens

  statement_named : (s : TokenSpellings) (b : Block) (following : ℕ) (x : StatementTree) → AtNames s (statement_sites s b following x) (statement_tokens x)
  statement_named s b following Empty = ends
  statement_named s b following (Var p g) = skips refl (group_covers is_ident_token s refl refl refl (local_sites s b) local_tokens (local_named s b)
      following g)
  statement_named s b following (Simple x) = simple_named s b following x
  statement_named s b following (Inner x) = block_named s x
  statement_named s b following (If x) = if_named s following x
  statement_named s b following (For p f x) =
      skips refl
      (named_append s (for_sites s (blocks.Inner s.rank p following) (open_of x) f) (block_sites s x) (for_tokens f) (block_tokens x)
      (for_named s (blocks.Inner s.rank p following) (open_of x) f) (block_named s x))
  statement_named s b following (Break p) = skips refl ends
  statement_named s b following (Continue p) = skips refl ends
  statement_named s b following (Return p es) = skips refl (exprs_named s es)

  pub block_named : (s : TokenSpellings) (x : BlockTree) → AtNames s (block_sites s x) (block_tokens x)
  block_named s (block o ss c) =
      skips refl
      (covers_end is_ident_token s (statements_sites s (blocks.Inner s.rank o c) c ss) (statements_tokens ss) kind.RightBrace c refl
      (statements_named s (blocks.Inner s.rank o c) c ss))

  statements_named : (s : TokenSpellings) (b : Block) (close : ℕ) (ss : StatementTrees) → AtNames s (statements_sites s b close ss) (statements_tokens ss)
  statements_named s b close no_statement = ends
  statements_named s b close (statement x semicolon rest) =
      named_append s (statement_sites s b (unwrap_or semicolon close) x) (statements_sites s b close rest) (statement_tokens x)
      (sign_if kind.Semicolon semicolon ++ statements_tokens rest)
      (statement_named s b (unwrap_or semicolon close) x)
      (covers_behind is_ident_token s (statements_sites s b close rest) (statements_tokens rest) kind.Semicolon semicolon refl (statements_named s b close
      rest))

  if_named : (s : TokenSpellings) (following : ℕ) (x : IfTree) → AtNames s (if_sites s following x) (if_tokens x)
  if_named s following (if_tree p init e x rest) =
      skips refl
      (named_append s (sites_if (init_sites s (blocks.Inner s.rank p following)) init) (expr_sites s e ++ (block_sites s x ++ else_sites s following rest))
      (tokens_if init_tokens init)
      (expr_tokens e ++ (block_tokens x ++ else_tokens rest))
      (option_covers is_ident_token s (init_sites s (blocks.Inner s.rank p following)) init_tokens (init_named s (blocks.Inner s.rank p following)) init)
      (named_append s (expr_sites s e) (block_sites s x ++ else_sites s following rest) (expr_tokens e) (block_tokens x ++ else_tokens rest) (expr_named s e)
      (named_append s (block_sites s x) (else_sites s following rest) (block_tokens x) (else_tokens rest) (block_named s x) (else_named s following rest))))

  else_named : (s : TokenSpellings) (following : ℕ) (x : ElseTree) → AtNames s (else_sites s following x) (else_tokens x)
  else_named s following no_else = ends
  else_named s following (else_if p x) = skips refl (if_named s following x)
  else_named s following (else_block p x) = skips refl (block_named s x)
