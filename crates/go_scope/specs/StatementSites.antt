-- The identifiers of statements, in the order of their tokens. A statement belongs to a block, and the token `following` comes after it.
-- There begin the scopes of the variables that it declares.
use Rattle.std.specs.Prelude.{ℕ, List, [], ◌∷◌, ◌++◌}
use Rattle.std.specs.List.{flat_map}
use Rattle.std.specs.Option.{unwrap_or}
use Rattle.go_scope.specs.declared.model.Block.{Block}
use Rattle.go_scope.specs.declared.model.Block.TheVariants as blocks
use Rattle.go_scope.specs.declared.model.Role.{Role}
use Rattle.go_scope.specs.declared.model.Role.TheVariants.{Declaring, LeftName, NotLexical}
use Rattle.go_scope.specs.declared.model.Purpose.TheVariants as purpose
use Rattle.go_scope.specs.Site.{Site, TokenSpellings, site}
use Rattle.go_scope.specs.ExpressionSites.{sites_if, list_sites, type_sites, expr_sites, exprs_sites}
use Rattle.go_ast.specs.Tree.{Item, Group, single, several, IdentTree, Named, Underscore, ExprTree, Name, Blank, SimpleTree, Alone, Step, Update, Assign}
use Rattle.go_ast.specs.Tree.{Define, LocalTree, InitTree, ForTree, forever, while, clauses, StatementTree, Empty, Var, Simple, Inner, If, For, Break}
use Rattle.go_ast.specs.Tree.{Continue, Return, BlockTree, block, StatementTrees, no_statement, statement, IfTree, if_tree, ElseTree, no_else, else_if}
use Rattle.go_ast.specs.Tree.{else_block}

-- the identifier of a declared name or a `_`; the latter declares nothing
abbrev pub ident_sites : TokenSpellings → Role → IdentTree → List Site
ident_sites s role (Named n) = site s n role ∷ []
ident_sites s role (Underscore n) = site s n (NotLexical purpose.Blank) ∷ []

-- the identifiers of a left side of `:=`; a name alone is declared or assigned
abbrev pub left_sites : TokenSpellings → Block → ℕ → ExprTree → List Site
left_sites s b following (Name n) = site s n (LeftName b following) ∷ []
left_sites s b following (Blank n) = site s n (NotLexical purpose.Blank) ∷ []
left_sites s b following e = expr_sites s e

-- the identifiers of a left side of `=`; a `_` alone is no use
abbrev pub assigned_sites : TokenSpellings → ExprTree → List Site
assigned_sites s (Blank n) = site s n (NotLexical purpose.Blank) ∷ []
assigned_sites s e = expr_sites s e

unfoldable pub simple_sites : TokenSpellings → Block → ℕ → SimpleTree → List Site
simple_sites s b following (Alone e) = expr_sites s e
simple_sites s b following (Step e op p) = expr_sites s e
simple_sites s b following (Update e op p f) = expr_sites s e ++ expr_sites s f
simple_sites s b following (Assign es p fs) = list_sites (assigned_sites s) es ++ exprs_sites s fs
simple_sites s b following (Define es p fs) = list_sites (left_sites s b following) es ++ exprs_sites s fs

abbrev pub value_sites : TokenSpellings → ℕ × List (Item ExprTree) → List Site
value_sites s v = exprs_sites s v.1

unfoldable pub local_sites : TokenSpellings → Block → ℕ → LocalTree → List Site
local_sites s b following l =
    list_sites (ident_sites s (Declaring b following)) l.names ++ (sites_if (type_sites s) l.type_use ++ sites_if (value_sites s) l.values)

-- the identifiers of items, each with the token after it: its separator, or the token `close` after the list
unfoldable pub separated_sites : {X : Type 0} → (ℕ → X → List Site) → ℕ → List (Item X) → List Site
separated_sites f close xs = flat_map (λ x. f (unwrap_or x.separator close) x.value) xs

unfoldable pub group_sites : {X : Type 0} → (ℕ → X → List Site) → ℕ → Group X → List Site
group_sites f following (single x) = f following x
group_sites f following (several o xs c) = separated_sites f c xs

unfoldable pub init_sites : TokenSpellings → Block → InitTree → List Site
init_sites s b i = sites_if (simple_sites s b i.semicolon) i.simple

-- the identifiers of the header of a `for`, up to the opening brace
unfoldable pub for_sites : TokenSpellings → Block → ℕ → ForTree → List Site
for_sites s b open_brace forever = []
for_sites s b open_brace (while e) = expr_sites s e
for_sites s b open_brace (clauses init first condition second post) =
    sites_if (simple_sites s b first) init ++ (sites_if (expr_sites s) condition ++ sites_if (simple_sites s b open_brace) post)

-- the index of a block's opening brace
abbrev pub open_of : BlockTree → ℕ
open_of (block o ss c) = o

-- the index of a block's closing brace
abbrev pub close_of : BlockTree → ℕ
close_of (block o ss c) = c

unfoldable mutual
  pub statement_sites : TokenSpellings → Block → ℕ → StatementTree → List Site
  statement_sites s b following Empty = []
  statement_sites s b following (Var p g) = group_sites (local_sites s b) following g
  statement_sites s b following (Simple x) = simple_sites s b following x
  statement_sites s b following (Inner x) = block_sites s x
  statement_sites s b following (If x) = if_sites s following x
  statement_sites s b following (For p f x) = for_sites s (blocks.Inner s.rank p following) (open_of x) f ++ block_sites s x
  statement_sites s b following (Break p) = []
  statement_sites s b following (Continue p) = []
  statement_sites s b following (Return p es) = exprs_sites s es

  -- a block in braces is an inner block, from its opening to its closing brace
  pub block_sites : TokenSpellings → BlockTree → List Site
  block_sites s (block o ss c) = statements_sites s (blocks.Inner s.rank o c) c ss

  pub statements_sites : TokenSpellings → Block → ℕ → StatementTrees → List Site
  statements_sites s b close no_statement = []
  statements_sites s b close (statement x semicolon rest) =
      statement_sites s b (unwrap_or semicolon close) x ++ statements_sites s b close rest

  -- an `if` is an inner block with its header and branches, from the keyword to the token `following`
  pub if_sites : TokenSpellings → ℕ → IfTree → List Site
  if_sites s following (if_tree p init e x rest) =
      sites_if (init_sites s (blocks.Inner s.rank p following)) init ++ (expr_sites s e ++ (block_sites s x ++ else_sites s following rest))

  pub else_sites : TokenSpellings → ℕ → ElseTree → List Site
  else_sites s following no_else = []
  else_sites s following (else_if p x) = if_sites s following x
  else_sites s following (else_block p x) = block_sites s x
