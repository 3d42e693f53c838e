-- The blocks and the declarations of a file as ranges of its tokens. Each tree gives a plain list; nothing is handed from an outer tree to
-- an inner one but the number of the token after it.
use Rattle.std.specs.Prelude.{ℕ, List, [], ◌∷◌, ◌++◌, Option, Some, None}
use Rattle.std.specs.List.{flat_map}
use Rattle.std.specs.Option.{unwrap_or}
use Rattle.go_ast.specs.declared.syntax.Token.{Token}
use Rattle.go_ast.specs.Flatten.{simple_tokens, local_tokens}
use Rattle.go_ast.specs.Tree.{Item, Group, single, several, SimpleTree, Alone, Step, Update, Assign, Define, LocalTree, InitTree, ForTree, forever, while}
use Rattle.go_ast.specs.Tree.{clauses, StatementTree, Empty, Var, Simple, Inner, If, For, Break, Continue, Return, BlockTree, block, StatementTrees}
use Rattle.go_ast.specs.Tree.{no_statement, statement, IfTree, if_tree, ElseTree, no_else, else_if, else_block, MethodTree, BodyTree, Other, Struct}
use Rattle.go_ast.specs.Tree.{Interface, ReceiverTree, FuncTree, DeclTree, VarDecl, TypeDecl, FuncDecl, FileTree}
use Rattle.go_scope.specs.StatementSites.{open_of, close_of}

-- the tokens from `first` on, before `last`
pub record Range : Type 0 where
  pub first : ℕ
  pub last : ℕ

-- A block: its declarations stand from the token `first` on, before `last`, where it ends. The block itself begins at the token `from`.
-- Only that of a function has `first` before `from`: its parameters stand before its body, and are declared in it.
pub record BlockRange : Type 0 where
  pub first : ℕ
  pub from : ℕ
  pub last : ℕ

-- an `if` or a `for` with all that belongs to it is a block, from its keyword to the token after it
abbrev pub keyword_block : ℕ → ℕ → BlockRange
keyword_block keyword following = record { first = keyword; from = keyword; last = following }

-- a pair of braces with the statements in them is a block
abbrev pub brace_block : ℕ → ℕ → BlockRange
brace_block brace close = record { first = brace; from = brace; last = close }

-- the blocks of statements; the token `following` comes after the statement, and `close` after all of them
unfoldable mutual
  pub statement_blocks : ℕ → StatementTree → List BlockRange
  statement_blocks following Empty = []
  statement_blocks following (Var p g) = []
  statement_blocks following (Simple x) = []
  statement_blocks following (Inner x) = braced_blocks x
  statement_blocks following (If x) = if_blocks following x
  statement_blocks following (For p f x) = keyword_block p following ∷ braced_blocks x
  statement_blocks following (Break p) = []
  statement_blocks following (Continue p) = []
  statement_blocks following (Return p es) = []

  pub braced_blocks : BlockTree → List BlockRange
  braced_blocks (block o ss c) = brace_block o c ∷ statements_blocks c ss

  pub statements_blocks : ℕ → StatementTrees → List BlockRange
  statements_blocks close no_statement = []
  statements_blocks close (statement x semicolon rest) = statement_blocks (unwrap_or semicolon close) x ++ statements_blocks close rest

  pub if_blocks : ℕ → IfTree → List BlockRange
  if_blocks following (if_tree p init e x rest) = keyword_block p following ∷ (braced_blocks x ++ else_blocks following rest)

  pub else_blocks : ℕ → ElseTree → List BlockRange
  else_blocks following no_else = []
  else_blocks following (else_if p x) = if_blocks following x
  else_blocks following (else_block p x) = braced_blocks x

-- the blocks in a function's body
abbrev pub body_blocks : BlockTree → List BlockRange
body_blocks (block o ss c) = statements_blocks c ss

-- the first token of a function's receiver, or of its parameters
abbrev pub signature_start : Option ReceiverTree → ℕ → ℕ
signature_start None lparen = lparen
signature_start (Some r) lparen = r.lparen

-- a function's block holds its receiver, its parameters and its body
abbrev pub func_range : FuncTree → BlockRange
func_range f = record { first = signature_start f.receiver f.lparen; from = open_of f.body; last = close_of f.body }

-- the block of the parameters of a method that an interface asks for, from one parenthesis to the other
abbrev pub method_range : MethodTree → BlockRange
method_range m = record { first = m.lparen; from = m.lparen; last = m.rparen }

-- the blocks of a type definition: those of the methods of an interface
abbrev pub type_blocks : BodyTree → List BlockRange
type_blocks (Other t) = []
type_blocks (Struct p o fs c) = []
type_blocks (Interface p o ms c) = flat_map (λ i. method_range i.value ∷ []) ms

-- what `f` gives for each spec of a declaration, with or without parentheses
abbrev pub by_specs : {X Y : Type 0} → (X → List Y) → Group X → List Y
by_specs f (single x) = f x
by_specs f (several o xs c) = flat_map (λ i. f i.value) xs

-- the blocks of a top-level declaration
abbrev pub decl_blocks : DeclTree → List BlockRange
decl_blocks (VarDecl k g semicolon) = []
decl_blocks (TypeDecl k g semicolon) = by_specs (λ t. type_blocks t.body) g
decl_blocks (FuncDecl k f semicolon) = func_range f ∷ body_blocks f.body

-- the blocks of a file, but for those of the file, the package and the universe
abbrev pub file_blocks : FileTree → List BlockRange
file_blocks f = flat_map decl_blocks f.decls

-- the range of tokens from their first to the one that follows them
abbrev pub range_to : ℕ → List Token → List Range
range_to following [] = []
range_to following (t ∷ ts) = record { first = t.place; last = following } ∷ []

-- a `:=` declares, and no other simple statement does
abbrev pub simple_specs : ℕ → SimpleTree → List Range
simple_specs following (Alone e) = []
simple_specs following (Step e op p) = []
simple_specs following (Update e op p f) = []
simple_specs following (Assign es p fs) = []
simple_specs following (Define es p fs) = range_to following (simple_tokens (Define es p fs))

abbrev pub optional_specs : ℕ → Option SimpleTree → List Range
optional_specs following None = []
optional_specs following (Some x) = simple_specs following x

abbrev pub init_specs : Option InitTree → List Range
init_specs None = []
init_specs (Some i) = optional_specs i.semicolon i.simple

-- the specs of local variables, each to the token after it: its semicolon, or `close` after the last one
abbrev pub item_specs : ℕ → List (Item LocalTree) → List Range
item_specs close xs = flat_map (λ x. range_to (unwrap_or x.separator close) (local_tokens x.value)) xs

abbrev pub group_specs : ℕ → Group LocalTree → List Range
group_specs following (single x) = range_to following (local_tokens x)
group_specs following (several o xs c) = item_specs c xs

-- the header of a `for` whose body begins at the token `brace`
abbrev pub for_specs : ℕ → ForTree → List Range
for_specs brace forever = []
for_specs brace (while e) = []
for_specs brace (clauses init first condition second post) = optional_specs first init ++ optional_specs brace post

-- The statements and specs that declare local variables, each with the token after it. There begins the scope of what it declares.
unfoldable mutual
  pub statement_specs : ℕ → StatementTree → List Range
  statement_specs following Empty = []
  statement_specs following (Var p g) = group_specs following g
  statement_specs following (Simple x) = simple_specs following x
  statement_specs following (Inner x) = braced_specs x
  statement_specs following (If x) = if_specs following x
  statement_specs following (For p f x) = for_specs (open_of x) f ++ braced_specs x
  statement_specs following (Break p) = []
  statement_specs following (Continue p) = []
  statement_specs following (Return p es) = []

  pub braced_specs : BlockTree → List Range
  braced_specs (block o ss c) = statements_specs c ss

  pub statements_specs : ℕ → StatementTrees → List Range
  statements_specs close no_statement = []
  statements_specs close (statement x semicolon rest) = statement_specs (unwrap_or semicolon close) x ++ statements_specs close rest

  pub if_specs : ℕ → IfTree → List Range
  if_specs following (if_tree p init e x rest) = init_specs init ++ (braced_specs x ++ else_specs following rest)

  pub else_specs : ℕ → ElseTree → List Range
  else_specs following no_else = []
  else_specs following (else_if p x) = if_specs following x
  else_specs following (else_block p x) = braced_specs x

-- a function's receiver and parameters, up to its body, where their scopes begin
abbrev pub signature_range : FuncTree → Range
signature_range f = record { first = signature_start f.receiver f.lparen; last = open_of f.body }

-- The parameters of a method that an interface asks for, up to the closing parenthesis. Their scopes begin and end there, and so are empty.
abbrev pub parameters_range : MethodTree → Range
parameters_range m = record { first = m.lparen; last = m.rparen }

abbrev pub type_specs : BodyTree → List Range
type_specs (Other t) = []
type_specs (Struct p o fs c) = []
type_specs (Interface p o ms c) = flat_map (λ i. parameters_range i.value ∷ []) ms

abbrev pub decl_specs : DeclTree → List Range
decl_specs (VarDecl k g semicolon) = []
decl_specs (TypeDecl k g semicolon) = by_specs (λ t. type_specs t.body) g
decl_specs (FuncDecl k f semicolon) = signature_range f ∷ braced_specs f.body

-- what declares in a function or in a method of an interface, over a whole file
abbrev pub file_specs : FileTree → List Range
file_specs f = flat_map decl_specs f.decls

-- the import declarations of a file, from `import` to the semicolon
abbrev pub import_ranges : FileTree → List Range
import_ranges f = flat_map (λ i. record { first = i.keyword; last = i.semicolon } ∷ []) f.imports
