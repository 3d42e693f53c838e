-- The faults of statements that need no types: a `:=` that declares no new variable, and a `break` or `continue` outside a `for`.
use Rattle.std.specs.Prelude.{ℕ, ◌≡◌, ◌⊎◌, Bool, true, false, List, [], ◌∷◌, ◌++◌, Option, Some, None}
use Rattle.std.specs.List.{flat_map}
use Rattle.base_files.specs.declared.fault_kind.FaultKind.TheVariants as kind
use Rattle.types_declared.specs.declared.fault.Fault.{Fault}
use Rattle.types_declared.specs.Listing.{IsOfSomeItem}
use Rattle.go_ast.specs.SourceFile.{SourceFile}
use Rattle.go_ast.specs.Tree.{Item, ExprTree, Number, Text, Name, Blank, Composite, Paren, Prefix, Address, Chain, Binary, SimpleTree, Alone, Step, Update}
use Rattle.go_ast.specs.Tree.{Assign, Define, InitTree, ForTree, forever, while, clauses, StatementTree, Empty, Var, Simple, Inner, If, For, Break}
use Rattle.go_ast.specs.Tree.{Continue, Return, BlockTree, block, StatementTrees, no_statement, statement, IfTree, if_tree, ElseTree, no_else, else_if}
use Rattle.go_ast.specs.Tree.{else_block, DeclTree, VarDecl, TypeDecl, FuncDecl, FileTree}
use Rattle.go_scope.specs.Bindings.{Declares}
use Rattle.go_scope.specs.Table.{IsFoundAt}
use Rattle.types_declared.specs.Files.{RankedSource, ranked_files}
use Rattle.types_declared.specs.Laid.{Laid}

-- a `:=`, with its left operands and its token, or the token of a `break` or `continue` outside a `for`
pub data StatementMark : Type 0 where
  Defines : List (Item ExprTree) → ℕ → StatementMark
  Stray : ℕ → StatementMark

-- the marks of a simple statement
unfoldable pub simple_marks : SimpleTree → List StatementMark
simple_marks (Alone e) = []
simple_marks (Step e op p) = []
simple_marks (Update e op p f) = []
simple_marks (Assign es p fs) = []
simple_marks (Define es p fs) = Defines es p ∷ []

-- the marks of an optional simple statement
abbrev pub optional_marks : Option SimpleTree → List StatementMark
optional_marks None = []
optional_marks (Some s) = simple_marks s

-- the marks of the header of a `for`
unfoldable pub for_marks : ForTree → List StatementMark
for_marks forever = []
for_marks (while e) = []
for_marks (clauses init p condition q post) = optional_marks init ++ optional_marks post

-- the marks of the statement before an `if` condition
abbrev pub init_marks : Option InitTree → List StatementMark
init_marks None = []
init_marks (Some i) = optional_marks i.simple

-- the mark of a `break` or `continue` at a token; none in a `for`
abbrev pub stray : (in_for : Bool) → ℕ → List StatementMark
stray true p = []
stray false p = Stray p ∷ []

-- the marks of statements and blocks; in_for: whether they are in the body of a `for`
unfoldable mutual
  pub statement_marks : (in_for : Bool) → StatementTree → List StatementMark
  statement_marks in_for Empty = []
  statement_marks in_for (Var p g) = []
  statement_marks in_for (Simple s) = simple_marks s
  statement_marks in_for (Inner b) = block_marks in_for b
  statement_marks in_for (If i) = if_marks in_for i
  statement_marks in_for (For p f b) = for_marks f ++ block_marks true b
  statement_marks in_for (Break p) = stray in_for p
  statement_marks in_for (Continue p) = stray in_for p
  statement_marks in_for (Return p es) = []

  pub block_marks : (in_for : Bool) → BlockTree → List StatementMark
  block_marks in_for (block o ss c) = statements_marks in_for ss

  pub statements_marks : (in_for : Bool) → StatementTrees → List StatementMark
  statements_marks in_for no_statement = []
  statements_marks in_for (statement s p rest) = statement_marks in_for s ++ statements_marks in_for rest

  pub if_marks : (in_for : Bool) → IfTree → List StatementMark
  if_marks in_for (if_tree p init e b rest) = init_marks init ++ (block_marks in_for b ++ else_marks in_for rest)

  pub else_marks : (in_for : Bool) → ElseTree → List StatementMark
  else_marks in_for no_else = []
  else_marks in_for (else_if p i) = if_marks in_for i
  else_marks in_for (else_block p b) = block_marks in_for b

-- the marks of a top-level declaration: those of a function's body
unfoldable pub decl_marks : DeclTree → List StatementMark
decl_marks (VarDecl k g s) = []
decl_marks (TypeDecl k g s) = []
decl_marks (FuncDecl k f s) = block_marks false f.body

-- the marks of a file
abbrev pub file_marks : FileTree → List StatementMark
file_marks t = flat_map decl_marks t.decls

-- the identifier at the token declares a variable, type, function or import
pub record DeclaresAt (p : Laid) (file token : ℕ) : Type 0 where
  pub identifier : ℕ
  pub found : IsFoundAt p.layout p.size (record { file = file; index = token }) identifier
  pub declares : Declares p.layout p.names identifier

-- the left operand is a name that declares
abbrev pub DeclaresName : Laid → ℕ → ExprTree → Type 0
DeclaresName p file (Name n) = DeclaresAt p file n
DeclaresName p file (Number n) = ⊥
DeclaresName p file (Text n) = ⊥
DeclaresName p file (Blank n) = ⊥
DeclaresName p file (Composite l) = ⊥
DeclaresName p file (Paren o e c) = ⊥
DeclaresName p file (Prefix op at e) = ⊥
DeclaresName p file (Address at l) = ⊥
DeclaresName p file (Chain e ls) = ⊥
DeclaresName p file (Binary e os) = ⊥

-- some left operand is a name that declares
abbrev pub SomeDeclares : Laid → ℕ → List (Item ExprTree) → Type 0
SomeDeclares p file [] = ⊥
SomeDeclares p file (x ∷ xs) = DeclaresName p file x.value ⊎ SomeDeclares p file xs

-- the fault of a mark: a `:=` none of whose left operands declares, or a stray `break` or `continue`
abbrev pub IsFaultOfMark : Laid → ℕ → StatementMark → Fault → Type 0
IsFaultOfMark p file (Defines es at) f = (f ≡ record { file = file; token = at; kind = kind.NoNew }) × (SomeDeclares p file es → ⊥)
IsFaultOfMark p file (Stray at) f = f ≡ record { file = file; token = at; kind = kind.Loop }

-- a fault of the marks of a file
abbrev pub IsFaultOfMarks : Laid → RankedSource → Fault → Type 0
IsFaultOfMarks p r = IsOfSomeItem (IsFaultOfMark p r.0) (file_marks r.1.tree)

-- a fault of the marks of a package's files
abbrev pub IsMarkFault : List SourceFile → Laid → Fault → Type 0
IsMarkFault files p = IsOfSomeItem (IsFaultOfMarks p) (ranked_files files)
