-- Syntax trees, with the index of each token among the file's tokens.
use Rattle.std.specs.Prelude.{ℕ, List, Option}
use Rattle.go_ast.specs.declared.syntax.BinaryOp.{BinaryOp}
use Rattle.go_ast.specs.declared.syntax.PrefixOp.{PrefixOp}
use Rattle.go_ast.specs.declared.syntax.StepOp.{StepOp}
use Rattle.go_ast.specs.declared.syntax.UpdateOp.{UpdateOp}

-- an item of a list with its separator, if it has one
pub record Item (X : Type 0) : Type 0 where
  pub value : X
  pub separator : Option ℕ

-- one item, or any number of items in parentheses
pub data Group (X : Type 0) : Type 0 where
  single : X → Group X
  several : ℕ → List (Item X) → ℕ → Group X

-- a declared identifier: a name, or `_`
pub data IdentTree : Type 0 where
  Named : ℕ → IdentTree
  Underscore : ℕ → IdentTree

-- a literal of one token: a number or a string
pub data BasicTree : Type 0 where
  Integer : ℕ → BasicTree
  String : ℕ → BasicTree

-- a type: `T`, `p.T`, `*T`, `[]T`
pub data TypeTree : Type 0 where
  Local : ℕ → TypeTree
  Imported : ℕ → ℕ → ℕ → TypeTree
  Pointer : ℕ → TypeTree → TypeTree
  Slice : ℕ → ℕ → TypeTree → TypeTree

-- Expressions. A chain is an operand with its selectors, indexes and calls. A binary expression is an operand with operators of one
-- precedence and their right operands.
mutual
  pub data ExprTree : Type 0 where
    Number : ℕ → ExprTree
    Text : ℕ → ExprTree
    Name : ℕ → ExprTree
    Blank : ℕ → ExprTree
    Composite : LiteralTree → ExprTree
    Paren : ℕ → ExprTree → ℕ → ExprTree
    Prefix : PrefixOp → ℕ → ExprTree → ExprTree
    Address : ℕ → LiteralTree → ExprTree
    Chain : ExprTree → LinkTrees → ExprTree
    Binary : ExprTree → OperandTrees → ExprTree

  pub data OperandTrees : Type 0 where
    no_operand : OperandTrees
    operand : BinaryOp → ℕ → ExprTree → OperandTrees → OperandTrees

  pub data LinkTrees : Type 0 where
    no_link : LinkTrees
    selector : ℕ → ℕ → LinkTrees → LinkTrees
    index : ℕ → ExprTree → ℕ → LinkTrees → LinkTrees
    call : ℕ → ArgumentTrees → ℕ → LinkTrees → LinkTrees

  pub data ArgumentTrees : Type 0 where
    no_argument : ArgumentTrees
    argument : ExprTree → Option ℕ → ArgumentTrees → ArgumentTrees

  -- a composite literal: its type, the opening brace, the elements, the closing brace
  pub data LiteralTree : Type 0 where
    literal : TypeTree → ℕ → ElementTrees → ℕ → LiteralTree

  -- elements: each has a key with its colon, if there is one, its value, and its comma, if there is one
  pub data ElementTrees : Type 0 where
    no_element : ElementTrees
    element : Option (ℕ × ℕ) → ExprTree → Option ℕ → ElementTrees → ElementTrees

-- a simple statement: `x`, `x++`, `x += y`, `x, y = z`, `x, y := z`
pub data SimpleTree : Type 0 where
  Alone : ExprTree → SimpleTree
  Step : ExprTree → StepOp → ℕ → SimpleTree
  Update : ExprTree → UpdateOp → ℕ → ExprTree → SimpleTree
  Assign : List (Item ExprTree) → ℕ → List (Item ExprTree) → SimpleTree
  Define : List (Item ExprTree) → ℕ → List (Item ExprTree) → SimpleTree

-- local variables `a, b T = x, y`: the names, the type, and `=` with the values
pub record LocalTree : Type 0 where
  pub names : List (Item IdentTree)
  pub type_use : Option TypeTree
  pub values : Option (ℕ × List (Item ExprTree))

-- the clause before the condition of an `if`: a simple statement, if there is one, and its semicolon
pub record InitTree : Type 0 where
  pub simple : Option SimpleTree
  pub semicolon : ℕ

-- the header of a `for`: none, a condition, or three clauses with their two semicolons
pub data ForTree : Type 0 where
  forever : ForTree
  while : ExprTree → ForTree
  clauses : Option SimpleTree → ℕ → Option ExprTree → ℕ → Option SimpleTree → ForTree

mutual
  pub data StatementTree : Type 0 where
    Empty : StatementTree
    Var : ℕ → Group LocalTree → StatementTree
    Simple : SimpleTree → StatementTree
    Inner : BlockTree → StatementTree
    If : IfTree → StatementTree
    For : ℕ → ForTree → BlockTree → StatementTree
    Break : ℕ → StatementTree
    Continue : ℕ → StatementTree
    Return : ℕ → List (Item ExprTree) → StatementTree

  -- a block: the opening brace, the statements, the closing brace; `{}` has one empty statement
  pub data BlockTree : Type 0 where
    block : ℕ → StatementTrees → ℕ → BlockTree

  pub data StatementTrees : Type 0 where
    no_statement : StatementTrees
    statement : StatementTree → Option ℕ → StatementTrees → StatementTrees

  pub data IfTree : Type 0 where
    if_tree : ℕ → Option InitTree → ExprTree → BlockTree → ElseTree → IfTree

  pub data ElseTree : Type 0 where
    no_else : ElseTree
    else_if : ℕ → IfTree → ElseTree
    else_block : ℕ → BlockTree → ElseTree

-- an import spec `name "path"`
pub record ImportTree : Type 0 where
  pub name : Option ℕ
  pub path : ℕ

-- package-level variables `a, b T = 1, 2`
pub record GlobalTree : Type 0 where
  pub names : List (Item ℕ)
  pub type_use : TypeTree
  pub values : Option (ℕ × List (Item BasicTree))

-- fields of a struct: `a, b T`
pub record FieldTree : Type 0 where
  pub names : List (Item ℕ)
  pub type_use : TypeTree

-- parameters: `a, b T`
pub record ParamTree : Type 0 where
  pub names : List (Item IdentTree)
  pub type_use : TypeTree

-- the results of a function: none, one type, or types in parentheses
pub data ResultTree : Type 0 where
  no_result : ResultTree
  one_result : TypeTree → ResultTree
  results : ℕ → List (Item TypeTree) → ℕ → ResultTree

-- a method that an interface asks for: `M(a, b T) R`
pub record MethodTree : Type 0 where
  pub name : ℕ
  pub lparen : ℕ
  pub params : List (Item ParamTree)
  pub rparen : ℕ
  pub result : ResultTree

-- the right side of a type definition: a type, or `struct` or `interface`, the opening brace, the fields or methods, the closing brace
pub data BodyTree : Type 0 where
  Other : TypeTree → BodyTree
  Struct : ℕ → ℕ → List (Item FieldTree) → ℕ → BodyTree
  Interface : ℕ → ℕ → List (Item MethodTree) → ℕ → BodyTree

-- a type definition
pub record TypeSpecTree : Type 0 where
  pub name : ℕ
  pub body : BodyTree

-- the receiver of a method: `(x *T)`
pub record ReceiverTree : Type 0 where
  pub lparen : ℕ
  pub name : IdentTree
  pub star : Option ℕ
  pub type_name : ℕ
  pub comma : Option ℕ
  pub rparen : ℕ

-- a function or a method, without the keyword `func`
pub record FuncTree : Type 0 where
  pub receiver : Option ReceiverTree
  pub name : ℕ
  pub lparen : ℕ
  pub params : List (Item ParamTree)
  pub rparen : ℕ
  pub result : ResultTree
  pub body : BlockTree

-- an import declaration: `import`, its specs, and its semicolon
pub record ImportsTree : Type 0 where
  pub keyword : ℕ
  pub imports : Group ImportTree
  pub semicolon : ℕ

-- a top-level declaration: its keyword, its specs or function, and its semicolon
pub data DeclTree : Type 0 where
  VarDecl : ℕ → Group GlobalTree → ℕ → DeclTree
  TypeDecl : ℕ → Group TypeSpecTree → ℕ → DeclTree
  FuncDecl : ℕ → FuncTree → ℕ → DeclTree

-- a file: its package clause, imports and declarations
pub record FileTree : Type 0 where
  pub keyword : ℕ
  pub name : ℕ
  pub semicolon : ℕ
  pub imports : List ImportsTree
  pub decls : List DeclTree
