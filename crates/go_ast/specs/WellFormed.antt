-- Well-formed syntax trees: operators are grouped by precedence, and each part is as the grammar has it.
use Rattle.std.specs.Prelude.{ℕ, ◌≡◌, ◌≢◌, ◌<◌, ◌⊎◌, Bool, true, false, List, [], ◌∷◌, Option, Some, None, IsSome}
use Rattle.std.specs.List.{All}
use Rattle.go_ast.specs.declared.syntax.Token.{Token}
use Rattle.go_ast.specs.declared.syntax.BinaryOp.{BinaryOp}
use Rattle.go_ast.specs.declared.syntax.BinaryOp.TheVariants as binary
use Rattle.go_ast.specs.Tree.{Item, Group, single, several, TypeTree, Pointer, Slice, ExprTree, Number, Text, Name, Blank, Composite, Paren, Prefix}
use Rattle.go_ast.specs.Tree.{Address, Chain, Binary, OperandTrees, no_operand, operand, LinkTrees, no_link, selector, index, call, ArgumentTrees}
use Rattle.go_ast.specs.Tree.{no_argument, argument, LiteralTree, literal, ElementTrees, no_element, element, SimpleTree, Alone, Step, Update, Assign}
use Rattle.go_ast.specs.Tree.{Define, LocalTree, InitTree, ForTree, forever, while, clauses, StatementTree, Empty, Var, Simple, Inner, If, For, Break}
use Rattle.go_ast.specs.Tree.{Continue, Return, BlockTree, block, StatementTrees, no_statement, statement, IfTree, if_tree, ElseTree, no_else, else_if}
use Rattle.go_ast.specs.Tree.{else_block, GlobalTree, FieldTree, MethodTree, BodyTree, Other, Struct, Interface, TypeSpecTree, ParamTree, ResultTree}
use Rattle.go_ast.specs.Tree.{no_result, one_result, results, FuncTree, ImportsTree, DeclTree, VarDecl, TypeDecl, FuncDecl, FileTree}
use Rattle.go_ast.specs.Flatten.{flatten}

-- lists

abbrev pub IsNonEmpty : {X : Type 0} → List X → Type 0
IsNonEmpty [] = ⊥
IsNonEmpty (x ∷ xs) = Unit {0}

-- only the last item may lack its separator
abbrev pub IsSeparated : {X : Type 0} → List (Item X) → Type 0
IsSeparated [] = Unit {0}
IsSeparated (x ∷ xs) = (x.separator ≡ None → xs ≡ []) × IsSeparated xs

-- each item but the last has a separator, and the last has none
abbrev pub IsJoined : {X : Type 0} → List (Item X) → Type 0
IsJoined [] = Unit {0}
IsJoined (x ∷ []) = x.separator ≡ None
IsJoined (x ∷ (y ∷ ys)) = IsSome x.separator × IsJoined (y ∷ ys)

-- the list has at least one item, separators between its items, and each item satisfies P
pub record IsList {X : Type 0} (P : X → Type 0) (xs : List (Item X)) : Type 0 where
  pub some : IsNonEmpty xs
  pub joined : IsJoined xs
  pub each : All (λ x. P x.value) xs

-- the list has any number of items, of which only the last may lack its separator, and each item satisfies P
pub record IsOpenList {X : Type 0} (P : X → Type 0) (xs : List (Item X)) : Type 0 where
  pub separated : IsSeparated xs
  pub each : All (λ x. P x.value) xs

-- each item of the group satisfies P, and only the last may lack its separator
abbrev pub IsGroup : {X : Type 0} → (X → Type 0) → Group X → Type 0
IsGroup P (single x) = P x
IsGroup P (several o xs c) = IsOpenList P xs

-- an optional value, where present, satisfies P
abbrev pub IsNoneOr : {X : Type 0} → (X → Type 0) → Option X → Type 0
IsNoneOr P None = Unit {0}
IsNoneOr P (Some x) = P x

-- every value
abbrev pub Any : {X : Type 0} → X → Type 0
Any x = Unit {0}

-- expressions

-- the precedence of a binary operator, from 1 to 5 (Go specification, "Operator precedence")
abbrev pub strength : BinaryOp → ℕ
strength binary.Multiply = 5
strength binary.Divide = 5
strength binary.Remainder = 5
strength binary.Add = 4
strength binary.Subtract = 4
strength binary.Equal = 3
strength binary.NotEqual = 3
strength binary.Less = 3
strength binary.LessEqual = 3
strength binary.Greater = 3
strength binary.GreaterEqual = 3
strength binary.And = 2
strength binary.Or = 1

-- the precedence of a tree: of its operators for a binary expression, 6 for any other tree
abbrev pub strength_of : ExprTree → ℕ
strength_of (Binary e no_operand) = 0
strength_of (Binary e (operand op p f os)) = strength op
strength_of _ = 6

-- the tree may be the first operand of a chain: it is no prefix operation, address, chain or binary expression
abbrev pub is_operand : ExprTree → Bool
is_operand (Prefix op p e) = false
is_operand (Address p l) = false
is_operand (Chain e ls) = false
is_operand (Binary e os) = false
is_operand _ = true

-- the tree is a binary expression
abbrev pub is_binary_tree : ExprTree → Bool
is_binary_tree (Binary e os) = true
is_binary_tree _ = false

-- the type may be that of a composite literal: it is no pointer type
abbrev pub IsLiteralType : TypeTree → Type 0
IsLiteralType (Pointer s t) = ⊥
IsLiteralType _ = Unit {0}

unfoldable mutual
  -- The expression is well formed: a chain contains all links of its operand, and a binary expression all operators of one precedence.
  pub IsExpr : ExprTree → Type 0
  IsExpr (Number n) = Unit {0}
  IsExpr (Text n) = Unit {0}
  IsExpr (Name n) = Unit {0}
  IsExpr (Blank n) = Unit {0}
  IsExpr (Composite l) = IsLiteral l
  IsExpr (Paren o e c) = IsExpr e
  IsExpr (Prefix op p e) = (is_binary_tree e ≡ false) × IsExpr e
  IsExpr (Address p l) = IsLiteral l
  IsExpr (Chain e ls) = (is_operand e ≡ true) × (ls ≢ no_link) × IsExpr e × AreLinks ls
  IsExpr (Binary e no_operand) = ⊥
  IsExpr (Binary e (operand op p f os)) = (strength op < strength_of e) × IsExpr e × AreOperands (strength op) (operand op p f os)

  -- the operators have precedence k, and their operands bind more strongly
  pub AreOperands : ℕ → OperandTrees → Type 0
  AreOperands k no_operand = Unit {0}
  AreOperands k (operand op p e os) = (strength op ≡ k) × (k < strength_of e) × IsExpr e × AreOperands k os

  pub AreLinks : LinkTrees → Type 0
  AreLinks no_link = Unit {0}
  AreLinks (selector d n ls) = AreLinks ls
  AreLinks (index o e c ls) = IsExpr e × AreLinks ls
  AreLinks (call o xs c ls) = AreArguments xs × AreLinks ls

  -- each argument is well formed, and only the last may lack its comma
  pub AreArguments : ArgumentTrees → Type 0
  AreArguments no_argument = Unit {0}
  AreArguments (argument e comma rest) = (comma ≡ None → rest ≡ no_argument) × IsExpr e × AreArguments rest

  pub IsLiteral : LiteralTree → Type 0
  IsLiteral (literal t o es c) = IsLiteralType t × AreElements es

  pub AreElements : ElementTrees → Type 0
  AreElements no_element = Unit {0}
  AreElements (element key e comma rest) = (comma ≡ None → rest ≡ no_element) × IsExpr e × AreElements rest

-- the composite literal begins with `[]`, not with a name
abbrev pub IsUnnamed : LiteralTree → Type 0
IsUnnamed (literal (Slice o c t) b es d) = Unit {0}
IsUnnamed (literal _ b es d) = ⊥

unfoldable mutual
  -- no composite literal in the expression begins with a name, outside brackets
  pub HasNoNamedLiteral : ExprTree → Type 0
  HasNoNamedLiteral (Composite l) = IsUnnamed l
  HasNoNamedLiteral (Prefix op p e) = HasNoNamedLiteral e
  HasNoNamedLiteral (Address p l) = IsUnnamed l
  HasNoNamedLiteral (Chain e ls) = HasNoNamedLiteral e
  HasNoNamedLiteral (Binary e os) = HasNoNamedLiteral e × HaveNoNamedLiteral os
  HasNoNamedLiteral _ = Unit {0}

  pub HaveNoNamedLiteral : OperandTrees → Type 0
  HaveNoNamedLiteral no_operand = Unit {0}
  HaveNoNamedLiteral (operand op p e os) = HasNoNamedLiteral e × HaveNoNamedLiteral os

-- the expression is well formed; in the header of an `if` or a `for` (h) no literal in it begins with a name, outside brackets
pub record IsExprIn (h : Bool) (e : ExprTree) : Type 0 where
  pub grouped : IsExpr e
  pub unnamed : h ≡ true → HasNoNamedLiteral e

-- statements

abbrev pub IsSimple : Bool → SimpleTree → Type 0
IsSimple h (Alone e) = IsExprIn h e
IsSimple h (Step e op p) = IsExprIn h e
IsSimple h (Update e op p f) = IsExprIn h e × IsExprIn h f
IsSimple h (Assign es p fs) = IsList (IsExprIn h) es × IsList (IsExprIn h) fs
IsSimple h (Define es p fs) = IsList (IsExprIn h) es × IsList (IsExprIn h) fs

-- the statement may be the last clause of a `for`: it is no `:=`
abbrev pub IsPost : SimpleTree → Type 0
IsPost (Define es p fs) = ⊥
IsPost s = IsSimple true s

abbrev pub IsInit : InitTree → Type 0
IsInit i = IsNoneOr (IsSimple true) i.simple

abbrev pub IsFor : ForTree → Type 0
IsFor forever = Unit {0}
IsFor (while e) = IsExprIn true e
IsFor (clauses init s condition t post) = IsNoneOr (IsSimple true) init × IsNoneOr (IsExprIn true) condition × IsNoneOr IsPost post

-- the declaration of local variables has a type, values, or both
pub record IsLocal (l : LocalTree) : Type 0 where
  pub names : IsList Any l.names
  pub told : l.type_use ≡ None → l.values ≢ None
  pub values : IsNoneOr (λ v. IsList (IsExprIn false) v.1) l.values

unfoldable mutual
  pub IsStatement : StatementTree → Type 0
  IsStatement Empty = Unit {0}
  IsStatement (Var p g) = IsGroup IsLocal g
  IsStatement (Simple s) = IsSimple false s
  IsStatement (Inner b) = IsBlock b
  IsStatement (If i) = IsIf i
  IsStatement (For p f b) = IsFor f × IsBlock b
  IsStatement (Break p) = Unit {0}
  IsStatement (Continue p) = Unit {0}
  IsStatement (Return p es) = (es ≡ []) ⊎ IsList (IsExprIn false) es

  pub IsBlock : BlockTree → Type 0
  IsBlock (block o ss c) = (ss ≢ no_statement) × AreStatements ss

  -- each statement but the last has a semicolon, and the last has none
  pub AreStatements : StatementTrees → Type 0
  AreStatements no_statement = Unit {0}
  AreStatements (statement s None rest) = IsStatement s × (rest ≡ no_statement)
  AreStatements (statement s (Some p) rest) = IsStatement s × (rest ≢ no_statement) × AreStatements rest

  pub IsIf : IfTree → Type 0
  IsIf (if_tree p init e b rest) = IsNoneOr IsInit init × IsExprIn true e × IsBlock b × IsElse rest

  pub IsElse : ElseTree → Type 0
  IsElse no_else = Unit {0}
  IsElse (else_if p i) = IsIf i
  IsElse (else_block p b) = IsBlock b

-- declarations

pub record IsGlobal (g : GlobalTree) : Type 0 where
  pub names : IsList Any g.names
  pub values : IsNoneOr (λ v. IsList Any v.1) g.values

abbrev pub IsField : FieldTree → Type 0
IsField f = IsList Any f.names

abbrev pub IsParam : ParamTree → Type 0
IsParam p = IsList Any p.names

abbrev pub IsResult : ResultTree → Type 0
IsResult no_result = Unit {0}
IsResult (one_result t) = Unit {0}
IsResult (results o ts c) = IsOpenList Any ts

pub record IsMethodSpec (m : MethodTree) : Type 0 where
  pub params : IsOpenList IsParam m.params
  pub result : IsResult m.result

abbrev pub IsBody : BodyTree → Type 0
IsBody (Other t) = Unit {0}
IsBody (Struct s o fs c) = IsOpenList IsField fs
IsBody (Interface i o ms c) = IsOpenList IsMethodSpec ms

abbrev pub IsTypeSpec : TypeSpecTree → Type 0
IsTypeSpec t = IsBody t.body

pub record IsFunc (f : FuncTree) : Type 0 where
  pub params : IsOpenList IsParam f.params
  pub result : IsResult f.result
  pub body : IsBlock f.body

abbrev pub IsImports : ImportsTree → Type 0
IsImports i = IsGroup Any i.imports

abbrev pub IsDecl : DeclTree → Type 0
IsDecl (VarDecl k g s) = IsGroup IsGlobal g
IsDecl (TypeDecl k g s) = IsGroup IsTypeSpec g
IsDecl (FuncDecl k f s) = IsFunc f

pub record IsFile (f : FileTree) : Type 0 where
  pub imports : All IsImports f.imports
  pub decls : All IsDecl f.decls

-- f is the syntax tree of the tokens: these are its tokens in order, and it is well formed
pub record IsTreeOf (f : FileTree) (tokens : List Token) : Type 0 where
  pub written : flatten f ≡ tokens
  pub well_formed : IsFile f
