-- The tokens of a syntax tree, in order.
use Rattle.std.specs.Prelude.{ℕ, List, [], ◌∷◌, ◌++◌, Option, Some, None}
use Rattle.go_ast.specs.declared.syntax.Kind.{Kind}
use Rattle.go_ast.specs.declared.syntax.Kind.TheVariants as kind
use Rattle.go_ast.specs.declared.syntax.Token.{Token}
use Rattle.go_ast.specs.declared.syntax.BinaryOp.{BinaryOp}
use Rattle.go_ast.specs.declared.syntax.BinaryOp.TheVariants as binary
use Rattle.go_ast.specs.declared.syntax.PrefixOp.{PrefixOp}
use Rattle.go_ast.specs.declared.syntax.PrefixOp.TheVariants as prefix
use Rattle.go_ast.specs.declared.syntax.StepOp.{StepOp}
use Rattle.go_ast.specs.declared.syntax.StepOp.TheVariants as step
use Rattle.go_ast.specs.declared.syntax.UpdateOp.{UpdateOp}
use Rattle.go_ast.specs.declared.syntax.UpdateOp.TheVariants as update
use Rattle.go_ast.specs.Tree.{Item, Group, single, several, IdentTree, Named, Underscore, BasicTree, Integer, String, TypeTree, Local, Imported, Pointer}
use Rattle.go_ast.specs.Tree.{Slice, ExprTree, Number, Text, Name, Blank, Composite, Paren, Prefix, Address, Chain, Binary, OperandTrees, no_operand}
use Rattle.go_ast.specs.Tree.{operand, LinkTrees, no_link, selector, index, call, ArgumentTrees, no_argument, argument, LiteralTree, literal, ElementTrees}
use Rattle.go_ast.specs.Tree.{no_element, element, SimpleTree, Alone, Step, Update, Assign, Define, LocalTree, InitTree, ForTree, forever, while, clauses}
use Rattle.go_ast.specs.Tree.{StatementTree, Empty, Var, Simple, Inner, If, For, Break, Continue, Return, BlockTree, block, StatementTrees, no_statement}
use Rattle.go_ast.specs.Tree.{statement, IfTree, if_tree, ElseTree, no_else, else_if, else_block, ImportTree, GlobalTree, FieldTree, BodyTree, Other}
use Rattle.go_ast.specs.Tree.{Struct, Interface, MethodTree, TypeSpecTree, ReceiverTree, ParamTree, ResultTree, no_result, one_result, results}
use Rattle.go_ast.specs.Tree.{FuncTree, ImportsTree, DeclTree, VarDecl, TypeDecl, FuncDecl, FileTree}

-- the token of this kind and index
abbrev pub sign : Kind → ℕ → Token
sign k p = record { kind = k; place = p }

abbrev pub binary_kind : BinaryOp → Kind
binary_kind binary.Multiply = kind.Star
binary_kind binary.Divide = kind.Slash
binary_kind binary.Remainder = kind.Percent
binary_kind binary.Add = kind.Plus
binary_kind binary.Subtract = kind.Minus
binary_kind binary.Equal = kind.Equal
binary_kind binary.NotEqual = kind.NotEqual
binary_kind binary.Less = kind.Less
binary_kind binary.LessEqual = kind.LessEqual
binary_kind binary.Greater = kind.Greater
binary_kind binary.GreaterEqual = kind.GreaterEqual
binary_kind binary.And = kind.AndAnd
binary_kind binary.Or = kind.OrOr

abbrev pub prefix_kind : PrefixOp → Kind
prefix_kind prefix.Plus = kind.Plus
prefix_kind prefix.Minus = kind.Minus
prefix_kind prefix.Not = kind.Not
prefix_kind prefix.Deref = kind.Star

abbrev pub step_kind : StepOp → Kind
step_kind step.Increment = kind.Increment
step_kind step.Decrement = kind.Decrement

abbrev pub update_kind : UpdateOp → Kind
update_kind update.Add = kind.AddAssign
update_kind update.Subtract = kind.SubAssign
update_kind update.Multiply = kind.MulAssign
update_kind update.Divide = kind.DivAssign
update_kind update.Remainder = kind.RemAssign

-- an optional token of a kind
abbrev pub sign_if : Kind → Option ℕ → List Token
sign_if k None = []
sign_if k (Some p) = sign k p ∷ []

-- the tokens of an optional tree
abbrev pub tokens_if : {X : Type 0} → (X → List Token) → Option X → List Token
tokens_if f None = []
tokens_if f (Some x) = f x

-- the tokens of several trees, in order
unfoldable pub all_tokens : {X : Type 0} → (X → List Token) → List X → List Token
all_tokens f [] = []
all_tokens f (x ∷ xs) = f x ++ all_tokens f xs

-- the tokens of an item, and its separator of kind k
abbrev pub item_tokens : {X : Type 0} → Kind → (X → List Token) → Item X → List Token
item_tokens k f i = f i.value ++ sign_if k i.separator

-- the tokens of a list whose separators are of kind k
abbrev pub list_tokens : {X : Type 0} → Kind → (X → List Token) → List (Item X) → List Token
list_tokens k f xs = all_tokens (item_tokens k f) xs

unfoldable pub group_tokens : {X : Type 0} → (X → List Token) → Group X → List Token
group_tokens f (single x) = f x
group_tokens f (several lparen xs rparen) = sign kind.LeftParen lparen ∷ (list_tokens kind.Semicolon f xs ++ (sign kind.RightParen rparen ∷ []))

abbrev pub name_tokens : ℕ → List Token
name_tokens n = sign kind.Name n ∷ []

abbrev pub ident_tokens : IdentTree → List Token
ident_tokens (Named n) = sign kind.Name n ∷ []
ident_tokens (Underscore n) = sign kind.Blank n ∷ []

abbrev pub basic_tokens : BasicTree → List Token
basic_tokens (Integer n) = sign kind.Number n ∷ []
basic_tokens (String n) = sign kind.Text n ∷ []

unfoldable pub type_tokens : TypeTree → List Token
type_tokens (Local n) = sign kind.Name n ∷ []
type_tokens (Imported p d n) = sign kind.Name p ∷ sign kind.Dot d ∷ sign kind.Name n ∷ []
type_tokens (Pointer s t) = sign kind.Star s ∷ type_tokens t
type_tokens (Slice o c t) = sign kind.LeftBracket o ∷ sign kind.RightBracket c ∷ type_tokens t

abbrev pub key_tokens : Option (ℕ × ℕ) → List Token
key_tokens None = []
key_tokens (Some k) = sign kind.Name k.0 ∷ sign kind.Colon k.1 ∷ []

unfoldable mutual
  pub expr_tokens : ExprTree → List Token
  expr_tokens (Number n) = sign kind.Number n ∷ []
  expr_tokens (Text n) = sign kind.Text n ∷ []
  expr_tokens (Name n) = sign kind.Name n ∷ []
  expr_tokens (Blank n) = sign kind.Blank n ∷ []
  expr_tokens (Composite l) = literal_tokens l
  expr_tokens (Paren o e c) = sign kind.LeftParen o ∷ (expr_tokens e ++ (sign kind.RightParen c ∷ []))
  expr_tokens (Prefix op p e) = sign (prefix_kind op) p ∷ expr_tokens e
  expr_tokens (Address p l) = sign kind.Ampersand p ∷ literal_tokens l
  expr_tokens (Chain e ls) = expr_tokens e ++ link_tokens ls
  expr_tokens (Binary e os) = expr_tokens e ++ operand_tokens os

  pub operand_tokens : OperandTrees → List Token
  operand_tokens no_operand = []
  operand_tokens (operand op p e os) = sign (binary_kind op) p ∷ (expr_tokens e ++ operand_tokens os)

  pub link_tokens : LinkTrees → List Token
  link_tokens no_link = []
  link_tokens (selector d n ls) = sign kind.Dot d ∷ sign kind.Name n ∷ link_tokens ls
  link_tokens (index o e c ls) = sign kind.LeftBracket o ∷ (expr_tokens e ++ (sign kind.RightBracket c ∷ link_tokens ls))
  link_tokens (call o xs c ls) = sign kind.LeftParen o ∷ (argument_tokens xs ++ (sign kind.RightParen c ∷ link_tokens ls))

  pub argument_tokens : ArgumentTrees → List Token
  argument_tokens no_argument = []
  argument_tokens (argument e comma rest) = expr_tokens e ++ (sign_if kind.Comma comma ++ argument_tokens rest)

  pub literal_tokens : LiteralTree → List Token
  literal_tokens (literal t o es c) = type_tokens t ++ (sign kind.LeftBrace o ∷ (element_tokens es ++ (sign kind.RightBrace c ∷ [])))

  pub element_tokens : ElementTrees → List Token
  element_tokens no_element = []
  element_tokens (element key e comma rest) = key_tokens key ++ (expr_tokens e ++ (sign_if kind.Comma comma ++ element_tokens rest))

abbrev pub exprs_tokens : List (Item ExprTree) → List Token
exprs_tokens es = list_tokens kind.Comma expr_tokens es

unfoldable pub simple_tokens : SimpleTree → List Token
simple_tokens (Alone e) = expr_tokens e
simple_tokens (Step e op p) = expr_tokens e ++ (sign (step_kind op) p ∷ [])
simple_tokens (Update e op p f) = expr_tokens e ++ (sign (update_kind op) p ∷ expr_tokens f)
simple_tokens (Assign es p fs) = exprs_tokens es ++ (sign kind.Assign p ∷ exprs_tokens fs)
simple_tokens (Define es p fs) = exprs_tokens es ++ (sign kind.Define p ∷ exprs_tokens fs)

-- the tokens of `=` and the values that follow it
abbrev pub value_tokens : {X : Type 0} → (X → List Token) → ℕ × List (Item X) → List Token
value_tokens f v = sign kind.Assign v.0 ∷ list_tokens kind.Comma f v.1

unfoldable pub local_tokens : LocalTree → List Token
local_tokens l = list_tokens kind.Comma ident_tokens l.names ++ (tokens_if type_tokens l.type_use ++ tokens_if (value_tokens expr_tokens) l.values)

unfoldable pub init_tokens : InitTree → List Token
init_tokens i = tokens_if simple_tokens i.simple ++ (sign kind.Semicolon i.semicolon ∷ [])

unfoldable pub for_tokens : ForTree → List Token
for_tokens forever = []
for_tokens (while e) = expr_tokens e
for_tokens (clauses init s condition t post) =
    tokens_if simple_tokens init ++ (sign kind.Semicolon s ∷ (tokens_if expr_tokens condition ++ (sign kind.Semicolon t ∷ tokens_if simple_tokens post)))

unfoldable mutual
  pub statement_tokens : StatementTree → List Token
  statement_tokens Empty = []
  statement_tokens (Var p g) = sign kind.Var p ∷ group_tokens local_tokens g
  statement_tokens (Simple s) = simple_tokens s
  statement_tokens (Inner b) = block_tokens b
  statement_tokens (If i) = if_tokens i
  statement_tokens (For p f b) = sign kind.For p ∷ (for_tokens f ++ block_tokens b)
  statement_tokens (Break p) = sign kind.Break p ∷ []
  statement_tokens (Continue p) = sign kind.Continue p ∷ []
  statement_tokens (Return p es) = sign kind.Return p ∷ exprs_tokens es

  pub block_tokens : BlockTree → List Token
  block_tokens (block o ss c) = sign kind.LeftBrace o ∷ (statements_tokens ss ++ (sign kind.RightBrace c ∷ []))

  pub statements_tokens : StatementTrees → List Token
  statements_tokens no_statement = []
  statements_tokens (statement s semicolon rest) = statement_tokens s ++ (sign_if kind.Semicolon semicolon ++ statements_tokens rest)

  pub if_tokens : IfTree → List Token
  if_tokens (if_tree p init e b rest) = sign kind.If p ∷ (tokens_if init_tokens init ++ (expr_tokens e ++ (block_tokens b ++ else_tokens rest)))

  pub else_tokens : ElseTree → List Token
  else_tokens no_else = []
  else_tokens (else_if p i) = sign kind.Else p ∷ if_tokens i
  else_tokens (else_block p b) = sign kind.Else p ∷ block_tokens b

unfoldable pub import_tokens : ImportTree → List Token
import_tokens i = sign_if kind.Name i.name ++ (sign kind.Text i.path ∷ [])

unfoldable pub global_tokens : GlobalTree → List Token
global_tokens g = list_tokens kind.Comma name_tokens g.names ++ (type_tokens g.type_use ++ tokens_if (value_tokens basic_tokens) g.values)

unfoldable pub field_tokens : FieldTree → List Token
field_tokens f = list_tokens kind.Comma name_tokens f.names ++ type_tokens f.type_use

unfoldable pub param_tokens : ParamTree → List Token
param_tokens p = list_tokens kind.Comma ident_tokens p.names ++ type_tokens p.type_use

unfoldable pub result_tokens : ResultTree → List Token
result_tokens no_result = []
result_tokens (one_result t) = type_tokens t
result_tokens (results o ts c) = sign kind.LeftParen o ∷ (list_tokens kind.Comma type_tokens ts ++ (sign kind.RightParen c ∷ []))

unfoldable pub method_tokens : MethodTree → List Token
method_tokens m = sign kind.Name m.name ∷ sign kind.LeftParen m.lparen ∷
    (list_tokens kind.Comma param_tokens m.params ++ (sign kind.RightParen m.rparen ∷ result_tokens m.result))

unfoldable pub body_tokens : BodyTree → List Token
body_tokens (Other t) = type_tokens t
body_tokens (Struct s o fs c) = sign kind.Struct s ∷ sign kind.LeftBrace o ∷ (list_tokens kind.Semicolon field_tokens fs ++ (sign kind.RightBrace c ∷ []))
body_tokens (Interface i o ms c) = sign kind.Interface i ∷ sign kind.LeftBrace o ∷
    (list_tokens kind.Semicolon method_tokens ms ++ (sign kind.RightBrace c ∷ []))

unfoldable pub type_spec_tokens : TypeSpecTree → List Token
type_spec_tokens t = sign kind.Name t.name ∷ body_tokens t.body

unfoldable pub receiver_tokens : ReceiverTree → List Token
receiver_tokens r = sign kind.LeftParen r.lparen ∷ (ident_tokens r.name ++ (sign_if kind.Star r.star ++
    (sign kind.Name r.type_name ∷ (sign_if kind.Comma r.comma ++ (sign kind.RightParen r.rparen ∷ [])))))

unfoldable pub func_tokens : FuncTree → List Token
func_tokens f = tokens_if receiver_tokens f.receiver ++ (sign kind.Name f.name ∷ sign kind.LeftParen f.lparen ∷
    (list_tokens kind.Comma param_tokens f.params ++ (sign kind.RightParen f.rparen ∷ (result_tokens f.result ++ block_tokens f.body))))

unfoldable pub imports_tokens : ImportsTree → List Token
imports_tokens i = sign kind.Import i.keyword ∷ (group_tokens import_tokens i.imports ++ (sign kind.Semicolon i.semicolon ∷ []))

unfoldable pub decl_tokens : DeclTree → List Token
decl_tokens (VarDecl k g s) = sign kind.Var k ∷ (group_tokens global_tokens g ++ (sign kind.Semicolon s ∷ []))
decl_tokens (TypeDecl k g s) = sign kind.TypeWord k ∷ (group_tokens type_spec_tokens g ++ (sign kind.Semicolon s ∷ []))
decl_tokens (FuncDecl k f s) = sign kind.Func k ∷ (func_tokens f ++ (sign kind.Semicolon s ∷ []))

-- the tokens of a file
unfoldable pub flatten : FileTree → List Token
flatten f = sign kind.Package f.keyword ∷ sign kind.Name f.name ∷ sign kind.Semicolon f.semicolon ∷
    (all_tokens imports_tokens f.imports ++ all_tokens decl_tokens f.decls)
