-- The tokens of the program's trees: those of the specification trees that they stand for.
use Rattle.std.specs.Prelude.{ℕ, List, ◌∷◌, ◌++◌}
use Rattle.go_ast.specs.declared.syntax.Kind.TheVariants as kind
use Rattle.go_ast.specs.declared.syntax.Token.{Token}
use Rattle.go_ast.specs.declared.tree.Item.{Item}
use Rattle.go_ast.specs.declared.tree.Ident.{Ident}
use Rattle.go_ast.specs.declared.tree.TypeExpr.{TypeExpr}
use Rattle.go_ast.specs.declared.tree.Expr.{Expr}
use Rattle.go_ast.specs.declared.tree.ExprItem.{ExprItem}
use Rattle.go_ast.specs.declared.tree.Link.{Link}
use Rattle.go_ast.specs.declared.tree.Element.{Element}
use Rattle.go_ast.specs.declared.tree.Operand.{Operand}
use Rattle.go_ast.specs.declared.tree.CompositeLit.{CompositeLit}
use Rattle.go_ast.specs.declared.tree.LocalSpec.{LocalSpec}
use Rattle.go_ast.specs.declared.tree.SimpleStmt.{SimpleStmt}
use Rattle.go_ast.specs.declared.tree.IfInit.{IfInit}
use Rattle.go_ast.specs.declared.tree.ForHeader.{ForHeader}
use Rattle.go_ast.specs.declared.tree.Stmt.{Stmt}
use Rattle.go_ast.specs.declared.tree.BlockStmt.{BlockStmt}
use Rattle.go_ast.specs.declared.tree.IfStmt.{IfStmt}
use Rattle.go_ast.specs.declared.tree.Else.{Else}
use Rattle.go_ast.specs.declared.tree.ImportSpec.{ImportSpec}
use Rattle.go_ast.specs.declared.tree.BasicLit.{BasicLit}
use Rattle.go_ast.specs.declared.tree.VarSpec.{VarSpec}
use Rattle.go_ast.specs.declared.tree.FieldDecl.{FieldDecl}
use Rattle.go_ast.specs.declared.tree.MethodSpec.{MethodSpec}
use Rattle.go_ast.specs.declared.tree.TypeBody.{TypeBody}
use Rattle.go_ast.specs.declared.tree.TypeSpec.{TypeSpec}
use Rattle.go_ast.specs.declared.tree.Receiver.{Receiver}
use Rattle.go_ast.specs.declared.tree.Param.{Param}
use Rattle.go_ast.specs.declared.tree.Results.{Results}
use Rattle.go_ast.specs.declared.tree.FuncDecl.{FuncDecl}
use Rattle.go_ast.specs.declared.tree.ImportDecl.{ImportDecl}
use Rattle.go_ast.specs.declared.tree.Decl.{Decl}
use Rattle.go_ast.specs.declared.tree.File.{File}
use Rattle.go_ast.specs.Tree as tree
use Rattle.go_ast.specs.Flatten as flat
use Rattle.go_ast.specs.Flatten.{binary_kind, sign, sign_if}
use Rattle.go_ast.specs.View.{list_view, ident_view, type_view, key_view, expr_view, literal_view, link_view, exprs_view}
use Rattle.go_ast.specs.FileView.{same_index, local_view, simple_view, init_view, for_view, stmt_view, block_view, if_view, else_view, import_view}
use Rattle.go_ast.specs.FileView.{basic_view, global_view, field_view, body_view, type_spec_view, receiver_view, param_view, results_view, func_view}
use Rattle.go_ast.specs.FileView.{imports_view, decl_view, file_view, method_view}

abbrev pub type_spelled : TypeExpr → List Token
type_spelled t = flat.type_tokens (type_view t)

abbrev pub expr_spelled : Expr → List Token
expr_spelled e = flat.expr_tokens (expr_view e)

abbrev pub literal_spelled : CompositeLit → List Token
literal_spelled l = flat.literal_tokens (literal_view l)

abbrev pub link_spelled : Link → List Token
link_spelled l = flat.link_tokens (link_view l tree.no_link)

abbrev pub operand_spelled : Operand → List Token
operand_spelled o = sign (binary_kind o.op) o.at ∷ expr_spelled o.value

abbrev pub expr_item_spelled : ExprItem → List Token
expr_item_spelled i = expr_spelled i.value ++ sign_if kind.Comma i.comma

abbrev pub element_spelled : Element → List Token
element_spelled e = flat.key_tokens (key_view e.key) ++ (expr_spelled e.value ++ sign_if kind.Comma e.comma)

-- the tokens of expressions, separated by commas
abbrev pub exprs_spelled : List ExprItem → List Token
exprs_spelled xs = flat.exprs_tokens (exprs_view xs)

-- the tokens of names, separated by commas
abbrev pub names_spelled : List (Item ℕ) → List Token
names_spelled xs = flat.list_tokens kind.Comma flat.name_tokens (list_view same_index xs)

abbrev pub ident_spelled : Ident → List Token
ident_spelled i = flat.ident_tokens (ident_view i)

-- the tokens of identifiers, separated by commas
abbrev pub idents_spelled : List (Item Ident) → List Token
idents_spelled xs = flat.list_tokens kind.Comma flat.ident_tokens (list_view ident_view xs)

abbrev pub simple_spelled : SimpleStmt → List Token
simple_spelled s = flat.simple_tokens (simple_view s)

abbrev pub local_spelled : LocalSpec → List Token
local_spelled l = flat.local_tokens (local_view l)

abbrev pub init_spelled : IfInit → List Token
init_spelled i = flat.init_tokens (init_view i)

abbrev pub for_spelled : ForHeader → List Token
for_spelled h = flat.for_tokens (for_view h)

abbrev pub stmt_spelled : Stmt → List Token
stmt_spelled s = flat.statement_tokens (stmt_view s)

abbrev pub block_spelled : BlockStmt → List Token
block_spelled b = flat.block_tokens (block_view b)

abbrev pub if_spelled : IfStmt → List Token
if_spelled i = flat.if_tokens (if_view i)

abbrev pub else_spelled : Else → List Token
else_spelled e = flat.else_tokens (else_view e)

abbrev pub import_spelled : ImportSpec → List Token
import_spelled i = flat.import_tokens (import_view i)

abbrev pub basic_spelled : BasicLit → List Token
basic_spelled b = flat.basic_tokens (basic_view b)

abbrev pub global_spelled : VarSpec → List Token
global_spelled g = flat.global_tokens (global_view g)

abbrev pub field_spelled : FieldDecl → List Token
field_spelled f = flat.field_tokens (field_view f)

abbrev pub method_spelled : MethodSpec → List Token
method_spelled m = flat.method_tokens (method_view m)

abbrev pub body_spelled : TypeBody → List Token
body_spelled b = flat.body_tokens (body_view b)

abbrev pub type_spec_spelled : TypeSpec → List Token
type_spec_spelled t = flat.type_spec_tokens (type_spec_view t)

abbrev pub receiver_spelled : Receiver → List Token
receiver_spelled r = flat.receiver_tokens (receiver_view r)

abbrev pub param_spelled : Param → List Token
param_spelled p = flat.param_tokens (param_view p)

abbrev pub results_spelled : Results → List Token
results_spelled r = flat.result_tokens (results_view r)

abbrev pub func_spelled : FuncDecl → List Token
func_spelled f = flat.func_tokens (func_view f)

abbrev pub imports_spelled : ImportDecl → List Token
imports_spelled i = flat.imports_tokens (imports_view i)

abbrev pub decl_spelled : Decl → List Token
decl_spelled d = flat.decl_tokens (decl_view d)

abbrev pub file_spelled : File → List Token
file_spelled f = flat.flatten (file_view f)
