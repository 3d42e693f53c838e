-- The specification trees of the program's statements, declarations and files.
use Rattle.std.specs.Prelude.{ℕ, List, map}
use Rattle.go_ast.specs.Tree as tree
use Rattle.go_ast.specs.Tree.{LocalTree, SimpleTree, InitTree, ForTree, StatementTree, BlockTree, StatementTrees, IfTree, ElseTree, ExprTree, BasicTree}
use Rattle.go_ast.specs.Tree.{ImportTree, GlobalTree, FieldTree, MethodTree, BodyTree, TypeSpecTree, ReceiverTree, ParamTree, ResultTree, FuncTree, ImportsTree}
use Rattle.go_ast.specs.Tree.{DeclTree, FileTree}
use Rattle.go_ast.specs.View.{option_view, list_view, group_view, ident_view, type_view, expr_view, exprs_view}
use Rattle.go_ast.specs.declared.tree.Values.{Values}
use Rattle.go_ast.specs.declared.tree.LocalSpec.{LocalSpec}
use Rattle.go_ast.specs.declared.tree.SimpleStmt.{SimpleStmt}
use Rattle.go_ast.specs.declared.tree.SimpleStmt.TheVariants as simple
use Rattle.go_ast.specs.declared.tree.IfInit.{IfInit}
use Rattle.go_ast.specs.declared.tree.ForHeader.{ForHeader}
use Rattle.go_ast.specs.declared.tree.ForHeader.TheVariants as for
use Rattle.go_ast.specs.declared.tree.Stmt.{Stmt}
use Rattle.go_ast.specs.declared.tree.Stmt.TheVariants as stmt
use Rattle.go_ast.specs.declared.tree.BlockStmt.{BlockStmt, BlockStmt', Row_of-BlockItem, end_of-BlockItem, more_of-BlockItem}
use Rattle.go_ast.specs.declared.tree.IfStmt.{IfStmt, IfStmt'}
use Rattle.go_ast.specs.declared.tree.Else.{Else}
use Rattle.go_ast.specs.declared.tree.Else.TheVariants as else
use Rattle.go_ast.specs.declared.tree.ImportSpec.{ImportSpec}
use Rattle.go_ast.specs.declared.tree.BasicLit.{BasicLit}
use Rattle.go_ast.specs.declared.tree.BasicLit.TheVariants as basic
use Rattle.go_ast.specs.declared.tree.VarValues.{VarValues}
use Rattle.go_ast.specs.declared.tree.VarSpec.{VarSpec}
use Rattle.go_ast.specs.declared.tree.FieldDecl.{FieldDecl}
use Rattle.go_ast.specs.declared.tree.MethodSpec.{MethodSpec}
use Rattle.go_ast.specs.declared.tree.TypeBody.{TypeBody}
use Rattle.go_ast.specs.declared.tree.TypeBody.TheVariants as body
use Rattle.go_ast.specs.declared.tree.TypeSpec.{TypeSpec}
use Rattle.go_ast.specs.declared.tree.Receiver.{Receiver}
use Rattle.go_ast.specs.declared.tree.Param.{Param}
use Rattle.go_ast.specs.declared.tree.Results.{Results}
use Rattle.go_ast.specs.declared.tree.Results.TheVariants as results
use Rattle.go_ast.specs.declared.tree.FuncDecl.{FuncDecl}
use Rattle.go_ast.specs.declared.tree.ImportDecl.{ImportDecl}
use Rattle.go_ast.specs.declared.tree.Decl.{Decl}
use Rattle.go_ast.specs.declared.tree.Decl.TheVariants as decl
use Rattle.go_ast.specs.declared.tree.File.{File}

-- a token index as the view of itself
abbrev pub same_index : ℕ → ℕ
same_index n = n

abbrev pub values_view : Values → ℕ × List (tree.Item ExprTree)
values_view v = (v.assign, exprs_view v.values.items)

unfoldable pub local_view : LocalSpec → LocalTree
local_view l = record { names = list_view ident_view l.names.items; type_use = option_view type_view l.local_type; values = option_view values_view l.values }

unfoldable pub simple_view : SimpleStmt → SimpleTree
simple_view (simple.Expr e) = tree.Alone (expr_view e)
simple_view (simple.Step e op p) = tree.Step (expr_view e) op p
simple_view (simple.Update e op p f) = tree.Update (expr_view e) op p (expr_view f.value)
simple_view (simple.Assign es p fs) = tree.Assign (exprs_view es.items) p (exprs_view fs.items)
simple_view (simple.Define es p fs) = tree.Define (exprs_view es.items) p (exprs_view fs.items)

unfoldable pub init_view : IfInit → InitTree
init_view i = record { simple = option_view simple_view i.statement; semicolon = i.semicolon }

unfoldable pub for_view : ForHeader → ForTree
for_view for.Forever = tree.forever
for_view (for.While e) = tree.while (expr_view e)
for_view (for.Clauses init s condition t post) = tree.clauses (option_view simple_view init) s (option_view expr_view condition) t
    (option_view simple_view post)

unfoldable mutual
  pub stmt_view : Stmt → StatementTree
  stmt_view stmt.Empty = tree.Empty
  stmt_view (stmt.Var p g) = tree.Var p (group_view local_view g.value)
  stmt_view (stmt.Simple s) = tree.Simple (simple_view s)
  stmt_view (stmt.Block b) = tree.Inner (block_view b)
  stmt_view (stmt.If' p i) = tree.If (if_view i)
  stmt_view (stmt.For p h b) = tree.For p (for_view h.value) (block_view b)
  stmt_view (stmt.Break p) = tree.Break p
  stmt_view (stmt.Continue p) = tree.Continue p
  stmt_view (stmt.Return p es) = tree.Return p (exprs_view es.items)

  pub block_view : BlockStmt → BlockTree
  block_view (BlockStmt' o shape row c) = tree.block o (statements_view row) c

  pub statements_view : {m : _} → Row_of-BlockItem m → StatementTrees
  statements_view end_of-BlockItem = tree.no_statement
  statements_view (more_of-BlockItem s p rest) = tree.statement (stmt_view s) p (statements_view rest)

  pub if_view : IfStmt → IfTree
  if_view (IfStmt' p init e b rest) = tree.if_tree p (option_view init_view init) (expr_view e) (block_view b) (else_view rest)

  pub else_view : Else → ElseTree
  else_view else.None = tree.no_else
  else_view (else.If' at p i) = tree.else_if at (if_view i)
  else_view (else.Block at b) = tree.else_block at (block_view b)

unfoldable pub import_view : ImportSpec → ImportTree
import_view i = record { name = i.name; path = i.path }

abbrev pub basic_view : BasicLit → BasicTree
basic_view (basic.Number n) = tree.Integer n
basic_view (basic.Text n) = tree.String n

abbrev pub var_values_view : VarValues → ℕ × List (tree.Item BasicTree)
var_values_view v = (v.assign, list_view basic_view v.values.items)

unfoldable pub global_view : VarSpec → GlobalTree
global_view g = record { names = list_view same_index g.names.items; type_use = type_view g.var_type; values = option_view var_values_view g.values }

unfoldable pub field_view : FieldDecl → FieldTree
field_view f = record { names = list_view same_index f.names.items; type_use = type_view f.field_type }

unfoldable pub param_view : Param → ParamTree
param_view p = record { names = list_view ident_view p.names.items; type_use = type_view p.param_type }

unfoldable pub results_view : Results → ResultTree
results_view results.None = tree.no_result
results_view (results.Single t) = tree.one_result (type_view t)
results_view (results.Several o ts c) = tree.results o (list_view type_view ts.items) c

unfoldable pub method_view : MethodSpec → MethodTree
method_view m = record { name = m.name; lparen = m.open; params = list_view param_view m.params.items; rparen = m.close; result = results_view m.results }

unfoldable pub body_view : TypeBody → BodyTree
body_view (body.Type t) = tree.Other (type_view t)
body_view (body.Struct s o fs c) = tree.Struct s o (list_view field_view fs.items) c
body_view (body.Interface i o ms c) = tree.Interface i o (list_view method_view ms.items) c

unfoldable pub type_spec_view : TypeSpec → TypeSpecTree
type_spec_view t = record { name = t.name; body = body_view t.body }

unfoldable pub receiver_view : Receiver → ReceiverTree
receiver_view r = record { lparen = r.open; name = ident_view r.ident; star = r.star; type_name = r.type_name; comma = r.comma; rparen = r.close }

unfoldable pub func_view : FuncDecl → FuncTree
func_view f = record {
  receiver = option_view receiver_view f.receiver;
  name = f.name;
  lparen = f.open;
  params =
      list_view param_view f.params.items;
  rparen = f.close;
  result = results_view f.results;
  body = block_view f.body;
}

unfoldable pub imports_view : ImportDecl → ImportsTree
imports_view i = record { keyword = i.at; imports = group_view import_view i.group; semicolon = i.semicolon }

unfoldable pub decl_view : Decl → DeclTree
decl_view (decl.Var p g s) = tree.VarDecl p (group_view global_view g) s
decl_view (decl.Type p g s) = tree.TypeDecl p (group_view type_spec_view g) s
decl_view (decl.Func p f s) = tree.FuncDecl p (func_view f) s

unfoldable pub file_view : File → FileTree
file_view f = record {
  keyword = f.package;
  name = f.name;
  semicolon = f.semicolon;
  imports = map imports_view f.imports.items;
  decls =
      map decl_view f.decls.items;
}
