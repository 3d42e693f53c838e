-- The tokens of the program's statements and files, by their parts.
use Rattle.std.proofs.Common.{append_assoc, ℕ, ◌≡◌, ◌∷◌, ◌++◌, [], List, Option, ap, sym, ◌∙◌, refl, map}
use Rattle.go_ast.specs.declared.syntax.Kind.TheVariants as kind
use Rattle.go_ast.specs.declared.tree.Expr.{Expr}
use Rattle.go_ast.specs.declared.tree.IfInit.{IfInit}
use Rattle.go_ast.specs.declared.tree.SimpleStmt.{SimpleStmt}
use Rattle.go_ast.specs.declared.tree.ForHeader.{ForHeader}
use Rattle.go_ast.specs.declared.tree.ForHeader.TheVariants as for
use Rattle.go_ast.specs.declared.tree.Stmt.TheVariants as stmt
use Rattle.go_ast.specs.declared.tree.Else.{Else}
use Rattle.go_ast.specs.declared.tree.Else.TheBlock.{hidden-the_row-BlockItem-0}
use Rattle.go_ast.specs.declared.tree.Else.TheViews.{roll-BlockStmt, roll-IfStmt}
use Rattle.go_ast.specs.declared.tree.Else.TheVariants as else
use Rattle.go_ast.specs.declared.tree.BlockStmt.{BlockStmt, Row_of-BlockItem, end_of-BlockItem, more_of-BlockItem, items-the_row-BlockItem}
use Rattle.go_ast.specs.declared.tree.BlockStmt.{items_hidden-the_row-BlockItem-0}
use Rattle.go_ast.specs.declared.tree.IfStmt.{IfStmt}
use Rattle.go_ast.specs.declared.tree.FuncDecl.{FuncDecl}
use Rattle.go_ast.specs.declared.tree.ImportDecl.{ImportDecl}
use Rattle.go_ast.specs.declared.tree.Decl.TheVariants as decl
use Rattle.go_ast.specs.declared.tree.File.{File}
use Rattle.go_ast.specs.Flatten.{sign, sign_if, tokens_if, item_tokens, all_tokens, expr_tokens, simple_tokens, init_tokens, for_tokens, statement_tokens}
use Rattle.go_ast.specs.Flatten.{block_tokens, statements_tokens, if_tokens, else_tokens, local_tokens, import_tokens, global_tokens, type_spec_tokens}
use Rattle.go_ast.specs.Flatten.{receiver_tokens, param_tokens, func_tokens, imports_tokens, decl_tokens, flatten}
use Rattle.go_ast.specs.View.{option_view, item_view, expr_view}
use Rattle.go_ast.specs.FileView.{simple_view, init_view, for_view, stmt_view, block_view, statements_view, if_view, else_view, local_view, import_view}
use Rattle.go_ast.specs.FileView.{global_view, type_spec_view, receiver_view, param_view, func_view, imports_view, decl_view, file_view}
use Rattle.go_parser.specs.Spelling.{expr_spelled, exprs_spelled, simple_spelled, init_spelled, for_spelled, stmt_spelled, block_spelled}
use Rattle.go_parser.specs.Spelling.{if_spelled, else_spelled, local_spelled, import_spelled, global_spelled, type_spec_spelled, param_spelled}
use Rattle.go_parser.specs.Spelling.{results_spelled, func_spelled, imports_spelled, decl_spelled, file_spelled}
use Rattle.go_parser.specs.ListSpelling.{items_spelled, group_spelled}
use Rattle.go_parser.proofs.StatementSteps.{all_tokens_map}
use Rattle.go_parser.proofs.SpelledDeclarations.{group_spelled_as}
use Rattle.go_ast.specs.declared.syntax.Token.{Token}
use Rattle.go_ast.specs.declared.tree.BlockItem.{BlockItem}

abbrev pub block_item_spelled : BlockItem → List Token
block_item_spelled i = stmt_spelled i.statement ++ sign_if kind.Semicolon i.semicolon

-- headers

pub init_spelled_as : (i : IfInit) → init_spelled i ≡ tokens_if simple_tokens (option_view simple_view i.statement) ++ (sign kind.Semicolon i.semicolon ∷ [])
unfolding init_tokens init_view
init_spelled_as i = refl

pub forever_spelled : for_spelled for.Forever ≡ []
unfolding for_tokens for_view
forever_spelled = refl

pub while_spelled : (e : Expr) → for_spelled (for.While e) ≡ expr_spelled e
unfolding for_tokens for_view
while_spelled e = refl

pub clauses_spelled : (i : Option SimpleStmt) (s : ℕ) (e : Option Expr) (t : ℕ) (p : Option SimpleStmt) → for_spelled (for.Clauses i s e t p) ≡
    tokens_if simple_tokens (option_view simple_view i) ++
    (sign kind.Semicolon s ∷ (tokens_if expr_tokens (option_view expr_view e) ++
    (sign kind.Semicolon t ∷ tokens_if simple_tokens (option_view simple_view p))))
unfolding for_tokens for_view
clauses_spelled i s e t p = refl

-- statements

pub empty_spelled : stmt_spelled stmt.Empty ≡ []
unfolding statement_tokens stmt_view
empty_spelled = refl

pub var_spelled : (p : ℕ) (g : _) → stmt_spelled (stmt.Var p g) ≡ sign kind.Var p ∷ group_spelled (λ x. local_spelled x) g.value
unfolding statement_tokens stmt_view
var_spelled p g = ap (λ x. sign kind.Var p ∷ x) (sym (group_spelled_as local_tokens local_view g.value))

pub simple_stmt_spelled : (s : SimpleStmt) → stmt_spelled (stmt.Simple s) ≡ simple_spelled s
unfolding statement_tokens stmt_view
simple_stmt_spelled s = refl

pub block_stmt_spelled : (b : BlockStmt) → stmt_spelled (stmt.Block b) ≡ block_spelled b
unfolding statement_tokens stmt_view
block_stmt_spelled b = refl

pub if_stmt_spelled : (i : _) → stmt_spelled (stmt.If i) ≡ if_spelled i.value
unfolding statement_tokens stmt_view
if_stmt_spelled i = refl

pub for_stmt_spelled : (p : ℕ) (h : _) (b : BlockStmt) → stmt_spelled (stmt.For p h b) ≡ sign kind.For p ∷ (for_spelled h.value ++ block_spelled b)
unfolding statement_tokens stmt_view
for_stmt_spelled p h b = refl

pub break_spelled : (p : ℕ) → stmt_spelled (stmt.Break p) ≡ sign kind.Break p ∷ []
unfolding statement_tokens stmt_view
break_spelled p = refl

pub continue_spelled : (p : ℕ) → stmt_spelled (stmt.Continue p) ≡ sign kind.Continue p ∷ []
unfolding statement_tokens stmt_view
continue_spelled p = refl

pub return_spelled : (p : ℕ) (es : _) → stmt_spelled (stmt.Return p es) ≡ sign kind.Return p ∷ exprs_spelled es.items
unfolding statement_tokens stmt_view
return_spelled p es = refl

-- blocks

statement_row_tokens : {n : _} (row : Row_of-BlockItem n) →
    statements_tokens (statements_view row) ≡ all_tokens block_item_spelled (items-the_row-BlockItem n row)
unfolding all_tokens statements_view statements_tokens
statement_row_tokens end_of-BlockItem = refl
statement_row_tokens (more_of-BlockItem s p rest) = ap (λ x. stmt_spelled s ++ (sign_if kind.Semicolon p ++ x)) (statement_row_tokens rest)
    ∙ sym (append_assoc (stmt_spelled s) (sign_if kind.Semicolon p) (all_tokens block_item_spelled (items-the_row-BlockItem _ rest)))

pub block_spelled_as : (o : ℕ) (ss : _) (c : ℕ) → block_spelled (roll-BlockStmt (record { «open» = o; statements = ss; close = c })) ≡
    sign kind.LeftBrace o ∷ (all_tokens block_item_spelled ss.items ++ (sign kind.RightBrace c ∷ []))
unfolding block_tokens block_view roll-BlockStmt denote.Hole.Carrier.roll
block_spelled_as o ss c = ap (λ x. sign kind.LeftBrace o ∷ (x ++ (sign kind.RightBrace c ∷ [])))
    (statement_row_tokens (hidden-the_row-BlockItem-0 ss) ∙ ap (λ xs. all_tokens block_item_spelled xs) (items_hidden-the_row-BlockItem-0 ss))

-- `if` and `else`

pub if_spelled_as : (p : ℕ) (i : Option IfInit) (e : Expr) (b : BlockStmt) (rest : Else) →
    if_spelled (roll-IfStmt (record { at = p; init = i; condition = e; body = b; otherwise = rest })) ≡
    sign kind.If p ∷ ((tokens_if init_tokens (option_view init_view i) ++ expr_spelled e) ++ (block_spelled b ++ else_spelled rest))
unfolding if_tokens if_view roll-IfStmt denote.Hole.Carrier.roll
if_spelled_as p i e b rest = ap (λ x. sign kind.If p ∷ x)
    (sym (append_assoc (tokens_if init_tokens (option_view init_view i)) (expr_spelled e) (block_spelled b ++ else_spelled rest)))

pub no_else_spelled : else_spelled else.None ≡ []
unfolding else_tokens else_view
no_else_spelled = refl

pub else_if_spelled : (p : ℕ) (i : _) → else_spelled (else.If p i) ≡ sign kind.Else p ∷ if_spelled i.value
unfolding else_tokens else_view
else_if_spelled p i = refl

pub else_block_spelled : (p : ℕ) (b : BlockStmt) → else_spelled (else.Block p b) ≡ sign kind.Else p ∷ block_spelled b
unfolding else_tokens else_view
else_block_spelled p b = refl

-- functions, imports and files

pub func_spelled_as : (f : FuncDecl) → func_spelled f ≡ tokens_if receiver_tokens (option_view receiver_view f.receiver) ++
    (sign kind.Name f.name ∷ sign kind.LeftParen f.open ∷
    ((items_spelled kind.Comma param_spelled f.params.items ++ (sign kind.RightParen f.close ∷ [])) ++ (results_spelled f.results ++ block_spelled f.body)))
unfolding func_tokens func_view
func_spelled_as f = ap (λ x. tokens_if receiver_tokens (option_view receiver_view f.receiver) ++ (sign kind.Name f.name ∷ sign kind.LeftParen f.open ∷ x))
    (ap (λ x. x ++ (sign kind.RightParen f.close ∷ (results_spelled f.results ++ block_spelled f.body)))
    (sym (all_tokens_map (item_tokens kind.Comma param_tokens) (item_view param_view) f.params.items))
    ∙ sym (append_assoc (items_spelled kind.Comma param_spelled f.params.items) (sign kind.RightParen f.close ∷ [])
    (results_spelled f.results ++ block_spelled f.body)))

pub imports_spelled_as : (i : ImportDecl) → imports_spelled i ≡ sign kind.Import i.at ∷
    (group_spelled (λ x. import_spelled x) i.group ++ (sign kind.Semicolon i.semicolon ∷ []))
unfolding imports_tokens imports_view
imports_spelled_as i = ap (λ x. sign kind.Import i.at ∷ (x ++ (sign kind.Semicolon i.semicolon ∷ [])))
    (sym (group_spelled_as import_tokens import_view i.group))

pub var_decl_spelled : (p : ℕ) (g : _) (s : ℕ) → decl_spelled (decl.Var p g s) ≡ sign kind.Var p ∷
    (group_spelled (λ x. global_spelled x) g ++ (sign kind.Semicolon s ∷ []))
unfolding decl_tokens decl_view
var_decl_spelled p g s = ap (λ x. sign kind.Var p ∷ (x ++ (sign kind.Semicolon s ∷ []))) (sym (group_spelled_as global_tokens global_view g))

pub type_decl_spelled : (p : ℕ) (g : _) (s : ℕ) → decl_spelled (decl.Type p g s) ≡ sign kind.TypeWord p ∷
    (group_spelled (λ x. type_spec_spelled x) g ++ (sign kind.Semicolon s ∷ []))
unfolding decl_tokens decl_view
type_decl_spelled p g s = ap (λ x. sign kind.TypeWord p ∷ (x ++ (sign kind.Semicolon s ∷ []))) (sym (group_spelled_as type_spec_tokens type_spec_view g))

pub func_decl_spelled : (p : ℕ) (f : FuncDecl) (s : ℕ) → decl_spelled (decl.Func p f s) ≡ sign kind.Func p ∷ (func_spelled f ++ (sign kind.Semicolon s ∷ []))
unfolding decl_tokens decl_view
func_decl_spelled p f s = refl

pub file_spelled_as : (f : File) → file_spelled f ≡ sign kind.Package f.package ∷ sign kind.Name f.name ∷ sign kind.Semicolon f.semicolon ∷
    (all_tokens imports_spelled f.imports.items ++ all_tokens decl_spelled f.decls.items)
unfolding flatten file_view
file_spelled_as f = ap (λ x. sign kind.Package f.package ∷ sign kind.Name f.name ∷ sign kind.Semicolon f.semicolon ∷ x)
    (ap (λ x. x ++ all_tokens decl_tokens (map decl_view f.decls.items)) (sym (all_tokens_map imports_tokens imports_view f.imports.items))
    ∙ ap (λ x. all_tokens imports_spelled f.imports.items ++ x) (sym (all_tokens_map decl_tokens decl_view f.decls.items)))
