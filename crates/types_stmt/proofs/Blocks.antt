-- The check of blocks and ifs, by the parts that the program goes over.
use Rattle.std.proofs.Common.{◌≡◌, List, [], ◌∷◌, ap, ◌∙◌, refl}
use Rattle.go_ast.specs.View.{expr_view, option_view}
use Rattle.go_ast.specs.FileView.{init_view, stmt_view, block_view, statements_view, if_view, else_view}
use Rattle.go_ast.specs.declared.tree.BlockItem.{BlockItem}
use Rattle.go_ast.specs.declared.tree.BlockStmt as trees
use Rattle.go_ast.specs.declared.tree.BlockStmt.{BlockStmt', out-BlockStmt, outs-BlockStmt', Row_of-BlockItem, end_of-BlockItem, more_of-BlockItem}
use Rattle.go_ast.specs.declared.tree.BlockStmt.{items-the_row-BlockItem, items_shown-the_row-BlockItem-0}
use Rattle.go_ast.specs.declared.tree.IfStmt.{IfStmt, IfStmt', out-IfStmt, outs-IfStmt'}
use Rattle.types_expr.specs.World.{World}
use Rattle.types_stmt.specs.Checked.{FoundSoFar}
use Rattle.types_stmt.specs.Sides.{Target}
use Rattle.types_stmt.specs.Simple.{check_condition}
use Rattle.types_stmt.specs.Statements.{check_init, check_statement, check_block, check_statements, check_if, check_else}

-- statements of the program in turn
unfoldable pub check_each : World → List Target → FoundSoFar → List BlockItem → FoundSoFar
check_each w rs s [] = s
check_each w rs s (x ∷ xs) = check_each w rs (check_statement w rs s (stmt_view x.statement)) xs

pub each_step : (w : World) (rs : List Target) (s : FoundSoFar) (x : BlockItem) (xs : List BlockItem) →
    check_each w rs s (x ∷ xs) ≡ check_each w rs (check_statement w rs s (stmt_view x.statement)) xs
unfolding check_each
each_step w rs s x xs = refl

pub each_end : (w : World) (rs : List Target) (s : FoundSoFar) → check_each w rs s [] ≡ s
unfolding check_each
each_end w rs s = refl

each_row : (w : World) (rs : List Target) (s : FoundSoFar) {n : _} (row : Row_of-BlockItem n) →
    check_each w rs s (items-the_row-BlockItem n row) ≡ check_statements w rs s (statements_view row)
unfolding check_each check_statements statements_view
each_row w rs s end_of-BlockItem = refl
each_row w rs s (more_of-BlockItem x p rest) = each_row w rs (check_statement w rs s (stmt_view x)) rest

block_from : (w : World) (rs : List Target) (s : FoundSoFar) (x : trees.BlockStmt) →
    check_each w rs s (out-BlockStmt x).statements.items ≡ check_block w rs s (block_view x)
unfolding check_block block_view
block_from w rs s (BlockStmt' o shape row c) =
    ap (λ r. check_each w rs s r.statements.items) (outs-BlockStmt' o shape row c) ∙
    (ap (check_each w rs s) (items_shown-the_row-BlockItem-0 shape row) ∙ each_row w rs s row)

pub block_read : (w : World) (rs : List Target) (s : FoundSoFar) (x : trees.BlockStmt) (xs : List BlockItem) → xs ≡ (out-BlockStmt x).statements.items →
    check_each w rs s xs ≡ check_block w rs s (block_view x)
block_read w rs s x xs e = ap (check_each w rs s) e ∙ block_from w rs s x

pub if_from : (w : World) (rs : List Target) (s : FoundSoFar) (x : IfStmt) →
    check_else w rs (check_block w rs (check_condition w (check_init w s (option_view init_view (out-IfStmt x).init)) (expr_view (out-IfStmt x).condition))
    (block_view (out-IfStmt x).body)) (else_view (out-IfStmt x).otherwise)
    ≡ check_if w rs s (if_view x)
unfolding check_if if_view
if_from w rs s (IfStmt' p init e b rest) =
    ap (λ r. check_else w rs (check_block w rs (check_condition w (check_init w s (option_view init_view r.init)) (expr_view r.condition))
    (block_view r.body)) (else_view r.otherwise)) (outs-IfStmt' p init e b rest)
