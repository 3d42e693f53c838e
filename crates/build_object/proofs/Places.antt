-- The locals of blocks and ifs, by the parts that the program goes over.
use Rattle.std.proofs.Common.{ℕ, ◌≡◌, List, [], ◌∷◌, ◌++◌, ap, ◌∙◌, refl, append_assoc}
use Rattle.go_ast.specs.View.{option_view}
use Rattle.go_ast.specs.FileView.{init_view, stmt_view, block_view, statements_view, if_view, else_view}
use Rattle.go_ast.specs.declared.tree.BlockItem.{BlockItem}
use Rattle.go_ast.specs.declared.tree.BlockStmt as trees
use Rattle.go_ast.specs.declared.tree.BlockStmt.{BlockStmt', out-BlockStmt, outs-BlockStmt', Row_of-BlockItem, end_of-BlockItem, more_of-BlockItem}
use Rattle.go_ast.specs.declared.tree.BlockStmt.{items-the_row-BlockItem, items_shown-the_row-BlockItem-0}
use Rattle.go_ast.specs.declared.tree.IfStmt.{IfStmt, IfStmt', out-IfStmt, outs-IfStmt'}
use Rattle.types_expr.specs.World.{World}
use Rattle.build_object.specs.Slots.{init_places, statement_places, block_places, statements_places, if_places, else_places}

-- those of statements of the program in turn
unfoldable pub places_of_each : World → List BlockItem → List ℕ
places_of_each w [] = []
places_of_each w (i ∷ is) = statement_places w (stmt_view i.statement) ++ places_of_each w is

pub each_step : (w : World) (i : BlockItem) (is : List BlockItem) →
    places_of_each w (i ∷ is) ≡ statement_places w (stmt_view i.statement) ++ places_of_each w is
unfolding places_of_each
each_step w i is = refl

pub each_end : (w : World) → places_of_each w [] ≡ []
unfolding places_of_each
each_end w = refl

each_row : (w : World) {n : _} (row : Row_of-BlockItem n) → places_of_each w (items-the_row-BlockItem n row) ≡ statements_places w (statements_view row)
unfolding places_of_each statements_places statements_view
each_row w end_of-BlockItem = refl
each_row w (more_of-BlockItem a p rest) = ap (λ ps. statement_places w (stmt_view a) ++ ps) (each_row w rest)

block_from : (w : World) (b : trees.BlockStmt) → places_of_each w (out-BlockStmt b).statements.items ≡ block_places w (block_view b)
unfolding block_places block_view
block_from w (BlockStmt' o shape row c) =
    ap (λ b. places_of_each w b.statements.items) (outs-BlockStmt' o shape row c) ∙
    (ap (places_of_each w) (items_shown-the_row-BlockItem-0 shape row) ∙ each_row w row)

pub block_read : (w : World) (b : trees.BlockStmt) (xs : List BlockItem) → xs ≡ (out-BlockStmt b).statements.items →
    places_of_each w xs ≡ block_places w (block_view b)
block_read w b xs e = ap (places_of_each w) e ∙ block_from w b

pub if_from : (w : World) (i : IfStmt) →
    init_places w (option_view init_view (out-IfStmt i).init) ++
    (block_places w (block_view (out-IfStmt i).body) ++ else_places w (else_view (out-IfStmt i).otherwise)) ≡ if_places w (if_view i)
unfolding if_places if_view
if_from w (IfStmt' p init e b rest) = ap (λ i. init_places w (option_view init_view i.init) ++
    (block_places w (block_view i.body) ++ else_places w (else_view i.otherwise))) (outs-IfStmt' p init e b rest)

-- what was added in turn
pub added : (a b old : List ℕ) {mid new : List ℕ} → mid ≡ old ++ a → new ≡ mid ++ b → new ≡ old ++ (a ++ b)
added a b old p q = q ∙ (ap (λ x. x ++ b) p ∙ append_assoc old a b)
