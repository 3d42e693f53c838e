-- The identifiers of statements, by the parts that the program visits.
use Rattle.std.proofs.Common.{ℕ, ◌≡◌, List, [], ◌∷◌, ◌++◌, ap, sym, ◌∙◌, refl, map}
use Rattle.std.specs.List.{flat_map}
use Rattle.std.specs.Option.{unwrap_or}
use Rattle.go_scope.specs.declared.model.Block.{Block}
use Rattle.go_scope.specs.declared.model.Block.TheVariants as blocks
use Rattle.go_scope.specs.declared.model.Role.{Role}
use Rattle.go_scope.specs.Site.{Site, TokenSpellings}
use Rattle.go_scope.specs.ExpressionSites.{list_sites, expr_sites, exprs_sites}
use Rattle.go_scope.specs.StatementSites.{ident_sites, left_sites, assigned_sites, simple_sites, value_sites, for_sites, local_sites, separated_sites}
use Rattle.go_scope.specs.StatementSites.{group_sites, statement_sites, statements_sites, block_sites, if_sites, else_sites, init_sites, open_of}
use Rattle.go_scope.specs.ExpressionSites.{sites_if, type_sites}
use Rattle.go_scope.specs.declared.model.Role.TheVariants.{Declaring}
use Rattle.go_ast.specs.View.{option_view, item_view, list_view, group_view, ident_view, type_view, expr_view, exprs_view}
use Rattle.go_ast.specs.FileView.{local_view, simple_view, values_view, for_view, init_view, stmt_view, block_view, statements_view, if_view, else_view}
use Rattle.go_ast.specs.declared.tree.Item.{Item}
use Rattle.go_ast.specs.declared.tree.Expr.{Expr}
use Rattle.go_ast.specs.declared.tree.Expr.TheVariants as expr
use Rattle.go_ast.specs.declared.tree.SimpleStmt.{SimpleStmt}
use Rattle.go_ast.specs.declared.tree.SimpleStmt.TheVariants as simple
use Rattle.go_ast.specs.declared.tree.Stmt.{Stmt}
use Rattle.go_ast.specs.declared.tree.Stmt.TheVariants as stmt
use Rattle.go_ast.specs.declared.tree.ForHeader.{ForHeader}
use Rattle.go_ast.specs.declared.tree.Ident.{Ident}
use Rattle.go_ast.specs.declared.tree.ExprItem.{ExprItem}
use Rattle.go_ast.specs.declared.tree.LocalSpec.{LocalSpec}
use Rattle.go_ast.specs.declared.tree.Group.{Group}
use Rattle.go_ast.specs.declared.tree.Group.TheVariants as group
use Rattle.go_ast.specs.declared.tree.BlockItem.{BlockItem}
use Rattle.go_ast.specs.declared.tree.BlockStmt as trees
use Rattle.go_ast.specs.declared.tree.BlockStmt.{BlockStmt', out-BlockStmt, outs-BlockStmt', Row_of-BlockItem, end_of-BlockItem, more_of-BlockItem}
use Rattle.go_ast.specs.declared.tree.BlockStmt.{items-the_row-BlockItem, items_shown-the_row-BlockItem-0}
use Rattle.go_ast.specs.declared.tree.IfStmt.{IfStmt, IfStmt', out-IfStmt, outs-IfStmt'}

abbrev pub expr_part : TokenSpellings → ExprItem → List Site
expr_part s x = expr_sites s (expr_view x.value)

abbrev pub ident_part : TokenSpellings → Role → Item Ident → List Site
ident_part s role x = ident_sites s role (ident_view x.value)

abbrev pub left_part : TokenSpellings → Block → ℕ → ExprItem → List Site
left_part s b q x = left_sites s b q (expr_view x.value)

abbrev pub assigned_part : TokenSpellings → ExprItem → List Site
assigned_part s x = assigned_sites s (expr_view x.value)

abbrev pub local_part : TokenSpellings → Block → ℕ → Item LocalSpec → List Site
local_part s b close x = local_sites s b (unwrap_or x.separator close) (local_view x.value)

abbrev pub statement_part : TokenSpellings → Block → ℕ → BlockItem → List Site
statement_part s b close x = statement_sites s b (unwrap_or x.semicolon close) (stmt_view x.statement)

-- the parts of a list of the program, and of the list of trees
pub flat_map-map : {X Y : Type 0} (f : Y → List Site) (g : X → Y) (xs : List X) → flat_map (λ x. f (g x)) xs ≡ flat_map f (map g xs)
flat_map-map f g [] = refl
flat_map-map f g (x ∷ xs) = ap (λ z. f (g x) ++ z) (flat_map-map f g xs)

statement_row : (s : TokenSpellings) (b : Block) (close : ℕ) {n : _} (row : Row_of-BlockItem n) →
    statements_sites s b close (statements_view row) ≡ flat_map (statement_part s b close) (items-the_row-BlockItem n row)
unfolding statements_sites statements_view
statement_row s b close end_of-BlockItem = refl
statement_row s b close (more_of-BlockItem x p rest) = ap (λ z. statement_sites s b (unwrap_or p close) (stmt_view x) ++ z) (statement_row s b close rest)

block_from : (s : TokenSpellings) (x : trees.BlockStmt) →
    flat_map (statement_part s (blocks.Inner s.rank (out-BlockStmt x).«open» (out-BlockStmt x).close) (out-BlockStmt x).close)
    (out-BlockStmt x).statements.items ≡
    block_sites s (block_view x)
unfolding block_sites block_view
block_from s (BlockStmt' o shape row c) =
    ap (λ r. flat_map (statement_part s (blocks.Inner s.rank r.«open» r.close) r.close) r.statements.items) (outs-BlockStmt' o shape row c) ∙
    ap (flat_map (statement_part s (blocks.Inner s.rank o c) c)) (items_shown-the_row-BlockItem-0 shape row) ∙
    sym (statement_row s (blocks.Inner s.rank o c) c row)

pub block_read : (s : TokenSpellings) (x : trees.BlockStmt) (xs : List BlockItem) → xs ≡ (out-BlockStmt x).statements.items →
    flat_map (statement_part s (blocks.Inner s.rank (out-BlockStmt x).«open» (out-BlockStmt x).close) (out-BlockStmt x).close) xs ≡ block_sites s (block_view x)
block_read s x xs e = ap (flat_map (statement_part s (blocks.Inner s.rank (out-BlockStmt x).«open» (out-BlockStmt x).close) (out-BlockStmt x).close)) e ∙
    block_from s x

pub if_from : (s : TokenSpellings) (q : ℕ) (x : IfStmt) →
    sites_if (init_sites s (blocks.Inner s.rank (out-IfStmt x).at q)) (option_view init_view (out-IfStmt x).init) ++
    (expr_sites s (expr_view (out-IfStmt x).condition) ++
    (block_sites s (block_view (out-IfStmt x).body) ++ else_sites s q (else_view (out-IfStmt x).otherwise))) ≡ if_sites s q (if_view x)
unfolding if_sites if_view
if_from s q (IfStmt' p init e b rest) =
    ap (λ r. sites_if (init_sites s (blocks.Inner s.rank r.at q)) (option_view init_view r.init) ++ (expr_sites s (expr_view r.condition) ++
    (block_sites s (block_view r.body) ++ else_sites s q (else_view r.otherwise)))) (outs-IfStmt' p init e b rest)

pub open_from : (x : trees.BlockStmt) → (out-BlockStmt x).«open» ≡ open_of (block_view x)
unfolding block_view
open_from (BlockStmt' o shape row c) = ap (λ r. r.«open») (outs-BlockStmt' o shape row c)

pub left_default : (s : TokenSpellings) (b : Block) (q : ℕ) (e : Expr) → ((n : ℕ) → e ≡ expr.Name n → ⊥) → ((n : ℕ) → e ≡ expr.Blank n → ⊥) →
    expr_sites s (expr_view e) ≡ left_sites s b q (expr_view e)
unfolding expr_view
left_default s b q (expr.Name n) no_name no_blank = absurd (no_name n refl)
left_default s b q (expr.Blank n) no_name no_blank = absurd (no_blank n refl)
left_default s b q (expr.Number n) no_name no_blank = refl
left_default s b q (expr.Text n) no_name no_blank = refl
left_default s b q (expr.Composite' p l) no_name no_blank = refl
left_default s b q (expr.Paren' o p e c) no_name no_blank = refl
left_default s b q (expr.Prefix' op at p e) no_name no_blank = refl
left_default s b q (expr.Address' at p l) no_name no_blank = refl
left_default s b q (expr.Chain' p e shape row) no_name no_blank = refl
left_default s b q (expr.Binary' p e shape row) no_name no_blank = refl
left_default s b q (expr.NamedChain' n shape row) no_name no_blank = refl
left_default s b q (expr.NamedBinary' n shape row) no_name no_blank = refl

pub assigned_default : (s : TokenSpellings) (e : Expr) → ((n : ℕ) → e ≡ expr.Blank n → ⊥) → expr_sites s (expr_view e) ≡ assigned_sites s (expr_view e)
unfolding expr_view
assigned_default s (expr.Name n) no_blank = refl
assigned_default s (expr.Blank n) no_blank = absurd (no_blank n refl)
assigned_default s (expr.Number n) no_blank = refl
assigned_default s (expr.Text n) no_blank = refl
assigned_default s (expr.Composite' p l) no_blank = refl
assigned_default s (expr.Paren' o p e c) no_blank = refl
assigned_default s (expr.Prefix' op at p e) no_blank = refl
assigned_default s (expr.Address' at p l) no_blank = refl
assigned_default s (expr.Chain' p e shape row) no_blank = refl
assigned_default s (expr.Binary' p e shape row) no_blank = refl
assigned_default s (expr.NamedChain' n shape row) no_blank = refl
assigned_default s (expr.NamedBinary' n shape row) no_blank = refl

pub assign_from : (s : TokenSpellings) (b : Block) (q : ℕ) (x : SimpleStmt) (left right : _) (p : ℕ) (ls rs : List ExprItem) → x ≡ simple.Assign left p right →
    ls ≡ left.items → rs ≡ right.items →
    list_sites (assigned_sites s) (exprs_view ls) ++ exprs_sites s (exprs_view rs) ≡ simple_sites s b q (simple_view x)
unfolding simple_sites simple_view
assign_from s b q x left right p ls rs ex el er =
    ap (λ z. list_sites (assigned_sites s) (exprs_view z) ++ exprs_sites s (exprs_view rs)) el ∙
    ap (λ z. list_sites (assigned_sites s) (exprs_view left.items) ++ exprs_sites s (exprs_view z)) er ∙
    ap (λ z. simple_sites s b q (simple_view z)) (sym ex)

pub define_from : (s : TokenSpellings) (b : Block) (q : ℕ) (x : SimpleStmt) (left right : _) (p : ℕ) (ls rs : List ExprItem) → x ≡ simple.Define left p right →
    ls ≡ left.items → rs ≡ right.items →
    list_sites (left_sites s b q) (exprs_view ls) ++ exprs_sites s (exprs_view rs) ≡ simple_sites s b q (simple_view x)
unfolding simple_sites simple_view
define_from s b q x left right p ls rs ex el er =
    ap (λ z. list_sites (left_sites s b q) (exprs_view z) ++ exprs_sites s (exprs_view rs)) el ∙
    ap (λ z. list_sites (left_sites s b q) (exprs_view left.items) ++ exprs_sites s (exprs_view z)) er ∙
    ap (λ z. simple_sites s b q (simple_view z)) (sym ex)

pub local_read : (s : TokenSpellings) (b : Block) (q : ℕ) (x : LocalSpec) (xs : List (Item Ident)) → xs ≡ x.names.items →
    list_sites (ident_sites s (Declaring b q)) (list_view ident_view xs) ++
    (sites_if (type_sites s) (option_view type_view x.local_type) ++ sites_if (value_sites s) (option_view values_view x.values)) ≡
    local_sites s b q (local_view x)
unfolding local_sites local_view
local_read s b q x xs e =
    ap (λ z. list_sites (ident_sites s (Declaring b q)) (list_view ident_view z) ++
    (sites_if (type_sites s) (option_view type_view x.local_type) ++ sites_if (value_sites s) (option_view values_view x.values))) e

pub locals_from : (s : TokenSpellings) (b : Block) (q : ℕ) (g : Group LocalSpec) (o : ℕ) (items : _) (c : ℕ) (xs : List (Item LocalSpec)) →
    g ≡ group.Several o items c → xs ≡ items.items →
    flat_map (local_part s b c) xs ≡ group_sites (local_sites s b) q (group_view local_view g)
unfolding group_sites group_view separated_sites
locals_from s b q g o items c xs eg ex =
    ap (flat_map (local_part s b c)) ex ∙ flat_map-map (λ x. local_sites s b (unwrap_or x.separator c) x.value) (item_view local_view) items.items ∙
    ap (λ z. group_sites (local_sites s b) q (group_view local_view z)) (sym eg)

pub for_from : (s : TokenSpellings) (b : Block) (q : ℕ) (x : Stmt) (p : ℕ) (h : _) (body : trees.BlockStmt) → x ≡ stmt.For p h body →
    (k : ForHeader) → k ≡ h.value →
    for_sites s (blocks.Inner s.rank p q) (out-BlockStmt body).«open» (for_view k) ++ block_sites s (block_view body) ≡ statement_sites s b q (stmt_view x)
unfolding statement_sites stmt_view
for_from s b q x p h body ex k ek =
    ap (λ z. for_sites s (blocks.Inner s.rank p q) (out-BlockStmt body).«open» (for_view z) ++ block_sites s (block_view body)) ek ∙
    ap (λ z. for_sites s (blocks.Inner s.rank p q) z (for_view h.value) ++ block_sites s (block_view body)) (open_from body) ∙
    ap (λ z. statement_sites s b q (stmt_view z)) (sym ex)
