-- Well-formed statements consist of well-formed parts.
use Rattle.std.proofs.Common.{ℕ, ◌≡◌, ◌≢◌, Bool, true, false, List, [], ◌∷◌, Option, Some, None, is_some, sym, subst, refl, arith}
use Rattle.std.specs.List.{All}
use Rattle.go_ast.specs.declared.syntax.StepOp.{StepOp}
use Rattle.go_ast.specs.declared.syntax.UpdateOp.{UpdateOp}
use Rattle.go_parser.specs.declared.token_classes.Setting.{Setting}
use Rattle.go_parser.specs.declared.token_classes.Setting.TheVariants as setting
use Rattle.go_parser.specs.declared.token_classes.SetOp.{SetOp}
use Rattle.go_parser.specs.declared.token_classes.SetOp.TheVariants as set
use Rattle.go_ast.specs.declared.tree.Expr.{Expr}
use Rattle.go_ast.specs.declared.tree.ExprItem.{ExprItem}
use Rattle.go_ast.specs.declared.tree.SimpleStmt.{SimpleStmt}
use Rattle.go_ast.specs.declared.tree.SimpleStmt.TheVariants as simple
use Rattle.go_ast.specs.declared.tree.IfInit.{IfInit}
use Rattle.go_ast.specs.declared.tree.ForHeader.{ForHeader}
use Rattle.go_ast.specs.declared.tree.ForHeader.TheVariants as for
use Rattle.go_ast.specs.declared.tree.Stmt.TheVariants as stmt
use Rattle.go_ast.specs.declared.tree.Else.{Else}
use Rattle.go_ast.specs.declared.tree.Else.TheBlock.{hidden-the_row-BlockItem-0}
use Rattle.go_ast.specs.declared.tree.Else.TheViews.{roll-BlockStmt, roll-IfStmt}
use Rattle.go_ast.specs.declared.tree.Else.TheVariants as else
use Rattle.go_ast.specs.declared.tree.BlockStmt.{BlockStmt, Row_of-BlockItem, end_of-BlockItem, more_of-BlockItem, items-the_row-BlockItem}
use Rattle.go_ast.specs.declared.tree.BlockStmt.{items_hidden-the_row-BlockItem-0}
use Rattle.go_ast.specs.declared.tree.BlockItem.{BlockItem}
use Rattle.go_ast.specs.declared.tree.IfStmt.{IfStmt}
use Rattle.go_ast.specs.Tree as tree
use Rattle.go_ast.specs.Grammar.{in_head}
use Rattle.go_parser.specs.TokenClasses.{setting_of, IsAllowed}
use Rattle.go_ast.specs.WellFormed.{IsList, IsGroup, IsNoneOr, IsExprIn, IsSimple, IsPost, IsInit, IsFor, IsLocal, IsStatement, AreStatements, IsBlock}
use Rattle.go_ast.specs.WellFormed.{IsIf, IsElse}
use Rattle.go_parser.specs.Listed.{IsJoinedBy, IsListed, IsSimpleIn, AreReturnValues}
use Rattle.go_ast.specs.View.{option_view, group_view, expr_view, expr_item_view, exprs_view}
use Rattle.go_ast.specs.FileView.{local_view, simple_view, init_view, for_view, stmt_view, block_view, statements_view, if_view, else_view}
use Rattle.go_parser.proofs.ListedSteps.{listed_none, listed_push, listed_list}
use Rattle.go_parser.proofs.FormedParts.{group_formed, tail_of}

-- simple statements

pub alone_formed : (s : Setting) (e : Expr) → IsExprIn (in_head (setting_of s)) (expr_view e) → IsSimpleIn s (simple_view (simple.Expr e))
unfolding simple_view
alone_formed setting.Plain e h = h
alone_formed setting.Head e h = h
alone_formed setting.Post e h = h

pub step_formed : (s : Setting) (e : Expr) (op : StepOp) (p : ℕ) → IsExprIn (in_head (setting_of s)) (expr_view e) →
    IsSimpleIn s (simple_view (simple.Step e op p))
unfolding simple_view
step_formed setting.Plain e op p h = h
step_formed setting.Head e op p h = h
step_formed setting.Post e op p h = h

pub update_formed : (s : Setting) (e : Expr) (op : UpdateOp) (p : ℕ) (f : _) → let x = simple.Update e op p f in
    IsExprIn (in_head (setting_of s)) (expr_view e) → IsExprIn (in_head (setting_of s)) (expr_view f.value) → IsSimpleIn s (simple_view x)
unfolding simple_view
update_formed setting.Plain e op p f h k = (h, k)
update_formed setting.Head e op p f h k = (h, k)
update_formed setting.Post e op p f h k = (h, k)

pub assign_formed : (s : Setting) (es : _) (p : ℕ) (fs : _) → let x = simple.Assign es p fs in
    IsList (IsExprIn (in_head (setting_of s))) (exprs_view es.items) → IsList (IsExprIn (in_head (setting_of s))) (exprs_view fs.items) →
    IsSimpleIn s (simple_view x)
unfolding simple_view
assign_formed setting.Plain es p fs h k = (h, k)
assign_formed setting.Head es p fs h k = (h, k)
assign_formed setting.Post es p fs h k = (h, k)

pub define_formed : (s : Setting) (op : SetOp) (es : _) (p : ℕ) (fs : _) → let x = simple.Define es p fs in op ≡ set.Define → IsAllowed s op →
    IsList (IsExprIn (in_head (setting_of s))) (exprs_view es.items) → IsList (IsExprIn (in_head (setting_of s))) (exprs_view fs.items) →
    IsSimpleIn s (simple_view x)
unfolding simple_view
define_formed setting.Plain op es p fs e a h k = (h, k)
define_formed setting.Head op es p fs e a h k = (h, k)
define_formed setting.Post op es p fs e a h k = absurd (subst (λ op. IsAllowed setting.Post op) e a)

-- a list of one expression

one_listed : {X Y : Type 0} (P : Y → Type 0) (item : X → tree.Item Y) (xs : List X) (x : X) (b : Bool) → xs ≡ x ∷ [] → P (item x).value →
    b ≡ is_some (item x).separator → IsListed P item b xs
one_listed P item xs x b e h same = listed_push P item [] xs x true b (listed_none P item [] refl) refl h same e

pub begun_list : (P : tree.ExprTree → Type 0) (xs : List ExprItem) (x : ExprItem) → xs ≡ x ∷ [] → P (expr_view x.value) → is_some x.comma ≡ true →
    IsListed P expr_item_view true xs
begun_list P xs x e h same = one_listed P expr_item_view xs x true e h (sym same)

pub single_list : (P : tree.ExprTree → Type 0) (xs : List ExprItem) (x : ExprItem) → xs ≡ x ∷ [] → P (expr_view x.value) → is_some x.comma ≡ false →
    IsList P (exprs_view xs)
single_list P xs x e h same = listed_list P expr_item_view xs false (one_listed P expr_item_view xs x false e h (sym same)) refl

-- headers

pub bare_init_formed : (i : IfInit) → i.statement ≡ None → IsInit (init_view i)
unfolding init_view
bare_init_formed i e = subst (λ s. IsNoneOr (IsSimple true) (option_view simple_view s)) (sym e) tt

pub init_formed : (i : IfInit) (s : SimpleStmt) → i.statement ≡ Some s → IsSimple true (simple_view s) → IsInit (init_view i)
unfolding init_view
init_formed i s e h = subst (λ s. IsNoneOr (IsSimple true) (option_view simple_view s)) (sym e) h

pub forever_formed : IsFor (for_view for.Forever)
unfolding for_view
forever_formed = tt

pub while_formed : (e : Expr) → IsExprIn true (expr_view e) → IsFor (for_view (for.While e))
unfolding for_view
while_formed e h = h

pub clauses_formed : (header : ForHeader) (i : Option SimpleStmt) (s : ℕ) (e : Option Expr) (t : ℕ) (p : Option SimpleStmt) → header ≡ for.Clauses i s e t p →
    IsNoneOr (IsSimple true) (option_view simple_view i) → IsNoneOr (IsExprIn true) (option_view expr_view e) → IsNoneOr IsPost (option_view simple_view p) →
    IsFor (for_view header)
unfolding for_view
clauses_formed header i s e t p same a b c = subst (λ h. IsFor (for_view h)) (sym same) (a, b, c)

-- statements

pub empty_formed : IsStatement (stmt_view stmt.Empty)
unfolding IsStatement stmt_view
empty_formed = tt

pub var_formed : (p : ℕ) (g : _) → let x = stmt.Var p g in IsGroup (λ l. IsLocal (local_view l)) (group_view (λ y. y) g.value) →
    IsStatement (stmt_view x)
unfolding IsStatement stmt_view
var_formed p g h = group_formed IsLocal local_view g.value h

pub simple_stmt_formed : (s : SimpleStmt) → IsSimple false (simple_view s) → IsStatement (stmt_view (stmt.Simple s))
unfolding IsStatement stmt_view
simple_stmt_formed s h = h

pub block_stmt_formed : (b : BlockStmt) → IsBlock (block_view b) → IsStatement (stmt_view (stmt.Block b))
unfolding IsStatement stmt_view
block_stmt_formed b h = h

pub if_stmt_formed : (i : _) → let x = stmt.If i in IsIf (if_view i.value) → IsStatement (stmt_view x)
unfolding IsStatement stmt_view
if_stmt_formed i h = h

pub for_stmt_formed : (p : ℕ) (f : _) (b : BlockStmt) → let x = stmt.For p f b in IsFor (for_view f.value) → IsBlock (block_view b) → IsStatement (stmt_view x)
unfolding IsStatement stmt_view
for_stmt_formed p f b h k = (h, k)

pub break_formed : (p : ℕ) → IsStatement (stmt_view (stmt.Break p))
unfolding IsStatement stmt_view
break_formed p = tt

pub continue_formed : (p : ℕ) → IsStatement (stmt_view (stmt.Continue p))
unfolding IsStatement stmt_view
continue_formed p = tt

pub return_formed : (p : ℕ) (es : _) → let x = stmt.Return p es in AreReturnValues (exprs_view es.items) → IsStatement (stmt_view x)
unfolding IsStatement stmt_view
return_formed p es h = h

-- blocks

abbrev pub block_item_view : BlockItem → tree.Item tree.StatementTree
block_item_view i = record { value = stmt_view i.statement; separator = i.semicolon }

some_row : {n : _} (row : Row_of-BlockItem n) → IsJoinedBy (λ i. i.semicolon) (items-the_row-BlockItem n row) → statements_view row ≢ tree.no_statement
unfolding statements_view
some_row end_of-BlockItem h e = h
some_row (more_of-BlockItem s p rest) h e = cc

row_formed : {n : _} (row : Row_of-BlockItem n) → All (λ i. IsStatement (stmt_view i.statement)) (items-the_row-BlockItem n row) →
    IsJoinedBy (λ i. i.semicolon) (items-the_row-BlockItem n row) → AreStatements (statements_view row)
unfolding AreStatements statements_view
row_formed end_of-BlockItem a h = tt
row_formed (more_of-BlockItem s None end_of-BlockItem) a h = (a 0 (record { statement = s; semicolon = None }) (omega arith), refl)
row_formed (more_of-BlockItem s (Some p) end_of-BlockItem) a h = absurd (let f : ⊥ = cc in f)
row_formed (more_of-BlockItem s None (more_of-BlockItem t q rest)) a h = absurd (let f : ⊥ = cc in f)
row_formed (more_of-BlockItem s (Some p) (more_of-BlockItem t q rest)) a h = (
  a 0 (record { statement = s; semicolon = Some p }) (omega arith),
  some_row (more_of-BlockItem t q rest) h.1,
  row_formed (more_of-BlockItem t q rest) (tail_of (λ i. IsStatement (stmt_view i.statement)) (record { statement = s; semicolon = Some p })
      (items-the_row-BlockItem _ (more_of-BlockItem t q rest)) a) h.1,
)

pub block_formed : (o : ℕ) (ss : _) (c : ℕ) → let x = block_view (roll-BlockStmt (record { «open» = o; statements = ss; close = c })) in
    IsListed IsStatement block_item_view false ss.items → IsBlock x
unfolding IsBlock block_view roll-BlockStmt denote.Hole.Carrier.roll
block_formed o ss c w =
    let same = sym (items_hidden-the_row-BlockItem-0 ss) in (
      some_row (hidden-the_row-BlockItem-0 ss) (subst (IsJoinedBy (λ (i : BlockItem). i.semicolon)) same (w.joined refl)),
      row_formed (hidden-the_row-BlockItem-0 ss) (subst (All (λ (i : BlockItem). IsStatement (stmt_view i.statement))) same w.each)
          (subst (IsJoinedBy (λ (i : BlockItem). i.semicolon)) same (w.joined refl)),
    )

-- `if` and `else`

pub if_formed : (p : ℕ) (i : Option IfInit) (e : Expr) (b : BlockStmt) (rest : Else) → IsNoneOr IsInit (option_view init_view i) → IsExprIn true (expr_view e) →
    IsBlock (block_view b) → IsElse (else_view rest) →
    IsIf (if_view (roll-IfStmt (record { at = p; init = i; condition = e; body = b; otherwise = rest })))
unfolding IsIf if_view roll-IfStmt denote.Hole.Carrier.roll
if_formed p i e b rest h k l m = (h, k, l, m)

pub no_else_formed : IsElse (else_view else.None)
unfolding IsElse else_view
no_else_formed = tt

pub else_if_formed : (p : ℕ) (i : _) → let x = else.If p i in IsIf (if_view i.value) → IsElse (else_view x)
unfolding IsElse else_view
else_if_formed p i h = h

pub else_block_formed : (p : ℕ) (b : BlockStmt) → IsBlock (block_view b) → IsElse (else_view (else.Block p b))
unfolding IsElse else_view
else_block_formed p b h = h
