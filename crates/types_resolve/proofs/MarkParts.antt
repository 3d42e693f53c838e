-- The marks of statements, part by part as the program goes over them.
use Rattle.std.proofs.Common.{ℕ, suc, zero, ◌≡◌, ◌+◌, ◌<◌, inl, inr, Bool, List, [], ◌∷◌, ◌++◌, length, take, get_or, ap, sym, subst, ◌∙◌, refl, arith}
use Rattle.std.specs.List.{flat_map}
use Rattle.std.proofs.Math.Seq.{take-suc}
use Rattle.go_ast.specs.View.{option_view, expr_view, exprs_view}
use Rattle.go_ast.specs.FileView.{init_view, stmt_view, block_view, statements_view, if_view, else_view}
use Rattle.go_ast.specs.declared.tree.Expr.{Expr}
use Rattle.go_ast.specs.declared.tree.Expr.TheVariants as expr
use Rattle.go_ast.specs.declared.tree.ExprItem.{ExprItem}
use Rattle.go_ast.specs.declared.tree.BlockItem.{BlockItem}
use Rattle.go_ast.specs.declared.tree.BlockStmt as trees
use Rattle.go_ast.specs.declared.tree.BlockStmt.{BlockStmt', out-BlockStmt, outs-BlockStmt', Row_of-BlockItem, end_of-BlockItem, more_of-BlockItem}
use Rattle.go_ast.specs.declared.tree.BlockStmt.{items-the_row-BlockItem, items_shown-the_row-BlockItem-0}
use Rattle.go_ast.specs.declared.tree.IfStmt.{IfStmt, IfStmt', out-IfStmt, outs-IfStmt'}
use Rattle.types_declared.specs.Laid.{Laid}
use Rattle.types_resolve.specs.StatementMarks.{StatementMark, DeclaresName, SomeDeclares, init_marks}
use Rattle.types_resolve.specs.StatementMarks.{statement_marks, statements_marks, block_marks, if_marks, else_marks}

abbrev pub statement_part : Bool → BlockItem → List StatementMark
statement_part b x = statement_marks b (stmt_view x.statement)

statement_row : (b : Bool) {n : _} (row : Row_of-BlockItem n) →
    statements_marks b (statements_view row) ≡ flat_map (statement_part b) (items-the_row-BlockItem n row)
unfolding statements_marks statements_view
statement_row b end_of-BlockItem = refl
statement_row b (more_of-BlockItem x p rest) = ap (λ z. statement_marks b (stmt_view x) ++ z) (statement_row b rest)

block_from : (b : Bool) (x : trees.BlockStmt) → flat_map (statement_part b) (out-BlockStmt x).statements.items ≡ block_marks b (block_view x)
unfolding block_marks block_view
block_from b (BlockStmt' o shape row c) =
    ap (λ r. flat_map (statement_part b) r.statements.items) (outs-BlockStmt' o shape row c) ∙
    ap (flat_map (statement_part b)) (items_shown-the_row-BlockItem-0 shape row) ∙ sym (statement_row b row)

pub block_read : (b : Bool) (x : trees.BlockStmt) (xs : List BlockItem) → xs ≡ (out-BlockStmt x).statements.items →
    flat_map (statement_part b) xs ≡ block_marks b (block_view x)
block_read b x xs e = ap (flat_map (statement_part b)) e ∙ block_from b x

pub if_from : (b : Bool) (x : IfStmt) →
    init_marks (option_view init_view (out-IfStmt x).init) ++
    (block_marks b (block_view (out-IfStmt x).body) ++ else_marks b (else_view (out-IfStmt x).otherwise)) ≡ if_marks b (if_view x)
unfolding if_marks if_view
if_from b (IfStmt' p init e body rest) =
    ap (λ r. init_marks (option_view init_view r.init) ++ (block_marks b (block_view r.body) ++ else_marks b (else_view r.otherwise)))
    (outs-IfStmt' p init e body rest)

-- Left operands

pub not_a_name : (p : Laid) (file : ℕ) (e : Expr) → ((n : ℕ) → e ≡ expr.Name n → ⊥) → DeclaresName p file (expr_view e) → ⊥
unfolding expr_view
not_a_name p file (expr.Name n) other h = other n refl
not_a_name p file (expr.Blank n) other h = h
not_a_name p file (expr.Number n) other h = h
not_a_name p file (expr.Text n) other h = h
not_a_name p file (expr.Composite' q l) other h = h
not_a_name p file (expr.Paren' o q e c) other h = h
not_a_name p file (expr.Prefix' op at q e) other h = h
not_a_name p file (expr.Address' at q l) other h = h
not_a_name p file (expr.Chain' q e shape row) other h = h
not_a_name p file (expr.Binary' q e shape row) other h = h
not_a_name p file (expr.NamedChain' n shape row) other h = h
not_a_name p file (expr.NamedBinary' n shape row) other h = h

pub some_at : (p : Laid) (file : ℕ) (xs : List ExprItem) (i : ℕ) (d : ExprItem) → i < length xs → DeclaresName p file (expr_view (get_or xs i d).value) →
    SomeDeclares p file (exprs_view xs)
some_at p file [] i d lt h = let z : i < 0 = lt in absurd (omega arith)
some_at p file (x ∷ xs) zero d lt h = inl h
some_at p file (x ∷ xs) (suc i) d lt h = inr (some_at p file xs i d (omega arith) h)

old_with : (p : Laid) (file : ℕ) (xs : List ExprItem) (x : ExprItem) → (SomeDeclares p file (exprs_view xs) → ⊥) →
    (DeclaresName p file (expr_view x.value) → ⊥) →
    SomeDeclares p file (exprs_view (xs ++ x ∷ [])) → ⊥
old_with p file [] x none old h = elim h [ inl q ↦ old q | inr z ↦ z ]
old_with p file (y ∷ ys) x none old h = elim h [ inl q ↦ none (inl q) | inr r ↦ old_with p file ys x (λ s. none (inr s)) old r ]

pub old_next : (p : Laid) (file : ℕ) (xs : List ExprItem) (i : ℕ) (x : ExprItem) → i < length xs → x ≡ get_or xs i x →
    (SomeDeclares p file (exprs_view (take i xs)) → ⊥) →
    (DeclaresName p file (expr_view x.value) → ⊥) → SomeDeclares p file (exprs_view (take (i + 1) xs)) → ⊥
old_next p file xs i x lt e none old h =
    old_with p file (take i xs) x none old
    (subst (λ z. SomeDeclares p file (exprs_view z)) (ap (λ k. take k xs) (let s : i + 1 ≡ suc i = omega arith in s) ∙ take-suc xs i x lt ∙
    ap (λ y. take i xs ++ y ∷ []) (sym e)) h)
