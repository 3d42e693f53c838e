-- Statements of the program with other token numbers.
use Rattle.std.proofs.Common.{ℕ, ◌≡◌, None, option_map, refl, ap}
use Rattle.std.specs.Box.{with_value}
use Rattle.go_ast.specs.FileView.{block_view, else_view, for_view, if_view, init_view, local_view, simple_view, statements_view, stmt_view, values_view}
use Rattle.go_ast.specs.Tree as tree
use Rattle.go_ast.specs.View.{expr_view, ident_view, type_view}
use Rattle.go_ast.specs.declared.tree.Values.{Values}
use Rattle.go_ast.specs.declared.tree.LocalSpec.{LocalSpec}
use Rattle.go_ast.specs.declared.tree.SimpleStmt.{SimpleStmt}
use Rattle.go_ast.specs.declared.tree.SimpleStmt.TheVariants as simple
use Rattle.go_ast.specs.declared.tree.IfInit.{IfInit}
use Rattle.go_ast.specs.declared.tree.ForHeader.{ForHeader}
use Rattle.go_ast.specs.declared.tree.ForHeader.TheVariants as for
use Rattle.go_ast.specs.declared.tree.Stmt.{Stmt}
use Rattle.go_ast.specs.declared.tree.Stmt.TheVariants as stmt
use Rattle.go_ast.specs.declared.tree.BlockStmt.{BlockStmt, BlockStmt', Row_of-BlockItem, end_of-BlockItem, more_of-BlockItem}
use Rattle.go_ast.specs.declared.tree.IfStmt.{IfStmt, IfStmt'}
use Rattle.go_ast.specs.declared.tree.Else.{Else}
use Rattle.go_ast.specs.declared.tree.Else.TheVariants as else
use Rattle.law_rename.specs.Renumbered.{block_by, else_by, expr_by, for_by, ident_by, if_by, init_by, local_by, simple_by, statement_by, statements_by, type_by}
use Rattle.law_rename.specs.Renumbered.{values_by}
use Rattle.law_gained_names.proofs.Expressions.{expression, expressions, identified, typed}
use Rattle.law_gained_names.proofs.Lists.{Shows, grouped, items, optional}

module _ (g : ℕ → ℕ) where
  valued : (v : Values) → Shows values_view (values_by g (expr_by g) (values_view v))
  valued v = let all = expressions g v.values in (record { assign = g v.assign; values = all.0 }, λ i. (g v.assign, all.1 i))

  locals : (l : LocalSpec) → Shows local_view (local_by g (local_view l))
  unfolding local_view
  locals l =
      let names = items g ident_view (ident_by g) (identified g) l.names in
      let type = optional type_view (type_by g) (typed g) l.local_type in
      let values = optional values_view (values_by g (expr_by g)) valued l.values in (
        record { names = names.0; local_type = type.0; values = values.0 },
        λ i. record { names = names.1 i; type_use = type.1 i; values = values.1 i },
      )

  simples : (s : SimpleStmt) → Shows simple_view (simple_by g (simple_view s))
  unfolding simple_view
  simples (simple.Expr e) = let one = expression g e in (simple.Expr one.0, ap tree.Alone one.1)
  simples (simple.Step e op p) = let one = expression g e in (simple.Step one.0 op (g p), ap (λ t. tree.Step t op (g p)) one.1)
  simples (simple.Update e op p f) =
      let one = expression g e in
      let other = expression g f.value in
      (simple.Update one.0 op (g p) (with_value f other.0), λ i. tree.Update (one.1 i) op (g p) (other.1 i))
  simples (simple.Assign es p fs) =
      let one = expressions g es in
      let other = expressions g fs in
      (simple.Assign one.0 (g p) other.0, λ i. tree.Assign (one.1 i) (g p) (other.1 i))
  simples (simple.Define es p fs) =
      let one = expressions g es in
      let other = expressions g fs in
      (simple.Define one.0 (g p) other.0, λ i. tree.Define (one.1 i) (g p) (other.1 i))

  inits : (x : IfInit) → Shows init_view (init_by g (init_view x))
  unfolding init_view
  inits x =
      let one = optional simple_view (simple_by g) simples x.statement in
      (record { statement = one.0; semicolon = g x.semicolon }, λ i. record { simple = one.1 i; semicolon = g x.semicolon })

  headers : (x : ForHeader) → Shows for_view (for_by g (for_view x))
  unfolding for_view
  headers for.Forever = (for.Forever, refl)
  headers (for.While e) = let one = expression g e in (for.While one.0, ap tree.while one.1)
  headers (for.Clauses init s condition t post) =
      let one = optional simple_view (simple_by g) simples init in
      let two = optional expr_view (expr_by g) (expression g) condition in
      let three = optional simple_view (simple_by g) simples post in
      (for.Clauses one.0 (g s) two.0 (g t) three.0, λ i. tree.clauses (one.1 i) (g s) (two.1 i) (g t) (three.1 i))

  mutual
    unfolding stmt_view block_view statements_view if_view else_view statement_by block_by statements_by if_by else_by

    stated : (s : Stmt) → Shows stmt_view (statement_by g (stmt_view s))
    stated stmt.Empty = (stmt.Empty, refl)
    stated (stmt.Var p x) =
        let one = grouped g local_view (local_by g) locals x.value in
        (stmt.Var (g p) (with_value x one.0), ap (tree.Var (g p)) one.1)
    stated (stmt.Simple s) = let one = simples s in (stmt.Simple one.0, ap tree.Simple one.1)
    stated (stmt.Block b) = let one = blocked b in (stmt.Block one.0, ap tree.Inner one.1)
    stated (stmt.If' p x) = let one = branched x in (stmt.If' p one.0, ap tree.If one.1)
    stated (stmt.For p h b) =
        let one = headers h.value in
        let two = blocked b in
        (stmt.For (g p) (with_value h one.0) two.0, λ i. tree.For (g p) (one.1 i) (two.1 i))
    stated (stmt.Break p) = (stmt.Break (g p), refl)
    stated (stmt.Continue p) = (stmt.Continue (g p), refl)
    stated (stmt.Return p es) = let all = expressions g es in (stmt.Return (g p) all.0, ap (tree.Return (g p)) all.1)

    pub blocked : (b : BlockStmt) → Shows block_view (block_by g (block_view b))
    blocked (BlockStmt' o shape row c) =
        let all = sequence row in
        (BlockStmt' (g o) shape all.0 (g c), ap (λ ss. tree.block (g o) ss (g c)) all.1)

    sequence : {m : _} (row : Row_of-BlockItem m) → (new : Row_of-BlockItem m) × (statements_view new ≡ statements_by g (statements_view row))
    sequence end_of-BlockItem = (end_of-BlockItem, refl)
    sequence (more_of-BlockItem s p row) =
        let one = stated s in
        let rest = sequence row in
        (more_of-BlockItem one.0 (option_map g p) rest.0, λ i. tree.statement (one.1 i) (option_map g p) (rest.1 i))

    branched : (x : IfStmt) → Shows if_view (if_by g (if_view x))
    branched (IfStmt' p init e b rest) =
        let one = optional init_view (init_by g) inits init in
        let two = expression g e in
        let three = blocked b in
        let four = otherwise rest in
        (IfStmt' (g p) one.0 two.0 three.0 four.0, λ i. tree.if_tree (g p) (one.1 i) (two.1 i) (three.1 i) (four.1 i))

    otherwise : (x : Else) → Shows else_view (else_by g (else_view x))
    otherwise else.None = (else.None, refl)
    otherwise (else.If' at p x) = let one = branched x in (else.If' (g at) p one.0, ap (tree.else_if (g at)) one.1)
    otherwise (else.Block at b) = let one = blocked b in (else.Block (g at) one.0, ap (tree.else_block (g at)) one.1)
