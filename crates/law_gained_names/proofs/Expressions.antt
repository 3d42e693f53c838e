-- Expressions of the program with other token numbers.
use Rattle.std.proofs.Common.{ℕ, ◌≡◌, Option, Some, None, Vec, option_map, refl, ap}
use Rattle.go_ast.specs.Tree as tree
use Rattle.go_ast.specs.Tree.{LinkTrees}
use Rattle.go_ast.specs.View.{arguments_view, elements_view, expr_item_view, expr_view, exprs_view, ident_view, key_view, link_view, links_view, literal_view}
use Rattle.go_ast.specs.View.{operands_view, type_view}
use Rattle.go_ast.specs.declared.tree.Ident.{Ident}
use Rattle.go_ast.specs.declared.tree.Ident.TheVariants as ident
use Rattle.go_ast.specs.declared.tree.TypeExpr.{TypeExpr}
use Rattle.go_ast.specs.declared.tree.TypeExpr.TheVariants as type
use Rattle.go_ast.specs.declared.tree.Expr.{Expr, Row_of-Link, end_of-Link, more_of-Link, Row_of-Operand, end_of-Operand, more_of-Operand}
use Rattle.go_ast.specs.declared.tree.Expr.TheVariants as expr
use Rattle.go_ast.specs.declared.tree.Link.{Link, Row_of-ExprItem, end_of-ExprItem, more_of-ExprItem}
use Rattle.go_ast.specs.declared.tree.Link.TheVariants as link
use Rattle.go_ast.specs.declared.tree.ExprItem.{ExprItem}
use Rattle.go_ast.specs.declared.tree.CompositeLit.{CompositeLit, CompositeLit', Row_of-Element, end_of-Element, more_of-Element}
use Rattle.go_ast.specs.declared.tree.Key.{Key}
use Rattle.law_rename.specs.Renumbered.{arguments_by, elements_by, expr_by, exprs_by, ident_by, item_by, key_by, links_by, literal_by, operands_by, type_by}
use Rattle.law_gained_names.proofs.Lists.{Shows, all_shown}

module _ (g : ℕ → ℕ) where
  pub identified : (x : Ident) → Shows ident_view (ident_by g (ident_view x))
  identified (ident.Named n) = (ident.Named (g n), refl)
  identified (ident.Blank n) = (ident.Blank (g n), refl)

  pub typed : (t : TypeExpr) → Shows type_view (type_by g (type_view t))
  unfolding type_view type_by
  typed (type.Local n) = (type.Local (g n), refl)
  typed (type.Imported p d n) = (type.Imported (g p) (g d) (g n), refl)
  typed (type.Pointer' s p t) = let one = typed t in (type.Pointer' (g s) p one.0, ap (tree.Pointer (g s)) one.1)
  typed (type.Slice' o c p t) = let one = typed t in (type.Slice' (g o) (g c) p one.0, ap (tree.Slice (g o) (g c)) one.1)

  keyed : (k : Option Key) → Shows key_view (key_by g (key_view k))
  keyed None = (None, refl)
  keyed (Some k) = (Some (record { name = g k.name; colon = g k.colon }), refl)

  -- a link, in front of others
  abbrev ShowsLink : Link → Type 0
  ShowsLink l = (k : Link) × ((others new : LinkTrees) → new ≡ links_by g others → link_view k new ≡ links_by g (link_view l others))

  mutual
    unfolding expr_view literal_view link_view links_view operands_view arguments_view elements_view expr_by literal_by links_by operands_by arguments_by
        elements_by

    pub expression : (e : Expr) → Shows expr_view (expr_by g (expr_view e))
    expression (expr.Number n) = (expr.Number (g n), refl)
    expression (expr.Text n) = (expr.Text (g n), refl)
    expression (expr.Name n) = (expr.Name (g n), refl)
    expression (expr.Blank n) = (expr.Blank (g n), refl)
    expression (expr.Composite' p l) = let one = composite l in (expr.Composite' p one.0, ap tree.Composite one.1)
    expression (expr.Paren' o p e c) = let one = expression e in (expr.Paren' (g o) p one.0 (g c), ap (λ t. tree.Paren (g o) t (g c)) one.1)
    expression (expr.Prefix' op at p e) = let one = expression e in (expr.Prefix' op (g at) p one.0, ap (tree.Prefix op (g at)) one.1)
    expression (expr.Address' at p l) = let one = composite l in (expr.Address' (g at) p one.0, ap (tree.Address (g at)) one.1)
    expression (expr.Chain' p e shape row) =
        let one = expression e in
        let rest = links row in
        (expr.Chain' p one.0 shape rest.0, λ i. tree.Chain (one.1 i) (rest.1 i))
    expression (expr.Binary' p e shape row) =
        let one = expression e in
        let rest = operands row in
        (expr.Binary' p one.0 shape rest.0, λ i. tree.Binary (one.1 i) (rest.1 i))
    expression (expr.NamedChain' n shape row) = let rest = links row in (expr.NamedChain' (g n) shape rest.0, ap (tree.Chain (tree.Name (g n))) rest.1)
    expression (expr.NamedBinary' n shape row) =
        let rest = operands row in
        (expr.NamedBinary' (g n) shape rest.0, ap (tree.Binary (tree.Name (g n))) rest.1)

    composite : (l : CompositeLit) → Shows literal_view (literal_by g (literal_view l))
    composite (CompositeLit' t o shape row c) =
        let one = typed t in
        let all = elements row in
        (CompositeLit' one.0 (g o) shape all.0 (g c), λ i. tree.literal (one.1 i) (g o) (all.1 i) (g c))

    linked : (l : Link) → ShowsLink l
    linked (link.Selector d n) = (link.Selector (g d) (g n), λ others new e. ap (tree.selector (g d) (g n)) e)
    linked (link.Index' o p e c) =
        let one = expression e in
        (link.Index' (g o) p one.0 (g c), λ others new e. λ i. tree.index (g o) (one.1 i) (g c) (e i))
    linked (link.Call' o c shape row) =
        let all = arguments row in
        (link.Call' (g o) (g c) shape all.0, λ others new e. λ i. tree.call (g o) (all.1 i) (g c) (e i))

    links : {m : _} (row : Row_of-Link m) → (new : Row_of-Link m) × (links_view new ≡ links_by g (links_view row))
    links end_of-Link = (end_of-Link, refl)
    links (more_of-Link l row) =
        let one = linked l in
        let rest = links row in
        (more_of-Link one.0 rest.0, one.1 (links_view row) (links_view rest.0) rest.1)

    operands : {m : _} (row : Row_of-Operand m) → (new : Row_of-Operand m) × (operands_view new ≡ operands_by g (operands_view row))
    operands end_of-Operand = (end_of-Operand, refl)
    operands (more_of-Operand op at e row) =
        let one = expression e in
        let rest = operands row in
        (more_of-Operand op (g at) one.0 rest.0, λ i. tree.operand op (g at) (one.1 i) (rest.1 i))

    arguments : {m : _} (row : Row_of-ExprItem m) → (new : Row_of-ExprItem m) × (arguments_view new ≡ arguments_by g (arguments_view row))
    arguments end_of-ExprItem = (end_of-ExprItem, refl)
    arguments (more_of-ExprItem e c row) =
        let one = expression e in
        let rest = arguments row in
        (more_of-ExprItem one.0 (option_map g c) rest.0, λ i. tree.argument (one.1 i) (option_map g c) (rest.1 i))

    elements : {m : _} (row : Row_of-Element m) → (new : Row_of-Element m) × (elements_view new ≡ elements_by g (elements_view row))
    elements end_of-Element = (end_of-Element, refl)
    elements (more_of-Element k e c row) =
        let key = keyed k in
        let one = expression e in
        let rest = elements row in
        (more_of-Element key.0 one.0 (option_map g c) rest.0, λ i. tree.element (key.1 i) (one.1 i) (option_map g c) (rest.1 i))

  expression_item : (x : ExprItem) → Shows expr_item_view (item_by g (expr_by g) (expr_item_view x))
  expression_item x =
      let one = expression x.value in
      (record { value = one.0; comma = option_map g x.comma }, λ i. record { value = one.1 i; separator = option_map g x.comma })

  pub expressions : {Z : Type 0} (v : Vec ExprItem Z) → (w : Vec ExprItem Z) × (exprs_view w.items ≡ exprs_by g (exprs_view v.items))
  expressions v = all_shown expr_item_view (item_by g (expr_by g)) expression_item v
