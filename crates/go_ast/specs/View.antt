-- The specification tree of each of the program's trees, which abstracts from memory.
use Rattle.std.specs.Prelude.{ℕ, List, Option, Some, None, map}
use Rattle.go_ast.specs.Tree as tree
use Rattle.go_ast.specs.Tree.{TypeTree, ExprTree, OperandTrees, LinkTrees, ArgumentTrees, LiteralTree, ElementTrees, IdentTree}
use Rattle.go_ast.specs.declared.tree.Item.{Item}
use Rattle.go_ast.specs.declared.tree.Group.{Group}
use Rattle.go_ast.specs.declared.tree.Group.TheVariants as group
use Rattle.go_ast.specs.declared.tree.Ident.{Ident}
use Rattle.go_ast.specs.declared.tree.Ident.TheVariants as ident
use Rattle.go_ast.specs.declared.tree.TypeExpr.{TypeExpr}
use Rattle.go_ast.specs.declared.tree.TypeExpr.TheVariants as type
use Rattle.go_ast.specs.declared.tree.Expr.{Expr, Row_of-Link, end_of-Link, more_of-Link, Row_of-Operand, end_of-Operand, more_of-Operand}
use Rattle.go_ast.specs.declared.tree.Expr.TheVariants as expr
use Rattle.go_ast.specs.declared.tree.Link.{Link, Row_of-ExprItem, end_of-ExprItem, more_of-ExprItem}
use Rattle.go_ast.specs.declared.tree.Link.TheVariants as link
use Rattle.go_ast.specs.declared.tree.ExprItem.{ExprItem}
use Rattle.go_ast.specs.declared.tree.CompositeLit.{CompositeLit, CompositeLit', Row_of-Element, end_of-Element, more_of-Element}
use Rattle.go_ast.specs.declared.tree.Key.{Key}

abbrev pub option_view : {A B : Type 0} → (A → B) → Option A → Option B
option_view f None = None
option_view f (Some x) = Some (f x)

abbrev pub item_view : {A B : Type 0} → (A → B) → Item A → tree.Item B
item_view f i = record { value = f i.value; separator = i.separator }

abbrev pub list_view : {A B : Type 0} → (A → B) → List (Item A) → List (tree.Item B)
list_view f xs = map (item_view f) xs

unfoldable pub group_view : {A B : Type 0} → (A → B) → Group A → tree.Group B
group_view f (group.Single x) = tree.single (f x)
group_view f (group.Several o xs c) = tree.several o (list_view f xs.items) c

abbrev pub ident_view : Ident → IdentTree
ident_view (ident.Named n) = tree.Named n
ident_view (ident.Blank n) = tree.Underscore n

unfoldable pub type_view : TypeExpr → TypeTree
type_view (type.Local n) = tree.Local n
type_view (type.Imported p d n) = tree.Imported p d n
type_view (type.Pointer' s p t) = tree.Pointer s (type_view t)
type_view (type.Slice' o c p t) = tree.Slice o c (type_view t)

abbrev pub key_view : Option Key → Option (ℕ × ℕ)
key_view None = None
key_view (Some k) = Some (k.name, k.colon)

unfoldable mutual
  pub expr_view : Expr → ExprTree
  expr_view (expr.Number n) = tree.Number n
  expr_view (expr.Text n) = tree.Text n
  expr_view (expr.Name n) = tree.Name n
  expr_view (expr.Blank n) = tree.Blank n
  expr_view (expr.Composite' p l) = tree.Composite (literal_view l)
  expr_view (expr.Paren' o p e c) = tree.Paren o (expr_view e) c
  expr_view (expr.Prefix' op at p e) = tree.Prefix op at (expr_view e)
  expr_view (expr.Address' at p l) = tree.Address at (literal_view l)
  expr_view (expr.Chain' p e shape row) = tree.Chain (expr_view e) (links_view row)
  expr_view (expr.Binary' p e shape row) = tree.Binary (expr_view e) (operands_view row)
  expr_view (expr.NamedChain' n shape row) = tree.Chain (tree.Name n) (links_view row)
  expr_view (expr.NamedBinary' n shape row) = tree.Binary (tree.Name n) (operands_view row)

  pub literal_view : CompositeLit → LiteralTree
  literal_view (CompositeLit' t o shape row c) = tree.literal (type_view t) o (elements_view row) c

  -- a link in front of others
  pub link_view : Link → LinkTrees → LinkTrees
  link_view (link.Selector d n) others = tree.selector d n others
  link_view (link.Index' o p e c) others = tree.index o (expr_view e) c others
  link_view (link.Call' o c shape row) others = tree.call o (arguments_view row) c others

  pub links_view : {m : _} → Row_of-Link m → LinkTrees
  links_view end_of-Link = tree.no_link
  links_view (more_of-Link l rest) = link_view l (links_view rest)

  pub operands_view : {m : _} → Row_of-Operand m → OperandTrees
  operands_view end_of-Operand = tree.no_operand
  operands_view (more_of-Operand op at e rest) = tree.operand op at (expr_view e) (operands_view rest)

  pub arguments_view : {m : _} → Row_of-ExprItem m → ArgumentTrees
  arguments_view end_of-ExprItem = tree.no_argument
  arguments_view (more_of-ExprItem e c rest) = tree.argument (expr_view e) c (arguments_view rest)

  pub elements_view : {m : _} → Row_of-Element m → ElementTrees
  elements_view end_of-Element = tree.no_element
  elements_view (more_of-Element k e c rest) = tree.element (key_view k) (expr_view e) c (elements_view rest)

abbrev pub expr_item_view : ExprItem → tree.Item ExprTree
expr_item_view i = record { value = expr_view i.value; separator = i.comma }

abbrev pub exprs_view : List ExprItem → List (tree.Item ExprTree)
exprs_view xs = map expr_item_view xs
