-- Views of lists of syntax nodes: the plain trees of links, operands, arguments and elements.
use Rattle.std.specs.Prelude.{List, [], ◌∷◌}
use Rattle.go_ast.specs.Tree as tree
use Rattle.go_ast.specs.declared.tree.Link.{Link}
use Rattle.go_ast.specs.declared.tree.Operand.{Operand}
use Rattle.go_ast.specs.declared.tree.ExprItem.{ExprItem}
use Rattle.go_ast.specs.declared.tree.Element.{Element}
use Rattle.go_ast.specs.View.{expr_view, link_view, key_view}

unfoldable pub links_in : List Link → tree.LinkTrees
links_in [] = tree.no_link
links_in (l ∷ ls) = link_view l (links_in ls)

unfoldable pub operands_in : List Operand → tree.OperandTrees
operands_in [] = tree.no_operand
operands_in (o ∷ os) = tree.operand o.op o.at (expr_view o.value) (operands_in os)

unfoldable pub arguments_in : List ExprItem → tree.ArgumentTrees
arguments_in [] = tree.no_argument
arguments_in (a ∷ rest) = tree.argument (expr_view a.value) a.comma (arguments_in rest)

unfoldable pub elements_in : List Element → tree.ElementTrees
elements_in [] = tree.no_element
elements_in (e ∷ es) = tree.element (key_view e.key) (expr_view e.value) e.comma (elements_in es)
