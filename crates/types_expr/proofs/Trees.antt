-- The parts of an expression's tree, from the lists in which src/ holds them.
use Rattle.std.proofs.Common.{ℕ, ◌≡◌, ap, ◌∙◌, sym, refl}
use Rattle.go_ast.specs.declared.tree.Expr.{Row_of-Link, end_of-Link, more_of-Link, items-the_row-Link, items_hidden-the_row-Link-0, Row_of-Operand}
use Rattle.go_ast.specs.declared.tree.Expr.{end_of-Operand, more_of-Operand, items-the_row-Operand, items_hidden-the_row-Operand-1}
use Rattle.go_ast.specs.declared.tree.Expr.TheBlock.{hidden-the_row-Link-0, hidden-the_row-Operand-1, hidden-the_row-ExprItem-2}
use Rattle.go_ast.specs.declared.tree.Expr.TheVariants as expr
use Rattle.go_ast.specs.declared.tree.Link.{Link, Row_of-ExprItem, end_of-ExprItem, more_of-ExprItem, items-the_row-ExprItem, items_hidden-the_row-ExprItem-2}
use Rattle.go_ast.specs.declared.tree.Link.TheVariants as link
use Rattle.go_ast.specs.declared.tree.CompositeLit.{CompositeLit, CompositeLit', out-CompositeLit, Row_of-Element, end_of-Element, more_of-Element}
use Rattle.go_ast.specs.declared.tree.CompositeLit.{items-the_row-Element, items_shown-the_row-Element-3, outs-CompositeLit'}
use Rattle.go_ast.specs.Tree as tree
use Rattle.go_ast.specs.View.{type_view, expr_view, literal_view, link_view, links_view, operands_view, arguments_view, elements_view, key_view}
use Rattle.types_expr.specs.Lists.{links_in, operands_in, arguments_in, elements_in}
use Rattle.types_expr.specs.Places.{first_of_type, first_of_literal, place_after_link, place_of, place_of_links, first_token}

link_row : {n : _} (row : Row_of-Link n) → links_view row ≡ links_in (items-the_row-Link n row)
unfolding links_view links_in
link_row end_of-Link = refl
link_row (more_of-Link l rest) = ap (link_view l) (link_row rest)

pub chain_tree : (first : _) (links : _) → expr_view (expr.Chain first links) ≡ tree.Chain (expr_view first.value) (links_in links.items)
unfolding expr_view
chain_tree first links = ap (tree.Chain (expr_view first.value)) (link_row (hidden-the_row-Link-0 links) ∙ ap links_in (items_hidden-the_row-Link-0 links))

pub named_chain_tree : (n : ℕ) (links : _) → expr_view (expr.NamedChain n links) ≡ tree.Chain (tree.Name n) (links_in links.items)
unfolding expr_view
named_chain_tree n links = ap (tree.Chain (tree.Name n)) (link_row (hidden-the_row-Link-0 links) ∙ ap links_in (items_hidden-the_row-Link-0 links))

operand_row : {n : _} (row : Row_of-Operand n) → operands_view row ≡ operands_in (items-the_row-Operand n row)
unfolding operands_view operands_in
operand_row end_of-Operand = refl
operand_row (more_of-Operand op at e rest) = ap (tree.operand op at (expr_view e)) (operand_row rest)

pub binary_tree : (first : _) (rest : _) → expr_view (expr.Binary first rest) ≡ tree.Binary (expr_view first.value) (operands_in rest.items)
unfolding expr_view
binary_tree first rest = ap (tree.Binary (expr_view first.value))
    (operand_row (hidden-the_row-Operand-1 rest) ∙ ap operands_in (items_hidden-the_row-Operand-1 rest))

pub named_binary_tree : (n : ℕ) (rest : _) → expr_view (expr.NamedBinary n rest) ≡ tree.Binary (tree.Name n) (operands_in rest.items)
unfolding expr_view
named_binary_tree n rest = ap (tree.Binary (tree.Name n))
    (operand_row (hidden-the_row-Operand-1 rest) ∙ ap operands_in (items_hidden-the_row-Operand-1 rest))

argument_row : {n : _} (row : Row_of-ExprItem n) → arguments_view row ≡ arguments_in (items-the_row-ExprItem n row)
unfolding arguments_view arguments_in
argument_row end_of-ExprItem = refl
argument_row (more_of-ExprItem e c rest) = ap (tree.argument (expr_view e) c) (argument_row rest)

pub call_tree : (o : ℕ) (arguments : _) (c : ℕ) (others : tree.LinkTrees) →
    link_view (link.Call o c arguments) others ≡ tree.call o (arguments_in arguments.items) c others
unfolding link_view
call_tree o arguments c others = ap (λ xs. tree.call o xs c others)
    (argument_row (hidden-the_row-ExprItem-2 arguments) ∙ ap arguments_in (items_hidden-the_row-ExprItem-2 arguments))

element_row : {n : _} (row : Row_of-Element n) → elements_view row ≡ elements_in (items-the_row-Element n row)
unfolding elements_view elements_in
element_row end_of-Element = refl
element_row (more_of-Element k e c rest) = ap (tree.element (key_view k) (expr_view e) c) (element_row rest)

pub literal_tree : (l : CompositeLit) → literal_view l ≡
    tree.literal (type_view (out-CompositeLit l).literal_type) (out-CompositeLit l).open (elements_in (out-CompositeLit l).elements.items)
    (out-CompositeLit l).close
unfolding literal_view
literal_tree (CompositeLit' t o shape row c) = ap (λ es. tree.literal (type_view t) o es c)
    (element_row row ∙ ap elements_in (sym (items_shown-the_row-Element-3 shape row)))
    ∙ ap (λ r. tree.literal (type_view r.literal_type) r.open (elements_in r.elements.items) r.close) (sym (outs-CompositeLit' t o shape row c))

pub first_of_literal_tree : (l : CompositeLit) → first_of_literal (literal_view l) ≡ first_of_type (type_view (out-CompositeLit l).literal_type)
first_of_literal_tree l = ap first_of_literal (literal_tree l)

pub chain_stands : (first : _) (links : _) → place_of (expr_view (expr.Chain first links)) ≡ place_of_links (first_token (expr_view first.value))
    (first_token (expr_view first.value)) (links_in links.items)
unfolding place_of
chain_stands first links = ap place_of (chain_tree first links)

pub named_chain_stands : (n : ℕ) (links : _) → place_of (expr_view (expr.NamedChain n links)) ≡ place_of_links n n (links_in links.items)
unfolding place_of first_token
named_chain_stands n links = ap place_of (named_chain_tree n links)

pub place_step : (start here : ℕ) (l : Link) (rest : tree.LinkTrees) →
    place_of_links start here (link_view l rest) ≡ place_of_links start (place_after_link start (link_view l tree.no_link)) rest
unfolding place_of_links link_view
place_step start here (link.Selector d n) rest = refl
place_step start here (link.Index' o p e c) rest = refl
place_step start here (link.Call' o c shape row) rest = refl
