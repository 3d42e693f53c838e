-- The code of expressions of src/, form by form.
use Rattle.std.proofs.Common.{ℕ, ◌≡◌, ◌∷◌, ◌++◌, [], List, ap, sym, ◌∙◌, refl, length, suc}
use Rattle.go_ast.specs.declared.syntax.PrefixOp.{PrefixOp}
use Rattle.go_ast.specs.declared.tree.Expr.TheVariants as expr
use Rattle.go_ast.specs.declared.tree.Expr.{Expr}
use Rattle.go_ast.specs.declared.tree.Operand.{Operand}
use Rattle.go_ast.specs.declared.tree.ExprItem.{ExprItem}
use Rattle.go_ast.specs.declared.tree.Element.{Element}
use Rattle.go_ast.specs.declared.tree.Link.{Link}
use Rattle.go_ast.specs.declared.tree.Link.TheVariants as link
use Rattle.go_ast.specs.declared.tree.CompositeLit.{CompositeLit, out-CompositeLit}
use Rattle.go_ast.specs.Tree as tree
use Rattle.go_ast.specs.View.{type_view, expr_view, link_view, literal_view, key_view}
use Rattle.types_expr.specs.Lists.{links_in, operands_in, arguments_in, elements_in}
use Rattle.types_expr.specs.Judge.{judge_type}
use Rattle.types_expr.proofs.Trees.{chain_tree, named_binary_tree, named_chain_tree, binary_tree, call_tree, literal_tree}
use Rattle.build_object.specs.Lines.{CodeLine, With, New, line_if_known}
use Rattle.build_object.specs.Lines as line
use Rattle.build_object.specs.Source.{Source}
use Rattle.build_object.specs.Operands as ops
use Rattle.build_object.specs.Operands.{plain, mode_alone, Values, name_operand, prefixed, operated, selected, indexed, called, settled, grouped}
use Rattle.build_object.specs.Expressions.{operand_of, operations, linked, one_link, argument_count, element_count, argument_lines, literal_lines, keyed_lines}
use Rattle.build_object.specs.Expressions.{bare_lines, typed_literal, key_position, value_lines, given_lines}

pub number_here : (s : Source) (slots : List ℕ) {e : Expr} (p : ℕ) → e ≡ expr.Number p →
    operand_of s slots (expr_view e) ≡ plain (line_if_known line.Integer (s.number p))
unfolding operand_of expr_view
number_here s slots p is = ap (λ x. operand_of s slots (expr_view x)) is

pub text_here : (s : Source) (slots : List ℕ) {e : Expr} (p : ℕ) → e ≡ expr.Text p →
    operand_of s slots (expr_view e) ≡ plain (line_if_known line.Text (s.text p))
unfolding operand_of expr_view
text_here s slots p is = ap (λ x. operand_of s slots (expr_view x)) is

pub name_here : (s : Source) (slots : List ℕ) {e : Expr} (p : ℕ) → e ≡ expr.Name p → operand_of s slots (expr_view e) ≡ name_operand s slots p
unfolding operand_of expr_view
name_here s slots p is = ap (λ x. operand_of s slots (expr_view x)) is

pub blank_here : (s : Source) (slots : List ℕ) {e : Expr} (p : ℕ) → e ≡ expr.Blank p → operand_of s slots (expr_view e) ≡ mode_alone (Values 0)
unfolding operand_of expr_view
blank_here s slots p is = ap (λ x. operand_of s slots (expr_view x)) is

pub composite_here : (s : Source) (slots : List ℕ) {e : Expr} (b : _) → e ≡ expr.Composite b → (l : CompositeLit) → l ≡ b.value →
    operand_of s slots (expr_view e) ≡ plain (literal_lines s slots (literal_view l))
unfolding operand_of expr_view
composite_here s slots b is l hl = ap (λ z. operand_of s slots (expr_view z)) is ∙ ap (λ z. plain (literal_lines s slots (literal_view z))) (sym hl)

pub paren_here : (s : Source) (slots : List ℕ) {e : Expr} (o : ℕ) (b : _) (c : ℕ) → e ≡ expr.Paren o b c → (x : Expr) → x ≡ b.value →
    operand_of s slots (expr_view e) ≡ grouped (operand_of s slots (expr_view x))
unfolding operand_of expr_view
paren_here s slots o b c is x hx = ap (λ z. operand_of s slots (expr_view z)) is ∙ ap (λ z. grouped (operand_of s slots (expr_view z))) (sym hx)

pub prefix_here : (s : Source) (slots : List ℕ) {e : Expr} (op : PrefixOp) (p : ℕ) (b : _) → e ≡ expr.Prefix op p b → (x : Expr) → x ≡ b.value →
    operand_of s slots (expr_view e) ≡ prefixed op (operand_of s slots (expr_view x)).value
unfolding operand_of expr_view
prefix_here s slots op p b is x hx = ap (λ z. operand_of s slots (expr_view z)) is ∙ ap (λ z. prefixed op (operand_of s slots (expr_view z)).value) (sym hx)

pub address_here : (s : Source) (slots : List ℕ) {e : Expr} (p : ℕ) (b : _) → e ≡ expr.Address p b → (l : CompositeLit) → l ≡ b.value →
    operand_of s slots (expr_view e) ≡ plain (literal_lines s slots (literal_view l) ++ (New ∷ []))
unfolding operand_of expr_view
address_here s slots p b is l hl = ap (λ z. operand_of s slots (expr_view z)) is ∙
    ap (λ z. plain (literal_lines s slots (literal_view z) ++ (New ∷ []))) (sym hl)

chain_at : (s : Source) (slots : List ℕ) (b : _) (links : _) →
    operand_of s slots (expr_view (expr.Chain b links)) ≡ settled (linked s slots (operand_of s slots (expr_view b.value)) (links_in links.items))
unfolding operand_of
chain_at s slots b links = ap (operand_of s slots) (chain_tree b links)

pub chain_here : (s : Source) (slots : List ℕ) {e : Expr} (b : _) (links : _) → e ≡ expr.Chain b links → (x : Expr) (xs : List Link) → x ≡ b.value →
    xs ≡ links.items →
    operand_of s slots (expr_view e) ≡ settled (linked s slots (operand_of s slots (expr_view x)) (links_in xs))
chain_here s slots b links is x xs hx hxs = ap (λ z. operand_of s slots (expr_view z)) is ∙ (chain_at s slots b links
    ∙ (ap (λ z. settled (linked s slots (operand_of s slots (expr_view z)) (links_in links.items))) (sym hx) ∙
    ap (λ z. settled (linked s slots (operand_of s slots (expr_view x)) (links_in z))) (sym hxs)))

named_chain_at : (s : Source) (slots : List ℕ) (n : ℕ) (links : _) →
    operand_of s slots (expr_view (expr.NamedChain n links)) ≡ settled (linked s slots (name_operand s slots n) (links_in links.items))
unfolding operand_of
named_chain_at s slots n links = ap (operand_of s slots) (named_chain_tree n links)

pub named_chain_here : (s : Source) (slots : List ℕ) {e : Expr} (n : ℕ) (links : _) → e ≡ expr.NamedChain n links → (xs : List Link) → xs ≡ links.items →
    operand_of s slots (expr_view e) ≡ settled (linked s slots (name_operand s slots n) (links_in xs))
named_chain_here s slots n links is xs hxs = ap (λ z. operand_of s slots (expr_view z)) is ∙ (named_chain_at s slots n links
    ∙ ap (λ z. settled (linked s slots (name_operand s slots n) (links_in z))) (sym hxs))

binary_at : (s : Source) (slots : List ℕ) (b : _) (rest : _) →
    operand_of s slots (expr_view (expr.Binary b rest)) ≡ plain (operations s slots (operand_of s slots (expr_view b.value)).value (operands_in rest.items))
unfolding operand_of
binary_at s slots b rest = ap (operand_of s slots) (binary_tree b rest)

pub binary_here : (s : Source) (slots : List ℕ) {e : Expr} (b : _) (rest : _) → e ≡ expr.Binary b rest → (x : Expr) (xs : List Operand) → x ≡ b.value →
    xs ≡ rest.items →
    operand_of s slots (expr_view e) ≡ plain (operations s slots (operand_of s slots (expr_view x)).value (operands_in xs))
binary_here s slots b rest is x xs hx hxs = ap (λ z. operand_of s slots (expr_view z)) is ∙ (binary_at s slots b rest
    ∙ (ap (λ z. plain (operations s slots (operand_of s slots (expr_view z)).value (operands_in rest.items))) (sym hx) ∙
    ap (λ z. plain (operations s slots (operand_of s slots (expr_view x)).value (operands_in z))) (sym hxs)))

named_binary_at : (s : Source) (slots : List ℕ) (n : ℕ) (rest : _) →
    operand_of s slots (expr_view (expr.NamedBinary n rest)) ≡ plain (operations s slots (name_operand s slots n).value (operands_in rest.items))
unfolding operand_of
named_binary_at s slots n rest = ap (operand_of s slots) (named_binary_tree n rest)

pub named_binary_here : (s : Source) (slots : List ℕ) {e : Expr} (n : ℕ) (rest : _) → e ≡ expr.NamedBinary n rest → (xs : List Operand) → xs ≡ rest.items →
    operand_of s slots (expr_view e) ≡ plain (operations s slots (name_operand s slots n).value (operands_in xs))
named_binary_here s slots n rest is xs hxs = ap (λ z. operand_of s slots (expr_view z)) is ∙ (named_binary_at s slots n rest
    ∙ ap (λ z. plain (operations s slots (name_operand s slots n).value (operands_in z))) (sym hxs))

-- one link

pub selector_here : (s : Source) (slots : List ℕ) {l : Link} (d n : ℕ) (o : ops.CodeOperand) → l ≡ link.Selector d n →
    one_link s slots (link_view l tree.no_link) o ≡ selected s slots n o
unfolding one_link link_view
selector_here s slots d n o is = ap (λ x. one_link s slots (link_view x tree.no_link) o) is

pub index_here : (s : Source) (slots : List ℕ) {l : Link} (b : ℕ) (e : _) (c : ℕ) (o : ops.CodeOperand) → l ≡ link.Index b e c →
    (v : Expr) → v ≡ e.value → one_link s slots (link_view l tree.no_link) o ≡ indexed o (value_lines s slots (expr_view v))
unfolding one_link link_view
index_here s slots b e c o is v h = ap (λ x. one_link s slots (link_view x tree.no_link) o) is ∙
    ap (λ x. indexed o (value_lines s slots (expr_view x))) (sym h)

call_at : (s : Source) (slots : List ℕ) (b : ℕ) (xs : _) (c : ℕ) (o : ops.CodeOperand) →
    one_link s slots (link_view (link.Call b c xs) tree.no_link) o ≡ called o (argument_count (arguments_in xs.items))
    (argument_lines s slots (arguments_in xs.items))
unfolding one_link
call_at s slots b xs c o = ap (λ x. one_link s slots x o) (call_tree b xs c tree.no_link)

pub count_arguments : (xs : List ExprItem) → argument_count (arguments_in xs) ≡ length xs
unfolding argument_count arguments_in
count_arguments [] = refl
count_arguments (x ∷ xs) = ap suc (count_arguments xs)

pub call_here : (s : Source) (slots : List ℕ) {l : Link} (b : ℕ) (xs : _) (c : ℕ) (o : ops.CodeOperand) → l ≡ link.Call b c xs → (items : List ExprItem) →
    items ≡ xs.items →
    one_link s slots (link_view l tree.no_link) o ≡ called o (length items) (argument_lines s slots (arguments_in items))
call_here s slots b xs c o is items h = ap (λ x. one_link s slots (link_view x tree.no_link) o) is ∙ (call_at s slots b xs c o
    ∙ (ap (λ z. called o (argument_count (arguments_in z)) (argument_lines s slots (arguments_in z))) (sym h)
    ∙ ap (λ n. called o n (argument_lines s slots (arguments_in items))) (count_arguments items)))

-- the parts of a list in turn

pub operations_step : (s : Source) (slots : List ℕ) (a : List CodeLine) (o : Operand) (rest : List Operand) →
    operations s slots a (operands_in (o ∷ rest)) ≡ operations s slots (operated o.op a (value_lines s slots (expr_view o.value))) (operands_in rest)
unfolding operations operands_in
operations_step s slots a o rest = refl

pub operations_end : (s : Source) (slots : List ℕ) (a : List CodeLine) → operations s slots a (operands_in []) ≡ a
unfolding operations operands_in
operations_end s slots a = refl

pub arguments_step : (s : Source) (slots : List ℕ) (a : ExprItem) (rest : List ExprItem) →
    argument_lines s slots (arguments_in (a ∷ rest)) ≡ given_lines s slots (expr_view a.value) ++ argument_lines s slots (arguments_in rest)
unfolding argument_lines arguments_in
arguments_step s slots a rest = refl

pub arguments_end : (s : Source) (slots : List ℕ) → argument_lines s slots (arguments_in []) ≡ []
unfolding argument_lines arguments_in
arguments_end s slots = refl

pub keyed_step : (s : Source) (slots : List ℕ) (x : Element) (rest : List Element) →
    keyed_lines s slots (elements_in (x ∷ rest)) ≡ given_lines s slots (expr_view x.value) ++
    (line_if_known With (key_position s (key_view x.key)) ++ keyed_lines s slots (elements_in rest))
unfolding keyed_lines elements_in
keyed_step s slots x rest = refl

pub keyed_end : (s : Source) (slots : List ℕ) → keyed_lines s slots (elements_in []) ≡ []
unfolding keyed_lines elements_in
keyed_end s slots = refl

pub bare_step : (s : Source) (slots : List ℕ) (x : Element) (rest : List Element) →
    bare_lines s slots (elements_in (x ∷ rest)) ≡ given_lines s slots (expr_view x.value) ++ bare_lines s slots (elements_in rest)
unfolding bare_lines elements_in
bare_step s slots x rest = refl

pub bare_end : (s : Source) (slots : List ℕ) → bare_lines s slots (elements_in []) ≡ []
unfolding bare_lines elements_in
bare_end s slots = refl

pub count_elements : (xs : List Element) → element_count (elements_in xs) ≡ length xs
unfolding element_count elements_in
count_elements [] = refl
count_elements (x ∷ xs) = ap suc (count_elements xs)

literal_at : (s : Source) (slots : List ℕ) (l : CompositeLit) → literal_lines s slots (literal_view l) ≡
    typed_literal s (judge_type s.world (type_view (out-CompositeLit l).literal_type)).type_of
    (keyed_lines s slots (elements_in (out-CompositeLit l).elements.items)) (bare_lines s slots (elements_in (out-CompositeLit l).elements.items))
    (element_count (elements_in (out-CompositeLit l).elements.items))
unfolding literal_lines
literal_at s slots l = ap (literal_lines s slots) (literal_tree l)

pub literal_here : (s : Source) (slots : List ℕ) (l : CompositeLit) → literal_lines s slots (literal_view l) ≡
    typed_literal s (judge_type s.world (type_view (out-CompositeLit l).literal_type)).type_of
    (keyed_lines s slots (elements_in (out-CompositeLit l).elements.items)) (bare_lines s slots (elements_in (out-CompositeLit l).elements.items))
    (length (out-CompositeLit l).elements.items)
literal_here s slots l = literal_at s slots l ∙ ap
    (typed_literal s (judge_type s.world (type_view (out-CompositeLit l).literal_type)).type_of
    (keyed_lines s slots (elements_in (out-CompositeLit l).elements.items)) (bare_lines s slots (elements_in (out-CompositeLit l).elements.items)))
    (count_elements (out-CompositeLit l).elements.items)
