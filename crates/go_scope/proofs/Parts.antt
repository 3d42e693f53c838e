-- The identifiers of expressions, by the parts that the program visits.
use Rattle.std.proofs.Common.{ℕ, ◌≡◌, ◌⊎◌, inl, inr, List, [], ◌++◌, ap, sym, ◌∙◌, refl, append-nil, append_assoc}
use Rattle.std.specs.List.{flat_map}
use Rattle.go_scope.specs.Site.{Site, TokenSpellings}
use Rattle.go_scope.specs.ExpressionSites.{key_sites, type_sites, expr_sites, operand_sites, link_sites, argument_sites, literal_sites, element_sites}
use Rattle.go_ast.specs.Tree.{no_link, LinkTrees, Name}
use Rattle.go_ast.specs.View.{type_view, expr_view, literal_view, link_view, links_view, operands_view, arguments_view, elements_view, key_view}
use Rattle.go_ast.specs.declared.tree.Expr.{Expr, Row_of-Link, end_of-Link, more_of-Link, items-the_row-Link, items_hidden-the_row-Link-0, Row_of-Operand}
use Rattle.go_ast.specs.declared.tree.Expr.{end_of-Operand, more_of-Operand, items-the_row-Operand, items_hidden-the_row-Operand-1}
use Rattle.go_ast.specs.declared.tree.Expr.TheBlock.{hidden-the_row-Link-0, hidden-the_row-Operand-1, hidden-the_row-ExprItem-2, hidden-the_row-Element-3}
use Rattle.go_ast.specs.declared.tree.Expr.TheViews.{roll-CompositeLit}
use Rattle.go_ast.specs.declared.tree.TypeExpr.{TypeExpr}
use Rattle.go_ast.specs.declared.tree.CompositeLit.{CompositeLit, CompositeLit', out-CompositeLit, Row_of-Element, end_of-Element, more_of-Element}
use Rattle.go_ast.specs.declared.tree.CompositeLit.{items-the_row-Element, items_hidden-the_row-Element-3, items_shown-the_row-Element-3}
use Rattle.go_ast.specs.declared.tree.CompositeLit.{outs-CompositeLit'}
use Rattle.go_ast.specs.declared.tree.Expr.TheVariants as expr
use Rattle.go_ast.specs.declared.tree.Link.{Link, Row_of-ExprItem, end_of-ExprItem, more_of-ExprItem, items-the_row-ExprItem, items_hidden-the_row-ExprItem-2}
use Rattle.go_ast.specs.declared.tree.Link.TheVariants as link
use Rattle.go_ast.specs.declared.tree.Operand.{Operand}
use Rattle.go_ast.specs.declared.tree.ExprItem.{ExprItem}
use Rattle.go_ast.specs.declared.tree.Element.{Element}

abbrev pub link_part : TokenSpellings → Link → List Site
link_part s l = link_sites s (link_view l no_link)

abbrev pub operand_part : TokenSpellings → Operand → List Site
operand_part s o = expr_sites s (expr_view o.value)

abbrev pub argument_part : TokenSpellings → ExprItem → List Site
argument_part s x = expr_sites s (expr_view x.value)

abbrev pub element_part : TokenSpellings → Element → List Site
element_part s x = key_sites s (key_view x.key) ++ expr_sites s (expr_view x.value)

link_before : (s : TokenSpellings) (l : Link) (others : LinkTrees) → link_sites s (link_view l others) ≡ link_part s l ++ link_sites s others
unfolding link_sites link_view
link_before s (link.Selector d n) others = refl
link_before s (link.Index' o p e c) others = sym (ap (λ z. z ++ link_sites s others) (append-nil (expr_sites s (expr_view e))))
link_before s (link.Call' o c shape row) others = sym (ap (λ z. z ++ link_sites s others) (append-nil (argument_sites s (arguments_view row))))

link_row : (s : TokenSpellings) {n : _} (row : Row_of-Link n) → link_sites s (links_view row) ≡ flat_map (link_part s) (items-the_row-Link n row)
unfolding link_sites links_view
link_row s end_of-Link = refl
link_row s (more_of-Link l rest) = link_before s l (links_view rest) ∙ ap (λ z. link_part s l ++ z) (link_row s rest)

operand_row : (s : TokenSpellings) {n : _} (row : Row_of-Operand n) → operand_sites s (operands_view row) ≡ flat_map (operand_part s) (items-the_row-Operand
    n row)
unfolding operand_sites operands_view
operand_row s end_of-Operand = refl
operand_row s (more_of-Operand op at e rest) = ap (λ z. expr_sites s (expr_view e) ++ z) (operand_row s rest)

argument_row : (s : TokenSpellings) {n : _} (row : Row_of-ExprItem n) →
    argument_sites s (arguments_view row) ≡ flat_map (argument_part s) (items-the_row-ExprItem n row)
unfolding argument_sites arguments_view
argument_row s end_of-ExprItem = refl
argument_row s (more_of-ExprItem e c rest) = ap (λ z. expr_sites s (expr_view e) ++ z) (argument_row s rest)

pub chain_parts : (s : TokenSpellings) (first : _) (links : _) →
    expr_sites s (expr_view (expr.Chain first links)) ≡ expr_sites s (expr_view first.value) ++ flat_map (link_part s) links.items
unfolding expr_sites expr_view
chain_parts s first links = ap (λ z. expr_sites s (expr_view first.value) ++ z)
    (link_row s (hidden-the_row-Link-0 links) ∙ ap (flat_map (link_part s)) (items_hidden-the_row-Link-0 links))

named_chain_parts : (s : TokenSpellings) (n : ℕ) (links : _) →
    expr_sites s (expr_view (expr.NamedChain n links)) ≡ expr_sites s (Name n) ++ flat_map (link_part s) links.items
unfolding expr_sites expr_view
named_chain_parts s n links = ap (λ z. expr_sites s (Name n) ++ z)
    (link_row s (hidden-the_row-Link-0 links) ∙ ap (flat_map (link_part s)) (items_hidden-the_row-Link-0 links))

pub binary_parts : (s : TokenSpellings) (first : _) (rest : _) →
    expr_sites s (expr_view (expr.Binary first rest)) ≡ expr_sites s (expr_view first.value) ++ flat_map (operand_part s) rest.items
unfolding expr_sites expr_view
binary_parts s first rest = ap (λ z. expr_sites s (expr_view first.value) ++ z)
    (operand_row s (hidden-the_row-Operand-1 rest) ∙ ap (flat_map (operand_part s)) (items_hidden-the_row-Operand-1 rest))

named_binary_parts : (s : TokenSpellings) (n : ℕ) (rest : _) →
    expr_sites s (expr_view (expr.NamedBinary n rest)) ≡ expr_sites s (Name n) ++ flat_map (operand_part s) rest.items
unfolding expr_sites expr_view
named_binary_parts s n rest = ap (λ z. expr_sites s (Name n) ++ z)
    (operand_row s (hidden-the_row-Operand-1 rest) ∙ ap (flat_map (operand_part s)) (items_hidden-the_row-Operand-1 rest))

pub call_parts : (s : TokenSpellings) (o : ℕ) (arguments : _) (c : ℕ) → link_part s (link.Call o c arguments) ≡ flat_map (argument_part s) arguments.items
unfolding link_sites link_view
call_parts s o arguments c = append-nil _ ∙ argument_row s (hidden-the_row-ExprItem-2 arguments) ∙
    ap (flat_map (argument_part s)) (items_hidden-the_row-ExprItem-2 arguments)

element_row : (s : TokenSpellings) {n : _} (row : Row_of-Element n) → element_sites s (elements_view row) ≡ flat_map (element_part s) (items-the_row-Element
    n row)
unfolding element_sites elements_view
element_row s end_of-Element = refl
element_row s (more_of-Element k e c rest) =
    ap (λ z. key_sites s (key_view k) ++ (expr_sites s (expr_view e) ++ z)) (element_row s rest) ∙
    sym (append_assoc (key_sites s (key_view k)) (expr_sites s (expr_view e)) (flat_map (element_part s) (items-the_row-Element _ rest)))

pub literal_parts : (s : TokenSpellings) (t : TypeExpr) (o : ℕ) (es : _) (c : ℕ) →
    literal_sites s (literal_view (roll-CompositeLit (record { literal_type = t; «open» = o; elements = es; close = c }))) ≡ type_sites s (type_view t) ++
    flat_map (element_part s) es.items
unfolding literal_sites literal_view roll-CompositeLit denote.Hole.Carrier.roll
literal_parts s t o es c = ap (λ z. type_sites s (type_view t) ++ z)
    (element_row s (hidden-the_row-Element-3 es) ∙ ap (flat_map (element_part s)) (items_hidden-the_row-Element-3 es))

-- a value as the program reads it, and the value itself

pub chain_from : (s : TokenSpellings) (e : Expr) (first : _) (links : _) (v : Expr) (xs : List Link) → e ≡ expr.Chain first links → v ≡ first.value →
    xs ≡ links.items →
    expr_sites s (expr_view v) ++ flat_map (link_part s) xs ≡ expr_sites s (expr_view e)
chain_from s e first links v xs ee ev ex =
    ap (λ z. expr_sites s (expr_view z) ++ flat_map (link_part s) xs) ev ∙ ap (λ z. expr_sites s (expr_view first.value) ++ flat_map (link_part s) z) ex ∙
    sym (chain_parts s first links) ∙ ap (λ z. expr_sites s (expr_view z)) (sym ee)

pub named_chain_from : (s : TokenSpellings) (e : Expr) (n : ℕ) (links : _) (xs : List Link) → e ≡ expr.NamedChain n links → xs ≡ links.items →
    expr_sites s (Name n) ++ flat_map (link_part s) xs ≡ expr_sites s (expr_view e)
named_chain_from s e n links xs ee ex =
    ap (λ z. expr_sites s (Name n) ++ flat_map (link_part s) z) ex ∙ sym (named_chain_parts s n links) ∙ ap (λ z. expr_sites s (expr_view z)) (sym ee)

pub binary_from : (s : TokenSpellings) (e : Expr) (first : _) (rest : _) (v : Expr) (xs : List Operand) → e ≡ expr.Binary first rest → v ≡ first.value →
    xs ≡ rest.items →
    expr_sites s (expr_view v) ++ flat_map (operand_part s) xs ≡ expr_sites s (expr_view e)
binary_from s e first rest v xs ee ev ex =
    ap (λ z. expr_sites s (expr_view z) ++ flat_map (operand_part s) xs) ev ∙ ap (λ z. expr_sites s (expr_view first.value) ++ flat_map (operand_part s) z) ex ∙
    sym (binary_parts s first rest) ∙ ap (λ z. expr_sites s (expr_view z)) (sym ee)

pub named_binary_from : (s : TokenSpellings) (e : Expr) (n : ℕ) (rest : _) (xs : List Operand) → e ≡ expr.NamedBinary n rest → xs ≡ rest.items →
    expr_sites s (Name n) ++ flat_map (operand_part s) xs ≡ expr_sites s (expr_view e)
named_binary_from s e n rest xs ee ex =
    ap (λ z. expr_sites s (Name n) ++ flat_map (operand_part s) z) ex ∙ sym (named_binary_parts s n rest) ∙ ap (λ z. expr_sites s (expr_view z)) (sym ee)

pub call_from : (s : TokenSpellings) (l : Link) (o : ℕ) (arguments : _) (c : ℕ) (xs : List ExprItem) → l ≡ link.Call o c arguments → xs ≡ arguments.items →
    flat_map (argument_part s) xs ≡ link_part s l
call_from s l o arguments c xs el ex = ap (flat_map (argument_part s)) ex ∙ sym (call_parts s o arguments c) ∙ ap (link_part s) (sym el)

pub index_from : (s : TokenSpellings) (l : Link) (o : ℕ) (e : _) (c : ℕ) (v : Expr) → l ≡ link.Index o e c → v ≡ e.value →
    expr_sites s (expr_view v) ≡ link_part s l
unfolding link_sites link_view
index_from s l o e c v el ev =
    ap (λ z. expr_sites s (expr_view z)) ev ∙ sym (append-nil (expr_sites s (expr_view e.value))) ∙ ap (link_part s) (sym el)

literal_from : (s : TokenSpellings) (l : CompositeLit) → type_sites s (type_view (out-CompositeLit l).literal_type) ++ flat_map (element_part s)
    (out-CompositeLit l).elements.items ≡ literal_sites s (literal_view l)
unfolding literal_sites literal_view
literal_from s (CompositeLit' t o shape row c) =
    ap (λ r. type_sites s (type_view r.literal_type) ++ flat_map (element_part s) r.elements.items) (outs-CompositeLit' t o shape row c) ∙
    ap (λ z. type_sites s (type_view t) ++ flat_map (element_part s) z) (items_shown-the_row-Element-3 shape row) ∙
    ap (λ z. type_sites s (type_view t) ++ z) (sym (element_row s row))

pub literal_read : (s : TokenSpellings) (l : CompositeLit) (xs : List Element) → xs ≡ (out-CompositeLit l).elements.items →
    type_sites s (type_view (out-CompositeLit l).literal_type) ++ flat_map (element_part s) xs ≡ literal_sites s (literal_view l)
literal_read s l xs e = ap (λ z. type_sites s (type_view (out-CompositeLit l).literal_type) ++ flat_map (element_part s) z) e ∙ literal_from s l

pub leaf_none : (s : TokenSpellings) (e : Expr) → ((n : ℕ) × (e ≡ expr.Number n)) ⊎ ((n : ℕ) × (e ≡ expr.Text n)) → [] ≡ expr_sites s (expr_view e)
unfolding expr_sites expr_view
leaf_none s e (inl h) = ap (λ v. expr_sites s (expr_view v)) (sym h.1)
leaf_none s e (inr h) = ap (λ v. expr_sites s (expr_view v)) (sym h.1)
