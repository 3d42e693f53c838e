-- The judgement of an expression of src/, form by form.
use Rattle.std.proofs.Common.{ℕ, ◌≡◌, ◌∷◌, [], List, ap, sym, ◌∙◌, refl, subst, false, true, Result, Ok, Err, IfOk, Option}
use Rattle.go_ast.specs.declared.syntax.PrefixOp.{PrefixOp}
use Rattle.go_ast.specs.declared.tree.Expr.TheVariants as expr
use Rattle.go_ast.specs.declared.tree.Expr.{Expr}
use Rattle.go_ast.specs.declared.tree.Operand.{Operand}
use Rattle.go_ast.specs.declared.tree.ExprItem.{ExprItem}
use Rattle.go_ast.specs.declared.tree.Element.{Element}
use Rattle.go_ast.specs.declared.tree.Link.{Link}
use Rattle.go_ast.specs.declared.tree.Link.TheVariants as link
use Rattle.go_ast.specs.declared.tree.CompositeLit.{CompositeLit, out-CompositeLit}
use Rattle.go_ast.specs.Tree as tree
use Rattle.go_ast.specs.View.{type_view, expr_view, link_view, literal_view, key_view}
use Rattle.types_expr.specs.declared.types.Basic.TheVariants as basic
use Rattle.types_expr.specs.declared.found.FoundInFile.{FoundInFile}
use Rattle.types_expr.specs.Lists.{links_in, operands_in, arguments_in, elements_in}
use Rattle.types_expr.specs.Places.{first_token, first_of_type, place_of, place_after_link}
use Rattle.types_expr.specs.Types.{Meaning, Value, Untyped, Broken, PlainType}
use Rattle.types_expr.specs.World.{World, Locals, name_meaning}
use Rattle.types_expr.specs.Judge.{Judged, JudgedList, ListValue, Seen, none_seen, judge, judge_value, judge_links, judge_link, judge_operands, judge_arguments}
use Rattle.types_expr.specs.Judge.{judge_literal, judge_elements, judge_type, means, select, followed, operation, value_before, prefix_of, address_of}
use Rattle.types_expr.specs.Judge.{as_value, index_rule, call_rule, with_element, element_key, seen_after, literal_of}
use Rattle.types_expr.specs.Found.{AddsJudged, AddsJudgedList}
use Rattle.types_expr.proofs.Trees.{chain_tree, named_binary_tree, named_chain_tree, binary_tree, call_tree, literal_tree}

pub ok_map : {X E : Type 0} {P Q : X → Type 0} (r : Result X E) → ((x : X) → P x → Q x) → IfOk r P → IfOk r Q
ok_map (Ok x) f p = f x p
ok_map (Err e) f p = tt

pub adds_as : {j k : Judged} {old new : FoundInFile} {m : Meaning} → j ≡ k → AddsJudged k old new m → AddsJudged j old new m
adds_as {j} {k} {old} {new} {m} e a = subst (λ (x : Judged). AddsJudged x old new m) (sym e) a

pub list_as : {j k : JudgedList} {vs us : List ListValue} {old new : FoundInFile} → j ≡ k → vs ≡ us → AddsJudgedList k old new us → AddsJudgedList j old new vs
list_as {j} {k} {vs} {us} {old} {new} e f a = subst (λ (x : JudgedList). AddsJudgedList x old new vs) (sym e)
    (subst (λ (x : List ListValue). AddsJudgedList k old new x) (sym f) a)

-- the forms as which an expression was matched

pub number_judged : (w : World) (locals : Locals) {e : Expr} (p : ℕ) → e ≡ expr.Number p →
    judge w locals (expr_view e) ≡ means (Value (Untyped basic.Int) false)
unfolding judge expr_view
number_judged w locals p is = ap (λ x. judge w locals (expr_view x)) is

pub text_judged : (w : World) (locals : Locals) {e : Expr} (p : ℕ) → e ≡ expr.Text p → judge w locals (expr_view e) ≡ means (Value (Untyped basic.String) false)
unfolding judge expr_view
text_judged w locals p is = ap (λ x. judge w locals (expr_view x)) is

pub name_judged : (w : World) (locals : Locals) {e : Expr} (p : ℕ) → e ≡ expr.Name p → judge w locals (expr_view e) ≡ means (name_meaning w locals p)
unfolding judge expr_view
name_judged w locals p is = ap (λ x. judge w locals (expr_view x)) is

pub blank_judged : (w : World) (locals : Locals) {e : Expr} (p : ℕ) → e ≡ expr.Blank p → judge w locals (expr_view e) ≡ means Broken
unfolding judge expr_view
blank_judged w locals p is = ap (λ x. judge w locals (expr_view x)) is

pub composite_judged : (w : World) (locals : Locals) {e : Expr} (b : _) → e ≡ expr.Composite b → (l : CompositeLit) → l ≡ b.value →
    judge w locals (expr_view e) ≡ judge_literal w locals (literal_view l)
unfolding judge expr_view
composite_judged w locals b is l hl = ap (λ z. judge w locals (expr_view z)) is ∙ ap (λ z. judge_literal w locals (literal_view z)) (sym hl)

pub paren_judged : (w : World) (locals : Locals) {e : Expr} (o : ℕ) (b : _) (c : ℕ) → e ≡ expr.Paren o b c → (x : Expr) → x ≡ b.value →
    judge w locals (expr_view e) ≡ judge_value w locals (expr_view x)
unfolding judge expr_view
paren_judged w locals o b c is x hx = ap (λ z. judge w locals (expr_view z)) is ∙ ap (λ z. judge_value w locals (expr_view z)) (sym hx)

pub prefix_judged : (w : World) (locals : Locals) {e : Expr} (op : PrefixOp) (p : ℕ) (b : _) → e ≡ expr.Prefix op p b → (x : Expr) → x ≡ b.value →
    judge w locals (expr_view e) ≡ followed (judge_value w locals (expr_view x)) (prefix_of w op p)
unfolding judge expr_view
prefix_judged w locals op p b is x hx = ap (λ z. judge w locals (expr_view z)) is ∙
    ap (λ z. followed (judge_value w locals (expr_view z)) (prefix_of w op p)) (sym hx)

pub address_judged : (w : World) (locals : Locals) {e : Expr} (p : ℕ) (b : _) → e ≡ expr.Address p b → (l : CompositeLit) → l ≡ b.value →
    judge w locals (expr_view e) ≡ followed (judge_literal w locals (literal_view l)) address_of
unfolding judge expr_view
address_judged w locals p b is l hl = ap (λ z. judge w locals (expr_view z)) is ∙
    ap (λ z. followed (judge_literal w locals (literal_view z)) address_of) (sym hl)

chain_judged : (w : World) (locals : Locals) (b : _) (links : _) → judge w locals (expr_view (expr.Chain b links)) ≡
    judge_links w locals (first_token (expr_view b.value)) (place_of (expr_view b.value)) (judge w locals (expr_view b.value)) (links_in links.items)
unfolding judge
chain_judged w locals b links = ap (judge w locals) (chain_tree b links)

binary_judged : (w : World) (locals : Locals) (b : _) (rest : _) → judge w locals (expr_view (expr.Binary b rest)) ≡
    judge_operands w locals (first_token (expr_view b.value)) (judge_value w locals (expr_view b.value)) (operands_in rest.items)
unfolding judge
binary_judged w locals b rest = ap (judge w locals) (binary_tree b rest)

-- with the values that the code read
pub chain_found : (w : World) (locals : Locals) {e : Expr} (b : _) (links : _) → e ≡ expr.Chain b links → (x y z : Expr) (xs : List Link) → x ≡ b.value →
    y ≡ b.value → z ≡ b.value → xs ≡ links.items →
    (start place : ℕ) → start ≡ first_token (expr_view y) → place ≡ place_of (expr_view z) →
    judge w locals (expr_view e) ≡ judge_links w locals start place (judge w locals (expr_view x)) (links_in xs)
chain_found w locals b links is x y z xs hx hy hz hxs start place hs hp = let h = chain_judged w locals b links in cc

named_chain_judged : (w : World) (locals : Locals) (n : ℕ) (links : _) →
    judge w locals (expr_view (expr.NamedChain n links)) ≡ judge_links w locals n n (means (name_meaning w locals n)) (links_in links.items)
unfolding judge first_token place_of
named_chain_judged w locals n links = ap (judge w locals) (named_chain_tree n links)

pub named_chain_found : (w : World) (locals : Locals) {e : Expr} (n : ℕ) (links : _) → e ≡ expr.NamedChain n links → (xs : List Link) → xs ≡ links.items →
    judge w locals (expr_view e) ≡ judge_links w locals n n (means (name_meaning w locals n)) (links_in xs)
named_chain_found w locals n links is xs hxs = ap (λ x. judge w locals (expr_view x)) is ∙ (named_chain_judged w locals n links ∙
    ap (λ ys. judge_links w locals n n (means (name_meaning w locals n)) (links_in ys)) (sym hxs))

pub binary_found : (w : World) (locals : Locals) {e : Expr} (b : _) (rest : _) → e ≡ expr.Binary b rest → (x y : Expr) (xs : List Operand) → x ≡ b.value →
    y ≡ b.value → xs ≡ rest.items →
    (start : ℕ) → start ≡ first_token (expr_view y) →
    judge w locals (expr_view e) ≡ judge_operands w locals start (judge_value w locals (expr_view x)) (operands_in xs)
binary_found w locals b rest is x y xs hx hy hxs start hs =
    ap (λ z. judge w locals (expr_view z)) is ∙ (binary_judged w locals b rest
    ∙ (ap (λ z. judge_operands w locals z (judge_value w locals (expr_view b.value)) (operands_in rest.items))
    (sym (hs ∙ ap (λ z. first_token (expr_view z)) hy))
    ∙ (ap (λ z. judge_operands w locals start (judge_value w locals (expr_view z)) (operands_in rest.items)) (sym hx)
    ∙ ap (λ z. judge_operands w locals start (judge_value w locals (expr_view x)) (operands_in z)) (sym hxs))))

named_binary_judged : (w : World) (locals : Locals) (n : ℕ) (rest : _) → judge w locals (expr_view (expr.NamedBinary n rest)) ≡
    judge_operands w locals n (followed (means (name_meaning w locals n)) (as_value n)) (operands_in rest.items)
unfolding judge first_token place_of
named_binary_judged w locals n rest = ap (judge w locals) (named_binary_tree n rest)

pub named_binary_found : (w : World) (locals : Locals) {e : Expr} (n : ℕ) (rest : _) → e ≡ expr.NamedBinary n rest → (xs : List Operand) → xs ≡ rest.items →
    judge w locals (expr_view e) ≡ judge_operands w locals n (followed (means (name_meaning w locals n)) (as_value n)) (operands_in xs)
named_binary_found w locals n rest is xs hxs = ap (λ x. judge w locals (expr_view x)) is ∙ (named_binary_judged w locals n rest ∙
    ap (λ ys. judge_operands w locals n (followed (means (name_meaning w locals n)) (as_value n)) (operands_in ys)) (sym hxs))

-- one link

pub selector_judged : (w : World) (locals : Locals) (s p : ℕ) {l : Link} (d n : ℕ) (m : Meaning) → l ≡ link.Selector d n →
    judge_link w locals s p (link_view l tree.no_link) m ≡ select w locals p n m
unfolding judge_link link_view
selector_judged w locals s p d n m is = ap (λ x. judge_link w locals s p (link_view x tree.no_link) m) is

pub index_judged : (w : World) (locals : Locals) (s p : ℕ) {l : Link} (o : ℕ) (e : _) (c : ℕ) (m : Meaning) → l ≡ link.Index o e c →
    (v : Expr) → v ≡ e.value →
    judge_link w locals s p (link_view l tree.no_link) m ≡ index_rule w s p (expr_view v) (judge_value w locals (expr_view v)) m
unfolding judge_link link_view
index_judged w locals s p o e c m is v h = ap (λ x. judge_link w locals s p (link_view x tree.no_link) m) is ∙
    ap (λ x. index_rule w s p (expr_view x) (judge_value w locals (expr_view x)) m) (sym h)

call_here : (w : World) (locals : Locals) (s p o : ℕ) (xs : _) (c : ℕ) (m : Meaning) →
    judge_link w locals s p (link_view (link.Call o c xs) tree.no_link) m ≡ call_rule w s p (judge_arguments w locals (arguments_in xs.items)) m
unfolding judge_link
call_here w locals s p o xs c m = ap (λ x. judge_link w locals s p x m) (call_tree o xs c tree.no_link)

pub call_judged : (w : World) (locals : Locals) (s p : ℕ) {l : Link} (o : ℕ) (xs : _) (c : ℕ) (m : Meaning) → l ≡ link.Call o c xs →
    (items : List ExprItem) → items ≡ xs.items →
    judge_link w locals s p (link_view l tree.no_link) m ≡ call_rule w s p (judge_arguments w locals (arguments_in items)) m
call_judged w locals s p o xs c m is items h = ap (λ x. judge_link w locals s p (link_view x tree.no_link) m) is ∙
    (call_here w locals s p o xs c m ∙ ap (λ x. call_rule w s p (judge_arguments w locals (arguments_in x)) m) (sym h))

-- the parts of a list in turn

pub links_step : (w : World) (locals : Locals) (s p : ℕ) (k : Judged) (l : Link) (rest : List Link) →
    judge_links w locals s p k (links_in (l ∷ rest)) ≡ judge_links w locals s (place_after_link s (link_view l tree.no_link))
    (followed k (judge_link w locals s p (link_view l tree.no_link))) (links_in rest)
unfolding judge_links judge_link links_in link_view
links_step w locals s p k (link.Selector d n) rest = refl
links_step w locals s p k (link.Index' o q e c) rest = refl
links_step w locals s p k (link.Call' o c shape row) rest = refl

pub links_end : (w : World) (locals : Locals) (s p : ℕ) (k : Judged) → judge_links w locals s p k (links_in []) ≡ k
unfolding judge_links links_in
links_end w locals s p k = refl

pub operands_step : (w : World) (locals : Locals) (s : ℕ) (k : Judged) (o : Operand) (rest : List Operand) →
    judge_operands w locals s k (operands_in (o ∷ rest)) ≡ judge_operands w locals s
    (followed k (λ a. followed (judge_value w locals (expr_view o.value)) (operation w o.op s a))) (operands_in rest)
unfolding judge_operands operands_in
operands_step w locals s k o rest = refl

pub operands_end : (w : World) (locals : Locals) (s : ℕ) (k : Judged) → judge_operands w locals s k (operands_in []) ≡ k
unfolding judge_operands operands_in
operands_end w locals s k = refl

pub arguments_step : (w : World) (locals : Locals) (a : ExprItem) (rest : List ExprItem) →
    judge_arguments w locals (arguments_in (a ∷ rest)) ≡ value_before (place_of (expr_view a.value)) (judge_value w locals (expr_view a.value))
    (judge_arguments w locals (arguments_in rest))
unfolding judge_arguments arguments_in
arguments_step w locals a rest = refl

pub arguments_end : (w : World) (locals : Locals) → judge_arguments w locals (arguments_in []) ≡ record { values = []; faults = []; uses = [] }
unfolding judge_arguments arguments_in
arguments_end w locals = refl

pub elements_step : (w : World) (locals : Locals) (t : Option PlainType) (seen : Seen) (x : Element) (rest : List Element) →
    judge_elements w locals t seen (elements_in (x ∷ rest)) ≡ with_element w (element_key w t seen (key_view x.key)) (place_of (expr_view x.value))
    (judge_value w locals (expr_view x.value)) (judge_elements w locals t (seen_after w t seen (key_view x.key)) (elements_in rest))
unfolding judge_elements elements_in
elements_step w locals t seen x rest = refl

pub elements_end : (w : World) (locals : Locals) (t : Option PlainType) (seen : Seen) →
    judge_elements w locals t seen (elements_in []) ≡ record { whole = true; unkeyed = false; faults = []; uses = [] }
unfolding judge_elements elements_in
elements_end w locals t seen = refl

literal_judged : (w : World) (locals : Locals) (l : CompositeLit) → judge_literal w locals (literal_view l) ≡
    literal_of w (first_of_type (type_view (out-CompositeLit l).literal_type)) (judge_type w (type_view (out-CompositeLit l).literal_type))
    (judge_elements w locals (judge_type w (type_view (out-CompositeLit l).literal_type)).type_of none_seen (elements_in (out-CompositeLit l).elements.items))
unfolding judge_literal
literal_judged w locals l = ap (judge_literal w locals) (literal_tree l)

pub literal_found : (w : World) (locals : Locals) (l : CompositeLit) (start : ℕ) (xs : List Element) →
    start ≡ first_of_type (type_view (out-CompositeLit l).literal_type) → xs ≡ (out-CompositeLit l).elements.items →
    judge_literal w locals (literal_view l) ≡ literal_of w start (judge_type w (type_view (out-CompositeLit l).literal_type))
    (judge_elements w locals (judge_type w (type_view (out-CompositeLit l).literal_type)).type_of none_seen (elements_in xs))
literal_found w locals l start xs hs hx = literal_judged w locals l
    ∙ (ap (λ s. literal_of w s (judge_type w (type_view (out-CompositeLit l).literal_type))
    (judge_elements w locals (judge_type w (type_view (out-CompositeLit l).literal_type)).type_of none_seen
    (elements_in (out-CompositeLit l).elements.items))) (sym hs)
    ∙ ap (λ es. literal_of w start (judge_type w (type_view (out-CompositeLit l).literal_type))
    (judge_elements w locals (judge_type w (type_view (out-CompositeLit l).literal_type)).type_of none_seen (elements_in es))) (sym hx))
