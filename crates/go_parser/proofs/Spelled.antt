-- The tokens of the program's types and expressions, by their parts.
use Rattle.std.proofs.Common.{ℕ, ◌≡◌, ◌∷◌, ◌++◌, [], List, Option, Some, None, true, false, ap, sym, ◌∙◌, refl, append_assoc, append-nil}
use Rattle.go_ast.specs.declared.syntax.Kind.{Kind}
use Rattle.go_ast.specs.declared.syntax.Kind.TheVariants as kind
use Rattle.go_ast.specs.declared.syntax.Token.{Token}
use Rattle.go_ast.specs.declared.syntax.PrefixOp.{PrefixOp}
use Rattle.go_ast.specs.declared.tree.TypeExpr.{TypeExpr}
use Rattle.go_ast.specs.declared.tree.TypeExpr.TheVariants as type
use Rattle.go_ast.specs.declared.tree.Expr.{Expr, Row_of-Link, end_of-Link, more_of-Link, items-the_row-Link, items_hidden-the_row-Link-0, Row_of-Operand}
use Rattle.go_ast.specs.declared.tree.Expr.{end_of-Operand, more_of-Operand, items-the_row-Operand, items_hidden-the_row-Operand-1}
use Rattle.go_ast.specs.declared.tree.Expr.TheBlock.{hidden-the_row-Link-0, hidden-the_row-Operand-1, hidden-the_row-ExprItem-2, hidden-the_row-Element-3}
use Rattle.go_ast.specs.declared.tree.Expr.TheVariants as expr
use Rattle.go_ast.specs.declared.tree.Expr.TheViews.{roll-CompositeLit}
use Rattle.go_ast.specs.declared.tree.Link.{Link, Row_of-ExprItem, end_of-ExprItem, more_of-ExprItem, items-the_row-ExprItem, items_hidden-the_row-ExprItem-2}
use Rattle.go_ast.specs.declared.tree.Link.TheVariants as link
use Rattle.go_ast.specs.declared.tree.CompositeLit.{CompositeLit, Row_of-Element, end_of-Element, more_of-Element, items-the_row-Element}
use Rattle.go_ast.specs.declared.tree.CompositeLit.{items_hidden-the_row-Element-3}
use Rattle.go_ast.specs.Tree.{LinkTrees}
use Rattle.go_parser.specs.Spelling.{type_spelled, expr_spelled, literal_spelled, link_spelled, operand_spelled, expr_item_spelled, element_spelled}
use Rattle.go_ast.specs.Grammar.{is_leaf, is_some}
use Rattle.go_parser.specs.Leaf.{leaf_of}
use Rattle.go_ast.specs.Flatten.{sign, sign_if, binary_kind, prefix_kind, all_tokens, type_tokens, key_tokens, expr_tokens, operand_tokens, link_tokens}
use Rattle.go_ast.specs.Flatten.{argument_tokens, literal_tokens, element_tokens}
use Rattle.go_ast.specs.View.{type_view, key_view, expr_view, literal_view, link_view, links_view, operands_view, arguments_view, elements_view}

-- types

pub local_type_tokens : (n : ℕ) → type_tokens (type_view (type.Local n)) ≡ sign kind.Name n ∷ []
unfolding type_tokens type_view
local_type_tokens n = refl

pub imported_type_tokens : (p d n : ℕ) → type_tokens (type_view (type.Imported p d n)) ≡ sign kind.Name p ∷ sign kind.Dot d ∷ sign kind.Name n ∷ []
unfolding type_tokens type_view
imported_type_tokens p d n = refl

pub pointer_tokens : (s : ℕ) (t : _) → type_tokens (type_view (type.Pointer s t)) ≡ sign kind.Star s ∷ type_tokens (type_view t.value)
unfolding type_tokens type_view
pointer_tokens s t = refl

pub slice_tokens : (o c : ℕ) (t : _) → type_tokens (type_view (type.Slice o c t)) ≡ sign kind.LeftBracket o ∷ sign kind.RightBracket c ∷ type_tokens
    (type_view t.value)
unfolding type_tokens type_view
slice_tokens o c t = refl

-- lists of several trees

pub all_tokens_push : {X : Type 0} (f : X → List Token) (xs : List X) (x : X) → all_tokens f xs ++ f x ≡ all_tokens f (xs ++ (x ∷ []))
unfolding all_tokens
all_tokens_push f [] x = sym (append-nil (f x))
all_tokens_push f (y ∷ xs) x = append_assoc (f y) (all_tokens f xs) (f x) ∙ ap (λ z. f y ++ z) (all_tokens_push f xs x)

pub no_tokens : {X : Type 0} (f : X → List Token) (xs : List X) → xs ≡ [] → all_tokens f xs ≡ []
unfolding all_tokens
no_tokens f xs e = ap (all_tokens f) e

pub none_tokens : {X : Type 0} (f : X → List Token) → all_tokens f [] ≡ []
unfolding all_tokens
none_tokens f = refl

-- operands of one token

is_leaf_by : (p : ℕ) (k : Kind) → is_some (leaf_of k p) ≡ is_leaf k
is_leaf_by p kind.Name = refl
is_leaf_by p kind.Blank = refl
is_leaf_by p kind.Number = refl
is_leaf_by p kind.Text = refl
is_leaf_by p kind.LeftParen = refl
is_leaf_by p kind.RightParen = refl
is_leaf_by p kind.LeftBracket = refl
is_leaf_by p kind.RightBracket = refl
is_leaf_by p kind.LeftBrace = refl
is_leaf_by p kind.RightBrace = refl
is_leaf_by p kind.Comma = refl
is_leaf_by p kind.Dot = refl
is_leaf_by p kind.Colon = refl
is_leaf_by p kind.Semicolon = refl
is_leaf_by p kind.Plus = refl
is_leaf_by p kind.Minus = refl
is_leaf_by p kind.Star = refl
is_leaf_by p kind.Slash = refl
is_leaf_by p kind.Percent = refl
is_leaf_by p kind.Equal = refl
is_leaf_by p kind.NotEqual = refl
is_leaf_by p kind.Less = refl
is_leaf_by p kind.LessEqual = refl
is_leaf_by p kind.Greater = refl
is_leaf_by p kind.GreaterEqual = refl
is_leaf_by p kind.AndAnd = refl
is_leaf_by p kind.OrOr = refl
is_leaf_by p kind.Not = refl
is_leaf_by p kind.Ampersand = refl
is_leaf_by p kind.Assign = refl
is_leaf_by p kind.Define = refl
is_leaf_by p kind.AddAssign = refl
is_leaf_by p kind.SubAssign = refl
is_leaf_by p kind.MulAssign = refl
is_leaf_by p kind.DivAssign = refl
is_leaf_by p kind.RemAssign = refl
is_leaf_by p kind.Increment = refl
is_leaf_by p kind.Decrement = refl
is_leaf_by p kind.If = refl
is_leaf_by p kind.Else = refl
is_leaf_by p kind.For = refl
is_leaf_by p kind.Break = refl
is_leaf_by p kind.Continue = refl
is_leaf_by p kind.Return = refl
is_leaf_by p kind.Var = refl
is_leaf_by p kind.Package = refl
is_leaf_by p kind.Import = refl
is_leaf_by p kind.Func = refl
is_leaf_by p kind.TypeWord = refl
is_leaf_by p kind.Struct = refl
is_leaf_by p kind.Interface = refl
is_leaf_by p kind.Other = refl

pub leaf_none : (p : ℕ) (k : Kind) → leaf_of k p ≡ None → is_leaf k ≡ false
leaf_none p k e = sym (is_leaf_by p k) ∙ ap is_some e

pub leaf_some : (p : ℕ) (k : Kind) (e : Expr) → leaf_of k p ≡ Some e → is_leaf k ≡ true
leaf_some p k x e = sym (is_leaf_by p k) ∙ ap is_some e

abbrev spelled_or : List Token → Option Expr → List Token
spelled_or d None = d
spelled_or d (Some e) = expr_tokens (expr_view e)

pub leaf_tokens : (p : ℕ) (k : Kind) (e : Expr) → leaf_of k p ≡ Some e → expr_tokens (expr_view e) ≡ sign k p ∷ []
unfolding expr_tokens expr_view
leaf_tokens p kind.Name e h = cc
leaf_tokens p kind.Blank e h = ap (λ x. spelled_or (sign kind.Blank p ∷ []) x) (sym h)
leaf_tokens p kind.Number e h = ap (λ x. spelled_or (sign kind.Number p ∷ []) x) (sym h)
leaf_tokens p kind.Text e h = ap (λ x. spelled_or (sign kind.Text p ∷ []) x) (sym h)
leaf_tokens p kind.LeftParen e h = cc
leaf_tokens p kind.RightParen e h = cc
leaf_tokens p kind.LeftBracket e h = cc
leaf_tokens p kind.RightBracket e h = cc
leaf_tokens p kind.LeftBrace e h = cc
leaf_tokens p kind.RightBrace e h = cc
leaf_tokens p kind.Comma e h = cc
leaf_tokens p kind.Dot e h = cc
leaf_tokens p kind.Colon e h = cc
leaf_tokens p kind.Semicolon e h = cc
leaf_tokens p kind.Plus e h = cc
leaf_tokens p kind.Minus e h = cc
leaf_tokens p kind.Star e h = cc
leaf_tokens p kind.Slash e h = cc
leaf_tokens p kind.Percent e h = cc
leaf_tokens p kind.Equal e h = cc
leaf_tokens p kind.NotEqual e h = cc
leaf_tokens p kind.Less e h = cc
leaf_tokens p kind.LessEqual e h = cc
leaf_tokens p kind.Greater e h = cc
leaf_tokens p kind.GreaterEqual e h = cc
leaf_tokens p kind.AndAnd e h = cc
leaf_tokens p kind.OrOr e h = cc
leaf_tokens p kind.Not e h = cc
leaf_tokens p kind.Ampersand e h = cc
leaf_tokens p kind.Assign e h = cc
leaf_tokens p kind.Define e h = cc
leaf_tokens p kind.AddAssign e h = cc
leaf_tokens p kind.SubAssign e h = cc
leaf_tokens p kind.MulAssign e h = cc
leaf_tokens p kind.DivAssign e h = cc
leaf_tokens p kind.RemAssign e h = cc
leaf_tokens p kind.Increment e h = cc
leaf_tokens p kind.Decrement e h = cc
leaf_tokens p kind.If e h = cc
leaf_tokens p kind.Else e h = cc
leaf_tokens p kind.For e h = cc
leaf_tokens p kind.Break e h = cc
leaf_tokens p kind.Continue e h = cc
leaf_tokens p kind.Return e h = cc
leaf_tokens p kind.Var e h = cc
leaf_tokens p kind.Package e h = cc
leaf_tokens p kind.Import e h = cc
leaf_tokens p kind.Func e h = cc
leaf_tokens p kind.TypeWord e h = cc
leaf_tokens p kind.Struct e h = cc
leaf_tokens p kind.Interface e h = cc
leaf_tokens p kind.Other e h = cc

-- expressions

pub name_tokens : (n : ℕ) → expr_spelled (expr.Name n) ≡ sign kind.Name n ∷ []
unfolding expr_tokens expr_view
name_tokens n = refl

pub composite_tokens : (l : _) → expr_spelled (expr.Composite l) ≡ literal_spelled l.value
unfolding expr_tokens expr_view
composite_tokens l = refl

pub address_tokens : (p : ℕ) (l : _) → expr_spelled (expr.Address p l) ≡ sign kind.Ampersand p ∷ literal_spelled l.value
unfolding expr_tokens expr_view
address_tokens p l = refl

pub paren_tokens : (o : ℕ) (e : _) (c : ℕ) → expr_spelled (expr.Paren o e c) ≡ sign kind.LeftParen o ∷ (expr_spelled e.value ++ (sign kind.RightParen c ∷ []))
unfolding expr_tokens expr_view
paren_tokens o e c = refl

pub prefix_tokens : (op : PrefixOp) (p : ℕ) (e : _) → expr_spelled (expr.Prefix op p e) ≡ sign (prefix_kind op) p ∷ expr_spelled e.value
unfolding expr_tokens expr_view
prefix_tokens op p e = refl

-- links

link_more : (l : Link) (others : LinkTrees) → link_tokens (link_view l others) ≡ link_spelled l ++ link_tokens others
unfolding link_tokens link_view
link_more (link.Selector d n) others = refl
link_more (link.Index' o p e c) others = ap (λ x. sign kind.LeftBracket o ∷ x)
    (sym (append_assoc (expr_spelled e) (sign kind.RightBracket c ∷ []) (link_tokens others)))
link_more (link.Call' o c shape row) others = ap (λ x. sign kind.LeftParen o ∷ x)
    (sym (append_assoc (argument_tokens (arguments_view row)) (sign kind.RightParen c ∷ []) (link_tokens others)))

link_row_tokens : {n : _} (row : Row_of-Link n) → link_tokens (links_view row) ≡ all_tokens link_spelled (items-the_row-Link n row)
unfolding all_tokens links_view link_tokens
link_row_tokens end_of-Link = refl
link_row_tokens (more_of-Link l rest) = link_more l (links_view rest) ∙ ap (λ x. link_spelled l ++ x) (link_row_tokens rest)

pub chain_tokens : (e : _) (links : _) → expr_spelled (expr.Chain e links) ≡ expr_spelled e.value ++ all_tokens link_spelled links.items
unfolding expr_tokens expr_view
chain_tokens e links = ap (λ x. expr_spelled e.value ++ x)
    (link_row_tokens (hidden-the_row-Link-0 links) ∙ ap (λ xs. all_tokens link_spelled xs) (items_hidden-the_row-Link-0 links))

pub named_chain_tokens : (n : ℕ) (links : _) → expr_spelled (expr.NamedChain n links) ≡ sign kind.Name n ∷ all_tokens link_spelled links.items
unfolding expr_tokens expr_view
named_chain_tokens n links = ap (λ x. sign kind.Name n ∷ x)
    (link_row_tokens (hidden-the_row-Link-0 links) ∙ ap (λ xs. all_tokens link_spelled xs) (items_hidden-the_row-Link-0 links))

pub selector_tokens : (d n : ℕ) → link_spelled (link.Selector d n) ≡ sign kind.Dot d ∷ sign kind.Name n ∷ []
unfolding link_tokens link_view
selector_tokens d n = refl

pub index_tokens : (o : ℕ) (e : _) (c : ℕ) →
    link_spelled (link.Index o e c) ≡ sign kind.LeftBracket o ∷ (expr_spelled e.value ++ (sign kind.RightBracket c ∷ []))
unfolding link_tokens link_view
index_tokens o e c = refl

argument_row_tokens : {n : _} (row : Row_of-ExprItem n) → argument_tokens (arguments_view row) ≡ all_tokens expr_item_spelled (items-the_row-ExprItem n row)
unfolding all_tokens arguments_view argument_tokens
argument_row_tokens end_of-ExprItem = refl
argument_row_tokens (more_of-ExprItem e c rest) = ap (λ x. expr_spelled e ++ (sign_if kind.Comma c ++ x)) (argument_row_tokens rest) ∙
    sym (append_assoc (expr_spelled e) (sign_if kind.Comma c) (all_tokens expr_item_spelled (items-the_row-ExprItem _ rest)))

pub call_tokens : (o : ℕ) (xs : _) (c : ℕ) → link_spelled (link.Call o c xs) ≡ sign kind.LeftParen o ∷
    (all_tokens expr_item_spelled xs.items ++ (sign kind.RightParen c ∷ []))
unfolding link_tokens link_view
call_tokens o xs c = ap (λ x. sign kind.LeftParen o ∷ (x ++ (sign kind.RightParen c ∷ [])))
    (argument_row_tokens (hidden-the_row-ExprItem-2 xs) ∙ ap (λ xs. all_tokens expr_item_spelled xs) (items_hidden-the_row-ExprItem-2 xs))

-- operands

operand_row_tokens : {n : _} (row : Row_of-Operand n) → operand_tokens (operands_view row) ≡ all_tokens operand_spelled (items-the_row-Operand n row)
unfolding all_tokens operands_view operand_tokens
operand_row_tokens end_of-Operand = refl
operand_row_tokens (more_of-Operand op p e rest) = ap (λ x. sign (binary_kind op) p ∷ (expr_spelled e ++ x)) (operand_row_tokens rest)

pub binary_tokens : (e : _) (os : _) → expr_spelled (expr.Binary e os) ≡ expr_spelled e.value ++ all_tokens operand_spelled os.items
unfolding expr_tokens expr_view
binary_tokens e os = ap (λ x. expr_spelled e.value ++ x)
    (operand_row_tokens (hidden-the_row-Operand-1 os) ∙ ap (λ xs. all_tokens operand_spelled xs) (items_hidden-the_row-Operand-1 os))

pub named_binary_tokens : (n : ℕ) (os : _) → expr_spelled (expr.NamedBinary n os) ≡ sign kind.Name n ∷ all_tokens operand_spelled os.items
unfolding expr_tokens expr_view
named_binary_tokens n os = ap (λ x. sign kind.Name n ∷ x)
    (operand_row_tokens (hidden-the_row-Operand-1 os) ∙ ap (λ xs. all_tokens operand_spelled xs) (items_hidden-the_row-Operand-1 os))

-- literals

element_row_tokens : {n : _} (row : Row_of-Element n) → element_tokens (elements_view row) ≡ all_tokens element_spelled (items-the_row-Element n row)
unfolding all_tokens elements_view element_tokens
element_row_tokens end_of-Element = refl
element_row_tokens (more_of-Element k e c rest) =
    ap (λ x. key_tokens (key_view k) ++ (expr_spelled e ++ (sign_if kind.Comma c ++ x))) (element_row_tokens rest)
    ∙ (ap (λ x. key_tokens (key_view k) ++ x) (sym (append_assoc (expr_spelled e) (sign_if kind.Comma c)
    (all_tokens element_spelled (items-the_row-Element _ rest))))
    ∙ sym (append_assoc (key_tokens (key_view k)) (expr_spelled e ++ sign_if kind.Comma c) (all_tokens element_spelled (items-the_row-Element _ rest))))

pub literal_row_tokens : (t : TypeExpr) (o : ℕ) (es : _) (c : ℕ) →
    literal_spelled (roll-CompositeLit (record { literal_type = t; «open» = o; elements = es; close = c })) ≡
    type_spelled t ++ (sign kind.LeftBrace o ∷ (all_tokens element_spelled es.items ++ (sign kind.RightBrace c ∷ [])))
unfolding literal_tokens literal_view roll-CompositeLit denote.Hole.Carrier.roll
literal_row_tokens t o es c = ap (λ x. type_spelled t ++ (sign kind.LeftBrace o ∷ (x ++ (sign kind.RightBrace c ∷ []))))
    (element_row_tokens (hidden-the_row-Element-3 es) ∙ ap (λ xs. all_tokens element_spelled xs) (items_hidden-the_row-Element-3 es))
