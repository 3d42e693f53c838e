-- Well-formed expressions consist of well-formed parts.
use Rattle.std.proofs.Common.{ℕ, ◌≡◌, ◌≢◌, ◌<◌, ap, sym, ◌∙◌, subst, Bool, true, false, List, [], ◌∷◌, ◌++◌, refl, Option, Some, None}
use Rattle.std.proofs.Common.{is_some, cond, ◌==◌}
use Rattle.go_ast.specs.declared.syntax.Kind.{Kind}
use Rattle.go_ast.specs.declared.syntax.Kind.TheVariants as kind
use Rattle.go_ast.specs.declared.syntax.PrefixOp.{PrefixOp}
use Rattle.go_ast.specs.declared.syntax.BinaryOp.{BinaryOp}
use Rattle.go_ast.specs.declared.syntax.BinaryOp.TheVariants as binary
use Rattle.go_ast.specs.declared.syntax.Token.{Token}
use Rattle.go_ast.specs.Grammar.{binary_of}
use Rattle.go_ast.specs.Flatten.{sign, binary_kind}
use Rattle.go_parser.specs.Strength.{strength_if, strength_at}
use Rattle.go_ast.specs.declared.tree.Expr.{Expr, Row_of-Link, end_of-Link, more_of-Link, items-the_row-Link, items_hidden-the_row-Link-0, Row_of-Operand}
use Rattle.go_ast.specs.declared.tree.Expr.{end_of-Operand, more_of-Operand, items-the_row-Operand, items_hidden-the_row-Operand-1}
use Rattle.go_ast.specs.declared.tree.Expr.TheBlock.{hidden-the_row-Link-0, hidden-the_row-Operand-1, hidden-the_row-ExprItem-2, hidden-the_row-Element-3}
use Rattle.go_ast.specs.declared.tree.Expr.TheVariants as expr
use Rattle.go_ast.specs.declared.tree.Expr.TheViews.{roll-CompositeLit}
use Rattle.go_ast.specs.declared.tree.Link.{Row_of-ExprItem, end_of-ExprItem, more_of-ExprItem, items-the_row-ExprItem, items_hidden-the_row-ExprItem-2}
use Rattle.go_ast.specs.declared.tree.Link.TheVariants as link
use Rattle.go_ast.specs.declared.tree.ExprItem.{ExprItem}
use Rattle.go_ast.specs.declared.tree.Element.{Element}
use Rattle.go_ast.specs.declared.tree.TypeExpr.{TypeExpr}
use Rattle.go_ast.specs.declared.tree.TypeExpr.TheVariants as type
use Rattle.go_ast.specs.declared.tree.CompositeLit.{CompositeLit, Row_of-Element, end_of-Element, more_of-Element, items-the_row-Element}
use Rattle.go_ast.specs.declared.tree.CompositeLit.{items_hidden-the_row-Element-3}
use Rattle.go_parser.specs.Leaf.{leaf_of}
use Rattle.go_ast.specs.Tree as tree
use Rattle.go_ast.specs.Tree.{TypeTree, Local, Imported, Pointer, Slice, ExprTree, no_link, LiteralTree, literal}
use Rattle.go_ast.specs.View.{type_view, expr_view, literal_view, link_view, links_view, operands_view, arguments_view, elements_view}
use Rattle.go_ast.specs.WellFormed.{strength, strength_of, IsExpr, IsExprIn, AreOperands, AreLinks, AreArguments, IsLiteral}
use Rattle.go_ast.specs.WellFormed.{IsLiteralType, AreElements, IsUnnamed, HasNoNamedLiteral, HaveNoNamedLiteral}
use Rattle.go_parser.specs.Grouping.{is_slice, is_literal_type, literal_type_of, IsUnary, IsOperand, IsLiteralIn, IsLink, IsSeparatedBy}
use Rattle.go_parser.specs.Grouping.{AreItems, Each, IsBinaryOf, IsOperandOf}
use Rattle.go_ast.specs.declared.tree.Operand.{Operand}

-- only the last item may lack its separator, and none does where more items may follow
pub record IsSeparatedSoFar {X : Type 0} (f : X → Option ℕ) (more : Bool) (xs : List X) : Type 0 where
  pub separated : IsSeparatedBy f xs
  pub complete : more ≡ true → Each (λ x. f x ≢ None) xs

clash : {X : Type 0} → false ≡ true → X
clash e = absurd (let f : ⊥ = cc in f)

-- types of literals

pub local_type_named : (n : ℕ) → is_literal_type (type_view (type.Local n)) ≡ true
unfolding type_view
local_type_named n = refl

pub imported_type_named : (p d n : ℕ) → is_literal_type (type_view (type.Imported p d n)) ≡ true
unfolding type_view
imported_type_named p d n = refl

pub slice_is_slice : (o c : ℕ) (t : _) → is_slice (type_view (type.Slice o c t)) ≡ true
unfolding type_view
slice_is_slice o c t = refl

literal_type_is : (t : TypeTree) → is_literal_type t ≡ true → IsLiteralType t
literal_type_is (Local n) e = tt
literal_type_is (Imported p d n) e = tt
literal_type_is (Pointer s t) e = clash e
literal_type_is (Slice o c t) e = tt

unnamed_slice : (l : LiteralTree) → is_slice (literal_type_of l) ≡ true → IsUnnamed l
unnamed_slice (literal (Local n) o es c) e = clash e
unnamed_slice (literal (Imported p d n) o es c) e = clash e
unnamed_slice (literal (Pointer s t) o es c) e = clash e
unnamed_slice (literal (Slice a b t) o es c) e = tt

-- operands

pub name_grouped : (h : Bool) (n : ℕ) → IsOperand h (expr_view (expr.Name n))
unfolding expr_view IsExpr HasNoNamedLiteral
name_grouped h n = record { expr = record { grouped = tt; unnamed = λ e. tt }; bare = refl }

pub composite_grouped : (h : Bool) (l : _) → let x = expr.Composite l in IsLiteralIn h (literal_view l.value) → IsOperand h (expr_view x)
unfolding expr_view IsExpr HasNoNamedLiteral
composite_grouped h l w = record { expr = record { grouped = w.grouped; unnamed = λ e. unnamed_slice (literal_view l.value) (w.unnamed e) }; bare = refl }

pub paren_grouped : (h : Bool) (o : ℕ) (e : _) (c : ℕ) → let x = expr.Paren o e c in IsExprIn false (expr_view e.value) → IsOperand h (expr_view x)
unfolding expr_view IsExpr HasNoNamedLiteral
paren_grouped h o e c w = record { expr = record { grouped = w.grouped; unnamed = λ e. tt }; bare = refl }

pub prefix_grouped : (h : Bool) (op : PrefixOp) (p : ℕ) (e : _) → let x = expr.Prefix op p e in IsUnary h (expr_view e.value) → IsUnary h (expr_view x)
unfolding expr_view IsExpr HasNoNamedLiteral
prefix_grouped h op p e w = record { expr = record { grouped = (w.single, w.expr.grouped); unnamed = λ x. w.expr.unnamed x }; single = refl }

pub address_grouped : (h : Bool) (p : ℕ) (l : _) → let x = expr.Address p l in IsLiteralIn h (literal_view l.value) → IsUnary h (expr_view x)
unfolding expr_view IsExpr HasNoNamedLiteral
address_grouped h p l w = record { expr = record { grouped = w.grouped; unnamed = λ e. unnamed_slice (literal_view l.value) (w.unnamed e) }; single = refl }

-- operands of one token

abbrev GroupedIf : Bool → Option Expr → Type 0
GroupedIf h None = Unit {0}
GroupedIf h (Some e) = IsOperand h (expr_view e)

leaf_grouped_if : (h : Bool) (p : ℕ) (k : Kind) → GroupedIf h (leaf_of k p)
unfolding expr_view IsExpr HasNoNamedLiteral
leaf_grouped_if h p kind.Name = tt
leaf_grouped_if h p kind.Blank = record { expr = record { grouped = tt; unnamed = λ e. tt }; bare = refl }
leaf_grouped_if h p kind.Number = record { expr = record { grouped = tt; unnamed = λ e. tt }; bare = refl }
leaf_grouped_if h p kind.Text = record { expr = record { grouped = tt; unnamed = λ e. tt }; bare = refl }
leaf_grouped_if h p kind.LeftParen = tt
leaf_grouped_if h p kind.RightParen = tt
leaf_grouped_if h p kind.LeftBracket = tt
leaf_grouped_if h p kind.RightBracket = tt
leaf_grouped_if h p kind.LeftBrace = tt
leaf_grouped_if h p kind.RightBrace = tt
leaf_grouped_if h p kind.Comma = tt
leaf_grouped_if h p kind.Dot = tt
leaf_grouped_if h p kind.Colon = tt
leaf_grouped_if h p kind.Semicolon = tt
leaf_grouped_if h p kind.Plus = tt
leaf_grouped_if h p kind.Minus = tt
leaf_grouped_if h p kind.Star = tt
leaf_grouped_if h p kind.Slash = tt
leaf_grouped_if h p kind.Percent = tt
leaf_grouped_if h p kind.Equal = tt
leaf_grouped_if h p kind.NotEqual = tt
leaf_grouped_if h p kind.Less = tt
leaf_grouped_if h p kind.LessEqual = tt
leaf_grouped_if h p kind.Greater = tt
leaf_grouped_if h p kind.GreaterEqual = tt
leaf_grouped_if h p kind.AndAnd = tt
leaf_grouped_if h p kind.OrOr = tt
leaf_grouped_if h p kind.Not = tt
leaf_grouped_if h p kind.Ampersand = tt
leaf_grouped_if h p kind.Assign = tt
leaf_grouped_if h p kind.Define = tt
leaf_grouped_if h p kind.AddAssign = tt
leaf_grouped_if h p kind.SubAssign = tt
leaf_grouped_if h p kind.MulAssign = tt
leaf_grouped_if h p kind.DivAssign = tt
leaf_grouped_if h p kind.RemAssign = tt
leaf_grouped_if h p kind.Increment = tt
leaf_grouped_if h p kind.Decrement = tt
leaf_grouped_if h p kind.If = tt
leaf_grouped_if h p kind.Else = tt
leaf_grouped_if h p kind.For = tt
leaf_grouped_if h p kind.Break = tt
leaf_grouped_if h p kind.Continue = tt
leaf_grouped_if h p kind.Return = tt
leaf_grouped_if h p kind.Var = tt
leaf_grouped_if h p kind.Package = tt
leaf_grouped_if h p kind.Import = tt
leaf_grouped_if h p kind.Func = tt
leaf_grouped_if h p kind.TypeWord = tt
leaf_grouped_if h p kind.Struct = tt
leaf_grouped_if h p kind.Interface = tt
leaf_grouped_if h p kind.Other = tt

pub leaf_grouped : (h : Bool) (p : ℕ) (k : Kind) (e : Expr) → leaf_of k p ≡ Some e → IsOperand h (expr_view e)
leaf_grouped h p k e same = subst (GroupedIf h) same (leaf_grouped_if h p k)

-- chains

links_wf : {n : _} (row : Row_of-Link n) → Each IsLink (items-the_row-Link n row) → AreLinks (links_view row)
unfolding AreLinks links_view link_view
links_wf end_of-Link w = tt
links_wf (more_of-Link (link.Selector d n) rest) w = links_wf rest w.1
links_wf (more_of-Link (link.Index' o p e c) rest) w = (w.0.0, links_wf rest w.1)
links_wf (more_of-Link (link.Call' o c shape row) rest) w = (w.0.0, links_wf rest w.1)

some_links : {n : _} (row : Row_of-Link n) → items-the_row-Link n row ≢ [] → links_view row ≢ no_link
unfolding links_view link_view
some_links end_of-Link w e = w refl
some_links (more_of-Link (link.Selector d n) rest) w e = cc
some_links (more_of-Link (link.Index' o p x c) rest) w e = cc
some_links (more_of-Link (link.Call' o c shape row) rest) w e = cc

pub chain_grouped : (h : Bool) (e : _) (links : _) → let x = expr.Chain e links in
    IsOperand h (expr_view e.value) → Each IsLink links.items → links.items ≢ [] → IsUnary h (expr_view x)
unfolding expr_view IsExpr HasNoNamedLiteral
chain_grouped h e links w each some = record {
  expr = record {
    grouped = (
      w.bare,
      some_links (hidden-the_row-Link-0 links) (λ x. some (sym (items_hidden-the_row-Link-0 links) ∙ x)),
      w.expr.grouped,
      links_wf (hidden-the_row-Link-0 links) (subst (Each IsLink) (sym (items_hidden-the_row-Link-0 links)) each),
    );
    unnamed = λ x. w.expr.unnamed x;
  };
  single = refl;
}

pub named_chain_grouped : (h : Bool) (n : ℕ) (links : _) → let x = expr.NamedChain n links in
    Each IsLink links.items → links.items ≢ [] → IsUnary h (expr_view x)
unfolding expr_view IsExpr HasNoNamedLiteral
named_chain_grouped h n links each some = record {
  expr = record {
    grouped = (
      refl,
      some_links (hidden-the_row-Link-0 links) (λ x. some (sym (items_hidden-the_row-Link-0 links) ∙ x)),
      tt,
      links_wf (hidden-the_row-Link-0 links) (subst (Each IsLink) (sym (items_hidden-the_row-Link-0 links)) each),
    );
    unnamed = λ x. tt;
  };
  single = refl;
}

-- binaries

joined_wf : (h : Bool) (k : ℕ) {n : _} (row : Row_of-Operand n) → Each (IsOperandOf h k) (items-the_row-Operand n row) → AreOperands k (operands_view row)
unfolding AreOperands operands_view
joined_wf h k end_of-Operand w = tt
joined_wf h k (more_of-Operand op p e rest) w = (w.0.same, w.0.stronger, w.0.expr.grouped, joined_wf h k rest w.1)

joined_unnamed : (h : Bool) (k : ℕ) {n : _} (row : Row_of-Operand n) → Each (IsOperandOf h k) (items-the_row-Operand n row) → h ≡ true →
    HaveNoNamedLiteral (operands_view row)
unfolding HaveNoNamedLiteral operands_view
joined_unnamed h k end_of-Operand w x = tt
joined_unnamed h k (more_of-Operand op p e rest) w x = (w.0.expr.unnamed x, joined_unnamed h k rest w.1 x)

joined_tree : (h : Bool) (k : ℕ) {n : _} (row : Row_of-Operand n) (e : ExprTree) → IsExprIn h e → k < strength_of e →
    Each (IsOperandOf h k) (items-the_row-Operand n row) →
    items-the_row-Operand n row ≢ [] → IsExpr (tree.Binary e (operands_view row)) × (strength_of (tree.Binary e (operands_view row)) ≡ k)
unfolding IsExpr operands_view
joined_tree h k end_of-Operand e w strong each some = absurd (some refl)
joined_tree h k (more_of-Operand op p f rest) e w strong each some = (
  (
    subst (λ j. j < strength_of e) (sym each.0.same) strong,
    w.grouped,
    subst (λ j. AreOperands j (operands_view (more_of-Operand op p f rest))) (sym each.0.same) (joined_wf h k (more_of-Operand op p f rest) each),
  ),
  each.0.same,
)

binary_grouped : (h : Bool) (k : ℕ) (e : _) (os : _) → let x = expr.Binary e os in
    IsExprIn h (expr_view e.value) → k < strength_of (expr_view e.value) → Each (IsOperandOf h k) os.items → os.items ≢ [] →
    IsExprIn h (expr_view x)
unfolding expr_view HasNoNamedLiteral
binary_grouped h k e os w strong each some =
    let same = items_hidden-the_row-Operand-1 os in
    let row = subst (Each (IsOperandOf h k)) (sym same) each in
    record {
      grouped = (joined_tree h k (hidden-the_row-Operand-1 os) (expr_view e.value) w strong row (λ x. some (sym same ∙ x))).0;
      unnamed = λ x. (w.unnamed x, joined_unnamed h k (hidden-the_row-Operand-1 os) row x);
    }

binary_strength : (h : Bool) (k : ℕ) (e : _) (os : _) → let x = expr.Binary e os in
    IsExprIn h (expr_view e.value) → k < strength_of (expr_view e.value) → Each (IsOperandOf h k) os.items → os.items ≢ [] →
    strength_of (expr_view x) ≡ k
unfolding expr_view
binary_strength h k e os w strong each some =
    let same = items_hidden-the_row-Operand-1 os in
    (joined_tree h k (hidden-the_row-Operand-1 os) (expr_view e.value) w strong (subst (Each (IsOperandOf h k)) (sym same) each) (λ x. some (sym same ∙ x))).1

pub joined_binary : (h : Bool) (k : ℕ) (e : _) (os : _) → let x = expr.Binary e os in
    IsExprIn h (expr_view e.value) → k < strength_of (expr_view e.value) → Each (IsOperandOf h k) os.items → os.items ≢ [] →
    IsBinaryOf h k (expr_view x)
joined_binary h k e os w strong each some = record { expr = binary_grouped h k e os w strong each some; same = binary_strength h k e os w strong each some }

pub joined_name : (h : Bool) (k n : ℕ) (os : _) → let x = expr.NamedBinary n os in
    IsExprIn h (expr_view (expr.Name n)) → k < strength_of (expr_view (expr.Name n)) → Each (IsOperandOf h k) os.items → os.items ≢ [] →
    IsBinaryOf h k (expr_view x)
unfolding expr_view HasNoNamedLiteral
joined_name h k n os w strong each some =
    let same = items_hidden-the_row-Operand-1 os in
    let row = subst (Each (IsOperandOf h k)) (sym same) each in
    let whole = joined_tree h k (hidden-the_row-Operand-1 os) (tree.Name n) w strong row (λ x. some (sym same ∙ x)) in
    record {
      expr = record { grouped = whole.0; unnamed = λ x. (w.unnamed x, joined_unnamed h k (hidden-the_row-Operand-1 os) row x) };
      same = whole.1;
    }

-- an expression that is no binary one binds more strongly than each operator
pub unary_strength : (h : Bool) (e : ExprTree) → IsUnary h e → strength_of e ≡ 6
unary_strength h (tree.Number n) w = refl
unary_strength h (tree.Text n) w = refl
unary_strength h (tree.Name n) w = refl
unary_strength h (tree.Blank n) w = refl
unary_strength h (tree.Composite l) w = refl
unary_strength h (tree.Paren o e c) w = refl
unary_strength h (tree.Prefix op p e) w = refl
unary_strength h (tree.Address p l) w = refl
unary_strength h (tree.Chain e ls) w = refl
unary_strength h (tree.Binary e os) w = clash (sym w.single)

-- lists of items

pub push_some : {X : Type 0} (xs : List X) (x : X) → xs ++ x ∷ [] ≡ [] → ⊥
push_some [] x e = cc
push_some (y ∷ ys) x e = cc

pub each_push : {X : Type 0} (P : X → Type 0) (xs : List X) (x : X) → Each P xs → P x → Each P (xs ++ (x ∷ []))
each_push P [] x w h = (h, tt)
each_push P (y ∷ ys) x w h = (w.0, each_push P ys x w.1 h)

separated_push : {X : Type 0} (f : X → Option ℕ) (xs : List X) (x : X) → Each (λ y. f y ≢ None) xs → IsSeparatedBy f (xs ++ (x ∷ []))
separated_push f [] x w = (λ e. refl, tt)
separated_push f (y ∷ ys) x w = (λ e. absurd (w.0 e), separated_push f ys x w.1)

some_is_not_none : {X : Type 0} (o : Option X) → is_some o ≡ true → o ≢ None
some_is_not_none None e f = clash e
some_is_not_none (Some x) e f = cc

pub so_far_push : {X : Type 0} (f : X → Option ℕ) (more : Bool) (xs : List X) (x : X) → more ≡ true → IsSeparatedSoFar f more xs →
    IsSeparatedSoFar f (is_some (f x)) (xs ++ (x ∷ []))
so_far_push f more xs x go w = record {
  separated = separated_push f xs x (w.complete go);
  complete = λ e. each_push (λ y. f y ≢ None) xs x (w.complete go) (some_is_not_none (f x) e);
}

pub so_far_none : {X : Type 0} (f : X → Option ℕ) → IsSeparatedSoFar f true []
so_far_none f = record { separated = tt; complete = λ e. tt }

-- calls

no_arguments : {n : _} (row : Row_of-ExprItem n) → items-the_row-ExprItem n row ≡ [] → arguments_view row ≡ tree.no_argument
unfolding arguments_view
no_arguments end_of-ExprItem e = refl
no_arguments (more_of-ExprItem e c rest) x = cc

arguments_wf : {n : _} (row : Row_of-ExprItem n) → Each (λ i. IsExpr (expr_view i.value)) (items-the_row-ExprItem n row) →
    IsSeparatedBy (λ i. i.comma) (items-the_row-ExprItem n row) → AreArguments (arguments_view row)
unfolding AreArguments arguments_view
arguments_wf end_of-ExprItem w s = tt
arguments_wf (more_of-ExprItem e c rest) w s = (λ x. no_arguments rest (s.0 x), w.0, arguments_wf rest w.1 s.1)

pub selector_wf : (d n : ℕ) → IsLink (link.Selector d n)
unfolding AreLinks link_view
selector_wf d n = tt

pub index_wf : (o : ℕ) (e : _) (c : ℕ) → let l = link.Index o e c in IsExprIn false (expr_view e.value) → IsLink l
unfolding AreLinks link_view
index_wf o e c w = (w.grouped, tt)

pub call_wf : (o : ℕ) (xs : _) (c : ℕ) → let l = link.Call o c xs in AreItems xs.items → IsLink l
unfolding AreLinks link_view
call_wf o xs c w =
    let same = items_hidden-the_row-ExprItem-2 xs in (
      arguments_wf (hidden-the_row-ExprItem-2 xs) (subst (Each {X = ExprItem} (λ i. IsExpr (expr_view i.value))) (sym same) w.each)
          (subst (IsSeparatedBy {X = ExprItem} (λ i. i.comma)) (sym same) w.separated),
      tt,
    )

-- literals

no_elements : {n : _} (row : Row_of-Element n) → items-the_row-Element n row ≡ [] → elements_view row ≡ tree.no_element
unfolding elements_view
no_elements end_of-Element e = refl
no_elements (more_of-Element k e c rest) x = cc

elements_wf : {n : _} (row : Row_of-Element n) → Each (λ i. IsExpr (expr_view i.value)) (items-the_row-Element n row) →
    IsSeparatedBy (λ i. i.comma) (items-the_row-Element n row) → AreElements (elements_view row)
unfolding AreElements elements_view
elements_wf end_of-Element w s = tt
elements_wf (more_of-Element k e c rest) w s = (λ x. no_elements rest (s.0 x), w.0, elements_wf rest w.1 s.1)

pub literal_wf : (t : TypeExpr) (o : ℕ) (es : _) (c : ℕ) → let l =
    literal_view (roll-CompositeLit (record { literal_type = t; «open» = o; elements = es; close = c })) in
    is_literal_type (type_view t) ≡ true → Each {X = Element} (λ i. IsExpr (expr_view i.value)) es.items → IsSeparatedBy {X = Element} (λ i. i.comma) es.items →
    IsLiteral l
unfolding IsLiteral literal_view roll-CompositeLit denote.Hole.Carrier.roll
literal_wf t o es c named each separated =
    let same = items_hidden-the_row-Element-3 es in (
      literal_type_is (type_view t) named,
      elements_wf (hidden-the_row-Element-3 es)
          (subst (Each {X = Element} (λ i. IsExpr (expr_view i.value))) (sym same) each)
          (subst (IsSeparatedBy {X = Element} (λ i. i.comma)) (sym same) separated),
    )

pub literal_typed : (t : TypeExpr) (o : ℕ) (es : _) (c : ℕ) →
    literal_type_of (literal_view (roll-CompositeLit (record { literal_type = t; «open» = o; elements = es; close = c }))) ≡ type_view t
unfolding literal_view roll-CompositeLit denote.Hole.Carrier.roll
literal_typed t o es c = refl

-- through a last call

pub named_not_in_header : {X : Type 0} (h b : Bool) → cond h false b ≡ true → h ≡ true → X
named_not_in_header true b e f = clash e
named_not_in_header false b e f = clash f

pub not_zero : (n : ℕ) → (n == 0) ≡ false → n ≡ 0 → ⊥
not_zero n e f = let g : (n == 0) ≡ true = ap (λ m. m == 0) f in clash (sym e ∙ g)

strength_back : (op : BinaryOp) → strength_if (binary_of (binary_kind op)) ≡ strength op
strength_back binary.Multiply = refl
strength_back binary.Divide = refl
strength_back binary.Remainder = refl
strength_back binary.Add = refl
strength_back binary.Subtract = refl
strength_back binary.Equal = refl
strength_back binary.NotEqual = refl
strength_back binary.Less = refl
strength_back binary.LessEqual = refl
strength_back binary.Greater = refl
strength_back binary.GreaterEqual = refl
strength_back binary.And = refl
strength_back binary.Or = refl

pub operator_strength : (op : BinaryOp) (p : ℕ) (ts rest : List Token) → ts ≡ sign (binary_kind op) p ∷ rest → strength_at ts ≡ strength op
operator_strength op p ts rest e = ap strength_at e ∙ strength_back op
