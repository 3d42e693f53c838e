-- Well-formedness of the parts that the parser makes of expressions.
use Rattle.std.specs.Prelude.{ℕ, ◌≡◌, ◌<◌, Bool, true, false, List, [], ◌∷◌, Option, None}
use Rattle.go_ast.specs.declared.tree.ExprItem.{ExprItem}
use Rattle.go_ast.specs.declared.tree.Link.{Link}
use Rattle.go_ast.specs.declared.tree.Operand.{Operand}
use Rattle.go_ast.specs.Tree.{TypeTree, Pointer, Slice, ExprTree, no_link, LiteralTree, literal}
use Rattle.go_ast.specs.View.{expr_view, link_view}
use Rattle.go_ast.specs.WellFormed.{is_operand, is_binary_tree, IsExpr, IsExprIn, AreLinks, IsLiteral, strength, strength_of}

-- the type is a slice type
abbrev pub is_slice : TypeTree → Bool
is_slice (Slice o c t) = true
is_slice _ = false

-- the type may be that of a composite literal: it is no pointer type
abbrev pub is_literal_type : TypeTree → Bool
is_literal_type (Pointer s t) = false
is_literal_type _ = true

-- the type of a composite literal
abbrev pub literal_type_of : LiteralTree → TypeTree
literal_type_of (literal t o es c) = t

-- the expression is well formed and no binary expression; h says that it is in a header
pub record IsUnary (h : Bool) (e : ExprTree) : Type 0 where
  pub expr : IsExprIn h e
  pub single : is_binary_tree e ≡ false

-- the expression is well formed and may be the first operand of a chain; h says that it is in a header
pub record IsOperand (h : Bool) (e : ExprTree) : Type 0 where
  pub expr : IsExprIn h e
  pub bare : is_operand e ≡ true

-- the composite literal is well formed; in a header (h) its type is a slice type
pub record IsLiteralIn (h : Bool) (l : LiteralTree) : Type 0 where
  pub grouped : IsLiteral l
  pub unnamed : h ≡ true → is_slice (literal_type_of l) ≡ true

-- the link is well formed
abbrev pub IsLink : Link → Type 0
IsLink l = AreLinks (link_view l no_link)

-- an operator of this precedence, and an operand that binds more strongly
pub record IsOperandOf (h : Bool) (k : ℕ) (o : Operand) : Type 0 where
  pub same : strength o.op ≡ k
  pub stronger : k < strength_of (expr_view o.value)
  pub expr : IsExprIn h (expr_view o.value)

-- the expression is well formed, and its operators have this precedence
pub record IsBinaryOf (h : Bool) (k : ℕ) (e : ExprTree) : Type 0 where
  pub expr : IsExprIn h e
  pub same : strength_of e ≡ k

-- each item of a list satisfies P
abbrev pub Each : {X : Type 0} → (X → Type 0) → List X → Type 0
Each P [] = Unit {0}
Each P (x ∷ xs) = P x × Each P xs

-- only the last item of a list may lack its separator, which f gives
abbrev pub IsSeparatedBy : {X : Type 0} → (X → Option ℕ) → List X → Type 0
IsSeparatedBy f [] = Unit {0}
IsSeparatedBy f (x ∷ xs) = (f x ≡ None → xs ≡ []) × IsSeparatedBy f xs

-- each expression of a list is well formed, and only the last may lack its comma
pub record AreItems (items : List ExprItem) : Type 0 where
  pub each : Each (λ i. IsExpr (expr_view i.value)) items
  pub separated : IsSeparatedBy (λ i. i.comma) items
