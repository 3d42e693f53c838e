-- The identifiers of types and expressions stand at the names among their tokens.
use Rattle.std.proofs.Common.{ℕ, List, [], ◌∷◌, ◌++◌, Option, Some, None, refl}
use Rattle.go_ast.specs.declared.syntax.BinaryOp.{BinaryOp}
use Rattle.go_ast.specs.declared.syntax.BinaryOp.TheVariants as binary
use Rattle.go_ast.specs.declared.syntax.PrefixOp.{PrefixOp}
use Rattle.go_ast.specs.declared.syntax.PrefixOp.TheVariants as prefix
use Rattle.go_ast.specs.declared.syntax.Kind.TheVariants as kind
use Rattle.go_ast.specs.declared.syntax.Token.{Token}
use Rattle.go_ast.specs.Flatten.{sign, sign_if, binary_kind, prefix_kind, type_tokens, key_tokens, expr_tokens, operand_tokens, link_tokens}
use Rattle.go_ast.specs.Flatten.{argument_tokens, literal_tokens, element_tokens, exprs_tokens}
use Rattle.go_ast.specs.Tree.{Item, TypeTree, Local, Imported, Pointer, Slice, ExprTree, Number, Text, Name, Blank, Composite, Paren, Prefix, Address}
use Rattle.go_ast.specs.Tree.{Chain, Binary, OperandTrees, no_operand, operand, LinkTrees, no_link, selector, index, call, ArgumentTrees, no_argument}
use Rattle.go_ast.specs.Tree.{argument, LiteralTree, literal, ElementTrees, no_element, element}
use Rattle.go_scope.specs.Site.{Site, TokenSpellings}
use Rattle.go_scope.specs.ExpressionSites.{type_sites, key_sites, expr_sites, operand_sites, link_sites, argument_sites, literal_sites, element_sites}
use Rattle.go_scope.specs.ExpressionSites.{exprs_sites}
use Rattle.go_scope.specs.IdentifierTokens.{is_ident_token}
use Rattle.go_scope.proofs.Covers.{Covers, IsSkipped, ends, skips, takes, selects, keys, covers_append, covers_end, covers_behind, list_covers}

abbrev pub Named : TokenSpellings → List Site → List Token → Type 0
Named s xs ts = Covers is_ident_token s xs ts

pub named_append : (s : TokenSpellings) (xs ys : List Site) (ts us : List Token) → Named s xs ts → Named s ys us → Named s (xs ++ ys) (ts ++ us)
named_append s xs ys ts us a b = covers_append is_ident_token s xs ys ts us a b

no_binary : (op : BinaryOp) → IsSkipped is_ident_token (binary_kind op)
no_binary binary.Multiply = refl
no_binary binary.Divide = refl
no_binary binary.Remainder = refl
no_binary binary.Add = refl
no_binary binary.Subtract = refl
no_binary binary.Equal = refl
no_binary binary.NotEqual = refl
no_binary binary.Less = refl
no_binary binary.LessEqual = refl
no_binary binary.Greater = refl
no_binary binary.GreaterEqual = refl
no_binary binary.And = refl
no_binary binary.Or = refl

no_prefix : (op : PrefixOp) → IsSkipped is_ident_token (prefix_kind op)
no_prefix prefix.Plus = refl
no_prefix prefix.Minus = refl
no_prefix prefix.Not = refl
no_prefix prefix.Deref = refl

pub type_named : (s : TokenSpellings) (t : TypeTree) → Named s (type_sites s t) (type_tokens t)
unfolding type_sites type_tokens
type_named s (Local n) = takes refl refl refl ends
type_named s (Imported p d n) = takes refl refl refl (selects refl refl refl refl refl ends)
type_named s (Pointer p t) = skips refl (type_named s t)
type_named s (Slice o c t) = skips refl (skips refl (type_named s t))

key_named : (s : TokenSpellings) (k : Option (ℕ × ℕ)) → Named s (key_sites s k) (key_tokens k)
key_named s None = ends
key_named s (Some k) = keys refl refl refl refl refl ends

mutual
  unfolding expr_sites operand_sites link_sites argument_sites literal_sites element_sites expr_tokens operand_tokens link_tokens argument_tokens
      literal_tokens element_tokens

  pub expr_named : (s : TokenSpellings) (e : ExprTree) → Named s (expr_sites s e) (expr_tokens e)
  expr_named s (Number n) = skips refl ends
  expr_named s (Text n) = skips refl ends
  expr_named s (Name n) = takes refl refl refl ends
  expr_named s (Blank n) = takes refl refl refl ends
  expr_named s (Composite l) = literal_named s l
  expr_named s (Paren o e c) = skips refl (covers_end is_ident_token s (expr_sites s e) (expr_tokens e) kind.RightParen c refl (expr_named s e))
  expr_named s (Prefix op p e) = skips (no_prefix op) (expr_named s e)
  expr_named s (Address p l) = skips refl (literal_named s l)
  expr_named s (Chain e ls) = named_append s (expr_sites s e) (link_sites s ls) (expr_tokens e) (link_tokens ls) (expr_named s e) (links_named s ls)
  expr_named s (Binary e os) = named_append s (expr_sites s e) (operand_sites s os) (expr_tokens e) (operand_tokens os) (expr_named s e) (operands_named s os)

  operands_named : (s : TokenSpellings) (os : OperandTrees) → Named s (operand_sites s os) (operand_tokens os)
  operands_named s no_operand = ends
  operands_named s (operand op p e os) =
      skips (no_binary op) (named_append s (expr_sites s e) (operand_sites s os) (expr_tokens e) (operand_tokens os) (expr_named s e) (operands_named s os))

  links_named : (s : TokenSpellings) (ls : LinkTrees) → Named s (link_sites s ls) (link_tokens ls)
  links_named s no_link = ends
  links_named s (selector d n ls) = selects refl refl refl refl refl (links_named s ls)
  links_named s (index o e c ls) =
      skips refl (named_append s (expr_sites s e) (link_sites s ls) (expr_tokens e) (sign kind.RightBracket c ∷ link_tokens ls) (expr_named s e)
      (skips refl (links_named s ls)))
  links_named s (call o xs c ls) =
      skips refl (named_append s (argument_sites s xs) (link_sites s ls) (argument_tokens xs) (sign kind.RightParen c ∷ link_tokens ls)
      (arguments_named s xs) (skips refl (links_named s ls)))

  arguments_named : (s : TokenSpellings) (xs : ArgumentTrees) → Named s (argument_sites s xs) (argument_tokens xs)
  arguments_named s no_argument = ends
  arguments_named s (argument e comma rest) =
      named_append s (expr_sites s e) (argument_sites s rest) (expr_tokens e) (sign_if kind.Comma comma ++ argument_tokens rest) (expr_named s e)
      (covers_behind is_ident_token s (argument_sites s rest) (argument_tokens rest) kind.Comma comma refl (arguments_named s rest))

  literal_named : (s : TokenSpellings) (l : LiteralTree) → Named s (literal_sites s l) (literal_tokens l)
  literal_named s (literal t o es c) =
      named_append s (type_sites s t) (element_sites s es) (type_tokens t) (sign kind.LeftBrace o ∷ (element_tokens es ++ (sign kind.RightBrace c ∷ [])))
      (type_named s t)
      (skips refl (covers_end is_ident_token s (element_sites s es) (element_tokens es) kind.RightBrace c refl (elements_named s es)))

  elements_named : (s : TokenSpellings) (es : ElementTrees) → Named s (element_sites s es) (element_tokens es)
  elements_named s no_element = ends
  elements_named s (element key e comma rest) =
      named_append s (key_sites s key) (expr_sites s e ++ element_sites s rest) (key_tokens key)
      (expr_tokens e ++ (sign_if kind.Comma comma ++ element_tokens rest)) (key_named s key)
      (named_append s (expr_sites s e) (element_sites s rest) (expr_tokens e) (sign_if kind.Comma comma ++ element_tokens rest) (expr_named s e)
      (covers_behind is_ident_token s (element_sites s rest) (element_tokens rest) kind.Comma comma refl (elements_named s rest)))

pub exprs_named : (s : TokenSpellings) (es : List (Item ExprTree)) → Named s (exprs_sites s es) (exprs_tokens es)
exprs_named s es = list_covers is_ident_token s kind.Comma refl (expr_sites s) expr_tokens (expr_named s) es
