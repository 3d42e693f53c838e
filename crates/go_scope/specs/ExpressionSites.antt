-- The identifiers of types and expressions, in the order of their tokens.
use Rattle.std.specs.Prelude.{ℕ, List, [], ◌∷◌, ◌++◌, Option, Some, None}
use Rattle.std.specs.List.{flat_map}
use Rattle.go_scope.specs.declared.model.Role.TheVariants.{Use, NotLexical}
use Rattle.go_scope.specs.declared.model.Purpose.TheVariants as purpose
use Rattle.go_scope.specs.Site.{Site, TokenSpellings, site}
use Rattle.go_ast.specs.Tree.{Item, TypeTree, Local, Imported, Pointer, Slice, ExprTree, Number, Text, Name, Blank, Composite, Paren, Prefix, Address}
use Rattle.go_ast.specs.Tree.{Chain, Binary, OperandTrees, no_operand, operand, LinkTrees, no_link, selector, index, call, ArgumentTrees, no_argument}
use Rattle.go_ast.specs.Tree.{argument, LiteralTree, literal, ElementTrees, no_element, element}

-- the identifiers of an optional tree
abbrev pub sites_if : {X : Type 0} → (X → List Site) → Option X → List Site
sites_if f None = []
sites_if f (Some x) = f x

-- the identifiers of the items of a list
abbrev pub list_sites : {X : Type 0} → (X → List Site) → List (Item X) → List Site
list_sites f xs = flat_map (λ x. f x.value) xs

-- the identifiers of a type; in `p.T` the name p is a use, and T a selected name
unfoldable pub type_sites : TokenSpellings → TypeTree → List Site
type_sites s (Local n) = site s n Use ∷ []
type_sites s (Imported p d n) = site s p Use ∷ site s n (NotLexical purpose.Selected) ∷ []
type_sites s (Pointer p t) = type_sites s t
type_sites s (Slice o c t) = type_sites s t

-- the identifier of an optional composite literal key
abbrev pub key_sites : TokenSpellings → Option (ℕ × ℕ) → List Site
key_sites s None = []
key_sites s (Some k) = site s k.0 (NotLexical purpose.Key) ∷ []

unfoldable mutual
  pub expr_sites : TokenSpellings → ExprTree → List Site
  expr_sites s (Number n) = []
  expr_sites s (Text n) = []
  expr_sites s (Name n) = site s n Use ∷ []
  expr_sites s (Blank n) = site s n Use ∷ []
  expr_sites s (Composite l) = literal_sites s l
  expr_sites s (Paren o e c) = expr_sites s e
  expr_sites s (Prefix op p e) = expr_sites s e
  expr_sites s (Address p l) = literal_sites s l
  expr_sites s (Chain e ls) = expr_sites s e ++ link_sites s ls
  expr_sites s (Binary e os) = expr_sites s e ++ operand_sites s os

  pub operand_sites : TokenSpellings → OperandTrees → List Site
  operand_sites s no_operand = []
  operand_sites s (operand op p e os) = expr_sites s e ++ operand_sites s os

  pub link_sites : TokenSpellings → LinkTrees → List Site
  link_sites s no_link = []
  link_sites s (selector d n ls) = site s n (NotLexical purpose.Selected) ∷ link_sites s ls
  link_sites s (index o e c ls) = expr_sites s e ++ link_sites s ls
  link_sites s (call o xs c ls) = argument_sites s xs ++ link_sites s ls

  pub argument_sites : TokenSpellings → ArgumentTrees → List Site
  argument_sites s no_argument = []
  argument_sites s (argument e comma rest) = expr_sites s e ++ argument_sites s rest

  pub literal_sites : TokenSpellings → LiteralTree → List Site
  literal_sites s (literal t o es c) = type_sites s t ++ element_sites s es

  pub element_sites : TokenSpellings → ElementTrees → List Site
  element_sites s no_element = []
  element_sites s (element key e comma rest) = key_sites s key ++ (expr_sites s e ++ element_sites s rest)

abbrev pub exprs_sites : TokenSpellings → List (Item ExprTree) → List Site
exprs_sites s es = list_sites (expr_sites s) es
