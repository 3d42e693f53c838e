-- Types and expressions declare nothing.
use Rattle.std.proofs.Common.{ℕ, List, [], ◌∷◌, ◌++◌, Option, Some, None, refl}
use Rattle.go_scope.specs.Site.{Site, TokenSpellings}
use Rattle.go_scope.specs.ExpressionSites.{sites_if, list_sites, type_sites, key_sites, expr_sites, operand_sites, link_sites, argument_sites}
use Rattle.go_scope.specs.ExpressionSites.{literal_sites, element_sites, exprs_sites}
use Rattle.go_scope.specs.Bindings.{may_declare}
use Rattle.go_scope.specs.StatementSites.{assigned_sites}
use Rattle.go_scope.proofs.Regions.{Plain, each_append}
use Rattle.go_ast.specs.Tree.{Item, TypeTree, Local, Imported, Pointer, Slice, ExprTree, Number, Text, Name, Blank, Composite, Paren, Prefix, Address}
use Rattle.go_ast.specs.Tree.{Chain, Binary, OperandTrees, no_operand, operand, LinkTrees, no_link, selector, index, call, ArgumentTrees, no_argument}
use Rattle.go_ast.specs.Tree.{argument, LiteralTree, literal, ElementTrees, no_element, element}
use Rattle.std.specs.Prelude.{◌≡◌, false}

pub plain_append : (xs ys : List Site) → Plain xs → Plain ys → Plain (xs ++ ys)
plain_append xs ys a b = each_append (λ x. may_declare x.role ≡ false) xs ys a b

pub plain_list : {X : Type 0} → (f : X → List Site) → ((x : X) → Plain (f x)) → (xs : List (Item X)) → Plain (list_sites f xs)
plain_list f h [] = tt
plain_list f h (x ∷ xs) = plain_append (f x.value) (list_sites f xs) (h x.value) (plain_list f h xs)

pub plain_if : {X : Type 0} → (f : X → List Site) → ((x : X) → Plain (f x)) → (x : Option X) → Plain (sites_if f x)
plain_if f h None = tt
plain_if f h (Some x) = h x

pub plain_type : (s : TokenSpellings) (t : TypeTree) → Plain (type_sites s t)
unfolding type_sites
plain_type s (Local n) = (refl, tt)
plain_type s (Imported p d n) = (refl, (refl, tt))
plain_type s (Pointer p t) = plain_type s t
plain_type s (Slice o c t) = plain_type s t

plain_key : (s : TokenSpellings) (k : Option (ℕ × ℕ)) → Plain (key_sites s k)
plain_key s None = tt
plain_key s (Some k) = (refl, tt)

mutual
  unfolding expr_sites operand_sites link_sites argument_sites literal_sites element_sites

  pub plain_expr : (s : TokenSpellings) (e : ExprTree) → Plain (expr_sites s e)
  plain_expr s (Number n) = tt
  plain_expr s (Text n) = tt
  plain_expr s (Name n) = (refl, tt)
  plain_expr s (Blank n) = (refl, tt)
  plain_expr s (Composite l) = plain_literal s l
  plain_expr s (Paren o e c) = plain_expr s e
  plain_expr s (Prefix op p e) = plain_expr s e
  plain_expr s (Address p l) = plain_literal s l
  plain_expr s (Chain e ls) = plain_append (expr_sites s e) (link_sites s ls) (plain_expr s e) (plain_links s ls)
  plain_expr s (Binary e os) = plain_append (expr_sites s e) (operand_sites s os) (plain_expr s e) (plain_operands s os)

  plain_operands : (s : TokenSpellings) (os : OperandTrees) → Plain (operand_sites s os)
  plain_operands s no_operand = tt
  plain_operands s (operand op p e os) = plain_append (expr_sites s e) (operand_sites s os) (plain_expr s e) (plain_operands s os)

  plain_links : (s : TokenSpellings) (ls : LinkTrees) → Plain (link_sites s ls)
  plain_links s no_link = tt
  plain_links s (selector d n ls) = (refl, plain_links s ls)
  plain_links s (index o e c ls) = plain_append (expr_sites s e) (link_sites s ls) (plain_expr s e) (plain_links s ls)
  plain_links s (call o xs c ls) = plain_append (argument_sites s xs) (link_sites s ls) (plain_arguments s xs) (plain_links s ls)

  plain_arguments : (s : TokenSpellings) (xs : ArgumentTrees) → Plain (argument_sites s xs)
  plain_arguments s no_argument = tt
  plain_arguments s (argument e comma rest) = plain_append (expr_sites s e) (argument_sites s rest) (plain_expr s e) (plain_arguments s rest)

  plain_literal : (s : TokenSpellings) (l : LiteralTree) → Plain (literal_sites s l)
  plain_literal s (literal t o es c) = plain_append (type_sites s t) (element_sites s es) (plain_type s t) (plain_elements s es)

  plain_elements : (s : TokenSpellings) (es : ElementTrees) → Plain (element_sites s es)
  plain_elements s no_element = tt
  plain_elements s (element key e comma rest) =
      plain_append (key_sites s key) (expr_sites s e ++ element_sites s rest) (plain_key s key)
      (plain_append (expr_sites s e) (element_sites s rest) (plain_expr s e) (plain_elements s rest))

pub plain_exprs : (s : TokenSpellings) (es : List (Item ExprTree)) → Plain (exprs_sites s es)
plain_exprs s es = plain_list (expr_sites s) (plain_expr s) es

pub plain_assigned : (s : TokenSpellings) (e : ExprTree) → Plain (assigned_sites s e)
unfolding expr_sites
plain_assigned s (Blank n) = (refl, tt)
plain_assigned s (Number n) = tt
plain_assigned s (Text n) = tt
plain_assigned s (Name n) = (refl, tt)
plain_assigned s (Composite l) = plain_expr s (Composite l)
plain_assigned s (Paren o e c) = plain_expr s (Paren o e c)
plain_assigned s (Prefix op p e) = plain_expr s (Prefix op p e)
plain_assigned s (Address p l) = plain_expr s (Address p l)
plain_assigned s (Chain e ls) = plain_expr s (Chain e ls)
plain_assigned s (Binary e os) = plain_expr s (Binary e os)
