-- In an expression that has a meaning each key is a member that it asks for. So is each selector that is not bound as a qualified
-- identifier.
use Rattle.std.proofs.Common.{ℕ, ◌≡◌, inl, inr, true, false, List, [], ◌∷◌, ◌++◌, Some}
use Rattle.go_ast.specs.Tree.{TypeTree, ExprTree, LinkTrees, OperandTrees, ArgumentTrees, LiteralTree, ElementTrees}
use Rattle.go_ast.specs.Tree as tree
use Rattle.go_scope.specs.declared.model.Role.TheVariants.{NotLexical}
use Rattle.go_scope.specs.declared.model.Purpose.TheVariants as purpose
use Rattle.go_scope.specs.Site.{Site, TokenSpellings}
use Rattle.go_scope.specs.ExpressionSites.{type_sites, expr_sites, operand_sites, link_sites, argument_sites, literal_sites, element_sites}
use Rattle.types_expr.specs.Types.{PlainType, Pointer, ValueKind, Meaning, Broken, AFieldOf, AMethodOf}
use Rattle.types_expr.specs.World.{World, Locals, Means, Member, AField, AMethod}
use Rattle.law_typing.specs.Names.{NameMeans, a_local, a_bound, IsType}
use Rattle.law_typing.specs.Names as names
use Rattle.law_typing.specs.Links.{SelectsMember}
use Rattle.law_typing.specs.Links as links
use Rattle.law_typing.specs.Meanings.{HasMeaning, LinksMean, OperandsMean, AreValues, IsLiteralOf, AreFields, AreElements}
use Rattle.law_typing.specs.Meanings as means
use Rattle.law_faultless.specs.Questions.{TokenQuestion, OfMember, Asks, in_composite, in_paren}
use Rattle.law_faultless.specs.Questions.{in_prefix, in_address, in_chain, in_links, in_binary, in_operands}
use Rattle.law_faultless.specs.Questions.{LinksAsk, for_member, behind_selector, in_index, behind_index, in_arguments, behind_call, OperandsAsk, in_operand}
use Rattle.law_faultless.specs.Questions.{in_later_operand, ArgumentsAsk, in_argument, in_later_argument, LiteralAsks, in_elements, ElementsAsk, for_key}
use Rattle.law_faultless.specs.Questions.{in_element, in_later_element}
use Rattle.law_faultless.specs.MemberLinks.{IsLinked}

-- each of some identifiers is linked
abbrev pub AreLinked : World → (ℕ → Type 0) → List Site → Type 0
AreLinked w U [] = Unit {0}
AreLinked w U (x ∷ xs) = IsLinked w U x.place.index x.role × AreLinked w U xs

pub linked_append : (w : World) (U : ℕ → Type 0) (xs ys : List Site) → AreLinked w U xs → AreLinked w U ys → AreLinked w U (xs ++ ys)
linked_append w U [] ys a b = b
linked_append w U (x ∷ xs) ys a b = (a.0, linked_append w U xs ys a.1 b)

-- where a member is asked for, and the type has it, it is used
abbrev pub Tells : World → (ℕ → Type 0) → (TokenQuestion → Type 0) → Type 0
Tells w U Q = (n : ℕ) (t : PlainType) (m : Member) → Q (OfMember n t) → w.member n t ≡ Some m → U n

bound_name : (w : World) (ls : Locals) {n : ℕ} {m : Meaning} → NameMeans w ls n m → w.bound n ≡ Means Broken → ⊥
bound_name w ls (a_local e k) z = cc
bound_name w ls (a_bound {m} e whole) z = let same : m ≡ Broken = cc in whole same

pub type_links : (w : World) (U : ℕ → Type 0) (s : TokenSpellings) {x : TypeTree} {t : PlainType} → IsType w x t → AreLinked w U (type_sites s x)
unfolding type_sites
type_links w U s (names.named e) = (tt, tt)
type_links w U s (names.imported e f) = (tt, (inl (λ z. cc), tt))
type_links w U s (names.pointer i) = type_links w U s i
type_links w U s (names.slice i) = type_links w U s i

selected : (w : World) (ls : Locals) (U : ℕ → Type 0) {d n : ℕ} {rest : LinkTrees} {m r : Meaning} → Tells w U (LinksAsk w ls m (tree.selector d n rest)) →
    SelectsMember w ls m n r → IsLinked w U n (NotLexical purpose.Selected)
selected w ls U f (links.field {t} {u} {name = n} {s = x} e p) = inr (f n t (AField x (AFieldOf u)) for_member e)
selected w ls U f (links.field_through_pointer {t} {u} {name = n} {s = x} e p) = inr (f n t (AField x (AFieldOf u)) for_member e)
selected w ls U f (links.asked {t} {name = n} {s = x} {signature = g} e) = inr (f n t (AField x (AMethodOf g)) for_member e)
selected w ls U f (links.method {t} {name = n} {s = x} {signature = g} e) = inr (f n t (AMethod x false g) for_member e)
selected w ls U f (links.method_on_pointer {t} {name = n} {s = x} {signature = g} e) = inr (f n (Pointer t) (AMethod x true g) for_member e)
selected w ls U f (links.method_on_variable {t} {name = n} {s = x} {signature = g} e) = inr (f n t (AMethod x true g) for_member e)
selected w ls U f (links.of_package h) = inl (bound_name w ls h)

mutual
  unfolding expr_sites

  pub expr_links : (w : World) (ls : Locals) (U : ℕ → Type 0) (s : TokenSpellings) {e : ExprTree} {m : Meaning} → Tells w U (Asks w ls e) →
      HasMeaning w ls e m →
      AreLinked w U (expr_sites s e)
  expr_links w ls U s f means.number = tt
  expr_links w ls U s f means.text = tt
  expr_links w ls U s f (means.name h) = (tt, tt)
  expr_links w ls U s f (means.composite h) = literal_links w ls U s (λ n t m a. f n t m (in_composite a)) h
  expr_links w ls U s f (means.paren h) = expr_links w ls U s (λ n t m a. f n t m (in_paren a)) h
  expr_links w ls U s f (means.prefix h p) = expr_links w ls U s (λ n t m a. f n t m (in_prefix a)) h
  expr_links w ls U s f (means.address h) = literal_links w ls U s (λ n t m a. f n t m (in_address a)) h
  expr_links w ls U s f (means.chain {e} {links = ks} h more) =
      linked_append w U (expr_sites s e) (link_sites s ks) (expr_links w ls U s (λ n t m a. f n t m (in_chain a)) h)
      (leads_links w ls U s (λ n t m a. f n t m (in_links h a)) more)
  expr_links w ls U s f (means.binary {e} {rest} h more) =
      linked_append w U (expr_sites s e) (operand_sites s rest) (expr_links w ls U s (λ n t m a. f n t m (in_binary a)) h)
      (combined_links w ls U s (λ n t m a. f n t m (in_operands a)) more)

  leads_links : (w : World) (ls : Locals) (U : ℕ → Type 0) (s : TokenSpellings) {m r : Meaning} {ks : LinkTrees} → Tells w U (LinksAsk w ls m ks) →
      LinksMean w ls m ks r → AreLinked w U (link_sites s ks)
  leads_links w ls U s f means.no_link = tt
  leads_links w ls U s f (means.selector h more) = (selected w ls U f h, leads_links w ls U s (λ n t m a. f n t m (behind_selector h a)) more)
  leads_links w ls U s f (means.index {e} {rest} h i more) =
      linked_append w U (expr_sites s e) (link_sites s rest) (expr_links w ls U s (λ n t m a. f n t m (in_index a)) h)
      (leads_links w ls U s (λ n t m a. f n t m (behind_index h i a)) more)
  leads_links w ls U s f (means.call {arguments = xs} {rest} vs c more) =
      linked_append w U (argument_sites s xs) (link_sites s rest) (values_links w ls U s (λ n t m a. f n t m (in_arguments a)) vs)
      (leads_links w ls U s (λ n t m a. f n t m (behind_call vs c a)) more)

  combined_links : (w : World) (ls : Locals) (U : ℕ → Type 0) (s : TokenSpellings) {m r : Meaning} {os : OperandTrees} → Tells w U (OperandsAsk w ls os) →
      OperandsMean w ls m os r → AreLinked w U (operand_sites s os)
  combined_links w ls U s f means.no_operand = tt
  combined_links w ls U s f (means.operand {e} {rest} h o more) =
      linked_append w U (expr_sites s e) (operand_sites s rest) (expr_links w ls U s (λ n t m a. f n t m (in_operand a)) h)
      (combined_links w ls U s (λ n t m a. f n t m (in_later_operand a)) more)

  values_links : (w : World) (ls : Locals) (U : ℕ → Type 0) (s : TokenSpellings) {xs : ArgumentTrees} {ks : List ValueKind} → Tells w U (ArgumentsAsk w ls xs) →
      AreValues w ls xs ks → AreLinked w U (argument_sites s xs)
  values_links w ls U s f means.no_argument = tt
  values_links w ls U s f (means.argument {e} {rest} h more) =
      linked_append w U (expr_sites s e) (argument_sites s rest) (expr_links w ls U s (λ n t m a. f n t m (in_argument a)) h)
      (values_links w ls U s (λ n t m a. f n t m (in_later_argument a)) more)

  literal_links : (w : World) (ls : Locals) (U : ℕ → Type 0) (s : TokenSpellings) {l : LiteralTree} {t : PlainType} → Tells w U (LiteralAsks w ls l) →
      IsLiteralOf w ls l t → AreLinked w U (literal_sites s l)
  literal_links w ls U s f (means.struct_literal {x} {es} i e fs) =
      linked_append w U (type_sites s x) (element_sites s es) (type_links w U s i) (fields_links w ls U s (λ n t m a. f n t m (in_elements i a)) fs)
  literal_links w ls U s f (means.slice_literal {x} {es} {t} i e vs) =
      linked_append w U (type_sites s x) (element_sites s es) (type_links w U s i)
      (elements_links w ls U s t (λ n t m a. f n t m (in_elements i a)) vs)

  fields_links : (w : World) (ls : Locals) (U : ℕ → Type 0) (s : TokenSpellings) {t : PlainType} {named : List ℕ} {es : ElementTrees} →
      Tells w U (ElementsAsk w ls t es) → AreFields w ls t named es → AreLinked w U (element_sites s es)
  fields_links w ls U s f means.no_field = tt
  fields_links w ls U s f (means.field {t} {u} {key} {e} {rest} {s = x} member new h fits more) = (
    f key.0 t (AField x (AFieldOf u)) for_key member,
    linked_append w U (expr_sites s e) (element_sites s rest) (expr_links w ls U s (λ n t m a. f n t m (in_element a)) h)
        (fields_links w ls U s (λ n t m a. f n t m (in_later_element a)) more),
  )

  elements_links : (w : World) (ls : Locals) (U : ℕ → Type 0) (s : TokenSpellings) (t : PlainType) {u : PlainType} {es : ElementTrees} →
      Tells w U (ElementsAsk w ls t es) → AreElements w ls u es → AreLinked w U (element_sites s es)
  elements_links w ls U s t f means.no_element = tt
  elements_links w ls U s t f (means.element {e} {rest} h fits more) =
      linked_append w U (expr_sites s e) (element_sites s rest) (expr_links w ls U s (λ n t m a. f n t m (in_element a)) h)
      (elements_links w ls U s t (λ n t m a. f n t m (in_later_element a)) more)
