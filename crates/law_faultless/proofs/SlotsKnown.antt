-- The locals that a function declares have slots.
use Rattle.std.proofs.Common.{ℕ, suc, ◌≡◌, ◌⊎◌, inl, inr, ◌==◌, Bool, true, false, if◌then◌else◌, List, [], ◌∷◌, ◌++◌, map, Option, Some, refl, sym, ◌∙◌, subst}
use Rattle.std.specs.Prelude.{option_to_list}
use Rattle.std.specs.List.{flat_map}
use Rattle.std.proofs.lemmas.Bool.{eq-eqb, true≢false}
use Rattle.go_ast.specs.Tree.{Item, Group, IdentTree, Named, ExprTree, SimpleTree, LocalTree, InitTree, ForTree, StatementTree, BlockTree}
use Rattle.go_ast.specs.Tree.{StatementTrees, IfTree, ElseTree, FuncTree}
use Rattle.go_ast.specs.Tree as tree
use Rattle.types_declared.specs.Files.{group_items}
use Rattle.types_expr.specs.Types.{PlainType}
use Rattle.types_expr.specs.World.{World, Locals}
use Rattle.types_stmt.specs.Sides.{named}
use Rattle.law_typing.specs.Simple.{LocalIsTyped}
use Rattle.build_object.specs.Numbering.{slot_from, slot_of}
use Rattle.build_object.specs.Slots.{receiver_places, parameter_places, local_places, header_places, init_places, statement_places, block_places}
use Rattle.build_object.specs.Slots.{statements_places, if_places, else_places, slots_of}
use Rattle.go_ast.specs.Tree.{LinkTrees, OperandTrees, ArgumentTrees, LiteralTree, ElementTrees}
use Rattle.types_expr.specs.Types.{Meaning}
use Rattle.law_faultless.specs.Questions.{TokenQuestion, OfInteger, OfText, OfName, OfExport, OfMember}
use Rattle.law_faultless.specs.Questions.{OfDeclared, OfLeft, Asks, for_integer, for_text, for_name}
use Rattle.law_faultless.specs.Questions.{in_composite, in_paren, in_prefix, in_address, in_chain, in_links, in_binary, in_operands, LinksAsk, for_member}
use Rattle.law_faultless.specs.Questions.{for_export, behind_selector, in_index, behind_index, in_arguments, behind_call, OperandsAsk, in_operand}
use Rattle.law_faultless.specs.Questions.{in_later_operand, ArgumentsAsk, in_argument, in_later_argument, LiteralAsks, in_elements, ElementsAsk, for_key}
use Rattle.law_faultless.specs.Questions.{in_element, in_later_element}
use Rattle.law_faultless.specs.QuestionAnswers.{IsKnown}
use Rattle.law_faultless.specs.StatementAsking.{AskIfPresent, asks_present, AnyAsks, this_one, a_later_one, SimpleAsks, in_call, in_step, in_updated}
use Rattle.law_faultless.specs.StatementAsking.{in_update, in_assigned, in_assignment, for_left, in_definition, InitAsks, in_init, HeaderAsks, in_while}
use Rattle.law_faultless.specs.StatementAsking.{in_first, in_test, in_post, AskInTurn, this_item, later_item, AskInGroup, asks_alone, asks_together}
use Rattle.law_faultless.specs.StatementAsking.{IsDeclared, this_declared, a_later_declared, LocalAsks, for_declared, in_values, StatementAsks, in_declaration}
use Rattle.law_faultless.specs.StatementAsking.{in_simple, in_inner, in_choice, in_header, in_loop, in_return, BlockAsks, in_block, StatementsAsk}
use Rattle.law_faultless.specs.StatementAsking.{this_statement, later_statement, IfAsks, before_condition, in_condition, in_then, in_otherwise, ElseAsks}
use Rattle.law_faultless.specs.StatementAsking.{in_else_if, in_else, FunctionAsks, in_body}

abbrev IsAmong : ℕ → List ℕ → Type 0
IsAmong n [] = ⊥
IsAmong n (p ∷ ps) = (p ≡ n) ⊎ IsAmong n ps

among_left : (n : ℕ) (ps qs : List ℕ) → IsAmong n ps → IsAmong n (ps ++ qs)
among_left n [] qs h = absurd h
among_left n (p ∷ ps) qs h = elim h [ inl e ↦ inl e | inr more ↦ inr (among_left n ps qs more) ]

among_right : (n : ℕ) (ps qs : List ℕ) → IsAmong n qs → IsAmong n (ps ++ qs)
among_right n [] qs h = h
among_right n (p ∷ ps) qs h = inr (among_right n ps qs h)

-- a place among those of a function has a slot
pub some_slot : (b : Bool) (k : ℕ) (o : Option ℕ) → (b ≡ false → IsKnown o) → IsKnown (if b then Some k else o)
some_slot true k o f = (k, refl)
some_slot false k o f = f refl

other_place : (n p : ℕ) (ps : List ℕ) → IsAmong n (p ∷ ps) → (p == n) ≡ false → IsAmong n ps
other_place n p ps h e = elim h [ inl same ↦ absurd (true≢false (sym (eq-eqb p n same) ∙ e)) | inr more ↦ more ]

slot_known : (n k : ℕ) (ps : List ℕ) → IsAmong n ps → IsKnown (slot_from k ps n)
slot_known n k [] h = absurd h
slot_known n k (p ∷ ps) h = some_slot (p == n) k (slot_from (suc k) ps n) (λ e. slot_known n (suc k) ps (other_place n p ps h e))

-- a declaration is asked for: it is one of these places
abbrev Placed : TokenQuestion → List ℕ → Type 0
Placed (OfInteger n) ps = Unit {0}
Placed (OfText n) ps = Unit {0}
Placed (OfName n) ps = Unit {0}
Placed (OfExport n) ps = Unit {0}
Placed (OfMember n t) ps = Unit {0}
Placed (OfDeclared n) ps = IsAmong n ps
Placed (OfLeft n) ps = Unit {0}

placed_left : (q : TokenQuestion) (ps qs : List ℕ) → Placed q ps → Placed q (ps ++ qs)
placed_left (OfInteger n) ps qs h = tt
placed_left (OfText n) ps qs h = tt
placed_left (OfName n) ps qs h = tt
placed_left (OfExport n) ps qs h = tt
placed_left (OfMember n t) ps qs h = tt
placed_left (OfDeclared n) ps qs h = among_left n ps qs h
placed_left (OfLeft n) ps qs h = tt

placed_right : (q : TokenQuestion) (ps qs : List ℕ) → Placed q qs → Placed q (ps ++ qs)
placed_right (OfInteger n) ps qs h = tt
placed_right (OfText n) ps qs h = tt
placed_right (OfName n) ps qs h = tt
placed_right (OfExport n) ps qs h = tt
placed_right (OfMember n t) ps qs h = tt
placed_right (OfDeclared n) ps qs h = among_right n ps qs h
placed_right (OfLeft n) ps qs h = tt

-- expressions and simple statements ask for no declaration

abbrev IsPlain : TokenQuestion → Type 0
IsPlain (OfInteger n) = Unit {0}
IsPlain (OfText n) = Unit {0}
IsPlain (OfName n) = Unit {0}
IsPlain (OfExport n) = Unit {0}
IsPlain (OfMember n t) = Unit {0}
IsPlain (OfDeclared n) = ⊥
IsPlain (OfLeft n) = Unit {0}

plain_placed : (q : TokenQuestion) (ps : List ℕ) → IsPlain q → Placed q ps
plain_placed (OfInteger n) ps h = tt
plain_placed (OfText n) ps h = tt
plain_placed (OfName n) ps h = tt
plain_placed (OfExport n) ps h = tt
plain_placed (OfMember n t) ps h = tt
plain_placed (OfDeclared n) ps h = absurd h
plain_placed (OfLeft n) ps h = tt

mutual
  expression_plain : (w : World) (ls : Locals) {e : ExprTree} {q : TokenQuestion} → Asks w ls e q → IsPlain q
  expression_plain w ls for_integer = tt
  expression_plain w ls for_text = tt
  expression_plain w ls for_name = tt
  expression_plain w ls (in_composite a) = literal_plain w ls a
  expression_plain w ls (in_paren a) = expression_plain w ls a
  expression_plain w ls (in_prefix a) = expression_plain w ls a
  expression_plain w ls (in_address a) = literal_plain w ls a
  expression_plain w ls (in_chain a) = expression_plain w ls a
  expression_plain w ls (in_links h a) = links_plain w ls a
  expression_plain w ls (in_binary a) = expression_plain w ls a
  expression_plain w ls (in_operands a) = operands_plain w ls a

  links_plain : (w : World) (ls : Locals) {m : Meaning} {links : LinkTrees} {q : TokenQuestion} → LinksAsk w ls m links q → IsPlain q
  links_plain w ls for_member = tt
  links_plain w ls for_export = tt
  links_plain w ls (behind_selector s a) = links_plain w ls a
  links_plain w ls (in_index a) = expression_plain w ls a
  links_plain w ls (behind_index v i a) = links_plain w ls a
  links_plain w ls (in_arguments a) = arguments_plain w ls a
  links_plain w ls (behind_call vs c a) = links_plain w ls a

  operands_plain : (w : World) (ls : Locals) {rest : OperandTrees} {q : TokenQuestion} → OperandsAsk w ls rest q → IsPlain q
  operands_plain w ls (in_operand a) = expression_plain w ls a
  operands_plain w ls (in_later_operand a) = operands_plain w ls a

  arguments_plain : (w : World) (ls : Locals) {xs : ArgumentTrees} {q : TokenQuestion} → ArgumentsAsk w ls xs q → IsPlain q
  arguments_plain w ls (in_argument a) = expression_plain w ls a
  arguments_plain w ls (in_later_argument a) = arguments_plain w ls a

  literal_plain : (w : World) (ls : Locals) {l : LiteralTree} {q : TokenQuestion} → LiteralAsks w ls l q → IsPlain q
  literal_plain w ls (in_elements h a) = elements_plain w ls a

  elements_plain : (w : World) (ls : Locals) {t : PlainType} {es : ElementTrees} {q : TokenQuestion} → ElementsAsk w ls t es q → IsPlain q
  elements_plain w ls for_key = tt
  elements_plain w ls (in_element a) = expression_plain w ls a
  elements_plain w ls (in_later_element a) = elements_plain w ls a

any_plain : (w : World) (ls : Locals) {is : List (Item ExprTree)} {q : TokenQuestion} → AnyAsks w ls is q → IsPlain q
any_plain w ls (this_one a) = expression_plain w ls a
any_plain w ls (a_later_one a) = any_plain w ls a

simple_plain : (w : World) {before : Locals} {x : SimpleTree} {q : TokenQuestion} → SimpleAsks w before x q → IsPlain q
simple_plain w (in_call {locals} a) = expression_plain w locals a
simple_plain w (in_step {locals} a) = expression_plain w locals a
simple_plain w (in_updated {locals} a) = expression_plain w locals a
simple_plain w (in_update {locals} a) = expression_plain w locals a
simple_plain w (in_assigned {locals} a) = any_plain w locals a
simple_plain w (in_assignment {locals} a) = any_plain w locals a
simple_plain w (for_left l) = tt
simple_plain w (in_definition {locals} a) = any_plain w locals a

optional_plain : (w : World) {before : Locals} {x : Option SimpleTree} {q : TokenQuestion} → AskIfPresent SimpleTree (SimpleAsks w) before x q → IsPlain q
optional_plain w (asks_present a) = simple_plain w a

condition_plain : (w : World) {before : Locals} {x : Option ExprTree} {q : TokenQuestion} → AskIfPresent ExprTree (Asks w) before x q → IsPlain q
condition_plain w (asks_present {before} a) = expression_plain w before a

init_plain : (w : World) {before : Locals} {x : Option InitTree} {q : TokenQuestion} → AskIfPresent InitTree (InitAsks w) before x q → IsPlain q
init_plain w (asks_present (in_init a)) = optional_plain w a

header_plain : (w : World) {before : Locals} {h : ForTree} {q : TokenQuestion} → HeaderAsks w before h q → IsPlain q
header_plain w (in_while {locals} a) = expression_plain w locals a
header_plain w (in_first a) = optional_plain w a
header_plain w (in_test i a) = condition_plain w a
header_plain w (in_post i c a) = optional_plain w a

-- what declarations of locals declare

name_among : (x : IdentTree) (n : ℕ) → x ≡ Named n → IsAmong n (option_to_list (named x))
unfolding named
name_among x n e = subst (λ z. IsAmong n (option_to_list (named z))) (sym e) (inl refl)

declared_among : (n : ℕ) {is : List (Item IdentTree)} → IsDeclared is n → IsAmong n (flat_map (λ (i : Item IdentTree). option_to_list (named i.value)) is)
declared_among n (this_declared {i} {is} e) = among_left n (option_to_list (named i.value))
    (flat_map (λ (i : Item IdentTree). option_to_list (named i.value)) is) (name_among i.value n e)
declared_among n (a_later_declared {i} {is} d) = among_right n (option_to_list (named i.value))
    (flat_map (λ (i : Item IdentTree). option_to_list (named i.value)) is) (declared_among n d)

local_placed : (w : World) {before : Locals} {l : LocalTree} {q : TokenQuestion} → LocalAsks w before l q → Placed q (local_places l)
local_placed w (for_declared {n = n} d) = declared_among n d
local_placed w (in_values {locals} {l} {q = q} e a) = plain_placed q (local_places l) (any_plain w locals a)

locals_placed : (w : World) {before : Locals} {is : List (Item LocalTree)} {q : TokenQuestion} → AskInTurn LocalTree (LocalIsTyped w) (LocalAsks w) before
    is q →
    Placed q (flat_map local_places (map (λ (i : Item LocalTree). i.value) is))
locals_placed w (this_item {i = i} {is} {q} a) = placed_left q (local_places i.value) (flat_map local_places (map (λ (i : Item LocalTree). i.value) is))
    (local_placed w a)
locals_placed w (later_item {i = i} {is} {q} r a) = placed_right q (local_places i.value) (flat_map local_places (map (λ (i : Item LocalTree). i.value) is))
    (locals_placed w a)

group_placed : (w : World) {before : Locals} {g : Group LocalTree} {q : TokenQuestion} → AskInGroup LocalTree (LocalIsTyped w) (LocalAsks w) before g q →
    Placed q (flat_map local_places (group_items g))
group_placed w (asks_alone {x = x} {q} a) = placed_left q (local_places x) [] (local_placed w a)
group_placed w (asks_together a) = locals_placed w a

mutual
  unfolding statement_places

  statement_placed : (w : World) (results : List PlainType) {before : Locals} {x : StatementTree} {q : TokenQuestion} → StatementAsks w results before x q →
      Placed q (statement_places w x)
  statement_placed w results (in_declaration a) = group_placed w a
  statement_placed w results (in_simple {s = s} {q} a) = plain_placed q (statement_places w (tree.Simple s)) (simple_plain w a)
  statement_placed w results (in_inner a) = block_placed w results a
  statement_placed w results (in_choice a) = if_placed w results a
  statement_placed w results (in_header {p = p} {h} {b} {q} a) = plain_placed q (statement_places w (tree.For p h b)) (header_plain w a)
  statement_placed w results (in_loop {h = h} {b} {q} r a) = placed_right q (header_places w h) (block_places w b) (block_placed w results a)
  statement_placed w results (in_return {before} {q = q} a) = plain_placed q [] (any_plain w before a)

  block_placed : (w : World) (results : List PlainType) {before : Locals} {x : BlockTree} {q : TokenQuestion} → BlockAsks w results before x q →
      Placed q (block_places w x)
  block_placed w results (in_block a) = statements_placed w results a

  statements_placed : (w : World) (results : List PlainType) {before : Locals} {x : StatementTrees} {q : TokenQuestion} → StatementsAsk w results before x q →
      Placed q (statements_places w x)
  statements_placed w results (this_statement {s = s} {rest = rest} {q} a) = placed_left q (statement_places w s) (statements_places w rest)
      (statement_placed w results a)
  statements_placed w results (later_statement {s = s} {rest = rest} {q} r a) = placed_right q (statement_places w s) (statements_places w rest)
      (statements_placed w results a)

  if_placed : (w : World) (results : List PlainType) {before : Locals} {x : IfTree} {q : TokenQuestion} → IfAsks w results before x q → Placed q (if_places w x)
  if_placed w results (before_condition {p = p} {init} {e} {b} {otherwise} {q} a) = plain_placed q (if_places w (tree.if_tree p init e b otherwise))
      (init_plain w a)
  if_placed w results (in_condition {entered = entered} {p} {init} {e} {b} {otherwise} {q} i a) =
      plain_placed q (if_places w (tree.if_tree p init e b otherwise)) (expression_plain w entered a)
  if_placed w results (in_then {init = init} {b = b} {otherwise} {q} i c a) =
      placed_right q (init_places w init) (block_places w b ++ else_places w otherwise) (placed_left q (block_places w b) (else_places w otherwise)
      (block_placed w results a))
  if_placed w results (in_otherwise {init = init} {b = b} {otherwise} {q} i c r a) =
      placed_right q (init_places w init) (block_places w b ++ else_places w otherwise) (placed_right q (block_places w b) (else_places w otherwise)
      (else_placed w results a))

  else_placed : (w : World) (results : List PlainType) {before : Locals} {x : ElseTree} {q : TokenQuestion} → ElseAsks w results before x q →
      Placed q (else_places w x)
  else_placed w results (in_else_if a) = if_placed w results a
  else_placed w results (in_else a) = block_placed w results a

function_placed : (w : World) {before : Locals} {f : FuncTree} {q : TokenQuestion} → FunctionAsks w before f q → Placed q (slots_of w f)
function_placed w (in_body {f = f} {ts} {q} r p rs a) =
    placed_right q (receiver_places f.receiver) (parameter_places f.params ++ block_places w f.body)
    (placed_right q (parameter_places f.params) (block_places w f.body) (block_placed w ts a))

pub declared_known : (w : World) (before : Locals) (f : FuncTree) (n : ℕ) → FunctionAsks w before f (OfDeclared n) → IsKnown (slot_of (slots_of w f) n)
declared_known w before f n a = slot_known n 0 (slots_of w f) (function_placed w a)
