-- The literals that code asks for are among the tokens of its tree.
use Rattle.std.proofs.Common.{ℕ, ◌≡◌, ◌⊎◌, inl, inr, Bool, List, [], ◌∷◌, ◌++◌, Option, Some, refl, sym, subst}
use Rattle.go_ast.specs.declared.syntax.Kind.{Kind}
use Rattle.go_ast.specs.declared.syntax.Kind.TheVariants as kind
use Rattle.go_ast.specs.declared.syntax.Token.{Token}
use Rattle.go_ast.specs.Flatten.{sign, sign_if, binary_kind, prefix_kind, step_kind, update_kind, tokens_if, all_tokens, item_tokens, list_tokens}
use Rattle.go_ast.specs.Flatten.{group_tokens, ident_tokens, type_tokens, key_tokens, expr_tokens, operand_tokens, link_tokens, argument_tokens}
use Rattle.go_ast.specs.Flatten.{literal_tokens, element_tokens, exprs_tokens, simple_tokens, value_tokens, local_tokens, init_tokens, for_tokens}
use Rattle.go_ast.specs.Flatten.{statement_tokens, block_tokens, statements_tokens, if_tokens, else_tokens, receiver_tokens, param_tokens, result_tokens}
use Rattle.go_ast.specs.Flatten.{func_tokens, imports_tokens, decl_tokens, flatten}
use Rattle.go_ast.specs.Tree.{Item, Group, ExprTree, LinkTrees, OperandTrees, ArgumentTrees, LiteralTree, ElementTrees, SimpleTree, LocalTree}
use Rattle.go_ast.specs.Tree.{InitTree, ForTree, StatementTree, BlockTree, StatementTrees, IfTree, ElseTree, FuncTree, DeclTree, FileTree}
use Rattle.go_ast.specs.Tree as tree
use Rattle.types_expr.specs.Types.{PlainType, Meaning}
use Rattle.types_expr.specs.World.{World, Locals}
use Rattle.law_typing.specs.Simple.{LocalIsTyped}
use Rattle.law_faultless.specs.Questions.{TokenQuestion, OfInteger, OfText, OfName, OfExport, OfMember}
use Rattle.law_faultless.specs.Questions.{OfDeclared, OfLeft, Asks, for_integer, for_text, for_name}
use Rattle.law_faultless.specs.Questions.{in_composite, in_paren, in_prefix, in_address, in_chain, in_links, in_binary, in_operands, LinksAsk, for_member}
use Rattle.law_faultless.specs.Questions.{for_export, behind_selector, in_index, behind_index, in_arguments, behind_call, OperandsAsk, in_operand}
use Rattle.law_faultless.specs.Questions.{in_later_operand, ArgumentsAsk, in_argument, in_later_argument, LiteralAsks, in_elements, ElementsAsk, for_key}
use Rattle.law_faultless.specs.Questions.{in_element, in_later_element}
use Rattle.law_faultless.specs.StatementAsking.{AskInTurn, this_item, later_item, AskInGroup, asks_alone, asks_together, AskIfPresent, asks_present, AnyAsks}
use Rattle.law_faultless.specs.StatementAsking.{this_one, a_later_one, SimpleAsks, in_call, in_step, in_updated, in_update, in_assigned, in_assignment}
use Rattle.law_faultless.specs.StatementAsking.{for_left, in_definition, LocalAsks, for_declared, in_values, InitAsks, in_init, HeaderAsks, in_while, in_first}
use Rattle.law_faultless.specs.StatementAsking.{in_test, in_post, StatementAsks, in_declaration, in_simple, in_inner, in_choice, in_header, in_loop, in_return}
use Rattle.law_faultless.specs.StatementAsking.{BlockAsks, in_block, StatementsAsk, this_statement, later_statement, IfAsks, before_condition, in_condition}
use Rattle.law_faultless.specs.StatementAsking.{in_then, in_otherwise, ElseAsks, in_else_if, in_else, FunctionAsks, in_body}
use Rattle.law_faultless.specs.TypedFunctions.{IsFunctionIn, this_function, later_function}

-- a token of that kind, by its number
abbrev pub Holds : Kind → ℕ → List Token → Type 0
Holds k p [] = ⊥
Holds k p (t ∷ ts) = ((t.kind ≡ k) × (t.place ≡ p)) ⊎ Holds k p ts

holds_left : (k : Kind) (p : ℕ) (ts us : List Token) → Holds k p ts → Holds k p (ts ++ us)
holds_left k p [] us h = absurd h
holds_left k p (t ∷ ts) us h = elim h [ inl here ↦ inl here | inr more ↦ inr (holds_left k p ts us more) ]

holds_right : (k : Kind) (p : ℕ) (ts us : List Token) → Holds k p us → Holds k p (ts ++ us)
holds_right k p [] us h = h
holds_right k p (t ∷ ts) us h = inr (holds_right k p ts us h)

-- where a literal is asked for, there is its token
abbrev pub Written : TokenQuestion → List Token → Type 0
Written (OfInteger p) ts = Holds kind.Number p ts
Written (OfText p) ts = Holds kind.Text p ts
Written (OfName n) ts = Unit {0}
Written (OfExport n) ts = Unit {0}
Written (OfMember n t) ts = Unit {0}
Written (OfDeclared n) ts = Unit {0}
Written (OfLeft n) ts = Unit {0}

left : (q : TokenQuestion) (ts us : List Token) → Written q ts → Written q (ts ++ us)
left (OfInteger p) ts us h = holds_left kind.Number p ts us h
left (OfText p) ts us h = holds_left kind.Text p ts us h
left (OfName n) ts us h = tt
left (OfExport n) ts us h = tt
left (OfMember n t) ts us h = tt
left (OfDeclared n) ts us h = tt
left (OfLeft n) ts us h = tt

right : (q : TokenQuestion) (ts us : List Token) → Written q us → Written q (ts ++ us)
right (OfInteger p) ts us h = holds_right kind.Number p ts us h
right (OfText p) ts us h = holds_right kind.Text p ts us h
right (OfName n) ts us h = tt
right (OfExport n) ts us h = tt
right (OfMember n t) ts us h = tt
right (OfDeclared n) ts us h = tt
right (OfLeft n) ts us h = tt

later : (q : TokenQuestion) (t : Token) (ts : List Token) → Written q ts → Written q (t ∷ ts)
later q t ts h = right q (t ∷ []) ts h

inner : (q : TokenQuestion) (ts us vs : List Token) → Written q us → Written q (ts ++ (us ++ vs))
inner q ts us vs h = right q ts (us ++ vs) (left q us vs h)

mutual
  unfolding expr_tokens

  expression_written : (w : World) (ls : Locals) {e : ExprTree} {q : TokenQuestion} → Asks w ls e q → Written q (expr_tokens e)
  expression_written w ls for_integer = inl (refl, refl)
  expression_written w ls for_text = inl (refl, refl)
  expression_written w ls for_name = tt
  expression_written w ls (in_composite a) = literal_written w ls a
  expression_written w ls (in_paren {o} {c} {e} {q} a) =
      later q (sign kind.LeftParen o) (expr_tokens e ++ (sign kind.RightParen c ∷ [])) (left q (expr_tokens e) (sign kind.RightParen c ∷ [])
      (expression_written w ls a))
  expression_written w ls (in_prefix {o} {p} {e} {q} a) = later q (sign (prefix_kind o) p) (expr_tokens e) (expression_written w ls a)
  expression_written w ls (in_address {p} {l} {q} a) = later q (sign kind.Ampersand p) (literal_tokens l) (literal_written w ls a)
  expression_written w ls (in_chain {e} {links} {q} a) = left q (expr_tokens e) (link_tokens links) (expression_written w ls a)
  expression_written w ls (in_links {e} {links} {q = q} h a) = right q (expr_tokens e) (link_tokens links) (links_written w ls a)
  expression_written w ls (in_binary {e} {rest} {q} a) = left q (expr_tokens e) (operand_tokens rest) (expression_written w ls a)
  expression_written w ls (in_operands {e} {rest} {q} a) = right q (expr_tokens e) (operand_tokens rest) (operands_written w ls a)

  links_written : (w : World) (ls : Locals) {m : Meaning} {links : LinkTrees} {q : TokenQuestion} → LinksAsk w ls m links q → Written q (link_tokens links)
  links_written w ls for_member = tt
  links_written w ls for_export = tt
  links_written w ls (behind_selector {d} {n} {rest} {q = q} s a) =
      later q (sign kind.Dot d) (sign kind.Name n ∷ link_tokens rest) (later q (sign kind.Name n) (link_tokens rest) (links_written w ls a))
  links_written w ls (in_index {o} {c} {e} {rest} {q = q} a) =
      later q (sign kind.LeftBracket o) (expr_tokens e ++ (sign kind.RightBracket c ∷ link_tokens rest))
      (left q (expr_tokens e) (sign kind.RightBracket c ∷ link_tokens rest) (expression_written w ls a))
  links_written w ls (behind_index {o} {c} {e} {rest} {q = q} v i a) =
      later q (sign kind.LeftBracket o) (expr_tokens e ++ (sign kind.RightBracket c ∷ link_tokens rest))
      (right q (expr_tokens e) (sign kind.RightBracket c ∷ link_tokens rest) (later q (sign kind.RightBracket c) (link_tokens rest) (links_written w ls a)))
  links_written w ls (in_arguments {o} {c} {xs} {rest} {q = q} a) =
      later q (sign kind.LeftParen o) (argument_tokens xs ++ (sign kind.RightParen c ∷ link_tokens rest))
      (left q (argument_tokens xs) (sign kind.RightParen c ∷ link_tokens rest) (arguments_written w ls a))
  links_written w ls (behind_call {o} {c} {xs} {rest} {q = q} vs i a) =
      later q (sign kind.LeftParen o) (argument_tokens xs ++ (sign kind.RightParen c ∷ link_tokens rest))
      (right q (argument_tokens xs) (sign kind.RightParen c ∷ link_tokens rest) (later q (sign kind.RightParen c) (link_tokens rest) (links_written w ls a)))

  operands_written : (w : World) (ls : Locals) {rest : OperandTrees} {q : TokenQuestion} → OperandsAsk w ls rest q → Written q (operand_tokens rest)
  operands_written w ls (in_operand {o} {p} {e} {rest} {q} a) = later q (sign (binary_kind o) p) (expr_tokens e ++ operand_tokens rest)
      (left q (expr_tokens e) (operand_tokens rest) (expression_written w ls a))
  operands_written w ls (in_later_operand {o} {p} {e} {rest} {q} a) = later q (sign (binary_kind o) p) (expr_tokens e ++ operand_tokens rest)
      (right q (expr_tokens e) (operand_tokens rest) (operands_written w ls a))

  arguments_written : (w : World) (ls : Locals) {xs : ArgumentTrees} {q : TokenQuestion} → ArgumentsAsk w ls xs q → Written q (argument_tokens xs)
  arguments_written w ls (in_argument {e} {c} {rest} {q} a) = left q (expr_tokens e) (sign_if kind.Comma c ++ argument_tokens rest) (expression_written w ls a)
  arguments_written w ls (in_later_argument {e} {c} {rest} {q} a) =
      right q (expr_tokens e) (sign_if kind.Comma c ++ argument_tokens rest) (right q (sign_if kind.Comma c) (argument_tokens rest) (arguments_written w ls a))

  literal_written : (w : World) (ls : Locals) {l : LiteralTree} {q : TokenQuestion} → LiteralAsks w ls l q → Written q (literal_tokens l)
  literal_written w ls (in_elements {x} {o} {c} {es} {q = q} h a) =
      right q (type_tokens x) (sign kind.LeftBrace o ∷ (element_tokens es ++ (sign kind.RightBrace c ∷ [])))
      (later q (sign kind.LeftBrace o) (element_tokens es ++ (sign kind.RightBrace c ∷ []))
      (left q (element_tokens es) (sign kind.RightBrace c ∷ []) (elements_written w ls a)))

  elements_written : (w : World) (ls : Locals) {t : PlainType} {es : ElementTrees} {q : TokenQuestion} → ElementsAsk w ls t es q → Written q (element_tokens es)
  elements_written w ls for_key = tt
  elements_written w ls (in_element {key = key} {e} {c} {rest} {q} a) = inner q (key_tokens key) (expr_tokens e) (sign_if kind.Comma c ++ element_tokens rest)
      (expression_written w ls a)
  elements_written w ls (in_later_element {key = key} {e} {c} {rest} {q} a) =
      right q (key_tokens key) (expr_tokens e ++ (sign_if kind.Comma c ++ element_tokens rest))
      (right q (expr_tokens e) (sign_if kind.Comma c ++ element_tokens rest) (right q (sign_if kind.Comma c) (element_tokens rest) (elements_written w ls a)))

-- statements

any_written : (w : World) (ls : Locals) {is : List (Item ExprTree)} {q : TokenQuestion} → AnyAsks w ls is q → Written q (exprs_tokens is)
unfolding all_tokens
any_written w ls (this_one {i} {is} {q} a) =
    left q (item_tokens kind.Comma expr_tokens i) (exprs_tokens is) (left q (expr_tokens i.value) (sign_if kind.Comma i.separator) (expression_written w ls a))
any_written w ls (a_later_one {i} {is} {q} a) = right q (item_tokens kind.Comma expr_tokens i) (exprs_tokens is) (any_written w ls a)

simple_written : (w : World) {before : Locals} {x : SimpleTree} {q : TokenQuestion} → SimpleAsks w before x q → Written q (simple_tokens x)
unfolding simple_tokens
simple_written w (in_call {locals} a) = expression_written w locals a
simple_written w (in_step {locals} {e} {o} {p} {q} a) = left q (expr_tokens e) (sign (step_kind o) p ∷ []) (expression_written w locals a)
simple_written w (in_updated {locals} {x} {y} {o} {p} {q} a) = left q (expr_tokens x) (sign (update_kind o) p ∷ expr_tokens y) (expression_written w locals a)
simple_written w (in_update {locals} {x} {y} {o} {p} {q} a) =
    right q (expr_tokens x) (sign (update_kind o) p ∷ expr_tokens y) (later q (sign (update_kind o) p) (expr_tokens y) (expression_written w locals a))
simple_written w (in_assigned {locals} {xs} {ys} {p} {q} a) = left q (exprs_tokens xs) (sign kind.Assign p ∷ exprs_tokens ys) (any_written w locals a)
simple_written w (in_assignment {locals} {xs} {ys} {p} {q} a) =
    right q (exprs_tokens xs) (sign kind.Assign p ∷ exprs_tokens ys) (later q (sign kind.Assign p) (exprs_tokens ys) (any_written w locals a))
simple_written w (for_left l) = tt
simple_written w (in_definition {locals} {xs} {ys} {p} {q} a) =
    right q (exprs_tokens xs) (sign kind.Define p ∷ exprs_tokens ys) (later q (sign kind.Define p) (exprs_tokens ys) (any_written w locals a))

optional_written : (w : World) {before : Locals} {x : Option SimpleTree} {q : TokenQuestion} → AskIfPresent SimpleTree (SimpleAsks w) before x q →
    Written q (tokens_if simple_tokens x)
optional_written w (asks_present a) = simple_written w a

condition_written : (w : World) {before : Locals} {x : Option ExprTree} {q : TokenQuestion} → AskIfPresent ExprTree (Asks w) before x q →
    Written q (tokens_if expr_tokens x)
condition_written w (asks_present {before} a) = expression_written w before a

init_written : (w : World) {before : Locals} {x : Option InitTree} {q : TokenQuestion} → AskIfPresent InitTree (InitAsks w) before x q →
    Written q (tokens_if init_tokens x)
unfolding init_tokens
init_written w (asks_present (in_init {i = i} {q} a)) = left q (tokens_if simple_tokens i.simple) (sign kind.Semicolon i.semicolon ∷ []) (optional_written w a)

header_written : (w : World) {before : Locals} {h : ForTree} {q : TokenQuestion} → HeaderAsks w before h q → Written q (for_tokens h)
unfolding for_tokens
header_written w (in_while {locals} a) = expression_written w locals a
header_written w (in_first {init = init} {post} {condition} {p} {r} {q} a) =
    left q (tokens_if simple_tokens init) (sign kind.Semicolon
    p ∷ (tokens_if expr_tokens condition ++ (sign kind.Semicolon r ∷ tokens_if simple_tokens post))) (optional_written w a)
header_written w (in_test {init = init} {post} {condition} {p} {r} {q} i a) =
    let rest = sign kind.Semicolon r ∷ tokens_if simple_tokens post in
    right q (tokens_if simple_tokens init) (sign kind.Semicolon p ∷ (tokens_if expr_tokens condition ++ rest))
    (later q (sign kind.Semicolon p) (tokens_if expr_tokens condition ++ rest) (left q (tokens_if expr_tokens condition) rest (condition_written w a)))
header_written w (in_post {init = init} {post} {condition} {p} {r} {q} i c a) =
    let rest = sign kind.Semicolon r ∷ tokens_if simple_tokens post in
    right q (tokens_if simple_tokens init) (sign kind.Semicolon p ∷ (tokens_if expr_tokens condition ++ rest))
    (later q (sign kind.Semicolon p) (tokens_if expr_tokens condition ++ rest)
    (right q (tokens_if expr_tokens condition) rest (later q (sign kind.Semicolon r) (tokens_if simple_tokens post) (optional_written w a))))

values_written : (w : World) (ls : Locals) (o : Option (ℕ × List (Item ExprTree))) (v : ℕ × List (Item ExprTree)) (q : TokenQuestion) → o ≡ Some v →
    AnyAsks w ls v.1 q → Written q (tokens_if (value_tokens expr_tokens) o)
values_written w ls o v q e a = subst (λ z. Written q (tokens_if (value_tokens expr_tokens) z)) (sym e)
    (later q (sign kind.Assign v.0) (exprs_tokens v.1) (any_written w ls a))

local_written : (w : World) {before : Locals} {l : LocalTree} {q : TokenQuestion} → LocalAsks w before l q → Written q (local_tokens l)
unfolding local_tokens
local_written w (for_declared d) = tt
local_written w (in_values {locals} {l} {v} {q} e a) =
    right q (list_tokens kind.Comma ident_tokens l.names) (tokens_if type_tokens l.type_use ++ tokens_if (value_tokens expr_tokens) l.values)
    (right q (tokens_if type_tokens l.type_use) (tokens_if (value_tokens expr_tokens) l.values) (values_written w locals l.values v q e a))

locals_written : (w : World) {before : Locals} {is : List (Item LocalTree)} {q : TokenQuestion} → AskInTurn LocalTree (LocalIsTyped w) (LocalAsks w) before
    is q →
    Written q (list_tokens kind.Semicolon local_tokens is)
unfolding all_tokens
locals_written w (this_item {i = i} {is} {q} a) =
    left q (item_tokens kind.Semicolon local_tokens i) (list_tokens kind.Semicolon local_tokens is)
    (left q (local_tokens i.value) (sign_if kind.Semicolon i.separator) (local_written w a))
locals_written w (later_item {i = i} {is} {q} r a) = right q (item_tokens kind.Semicolon local_tokens i) (list_tokens kind.Semicolon local_tokens is)
    (locals_written w a)

group_written : (w : World) {before : Locals} {g : Group LocalTree} {q : TokenQuestion} → AskInGroup LocalTree (LocalIsTyped w) (LocalAsks w) before g q →
    Written q (group_tokens local_tokens g)
unfolding group_tokens
group_written w (asks_alone a) = local_written w a
group_written w (asks_together {o = o} {c} {is} {q} a) =
    later q (sign kind.LeftParen o) (list_tokens kind.Semicolon local_tokens is ++ (sign kind.RightParen c ∷ []))
    (left q (list_tokens kind.Semicolon local_tokens is) (sign kind.RightParen c ∷ []) (locals_written w a))

mutual
  unfolding statement_tokens

  statement_written : (w : World) (results : List PlainType) {before : Locals} {x : StatementTree} {q : TokenQuestion} → StatementAsks w results before x q →
      Written q (statement_tokens x)
  statement_written w results (in_declaration {p = p} {g} {q} a) = later q (sign kind.Var p) (group_tokens local_tokens g) (group_written w a)
  statement_written w results (in_simple a) = simple_written w a
  statement_written w results (in_inner a) = block_written w results a
  statement_written w results (in_choice a) = if_written w results a
  statement_written w results (in_header {p = p} {h} {b} {q} a) = later q (sign kind.For p) (for_tokens h ++ block_tokens b)
      (left q (for_tokens h) (block_tokens b) (header_written w a))
  statement_written w results (in_loop {p = p} {h} {b} {q} r a) = later q (sign kind.For p) (for_tokens h ++ block_tokens b)
      (right q (for_tokens h) (block_tokens b) (block_written w results a))
  statement_written w results (in_return {before} {p} {es} {q} a) = later q (sign kind.Return p) (exprs_tokens es) (any_written w before a)

  block_written : (w : World) (results : List PlainType) {before : Locals} {x : BlockTree} {q : TokenQuestion} → BlockAsks w results before x q →
      Written q (block_tokens x)
  block_written w results (in_block {o = o} {c} {ss} {q} a) =
      later q (sign kind.LeftBrace o) (statements_tokens ss ++ (sign kind.RightBrace c ∷ []))
      (left q (statements_tokens ss) (sign kind.RightBrace c ∷ []) (statements_written w results a))

  statements_written : (w : World) (results : List PlainType) {before : Locals} {x : StatementTrees} {q : TokenQuestion} → StatementsAsk w results before x q →
      Written q (statements_tokens x)
  statements_written w results (this_statement {s = s} {p} {rest} {q} a) = left q (statement_tokens s) (sign_if kind.Semicolon p ++ statements_tokens rest)
      (statement_written w results a)
  statements_written w results (later_statement {s = s} {p} {rest} {q} r a) =
      right q (statement_tokens s) (sign_if kind.Semicolon p ++ statements_tokens rest) (right q (sign_if kind.Semicolon p) (statements_tokens rest)
      (statements_written w results a))

  if_written : (w : World) (results : List PlainType) {before : Locals} {x : IfTree} {q : TokenQuestion} → IfAsks w results before x q → Written q (if_tokens x)
  if_written w results (before_condition {p = p} {init} {e} {b} {otherwise} {q} a) =
      let rest = expr_tokens e ++ (block_tokens b ++ else_tokens otherwise) in
      later q (sign kind.If p) (tokens_if init_tokens init ++ rest) (left q (tokens_if init_tokens init) rest (init_written w a))
  if_written w results (in_condition {entered = entered} {p} {init} {e} {b} {otherwise} {q} i a) =
      let rest = block_tokens b ++ else_tokens otherwise in
      later q (sign kind.If p) (tokens_if init_tokens init ++ (expr_tokens e ++ rest)) (inner q (tokens_if init_tokens init) (expr_tokens e) rest
      (expression_written w entered a))
  if_written w results (in_then {p = p} {init} {e} {b} {otherwise} {q} i c a) =
      let rest = block_tokens b ++ else_tokens otherwise in
      later q (sign kind.If p) (tokens_if init_tokens init ++ (expr_tokens e ++ rest))
      (right q (tokens_if init_tokens init) (expr_tokens e ++ rest) (inner q (expr_tokens e) (block_tokens b) (else_tokens otherwise)
      (block_written w results a)))
  if_written w results (in_otherwise {p = p} {init} {e} {b} {otherwise} {q} i c r a) =
      let rest = block_tokens b ++ else_tokens otherwise in
      later q (sign kind.If p) (tokens_if init_tokens init ++ (expr_tokens e ++ rest))
      (right q (tokens_if init_tokens init) (expr_tokens e ++ rest) (right q (expr_tokens e) rest
      (right q (block_tokens b) (else_tokens otherwise) (else_written w results a))))

  else_written : (w : World) (results : List PlainType) {before : Locals} {x : ElseTree} {q : TokenQuestion} → ElseAsks w results before x q →
      Written q (else_tokens x)
  else_written w results (in_else_if {p = p} {i} {q} a) = later q (sign kind.Else p) (if_tokens i) (if_written w results a)
  else_written w results (in_else {p = p} {b} {q} a) = later q (sign kind.Else p) (block_tokens b) (block_written w results a)

function_written : (w : World) {before : Locals} {f : FuncTree} {q : TokenQuestion} → FunctionAsks w before f q → Written q (func_tokens f)
unfolding func_tokens
function_written w (in_body {f = f} {ts} {q} r p rs a) =
    let last = result_tokens f.result ++ block_tokens f.body in
    let params = list_tokens kind.Comma param_tokens f.params ++ (sign kind.RightParen f.rparen ∷ last) in
    let named = sign kind.Name f.name ∷ sign kind.LeftParen f.lparen ∷ params in
    right q (tokens_if receiver_tokens f.receiver) named (later q (sign kind.Name f.name) (sign kind.LeftParen f.lparen ∷ params)
    (later q (sign kind.LeftParen f.lparen) params
    (right q (list_tokens kind.Comma param_tokens f.params) (sign kind.RightParen f.rparen ∷ last) (later q (sign kind.RightParen f.rparen) last
    (right q (result_tokens f.result) (block_tokens f.body) (block_written w ts a))))))

declarations_written : (w : World) (is_init : ℕ → Bool) {before at : Locals} {ds : List DeclTree} {f : FuncTree} → IsFunctionIn w is_init before ds f at →
    (q : TokenQuestion) → FunctionAsks w at f q → Written q (all_tokens decl_tokens ds)
unfolding all_tokens decl_tokens
declarations_written w is_init (this_function {p = p} {c} {f} {ds} t) q a =
    left q (decl_tokens (tree.FuncDecl p f c)) (all_tokens decl_tokens ds)
    (later q (sign kind.Func p) (func_tokens f ++ (sign kind.Semicolon c ∷ [])) (left q (func_tokens f) (sign kind.Semicolon c ∷ []) (function_written w a)))
declarations_written w is_init (later_function {d = d} {ds} r more) q a = right q (decl_tokens d) (all_tokens decl_tokens ds)
    (declarations_written w is_init more q a)

pub file_written : (w : World) (is_init : ℕ → Bool) (t : FileTree) (f : FuncTree) (before at : Locals) (q : TokenQuestion) →
    IsFunctionIn w is_init before t.decls f at → FunctionAsks w at f q → Written q (flatten t)
unfolding flatten
file_written w is_init t f before at q is a =
    let decls = all_tokens decl_tokens t.decls in
    let all = all_tokens imports_tokens t.imports ++ decls in
    later q (sign kind.Package t.keyword) (sign kind.Name t.name ∷ sign kind.Semicolon t.semicolon ∷ all)
    (later q (sign kind.Name t.name) (sign kind.Semicolon t.semicolon ∷ all) (later q (sign kind.Semicolon t.semicolon) all
    (right q (all_tokens imports_tokens t.imports) decls (declarations_written w is_init is q a))))
