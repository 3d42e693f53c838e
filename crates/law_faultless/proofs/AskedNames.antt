-- The names that the code of a function asks for are identifiers of the function.
use Rattle.std.proofs.Common.{ℕ, ◌≡◌, ◌<◌, ◌≤◌, ◌⊎◌, inl, inr, true, List, [], ◌∷◌, ◌++◌, Option, Some, refl, sym, subst}
use Rattle.std.specs.List.{AllByRecursion, flat_map}
use Rattle.std.specs.Option.{unwrap_or}
use Rattle.go_ast.specs.Tree.{Item, Group, ExprTree, LinkTrees, OperandTrees, ArgumentTrees, LiteralTree, ElementTrees, SimpleTree, LocalTree, InitTree}
use Rattle.go_ast.specs.Tree.{ForTree, StatementTree, BlockTree, StatementTrees, IfTree, ElseTree, FuncTree}
use Rattle.go_ast.specs.Tree as tree
use Rattle.go_scope.specs.declared.model.Block.{Block}
use Rattle.go_scope.specs.declared.model.Block.TheVariants as blocks
use Rattle.go_scope.specs.declared.model.Role.TheVariants.{Declaring, NotLexical}
use Rattle.go_scope.specs.declared.model.Purpose.TheVariants as purpose
use Rattle.go_scope.specs.Bindings.{is_left_name}
use Rattle.go_scope.specs.Site.{Site, TokenSpellings, site}
use Rattle.go_scope.specs.ExpressionSites.{sites_if, list_sites, type_sites, key_sites, expr_sites, operand_sites, link_sites, argument_sites}
use Rattle.go_scope.specs.ExpressionSites.{literal_sites, element_sites, exprs_sites}
use Rattle.go_scope.specs.StatementSites.{ident_sites, left_sites, assigned_sites, simple_sites, value_sites, local_sites, separated_sites, group_sites}
use Rattle.go_scope.specs.StatementSites.{init_sites, for_sites, open_of, statement_sites, block_sites, statements_sites, if_sites, else_sites}
use Rattle.go_scope.specs.FileSites.{receiver_sites, param_sites, result_sites, func_role, func_block, func_sites}
use Rattle.types_expr.specs.Types.{PlainType, Meaning}
use Rattle.types_expr.specs.World.{World, Locals}
use Rattle.law_typing.specs.Simple.{LocalIsTyped}
use Rattle.law_faultless.specs.Questions.{TokenQuestion, OfInteger, OfText, OfName, OfExport, OfMember}
use Rattle.law_faultless.specs.Questions.{OfDeclared, OfLeft, Asks, for_integer, for_text, for_name}
use Rattle.law_faultless.specs.Questions.{in_composite, in_paren, in_prefix, in_address, in_chain, in_links, in_binary, in_operands, LinksAsk, for_member}
use Rattle.law_faultless.specs.Questions.{for_export, behind_selector, in_index, behind_index, in_arguments, behind_call, OperandsAsk, in_operand}
use Rattle.law_faultless.specs.Questions.{in_later_operand, ArgumentsAsk, in_argument, in_later_argument, LiteralAsks, in_elements, ElementsAsk, for_key}
use Rattle.law_faultless.specs.Questions.{in_element, in_later_element}
use Rattle.law_faultless.specs.StatementAsking.{AskInTurn, this_item, later_item, AskInGroup, asks_alone, asks_together, AskIfPresent, asks_present, AnyAsks}
use Rattle.law_faultless.specs.StatementAsking.{this_one, a_later_one, IsLeft, this_left, a_later_left, SimpleAsks, in_call, in_step, in_updated, in_update}
use Rattle.law_faultless.specs.StatementAsking.{in_assigned, in_assignment, for_left, in_definition, LocalAsks, for_declared, in_values, InitAsks, in_init}
use Rattle.law_faultless.specs.StatementAsking.{HeaderAsks, in_while, in_first, in_test, in_post, StatementAsks, in_declaration, in_simple, in_inner, in_choice}
use Rattle.law_faultless.specs.StatementAsking.{in_header, in_loop, in_return, BlockAsks, in_block, StatementsAsk, this_statement, later_statement, IfAsks}
use Rattle.law_faultless.specs.StatementAsking.{before_condition, in_condition, in_then, in_otherwise, ElseAsks, in_else_if, in_else, FunctionAsks, in_body}
use Rattle.law_faultless.proofs.Reaching.{Lies}

abbrev pub StandsIn : (Site → Type 0) → List Site → Type 0
StandsIn P [] = ⊥
StandsIn P (x ∷ xs) = P x ⊎ StandsIn P xs

stands_left : (P : Site → Type 0) (xs ys : List Site) → StandsIn P xs → StandsIn P (xs ++ ys)
stands_left P [] ys h = absurd h
stands_left P (x ∷ xs) ys h = elim h [ inl e ↦ inl e | inr more ↦ inr (stands_left P xs ys more) ]

stands_right : (P : Site → Type 0) (xs ys : List Site) → StandsIn P ys → StandsIn P (xs ++ ys)
stands_right P [] ys h = h
stands_right P (x ∷ xs) ys h = inr (stands_right P xs ys h)

-- an identifier at the token; a name behind a dot; a left name of `:=`

abbrev pub IsNamed : ℕ → Site → Type 0
IsNamed n x = x.place.index ≡ n

abbrev pub IsSelected : ℕ → Site → Type 0
IsSelected n x = (x.place.index ≡ n) × (x.role ≡ NotLexical purpose.Selected)

abbrev pub IsLeftName : ℕ → Site → Type 0
IsLeftName n x = (x.place.index ≡ n) × (is_left_name x.role ≡ true)

-- where a name is asked for, there is such an identifier
abbrev pub Sited : TokenQuestion → List Site → Type 0
Sited (OfInteger n) xs = Unit {0}
Sited (OfText n) xs = Unit {0}
Sited (OfName n) xs = StandsIn (IsNamed n) xs
Sited (OfExport n) xs = StandsIn (IsSelected n) xs
Sited (OfMember n t) xs = Unit {0}
Sited (OfDeclared n) xs = Unit {0}
Sited (OfLeft n) xs = StandsIn (IsLeftName n) xs

left : (q : TokenQuestion) (xs ys : List Site) → Sited q xs → Sited q (xs ++ ys)
left (OfInteger n) xs ys h = tt
left (OfText n) xs ys h = tt
left (OfName n) xs ys h = stands_left (IsNamed n) xs ys h
left (OfExport n) xs ys h = stands_left (IsSelected n) xs ys h
left (OfMember n t) xs ys h = tt
left (OfDeclared n) xs ys h = tt
left (OfLeft n) xs ys h = stands_left (IsLeftName n) xs ys h

right : (q : TokenQuestion) (xs ys : List Site) → Sited q ys → Sited q (xs ++ ys)
right (OfInteger n) xs ys h = tt
right (OfText n) xs ys h = tt
right (OfName n) xs ys h = stands_right (IsNamed n) xs ys h
right (OfExport n) xs ys h = stands_right (IsSelected n) xs ys h
right (OfMember n t) xs ys h = tt
right (OfDeclared n) xs ys h = tt
right (OfLeft n) xs ys h = stands_right (IsLeftName n) xs ys h

later : (q : TokenQuestion) (x : Site) (xs : List Site) → Sited q xs → Sited q (x ∷ xs)
later q x xs h = right q (x ∷ []) xs h

inner : (q : TokenQuestion) (xs ys zs : List Site) → Sited q ys → Sited q (xs ++ (ys ++ zs))
inner q xs ys zs h = right q xs (ys ++ zs) (left q ys zs h)

-- such an identifier stands where the others do
pub stands_inside : (n a b : ℕ) (xs : List Site) → StandsIn (IsNamed n) xs → AllByRecursion (Lies a b) xs → (a ≤ n) × (n < b)
stands_inside n a b [] h l = absurd h
stands_inside n a b (x ∷ xs) h l = elim h [
  | inl e ↦ subst (λ i. (a ≤ i) × (i < b)) e l.0
  | inr more ↦ stands_inside n a b xs more l.1
]

pub stands_as : (P Q : Site → Type 0) → ((x : Site) → P x → Q x) → (xs : List Site) → StandsIn P xs → StandsIn Q xs
stands_as P Q f [] h = absurd h
stands_as P Q f (x ∷ xs) h = elim h [ inl e ↦ inl (f x e) | inr more ↦ inr (stands_as P Q f xs more) ]

pub stands_held : (P Q : Site → Type 0) (A : Type 0) → ((x : Site) → P x → Q x → A) → (xs : List Site) → StandsIn P xs → AllByRecursion Q xs → A
stands_held P Q A f [] h k = absurd h
stands_held P Q A f (x ∷ xs) h k = elim h [ inl e ↦ f x e k.0 | inr more ↦ stands_held P Q A f xs more k.1 ]

module _ (w : World) (s : TokenSpellings) where
  mutual
    unfolding expr_sites operand_sites link_sites argument_sites literal_sites element_sites

    expression_sited : (ls : Locals) {e : ExprTree} {q : TokenQuestion} → Asks w ls e q → Sited q (expr_sites s e)
    expression_sited ls for_integer = tt
    expression_sited ls for_text = tt
    expression_sited ls for_name = inl refl
    expression_sited ls (in_composite a) = literal_sited ls a
    expression_sited ls (in_paren a) = expression_sited ls a
    expression_sited ls (in_prefix a) = expression_sited ls a
    expression_sited ls (in_address a) = literal_sited ls a
    expression_sited ls (in_chain {e} {links} {q} a) = left q (expr_sites s e) (link_sites s links) (expression_sited ls a)
    expression_sited ls (in_links {e} {links} {q = q} h a) = right q (expr_sites s e) (link_sites s links) (links_sited ls a)
    expression_sited ls (in_binary {e} {rest} {q} a) = left q (expr_sites s e) (operand_sites s rest) (expression_sited ls a)
    expression_sited ls (in_operands {e} {rest} {q} a) = right q (expr_sites s e) (operand_sites s rest) (operands_sited ls a)

    links_sited : (ls : Locals) {m : Meaning} {links : LinkTrees} {q : TokenQuestion} → LinksAsk w ls m links q → Sited q (link_sites s links)
    links_sited ls for_member = tt
    links_sited ls for_export = inl (refl, refl)
    links_sited ls (behind_selector {d} {n} {rest} {q = q} h a) =
        later q (site s n (NotLexical purpose.Selected)) (link_sites s rest) (links_sited ls a)
    links_sited ls (in_index {o} {c} {e} {rest} {q = q} a) = left q (expr_sites s e) (link_sites s rest) (expression_sited ls a)
    links_sited ls (behind_index {o} {c} {e} {rest} {q = q} v i a) = right q (expr_sites s e) (link_sites s rest) (links_sited ls a)
    links_sited ls (in_arguments {o} {c} {xs} {rest} {q = q} a) = left q (argument_sites s xs) (link_sites s rest) (arguments_sited ls a)
    links_sited ls (behind_call {o} {c} {xs} {rest} {q = q} vs i a) = right q (argument_sites s xs) (link_sites s rest) (links_sited ls a)

    operands_sited : (ls : Locals) {rest : OperandTrees} {q : TokenQuestion} → OperandsAsk w ls rest q → Sited q (operand_sites s rest)
    operands_sited ls (in_operand {o} {p} {e} {rest} {q} a) = left q (expr_sites s e) (operand_sites s rest) (expression_sited ls a)
    operands_sited ls (in_later_operand {o} {p} {e} {rest} {q} a) = right q (expr_sites s e) (operand_sites s rest) (operands_sited ls a)

    arguments_sited : (ls : Locals) {xs : ArgumentTrees} {q : TokenQuestion} → ArgumentsAsk w ls xs q → Sited q (argument_sites s xs)
    arguments_sited ls (in_argument {e} {c} {rest} {q} a) = left q (expr_sites s e) (argument_sites s rest) (expression_sited ls a)
    arguments_sited ls (in_later_argument {e} {c} {rest} {q} a) = right q (expr_sites s e) (argument_sites s rest) (arguments_sited ls a)

    literal_sited : (ls : Locals) {l : LiteralTree} {q : TokenQuestion} → LiteralAsks w ls l q → Sited q (literal_sites s l)
    literal_sited ls (in_elements {x} {o} {c} {es} {q = q} h a) = right q (type_sites s x) (element_sites s es) (elements_sited ls a)

    elements_sited : (ls : Locals) {t : PlainType} {es : ElementTrees} {q : TokenQuestion} → ElementsAsk w ls t es q → Sited q (element_sites s es)
    elements_sited ls for_key = tt
    elements_sited ls (in_element {key = key} {e} {c} {rest} {q} a) = inner q (key_sites s key) (expr_sites s e) (element_sites s rest) (expression_sited ls a)
    elements_sited ls (in_later_element {key = key} {e} {c} {rest} {q} a) =
        right q (key_sites s key) (expr_sites s e ++ element_sites s rest) (right q (expr_sites s e) (element_sites s rest) (elements_sited ls a))

  -- statements

  any_sited : (ls : Locals) {is : List (Item ExprTree)} {q : TokenQuestion} → AnyAsks w ls is q → Sited q (exprs_sites s is)
  any_sited ls (this_one {i} {is} {q} a) = left q (expr_sites s i.value) (exprs_sites s is) (expression_sited ls a)
  any_sited ls (a_later_one {i} {is} {q} a) = right q (expr_sites s i.value) (exprs_sites s is) (any_sited ls a)

  -- `_` asks for nothing
  assigned_sited : (ls : Locals) (e : ExprTree) (q : TokenQuestion) → Asks w ls e q → Sited q (assigned_sites s e)
  assigned_sited ls (tree.Blank n) q a = elim a [ ]
  assigned_sited ls (tree.Name n) q a = expression_sited ls a
  assigned_sited ls (tree.Number n) q a = expression_sited ls a
  assigned_sited ls (tree.Text n) q a = expression_sited ls a
  assigned_sited ls (tree.Composite l) q a = expression_sited ls a
  assigned_sited ls (tree.Paren o e c) q a = expression_sited ls a
  assigned_sited ls (tree.Prefix op p e) q a = expression_sited ls a
  assigned_sited ls (tree.Address p l) q a = expression_sited ls a
  assigned_sited ls (tree.Chain e links) q a = expression_sited ls a
  assigned_sited ls (tree.Binary e os) q a = expression_sited ls a

  any_assigned : (ls : Locals) {is : List (Item ExprTree)} {q : TokenQuestion} → AnyAsks w ls is q → Sited q (list_sites (assigned_sites s) is)
  any_assigned ls (this_one {i} {is} {q} a) =
      left q (assigned_sites s i.value) (list_sites (assigned_sites s) is) (assigned_sited ls i.value q a)
  any_assigned ls (a_later_one {i} {is} {q} a) = right q (assigned_sites s i.value) (list_sites (assigned_sites s) is) (any_assigned ls a)

  left_stands : (b : Block) (following : ℕ) {is : List (Item ExprTree)} {n : ℕ} → IsLeft is n →
      StandsIn (IsLeftName n) (list_sites (left_sites s b following) is)
  left_stands b following (this_left {i} {is} {p} e) =
      stands_left (IsLeftName p) (left_sites s b following i.value) (list_sites (left_sites s b following) is)
      (subst (λ z. StandsIn (IsLeftName p) (left_sites s b following z)) (sym e) (inl (refl, refl)))
  left_stands b following (a_later_left {i} {is} {p} l) =
      stands_right (IsLeftName p) (left_sites s b following i.value) (list_sites (left_sites s b following) is) (left_stands b following l)

  simple_sited : (b : Block) (following : ℕ) {before : Locals} {x : SimpleTree} {q : TokenQuestion} → SimpleAsks w before x q →
      Sited q (simple_sites s b following x)
  unfolding simple_sites
  simple_sited b following (in_call {locals} a) = expression_sited locals a
  simple_sited b following (in_step {locals} a) = expression_sited locals a
  simple_sited b following (in_updated {locals} {x} {y} {q = q} a) = left q (expr_sites s x) (expr_sites s y) (expression_sited locals a)
  simple_sited b following (in_update {locals} {x} {y} {q = q} a) = right q (expr_sites s x) (expr_sites s y) (expression_sited locals a)
  simple_sited b following (in_assigned {locals} {xs} {ys} {p} {q} a) = left q (list_sites (assigned_sites s) xs) (exprs_sites s ys) (any_assigned locals a)
  simple_sited b following (in_assignment {locals} {xs} {ys} {p} {q} a) = right q (list_sites (assigned_sites s) xs) (exprs_sites s ys) (any_sited locals a)
  simple_sited b following (for_left {locals} {xs} {ys} {p} {n} l) =
      stands_left (IsLeftName n) (list_sites (left_sites s b following) xs) (exprs_sites s ys) (left_stands b following l)
  simple_sited b following (in_definition {locals} {xs} {ys} {p} {q} a) =
      right q (list_sites (left_sites s b following) xs) (exprs_sites s ys) (any_sited locals a)

  optional_sited : (b : Block) (following : ℕ) {before : Locals} {x : Option SimpleTree} {q : TokenQuestion} →
      AskIfPresent SimpleTree (SimpleAsks w) before x q → Sited q (sites_if (simple_sites s b following) x)
  optional_sited b following (asks_present a) = simple_sited b following a

  condition_sited : {before : Locals} {x : Option ExprTree} {q : TokenQuestion} → AskIfPresent ExprTree (Asks w) before x q →
      Sited q (sites_if (expr_sites s) x)
  condition_sited (asks_present {before} a) = expression_sited before a

  init_sited : (b : Block) {before : Locals} {x : Option InitTree} {q : TokenQuestion} → AskIfPresent InitTree (InitAsks w) before x q →
      Sited q (sites_if (init_sites s b) x)
  unfolding init_sites
  init_sited b (asks_present (in_init {i = i} a)) = optional_sited b i.semicolon a

  header_sited : (b : Block) (o : ℕ) {before : Locals} {h : ForTree} {q : TokenQuestion} → HeaderAsks w before h q → Sited q (for_sites s b o h)
  unfolding for_sites
  header_sited b o (in_while {locals} a) = expression_sited locals a
  header_sited b o (in_first {init = init} {post} {condition} {p} {r} {q} a) =
      left q (sites_if (simple_sites s b p) init) (sites_if (expr_sites s) condition ++ sites_if (simple_sites s b o) post) (optional_sited b p a)
  header_sited b o (in_test {init = init} {post} {condition} {p} {r} {q} i a) =
      inner q (sites_if (simple_sites s b p) init) (sites_if (expr_sites s) condition) (sites_if (simple_sites s b o) post) (condition_sited a)
  header_sited b o (in_post {init = init} {post} {condition} {p} {r} {q} i c a) =
      right q (sites_if (simple_sites s b p) init) (sites_if (expr_sites s) condition ++ sites_if (simple_sites s b o) post)
      (right q (sites_if (expr_sites s) condition) (sites_if (simple_sites s b o) post) (optional_sited b o a))

  values_sited : (ls : Locals) (o : Option (ℕ × List (Item ExprTree))) (v : ℕ × List (Item ExprTree)) (q : TokenQuestion) → o ≡ Some v → AnyAsks w ls v.1 q →
      Sited q (sites_if (value_sites s) o)
  values_sited ls o v q e a = subst (λ z. Sited q (sites_if (value_sites s) z)) (sym e) (any_sited ls a)

  local_sited : (b : Block) (following : ℕ) {before : Locals} {l : LocalTree} {q : TokenQuestion} → LocalAsks w before l q →
      Sited q (local_sites s b following l)
  unfolding local_sites
  local_sited b following (for_declared d) = tt
  local_sited b following (in_values {locals} {l} {v} {q} e a) =
      right q (list_sites (ident_sites s (Declaring b following)) l.names) (sites_if (type_sites s) l.type_use ++ sites_if (value_sites s) l.values)
      (right q (sites_if (type_sites s) l.type_use) (sites_if (value_sites s) l.values) (values_sited locals l.values v q e a))

  locals_sited : (b : Block) (close : ℕ) {before : Locals} {is : List (Item LocalTree)} {q : TokenQuestion} →
      AskInTurn LocalTree (LocalIsTyped w) (LocalAsks w) before is q →
      Sited q (flat_map (λ (x : Item LocalTree). local_sites s b (unwrap_or x.separator close) x.value) is)
  locals_sited b close (this_item {i = i} {is} {q} a) =
      left q (local_sites s b (unwrap_or i.separator close) i.value)
      (flat_map (λ (x : Item LocalTree). local_sites s b (unwrap_or x.separator close) x.value) is) (local_sited b (unwrap_or i.separator close) a)
  locals_sited b close (later_item {i = i} {is} {q} r a) =
      right q (local_sites s b (unwrap_or i.separator close) i.value)
      (flat_map (λ (x : Item LocalTree). local_sites s b (unwrap_or x.separator close) x.value) is) (locals_sited b close a)

  group_sited : (b : Block) (following : ℕ) {before : Locals} {g : Group LocalTree} {q : TokenQuestion} →
      AskInGroup LocalTree (LocalIsTyped w) (LocalAsks w) before g q → Sited q (group_sites (local_sites s b) following g)
  unfolding group_sites separated_sites
  group_sited b following (asks_alone a) = local_sited b following a
  group_sited b following (asks_together {c = c} a) = locals_sited b c a

  mutual
    unfolding statement_sites block_sites statements_sites if_sites else_sites

    statement_sited : (b : Block) (following : ℕ) (results : List PlainType) {before : Locals} {x : StatementTree} {q : TokenQuestion} →
        StatementAsks w results before x q → Sited q (statement_sites s b following x)
    statement_sited b following results (in_declaration a) = group_sited b following a
    statement_sited b following results (in_simple a) = simple_sited b following a
    statement_sited b following results (in_inner a) = block_sited results a
    statement_sited b following results (in_choice a) = if_sited following results a
    statement_sited b following results (in_header {p = p} {h} {b = x} {q} a) =
        let own = blocks.Inner s.rank p following in
        left q (for_sites s own (open_of x) h) (block_sites s x) (header_sited own (open_of x) a)
    statement_sited b following results (in_loop {p = p} {h} {b = x} {q} r a) =
        right q (for_sites s (blocks.Inner s.rank p following) (open_of x) h) (block_sites s x) (block_sited results a)
    statement_sited b following results (in_return {before} a) = any_sited before a

    block_sited : (results : List PlainType) {before : Locals} {x : BlockTree} {q : TokenQuestion} → BlockAsks w results before x q → Sited q (block_sites s x)
    block_sited results (in_block {o = o} {c} a) = statements_sited (blocks.Inner s.rank o c) c results a

    statements_sited : (b : Block) (close : ℕ) (results : List PlainType) {before : Locals} {x : StatementTrees} {q : TokenQuestion} →
        StatementsAsk w results before x q → Sited q (statements_sites s b close x)
    statements_sited b close results (this_statement {s = x} {p} {rest} {q} a) =
        left q (statement_sites s b (unwrap_or p close) x) (statements_sites s b close rest) (statement_sited b (unwrap_or p close) results a)
    statements_sited b close results (later_statement {s = x} {p} {rest} {q} r a) =
        right q (statement_sites s b (unwrap_or p close) x) (statements_sites s b close rest) (statements_sited b close results a)

    if_sited : (following : ℕ) (results : List PlainType) {before : Locals} {x : IfTree} {q : TokenQuestion} → IfAsks w results before x q →
        Sited q (if_sites s following x)
    if_sited following results (before_condition {p = p} {init} {e} {b = x} {otherwise = rest} {q} a) =
        let own = blocks.Inner s.rank p following in
        left q (sites_if (init_sites s own) init) (expr_sites s e ++ (block_sites s x ++ else_sites s following rest)) (init_sited own a)
    if_sited following results (in_condition {entered = entered} {p} {init} {e} {b = x} {otherwise = rest} {q} i a) =
        inner q (sites_if (init_sites s (blocks.Inner s.rank p following)) init) (expr_sites s e) (block_sites s x ++ else_sites s following rest)
        (expression_sited entered a)
    if_sited following results (in_then {p = p} {init} {e} {b = x} {otherwise = rest} {q} i c a) =
        right q (sites_if (init_sites s (blocks.Inner s.rank p following)) init) (expr_sites s e ++ (block_sites s x ++ else_sites s following rest))
        (inner q (expr_sites s e) (block_sites s x) (else_sites s following rest) (block_sited results a))
    if_sited following results (in_otherwise {p = p} {init} {e} {b = x} {otherwise = rest} {q} i c r a) =
        right q (sites_if (init_sites s (blocks.Inner s.rank p following)) init) (expr_sites s e ++ (block_sites s x ++ else_sites s following rest))
        (right q (expr_sites s e) (block_sites s x ++ else_sites s following rest)
        (right q (block_sites s x) (else_sites s following rest) (else_sited following results a)))

    else_sited : (following : ℕ) (results : List PlainType) {before : Locals} {x : ElseTree} {q : TokenQuestion} → ElseAsks w results before x q →
        Sited q (else_sites s following x)
    else_sited following results (in_else_if a) = if_sited following results a
    else_sited following results (in_else a) = block_sited results a

  pub function_sited : {before : Locals} {f : FuncTree} {q : TokenQuestion} → FunctionAsks w before f q → Sited q (func_sites s f)
  unfolding func_sites
  function_sited (in_body {f = f} {ts} {q} r p rs a) =
      let b = func_block s f in
      let o = open_of f.body in
      let first = sites_if (receiver_sites s b o) f.receiver in
      let name = site s f.name (func_role f.receiver (s.spell f.name)) in
      let ps = list_sites (param_sites s b o) f.params in
      let results = result_sites s f.result in
      let body = block_sites s f.body in
      right q first (name ∷ (ps ++ (results ++ body))) (later q name (ps ++ (results ++ body))
      (right q ps (results ++ body) (right q results body (block_sited ts a))))
