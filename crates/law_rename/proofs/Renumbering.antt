-- A tree with the numbers of its tokens changed writes out the same tokens, with these numbers.
use Rattle.std.proofs.Common.{ℕ, ◌≡◌, List, [], ◌∷◌, ◌++◌, Option, Some, None, map, refl, sym, ap, ◌∙◌}
use Rattle.std.specs.Prelude.{option_map}
use Rattle.std.proofs.lemmas.List.{map-append}
use Rattle.go_ast.specs.declared.syntax.Kind.{Kind}
use Rattle.go_ast.specs.declared.syntax.Kind.TheVariants as kind
use Rattle.go_ast.specs.declared.syntax.Token.{Token}
use Rattle.go_ast.specs.Flatten.{sign, binary_kind, prefix_kind, step_kind, update_kind, sign_if, tokens_if, all_tokens, item_tokens, list_tokens}
use Rattle.go_ast.specs.Flatten.{group_tokens, name_tokens, ident_tokens, basic_tokens, type_tokens, key_tokens, expr_tokens, operand_tokens, link_tokens}
use Rattle.go_ast.specs.Flatten.{argument_tokens, literal_tokens, element_tokens, simple_tokens, value_tokens, local_tokens, init_tokens, for_tokens}
use Rattle.go_ast.specs.Flatten.{statement_tokens, block_tokens, statements_tokens, if_tokens, else_tokens, import_tokens, global_tokens, field_tokens}
use Rattle.go_ast.specs.Flatten.{method_tokens, body_tokens, type_spec_tokens, receiver_tokens, param_tokens, result_tokens, func_tokens}
use Rattle.go_ast.specs.Flatten.{imports_tokens, decl_tokens, flatten}
use Rattle.go_ast.specs.Tree.{Item, Group, single, several, IdentTree, Named, Underscore, BasicTree, Integer, String, TypeTree, Local, Imported, Pointer}
use Rattle.go_ast.specs.Tree.{Slice, ExprTree, Number, Text, Name, Blank, Composite, Paren, Prefix, Address, Chain, Binary, OperandTrees, no_operand}
use Rattle.go_ast.specs.Tree.{operand, LinkTrees, no_link, selector, index, call, ArgumentTrees, no_argument, argument, LiteralTree, literal, ElementTrees}
use Rattle.go_ast.specs.Tree.{no_element, element, SimpleTree, Alone, Step, Update, Assign, Define, LocalTree, InitTree, ForTree, forever, while, clauses}
use Rattle.go_ast.specs.Tree.{StatementTree, Empty, Var, Simple, Inner, If, For, Break, Continue, Return, BlockTree, block, StatementTrees, no_statement}
use Rattle.go_ast.specs.Tree.{statement, IfTree, if_tree, ElseTree, no_else, else_if, else_block, ImportTree, GlobalTree, FieldTree, MethodTree, BodyTree}
use Rattle.go_ast.specs.Tree.{Other, Struct, Interface, TypeSpecTree, ReceiverTree, ParamTree, ResultTree, no_result, one_result, results, FuncTree}
use Rattle.go_ast.specs.Tree.{ImportsTree, DeclTree, VarDecl, TypeDecl, FuncDecl, FileTree}
use Rattle.law_rename.specs.Renumbered.{numbered, item_by, items_by, group_by, ident_by, basic_by, type_by, key_by, expr_by, operands_by, links_by}
use Rattle.law_rename.specs.Renumbered.{arguments_by, literal_by, elements_by, simple_by, values_by, local_by, init_by, for_by, statement_by}
use Rattle.law_rename.specs.Renumbered.{block_by, statements_by, if_by, else_by, import_by, global_by, field_by, body_by, type_spec_by, receiver_by}
use Rattle.law_rename.specs.Renumbered.{param_by, result_by, method_by, func_by, imports_by, decl_by, renumbered}

module _ (g : ℕ → ℕ) where
  pub both : {xs ys : List Token} (us vs : List Token) → xs ≡ map (numbered g) us → ys ≡ map (numbered g) vs → xs ++ ys ≡ map (numbered g) (us ++ vs)
  both us vs one other = (λ i. one i ++ other i) ∙ sym (map-append (numbered g) us vs)

  pub sign_same : (k : Kind) (o : Option ℕ) → sign_if k (option_map g o) ≡ map (numbered g) (sign_if k o)
  sign_same k None = refl
  sign_same k (Some p) = refl

  if_same : {X : Type 0} (f : X → List Token) (by : X → X) → ((x : X) → f (by x) ≡ map (numbered g) (f x)) → (o : Option X) →
      tokens_if f (option_map by o) ≡ map (numbered g) (tokens_if f o)
  if_same f by each None = refl
  if_same f by each (Some x) = each x

  pub all_same : {X : Type 0} (f : X → List Token) (by : X → X) → ((x : X) → f (by x) ≡ map (numbered g) (f x)) → (xs : List X) →
      all_tokens f (map by xs) ≡ map (numbered g) (all_tokens f xs)
  unfolding all_tokens
  all_same f by each [] = refl
  all_same f by each (x ∷ xs) = both (f x) (all_tokens f xs) (each x) (all_same f by each xs)

  pub list_same : {X : Type 0} (k : Kind) (f : X → List Token) (by : X → X) → ((x : X) → f (by x) ≡ map (numbered g) (f x)) → (xs : List (Item X)) →
      list_tokens k f (items_by g by xs) ≡ map (numbered g) (list_tokens k f xs)
  list_same k f by each xs = all_same (item_tokens k f) (item_by g by)
      (λ i. both (f i.value) (sign_if k i.separator) (each i.value) (sign_same k i.separator)) xs

  group_same : {X : Type 0} (f : X → List Token) (by : X → X) → ((x : X) → f (by x) ≡ map (numbered g) (f x)) → (x : Group X) →
      group_tokens f (group_by g by x) ≡ map (numbered g) (group_tokens f x)
  unfolding group_tokens
  group_same f by each (single x) = each x
  group_same f by each (several o xs c) = ap (λ l. sign kind.LeftParen (g o) ∷ l)
      (both (list_tokens kind.Semicolon f xs) (sign kind.RightParen c ∷ []) (list_same kind.Semicolon f by each xs) refl)

  type_same : (x : TypeTree) → type_tokens (type_by g x) ≡ map (numbered g) (type_tokens x)
  unfolding type_tokens type_by
  type_same (Local n) = refl
  type_same (Imported p d n) = refl
  type_same (Pointer s t) = ap (λ l. sign kind.Star (g s) ∷ l) (type_same t)
  type_same (Slice o c t) = ap (λ l. sign kind.LeftBracket (g o) ∷ l) (ap (λ l. sign kind.RightBracket (g c) ∷ l) (type_same t))

  key_same : (k : Option (ℕ × ℕ)) → key_tokens (key_by g k) ≡ map (numbered g) (key_tokens k)
  key_same None = refl
  key_same (Some k) = refl

  ident_same : (x : IdentTree) → ident_tokens (ident_by g x) ≡ map (numbered g) (ident_tokens x)
  ident_same (Named n) = refl
  ident_same (Underscore n) = refl

  basic_same : (x : BasicTree) → basic_tokens (basic_by g x) ≡ map (numbered g) (basic_tokens x)
  basic_same (Integer n) = refl
  basic_same (String n) = refl

  name_same : (n : ℕ) → name_tokens (g n) ≡ map (numbered g) (name_tokens n)
  name_same n = refl

  mutual
    unfolding expr_tokens operand_tokens link_tokens argument_tokens literal_tokens element_tokens expr_by operands_by links_by arguments_by literal_by
        elements_by

    expr_same : (x : ExprTree) → expr_tokens (expr_by g x) ≡ map (numbered g) (expr_tokens x)
    expr_same (Number n) = refl
    expr_same (Text n) = refl
    expr_same (Name n) = refl
    expr_same (Blank n) = refl
    expr_same (Composite l) = literal_same l
    expr_same (Paren o e c) = ap (λ l. sign kind.LeftParen (g o) ∷ l) (both (expr_tokens e) (sign kind.RightParen c ∷ []) (expr_same e) refl)
    expr_same (Prefix op p e) = ap (λ l. sign (prefix_kind op) (g p) ∷ l) (expr_same e)
    expr_same (Address p l) = ap (λ l. sign kind.Ampersand (g p) ∷ l) (literal_same l)
    expr_same (Chain e ls) = both (expr_tokens e) (link_tokens ls) (expr_same e) (links_same ls)
    expr_same (Binary e os) = both (expr_tokens e) (operand_tokens os) (expr_same e) (operands_same os)

    operands_same : (x : OperandTrees) → operand_tokens (operands_by g x) ≡ map (numbered g) (operand_tokens x)
    operands_same no_operand = refl
    operands_same (operand op p e os) = ap (λ l. sign (binary_kind op) (g p) ∷ l) (both (expr_tokens e) (operand_tokens os) (expr_same e) (operands_same os))

    links_same : (x : LinkTrees) → link_tokens (links_by g x) ≡ map (numbered g) (link_tokens x)
    links_same no_link = refl
    links_same (selector d n ls) = ap (λ l. sign kind.Dot (g d) ∷ l) (ap (λ l. sign kind.Name (g n) ∷ l) (links_same ls))
    links_same (index o e c ls) =
        ap (λ l. sign kind.LeftBracket (g o) ∷ l) (both (expr_tokens e) (sign kind.RightBracket c ∷ (link_tokens ls)) (expr_same e)
        (ap (λ l. sign kind.RightBracket (g c) ∷ l) (links_same ls)))
    links_same (call o xs c ls) =
        ap (λ l. sign kind.LeftParen (g o) ∷ l) (both (argument_tokens xs) (sign kind.RightParen c ∷ (link_tokens ls)) (arguments_same xs)
        (ap (λ l. sign kind.RightParen (g c) ∷ l) (links_same ls)))

    arguments_same : (x : ArgumentTrees) → argument_tokens (arguments_by g x) ≡ map (numbered g) (argument_tokens x)
    arguments_same no_argument = refl
    arguments_same (argument e comma rest) =
        both (expr_tokens e) (sign_if kind.Comma comma ++ (argument_tokens rest)) (expr_same e)
        (both (sign_if kind.Comma comma) (argument_tokens rest) (sign_same kind.Comma comma) (arguments_same rest))

    literal_same : (x : LiteralTree) → literal_tokens (literal_by g x) ≡ map (numbered g) (literal_tokens x)
    literal_same (literal t o es c) =
        both (type_tokens t) (sign kind.LeftBrace o ∷ (element_tokens es ++ (sign kind.RightBrace c ∷ []))) (type_same t)
        (ap (λ l. sign kind.LeftBrace (g o) ∷ l) (both (element_tokens es) (sign kind.RightBrace c ∷ []) (elements_same es) refl))

    elements_same : (x : ElementTrees) → element_tokens (elements_by g x) ≡ map (numbered g) (element_tokens x)
    elements_same no_element = refl
    elements_same (element key e comma rest) =
        both (key_tokens key) (expr_tokens e ++ (sign_if kind.Comma comma ++ (element_tokens rest))) (key_same key)
        (both (expr_tokens e) (sign_if kind.Comma comma ++ (element_tokens rest)) (expr_same e)
        (both (sign_if kind.Comma comma) (element_tokens rest) (sign_same kind.Comma comma) (elements_same rest)))

  simple_same : (x : SimpleTree) → simple_tokens (simple_by g x) ≡ map (numbered g) (simple_tokens x)
  unfolding simple_tokens
  simple_same (Alone e) = expr_same e
  simple_same (Step e op p) = both (expr_tokens e) (sign (step_kind op) p ∷ []) (expr_same e) refl
  simple_same (Update e op p f) =
      both (expr_tokens e) (sign (update_kind op) p ∷ (expr_tokens f)) (expr_same e) (ap (λ l. sign (update_kind op) (g p) ∷ l) (expr_same f))
  simple_same (Assign es p fs) =
      both (list_tokens kind.Comma expr_tokens es) (sign kind.Assign p ∷ (list_tokens kind.Comma expr_tokens fs))
      (list_same kind.Comma expr_tokens (expr_by g) expr_same es)
      (ap (λ l. sign kind.Assign (g p) ∷ l) (list_same kind.Comma expr_tokens (expr_by g) expr_same fs))
  simple_same (Define es p fs) =
      both (list_tokens kind.Comma expr_tokens es) (sign kind.Define p ∷ (list_tokens kind.Comma expr_tokens fs))
      (list_same kind.Comma expr_tokens (expr_by g) expr_same es)
      (ap (λ l. sign kind.Define (g p) ∷ l) (list_same kind.Comma expr_tokens (expr_by g) expr_same fs))

  values_same : {X : Type 0} (f : X → List Token) (by : X → X) → ((x : X) → f (by x) ≡ map (numbered g) (f x)) → (v : ℕ × List (Item X)) →
      value_tokens f (values_by g by v) ≡ map (numbered g) (value_tokens f v)
  values_same f by each v = ap (λ l. sign kind.Assign (g v.0) ∷ l) (list_same kind.Comma f by each v.1)

  local_same : (x : LocalTree) → local_tokens (local_by g x) ≡ map (numbered g) (local_tokens x)
  unfolding local_tokens
  local_same l =
      both (list_tokens kind.Comma ident_tokens l.names) (tokens_if type_tokens l.type_use ++ (tokens_if (value_tokens expr_tokens) l.values))
      (list_same kind.Comma ident_tokens (ident_by g) ident_same l.names)
      (both (tokens_if type_tokens l.type_use) (tokens_if (value_tokens expr_tokens) l.values) (if_same type_tokens (type_by g) type_same l.type_use)
      (if_same (value_tokens expr_tokens) (values_by g (expr_by g)) (values_same expr_tokens (expr_by g) expr_same) l.values))

  init_same : (x : InitTree) → init_tokens (init_by g x) ≡ map (numbered g) (init_tokens x)
  unfolding init_tokens
  init_same i = both (tokens_if simple_tokens i.simple) (sign kind.Semicolon i.semicolon ∷ []) (if_same simple_tokens (simple_by g) simple_same i.simple) refl

  for_same : (x : ForTree) → for_tokens (for_by g x) ≡ map (numbered g) (for_tokens x)
  unfolding for_tokens
  for_same forever = refl
  for_same (while e) = expr_same e
  for_same (clauses init s condition t post) =
      both (tokens_if simple_tokens init) (sign kind.Semicolon s ∷
      (tokens_if expr_tokens condition ++ (sign kind.Semicolon t ∷ (tokens_if simple_tokens post))))
      (if_same simple_tokens (simple_by g) simple_same init)
      (ap (λ l. sign kind.Semicolon (g s) ∷ l)
      (both (tokens_if expr_tokens condition) (sign kind.Semicolon t ∷ (tokens_if simple_tokens post))
      (if_same expr_tokens (expr_by g) expr_same condition)
      (ap (λ l. sign kind.Semicolon (g t) ∷ l) (if_same simple_tokens (simple_by g) simple_same post))))

  mutual
    unfolding statement_tokens block_tokens statements_tokens if_tokens else_tokens statement_by block_by statements_by if_by else_by

    statement_same : (x : StatementTree) → statement_tokens (statement_by g x) ≡ map (numbered g) (statement_tokens x)
    statement_same Empty = refl
    statement_same (Var p v) = ap (λ l. sign kind.Var (g p) ∷ l) (group_same local_tokens (local_by g) local_same v)
    statement_same (Simple s) = simple_same s
    statement_same (Inner b) = block_same b
    statement_same (If i) = if_tree_same i
    statement_same (For p f b) = ap (λ l. sign kind.For (g p) ∷ l) (both (for_tokens f) (block_tokens b) (for_same f) (block_same b))
    statement_same (Break p) = refl
    statement_same (Continue p) = refl
    statement_same (Return p es) = ap (λ l. sign kind.Return (g p) ∷ l) (list_same kind.Comma expr_tokens (expr_by g) expr_same es)

    block_same : (x : BlockTree) → block_tokens (block_by g x) ≡ map (numbered g) (block_tokens x)
    block_same (block o ss c) = ap (λ l. sign kind.LeftBrace (g o) ∷ l) (both (statements_tokens ss) (sign kind.RightBrace c ∷ []) (statements_same ss) refl)

    statements_same : (x : StatementTrees) → statements_tokens (statements_by g x) ≡ map (numbered g) (statements_tokens x)
    statements_same no_statement = refl
    statements_same (statement s semicolon rest) =
        both (statement_tokens s) (sign_if kind.Semicolon semicolon ++ (statements_tokens rest)) (statement_same s)
        (both (sign_if kind.Semicolon semicolon) (statements_tokens rest) (sign_same kind.Semicolon semicolon) (statements_same rest))

    if_tree_same : (x : IfTree) → if_tokens (if_by g x) ≡ map (numbered g) (if_tokens x)
    if_tree_same (if_tree p init e b rest) =
        ap (λ l. sign kind.If (g p) ∷ l) (both (tokens_if init_tokens init) (expr_tokens e ++ (block_tokens b ++ (else_tokens rest)))
        (if_same init_tokens (init_by g) init_same init)
        (both (expr_tokens e) (block_tokens b ++ (else_tokens rest)) (expr_same e)
        (both (block_tokens b) (else_tokens rest) (block_same b) (else_same rest))))

    else_same : (x : ElseTree) → else_tokens (else_by g x) ≡ map (numbered g) (else_tokens x)
    else_same no_else = refl
    else_same (else_if p i) = ap (λ l. sign kind.Else (g p) ∷ l) (if_tree_same i)
    else_same (else_block p b) = ap (λ l. sign kind.Else (g p) ∷ l) (block_same b)

  pub import_same : (x : ImportTree) → import_tokens (import_by g x) ≡ map (numbered g) (import_tokens x)
  unfolding import_tokens
  import_same i = both (sign_if kind.Name i.name) (sign kind.Text i.path ∷ []) (sign_same kind.Name i.name) refl

  global_same : (x : GlobalTree) → global_tokens (global_by g x) ≡ map (numbered g) (global_tokens x)
  unfolding global_tokens
  global_same v =
      both (list_tokens kind.Comma name_tokens v.names) (type_tokens v.type_use ++ (tokens_if (value_tokens basic_tokens) v.values))
      (list_same kind.Comma name_tokens g name_same v.names)
      (both (type_tokens v.type_use) (tokens_if (value_tokens basic_tokens) v.values) (type_same v.type_use)
      (if_same (value_tokens basic_tokens) (values_by g (basic_by g)) (values_same basic_tokens (basic_by g) basic_same) v.values))

  field_same : (x : FieldTree) → field_tokens (field_by g x) ≡ map (numbered g) (field_tokens x)
  unfolding field_tokens
  field_same f =
      both (list_tokens kind.Comma name_tokens f.names) (type_tokens f.type_use) (list_same kind.Comma name_tokens g name_same f.names) (type_same f.type_use)

  param_same : (x : ParamTree) → param_tokens (param_by g x) ≡ map (numbered g) (param_tokens x)
  unfolding param_tokens
  param_same p =
      both (list_tokens kind.Comma ident_tokens p.names) (type_tokens p.type_use) (list_same kind.Comma ident_tokens (ident_by g) ident_same p.names)
      (type_same p.type_use)

  result_same : (x : ResultTree) → result_tokens (result_by g x) ≡ map (numbered g) (result_tokens x)
  unfolding result_tokens
  result_same no_result = refl
  result_same (one_result t) = type_same t
  result_same (results o ts c) =
      ap (λ l. sign kind.LeftParen (g o) ∷ l) (both (list_tokens kind.Comma type_tokens ts) (sign kind.RightParen c ∷ [])
      (list_same kind.Comma type_tokens (type_by g) type_same ts) refl)

  method_same : (x : MethodTree) → method_tokens (method_by g x) ≡ map (numbered g) (method_tokens x)
  unfolding method_tokens
  method_same m =
      ap (λ l. sign kind.Name (g m.name) ∷ l)
      (ap (λ l. sign kind.LeftParen (g m.lparen) ∷ l)
      (both (list_tokens kind.Comma param_tokens m.params) (sign kind.RightParen m.rparen ∷ (result_tokens m.result))
      (list_same kind.Comma param_tokens (param_by g) param_same m.params)
      (ap (λ l. sign kind.RightParen (g m.rparen) ∷ l) (result_same m.result))))

  body_same : (x : BodyTree) → body_tokens (body_by g x) ≡ map (numbered g) (body_tokens x)
  unfolding body_tokens
  body_same (Other t) = type_same t
  body_same (Struct s o fs c) =
      ap (λ l. sign kind.Struct (g s) ∷ l) (ap (λ l. sign kind.LeftBrace (g o) ∷ l)
      (both (list_tokens kind.Semicolon field_tokens fs) (sign kind.RightBrace c ∷ [])
      (list_same kind.Semicolon field_tokens (field_by g) field_same fs) refl))
  body_same (Interface i o ms c) =
      ap (λ l. sign kind.Interface (g i) ∷ l) (ap (λ l. sign kind.LeftBrace (g o) ∷ l)
      (both (list_tokens kind.Semicolon method_tokens ms) (sign kind.RightBrace c ∷ [])
      (list_same kind.Semicolon method_tokens (method_by g) method_same ms) refl))

  type_spec_same : (x : TypeSpecTree) → type_spec_tokens (type_spec_by g x) ≡ map (numbered g) (type_spec_tokens x)
  unfolding type_spec_tokens
  type_spec_same t = ap (λ l. sign kind.Name (g t.name) ∷ l) (body_same t.body)

  receiver_same : (x : ReceiverTree) → receiver_tokens (receiver_by g x) ≡ map (numbered g) (receiver_tokens x)
  unfolding receiver_tokens
  receiver_same r =
      ap (λ l. sign kind.LeftParen (g r.lparen) ∷ l) (both (ident_tokens r.name)
      (sign_if kind.Star r.star ++ (sign kind.Name r.type_name ∷ (sign_if kind.Comma r.comma ++ (sign kind.RightParen r.rparen ∷ []))))
      (ident_same r.name) (both (sign_if kind.Star r.star)
      (sign kind.Name r.type_name ∷ (sign_if kind.Comma r.comma ++ (sign kind.RightParen r.rparen ∷ []))) (sign_same kind.Star r.star)
      (ap (λ l. sign kind.Name (g r.type_name) ∷ l)
      (both (sign_if kind.Comma r.comma) (sign kind.RightParen r.rparen ∷ []) (sign_same kind.Comma r.comma) refl))))

  func_same : (x : FuncTree) → func_tokens (func_by g x) ≡ map (numbered g) (func_tokens x)
  unfolding func_tokens
  func_same f =
      both (tokens_if receiver_tokens f.receiver) (sign kind.Name f.name ∷ sign kind.LeftParen f.lparen ∷
      (list_tokens kind.Comma param_tokens f.params ++ (sign kind.RightParen f.rparen ∷ (result_tokens f.result ++ (block_tokens f.body)))))
      (if_same receiver_tokens (receiver_by g) receiver_same f.receiver)
      (ap (λ l. sign kind.Name (g f.name) ∷ l)
      (ap (λ l. sign kind.LeftParen (g f.lparen) ∷ l)
      (both (list_tokens kind.Comma param_tokens f.params) (sign kind.RightParen f.rparen ∷ (result_tokens f.result ++ (block_tokens f.body)))
      (list_same kind.Comma param_tokens (param_by g) param_same f.params)
      (ap (λ l. sign kind.RightParen (g f.rparen) ∷ l) (both (result_tokens f.result) (block_tokens f.body) (result_same f.result) (block_same f.body))))))

  pub imports_same : (x : ImportsTree) → imports_tokens (imports_by g x) ≡ map (numbered g) (imports_tokens x)
  unfolding imports_tokens
  imports_same i =
      ap (λ l. sign kind.Import (g i.keyword) ∷ l) (both (group_tokens import_tokens i.imports) (sign kind.Semicolon i.semicolon ∷ [])
      (group_same import_tokens (import_by g) import_same i.imports) refl)

  pub decl_same : (x : DeclTree) → decl_tokens (decl_by g x) ≡ map (numbered g) (decl_tokens x)
  unfolding decl_tokens
  decl_same (VarDecl k v s) =
      ap (λ l. sign kind.Var (g k) ∷ l) (both (group_tokens global_tokens v) (sign kind.Semicolon s ∷ [])
      (group_same global_tokens (global_by g) global_same v) refl)
  decl_same (TypeDecl k v s) =
      ap (λ l. sign kind.TypeWord (g k) ∷ l) (both (group_tokens type_spec_tokens v) (sign kind.Semicolon s ∷ [])
      (group_same type_spec_tokens (type_spec_by g) type_spec_same v) refl)
  decl_same (FuncDecl k f s) = ap (λ l. sign kind.Func (g k) ∷ l) (both (func_tokens f) (sign kind.Semicolon s ∷ []) (func_same f) refl)

  pub file_same : (x : FileTree) → flatten (renumbered g x) ≡ map (numbered g) (flatten x)
  unfolding flatten
  file_same f =
      ap (λ l. sign kind.Package (g f.keyword) ∷ l) (ap (λ l. sign kind.Name (g f.name) ∷ l)
      (ap (λ l. sign kind.Semicolon (g f.semicolon) ∷ l)
      (both (all_tokens imports_tokens f.imports) (all_tokens decl_tokens f.decls) (all_same imports_tokens (imports_by g) imports_same f.imports)
      (all_same decl_tokens (decl_by g) decl_same f.decls))))
