-- A file whose tokens get other spellings keeps its identifiers, but for their names.
use Rattle.std.proofs.Common.{ℕ, ◌≡◌, List, [], ◌∷◌, ◌++◌, Option, Some, None, map, refl, sym, ap, ◌∙◌}
use Rattle.std.specs.List.{flat_map, All}
use Rattle.std.proofs.lemmas.List.Elements.{All-head, All-tail}
use Rattle.std.specs.Option.{unwrap_or}
use Rattle.std.proofs.lemmas.List.{map-append}
use Rattle.go_scope.specs.declared.model.Block.{Block}
use Rattle.go_scope.specs.declared.model.Block.TheVariants as blocks
use Rattle.go_scope.specs.declared.model.Role.{Role}
use Rattle.go_scope.specs.declared.model.Role.TheVariants.{Use, Declaring, LeftName, NotLexical}
use Rattle.go_scope.specs.declared.model.Purpose.TheVariants as purpose
use Rattle.go_scope.specs.Site.{Site, TokenSpellings, site}
use Rattle.go_scope.specs.ExpressionSites.{sites_if, list_sites, type_sites, key_sites, expr_sites, operand_sites, link_sites, argument_sites}
use Rattle.go_scope.specs.ExpressionSites.{literal_sites, element_sites, exprs_sites}
use Rattle.go_scope.specs.StatementSites.{ident_sites, left_sites, assigned_sites, simple_sites, value_sites, local_sites, separated_sites, group_sites}
use Rattle.go_scope.specs.StatementSites.{init_sites, for_sites, open_of, close_of, statement_sites, block_sites, statements_sites, if_sites, else_sites}
use Rattle.go_scope.specs.FileSites.{global_name, member_name, spec_sites, global_sites, field_sites, method_sites, body_sites, type_spec_sites}
use Rattle.go_scope.specs.FileSites.{receiver_sites, param_sites, result_sites, func_role, func_sites, import_name, import_purpose, import_sites}
use Rattle.go_scope.specs.FileSites.{imports_sites, decl_sites, file_sites}
use Rattle.go_ast.specs.Tree.{Item, Group, single, several, IdentTree, Named, Underscore, TypeTree, Local, Imported, Pointer}
use Rattle.go_ast.specs.Tree.{Slice, ExprTree, Number, Text, Name, Blank, Composite, Paren, Prefix, Address, Chain, Binary, OperandTrees, no_operand}
use Rattle.go_ast.specs.Tree.{operand, LinkTrees, no_link, selector, index, call, ArgumentTrees, no_argument, argument, LiteralTree, literal, ElementTrees}
use Rattle.go_ast.specs.Tree.{no_element, element, SimpleTree, Alone, Step, Update, Assign, Define, LocalTree, InitTree, ForTree, forever, while, clauses}
use Rattle.go_ast.specs.Tree.{StatementTree, Empty, Var, Simple, Inner, If, For, Break, Continue, Return, BlockTree, block, StatementTrees, no_statement}
use Rattle.go_ast.specs.Tree.{statement, IfTree, if_tree, ElseTree, no_else, else_if, else_block, ImportTree, GlobalTree, FieldTree, MethodTree, BodyTree}
use Rattle.go_ast.specs.Tree.{Other, Struct, Interface, TypeSpecTree, ReceiverTree, ParamTree, ResultTree, no_result, one_result, results, FuncTree}
use Rattle.go_ast.specs.Tree.{ImportsTree, DeclTree, VarDecl, TypeDecl, FuncDecl, FileTree}
use Rattle.law_rename.specs.Respelled.{Spelling, respelled, KeepsRole, KeepsRoles}

module _ (rank : ℕ) (old : ℕ → List ℕ) (spell : Spelling) where
  abbrev before : TokenSpellings
  before = record { rank = rank; spell = old }

  abbrev after : TokenSpellings
  after = record { rank = rank; spell = spell rank }

  abbrev by : Site → Site
  by = respelled spell

  -- a block within the file, by its ends
  abbrev inner : ℕ → ℕ → Block
  inner x y = blocks.Inner rank x y

  here : (n : ℕ) (role : Role) → site after n role ≡ by (site before n role)
  here n role = refl

  one : (n : ℕ) (role : Role) → site after n role ∷ [] ≡ map by (site before n role ∷ [])
  one n role = ap (λ x. x ∷ []) (here n role)

  first : (n : ℕ) (role : Role) {xs : List Site} (us : List Site) → xs ≡ map by us →
      site after n role ∷ xs ≡ map by (site before n role ∷ us)
  first n role us rest = λ i. here n role i ∷ rest i

  pub both : {xs ys : List Site} (us vs : List Site) → xs ≡ map by us → ys ≡ map by vs → xs ++ ys ≡ map by (us ++ vs)
  both us vs one other = (λ i. one i ++ other i) ∙ sym (map-append by us vs)

  if_respelled : {X : Type 0} (f h : X → List Site) → ((x : X) → h x ≡ map by (f x)) → (o : Option X) →
      sites_if h o ≡ map by (sites_if f o)
  if_respelled f h each None = refl
  if_respelled f h each (Some x) = each x

  pub each_respelled : {X : Type 0} (f h : X → List Site) → ((x : X) → h x ≡ map by (f x)) → (xs : List X) →
      flat_map h xs ≡ map by (flat_map f xs)
  each_respelled f h each [] = refl
  each_respelled f h each (x ∷ xs) = both (f x) (flat_map f xs) (each x) (each_respelled f h each xs)

  pub list_respelled : {X : Type 0} (f h : X → List Site) → ((x : X) → h x ≡ map by (f x)) → (xs : List (Item X)) →
      list_sites h xs ≡ map by (list_sites f xs)
  list_respelled f h each xs = each_respelled (λ x. f x.value) (λ x. h x.value) (λ x. each x.value) xs

  type_respelled : (t : TypeTree) → type_sites after t ≡ map by (type_sites before t)
  unfolding type_sites
  type_respelled (Local n) = one n Use
  type_respelled (Imported p d n) = first p Use (site before n (NotLexical purpose.Selected) ∷ []) (one n (NotLexical purpose.Selected))
  type_respelled (Pointer p t) = type_respelled t
  type_respelled (Slice o c t) = type_respelled t

  key_respelled : (k : Option (ℕ × ℕ)) → key_sites after k ≡ map by (key_sites before k)
  key_respelled None = refl
  key_respelled (Some k) = one k.0 (NotLexical purpose.Key)

  mutual
    unfolding expr_sites operand_sites link_sites argument_sites literal_sites element_sites

    expr_respelled : (e : ExprTree) → expr_sites after e ≡ map by (expr_sites before e)
    expr_respelled (Number n) = refl
    expr_respelled (Text n) = refl
    expr_respelled (Name n) = one n Use
    expr_respelled (Blank n) = one n Use
    expr_respelled (Composite l) = literal_respelled l
    expr_respelled (Paren o e c) = expr_respelled e
    expr_respelled (Prefix op p e) = expr_respelled e
    expr_respelled (Address p l) = literal_respelled l
    expr_respelled (Chain e ls) = both (expr_sites before e) (link_sites before ls) (expr_respelled e) (links_respelled ls)
    expr_respelled (Binary e os) = both (expr_sites before e) (operand_sites before os) (expr_respelled e) (operands_respelled os)

    operands_respelled : (os : OperandTrees) → operand_sites after os ≡ map by (operand_sites before os)
    operands_respelled no_operand = refl
    operands_respelled (operand op p e os) = both (expr_sites before e) (operand_sites before os) (expr_respelled e) (operands_respelled os)

    links_respelled : (ls : LinkTrees) → link_sites after ls ≡ map by (link_sites before ls)
    links_respelled no_link = refl
    links_respelled (selector d n ls) = first n (NotLexical purpose.Selected) (link_sites before ls) (links_respelled ls)
    links_respelled (index o e c ls) = both (expr_sites before e) (link_sites before ls) (expr_respelled e) (links_respelled ls)
    links_respelled (call o xs c ls) = both (argument_sites before xs) (link_sites before ls) (arguments_respelled xs) (links_respelled ls)

    arguments_respelled : (xs : ArgumentTrees) → argument_sites after xs ≡ map by (argument_sites before xs)
    arguments_respelled no_argument = refl
    arguments_respelled (argument e comma rest) = both (expr_sites before e) (argument_sites before rest) (expr_respelled e) (arguments_respelled rest)

    literal_respelled : (l : LiteralTree) → literal_sites after l ≡ map by (literal_sites before l)
    literal_respelled (literal t o es c) = both (type_sites before t) (element_sites before es) (type_respelled t) (elements_respelled es)

    elements_respelled : (es : ElementTrees) → element_sites after es ≡ map by (element_sites before es)
    elements_respelled no_element = refl
    elements_respelled (element key e comma rest) =
        both (key_sites before key) (expr_sites before e ++ element_sites before rest) (key_respelled key)
        (both (expr_sites before e) (element_sites before rest) (expr_respelled e) (elements_respelled rest))

  exprs_respelled : (es : List (Item ExprTree)) → exprs_sites after es ≡ map by (exprs_sites before es)
  exprs_respelled es = list_respelled (expr_sites before) (expr_sites after) expr_respelled es

  -- a name that may declare, in a role that is told of a block's ends and a scope's beginning
  ident_respelled : (role : Role) (t : IdentTree) → ident_sites after role t ≡ map by (ident_sites before role t)
  ident_respelled role (Named n) = one n role
  ident_respelled role (Underscore n) = one n (NotLexical purpose.Blank)

  left_respelled : (x y following : ℕ) (e : ExprTree) →
      left_sites after (inner x y) following e ≡ map by (left_sites before (inner x y) following e)
  left_respelled x y following (Name n) = one n (LeftName (inner x y) following)
  left_respelled x y following (Blank n) = one n (NotLexical purpose.Blank)
  left_respelled x y following (Number n) = expr_respelled (Number n)
  left_respelled x y following (Text n) = expr_respelled (Text n)
  left_respelled x y following (Composite l) = expr_respelled (Composite l)
  left_respelled x y following (Paren o e c) = expr_respelled (Paren o e c)
  left_respelled x y following (Prefix op p e) = expr_respelled (Prefix op p e)
  left_respelled x y following (Address p l) = expr_respelled (Address p l)
  left_respelled x y following (Chain e ls) = expr_respelled (Chain e ls)
  left_respelled x y following (Binary e os) = expr_respelled (Binary e os)

  assigned_respelled : (e : ExprTree) → assigned_sites after e ≡ map by (assigned_sites before e)
  assigned_respelled (Blank n) = one n (NotLexical purpose.Blank)
  assigned_respelled (Number n) = expr_respelled (Number n)
  assigned_respelled (Text n) = expr_respelled (Text n)
  assigned_respelled (Name n) = expr_respelled (Name n)
  assigned_respelled (Composite l) = expr_respelled (Composite l)
  assigned_respelled (Paren o e c) = expr_respelled (Paren o e c)
  assigned_respelled (Prefix op p e) = expr_respelled (Prefix op p e)
  assigned_respelled (Address p l) = expr_respelled (Address p l)
  assigned_respelled (Chain e ls) = expr_respelled (Chain e ls)
  assigned_respelled (Binary e os) = expr_respelled (Binary e os)

  simple_respelled : (x y following : ℕ) (t : SimpleTree) →
      simple_sites after (inner x y) following t ≡ map by (simple_sites before (inner x y) following t)
  unfolding simple_sites
  simple_respelled x y following (Alone e) = expr_respelled e
  simple_respelled x y following (Step e op p) = expr_respelled e
  simple_respelled x y following (Update e op p f) = both (expr_sites before e) (expr_sites before f) (expr_respelled e) (expr_respelled f)
  simple_respelled x y following (Assign es p fs) =
      both (list_sites (assigned_sites before) es) (exprs_sites before fs)
      (list_respelled (assigned_sites before) (assigned_sites after) assigned_respelled es) (exprs_respelled fs)
  simple_respelled x y following (Define es p fs) =
      both (list_sites (left_sites before (inner x y) following) es) (exprs_sites before fs)
      (list_respelled (left_sites before (inner x y) following) (left_sites after (inner x y) following)
      (left_respelled x y following) es) (exprs_respelled fs)

  local_respelled : (x y following : ℕ) (l : LocalTree) →
      local_sites after (inner x y) following l ≡ map by (local_sites before (inner x y) following l)
  unfolding local_sites
  local_respelled x y following l =
      let role : Role = Declaring (inner x y) following in
      both (list_sites (ident_sites before role) l.names) (sites_if (type_sites before) l.type_use ++ sites_if (value_sites before) l.values)
      (list_respelled (ident_sites before role) (ident_sites after role) (ident_respelled role) l.names)
      (both (sites_if (type_sites before) l.type_use) (sites_if (value_sites before) l.values)
      (if_respelled (type_sites before) (type_sites after) type_respelled l.type_use)
      (if_respelled (value_sites before) (value_sites after) (λ v. exprs_respelled v.1) l.values))

  separated_respelled : {X : Type 0} (f h : ℕ → X → List Site) → ((n : ℕ) (x : X) → h n x ≡ map by (f n x)) → (close : ℕ) →
      (xs : List (Item X)) → separated_sites h close xs ≡ map by (separated_sites f close xs)
  unfolding separated_sites
  separated_respelled f h each close xs =
      each_respelled (λ x. f (unwrap_or x.separator close) x.value) (λ x. h (unwrap_or x.separator close) x.value)
      (λ x. each (unwrap_or x.separator close) x.value) xs

  group_respelled : {X : Type 0} (f h : ℕ → X → List Site) → ((n : ℕ) (x : X) → h n x ≡ map by (f n x)) → (following : ℕ) →
      (x : Group X) → group_sites h following x ≡ map by (group_sites f following x)
  unfolding group_sites
  group_respelled f h each following (single x) = each following x
  group_respelled f h each following (several o xs c) = separated_respelled f h each c xs

  spec_respelled : {X : Type 0} (f h : X → List Site) → ((x : X) → h x ≡ map by (f x)) → (x : Group X) →
      spec_sites h x ≡ map by (spec_sites f x)
  unfolding group_sites
  spec_respelled f h each (single x) = each x
  spec_respelled f h each (several o xs c) = separated_respelled (λ n. f) (λ n. h) (λ n. each) c xs

  init_respelled : (x y : ℕ) (t : InitTree) → init_sites after (inner x y) t ≡ map by (init_sites before (inner x y) t)
  unfolding init_sites
  init_respelled x y t = if_respelled (simple_sites before (inner x y) t.semicolon) (simple_sites after (inner x y) t.semicolon)
      (simple_respelled x y t.semicolon) t.simple

  for_respelled : (x y brace : ℕ) (f : ForTree) → for_sites after (inner x y) brace f ≡ map by (for_sites before (inner x y) brace f)
  unfolding for_sites
  for_respelled x y brace forever = refl
  for_respelled x y brace (while e) = expr_respelled e
  for_respelled x y brace (clauses init s condition t post) =
      both (sites_if (simple_sites before (inner x y) s) init)
      (sites_if (expr_sites before) condition ++ sites_if (simple_sites before (inner x y) brace) post)
      (if_respelled (simple_sites before (inner x y) s) (simple_sites after (inner x y) s) (simple_respelled x y s) init)
      (both (sites_if (expr_sites before) condition) (sites_if (simple_sites before (inner x y) brace) post)
      (if_respelled (expr_sites before) (expr_sites after) expr_respelled condition)
      (if_respelled (simple_sites before (inner x y) brace) (simple_sites after (inner x y) brace) (simple_respelled x y brace) post))

  mutual
    unfolding statement_sites block_sites statements_sites if_sites else_sites

    statement_respelled : (x y following : ℕ) (t : StatementTree) →
        statement_sites after (inner x y) following t ≡ map by (statement_sites before (inner x y) following t)
    statement_respelled x y following Empty = refl
    statement_respelled x y following (Var p v) =
        group_respelled (local_sites before (inner x y)) (local_sites after (inner x y)) (local_respelled x y) following v
    statement_respelled x y following (Simple s) = simple_respelled x y following s
    statement_respelled x y following (Inner b) = block_respelled b
    statement_respelled x y following (If i) = if_tree_respelled following i
    statement_respelled x y following (For p f b) =
        both (for_sites before (inner p following) (open_of b) f) (block_sites before b)
        (for_respelled p following (open_of b) f) (block_respelled b)
    statement_respelled x y following (Break p) = refl
    statement_respelled x y following (Continue p) = refl
    statement_respelled x y following (Return p es) = exprs_respelled es

    block_respelled : (b : BlockTree) → block_sites after b ≡ map by (block_sites before b)
    block_respelled (block o ss c) = statements_respelled o c c ss

    statements_respelled : (x y close : ℕ) (ss : StatementTrees) →
        statements_sites after (inner x y) close ss ≡ map by (statements_sites before (inner x y) close ss)
    statements_respelled x y close no_statement = refl
    statements_respelled x y close (statement s semicolon rest) =
        both (statement_sites before (inner x y) (unwrap_or semicolon close) s) (statements_sites before (inner x y) close rest)
        (statement_respelled x y (unwrap_or semicolon close) s) (statements_respelled x y close rest)

    if_tree_respelled : (following : ℕ) (i : IfTree) → if_sites after following i ≡ map by (if_sites before following i)
    if_tree_respelled following (if_tree p init e b rest) =
        both (sites_if (init_sites before (inner p following)) init) (expr_sites before e ++ (block_sites before b ++ else_sites before following rest))
        (if_respelled (init_sites before (inner p following)) (init_sites after (inner p following)) (init_respelled p following) init)
        (both (expr_sites before e) (block_sites before b ++ else_sites before following rest) (expr_respelled e)
        (both (block_sites before b) (else_sites before following rest) (block_respelled b) (else_respelled following rest)))

    else_respelled : (following : ℕ) (e : ElseTree) → else_sites after following e ≡ map by (else_sites before following e)
    else_respelled following no_else = refl
    else_respelled following (else_if p i) = if_tree_respelled following i
    else_respelled following (else_block p b) = block_respelled b

  global_respelled : (v : GlobalTree) → global_sites after v ≡ map by (global_sites before v)
  unfolding global_sites
  global_respelled v =
      both (list_sites (global_name before) v.names) (type_sites before v.type_use)
      (list_respelled (global_name before) (global_name after) (λ n. one n (Declaring blocks.Package 0)) v.names) (type_respelled v.type_use)

  field_respelled : (f : FieldTree) → field_sites after f ≡ map by (field_sites before f)
  unfolding field_sites
  field_respelled f =
      both (list_sites (member_name before) f.names) (type_sites before f.type_use)
      (list_respelled (member_name before) (member_name after) (λ n. one n (NotLexical purpose.Member)) f.names) (type_respelled f.type_use)

  param_respelled : (x y start : ℕ) (p : ParamTree) →
      param_sites after (inner x y) start p ≡ map by (param_sites before (inner x y) start p)
  unfolding param_sites
  param_respelled x y start p =
      let role : Role = Declaring (inner x y) start in
      both (list_sites (ident_sites before role) p.names) (type_sites before p.type_use)
      (list_respelled (ident_sites before role) (ident_sites after role) (ident_respelled role) p.names) (type_respelled p.type_use)

  result_respelled : (r : ResultTree) → result_sites after r ≡ map by (result_sites before r)
  unfolding result_sites
  result_respelled no_result = refl
  result_respelled (one_result t) = type_respelled t
  result_respelled (results o ts c) = list_respelled (type_sites before) (type_sites after) type_respelled ts

  method_respelled : (m : MethodTree) → method_sites after m ≡ map by (method_sites before m)
  unfolding method_sites
  method_respelled m =
      let start = m.rparen in
      let inside = inner m.lparen start in
      let params = list_sites (param_sites before inside start) m.params in
      first m.name (NotLexical purpose.Member) (params ++ result_sites before m.result)
      (both params (result_sites before m.result)
      (list_respelled (param_sites before inside start) (param_sites after inside start) (param_respelled m.lparen start start) m.params)
      (result_respelled m.result))

  body_respelled : (b : BodyTree) → body_sites after b ≡ map by (body_sites before b)
  unfolding body_sites
  body_respelled (Other t) = type_respelled t
  body_respelled (Struct s o fs c) = list_respelled (field_sites before) (field_sites after) field_respelled fs
  body_respelled (Interface i o ms c) = list_respelled (method_sites before) (method_sites after) method_respelled ms

  type_spec_respelled : (t : TypeSpecTree) → type_spec_sites after t ≡ map by (type_spec_sites before t)
  unfolding type_spec_sites
  type_spec_respelled t = first t.name (Declaring blocks.Package 0) (body_sites before t.body) (body_respelled t.body)

  receiver_respelled : (x y start : ℕ) (r : ReceiverTree) →
      receiver_sites after (inner x y) start r ≡ map by (receiver_sites before (inner x y) start r)
  unfolding receiver_sites
  receiver_respelled x y start r =
      let role : Role = Declaring (inner x y) start in
      both (ident_sites before role r.name) (site before r.type_name Use ∷ []) (ident_respelled role r.name) (one r.type_name Use)

  -- a function's identifiers, by the ends of its block
  abbrev parts : TokenSpellings → ℕ → ℕ → Role → FuncTree → List Site
  parts s o c role f =
      sites_if (receiver_sites s (blocks.Inner s.rank o c) o) f.receiver ++ (site s f.name role ∷
      (list_sites (param_sites s (blocks.Inner s.rank o c) o) f.params ++ (result_sites s f.result ++ block_sites s f.body)))

  parts_respelled : (o c : ℕ) (role : Role) (f : FuncTree) →
      parts after o c role f ≡ map by (parts before o c role f)
  parts_respelled o c role f =
      let params : List Site = list_sites (param_sites before (inner o c) o) f.params in
      let rest : List Site = result_sites before f.result ++ block_sites before f.body in
      both (sites_if (receiver_sites before (inner o c) o) f.receiver) (site before f.name role ∷ (params ++ rest))
      (if_respelled (receiver_sites before (inner o c) o) (receiver_sites after (inner o c) o) (receiver_respelled o c o) f.receiver)
      (first f.name role (params ++ rest)
      (both params rest
      (list_respelled (param_sites before (inner o c) o) (param_sites after (inner o c) o) (param_respelled o c o) f.params)
      (both (result_sites before f.result) (block_sites before f.body) (result_respelled f.result) (block_respelled f.body))))

  func_respelled : (f : FuncTree) → func_role f.receiver (spell rank f.name) ≡ func_role f.receiver (old f.name) →
      func_sites after f ≡ map by (func_sites before f)
  unfolding func_sites
  func_respelled f role =
      (λ i. parts after (open_of f.body) (close_of f.body) (role i) f)
      ∙ parts_respelled (open_of f.body) (close_of f.body) (func_role f.receiver (old f.name)) f

  pub import_respelled : (i : ImportTree) → import_sites after i ≡ map by (import_sites before i)
  unfolding import_sites
  import_respelled i = by_name i.name
    where
      by_name : (o : Option ℕ) → import_name after o ++ (site after i.path (NotLexical (import_purpose o)) ∷ []) ≡
          map by (import_name before o ++ (site before i.path (NotLexical (import_purpose o)) ∷ []))
      by_name None = one i.path (NotLexical purpose.UnnamedImport)
      by_name (Some n) =
          first n (Declaring (blocks.File rank) 0) (site before i.path (NotLexical purpose.ImportPath) ∷ []) (one i.path (NotLexical purpose.ImportPath))

  pub imports_respelled : (i : ImportsTree) → imports_sites after i ≡ map by (imports_sites before i)
  unfolding imports_sites
  imports_respelled i = spec_respelled (import_sites before) (import_sites after) import_respelled i.imports

  pub decl_respelled : (d : DeclTree) → KeepsRole old (spell rank) d → decl_sites after d ≡ map by (decl_sites before d)
  unfolding decl_sites
  decl_respelled (VarDecl k v s) kept = spec_respelled (global_sites before) (global_sites after) global_respelled v
  decl_respelled (TypeDecl k v s) kept = spec_respelled (type_spec_sites before) (type_spec_sites after) type_spec_respelled v
  decl_respelled (FuncDecl k f s) kept = func_respelled f kept

  decls_respelled : (ds : List DeclTree) → All (KeepsRole old (spell rank)) ds → flat_map (decl_sites after) ds ≡ map by (flat_map (decl_sites before) ds)
  decls_respelled [] all = refl
  decls_respelled (d ∷ ds) all = both (decl_sites before d) (flat_map (decl_sites before) ds) (decl_respelled d (All-head (KeepsRole old (spell rank)) d ds
      all)) (decls_respelled ds (All-tail (KeepsRole old (spell rank)) d ds all))

  pub file_respelled' : (f : FileTree) → KeepsRoles old (spell rank) f → file_sites after f ≡ map by (file_sites before f)
  unfolding file_sites
  file_respelled' f kept =
      first f.name (NotLexical purpose.PackageClause) (flat_map (imports_sites before) f.imports ++ flat_map (decl_sites before) f.decls)
      (both (flat_map (imports_sites before) f.imports) (flat_map (decl_sites before) f.decls)
      (each_respelled (imports_sites before) (imports_sites after) imports_respelled f.imports)
      (decls_respelled f.decls kept))

pub file_respelled : (rank : ℕ) (old : ℕ → List ℕ) (spell : Spelling) (f : FileTree) → KeepsRoles old (spell rank) f →
    file_sites (record { rank = rank; spell = spell rank }) f ≡ map (respelled spell) (file_sites (record { rank = rank; spell = old }) f)
file_respelled rank old spell f kept = file_respelled' rank old spell f kept
