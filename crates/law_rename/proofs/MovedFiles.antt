-- A file whose tokens get other numbers has the same identifiers, at their tokens' new numbers.
use Rattle.std.proofs.Common.{ℕ, ◌≡◌, List, [], ◌∷◌, ◌++◌, Option, Some, None, Bool, true, false, map, refl, sym, ap, ◌∙◌}
use Rattle.std.specs.Prelude.{option_map, codes, bytes_eq, if◌then◌else◌}
use Rattle.std.specs.List.{flat_map}
use Rattle.std.specs.Option.{unwrap_or}
use Rattle.std.proofs.lemmas.List.{map-append}
use Rattle.go_scope.specs.declared.model.Block.{Block}
use Rattle.go_scope.specs.declared.model.Block.TheVariants as blocks
use Rattle.go_scope.specs.declared.model.Role.{Role}
use Rattle.go_scope.specs.declared.model.Role.TheVariants.{Use, Declaring, LeftName, NotLexical}
use Rattle.go_scope.specs.declared.model.Purpose.TheVariants as purpose
use Rattle.go_scope.specs.Moves.{moved_role}
use Rattle.go_scope.specs.Site.{Site, TokenSpellings, site}
use Rattle.go_scope.specs.ExpressionSites.{sites_if, list_sites, type_sites, key_sites, expr_sites, operand_sites, link_sites, argument_sites}
use Rattle.go_scope.specs.ExpressionSites.{literal_sites, element_sites, exprs_sites}
use Rattle.go_scope.specs.StatementSites.{ident_sites, left_sites, assigned_sites, simple_sites, value_sites, local_sites, separated_sites, group_sites}
use Rattle.go_scope.specs.StatementSites.{init_sites, for_sites, open_of, close_of, statement_sites, block_sites, statements_sites, if_sites, else_sites}
use Rattle.go_scope.specs.FileSites.{global_name, member_name, spec_sites, global_sites, field_sites, method_sites, body_sites, type_spec_sites}
use Rattle.go_scope.specs.FileSites.{receiver_sites, param_sites, result_sites, func_role, func_sites, import_name, import_purpose, import_sites}
use Rattle.go_scope.specs.FileSites.{imports_sites, decl_sites, file_sites}
use Rattle.go_ast.specs.Tree.{Item, Group, single, several, IdentTree, Named, Underscore, TypeTree, Local, Imported, Pointer}
use Rattle.go_ast.specs.Tree.{Slice, ExprTree, Number, Text, Name, Blank, Composite, Paren, Prefix, Address, Chain, Binary, OperandTrees, no_operand}
use Rattle.go_ast.specs.Tree.{operand, LinkTrees, no_link, selector, index, call, ArgumentTrees, no_argument, argument, LiteralTree, literal, ElementTrees}
use Rattle.go_ast.specs.Tree.{no_element, element, SimpleTree, Alone, Step, Update, Assign, Define, LocalTree, InitTree, ForTree, forever, while, clauses}
use Rattle.go_ast.specs.Tree.{StatementTree, Empty, Var, Simple, Inner, If, For, Break, Continue, Return, BlockTree, block, StatementTrees, no_statement}
use Rattle.go_ast.specs.Tree.{statement, IfTree, if_tree, ElseTree, no_else, else_if, else_block, ImportTree, GlobalTree, FieldTree, MethodTree, BodyTree}
use Rattle.go_ast.specs.Tree.{Other, Struct, Interface, TypeSpecTree, ReceiverTree, ParamTree, ResultTree, no_result, one_result, results, FuncTree}
use Rattle.go_ast.specs.Tree.{ImportsTree, DeclTree, VarDecl, TypeDecl, FuncDecl, FileTree}
use Rattle.law_rename.specs.Renumbered.{item_by, items_by, group_by, ident_by, type_by, key_by, expr_by, operands_by, links_by}
use Rattle.law_rename.specs.Renumbered.{arguments_by, literal_by, elements_by, exprs_by, simple_by, values_by, local_by, init_by, for_by, statement_by}
use Rattle.law_rename.specs.Renumbered.{block_by, statements_by, if_by, else_by, import_by, global_by, field_by, body_by, type_spec_by, receiver_by}
use Rattle.law_rename.specs.Renumbered.{param_by, result_by, method_by, func_by, imports_by, decl_by, renumbered}
use Rattle.law_rename.specs.MovedSites.{moved_site}

open_by : (g : ℕ → ℕ) (b : BlockTree) → open_of (block_by g b) ≡ g (open_of b)
unfolding block_by
open_by g (block o ss c) = refl

close_by : (g : ℕ → ℕ) (b : BlockTree) → close_of (block_by g b) ≡ g (close_of b)
unfolding block_by
close_by g (block o ss c) = refl

-- the token behind an item
behind_by : (g : ℕ → ℕ) (o : Option ℕ) (n : ℕ) → unwrap_or (option_map g o) (g n) ≡ g (unwrap_or o n)
behind_by g None n = refl
behind_by g (Some p) n = refl

module _ (move : ℕ → ℕ → ℕ) (rank : ℕ) (old new : ℕ → List ℕ) (same : (n : ℕ) → new (move rank n) ≡ old n) where
  abbrev g : ℕ → ℕ
  g = move rank

  abbrev before : TokenSpellings
  before = record { rank = rank; spell = old }

  abbrev after : TokenSpellings
  after = record { rank = rank; spell = new }

  abbrev by : Site → Site
  by = moved_site move

  -- a block within the file, by its ends
  abbrev inner : ℕ → ℕ → Block
  inner x y = blocks.Inner rank x y

  here : (n : ℕ) (role : Role) → site after (g n) (moved_role move role) ≡ by (site before n role)
  here n role = λ i. record { place = record { file = rank; index = g n }; name = same n i; role = moved_role move role }

  one : (n : ℕ) (role : Role) → site after (g n) (moved_role move role) ∷ [] ≡ map by (site before n role ∷ [])
  one n role = ap (λ x. x ∷ []) (here n role)

  first : (n : ℕ) (role : Role) {xs : List Site} (us : List Site) → xs ≡ map by us →
      site after (g n) (moved_role move role) ∷ xs ≡ map by (site before n role ∷ us)
  first n role us rest = λ i. here n role i ∷ rest i

  pub both : {xs ys : List Site} (us vs : List Site) → xs ≡ map by us → ys ≡ map by vs → xs ++ ys ≡ map by (us ++ vs)
  both us vs one other = (λ i. one i ++ other i) ∙ sym (map-append by us vs)

  if_moved : {X : Type 0} (f h : X → List Site) (F : X → X) → ((x : X) → h (F x) ≡ map by (f x)) → (o : Option X) →
      sites_if h (option_map F o) ≡ map by (sites_if f o)
  if_moved f h F each None = refl
  if_moved f h F each (Some x) = each x

  pub all_moved : {X : Type 0} (f h : X → List Site) (F : X → X) → ((x : X) → h (F x) ≡ map by (f x)) → (xs : List X) →
      flat_map h (map F xs) ≡ map by (flat_map f xs)
  all_moved f h F each [] = refl
  all_moved f h F each (x ∷ xs) = both (f x) (flat_map f xs) (each x) (all_moved f h F each xs)

  pub list_moved : {X : Type 0} (f h : X → List Site) (F : X → X) → ((x : X) → h (F x) ≡ map by (f x)) → (xs : List (Item X)) →
      list_sites h (items_by g F xs) ≡ map by (list_sites f xs)
  list_moved f h F each xs = all_moved (λ x. f x.value) (λ x. h x.value) (item_by g F) (λ x. each x.value) xs

  type_moved : (t : TypeTree) → type_sites after (type_by g t) ≡ map by (type_sites before t)
  unfolding type_sites type_by
  type_moved (Local n) = one n Use
  type_moved (Imported p d n) = first p Use (site before n (NotLexical purpose.Selected) ∷ []) (one n (NotLexical purpose.Selected))
  type_moved (Pointer p t) = type_moved t
  type_moved (Slice o c t) = type_moved t

  key_moved : (k : Option (ℕ × ℕ)) → key_sites after (key_by g k) ≡ map by (key_sites before k)
  key_moved None = refl
  key_moved (Some k) = one k.0 (NotLexical purpose.Key)

  mutual
    unfolding expr_sites operand_sites link_sites argument_sites literal_sites element_sites expr_by operands_by links_by arguments_by literal_by
        elements_by

    expr_moved : (e : ExprTree) → expr_sites after (expr_by g e) ≡ map by (expr_sites before e)
    expr_moved (Number n) = refl
    expr_moved (Text n) = refl
    expr_moved (Name n) = one n Use
    expr_moved (Blank n) = one n Use
    expr_moved (Composite l) = literal_moved l
    expr_moved (Paren o e c) = expr_moved e
    expr_moved (Prefix op p e) = expr_moved e
    expr_moved (Address p l) = literal_moved l
    expr_moved (Chain e ls) = both (expr_sites before e) (link_sites before ls) (expr_moved e) (links_moved ls)
    expr_moved (Binary e os) = both (expr_sites before e) (operand_sites before os) (expr_moved e) (operands_moved os)

    operands_moved : (os : OperandTrees) → operand_sites after (operands_by g os) ≡ map by (operand_sites before os)
    operands_moved no_operand = refl
    operands_moved (operand op p e os) = both (expr_sites before e) (operand_sites before os) (expr_moved e) (operands_moved os)

    links_moved : (ls : LinkTrees) → link_sites after (links_by g ls) ≡ map by (link_sites before ls)
    links_moved no_link = refl
    links_moved (selector d n ls) = first n (NotLexical purpose.Selected) (link_sites before ls) (links_moved ls)
    links_moved (index o e c ls) = both (expr_sites before e) (link_sites before ls) (expr_moved e) (links_moved ls)
    links_moved (call o xs c ls) = both (argument_sites before xs) (link_sites before ls) (arguments_moved xs) (links_moved ls)

    arguments_moved : (xs : ArgumentTrees) → argument_sites after (arguments_by g xs) ≡ map by (argument_sites before xs)
    arguments_moved no_argument = refl
    arguments_moved (argument e comma rest) = both (expr_sites before e) (argument_sites before rest) (expr_moved e) (arguments_moved rest)

    literal_moved : (l : LiteralTree) → literal_sites after (literal_by g l) ≡ map by (literal_sites before l)
    literal_moved (literal t o es c) = both (type_sites before t) (element_sites before es) (type_moved t) (elements_moved es)

    elements_moved : (es : ElementTrees) → element_sites after (elements_by g es) ≡ map by (element_sites before es)
    elements_moved no_element = refl
    elements_moved (element key e comma rest) =
        both (key_sites before key) (expr_sites before e ++ element_sites before rest) (key_moved key)
        (both (expr_sites before e) (element_sites before rest) (expr_moved e) (elements_moved rest))

  exprs_moved : (es : List (Item ExprTree)) → exprs_sites after (exprs_by g es) ≡ map by (exprs_sites before es)
  exprs_moved es = list_moved (expr_sites before) (expr_sites after) (expr_by g) expr_moved es

  -- a name that may declare, in a role that is told of a block's ends and a scope's beginning
  ident_moved : (role : Role) (t : IdentTree) → ident_sites after (moved_role move role) (ident_by g t) ≡ map by (ident_sites before role t)
  ident_moved role (Named n) = one n role
  ident_moved role (Underscore n) = one n (NotLexical purpose.Blank)

  left_moved : (x y following : ℕ) (e : ExprTree) →
      left_sites after (inner (g x) (g y)) (g following) (expr_by g e) ≡ map by (left_sites before (inner x y) following e)
  unfolding expr_by
  left_moved x y following (Name n) = one n (LeftName (inner x y) following)
  left_moved x y following (Blank n) = one n (NotLexical purpose.Blank)
  left_moved x y following (Number n) = expr_moved (Number n)
  left_moved x y following (Text n) = expr_moved (Text n)
  left_moved x y following (Composite l) = expr_moved (Composite l)
  left_moved x y following (Paren o e c) = expr_moved (Paren o e c)
  left_moved x y following (Prefix op p e) = expr_moved (Prefix op p e)
  left_moved x y following (Address p l) = expr_moved (Address p l)
  left_moved x y following (Chain e ls) = expr_moved (Chain e ls)
  left_moved x y following (Binary e os) = expr_moved (Binary e os)

  assigned_moved : (e : ExprTree) → assigned_sites after (expr_by g e) ≡ map by (assigned_sites before e)
  unfolding expr_by
  assigned_moved (Blank n) = one n (NotLexical purpose.Blank)
  assigned_moved (Number n) = expr_moved (Number n)
  assigned_moved (Text n) = expr_moved (Text n)
  assigned_moved (Name n) = expr_moved (Name n)
  assigned_moved (Composite l) = expr_moved (Composite l)
  assigned_moved (Paren o e c) = expr_moved (Paren o e c)
  assigned_moved (Prefix op p e) = expr_moved (Prefix op p e)
  assigned_moved (Address p l) = expr_moved (Address p l)
  assigned_moved (Chain e ls) = expr_moved (Chain e ls)
  assigned_moved (Binary e os) = expr_moved (Binary e os)

  simple_moved : (x y following : ℕ) (t : SimpleTree) →
      simple_sites after (inner (g x) (g y)) (g following) (simple_by g t) ≡ map by (simple_sites before (inner x y) following t)
  unfolding simple_sites
  simple_moved x y following (Alone e) = expr_moved e
  simple_moved x y following (Step e op p) = expr_moved e
  simple_moved x y following (Update e op p f) = both (expr_sites before e) (expr_sites before f) (expr_moved e) (expr_moved f)
  simple_moved x y following (Assign es p fs) =
      both (list_sites (assigned_sites before) es) (exprs_sites before fs)
      (list_moved (assigned_sites before) (assigned_sites after) (expr_by g) assigned_moved es) (exprs_moved fs)
  simple_moved x y following (Define es p fs) =
      both (list_sites (left_sites before (inner x y) following) es) (exprs_sites before fs)
      (list_moved (left_sites before (inner x y) following) (left_sites after (inner (g x) (g y)) (g following)) (expr_by g)
      (left_moved x y following) es) (exprs_moved fs)

  local_moved : (x y following : ℕ) (l : LocalTree) →
      local_sites after (inner (g x) (g y)) (g following) (local_by g l) ≡ map by (local_sites before (inner x y) following l)
  unfolding local_sites
  local_moved x y following l =
      let role : Role = Declaring (inner x y) following in
      both (list_sites (ident_sites before role) l.names) (sites_if (type_sites before) l.type_use ++ sites_if (value_sites before) l.values)
      (list_moved (ident_sites before role) (ident_sites after (moved_role move role)) (ident_by g) (ident_moved role) l.names)
      (both (sites_if (type_sites before) l.type_use) (sites_if (value_sites before) l.values)
      (if_moved (type_sites before) (type_sites after) (type_by g) type_moved l.type_use)
      (if_moved (value_sites before) (value_sites after) (values_by g (expr_by g)) (λ v. exprs_moved v.1) l.values))

  separated_moved : {X : Type 0} (f h : ℕ → X → List Site) (F : X → X) → ((n : ℕ) (x : X) → h (g n) (F x) ≡ map by (f n x)) → (close : ℕ) →
      (xs : List (Item X)) → separated_sites h (g close) (items_by g F xs) ≡ map by (separated_sites f close xs)
  unfolding separated_sites
  separated_moved f h F each close xs =
      all_moved (λ x. f (unwrap_or x.separator close) x.value) (λ x. h (unwrap_or x.separator (g close)) x.value) (item_by g F)
      (λ x. ap (λ n. h n (F x.value)) (behind_by g x.separator close) ∙ each (unwrap_or x.separator close) x.value) xs

  group_moved : {X : Type 0} (f h : ℕ → X → List Site) (F : X → X) → ((n : ℕ) (x : X) → h (g n) (F x) ≡ map by (f n x)) → (following : ℕ) →
      (x : Group X) → group_sites h (g following) (group_by g F x) ≡ map by (group_sites f following x)
  unfolding group_sites
  group_moved f h F each following (single x) = each following x
  group_moved f h F each following (several o xs c) = separated_moved f h F each c xs

  spec_moved : {X : Type 0} (f h : X → List Site) (F : X → X) → ((x : X) → h (F x) ≡ map by (f x)) → (x : Group X) →
      spec_sites h (group_by g F x) ≡ map by (spec_sites f x)
  unfolding group_sites
  spec_moved f h F each (single x) = each x
  spec_moved f h F each (several o xs c) = separated_moved (λ n. f) (λ n. h) F (λ n. each) c xs

  init_moved : (x y : ℕ) (t : InitTree) → init_sites after (inner (g x) (g y)) (init_by g t) ≡ map by (init_sites before (inner x y) t)
  unfolding init_sites
  init_moved x y t = if_moved (simple_sites before (inner x y) t.semicolon) (simple_sites after (inner (g x) (g y)) (g t.semicolon)) (simple_by g)
      (simple_moved x y t.semicolon) t.simple

  for_moved : (x y brace : ℕ) (f : ForTree) → for_sites after (inner (g x) (g y)) (g brace) (for_by g f) ≡ map by (for_sites before (inner x y) brace f)
  unfolding for_sites
  for_moved x y brace forever = refl
  for_moved x y brace (while e) = expr_moved e
  for_moved x y brace (clauses init s condition t post) =
      both (sites_if (simple_sites before (inner x y) s) init)
      (sites_if (expr_sites before) condition ++ sites_if (simple_sites before (inner x y) brace) post)
      (if_moved (simple_sites before (inner x y) s) (simple_sites after (inner (g x) (g y)) (g s)) (simple_by g) (simple_moved x y s) init)
      (both (sites_if (expr_sites before) condition) (sites_if (simple_sites before (inner x y) brace) post)
      (if_moved (expr_sites before) (expr_sites after) (expr_by g) expr_moved condition)
      (if_moved (simple_sites before (inner x y) brace) (simple_sites after (inner (g x) (g y)) (g brace)) (simple_by g) (simple_moved x y brace) post))

  mutual
    unfolding statement_sites block_sites statements_sites if_sites else_sites statement_by block_by statements_by if_by else_by

    statement_moved : (x y following : ℕ) (t : StatementTree) →
        statement_sites after (inner (g x) (g y)) (g following) (statement_by g t) ≡ map by (statement_sites before (inner x y) following t)
    statement_moved x y following Empty = refl
    statement_moved x y following (Var p v) =
        group_moved (local_sites before (inner x y)) (local_sites after (inner (g x) (g y))) (local_by g) (local_moved x y) following v
    statement_moved x y following (Simple s) = simple_moved x y following s
    statement_moved x y following (Inner b) = block_moved b
    statement_moved x y following (If i) = if_tree_moved following i
    statement_moved x y following (For p f b) =
        both (for_sites before (inner p following) (open_of b) f) (block_sites before b)
        (ap (λ n. for_sites after (inner (g p) (g following)) n (for_by g f)) (open_by g b) ∙ for_moved p following (open_of b) f) (block_moved b)
    statement_moved x y following (Break p) = refl
    statement_moved x y following (Continue p) = refl
    statement_moved x y following (Return p es) = exprs_moved es

    block_moved : (b : BlockTree) → block_sites after (block_by g b) ≡ map by (block_sites before b)
    block_moved (block o ss c) = statements_moved o c c ss

    statements_moved : (x y close : ℕ) (ss : StatementTrees) →
        statements_sites after (inner (g x) (g y)) (g close) (statements_by g ss) ≡ map by (statements_sites before (inner x y) close ss)
    statements_moved x y close no_statement = refl
    statements_moved x y close (statement s semicolon rest) =
        both (statement_sites before (inner x y) (unwrap_or semicolon close) s) (statements_sites before (inner x y) close rest)
        (ap (λ n. statement_sites after (inner (g x) (g y)) n (statement_by g s)) (behind_by g semicolon close)
        ∙ statement_moved x y (unwrap_or semicolon close) s) (statements_moved x y close rest)

    if_tree_moved : (following : ℕ) (i : IfTree) → if_sites after (g following) (if_by g i) ≡ map by (if_sites before following i)
    if_tree_moved following (if_tree p init e b rest) =
        both (sites_if (init_sites before (inner p following)) init) (expr_sites before e ++ (block_sites before b ++ else_sites before following rest))
        (if_moved (init_sites before (inner p following)) (init_sites after (inner (g p) (g following))) (init_by g) (init_moved p following) init)
        (both (expr_sites before e) (block_sites before b ++ else_sites before following rest) (expr_moved e)
        (both (block_sites before b) (else_sites before following rest) (block_moved b) (else_moved following rest)))

    else_moved : (following : ℕ) (e : ElseTree) → else_sites after (g following) (else_by g e) ≡ map by (else_sites before following e)
    else_moved following no_else = refl
    else_moved following (else_if p i) = if_tree_moved following i
    else_moved following (else_block p b) = block_moved b

  global_moved : (v : GlobalTree) → global_sites after (global_by g v) ≡ map by (global_sites before v)
  unfolding global_sites
  global_moved v =
      both (list_sites (global_name before) v.names) (type_sites before v.type_use)
      (list_moved (global_name before) (global_name after) g (λ n. one n (Declaring blocks.Package 0)) v.names) (type_moved v.type_use)

  field_moved : (f : FieldTree) → field_sites after (field_by g f) ≡ map by (field_sites before f)
  unfolding field_sites
  field_moved f =
      both (list_sites (member_name before) f.names) (type_sites before f.type_use)
      (list_moved (member_name before) (member_name after) g (λ n. one n (NotLexical purpose.Member)) f.names) (type_moved f.type_use)

  param_moved : (x y start : ℕ) (p : ParamTree) →
      param_sites after (inner (g x) (g y)) (g start) (param_by g p) ≡ map by (param_sites before (inner x y) start p)
  unfolding param_sites
  param_moved x y start p =
      let role : Role = Declaring (inner x y) start in
      both (list_sites (ident_sites before role) p.names) (type_sites before p.type_use)
      (list_moved (ident_sites before role) (ident_sites after (moved_role move role)) (ident_by g) (ident_moved role) p.names) (type_moved p.type_use)

  result_moved : (r : ResultTree) → result_sites after (result_by g r) ≡ map by (result_sites before r)
  unfolding result_sites
  result_moved no_result = refl
  result_moved (one_result t) = type_moved t
  result_moved (results o ts c) = list_moved (type_sites before) (type_sites after) (type_by g) type_moved ts

  method_moved : (m : MethodTree) → method_sites after (method_by g m) ≡ map by (method_sites before m)
  unfolding method_sites
  method_moved m =
      let start = m.rparen in
      let params = list_sites (param_sites before (inner m.lparen start) start) m.params in
      first m.name (NotLexical purpose.Member) (params ++ result_sites before m.result)
      (both params (result_sites before m.result)
      (list_moved (param_sites before (inner m.lparen start) start) (param_sites after (inner (g m.lparen) (g start)) (g start)) (param_by g)
      (param_moved m.lparen start start) m.params) (result_moved m.result))

  body_moved : (b : BodyTree) → body_sites after (body_by g b) ≡ map by (body_sites before b)
  unfolding body_sites
  body_moved (Other t) = type_moved t
  body_moved (Struct s o fs c) = list_moved (field_sites before) (field_sites after) (field_by g) field_moved fs
  body_moved (Interface i o ms c) = list_moved (method_sites before) (method_sites after) (method_by g) method_moved ms

  type_spec_moved : (t : TypeSpecTree) → type_spec_sites after (type_spec_by g t) ≡ map by (type_spec_sites before t)
  unfolding type_spec_sites
  type_spec_moved t = first t.name (Declaring blocks.Package 0) (body_sites before t.body) (body_moved t.body)

  receiver_moved : (x y start : ℕ) (r : ReceiverTree) →
      receiver_sites after (inner (g x) (g y)) (g start) (receiver_by g r) ≡ map by (receiver_sites before (inner x y) start r)
  unfolding receiver_sites
  receiver_moved x y start r =
      let role : Role = Declaring (inner x y) start in
      both (ident_sites before role r.name) (site before r.type_name Use ∷ []) (ident_moved role r.name) (one r.type_name Use)

  -- The name of a function decides its role.
  init_or : (b : Bool) → (if b then NotLexical purpose.InitFunction else Declaring blocks.Package 0) ≡
      moved_role move (if b then NotLexical purpose.InitFunction else Declaring blocks.Package 0)
  init_or true = refl
  init_or false = refl

  role_moved : (r : Option ReceiverTree) (n : ℕ) → func_role (option_map (receiver_by g) r) (new (g n)) ≡ moved_role move (func_role r (old n))
  role_moved (Some r) n = refl
  role_moved None n =
      ap (λ name. if bytes_eq name (codes "init") then NotLexical purpose.InitFunction else Declaring blocks.Package 0) (same n)
      ∙ init_or (bytes_eq (old n) (codes "init"))

  -- a function's identifiers, by the ends of its block
  abbrev parts : TokenSpellings → ℕ → ℕ → Role → FuncTree → List Site
  parts s o c role f =
      sites_if (receiver_sites s (blocks.Inner s.rank o c) o) f.receiver ++ (site s f.name role ∷
      (list_sites (param_sites s (blocks.Inner s.rank o c) o) f.params ++ (result_sites s f.result ++ block_sites s f.body)))

  parts_moved : (o c : ℕ) (role : Role) (f : FuncTree) →
      parts after (g o) (g c) (moved_role move role) (func_by g f) ≡ map by (parts before o c role f)
  parts_moved o c role f =
      let params : List Site = list_sites (param_sites before (inner o c) o) f.params in
      let rest : List Site = result_sites before f.result ++ block_sites before f.body in
      both (sites_if (receiver_sites before (inner o c) o) f.receiver) (site before f.name role ∷ (params ++ rest))
      (if_moved (receiver_sites before (inner o c) o) (receiver_sites after (inner (g o) (g c)) (g o)) (receiver_by g) (receiver_moved o c o) f.receiver)
      (first f.name role (params ++ rest)
      (both params rest
      (list_moved (param_sites before (inner o c) o) (param_sites after (inner (g o) (g c)) (g o)) (param_by g) (param_moved o c o) f.params)
      (both (result_sites before f.result) (block_sites before f.body) (result_moved f.result) (block_moved f.body))))

  func_moved : (f : FuncTree) → func_sites after (func_by g f) ≡ map by (func_sites before f)
  unfolding func_sites
  func_moved f =
      (λ i. parts after (open_by g f.body i) (close_by g f.body i) (role_moved f.receiver f.name i) (func_by g f))
      ∙ parts_moved (open_of f.body) (close_of f.body) (func_role f.receiver (old f.name)) f

  pub import_moved : (i : ImportTree) → import_sites after (import_by g i) ≡ map by (import_sites before i)
  unfolding import_sites
  import_moved i = by_name i.name
    where
      by_name : (o : Option ℕ) → import_name after (option_map g o) ++ (site after (g i.path) (NotLexical (import_purpose (option_map g o))) ∷ []) ≡
          map by (import_name before o ++ (site before i.path (NotLexical (import_purpose o)) ∷ []))
      by_name None = one i.path (NotLexical purpose.UnnamedImport)
      by_name (Some n) =
          first n (Declaring (blocks.File rank) 0) (site before i.path (NotLexical purpose.ImportPath) ∷ []) (one i.path (NotLexical purpose.ImportPath))

  pub imports_moved : (i : ImportsTree) → imports_sites after (imports_by g i) ≡ map by (imports_sites before i)
  unfolding imports_sites
  imports_moved i = spec_moved (import_sites before) (import_sites after) (import_by g) import_moved i.imports

  pub decl_moved : (d : DeclTree) → decl_sites after (decl_by g d) ≡ map by (decl_sites before d)
  unfolding decl_sites
  decl_moved (VarDecl k v s) = spec_moved (global_sites before) (global_sites after) (global_by g) global_moved v
  decl_moved (TypeDecl k v s) = spec_moved (type_spec_sites before) (type_spec_sites after) (type_spec_by g) type_spec_moved v
  decl_moved (FuncDecl k f s) = func_moved f

  pub file_moved' : (f : FileTree) → file_sites after (renumbered g f) ≡ map by (file_sites before f)
  unfolding file_sites
  file_moved' f =
      first f.name (NotLexical purpose.PackageClause) (flat_map (imports_sites before) f.imports ++ flat_map (decl_sites before) f.decls)
      (both (flat_map (imports_sites before) f.imports) (flat_map (decl_sites before) f.decls)
      (all_moved (imports_sites before) (imports_sites after) (imports_by g) imports_moved f.imports)
      (all_moved (decl_sites before) (decl_sites after) (decl_by g) decl_moved f.decls))

pub file_moved : (move : ℕ → ℕ → ℕ) (rank : ℕ) (old new : ℕ → List ℕ) (f : FileTree) → ((n : ℕ) → new (move rank n) ≡ old n) →
    file_sites (record { rank = rank; spell = new }) (renumbered (move rank) f) ≡
    map (moved_site move) (file_sites (record { rank = rank; spell = old }) f)
file_moved move rank old new f same = file_moved' move rank old new same f
