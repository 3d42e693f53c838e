-- What the trees of a file tell of its declaring identifiers: each is a name, and one of the package's block declares a variable, a
-- type or a function of the file.
use Rattle.std.proofs.Common.{ℕ, ◌≡◌, inl, inr, Bool, true, false, List, [], ◌∷◌, ◌++◌, Option, Some, None, if◌then◌else◌, refl}
use Rattle.std.specs.Prelude.{bytes_eq, codes}
use Rattle.std.specs.List.{AllByRecursion, flat_map}
use Rattle.std.proofs.lemmas.Bool.{true≢false}
use Rattle.base_lemmas.proofs.EachElement.{all_append, all_front, all_back}
use Rattle.go_ast.specs.declared.syntax.Kind.{Kind}
use Rattle.go_ast.specs.declared.syntax.Kind.TheVariants as kind
use Rattle.go_ast.specs.declared.syntax.Token.{Token}
use Rattle.go_ast.specs.Flatten.{sign, sign_if, tokens_if, all_tokens, item_tokens, list_tokens, group_tokens, name_tokens, ident_tokens, type_tokens}
use Rattle.go_ast.specs.Flatten.{expr_tokens, exprs_tokens, simple_tokens, value_tokens, local_tokens, init_tokens, for_tokens, statement_tokens}
use Rattle.go_ast.specs.Flatten.{block_tokens, statements_tokens, if_tokens, else_tokens, global_tokens, method_tokens, body_tokens, type_spec_tokens}
use Rattle.go_ast.specs.Flatten.{receiver_tokens, param_tokens, result_tokens, func_tokens, decl_tokens}
use Rattle.go_ast.specs.Tree.{Item, Group, single, several, IdentTree, Named, Underscore, ExprTree, SimpleTree, LocalTree, InitTree, ForTree}
use Rattle.go_ast.specs.Tree.{StatementTree, BlockTree, StatementTrees, IfTree, ElseTree, GlobalTree, FieldTree, MethodTree, BodyTree, Other, Struct}
use Rattle.go_ast.specs.Tree.{Interface, TypeSpecTree, ReceiverTree, ParamTree, ResultTree, no_result, one_result, results, FuncTree, DeclTree, VarDecl}
use Rattle.go_ast.specs.Tree.{TypeDecl, FuncDecl}
use Rattle.go_ast.specs.Tree as tree
use Rattle.go_scope.specs.declared.model.Block.TheVariants.{Universe, File, Inner}
use Rattle.go_scope.specs.declared.model.Block.TheVariants.{Package as PackageBlock}
use Rattle.go_scope.specs.declared.model.Purpose.TheVariants as purpose
use Rattle.go_scope.specs.declared.model.Role.{Role}
use Rattle.go_scope.specs.declared.model.Role.TheVariants.{Use, Declaring, LeftName, Implied, NotLexical}
use Rattle.go_scope.specs.Bindings.{may_declare}
use Rattle.go_scope.specs.Site.{Site, TokenSpellings, site}
use Rattle.go_scope.specs.ExpressionSites.{sites_if, list_sites, type_sites, expr_sites, exprs_sites}
use Rattle.go_scope.specs.StatementSites.{ident_sites, left_sites, assigned_sites, simple_sites, value_sites, local_sites, separated_sites, group_sites}
use Rattle.go_scope.specs.StatementSites.{init_sites, for_sites, open_of, close_of, statement_sites, block_sites, statements_sites, if_sites, else_sites}
use Rattle.go_scope.specs.FileSites.{global_name, member_name, spec_sites, global_sites, field_sites, body_sites, type_spec_sites, receiver_sites}
use Rattle.go_scope.specs.FileSites.{param_sites, result_sites, method_sites, func_block, func_role, func_sites, decl_sites}
use Rattle.go_scope.proofs.PlainSites.{plain_append, plain_list, plain_if, plain_type, plain_expr, plain_exprs, plain_assigned}
use Rattle.go_scope.proofs.Regions.{Each}
use Rattle.types_declared.specs.Files.{group_items}
use Rattle.types_info.proofs.DeclKinds.{Holds}

-- The facts of an identifier at a token of a file, by its role. K: the token is of this kind. G: it is the name of a package-level
-- declaration. F: the file's block may declare.
abbrev pub Told : (K : Kind → ℕ → Type 0) → (G : ℕ → Type 0) → (F : Type 0) → ℕ → Role → Type 0
Told K G F i (Declaring PackageBlock start) = K kind.Name i × G i
Told K G F i (Declaring (Inner file from to) start) = K kind.Name i
Told K G F i (Declaring (File file) start) = K kind.Name i × F
Told K G F i (Declaring Universe start) = ⊥
Told K G F i (LeftName (Inner file from to) start) = K kind.Name i
Told K G F i (LeftName PackageBlock start) = ⊥
Told K G F i (LeftName (File file) start) = ⊥
Told K G F i (LeftName Universe start) = ⊥
Told K G F i (Implied block start) = ⊥
Told K G F i Use = Unit {0}
Told K G F i (NotLexical p) = Unit {0}

-- the token is the name of what the declaration declares in the package's block
abbrev pub IsNameIn : DeclTree → ℕ → Type 0
IsNameIn (VarDecl k g s) i = (x : GlobalTree) × (Holds (group_items g) x × ((n : Item ℕ) × (Holds x.names n × (n.value ≡ i))))
IsNameIn (TypeDecl k g s) i = (x : TypeSpecTree) × (Holds (group_items g) x × (x.name ≡ i))
IsNameIn (FuncDecl k f s) i = f.name ≡ i

-- parts of lists

abbrev pub AllOf : (Kind → ℕ → Type 0) → List Token → Type 0
AllOf K ts = AllByRecursion (λ (t : Token). K t.kind t.place) ts

module _ (K : Kind → ℕ → Type 0) where
  pub front : (xs ys : List Token) → AllOf K (xs ++ ys) → AllOf K xs
  front xs ys h = all_front (λ (t : Token). K t.kind t.place) xs ys h

  pub back : (xs ys : List Token) → AllOf K (xs ++ ys) → AllOf K ys
  back xs ys h = all_back (λ (t : Token). K t.kind t.place) xs ys h

  module _ (G : ℕ → Type 0) (F : Type 0) (s : TokenSpellings) where
    abbrev P : Site → Type 0
    P x = Told K G F x.place.index x.role

    plain_role : (i : ℕ) (r : Role) → may_declare r ≡ false → Told K G F i r
    plain_role i Use e = tt
    plain_role i (NotLexical p) e = tt
    plain_role i (Declaring b start) e = absurd (true≢false e)
    plain_role i (LeftName b start) e = absurd (true≢false e)
    plain_role i (Implied b start) e = absurd (true≢false e)

    plain : (xs : List Site) → Each (λ x. may_declare x.role ≡ false) xs → AllByRecursion P xs
    plain [] h = tt
    plain (x ∷ xs) h = (plain_role x.place.index x.role h.0, plain xs h.1)

    -- statements

    left_told : (a c q : ℕ) (e : ExprTree) → AllOf K (expr_tokens e) → AllByRecursion P (left_sites s (Inner s.rank a c) q e)
    unfolding expr_tokens
    left_told a c q (tree.Name p) h = (h.0, tt)
    left_told a c q (tree.Blank p) h = (tt, tt)
    left_told a c q (tree.Number p) h = plain _ (plain_expr s (tree.Number p))
    left_told a c q (tree.Text p) h = plain _ (plain_expr s (tree.Text p))
    left_told a c q (tree.Composite l) h = plain _ (plain_expr s (tree.Composite l))
    left_told a c q (tree.Paren o e i) h = plain _ (plain_expr s (tree.Paren o e i))
    left_told a c q (tree.Prefix o p e) h = plain _ (plain_expr s (tree.Prefix o p e))
    left_told a c q (tree.Address p l) h = plain _ (plain_expr s (tree.Address p l))
    left_told a c q (tree.Chain e ks) h = plain _ (plain_expr s (tree.Chain e ks))
    left_told a c q (tree.Binary e os) h = plain _ (plain_expr s (tree.Binary e os))

    lefts_told : (a c q : ℕ) (is : List (Item ExprTree)) → AllOf K (exprs_tokens is) → AllByRecursion P (list_sites (left_sites s (Inner s.rank a c) q) is)
    unfolding all_tokens
    lefts_told a c q [] h = tt
    lefts_told a c q (i ∷ is) h =
        let own = item_tokens kind.Comma expr_tokens i in
        all_append P (left_sites s (Inner s.rank a c) q i.value) (list_sites (left_sites s (Inner s.rank a c) q) is)
        (left_told a c q i.value (front (expr_tokens i.value) (sign_if kind.Comma i.separator) (front own (exprs_tokens is) h)))
        (lefts_told a c q is (back own (exprs_tokens is) h))

    simple_told : (a c q : ℕ) (x : SimpleTree) → AllOf K (simple_tokens x) → AllByRecursion P (simple_sites s (Inner s.rank a c) q x)
    unfolding simple_sites simple_tokens
    simple_told a c q (tree.Alone e) h = plain (expr_sites s e) (plain_expr s e)
    simple_told a c q (tree.Step e o p) h = plain (expr_sites s e) (plain_expr s e)
    simple_told a c q (tree.Update x o p y) h =
        plain (expr_sites s x ++ expr_sites s y) (plain_append (expr_sites s x) (expr_sites s y) (plain_expr s x) (plain_expr s y))
    simple_told a c q (tree.Assign xs p ys) h =
        plain (list_sites (assigned_sites s) xs ++ exprs_sites s ys)
        (plain_append (list_sites (assigned_sites s) xs) (exprs_sites s ys) (plain_list (assigned_sites s) (plain_assigned s) xs) (plain_exprs s ys))
    simple_told a c q (tree.Define xs p ys) h =
        all_append P (list_sites (left_sites s (Inner s.rank a c) q) xs) (exprs_sites s ys)
        (lefts_told a c q xs (front (exprs_tokens xs) (sign kind.Define p ∷ exprs_tokens ys) h)) (plain (exprs_sites s ys) (plain_exprs s ys))

    ident_told : (a c q : ℕ) (y : IdentTree) → AllOf K (ident_tokens y) → AllByRecursion P (ident_sites s (Declaring (Inner s.rank a c) q) y)
    ident_told a c q (Named p) h = (h.0, tt)
    ident_told a c q (Underscore p) h = (tt, tt)

    idents_told : (a c q : ℕ) (xs : List (Item IdentTree)) → AllOf K (list_tokens kind.Comma ident_tokens xs) →
        AllByRecursion P (list_sites (ident_sites s (Declaring (Inner s.rank a c) q)) xs)
    unfolding all_tokens
    idents_told a c q [] h = tt
    idents_told a c q (x ∷ xs) h =
        let own = item_tokens kind.Comma ident_tokens x in
        let rest = list_tokens kind.Comma ident_tokens xs in
        let sites = ident_sites s (Declaring (Inner s.rank a c) q) in
        all_append P (sites x.value) (list_sites sites xs)
        (ident_told a c q x.value (front (ident_tokens x.value) (sign_if kind.Comma x.separator) (front own rest h))) (idents_told a c q xs (back own rest h))

    local_told : (a c q : ℕ) (l : LocalTree) → AllOf K (local_tokens l) → AllByRecursion P (local_sites s (Inner s.rank a c) q l)
    unfolding local_sites local_tokens
    local_told a c q l h =
        let names = list_sites (ident_sites s (Declaring (Inner s.rank a c) q)) l.names in
        let types = sites_if (type_sites s) l.type_use in
        let values = sites_if (value_sites s) l.values in
        let rest = tokens_if type_tokens l.type_use ++ tokens_if (value_tokens expr_tokens) l.values in
        all_append P names (types ++ values) (idents_told a c q l.names (front (list_tokens kind.Comma ident_tokens l.names) rest h))
        (plain (types ++ values)
        (plain_append types values (plain_if (type_sites s) (plain_type s) l.type_use) (plain_if (value_sites s) (λ z. plain_exprs s z.1) l.values)))

    items_told : (a c close : ℕ) (is : List (Item LocalTree)) → AllOf K (list_tokens kind.Semicolon local_tokens is) →
        AllByRecursion P (separated_sites (local_sites s (Inner s.rank a c)) close is)
    unfolding all_tokens separated_sites
    items_told a c close [] h = tt
    items_told a c close (i ∷ is) h =
        let own = item_tokens kind.Semicolon local_tokens i in
        let rest = list_tokens kind.Semicolon local_tokens is in
        all_append P _ (separated_sites (local_sites s (Inner s.rank a c)) close is)
        (local_told a c _ i.value (front (local_tokens i.value) (sign_if kind.Semicolon i.separator) (front own rest h)))
        (items_told a c close is (back own rest h))

    group_told : (a c q : ℕ) (g : Group LocalTree) → AllOf K (group_tokens local_tokens g) →
        AllByRecursion P (group_sites (local_sites s (Inner s.rank a c)) q g)
    unfolding group_tokens group_sites
    group_told a c q (single x) h = local_told a c q x h
    group_told a c q (several o is i) h = items_told a c i is (front (list_tokens kind.Semicolon local_tokens is) (sign kind.RightParen i ∷ []) h.1)

    optional_told : (a c q : ℕ) (x : Option SimpleTree) → AllOf K (tokens_if simple_tokens x) →
        AllByRecursion P (sites_if (simple_sites s (Inner s.rank a c) q) x)
    optional_told a c q None h = tt
    optional_told a c q (Some x) h = simple_told a c q x h

    init_told : (a c : ℕ) (x : Option InitTree) → AllOf K (tokens_if init_tokens x) → AllByRecursion P (sites_if (init_sites s (Inner s.rank a c)) x)
    unfolding init_sites init_tokens
    init_told a c None h = tt
    init_told a c (Some i) h =
        optional_told a c i.semicolon i.simple (front (tokens_if simple_tokens i.simple) (sign kind.Semicolon i.semicolon ∷ []) h)

    header_told : (a c o : ℕ) (x : ForTree) → AllOf K (for_tokens x) → AllByRecursion P (for_sites s (Inner s.rank a c) o x)
    unfolding for_sites for_tokens
    header_told a c o tree.forever h = tt
    header_told a c o (tree.while e) h = plain (expr_sites s e) (plain_expr s e)
    header_told a c o (tree.clauses init p condition q post) h =
        let b = Inner s.rank a c in
        let second = sites_if (expr_sites s) condition in
        let third = sites_if (simple_sites s b o) post in
        let first_tokens = tokens_if simple_tokens init in
        let test_tokens = tokens_if expr_tokens condition in
        let post_tokens = tokens_if simple_tokens post in
        let rest = back first_tokens (sign kind.Semicolon p ∷ (test_tokens ++ (sign kind.Semicolon q ∷ post_tokens))) h in
        all_append P (sites_if (simple_sites s b p) init) (second ++ third)
        (optional_told a c p init (front first_tokens (sign kind.Semicolon p ∷ (test_tokens ++ (sign kind.Semicolon q ∷ post_tokens))) h))
        (all_append P second third (plain second (plain_if (expr_sites s) (plain_expr s) condition))
        (optional_told a c o post (back test_tokens (sign kind.Semicolon q ∷ post_tokens) rest.1).1))

    mutual
      unfolding statement_sites statement_tokens

      statement_told : (a c q : ℕ) (x : StatementTree) → AllOf K (statement_tokens x) → AllByRecursion P (statement_sites s (Inner s.rank a c) q x)
      statement_told a c q tree.Empty h = tt
      statement_told a c q (tree.Var p g) h = group_told a c q g h.1
      statement_told a c q (tree.Simple x) h = simple_told a c q x h
      statement_told a c q (tree.Inner x) h = block_told x h
      statement_told a c q (tree.If x) h = if_told q x h
      statement_told a c q (tree.For p f x) h =
          all_append P (for_sites s (Inner s.rank p q) (open_of x) f) (block_sites s x)
          (header_told p q (open_of x) f (front (for_tokens f) (block_tokens x) h.1)) (block_told x (back (for_tokens f) (block_tokens x) h.1))
      statement_told a c q (tree.Break p) h = tt
      statement_told a c q (tree.Continue p) h = tt
      statement_told a c q (tree.Return p es) h = plain (exprs_sites s es) (plain_exprs s es)

      block_told : (x : BlockTree) → AllOf K (block_tokens x) → AllByRecursion P (block_sites s x)
      block_told (tree.block o ss c) h = statements_told o c c ss (front (statements_tokens ss) (sign kind.RightBrace c ∷ []) h.1)

      statements_told : (a c close : ℕ) (x : StatementTrees) → AllOf K (statements_tokens x) → AllByRecursion P (statements_sites s (Inner s.rank a c) close x)
      statements_told a c close tree.no_statement h = tt
      statements_told a c close (tree.statement x p rest) h =
          let more = sign_if kind.Semicolon p ++ statements_tokens rest in
          all_append P _ (statements_sites s (Inner s.rank a c) close rest) (statement_told a c _ x (front (statement_tokens x) more h))
          (statements_told a c close rest (back (sign_if kind.Semicolon p) (statements_tokens rest) (back (statement_tokens x) more h)))

      if_told : (q : ℕ) (x : IfTree) → AllOf K (if_tokens x) → AllByRecursion P (if_sites s q x)
      if_told q (tree.if_tree p init e x otherwise) h =
          let s2 = expr_sites s e in
          let s3 = block_sites s x in
          let s4 = else_sites s q otherwise in
          let t3 = block_tokens x ++ else_tokens otherwise in
          let t2 = expr_tokens e ++ t3 in
          let rest = back (expr_tokens e) t3 (back (tokens_if init_tokens init) t2 h.1) in
          all_append P (sites_if (init_sites s (Inner s.rank p q)) init) (s2 ++ (s3 ++ s4)) (init_told p q init (front (tokens_if init_tokens init) t2 h.1))
          (all_append P s2 (s3 ++ s4) (plain s2 (plain_expr s e))
          (all_append P s3 s4 (block_told x (front (block_tokens x) (else_tokens otherwise) rest))
          (else_told q otherwise (back (block_tokens x) (else_tokens otherwise) rest))))

      else_told : (q : ℕ) (x : ElseTree) → AllOf K (else_tokens x) → AllByRecursion P (else_sites s q x)
      else_told q tree.no_else h = tt
      else_told q (tree.else_if p i) h = if_told q i h.1
      else_told q (tree.else_block p b) h = block_told b h.1

    -- functions

    receiver_told : (a c q : ℕ) (o : Option ReceiverTree) → AllOf K (tokens_if receiver_tokens o) →
        AllByRecursion P (sites_if (receiver_sites s (Inner s.rank a c) q) o)
    unfolding receiver_sites receiver_tokens
    receiver_told a c q None h = tt
    receiver_told a c q (Some r) h =
        let rest = sign_if kind.Star r.star ++ (sign kind.Name r.type_name ∷ (sign_if kind.Comma r.comma ++ (sign kind.RightParen r.rparen ∷ []))) in
        all_append P (ident_sites s (Declaring (Inner s.rank a c) q) r.name) (site s r.type_name Use ∷ [])
        (ident_told a c q r.name (front (ident_tokens r.name) rest h.1)) (tt, tt)

    params_told : (a c q : ℕ) (is : List (Item ParamTree)) → AllOf K (list_tokens kind.Comma param_tokens is) →
        AllByRecursion P (list_sites (param_sites s (Inner s.rank a c) q) is)
    unfolding all_tokens param_sites param_tokens
    params_told a c q [] h = tt
    params_told a c q (i ∷ is) h =
        let own = item_tokens kind.Comma param_tokens i in
        let rest = list_tokens kind.Comma param_tokens is in
        let names = list_sites (ident_sites s (Declaring (Inner s.rank a c) q)) i.value.names in
        let typing = type_sites s i.value.type_use in
        let tokens = front (param_tokens i.value) (sign_if kind.Comma i.separator) (front own rest h) in
        all_append P (names ++ typing) (list_sites (param_sites s (Inner s.rank a c) q) is)
        (all_append P names typing
        (idents_told a c q i.value.names (front (list_tokens kind.Comma ident_tokens i.value.names) (type_tokens i.value.type_use) tokens))
        (plain typing (plain_type s i.value.type_use))) (params_told a c q is (back own rest h))

    plain_result : (r : ResultTree) → Each (λ x. may_declare x.role ≡ false) (result_sites s r)
    unfolding result_sites
    plain_result no_result = tt
    plain_result (one_result t) = plain_type s t
    plain_result (results o ts c) = plain_list (type_sites s) (plain_type s) ts

    named_told : (b : Bool) (i : ℕ) → K kind.Name i → G i → Told K G F i (if b then NotLexical purpose.InitFunction else Declaring PackageBlock 0)
    named_told true i k g = tt
    named_told false i k g = (k, g)

    function_name_told : (o : Option ReceiverTree) (name : List ℕ) (i : ℕ) → K kind.Name i → G i → Told K G F i (func_role o name)
    function_name_told (Some r) name i k g = tt
    function_name_told None name i k g = named_told (bytes_eq name (codes "init")) i k g

    function_told : (f : FuncTree) → G f.name → AllOf K (func_tokens f) → AllByRecursion P (func_sites s f)
    unfolding func_sites func_tokens
    function_told f g h =
        let o = open_of f.body in
        let c = close_of f.body in
        let params = list_tokens kind.Comma param_tokens f.params in
        let tail = sign kind.RightParen f.rparen ∷ (result_tokens f.result ++ block_tokens f.body) in
        let named = sign kind.Name f.name ∷ (sign kind.LeftParen f.lparen ∷ (params ++ tail)) in
        let s2 = list_sites (param_sites s (func_block s f) o) f.params in
        let s3 = result_sites s f.result in
        let s4 = block_sites s f.body in
        let rest = back (tokens_if receiver_tokens f.receiver) named h in
        let more = back params tail rest.1.1 in
        all_append P (sites_if (receiver_sites s (func_block s f) o) f.receiver) (site s f.name (func_role f.receiver (s.spell f.name)) ∷ (s2 ++ (s3 ++ s4)))
        (receiver_told o c o f.receiver (front (tokens_if receiver_tokens f.receiver) named h)) (
          function_name_told f.receiver (s.spell f.name) f.name rest.0 g,
          all_append P s2 (s3 ++ s4) (params_told o c o f.params (front params tail rest.1.1))
              (all_append P s3 s4 (plain s3 (plain_result f.result)) (block_told f.body (back (result_tokens f.result) (block_tokens f.body) more.1))),
        )

    -- declarations

    names_told : (ns : List (Item ℕ)) → ((n : Item ℕ) → Holds ns n → G n.value) → AllOf K (list_tokens kind.Comma name_tokens ns) →
        AllByRecursion P (list_sites (global_name s) ns)
    unfolding all_tokens
    names_told [] g h = tt
    names_told (n ∷ ns) g h =
        let own = item_tokens kind.Comma name_tokens n in
        let rest = list_tokens kind.Comma name_tokens ns in
        ((h.0, g n (inl refl)), names_told ns (λ m i. g m (inr i)) (back own rest h))

    global_told : (x : GlobalTree) → ((n : Item ℕ) → Holds x.names n → G n.value) → AllOf K (global_tokens x) → AllByRecursion P (global_sites s x)
    unfolding global_sites global_tokens
    global_told x g h =
        all_append P (list_sites (global_name s) x.names) (type_sites s x.type_use)
        (names_told x.names g (front (list_tokens kind.Comma name_tokens x.names) _ h))
        (plain (type_sites s x.type_use) (plain_type s x.type_use))

    plain_field : (f : FieldTree) → Each (λ x. may_declare x.role ≡ false) (field_sites s f)
    unfolding field_sites
    plain_field f =
        plain_append (list_sites (member_name s) f.names) (type_sites s f.type_use) (plain_list (member_name s) (λ n. (refl, tt)) f.names)
        (plain_type s f.type_use)

    method_told : (m : MethodTree) → AllOf K (method_tokens m) → AllByRecursion P (method_sites s m)
    unfolding method_sites method_tokens
    method_told m h =
        let params = list_tokens kind.Comma param_tokens m.params in
        let tail = sign kind.RightParen m.rparen ∷ result_tokens m.result in
        let s2 = list_sites (param_sites s (Inner s.rank m.lparen m.rparen) m.rparen) m.params in
        let s3 = result_sites s m.result in
        (tt, all_append P s2 s3 (params_told m.lparen m.rparen m.rparen m.params (front params tail h.1.1)) (plain s3 (plain_result m.result)))

    methods_told : (ms : List (Item MethodTree)) → AllOf K (list_tokens kind.Semicolon method_tokens ms) → AllByRecursion P (list_sites (method_sites s) ms)
    unfolding all_tokens
    methods_told [] h = tt
    methods_told (m ∷ ms) h =
        let own = item_tokens kind.Semicolon method_tokens m in
        let rest = list_tokens kind.Semicolon method_tokens ms in
        all_append P (method_sites s m.value) (list_sites (method_sites s) ms)
        (method_told m.value (front (method_tokens m.value) (sign_if kind.Semicolon m.separator) (front own rest h))) (methods_told ms (back own rest h))

    body_told : (b : BodyTree) → AllOf K (body_tokens b) → AllByRecursion P (body_sites s b)
    unfolding body_sites body_tokens
    body_told (Other t) h = plain (type_sites s t) (plain_type s t)
    body_told (Struct p o fs c) h = plain (list_sites (field_sites s) fs) (plain_list (field_sites s) plain_field fs)
    body_told (Interface p o ms c) h = methods_told ms (front (list_tokens kind.Semicolon method_tokens ms) (sign kind.RightBrace c ∷ []) h.1.1)

    spec_told : (x : TypeSpecTree) → G x.name → AllOf K (type_spec_tokens x) → AllByRecursion P (type_spec_sites s x)
    unfolding type_spec_sites type_spec_tokens
    spec_told x g h = ((h.0, g), body_told x.body h.1)

    -- a group of declarations
    members_told : {X : Type 0} (f : X → List Site) (t : X → List Token) (xs : List (Item X)) →
        ((x : X) → Holds (group_items (several 0 xs 0)) x → AllOf K (t x) → AllByRecursion P (f x)) → AllOf K (list_tokens kind.Semicolon t xs) →
        AllByRecursion P (flat_map (λ (x : Item X). f x.value) xs)
    unfolding all_tokens
    members_told f t [] each h = tt
    members_told f t (x ∷ xs) each h =
        let own = item_tokens kind.Semicolon t x in
        let rest = list_tokens kind.Semicolon t xs in
        all_append P (f x.value) _ (each x.value (inl refl) (front (t x.value) (sign_if kind.Semicolon x.separator) (front own rest h)))
        (members_told f t xs (λ y i. each y (inr i)) (back own rest h))

    specs_told : {X : Type 0} (f : X → List Site) (t : X → List Token) (g : Group X) →
        ((x : X) → Holds (group_items g) x → AllOf K (t x) → AllByRecursion P (f x)) →
        AllOf K (group_tokens t g) → AllByRecursion P (spec_sites f g)
    unfolding group_sites separated_sites group_tokens
    specs_told f t (single x) each h = each x (inl refl) h
    specs_told f t (several o xs c) each h = members_told f t xs each (front (list_tokens kind.Semicolon t xs) (sign kind.RightParen c ∷ []) h.1)

    decl_told : (d : DeclTree) → ((i : ℕ) → IsNameIn d i → G i) → AllOf K (decl_tokens d) → AllByRecursion P (decl_sites s d)
    unfolding decl_sites decl_tokens
    decl_told (VarDecl k g c) named h =
        specs_told (global_sites s) global_tokens g (λ x i. global_told x (λ n j. named n.value (x, (i, (n, (j, refl))))))
        (front (group_tokens global_tokens g) (sign kind.Semicolon c ∷ []) h.1)
    decl_told (TypeDecl k g c) named h =
        specs_told (type_spec_sites s) type_spec_tokens g (λ x i. spec_told x (named x.name (x, (i, refl))))
        (front (group_tokens type_spec_tokens g) (sign kind.Semicolon c ∷ []) h.1)
    decl_told (FuncDecl k f c) named h = function_told f (named f.name refl) (front (func_tokens f) (sign kind.Semicolon c ∷ []) h.1)

    pub decls_told : (ds : List DeclTree) → ((d : DeclTree) → Holds ds d → (i : ℕ) → IsNameIn d i → G i) → AllOf K (all_tokens decl_tokens ds) →
        AllByRecursion P (flat_map (decl_sites s) ds)
    unfolding all_tokens
    decls_told [] named h = tt
    decls_told (d ∷ ds) named h =
        all_append P (decl_sites s d) (flat_map (decl_sites s) ds) (decl_told d (named d (inl refl)) (front (decl_tokens d) (all_tokens decl_tokens ds) h))
        (decls_told ds (λ e i. named e (inr i)) (back (decl_tokens d) (all_tokens decl_tokens ds) h))
