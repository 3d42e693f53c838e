-- The scope of a local begins behind the name that declares it, in its own file.
use Rattle.std.proofs.Common.{ℕ, suc, ◌≡◌, ◌<◌, ◌≤◌, true, false, List, [], ◌∷◌, ◌++◌, Option, Some, None, sym, ◌∙◌, arith}
use Rattle.std.specs.List.{AllByRecursion, flat_map}
use Rattle.std.specs.Option.{unwrap_or}
use Rattle.std.proofs.lemmas.Bool.{true≢false}
use Rattle.base_lemmas.proofs.EachElement.{all_append}
use Rattle.go_ast.specs.declared.syntax.Kind.TheVariants as kind
use Rattle.go_ast.specs.declared.syntax.Token.{Token}
use Rattle.go_ast.specs.Flatten.{sign, sign_if, tokens_if, all_tokens, item_tokens, list_tokens, group_tokens, ident_tokens, type_tokens, expr_tokens}
use Rattle.go_ast.specs.Flatten.{exprs_tokens, simple_tokens, value_tokens, local_tokens, init_tokens, for_tokens, statement_tokens, block_tokens}
use Rattle.go_ast.specs.Flatten.{statements_tokens, if_tokens, else_tokens, receiver_tokens, param_tokens, result_tokens, func_tokens, imports_tokens}
use Rattle.go_ast.specs.Flatten.{method_tokens, body_tokens, type_spec_tokens, decl_tokens, flatten}
use Rattle.go_ast.specs.Tree.{Item, Group, single, several, IdentTree, Named, Underscore, ExprTree, SimpleTree, LocalTree, InitTree, ForTree}
use Rattle.go_ast.specs.Tree.{StatementTree, BlockTree, StatementTrees, IfTree, ElseTree, MethodTree, BodyTree, TypeSpecTree, ReceiverTree, ParamTree}
use Rattle.go_ast.specs.Tree.{FuncTree, DeclTree, FileTree}
use Rattle.go_ast.specs.Tree as tree
use Rattle.go_scope.specs.declared.model.Block.TheVariants.{Inner}
use Rattle.go_scope.specs.declared.model.Role.TheVariants.{Use, Declaring}
use Rattle.go_scope.specs.Bindings.{block_of, start_of, may_declare}
use Rattle.go_scope.specs.Site.{Site, TokenSpellings, site}
use Rattle.go_scope.specs.ExpressionSites.{sites_if, list_sites, type_sites, expr_sites, exprs_sites}
use Rattle.go_scope.specs.StatementSites.{ident_sites, left_sites, assigned_sites, simple_sites, value_sites, local_sites, separated_sites, group_sites}
use Rattle.go_scope.specs.StatementSites.{init_sites, for_sites, open_of, close_of, statement_sites, block_sites, statements_sites, if_sites, else_sites}
use Rattle.go_scope.specs.FileSites.{receiver_sites, param_sites, result_sites, func_block, func_role, func_sites, global_sites, type_spec_sites}
use Rattle.go_scope.specs.FileSites.{spec_sites, field_sites, method_sites, body_sites, imports_sites, decl_sites, file_sites}
use Rattle.go_scope.proofs.PlainSites.{plain_append, plain_list, plain_if, plain_type, plain_expr, plain_exprs, plain_assigned}
use Rattle.go_scope.proofs.Regions.{Each, inner_file}
use Rattle.law_faultless.specs.ResolvedNames.{may_be_local}
use Rattle.law_faultless.proofs.NumberedTokens.{Strung, strung_split, strung_le}
use Rattle.law_faultless.proofs.KnownLocals.{local_may}
use Rattle.law_faultless.proofs.Leaves.{below_more, left_stands, list_stands}
use Rattle.law_faultless.proofs.Simples.{idents_stand}
use Rattle.law_faultless.proofs.Typed.{type_abroad, group_abroad, global_abroad, fields_abroad, result_abroad, func_abroad, imports_abroad}

-- its scope begins behind it, and its block is one of the file of that rank
abbrev pub Begins : ℕ → Site → Type 0
Begins rank y =
    may_be_local y.role ≡ true → (y.place.index < start_of y.role) × ((f a c : ℕ) → block_of y.role ≡ Inner f a c → f ≡ rank)

-- its scope begins at that token or behind
abbrev Later : ℕ → ℕ → Site → Type 0
Later rank q y = may_be_local y.role ≡ true → (q ≤ start_of y.role) × ((f a c : ℕ) → block_of y.role ≡ Inner f a c → f ≡ rank)

from_bounds : (rank q : ℕ) (xs : List Site) → AllByRecursion (λ x. x.place.index < q) xs → AllByRecursion (Later rank q) xs → AllByRecursion (Begins rank) xs
from_bounds rank q [] a b = tt
from_bounds rank q (x ∷ xs) a b = (
  (λ e. let r = b.0 e in
      let lt : x.place.index < q = a.0 in
      let le : q ≤ start_of x.role = r.0 in (omega arith, r.1)),
  from_bounds rank q xs a.1 b.1,
)

plain_begins : (rank : ℕ) (xs : List Site) → Each (λ x. may_declare x.role ≡ false) xs → AllByRecursion (Begins rank) xs
plain_begins rank [] h = tt
plain_begins rank (x ∷ xs) h = ((λ e. absurd (true≢false (sym (local_may x.role e) ∙ h.0))), plain_begins rank xs h.1)

plain_later : (rank q : ℕ) (xs : List Site) → Each (λ x. may_declare x.role ≡ false) xs → AllByRecursion (Later rank q) xs
plain_later rank q [] h = tt
plain_later rank q (x ∷ xs) h = ((λ e. absurd (true≢false (sym (local_may x.role e) ∙ h.0))), plain_later rank q xs h.1)

abroad_begins : (rank : ℕ) (xs : List Site) → AllByRecursion (λ x. may_be_local x.role ≡ false) xs → AllByRecursion (Begins rank) xs
abroad_begins rank [] h = tt
abroad_begins rank (x ∷ xs) h = ((λ e. absurd (true≢false (sym e ∙ h.0))), abroad_begins rank xs h.1)

module _ (B : ℕ → Type 0) (s : TokenSpellings) where
  abbrev P : Site → Type 0
  P x = Begins s.rank x

  own_file : (a c f d e : ℕ) → Inner s.rank a c ≡ Inner f d e → f ≡ s.rank
  own_file a c f d e q = sym (inner_file s.rank a c f d e q)

  left_later : (a c q : ℕ) (e : ExprTree) → AllByRecursion (Later s.rank q) (left_sites s (Inner s.rank a c) q e)
  left_later a c q (tree.Name p) = ((λ x. ((let le : q ≤ q = omega arith in le), own_file a c)), tt)
  left_later a c q (tree.Blank p) = ((λ x. absurd (true≢false (sym x))), tt)
  left_later a c q (tree.Number p) = plain_later s.rank q _ (plain_expr s (tree.Number p))
  left_later a c q (tree.Text p) = plain_later s.rank q _ (plain_expr s (tree.Text p))
  left_later a c q (tree.Composite l) = plain_later s.rank q _ (plain_expr s (tree.Composite l))
  left_later a c q (tree.Paren o e i) = plain_later s.rank q _ (plain_expr s (tree.Paren o e i))
  left_later a c q (tree.Prefix o p e) = plain_later s.rank q _ (plain_expr s (tree.Prefix o p e))
  left_later a c q (tree.Address p l) = plain_later s.rank q _ (plain_expr s (tree.Address p l))
  left_later a c q (tree.Chain e ks) = plain_later s.rank q _ (plain_expr s (tree.Chain e ks))
  left_later a c q (tree.Binary e os) = plain_later s.rank q _ (plain_expr s (tree.Binary e os))

  lefts_later : (a c q : ℕ) (is : List (Item ExprTree)) → AllByRecursion (Later s.rank q) (list_sites (left_sites s (Inner s.rank a c) q) is)
  lefts_later a c q [] = tt
  lefts_later a c q (i ∷ is) =
      all_append (Later s.rank q) (left_sites s (Inner s.rank a c) q i.value) (list_sites (left_sites s (Inner s.rank a c) q) is)
      (left_later a c q i.value) (lefts_later a c q is)

  simple_begins : (a c q n m : ℕ) (x : SimpleTree) → Strung B n (simple_tokens x) m → m ≤ q → AllByRecursion P (simple_sites s (Inner s.rank a c) q x)
  unfolding simple_sites simple_tokens
  simple_begins a c q n m (tree.Alone e) t le = plain_begins s.rank (expr_sites s e) (plain_expr s e)
  simple_begins a c q n m (tree.Step e o p) t le = plain_begins s.rank (expr_sites s e) (plain_expr s e)
  simple_begins a c q n m (tree.Update x o p y) t le =
      plain_begins s.rank (expr_sites s x ++ expr_sites s y) (plain_append (expr_sites s x) (expr_sites s y) (plain_expr s x) (plain_expr s y))
  simple_begins a c q n m (tree.Assign xs p ys) t le =
      plain_begins s.rank (list_sites (assigned_sites s) xs ++ exprs_sites s ys)
      (plain_append (list_sites (assigned_sites s) xs) (exprs_sites s ys) (plain_list (assigned_sites s) (plain_assigned s) xs) (plain_exprs s ys))
  simple_begins a c q n m (tree.Define xs p ys) t le =
      let b = Inner s.rank a c in
      let lefts = list_sites (left_sites s b q) xs in
      let r = strung_split B n (exprs_tokens xs) (sign kind.Define p ∷ exprs_tokens ys) m t in
      let end : r.0 ≤ m = strung_le B r.0 (sign kind.Define p ∷ exprs_tokens ys) m r.1.1 in
      all_append P lefts (exprs_sites s ys)
      (from_bounds s.rank q lefts (below_more r.0 q (omega arith) lefts (list_stands B (left_sites s b q) (left_stands B s b q) n r.0 xs r.1.0))
      (lefts_later a c q xs)) (plain_begins s.rank (exprs_sites s ys) (plain_exprs s ys))

  idents_later : (a c q : ℕ) (xs : List (Item IdentTree)) → AllByRecursion (Later s.rank q) (list_sites (ident_sites s (Declaring (Inner s.rank a c) q)) xs)
  idents_later a c q [] = tt
  idents_later a c q (x ∷ xs) =
      all_append (Later s.rank q) (ident_sites s (Declaring (Inner s.rank a c) q) x.value) (list_sites (ident_sites s (Declaring (Inner s.rank a c) q)) xs)
      (one x.value) (idents_later a c q xs)
    where
      one : (y : IdentTree) → AllByRecursion (Later s.rank q) (ident_sites s (Declaring (Inner s.rank a c) q) y)
      one (Named p) = ((λ e. ((let le : q ≤ q = omega arith in le), own_file a c)), tt)
      one (Underscore p) = ((λ e. absurd (true≢false (sym e))), tt)

  idents_begin : (a c q n m : ℕ) (xs : List (Item IdentTree)) → Strung B n (list_tokens kind.Comma ident_tokens xs) m → m ≤ q →
      AllByRecursion P (list_sites (ident_sites s (Declaring (Inner s.rank a c) q)) xs)
  idents_begin a c q n m xs t le =
      let sites = list_sites (ident_sites s (Declaring (Inner s.rank a c) q)) xs in
      from_bounds s.rank q sites (below_more m q le sites (idents_stand B s (Inner s.rank a c) q n m xs t)) (idents_later a c q xs)

  local_begins : (a c q n m : ℕ) (l : LocalTree) → Strung B n (local_tokens l) m → m ≤ q → AllByRecursion P (local_sites s (Inner s.rank a c) q l)
  unfolding local_sites local_tokens
  local_begins a c q n m l t le =
      let names = list_sites (ident_sites s (Declaring (Inner s.rank a c) q)) l.names in
      let types = sites_if (type_sites s) l.type_use in
      let values = sites_if (value_sites s) l.values in
      let rest = tokens_if type_tokens l.type_use ++ tokens_if (value_tokens expr_tokens) l.values in
      let x = strung_split B n (list_tokens kind.Comma ident_tokens l.names) rest m t in
      let end : x.0 ≤ m = strung_le B x.0 rest m x.1.1 in
      all_append P names (types ++ values) (idents_begin a c q n x.0 l.names x.1.0 (omega arith))
      (plain_begins s.rank (types ++ values)
      (plain_append types values (plain_if (type_sites s) (plain_type s) l.type_use) (plain_if (value_sites s) (λ z. plain_exprs s z.1) l.values)))

  separated : (o : Option ℕ) (close k e : ℕ) → Strung B k (sign_if kind.Semicolon o) e → e ≤ close → k ≤ unwrap_or o close
  separated None close k e h le = let same : k ≡ e = h in omega arith
  separated (Some p) close k e h le = let at : p ≡ k = h.0 in omega arith

  items_begin : (a c close n m : ℕ) (is : List (Item LocalTree)) → Strung B n (list_tokens kind.Semicolon local_tokens is) m → m ≤ close →
      AllByRecursion P (separated_sites (local_sites s (Inner s.rank a c)) close is)
  unfolding all_tokens separated_sites
  items_begin a c close n m [] t le = tt
  items_begin a c close n m (i ∷ is) t le =
      let b = Inner s.rank a c in
      let q = unwrap_or i.separator close in
      let x = strung_split B n (item_tokens kind.Semicolon local_tokens i) (list_tokens kind.Semicolon local_tokens is) m t in
      let y = strung_split B n (local_tokens i.value) (sign_if kind.Semicolon i.separator) x.0 x.1.0 in
      let end : x.0 ≤ m = strung_le B x.0 (list_tokens kind.Semicolon local_tokens is) m x.1.1 in
      all_append P (local_sites s b q i.value) (separated_sites (local_sites s b) close is)
      (local_begins a c q n y.0 i.value y.1.0 (separated i.separator close y.0 x.0 y.1.1 (omega arith))) (items_begin a c close x.0 m is x.1.1 le)

  group_begins : (a c q n m : ℕ) (g : Group LocalTree) → Strung B n (group_tokens local_tokens g) m → m ≤ q →
      AllByRecursion P (group_sites (local_sites s (Inner s.rank a c)) q g)
  unfolding group_tokens group_sites
  group_begins a c q n m (single x) t le = local_begins a c q n m x t le
  group_begins a c q n m (several o is i) t le =
      let x = strung_split B (suc n) (list_tokens kind.Semicolon local_tokens is) (sign kind.RightParen i ∷ []) m t.1.1 in
      let at : i ≡ x.0 = x.1.1.0 in items_begin a c i (suc n) x.0 is x.1.0 (omega arith)

  optional_begins : (a c q n m : ℕ) (x : Option SimpleTree) → Strung B n (tokens_if simple_tokens x) m → m ≤ q →
      AllByRecursion P (sites_if (simple_sites s (Inner s.rank a c) q) x)
  optional_begins a c q n m None t le = tt
  optional_begins a c q n m (Some x) t le = simple_begins a c q n m x t le

  init_begins : (a c n m : ℕ) (x : Option InitTree) → Strung B n (tokens_if init_tokens x) m → AllByRecursion P (sites_if (init_sites s (Inner s.rank a c)) x)
  unfolding init_sites init_tokens
  init_begins a c n m None t = tt
  init_begins a c n m (Some i) t =
      let x = strung_split B n (tokens_if simple_tokens i.simple) (sign kind.Semicolon i.semicolon ∷ []) m t in
      let at : i.semicolon ≡ x.0 = x.1.1.0 in optional_begins a c i.semicolon n x.0 i.simple x.1.0 (omega arith)

  header_begins : (a c o n m : ℕ) (x : ForTree) → Strung B n (for_tokens x) m → m ≤ o → AllByRecursion P (for_sites s (Inner s.rank a c) o x)
  unfolding for_sites for_tokens
  header_begins a c o n m tree.forever t le = tt
  header_begins a c o n m (tree.while e) t le = plain_begins s.rank (expr_sites s e) (plain_expr s e)
  header_begins a c o n m (tree.clauses init p condition q post) t le =
      let b = Inner s.rank a c in
      let second = sites_if (expr_sites s) condition in
      let third = sites_if (simple_sites s b o) post in
      let post_tokens = tokens_if simple_tokens post in
      let test_tokens = tokens_if expr_tokens condition in
      let x = strung_split B n (tokens_if simple_tokens init) (sign kind.Semicolon p ∷ (test_tokens ++ (sign kind.Semicolon q ∷ post_tokens))) m t in
      let y = strung_split B (suc x.0) test_tokens (sign kind.Semicolon q ∷ post_tokens) m x.1.1.1.1 in
      let at : p ≡ x.0 = x.1.1.0 in
      all_append P (sites_if (simple_sites s b p) init) (second ++ third) (optional_begins a c p n x.0 init x.1.0 (omega arith))
      (all_append P second third (plain_begins s.rank second (plain_if (expr_sites s) (plain_expr s) condition))
      (optional_begins a c o (suc y.0) m post y.1.1.1.1 le))

  opens : (x : BlockTree) (k m : ℕ) → Strung B k (block_tokens x) m → k ≤ open_of x
  unfolding block_tokens
  opens (tree.block o ss c) k m h = let at : o ≡ k = h.0 in omega arith

  mutual
    unfolding statement_sites statement_tokens

    statement_begins : (a c q n m : ℕ) (x : StatementTree) → Strung B n (statement_tokens x) m → m ≤ q →
        AllByRecursion P (statement_sites s (Inner s.rank a c) q x)
    statement_begins a c q n m tree.Empty t le = tt
    statement_begins a c q n m (tree.Var p g) t le = group_begins a c q (suc n) m g t.1.1 le
    statement_begins a c q n m (tree.Simple x) t le = simple_begins a c q n m x t le
    statement_begins a c q n m (tree.Inner x) t le = block_begins n m x t
    statement_begins a c q n m (tree.If x) t le = if_begins q n m x t
    statement_begins a c q n m (tree.For p h x) t le =
        let y = strung_split B (suc n) (for_tokens h) (block_tokens x) m t.1.1 in
        all_append P (for_sites s (Inner s.rank p q) (open_of x) h) (block_sites s x)
        (header_begins p q (open_of x) (suc n) y.0 h y.1.0 (opens x y.0 m y.1.1)) (block_begins y.0 m x y.1.1)
    statement_begins a c q n m (tree.Break p) t le = tt
    statement_begins a c q n m (tree.Continue p) t le = tt
    statement_begins a c q n m (tree.Return p es) t le = plain_begins s.rank (exprs_sites s es) (plain_exprs s es)

    block_begins : (n m : ℕ) (x : BlockTree) → Strung B n (block_tokens x) m → AllByRecursion P (block_sites s x)
    block_begins n m (tree.block o ss c) t =
        let y = strung_split B (suc n) (statements_tokens ss) (sign kind.RightBrace c ∷ []) m t.1.1 in
        let at : c ≡ y.0 = y.1.1.0 in statements_begin o c c (suc n) y.0 ss y.1.0 (omega arith)

    statements_begin : (a c close n m : ℕ) (x : StatementTrees) → Strung B n (statements_tokens x) m → m ≤ close →
        AllByRecursion P (statements_sites s (Inner s.rank a c) close x)
    statements_begin a c close n m tree.no_statement t le = tt
    statements_begin a c close n m (tree.statement x p rest) t le =
        let b = Inner s.rank a c in
        let q = unwrap_or p close in
        let y = strung_split B n (statement_tokens x) (sign_if kind.Semicolon p ++ statements_tokens rest) m t in
        let z = strung_split B y.0 (sign_if kind.Semicolon p) (statements_tokens rest) m y.1.1 in
        let end : z.0 ≤ m = strung_le B z.0 (statements_tokens rest) m z.1.1 in
        all_append P (statement_sites s b q x) (statements_sites s b close rest)
        (statement_begins a c q n y.0 x y.1.0 (separated p close y.0 z.0 z.1.0 (omega arith))) (statements_begin a c close z.0 m rest z.1.1 le)

    if_begins : (q n m : ℕ) (x : IfTree) → Strung B n (if_tokens x) m → AllByRecursion P (if_sites s q x)
    if_begins q n m (tree.if_tree p init e x otherwise) t =
        let s1 = sites_if (init_sites s (Inner s.rank p q)) init in
        let s2 = expr_sites s e in
        let s3 = block_sites s x in
        let s4 = else_sites s q otherwise in
        let y = strung_split B (suc n) (tokens_if init_tokens init) (expr_tokens e ++ (block_tokens x ++ else_tokens otherwise)) m t.1.1 in
        let z = strung_split B y.0 (expr_tokens e) (block_tokens x ++ else_tokens otherwise) m y.1.1 in
        let v = strung_split B z.0 (block_tokens x) (else_tokens otherwise) m z.1.1 in
        all_append P s1 (s2 ++ (s3 ++ s4)) (init_begins p q (suc n) y.0 init y.1.0)
        (all_append P s2 (s3 ++ s4) (plain_begins s.rank s2 (plain_expr s e))
        (all_append P s3 s4 (block_begins z.0 v.0 x v.1.0) (else_begins q v.0 m otherwise v.1.1)))

    else_begins : (q n m : ℕ) (x : ElseTree) → Strung B n (else_tokens x) m → AllByRecursion P (else_sites s q x)
    else_begins q n m tree.no_else t = tt
    else_begins q n m (tree.else_if p i) t = if_begins q (suc n) m i t.1.1
    else_begins q n m (tree.else_block p b) t = block_begins (suc n) m b t.1.1

  -- functions

  receiver_begins : (a c q n m : ℕ) (o : Option ReceiverTree) → Strung B n (tokens_if receiver_tokens o) m → m ≤ q →
      AllByRecursion P (sites_if (receiver_sites s (Inner s.rank a c) q) o)
  unfolding receiver_sites receiver_tokens
  receiver_begins a c q n m None t le = tt
  receiver_begins a c q n m (Some r) t le =
      let rest = sign_if kind.Star r.star ++ (sign kind.Name r.type_name ∷ (sign_if kind.Comma r.comma ++ (sign kind.RightParen r.rparen ∷ []))) in
      let x = strung_split B (suc n) (ident_tokens r.name) rest m t.1.1 in
      let end : x.0 ≤ m = strung_le B x.0 rest m x.1.1 in
      all_append P (ident_sites s (Declaring (Inner s.rank a c) q) r.name) (site s r.type_name Use ∷ []) (one r.name x.0 x.1.0 (omega arith))
      ((λ e. absurd (true≢false (sym e))), tt)
    where
      one : (y : IdentTree) (k : ℕ) → Strung B (suc n) (ident_tokens y) k → k ≤ q → AllByRecursion P (ident_sites s (Declaring (Inner s.rank a c) q) y)
      one (Named p) k h less = ((λ e. ((let at : p ≡ suc n = h.0 in let end : suc (suc n) ≡ k = h.1.1 in omega arith), own_file a c)), tt)
      one (Underscore p) k h less = ((λ e. absurd (true≢false (sym e))), tt)

  params_begin : (a c q n m : ℕ) (is : List (Item ParamTree)) → Strung B n (list_tokens kind.Comma param_tokens is) m → m ≤ q →
      AllByRecursion P (list_sites (param_sites s (Inner s.rank a c) q) is)
  unfolding all_tokens param_sites param_tokens
  params_begin a c q n m [] t le = tt
  params_begin a c q n m (i ∷ is) t le =
      let names = list_sites (ident_sites s (Declaring (Inner s.rank a c) q)) i.value.names in
      let typing = type_sites s i.value.type_use in
      let x = strung_split B n (item_tokens kind.Comma param_tokens i) (list_tokens kind.Comma param_tokens is) m t in
      let y = strung_split B n (param_tokens i.value) (sign_if kind.Comma i.separator) x.0 x.1.0 in
      let z = strung_split B n (list_tokens kind.Comma ident_tokens i.value.names) (type_tokens i.value.type_use) y.0 y.1.0 in
      let e1 : z.0 ≤ y.0 = strung_le B z.0 (type_tokens i.value.type_use) y.0 z.1.1 in
      let e2 : y.0 ≤ x.0 = strung_le B y.0 (sign_if kind.Comma i.separator) x.0 y.1.1 in
      let e3 : x.0 ≤ m = strung_le B x.0 (list_tokens kind.Comma param_tokens is) m x.1.1 in
      all_append P (names ++ typing) (list_sites (param_sites s (Inner s.rank a c) q) is)
      (all_append P names typing (idents_begin a c q n z.0 i.value.names z.1.0 (omega arith)) (plain_begins s.rank typing (plain_type s i.value.type_use)))
      (params_begin a c q x.0 m is x.1.1 le)

  function_begins : (n m : ℕ) (f : FuncTree) → Strung B n (func_tokens f) m → AllByRecursion P (func_sites s f)
  unfolding func_sites func_tokens
  function_begins n m f t =
      let o = open_of f.body in
      let c = close_of f.body in
      let params = list_tokens kind.Comma param_tokens f.params in
      let tail = sign kind.RightParen f.rparen ∷ (result_tokens f.result ++ block_tokens f.body) in
      let named = sign kind.Name f.name ∷ (sign kind.LeftParen f.lparen ∷ (params ++ tail)) in
      let t1 = strung_split B n (tokens_if receiver_tokens f.receiver) named m t in
      let t2 = strung_split B (suc (suc t1.0)) params tail m t1.1.1.1.1.1.1 in
      let t3 = strung_split B (suc t2.0) (result_tokens f.result) (block_tokens f.body) m t2.1.1.1.1 in
      let e2 : suc (suc t1.0) ≤ t2.0 = strung_le B (suc (suc t1.0)) params t2.0 t2.1.0 in
      let e3 : suc t2.0 ≤ t3.0 = strung_le B (suc t2.0) (result_tokens f.result) t3.0 t3.1.0 in
      let e4 : t3.0 ≤ o = opens f.body t3.0 m t3.1.1 in
      let s1 = sites_if (receiver_sites s (func_block s f) o) f.receiver in
      let s2 = list_sites (param_sites s (func_block s f) o) f.params in
      let s3 = result_sites s f.result in
      let s4 = block_sites s f.body in
      all_append P s1 (site s f.name (func_role f.receiver (s.spell f.name)) ∷ (s2 ++ (s3 ++ s4)))
      (receiver_begins o c o n t1.0 f.receiver t1.1.0 (omega arith)) (
        (λ e. absurd (true≢false (sym e ∙ func_abroad f.receiver (s.spell f.name)))),
        all_append P s2 (s3 ++ s4) (params_begin o c o (suc (suc t1.0)) t2.0 f.params t2.1.0 (omega arith))
            (all_append P s3 s4 (abroad_begins s.rank s3 (result_abroad s f.result)) (block_begins t3.0 m f.body t3.1.1)),
      )

  -- types

  method_begins : (n m : ℕ) (x : MethodTree) → Strung B n (method_tokens x) m → AllByRecursion P (method_sites s x)
  unfolding method_sites method_tokens
  method_begins n m x t =
      let o = x.lparen in
      let c = x.rparen in
      let params = list_tokens kind.Comma param_tokens x.params in
      let y = strung_split B (suc (suc n)) params (sign kind.RightParen c ∷ result_tokens x.result) m t.1.1.1.1 in
      let at : c ≡ y.0 = y.1.1.0 in
      let s2 = list_sites (param_sites s (Inner s.rank o c) c) x.params in
      let s3 = result_sites s x.result in (
        (λ e. absurd (true≢false (sym e))),
        all_append P s2 s3 (params_begin o c c (suc (suc n)) y.0 x.params y.1.0 (omega arith)) (abroad_begins s.rank s3 (result_abroad s x.result)),
      )

  -- each identifier of the items of a list, or of a group of specs
  module _ {X : Type 0} (sites : X → List Site) (tokens : X → List Token)
      (one_begins : (n m : ℕ) (x : X) → Strung B n (tokens x) m → AllByRecursion P (sites x)) where
    listed_begin : (n m : ℕ) (xs : List (Item X)) → Strung B n (list_tokens kind.Semicolon tokens xs) m → AllByRecursion P (list_sites sites xs)
    unfolding all_tokens
    listed_begin n m [] t = tt
    listed_begin n m (x ∷ xs) t =
        let y = strung_split B n (item_tokens kind.Semicolon tokens x) (list_tokens kind.Semicolon tokens xs) m t in
        let z = strung_split B n (tokens x.value) (sign_if kind.Semicolon x.separator) y.0 y.1.0 in
        all_append P (sites x.value) (list_sites sites xs) (one_begins n z.0 x.value z.1.0) (listed_begin y.0 m xs y.1.1)

    specs_begin : (n m : ℕ) (g : Group X) → Strung B n (group_tokens tokens g) m → AllByRecursion P (spec_sites sites g)
    unfolding group_tokens group_sites separated_sites
    specs_begin n m (single x) t = one_begins n m x t
    specs_begin n m (several o xs c) t =
        let y = strung_split B (suc n) (list_tokens kind.Semicolon tokens xs) (sign kind.RightParen c ∷ []) m t.1.1 in listed_begin (suc n) y.0 xs y.1.0

  body_begins : (n m : ℕ) (b : BodyTree) → Strung B n (body_tokens b) m → AllByRecursion P (body_sites s b)
  unfolding body_sites body_tokens
  body_begins n m (tree.Other x) t = abroad_begins s.rank (type_sites s x) (type_abroad s x)
  body_begins n m (tree.Struct p o fs c) t = abroad_begins s.rank (list_sites (field_sites s) fs) (fields_abroad s fs)
  body_begins n m (tree.Interface p o ms c) t =
      let y = strung_split B (suc (suc n)) (list_tokens kind.Semicolon method_tokens ms) (sign kind.RightBrace c ∷ []) m t.1.1.1.1 in
      listed_begin (method_sites s) method_tokens method_begins (suc (suc n)) y.0 ms y.1.0

  spec_begins : (n m : ℕ) (x : TypeSpecTree) → Strung B n (type_spec_tokens x) m → AllByRecursion P (type_spec_sites s x)
  unfolding type_spec_sites type_spec_tokens
  spec_begins n m x t = ((λ e. absurd (true≢false (sym e))), body_begins (suc n) m x.body t.1.1)

  decls_begin : (n m : ℕ) (ds : List DeclTree) → Strung B n (all_tokens decl_tokens ds) m → AllByRecursion P (flat_map (decl_sites s) ds)
  unfolding all_tokens decl_sites decl_tokens
  decls_begin n m [] t = tt
  decls_begin n m (tree.VarDecl k g c ∷ ds) t =
      let x = strung_split B n (decl_tokens (tree.VarDecl k g c)) (all_tokens decl_tokens ds) m t in
      all_append P (decl_sites s (tree.VarDecl k g c)) (flat_map (decl_sites s) ds)
      (abroad_begins s.rank _ (group_abroad (global_sites s) (global_abroad s) g)) (decls_begin x.0 m ds x.1.1)
  decls_begin n m (tree.TypeDecl k g c ∷ ds) t =
      let x = strung_split B n (decl_tokens (tree.TypeDecl k g c)) (all_tokens decl_tokens ds) m t in
      let y = strung_split B (suc n) (group_tokens type_spec_tokens g) (sign kind.Semicolon c ∷ []) x.0 x.1.0.1.1 in
      all_append P (decl_sites s (tree.TypeDecl k g c)) (flat_map (decl_sites s) ds)
      (specs_begin (type_spec_sites s) type_spec_tokens spec_begins (suc n) y.0 g y.1.0) (decls_begin x.0 m ds x.1.1)
  decls_begin n m (tree.FuncDecl k f c ∷ ds) t =
      let x = strung_split B n (decl_tokens (tree.FuncDecl k f c)) (all_tokens decl_tokens ds) m t in
      let y = strung_split B (suc n) (func_tokens f) (sign kind.Semicolon c ∷ []) x.0 x.1.0.1.1 in
      all_append P (func_sites s f) (flat_map (decl_sites s) ds) (function_begins (suc n) y.0 f y.1.0) (decls_begin x.0 m ds x.1.1)

  pub file_begins : (m : ℕ) (f : FileTree) → Strung B 0 (flatten f) m → AllByRecursion (Begins s.rank) (file_sites s f)
  unfolding file_sites flatten
  file_begins m f t =
      let imports = flat_map (imports_sites s) f.imports in
      let decls = flat_map (decl_sites s) f.decls in
      let x = strung_split B 3 (all_tokens imports_tokens f.imports) (all_tokens decl_tokens f.decls) m t.1.1.1.1.1.1 in (
        (λ e. absurd (true≢false (sym e))),
        all_append P imports decls (abroad_begins s.rank imports (imports_abroad s f.imports)) (decls_begin x.0 m f.decls x.1.1),
      )
