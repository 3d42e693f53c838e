-- The identifiers of statements have the blocks and scopes of the ranges of these statements.
use Rattle.std.proofs.Common.{ℕ, ◌≡◌, ◌≤◌, List, [], ◌∷◌, ◌++◌, Option, Some, None, true, false, refl, sym, subst, arith, suc}
use Rattle.std.specs.Option.{unwrap_or}
use Rattle.go_ast.specs.declared.syntax.Kind.TheVariants as kind
use Rattle.go_ast.specs.Flatten.{sign, sign_if, tokens_if, all_tokens, list_tokens, group_tokens, ident_tokens, type_tokens, value_tokens}
use Rattle.go_ast.specs.Flatten.{expr_tokens, exprs_tokens, simple_tokens, local_tokens, init_tokens, for_tokens, statement_tokens, block_tokens}
use Rattle.go_ast.specs.Flatten.{statements_tokens, if_tokens, else_tokens}
use Rattle.go_ast.specs.WellFormed.{IsSeparated, IsGroup, IsLocal, IsStatement, IsBlock, AreStatements, IsIf, IsElse}
use Rattle.go_ast.specs.Tree.{Item, Group, single, several, IdentTree, Named, Underscore, ExprTree, Number, Text, Name, Blank, Composite, Paren, Prefix}
use Rattle.go_ast.specs.Tree.{Address, Chain, Binary, SimpleTree, Alone, Step, Update, Assign, Define, LocalTree, InitTree, ForTree, forever, while}
use Rattle.go_ast.specs.Tree.{clauses, StatementTree, Empty, Var, Simple, Inner, If, For, Break, Continue, Return, BlockTree, block, StatementTrees}
use Rattle.go_ast.specs.Tree.{no_statement, statement, IfTree, if_tree, ElseTree, no_else, else_if, else_block}
use Rattle.go_scope.specs.declared.model.Block.{Block}
use Rattle.go_scope.specs.declared.model.Block.TheVariants as blocks
use Rattle.go_scope.specs.declared.model.Role.TheVariants.{Declaring}
use Rattle.go_scope.specs.Site.{TokenSpellings}
use Rattle.go_scope.specs.ExpressionSites.{sites_if, list_sites, type_sites, expr_sites, exprs_sites}
use Rattle.go_scope.specs.StatementSites.{ident_sites, left_sites, assigned_sites, simple_sites, value_sites, local_sites, separated_sites, group_sites}
use Rattle.go_scope.specs.StatementSites.{init_sites, for_sites, open_of, statement_sites, block_sites, statements_sites, if_sites, else_sites}
use Rattle.go_scope.proofs.Regions.{Each, each_append, Plain}
use Rattle.go_scope.proofs.PlainSites.{plain_append, plain_list, plain_if, plain_type, plain_expr, plain_exprs, plain_assigned}
use Rattle.go_scope.proofs.StatementRegions.{each_rising}
use Rattle.go_scope.proofs.Rising.{Rises, rises_le, rises_up, rises_split}
use Rattle.law_blocks.specs.Ranges.{keyword_block, brace_block, range_to, simple_specs, optional_specs, init_specs, item_specs, group_specs, for_specs}
use Rattle.law_blocks.specs.Ranges.{statement_blocks, braced_blocks, statements_blocks, if_blocks, else_blocks, statement_specs, braced_specs}
use Rattle.law_blocks.specs.Ranges.{statements_specs, if_specs, else_specs}
use Rattle.law_blocks.proofs.Ranged.{Laid, laid_plain, laid_wider, laid_join, laid_plain_before, laid_spec, laid_inside, AtSpec, spec_plain}

-- the declared names

declares_not : {A : Type 0} → false ≡ true → A
declares_not e = cc

left_at : (s : TokenSpellings) (b : Block) (k q n m : ℕ) (x : ExprTree) → k ≤ n → m ≤ q → Rises n (expr_tokens x) m → Each (AtSpec b k q) (left_sites s b q x)
unfolding expr_tokens
left_at s b k q n m (Name i) kn mq h = ((λ may. (omega (arith, h.0), omega (arith, h.1), refl, refl, refl)), tt)
left_at s b k q n m (Blank i) kn mq h = ((λ may. declares_not may), tt)
left_at s b k q n m (Number i) kn mq h = spec_plain b k q (expr_sites s (Number i)) (plain_expr s (Number i))
left_at s b k q n m (Text i) kn mq h = spec_plain b k q (expr_sites s (Text i)) (plain_expr s (Text i))
left_at s b k q n m (Composite l) kn mq h = spec_plain b k q (expr_sites s (Composite l)) (plain_expr s (Composite l))
left_at s b k q n m (Paren o e c) kn mq h = spec_plain b k q (expr_sites s (Paren o e c)) (plain_expr s (Paren o e c))
left_at s b k q n m (Prefix op p e) kn mq h = spec_plain b k q (expr_sites s (Prefix op p e)) (plain_expr s (Prefix op p e))
left_at s b k q n m (Address p l) kn mq h = spec_plain b k q (expr_sites s (Address p l)) (plain_expr s (Address p l))
left_at s b k q n m (Chain e ls) kn mq h = spec_plain b k q (expr_sites s (Chain e ls)) (plain_expr s (Chain e ls))
left_at s b k q n m (Binary e os) kn mq h = spec_plain b k q (expr_sites s (Binary e os)) (plain_expr s (Binary e os))

pub ident_at : (s : TokenSpellings) (b : Block) (k q n m : ℕ) (x : IdentTree) → k ≤ n → m ≤ q → Rises n (ident_tokens x) m →
    Each (AtSpec b k q) (ident_sites s (Declaring b q) x)
ident_at s b k q n m (Named i) kn mq h = ((λ may. (omega (arith, h.0), omega (arith, h.1), refl, refl, refl)), tt)
ident_at s b k q n m (Underscore i) kn mq h = ((λ may. declares_not may), tt)

pub idents_at : (s : TokenSpellings) (b : Block) (k q n m : ℕ) (xs : List (Item IdentTree)) → k ≤ n → m ≤ q →
    Rises n (list_tokens kind.Comma ident_tokens xs) m →
    Each (AtSpec b k q) (list_sites (ident_sites s (Declaring b q)) xs)
idents_at s b k q n m xs kn mq h =
    each_rising (AtSpec b k q) ident_tokens (ident_sites s (Declaring b q)) kind.Comma k q (λ i j x ki jq r. ident_at s b k q i j x ki jq r) n m xs kn mq h

define_at : (s : TokenSpellings) (b : Block) (k q : ℕ) (es : List (Item ExprTree)) (p : ℕ) (fs : List (Item ExprTree)) →
    Rises k (simple_tokens (Define es p fs)) q →
    Each (AtSpec b k q) (list_sites (left_sites s b q) es ++ exprs_sites s fs)
unfolding simple_tokens
define_at s b k q es p fs h =
    let r = rises_split k (exprs_tokens es) (sign kind.Define p ∷ exprs_tokens fs) q h in
    let rq : r.0 ≤ q = rises_le r.0 (sign kind.Define p ∷ exprs_tokens fs) q r.1.1 in
    each_append (AtSpec b k q) (list_sites (left_sites s b q) es) (exprs_sites s fs)
    (each_rising (AtSpec b k q) expr_tokens (left_sites s b q) kind.Comma k q (λ i j x ki jq u. left_at s b k q i j x ki jq u) k r.0 es (omega arith) rq r.1.0)
    (spec_plain b k q (exprs_sites s fs) (plain_exprs s fs))

pub simple_laid : (s : TokenSpellings) (b : Block) (n following : ℕ) (x : SimpleTree) → Rises n (simple_tokens x) following →
    Laid s.rank b n following [] (simple_specs following x) (simple_sites s b following x)
unfolding simple_sites
simple_laid s b n q (Alone e) h = laid_plain s.rank b n q (expr_sites s e) (plain_expr s e)
simple_laid s b n q (Step e op p) h = laid_plain s.rank b n q (expr_sites s e) (plain_expr s e)
simple_laid s b n q (Update e op p f) h =
    laid_plain s.rank b n q (expr_sites s e ++ expr_sites s f) (plain_append (expr_sites s e) (expr_sites s f) (plain_expr s e) (plain_expr s f))
simple_laid s b n q (Assign es p fs) h =
    laid_plain s.rank b n q (list_sites (assigned_sites s) es ++ exprs_sites s fs)
    (plain_append (list_sites (assigned_sites s) es) (exprs_sites s fs) (plain_list (assigned_sites s) (plain_assigned s) es) (plain_exprs s fs))
simple_laid s b n q (Define es p fs) h =
    laid_spec s.rank b n q (simple_tokens (Define es p fs)) (list_sites (left_sites s b q) es ++ exprs_sites s fs) h
    (λ k nk r. define_at s b k q es p fs r)

plain_values : (s : TokenSpellings) (v : ℕ × List (Item ExprTree)) → Plain (value_sites s v)
plain_values s v = plain_exprs s v.1

local_at : (s : TokenSpellings) (b : Block) (k q : ℕ) (x : LocalTree) → Rises k (local_tokens x) q → Each (AtSpec b k q) (local_sites s b q x)
unfolding local_sites local_tokens
local_at s b k q x h =
    let behind = tokens_if type_tokens x.type_use ++ tokens_if (value_tokens expr_tokens) x.values in
    let r = rises_split k (list_tokens kind.Comma ident_tokens x.names) behind q h in
    let rq : r.0 ≤ q = rises_le r.0 behind q r.1.1 in
    each_append (AtSpec b k q) (list_sites (ident_sites s (Declaring b q)) x.names) (sites_if (type_sites s) x.type_use ++ sites_if (value_sites s) x.values)
    (idents_at s b k q k r.0 x.names (omega arith) rq r.1.0)
    (spec_plain b k q (sites_if (type_sites s) x.type_use ++ sites_if (value_sites s) x.values)
    (plain_append (sites_if (type_sites s) x.type_use) (sites_if (value_sites s) x.values) (plain_if (type_sites s) (plain_type s) x.type_use)
    (plain_if (value_sites s) (plain_values s) x.values)))

pub local_laid : (s : TokenSpellings) (b : Block) (n q : ℕ) (x : LocalTree) → Rises n (local_tokens x) q →
    Laid s.rank b n q [] (range_to q (local_tokens x)) (local_sites s b q x)
local_laid s b n q x h = laid_spec s.rank b n q (local_tokens x) (local_sites s b q x) h (λ k nk r. local_at s b k q x r)

-- groups of specs

item_laid : (s : TokenSpellings) (b : Block) (n c : ℕ) (x : LocalTree) (p : Option ℕ) (xs : List (Item LocalTree)) → (p ≡ None → xs ≡ []) →
    Rises n (local_tokens x ++ sign_if kind.Semicolon p ++ list_tokens kind.Semicolon local_tokens xs) c →
    ((k : ℕ) → Rises k (list_tokens kind.Semicolon local_tokens xs) c → Laid s.rank b k c [] (item_specs c xs) (separated_sites (local_sites s b) c xs)) →
    Laid s.rank b n c [] (range_to (unwrap_or p c) (local_tokens x) ++ item_specs c xs)
    (local_sites s b (unwrap_or p c) x ++ separated_sites (local_sites s b) c xs)
unfolding all_tokens separated_sites
item_laid s b n c x None xs last h rest =
    let L : List (Item LocalTree) → Type 0 = λ ys.
    Laid s.rank b n c [] (range_to c (local_tokens x) ++ item_specs c ys) (local_sites s b c x ++ separated_sites (local_sites s b) c ys) in
    let r = rises_split n (local_tokens x ++ []) (list_tokens kind.Semicolon local_tokens xs) c h in
    let u = rises_split n (local_tokens x) [] r.0 r.1.0 in
    let le : u.0 ≤ r.0 = u.1.1 in
    let le' : r.0 ≤ c = rises_le r.0 (list_tokens kind.Semicolon local_tokens xs) c r.1.1 in
    let up : Rises n (local_tokens x) c = rises_up n (local_tokens x) u.0 c (omega arith) u.1.0 in
    let nc : n ≤ c = rises_le n (local_tokens x) c up in
    subst L (sym (last refl)) (laid_join s.rank b n c c [] [] (range_to c (local_tokens x)) [] (local_sites s b c x) [] nc (omega arith)
    (local_laid s b n c x up) (laid_plain s.rank b c c [] tt))
item_laid s b n c x (Some p) xs last h rest =
    let r = rises_split n (local_tokens x ++ sign kind.Semicolon p ∷ []) (list_tokens kind.Semicolon local_tokens xs) c h in
    let u = rises_split n (local_tokens x) (sign kind.Semicolon p ∷ []) r.0 r.1.0 in
    let up : u.0 ≤ p = u.1.1.0 in
    let pr : suc p ≤ r.0 = u.1.1.1 in
    let rc : r.0 ≤ c = rises_le r.0 (list_tokens kind.Semicolon local_tokens xs) c r.1.1 in
    let nu : n ≤ u.0 = rises_le n (local_tokens x) u.0 u.1.0 in
    laid_join s.rank b n p c [] [] (range_to p (local_tokens x)) (item_specs c xs) (local_sites s b p x) (separated_sites (local_sites s b) c xs)
    (omega arith) (omega arith) (local_laid s b n p x (rises_up n (local_tokens x) u.0 p up u.1.0))
    (laid_wider s.rank b r.0 c p c [] (item_specs c xs) (separated_sites (local_sites s b) c xs) (omega arith) (omega arith) (rest r.0 r.1.1))

items_laid : (s : TokenSpellings) (b : Block) (n c : ℕ) (xs : List (Item LocalTree)) → IsSeparated xs → Rises n (list_tokens kind.Semicolon local_tokens xs) c →
    Laid s.rank b n c [] (item_specs c xs) (separated_sites (local_sites s b) c xs)
unfolding all_tokens separated_sites
items_laid s b n c [] sep h = laid_plain s.rank b n c [] tt
items_laid s b n c (x ∷ xs) sep h = item_laid s b n c x.value x.separator xs sep.0 h (λ k r. items_laid s b k c xs sep.1 r)

group_laid : (s : TokenSpellings) (b : Block) (n q : ℕ) (g : Group LocalTree) → IsGroup IsLocal g → Rises n (group_tokens local_tokens g) q →
    Laid s.rank b n q [] (group_specs q g) (group_sites (local_sites s b) q g)
unfolding group_tokens group_sites
group_laid s b n q (single x) w h = local_laid s b n q x h
group_laid s b n q (several o xs c) w h =
    let r = rises_split (suc o) (list_tokens kind.Semicolon local_tokens xs) (sign kind.RightParen c ∷ []) q h.1 in
    let no : n ≤ o = h.0 in
    let rc : r.0 ≤ c = r.1.1.0 in
    let cq : suc c ≤ q = r.1.1.1 in
    laid_wider s.rank b (suc o) c n q [] (item_specs c xs) (separated_sites (local_sites s b) c xs) (omega arith) (omega arith)
    (items_laid s b (suc o) c xs w.separated (rises_up (suc o) (list_tokens kind.Semicolon local_tokens xs) r.0 c rc r.1.0))

-- headers

optional_laid : (s : TokenSpellings) (b : Block) (n q : ℕ) (x : Option SimpleTree) → Rises n (tokens_if simple_tokens x) q →
    Laid s.rank b n q [] (optional_specs q x) (sites_if (simple_sites s b q) x)
optional_laid s b n q None h = laid_plain s.rank b n q [] tt
optional_laid s b n q (Some x) h = simple_laid s b n q x h

init_laid : (s : TokenSpellings) (b : Block) (n q : ℕ) (x : Option InitTree) → Rises n (tokens_if init_tokens x) q →
    Laid s.rank b n q [] (init_specs x) (sites_if (init_sites s b) x)
unfolding init_tokens init_sites
init_laid s b n q None h = laid_plain s.rank b n q [] tt
init_laid s b n q (Some i) h =
    let r = rises_split n (tokens_if simple_tokens i.simple) (sign kind.Semicolon i.semicolon ∷ []) q h in
    let rs : r.0 ≤ i.semicolon = r.1.1.0 in
    let sq : suc i.semicolon ≤ q = r.1.1.1 in
    laid_wider s.rank b n i.semicolon n q [] (optional_specs i.semicolon i.simple) (sites_if (simple_sites s b i.semicolon) i.simple) (omega arith)
    (omega arith) (optional_laid s b n i.semicolon i.simple (rises_up n (tokens_if simple_tokens i.simple) r.0 i.semicolon rs r.1.0))

-- the header of a `for` whose body begins at the token q
header_laid : (s : TokenSpellings) (b : Block) (n q : ℕ) (x : ForTree) → Rises n (for_tokens x) q →
    Laid s.rank b n q [] (for_specs q x) (for_sites s b q x)
unfolding for_tokens for_sites
header_laid s b n q forever h = laid_plain s.rank b n q [] tt
header_laid s b n q (while e) h = laid_plain s.rank b n q (expr_sites s e) (plain_expr s e)
header_laid s b n q (clauses init first condition second post) h =
    let last = sign kind.Semicolon second ∷ tokens_if simple_tokens post in
    let after = tokens_if expr_tokens condition ++ last in
    let r = rises_split n (tokens_if simple_tokens init) (sign kind.Semicolon first ∷ after) q h in
    let nr : n ≤ r.0 = rises_le n (tokens_if simple_tokens init) r.0 r.1.0 in
    let rf : r.0 ≤ first = r.1.1.0 in
    let fq : suc first ≤ q = rises_le (suc first) after q r.1.1.1 in
    let u = rises_split (suc first) (tokens_if expr_tokens condition) last q r.1.1.1 in
    let fu : suc first ≤ u.0 = rises_le (suc first) (tokens_if expr_tokens condition) u.0 u.1.0 in
    let us : u.0 ≤ second = u.1.1.0 in
    let here = sites_if (simple_sites s b first) init in
    let there = sites_if (simple_sites s b q) post in
    laid_join s.rank b n first q [] [] (optional_specs first init) (optional_specs q post) here (sites_if (expr_sites s) condition ++ there) (omega arith)
    (omega arith) (optional_laid s b n first init (rises_up n (tokens_if simple_tokens init) r.0 first rf r.1.0))
    (laid_plain_before s.rank b first q [] (optional_specs q post) (sites_if (expr_sites s) condition) there (plain_if (expr_sites s) (plain_expr s) condition)
    (laid_wider s.rank b (suc second) q first q [] (optional_specs q post) there (omega arith) (omega arith)
    (optional_laid s b (suc second) q post u.1.1.1)))

-- the tokens of a block from its opening brace on
from_brace : (n m : ℕ) (x : BlockTree) → Rises n (block_tokens x) m → (n ≤ open_of x) × (open_of x ≤ m) × Rises (open_of x) (block_tokens x) m
unfolding block_tokens
from_brace n m (block o ss c) h =
    let le : suc o ≤ m = rises_le (suc o) (statements_tokens ss ++ (sign kind.RightBrace c ∷ [])) m h.1 in
    (h.0, omega arith, (omega arith, h.1))

mutual
  unfolding statement_tokens block_tokens statements_tokens if_tokens else_tokens statement_sites block_sites statements_sites if_sites else_sites
      IsStatement IsBlock AreStatements IsIf IsElse statement_blocks braced_blocks statements_blocks if_blocks else_blocks statement_specs braced_specs
      statements_specs if_specs else_specs

  pub statement_laid : (s : TokenSpellings) (b : Block) (n q : ℕ) (x : StatementTree) → IsStatement x → Rises n (statement_tokens x) q →
      Laid s.rank b n q (statement_blocks q x) (statement_specs q x) (statement_sites s b q x)
  statement_laid s b n q Empty w h = laid_plain s.rank b n q [] tt
  statement_laid s b n q (Var p g) w h =
      let np : n ≤ p = h.0 in
      laid_wider s.rank b (suc p) q n q [] (group_specs q g) (group_sites (local_sites s b) q g) (omega arith) (omega arith)
      (group_laid s b (suc p) q g w h.1)
  statement_laid s b n q (Simple x) w h = simple_laid s b n q x h
  statement_laid s b n q (Inner x) w h = block_laid s b n q x w h
  statement_laid s b n q (If x) w h = if_laid s b n q x w h
  statement_laid s b n q (For p f x) w h =
      let np : n ≤ p = h.0 in
      let B = blocks.Inner s.rank p q in
      let o = open_of x in
      let r = rises_split (suc p) (for_tokens f) (block_tokens x) q h.1 in
      let pr : suc p ≤ r.0 = rises_le (suc p) (for_tokens f) r.0 r.1.0 in
      let v = from_brace r.0 q x r.1.1 in
      let ro : r.0 ≤ o = v.0 in
      let oq : o ≤ q = v.1 in
      let y = laid_join s.rank B (suc p) o q [] (braced_blocks x) (for_specs o f) (braced_specs x) (for_sites s B o f) (block_sites s x) (omega arith) oq
      (header_laid s B (suc p) o f (rises_up (suc p) (for_tokens f) r.0 o ro r.1.0)) (block_laid s B o q x w.1 v.2) in
      laid_wider s.rank b p q n q (keyword_block p q ∷ braced_blocks x) (for_specs o f ++ braced_specs x) (for_sites s B o f ++ block_sites s x) np
      (omega arith)
      (laid_inside s.rank b (keyword_block p q) (braced_blocks x) (for_specs o f ++ braced_specs x) (for_sites s B o f ++ block_sites s x) (omega arith)
      y.blocks (laid_wider s.rank B (suc p) q p q (braced_blocks x) (for_specs o f ++ braced_specs x) (for_sites s B o f ++ block_sites s x) (omega arith)
      (omega arith) y))
  statement_laid s b n q (Break p) w h = laid_plain s.rank b n q [] tt
  statement_laid s b n q (Continue p) w h = laid_plain s.rank b n q [] tt
  statement_laid s b n q (Return p es) w h = laid_plain s.rank b n q (exprs_sites s es) (plain_exprs s es)

  pub block_laid : (s : TokenSpellings) (b : Block) (n m : ℕ) (x : BlockTree) → IsBlock x → Rises n (block_tokens x) m →
      Laid s.rank b n m (braced_blocks x) (braced_specs x) (block_sites s x)
  block_laid s b n m (block o ss c) w h =
      let no : n ≤ o = h.0 in
      let r = rises_split (suc o) (statements_tokens ss) (sign kind.RightBrace c ∷ []) m h.1 in
      let rc : r.0 ≤ c = r.1.1.0 in
      let cm : suc c ≤ m = r.1.1.1 in
      let ro : suc o ≤ r.0 = rises_le (suc o) (statements_tokens ss) r.0 r.1.0 in
      let B = blocks.Inner s.rank o c in
      let xs = statements_sites s B c ss in
      let y = statements_laid s B (suc o) c ss w.1 (rises_up (suc o) (statements_tokens ss) r.0 c rc r.1.0) in
      laid_wider s.rank b o c n m (brace_block o c ∷ statements_blocks c ss) (statements_specs c ss) xs no (omega arith)
      (laid_inside s.rank b (brace_block o c) (statements_blocks c ss) (statements_specs c ss) xs (omega arith) y.blocks
      (laid_wider s.rank B (suc o) c o c (statements_blocks c ss) (statements_specs c ss) xs (omega arith) (omega arith) y))

  pub statements_laid : (s : TokenSpellings) (b : Block) (n c : ℕ) (ss : StatementTrees) → AreStatements ss → Rises n (statements_tokens ss) c →
      Laid s.rank b n c (statements_blocks c ss) (statements_specs c ss) (statements_sites s b c ss)
  statements_laid s b n c no_statement w h = laid_plain s.rank b n c [] tt
  statements_laid s b n c (statement x None rest) w h =
      let r = rises_split n (statement_tokens x) (statements_tokens rest) c h in
      let rc : r.0 ≤ c = rises_le r.0 (statements_tokens rest) c r.1.1 in
      let nr : n ≤ r.0 = rises_le n (statement_tokens x) r.0 r.1.0 in
      let L : StatementTrees → Type 0 = λ t. Laid s.rank b n c (statement_blocks c x ++ statements_blocks c t) (statement_specs c x ++ statements_specs c t)
      (statement_sites s b c x ++ statements_sites s b c t) in
      subst L (sym w.1) (laid_join s.rank b n c c (statement_blocks c x) [] (statement_specs c x) [] (statement_sites s b c x) [] (omega arith)
      (omega arith) (statement_laid s b n c x w.0 (rises_up n (statement_tokens x) r.0 c rc r.1.0)) (laid_plain s.rank b c c [] tt))
  statements_laid s b n c (statement x (Some p) rest) w h =
      let r = rises_split n (statement_tokens x) (sign kind.Semicolon p ∷ statements_tokens rest) c h in
      let rp : r.0 ≤ p = r.1.1.0 in
      let pc : suc p ≤ c = rises_le (suc p) (statements_tokens rest) c r.1.1.1 in
      let nr : n ≤ r.0 = rises_le n (statement_tokens x) r.0 r.1.0 in
      laid_join s.rank b n p c (statement_blocks p x) (statements_blocks c rest) (statement_specs p x) (statements_specs c rest) (statement_sites s b p x)
      (statements_sites s b c rest) (omega arith) (omega arith) (statement_laid s b n p x w.0 (rises_up n (statement_tokens x) r.0 p rp r.1.0))
      (laid_wider s.rank b (suc p) c p c (statements_blocks c rest) (statements_specs c rest) (statements_sites s b c rest) (omega arith) (omega arith)
      (statements_laid s b (suc p) c rest w.2 r.1.1.1))

  pub if_laid : (s : TokenSpellings) (b : Block) (n q : ℕ) (x : IfTree) → IsIf x → Rises n (if_tokens x) q →
      Laid s.rank b n q (if_blocks q x) (if_specs q x) (if_sites s q x)
  if_laid s b n q (if_tree p init e x rest) w h =
      let np : n ≤ p = h.0 in
      let B = blocks.Inner s.rank p q in
      let r = rises_split (suc p) (tokens_if init_tokens init) (expr_tokens e ++ (block_tokens x ++ else_tokens rest)) q h.1 in
      let pr : suc p ≤ r.0 = rises_le (suc p) (tokens_if init_tokens init) r.0 r.1.0 in
      let v = rises_split r.0 (expr_tokens e) (block_tokens x ++ else_tokens rest) q r.1.1 in
      let rv : r.0 ≤ v.0 = rises_le r.0 (expr_tokens e) v.0 v.1.0 in
      let t = rises_split v.0 (block_tokens x) (else_tokens rest) q v.1.1 in
      let vt : v.0 ≤ t.0 = rises_le v.0 (block_tokens x) t.0 t.1.0 in
      let tq : t.0 ≤ q = rises_le t.0 (else_tokens rest) q t.1.1 in
      let rs = braced_blocks x ++ else_blocks q rest in
      let es = braced_specs x ++ else_specs q rest in
      let ys = block_sites s x ++ else_sites s q rest in
      let z = laid_join s.rank B r.0 t.0 q (braced_blocks x) (else_blocks q rest) (braced_specs x) (else_specs q rest) (block_sites s x)
      (else_sites s q rest) (omega arith) tq
      (laid_wider s.rank B v.0 t.0 r.0 t.0 (braced_blocks x) (braced_specs x) (block_sites s x) rv (omega arith) (block_laid s B v.0 t.0 x w.2 t.1.0))
      (else_laid s B t.0 q rest w.3 t.1.1) in
      let y = laid_join s.rank B (suc p) r.0 q [] rs (init_specs init) es (sites_if (init_sites s B) init) (expr_sites s e ++ ys) pr (omega arith)
      (init_laid s B (suc p) r.0 init r.1.0) (laid_plain_before s.rank B r.0 q rs es (expr_sites s e) ys (plain_expr s e) z) in
      let xs = sites_if (init_sites s B) init ++ (expr_sites s e ++ ys) in
      laid_wider s.rank b p q n q (keyword_block p q ∷ rs) (init_specs init ++ es) xs np (omega arith)
      (laid_inside s.rank b (keyword_block p q) rs (init_specs init ++ es) xs (omega arith) y.blocks
      (laid_wider s.rank B (suc p) q p q rs (init_specs init ++ es) xs (omega arith) (omega arith) y))

  pub else_laid : (s : TokenSpellings) (b : Block) (n q : ℕ) (x : ElseTree) → IsElse x → Rises n (else_tokens x) q →
      Laid s.rank b n q (else_blocks q x) (else_specs q x) (else_sites s q x)
  else_laid s b n q no_else w h = laid_plain s.rank b n q [] tt
  else_laid s b n q (else_if p x) w h =
      let np : n ≤ p = h.0 in
      laid_wider s.rank b (suc p) q n q (if_blocks q x) (if_specs q x) (if_sites s q x) (omega arith) (omega arith) (if_laid s b (suc p) q x w h.1)
  else_laid s b n q (else_block p x) w h =
      let np : n ≤ p = h.0 in
      laid_wider s.rank b (suc p) q n q (braced_blocks x) (braced_specs x) (block_sites s x) (omega arith) (omega arith)
      (block_laid s b (suc p) q x w h.1)
