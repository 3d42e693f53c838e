-- The identifiers of statements whose tokens rise fit into the region of these tokens.
use Rattle.std.proofs.Common.{ℕ, ◌≡◌, ◌<◌, ◌≤◌, List, [], ◌∷◌, ◌++◌, Option, Some, None, true, false, refl, sym, subst, arith, suc, inr}
use Rattle.std.specs.Option.{unwrap_or}
use Rattle.std.specs.List.{All}
use Rattle.std.proofs.lemmas.List.Elements.{All-head, All-tail}
use Rattle.go_scope.specs.declared.model.Block.{Block}
use Rattle.go_scope.specs.declared.model.Block.TheVariants as blocks
use Rattle.go_scope.specs.declared.model.Role.TheVariants.{Declaring}
use Rattle.go_scope.specs.Site.{Site, TokenSpellings}
use Rattle.go_scope.specs.ExpressionSites.{sites_if, list_sites, type_sites, expr_sites, exprs_sites}
use Rattle.go_scope.specs.StatementSites.{ident_sites, left_sites, assigned_sites, simple_sites, value_sites, local_sites, separated_sites, group_sites}
use Rattle.go_scope.specs.StatementSites.{init_sites, for_sites, open_of, close_of, statement_sites, block_sites, statements_sites, if_sites, else_sites}
use Rattle.go_scope.proofs.Regions.{Each, each_append, Segment, segment_join, segment_widen, segment_outward, Plain, segment_plain, segment_plain_after}
use Rattle.go_scope.proofs.Regions.{segment_plain_before, Together, segment_together, together_plain}
use Rattle.go_scope.proofs.PlainSites.{plain_append, plain_list, plain_if, plain_type, plain_expr, plain_exprs, plain_assigned}
use Rattle.go_scope.proofs.Rising.{Rises, rises_le, rises_up, rises_down, rises_split}
use Rattle.go_ast.specs.declared.syntax.Kind.{Kind}
use Rattle.go_ast.specs.declared.syntax.Kind.TheVariants as kind
use Rattle.go_ast.specs.declared.syntax.Token.{Token}
use Rattle.go_ast.specs.Flatten.{sign, sign_if, tokens_if, all_tokens, item_tokens, list_tokens, group_tokens, ident_tokens, type_tokens, value_tokens}
use Rattle.go_ast.specs.Flatten.{expr_tokens, exprs_tokens, simple_tokens}
use Rattle.go_ast.specs.Flatten.{local_tokens, init_tokens, for_tokens, statement_tokens, block_tokens, statements_tokens, if_tokens, else_tokens}
use Rattle.go_ast.specs.WellFormed.{IsSeparated, IsGroup, IsNoneOr, IsPost, IsFor, IsLocal, IsStatement, IsBlock, AreStatements, IsIf, IsElse}
use Rattle.go_ast.specs.Tree.{Item, Group, single, several, IdentTree, Named, Underscore, ExprTree, Number, Text, Name, Blank, Composite, Paren, Prefix}
use Rattle.go_ast.specs.Tree.{Address, Chain, Binary, SimpleTree, Alone, Step, Update, Assign, Define, LocalTree, InitTree, ForTree, forever, while}
use Rattle.go_ast.specs.Tree.{clauses, StatementTree, Empty, Var, Simple, Inner, If, For, Break, Continue, Return, BlockTree, block, StatementTrees}
use Rattle.go_ast.specs.Tree.{no_statement, statement, IfTree, if_tree, ElseTree, no_else, else_if, else_block}

-- items whose token indices rise, from one bound to before another
module _ {X : Type 0} (P : Site → Type 0) (tokens : X → List Token) (sites : X → List Site) (sort : Kind) (k q : ℕ)
    (one : (n m : ℕ) (x : X) → k ≤ n → m ≤ q → Rises n (tokens x) m → Each P (sites x)) where
  pub each_rising : (n m : ℕ) (xs : List (Item X)) → k ≤ n → m ≤ q → Rises n (list_tokens sort tokens xs) m → Each P (list_sites sites xs)
  unfolding all_tokens
  each_rising n m [] kn mq h = tt
  each_rising n m (x ∷ xs) kn mq h =
      let r = rises_split n (item_tokens sort tokens x) (all_tokens (item_tokens sort tokens) xs) m h in
      let u = rises_split n (tokens x.value) (sign_if sort x.separator) r.0 r.1.0 in
      let le : r.0 ≤ m = rises_le r.0 (all_tokens (item_tokens sort tokens) xs) m r.1.1 in
      let nk : n ≤ r.0 = rises_le n (item_tokens sort tokens x) r.0 r.1.0 in
      let ur : u.0 ≤ r.0 = rises_le u.0 (sign_if sort x.separator) r.0 u.1.1 in
      each_append P (sites x.value) (list_sites sites xs) (one n u.0 x.value kn (omega arith) u.1.0) (each_rising r.0 m xs (omega arith) mq r.1.1)

not_left : {A : Type 0} → false ≡ true → A
not_left e = cc

left_together : (s : TokenSpellings) (a b q k : ℕ) → a ≤ k → (n m : ℕ) (x : ExprTree) → k ≤ n → m ≤ q → Rises n (expr_tokens x) m →
    Each (Together s.rank a b k q) (left_sites s (blocks.Inner s.rank a b) q x)
unfolding expr_tokens
left_together s a b q k ak n m (Name i) kn mq h = (
  (λ may. inr (record { block = refl; start = refl; stands = (refl, omega (arith, h.1)); left = λ left. (omega (arith, h.0), omega (arith, h.0)) })),
  tt,
)
left_together s a b q k ak n m (Blank i) kn mq h = ((λ may. not_left may), tt)
left_together s a b q k ak n m (Number i) kn mq h = together_plain s.rank a b k q (expr_sites s (Number i)) (plain_expr s (Number i))
left_together s a b q k ak n m (Text i) kn mq h = together_plain s.rank a b k q (expr_sites s (Text i)) (plain_expr s (Text i))
left_together s a b q k ak n m (Composite l) kn mq h = together_plain s.rank a b k q (expr_sites s (Composite l)) (plain_expr s (Composite l))
left_together s a b q k ak n m (Paren o e c) kn mq h = together_plain s.rank a b k q (expr_sites s (Paren o e c)) (plain_expr s (Paren o e c))
left_together s a b q k ak n m (Prefix op p e) kn mq h = together_plain s.rank a b k q (expr_sites s (Prefix op p e)) (plain_expr s (Prefix op p e))
left_together s a b q k ak n m (Address p l) kn mq h = together_plain s.rank a b k q (expr_sites s (Address p l)) (plain_expr s (Address p l))
left_together s a b q k ak n m (Chain e ls) kn mq h = together_plain s.rank a b k q (expr_sites s (Chain e ls)) (plain_expr s (Chain e ls))
left_together s a b q k ak n m (Binary e os) kn mq h = together_plain s.rank a b k q (expr_sites s (Binary e os)) (plain_expr s (Binary e os))

pub ident_together : (s : TokenSpellings) (a b q k n m : ℕ) (x : IdentTree) → m ≤ q → Rises n (ident_tokens x) m →
    Each (Together s.rank a b k q) (ident_sites s (Declaring (blocks.Inner s.rank a b) q) x)
ident_together s a b q k n m (Named i) mq h =
    ((λ may. inr (record { block = refl; start = refl; stands = (refl, omega (arith, h.1)); left = λ left. not_left left })), tt)
ident_together s a b q k n m (Underscore i) mq h = ((λ may. not_left may), tt)

pub idents_together : (s : TokenSpellings) (a b q k n m : ℕ) (xs : List (Item IdentTree)) → m ≤ q → Rises n (list_tokens kind.Comma ident_tokens xs) m →
    Each (Together s.rank a b k q) (list_sites (ident_sites s (Declaring (blocks.Inner s.rank a b) q)) xs)
idents_together s a b q k n m xs mq h =
    each_rising (Together s.rank a b k q) ident_tokens (ident_sites s (Declaring (blocks.Inner s.rank a b) q)) kind.Comma 0 q
    (λ i j x z le r. ident_together s a b q k i j x le r) n m xs (omega arith) mq h

pub simple_fits : (s : TokenSpellings) (a b n following : ℕ) (x : SimpleTree) → a ≤ n → Rises n (simple_tokens x) following →
    Segment s.rank a b n following (simple_sites s (blocks.Inner s.rank a b) following x)
unfolding simple_sites simple_tokens
simple_fits s a b n q (Alone e) an h = segment_plain s.rank a b n q (expr_sites s e) (plain_expr s e)
simple_fits s a b n q (Step e op p) an h = segment_plain s.rank a b n q (expr_sites s e) (plain_expr s e)
simple_fits s a b n q (Update e op p f) an h =
    segment_plain s.rank a b n q (expr_sites s e ++ expr_sites s f) (plain_append (expr_sites s e) (expr_sites s f) (plain_expr s e) (plain_expr s f))
simple_fits s a b n q (Assign es p fs) an h =
    segment_plain s.rank a b n q (list_sites (assigned_sites s) es ++ exprs_sites s fs)
    (plain_append (list_sites (assigned_sites s) es) (exprs_sites s fs) (plain_list (assigned_sites s) (plain_assigned s) es) (plain_exprs s fs))
simple_fits s a b n q (Define es p fs) an h =
    let r = rises_split n (exprs_tokens es) (sign kind.Define p ∷ exprs_tokens fs) q h in
    let nk : n ≤ r.0 = rises_le n (exprs_tokens es) r.0 r.1.0 in
    let kq : r.0 ≤ q = rises_le r.0 (sign kind.Define p ∷ exprs_tokens fs) q r.1.1 in
    segment_plain_after s.rank a b n q (list_sites (left_sites s (blocks.Inner s.rank a b) q) es) (exprs_sites s fs)
    (segment_together s.rank a b n q (list_sites (left_sites s (blocks.Inner s.rank a b) q) es) (omega arith) (omega arith)
    (each_rising (Together s.rank a b n q) expr_tokens (left_sites s (blocks.Inner s.rank a b) q) kind.Comma n q (left_together s a b q n an) n r.0 es
    (omega arith) kq r.1.0))
    (plain_exprs s fs)

post_plain : (s : TokenSpellings) (b : Block) (q : ℕ) (x : SimpleTree) → IsPost x → Plain (simple_sites s b q x)
unfolding simple_sites
post_plain s b q (Alone e) h = plain_expr s e
post_plain s b q (Step e op p) h = plain_expr s e
post_plain s b q (Update e op p f) h = plain_append (expr_sites s e) (expr_sites s f) (plain_expr s e) (plain_expr s f)
post_plain s b q (Assign es p fs) h = plain_append (list_sites (assigned_sites s) es) (exprs_sites s fs)
    (plain_list (assigned_sites s) (plain_assigned s) es) (plain_exprs s fs)
post_plain s b q (Define es p fs) h = absurd h

plain_values : (s : TokenSpellings) (v : ℕ × List (Item ExprTree)) → Plain (value_sites s v)
plain_values s v = plain_exprs s v.1

pub local_fits : (s : TokenSpellings) (a b n following : ℕ) (x : LocalTree) → a ≤ n → Rises n (local_tokens x) following →
    Segment s.rank a b n following (local_sites s (blocks.Inner s.rank a b) following x)
unfolding local_sites local_tokens
local_fits s a b n q x an h =
    let nq : n ≤ q = rises_le n (local_tokens x) q h in
    let behind = tokens_if type_tokens x.type_use ++ tokens_if (value_tokens expr_tokens) x.values in
    let r = rises_split n (list_tokens kind.Comma ident_tokens x.names) behind q h in
    let rq : r.0 ≤ q = rises_le r.0 behind q r.1.1 in
    segment_plain_after s.rank a b n q (list_sites (ident_sites s (Declaring (blocks.Inner s.rank a b) q)) x.names)
    (sites_if (type_sites s) x.type_use ++ sites_if (value_sites s) x.values)
    (segment_together s.rank a b n q (list_sites (ident_sites s (Declaring (blocks.Inner s.rank a b) q)) x.names) (omega arith) nq
    (idents_together s a b q n n r.0 x.names rq r.1.0))
    (plain_append (sites_if (type_sites s) x.type_use) (sites_if (value_sites s) x.values) (plain_if (type_sites s) (plain_type s) x.type_use)
    (plain_if (value_sites s) (plain_values s) x.values))

-- items, each with its identifiers in the region before the token after it
module _ {X : Type 0} (P : X → Type 0) (tokens : X → List Token) (sites : ℕ → X → List Site) (f a b : ℕ)
    (one : (n q : ℕ) (x : X) → a ≤ n → P x → Rises n (tokens x) q → Segment f a b n q (sites q x)) where
  -- an item with a token after it, and the other items
  item_then : (n c : ℕ) (x : X) (p : Option ℕ) (xs : List (Item X)) → a ≤ n → P x → (p ≡ None → xs ≡ []) →
      Rises n (tokens x ++ sign_if kind.Semicolon p ++ list_tokens kind.Semicolon tokens xs) c →
      ((k : ℕ) → n ≤ k → Rises k (list_tokens kind.Semicolon tokens xs) c → Segment f a b k c (separated_sites sites c xs)) →
      Segment f a b n c (sites (unwrap_or p c) x ++ separated_sites sites c xs)
  unfolding all_tokens separated_sites
  item_then n c x None xs an px last h rest =
      let L : List (Item X) → Type 0 = λ ys. Segment f a b n c (sites c x ++ separated_sites sites c ys) in
      let r = rises_split n (tokens x ++ []) (list_tokens kind.Semicolon tokens xs) c h in
      let u = rises_split n (tokens x) [] r.0 r.1.0 in
      let le : u.0 ≤ r.0 = u.1.1 in
      let le' : r.0 ≤ c = rises_le r.0 (list_tokens kind.Semicolon tokens xs) c r.1.1 in
      subst L (sym (last refl)) (segment_plain_after f a b n c (sites c x) [] (one n c x an px (rises_up n (tokens x) u.0 c (omega arith) u.1.0)) tt)
  item_then n c x (Some p) xs an px last h rest =
      let r = rises_split n (tokens x ++ sign kind.Semicolon p ∷ []) (list_tokens kind.Semicolon tokens xs) c h in
      let u = rises_split n (tokens x) (sign kind.Semicolon p ∷ []) r.0 r.1.0 in
      let up : u.0 ≤ p = u.1.1.0 in
      let pr : suc p ≤ r.0 = u.1.1.1 in
      let rc : r.0 ≤ c = rises_le r.0 (list_tokens kind.Semicolon tokens xs) c r.1.1 in
      let nu : n ≤ u.0 = rises_le n (tokens x) u.0 u.1.0 in
      segment_join f a b n p c (sites p x) (separated_sites sites c xs) (omega arith) (omega arith)
      (one n p x an px (rises_up n (tokens x) u.0 p up u.1.0))
      (rest (suc p) (omega arith) (rises_down (suc p) r.0 (list_tokens kind.Semicolon tokens xs) c pr r.1.1))

  pub separated_fits : (n c : ℕ) (xs : List (Item X)) → a ≤ n → IsSeparated xs → All (λ x. P x.value) xs → Rises n (list_tokens kind.Semicolon tokens xs) c →
      Segment f a b n c (separated_sites sites c xs)
  unfolding all_tokens separated_sites
  separated_fits n c [] an sep ps h = (tt, tt)
  separated_fits n c (x ∷ xs) an sep ps h =
      item_then n c x.value x.separator xs an (All-head (λ y. P y.value) x xs ps) sep.0 h
      (λ k nk r. separated_fits k c xs (omega arith) sep.1 (All-tail (λ y. P y.value) x xs ps) r)

  pub group_fits : (n q : ℕ) (g : Group X) → a ≤ n → IsGroup P g → Rises n (group_tokens tokens g) q → Segment f a b n q (group_sites sites q g)
  unfolding group_tokens group_sites
  group_fits n q (single x) an p h = one n q x an p h
  group_fits n q (several o xs c) an p h =
      let r = rises_split (suc o) (list_tokens kind.Semicolon tokens xs) (sign kind.RightParen c ∷ []) q h.1 in
      let no : n ≤ o = h.0 in
      let rc : r.0 ≤ c = r.1.1.0 in
      let cq : suc c ≤ q = r.1.1.1 in
      segment_widen f a b (suc o) c n q (separated_sites sites c xs) (omega arith) (omega arith)
      (separated_fits (suc o) c xs (omega arith) p.separated p.each (rises_up (suc o) (list_tokens kind.Semicolon tokens xs) r.0 c rc r.1.0))

simple_if_fits : (s : TokenSpellings) (a b n q : ℕ) (x : Option SimpleTree) → a ≤ n → Rises n (tokens_if simple_tokens x) q →
    Segment s.rank a b n q (sites_if (simple_sites s (blocks.Inner s.rank a b) q) x)
simple_if_fits s a b n q None an h = (tt, tt)
simple_if_fits s a b n q (Some x) an h = simple_fits s a b n q x an h

-- the clause before a condition ends before the condition
init_if_fits : (s : TokenSpellings) (p b k : ℕ) (i : Option InitTree) → Rises (suc p) (tokens_if init_tokens i) k →
    (q : ℕ) × ((p ≤ q) × (suc q ≤ k) × Segment s.rank p b (suc p) q (sites_if (init_sites s (blocks.Inner s.rank p b)) i))
unfolding init_tokens init_sites
init_if_fits s p b k None h = (p, (omega arith, h, (tt, tt)))
init_if_fits s p b k (Some i) h =
    let r = rises_split (suc p) (tokens_if simple_tokens i.simple) (sign kind.Semicolon i.semicolon ∷ []) k h in
    let pr : suc p ≤ r.0 = rises_le (suc p) (tokens_if simple_tokens i.simple) r.0 r.1.0 in
    let rs : r.0 ≤ i.semicolon = r.1.1.0 in (
      i.semicolon,
      (
        omega arith,
        r.1.1.1,
        simple_if_fits s p b (suc p) i.semicolon i.simple (omega arith) (rises_up (suc p) (tokens_if simple_tokens i.simple) r.0 i.semicolon rs r.1.0),
      ),
    )

post_if_plain : (s : TokenSpellings) (b : Block) (q : ℕ) (x : Option SimpleTree) → IsNoneOr IsPost x → Plain (sites_if (simple_sites s b q) x)
post_if_plain s b q None h = tt
post_if_plain s b q (Some x) h = post_plain s b q x h

pub close_above : (n m : ℕ) (x : BlockTree) → Rises n (block_tokens x) m → n ≤ close_of x
unfolding block_tokens
close_above n m (block o ss c) h =
    let no : n ≤ o = h.0 in
    let r = rises_split (suc o) (statements_tokens ss) (sign kind.RightBrace c ∷ []) m h.1 in
    let ro : suc o ≤ r.0 = rises_le (suc o) (statements_tokens ss) r.0 r.1.0 in
    let rc : r.0 ≤ c = r.1.1.0 in
    omega arith

-- the header of a `for` ends before its block
header_fits : (s : TokenSpellings) (p b o k : ℕ) (x : ForTree) → IsFor x → Rises (suc p) (for_tokens x) k →
    (q : ℕ) × ((p ≤ q) × (suc q ≤ k) × Segment s.rank p b (suc p) q (for_sites s (blocks.Inner s.rank p b) o x))
unfolding for_tokens for_sites
header_fits s p b o k forever w h = (p, (omega arith, h, (tt, tt)))
header_fits s p b o k (while e) w h =
    (p, (omega arith, rises_le (suc p) (expr_tokens e) k h, segment_plain s.rank p b (suc p) p (expr_sites s e) (plain_expr s e)))
header_fits s p b o k (clauses init first condition second post) w h =
    let after = tokens_if expr_tokens condition ++ (sign kind.Semicolon second ∷ tokens_if simple_tokens post) in
    let r = rises_split (suc p) (tokens_if simple_tokens init) (sign kind.Semicolon first ∷ after) k h in
    let pr : suc p ≤ r.0 = rises_le (suc p) (tokens_if simple_tokens init) r.0 r.1.0 in
    let rf : r.0 ≤ first = r.1.1.0 in
    let fk : suc first ≤ k = rises_le (suc first) after k r.1.1.1 in (
      first,
      (
        omega arith,
        fk,
        segment_plain_after s.rank p b (suc p) first (sites_if (simple_sites s (blocks.Inner s.rank p b) first) init)
            (sites_if (expr_sites s) condition ++ sites_if (simple_sites s (blocks.Inner s.rank p b) o) post)
            (simple_if_fits s p b (suc p) first init (omega arith) (rises_up (suc p) (tokens_if simple_tokens init) r.0 first rf r.1.0))
            (plain_append (sites_if (expr_sites s) condition) (sites_if (simple_sites s (blocks.Inner s.rank p b) o) post)
            (plain_if (expr_sites s) (plain_expr s) condition)
            (post_if_plain s (blocks.Inner s.rank p b) o post w.2)),
      ),
    )

mutual
  unfolding statement_tokens block_tokens statements_tokens if_tokens else_tokens statement_sites block_sites statements_sites if_sites else_sites
      IsStatement IsBlock AreStatements IsIf IsElse

  pub statement_fits : (s : TokenSpellings) (a b n q : ℕ) (x : StatementTree) → IsStatement x → a < n → q ≤ b → Rises n (statement_tokens x) q →
      Segment s.rank a b n q (statement_sites s (blocks.Inner s.rank a b) q x)
  statement_fits s a b n q Empty w an qb h = (tt, tt)
  statement_fits s a b n q (Var p g) w an qb h =
      let np : n ≤ p = h.0 in
      segment_widen s.rank a b (suc p) q n q (group_sites (local_sites s (blocks.Inner s.rank a b)) q g) (omega arith) (omega arith)
      (group_fits IsLocal local_tokens (local_sites s (blocks.Inner s.rank a b)) s.rank a b (λ k m x ak px r. local_fits s a b k m x ak r) (suc p) q g
      (omega arith) w h.1)
  statement_fits s a b n q (Simple x) w an qb h = simple_fits s a b n q x (omega arith) h
  statement_fits s a b n q (Inner x) w an qb h =
      let r = block_fits s a b n q x w an (omega arith) h in
      let cq : suc (close_of x) ≤ q = r.0 in
      segment_widen s.rank a b n (close_of x) n q (block_sites s x) (omega arith) (omega arith) r.1
  statement_fits s a b n q (If x) w an qb h = if_fits s a b n q x w an qb h
  statement_fits s a b n q (For p f x) w an qb h =
      let np : n ≤ p = h.0 in
      let r = rises_split (suc p) (for_tokens f) (block_tokens x) q h.1 in
      let u = header_fits s p q (open_of x) r.0 f w.0 r.1.0 in
      let pu : p ≤ u.0 = u.1.0 in
      let ur : suc u.0 ≤ r.0 = u.1.1 in
      let v = block_fits s p q (suc u.0) q x w.1 (omega arith) (omega arith) (rises_down (suc u.0) r.0 (block_tokens x) q ur r.1.1) in
      let cq : suc (close_of x) ≤ q = v.0 in
      let rq : suc u.0 ≤ q = rises_le (suc u.0) (block_tokens x) q (rises_down (suc u.0) r.0 (block_tokens x) q ur r.1.1) in
      segment_outward s.rank p q (suc p) q a b n q (for_sites s (blocks.Inner s.rank p q) (open_of x) f ++ block_sites s x) (omega arith) (omega arith)
      (omega arith) qb np (omega arith)
      (segment_join s.rank p q (suc p) u.0 q (for_sites s (blocks.Inner s.rank p q) (open_of x) f) (block_sites s x) (omega arith) (omega arith) u.1.2
      (segment_widen s.rank p q (suc u.0) (close_of x) (suc u.0) q (block_sites s x) (omega arith) (omega arith) v.1))
  statement_fits s a b n q (Break p) w an qb h = (tt, tt)
  statement_fits s a b n q (Continue p) w an qb h = (tt, tt)
  statement_fits s a b n q (Return p es) w an qb h = segment_plain s.rank a b n q (exprs_sites s es) (plain_exprs s es)

  pub block_fits : (s : TokenSpellings) (a b n m : ℕ) (x : BlockTree) → IsBlock x → a < n → m ≤ suc b → Rises n (block_tokens x) m →
      (suc (close_of x) ≤ m) × Segment s.rank a b n (close_of x) (block_sites s x)
  block_fits s a b n m (block o ss c) w an mb h =
      let no : n ≤ o = h.0 in
      let r = rises_split (suc o) (statements_tokens ss) (sign kind.RightBrace c ∷ []) m h.1 in
      let rc : r.0 ≤ c = r.1.1.0 in
      let cm : suc c ≤ m = r.1.1.1 in
      let ro : suc o ≤ r.0 = rises_le (suc o) (statements_tokens ss) r.0 r.1.0 in (
        cm,
        segment_outward s.rank o c (suc o) c a b n c (statements_sites s (blocks.Inner s.rank o c) c ss) (omega arith) (omega arith) (omega arith)
            (omega arith) no (omega arith)
            (statements_fits s o c (suc o) c ss w.1 (omega arith) (omega arith) (rises_up (suc o) (statements_tokens ss) r.0 c rc r.1.0)),
      )

  pub statements_fits : (s : TokenSpellings) (a b n c : ℕ) (ss : StatementTrees) → AreStatements ss → a < n → c ≤ b → Rises n (statements_tokens ss) c →
      Segment s.rank a b n c (statements_sites s (blocks.Inner s.rank a b) c ss)
  statements_fits s a b n c no_statement w an cb h = (tt, tt)
  statements_fits s a b n c (statement x None rest) w an cb h =
      let r = rises_split n (statement_tokens x) (statements_tokens rest) c h in
      let rc : r.0 ≤ c = rises_le r.0 (statements_tokens rest) c r.1.1 in
      segment_plain_after s.rank a b n c (statement_sites s (blocks.Inner s.rank a b) c x) (statements_sites s (blocks.Inner s.rank a b) c rest)
      (statement_fits s a b n c x w.0 an cb (rises_up n (statement_tokens x) r.0 c rc r.1.0))
      (let L : StatementTrees → Type 0 = λ t. Plain (statements_sites s (blocks.Inner s.rank a b) c t) in subst L (sym w.1) tt)
  statements_fits s a b n c (statement x (Some p) rest) w an cb h =
      let r = rises_split n (statement_tokens x) (sign kind.Semicolon p ∷ statements_tokens rest) c h in
      let rp : r.0 ≤ p = r.1.1.0 in
      let pc : suc p ≤ c = rises_le (suc p) (statements_tokens rest) c r.1.1.1 in
      let nr : n ≤ r.0 = rises_le n (statement_tokens x) r.0 r.1.0 in
      segment_join s.rank a b n p c (statement_sites s (blocks.Inner s.rank a b) p x) (statements_sites s (blocks.Inner s.rank a b) c rest) (omega arith)
      (omega arith)
      (statement_fits s a b n p x w.0 an (omega arith) (rises_up n (statement_tokens x) r.0 p rp r.1.0))
      (statements_fits s a b (suc p) c rest w.2 (omega arith) cb r.1.1.1)

  pub if_fits : (s : TokenSpellings) (a b n q : ℕ) (x : IfTree) → IsIf x → a < n → q ≤ b → Rises n (if_tokens x) q → Segment s.rank a b n q (if_sites s q x)
  if_fits s a b n q (if_tree p init e x rest) w an qb h =
      let np : n ≤ p = h.0 in
      let B = blocks.Inner s.rank p q in
      let r = rises_split (suc p) (tokens_if init_tokens init) (expr_tokens e ++ (block_tokens x ++ else_tokens rest)) q h.1 in
      let u = init_if_fits s p q r.0 init r.1.0 in
      let pu : p ≤ u.0 = u.1.0 in
      let ur : suc u.0 ≤ r.0 = u.1.1 in
      let v = rises_split r.0 (expr_tokens e) (block_tokens x ++ else_tokens rest) q r.1.1 in
      let rv : r.0 ≤ v.0 = rises_le r.0 (expr_tokens e) v.0 v.1.0 in
      let t = rises_split v.0 (block_tokens x) (else_tokens rest) q v.1.1 in
      let tq : t.0 ≤ q = rises_le t.0 (else_tokens rest) q t.1.1 in
      let y = block_fits s p q (suc u.0) t.0 x w.2 (omega arith) (omega arith) (rises_down (suc u.0) v.0 (block_tokens x) t.0 (omega arith) t.1.0) in
      let ct : suc (close_of x) ≤ t.0 = y.0 in
      let uc : suc u.0 ≤ t.0 = rises_le (suc u.0) (block_tokens x) t.0 (rises_down (suc u.0) v.0 (block_tokens x) t.0 (omega arith) t.1.0) in
      let oc : suc u.0 ≤ close_of x = close_above (suc u.0) t.0 x (rises_down (suc u.0) v.0 (block_tokens x) t.0 (omega arith) t.1.0) in
      let z = else_fits s p q (suc (close_of x)) q rest w.3 (omega arith) (omega arith) (rises_down (suc (close_of x)) t.0 (else_tokens rest) q ct t.1.1) in
      segment_outward s.rank p q (suc p) q a b n q (if_sites s q (if_tree p init e x rest)) (omega arith) (omega arith) (omega arith) qb np (omega arith)
      (segment_join s.rank p q (suc p) u.0 q (sites_if (init_sites s B) init) (expr_sites s e ++ (block_sites s x ++ else_sites s q rest)) (omega arith)
      (omega arith) u.1.2
      (segment_plain_before s.rank p q (suc u.0) q (expr_sites s e) (block_sites s x ++ else_sites s q rest) (plain_expr s e)
      (segment_join s.rank p q (suc u.0) (close_of x) q (block_sites s x) (else_sites s q rest) (omega arith) (omega arith) y.1 z)))

  pub else_fits : (s : TokenSpellings) (a b n q : ℕ) (x : ElseTree) → IsElse x → a < n → q ≤ b → Rises n (else_tokens x) q →
      Segment s.rank a b n q (else_sites s q x)
  else_fits s a b n q no_else w an qb h = (tt, tt)
  else_fits s a b n q (else_if p x) w an qb h =
      let np : n ≤ p = h.0 in
      segment_widen s.rank a b (suc p) q n q (if_sites s q x) (omega arith) (omega arith) (if_fits s a b (suc p) q x w (omega arith) qb h.1)
  else_fits s a b n q (else_block p x) w an qb h =
      let np : n ≤ p = h.0 in
      let r = block_fits s a b (suc p) q x w (omega arith) (omega arith) h.1 in
      let cq : suc (close_of x) ≤ q = r.0 in
      segment_widen s.rank a b (suc p) (close_of x) n q (block_sites s x) (omega arith) (omega arith) r.1
