-- The identifiers of a file have the blocks and scopes of the ranges of the file.
use Rattle.std.proofs.Common.{ℕ, ◌≡◌, ◌<◌, ◌≤◌, List, [], ◌∷◌, ◌++◌, Option, Some, None, Bool, Contains, true, false, refl, arith, suc}
use Rattle.std.specs.Prelude.{bytes_eq, codes, if◌then◌else◌}
use Rattle.std.specs.List.{All, flat_map}
use Rattle.std.proofs.lemmas.List.Elements.{All-head, All-tail}
use Rattle.base_lemmas.proofs.Elements.{first_in, later_in}
use Rattle.go_ast.specs.declared.syntax.Kind.{Kind}
use Rattle.go_ast.specs.declared.syntax.Kind.TheVariants as kind
use Rattle.go_ast.specs.declared.syntax.Token.{Token}
use Rattle.go_ast.specs.Flatten.{sign, sign_if, tokens_if, all_tokens, item_tokens, list_tokens, group_tokens, name_tokens, ident_tokens, basic_tokens}
use Rattle.go_ast.specs.Flatten.{type_tokens, value_tokens, param_tokens, receiver_tokens, result_tokens, block_tokens, statements_tokens, import_tokens}
use Rattle.go_ast.specs.Flatten.{global_tokens, method_tokens, body_tokens, type_spec_tokens, func_tokens, imports_tokens, decl_tokens, flatten}
use Rattle.go_ast.specs.WellFormed.{IsFunc, IsDecl, IsFile, IsBlock}
use Rattle.go_ast.specs.Tree.{Item, Group, single, several, GlobalTree, FieldTree, MethodTree, BodyTree, Other, Struct, Interface, TypeSpecTree}
use Rattle.go_ast.specs.Tree.{ReceiverTree, ParamTree, ResultTree, no_result, one_result, results, FuncTree, ImportTree, ImportsTree, DeclTree, VarDecl}
use Rattle.go_ast.specs.Tree.{TypeDecl, FuncDecl, FileTree, BlockTree, block}
use Rattle.go_scope.specs.declared.model.Block.{Block}
use Rattle.go_scope.specs.declared.model.Block.TheVariants.{Package, File, Inner}
use Rattle.go_scope.specs.declared.model.Role.TheVariants.{Use, Declaring, NotLexical}
use Rattle.go_scope.specs.declared.model.Purpose.TheVariants as purpose
use Rattle.go_scope.specs.Bindings.{may_declare, is_implied, block_of, start_of}
use Rattle.go_scope.specs.Site.{Site, TokenSpellings, site}
use Rattle.go_scope.specs.ExpressionSites.{list_sites, type_sites}
use Rattle.go_scope.specs.StatementSites.{ident_sites, separated_sites, group_sites, open_of, close_of, block_sites}
use Rattle.go_scope.specs.FileSites.{global_name, member_name, spec_sites, global_sites, field_sites, body_sites, type_spec_sites, receiver_sites}
use Rattle.go_scope.specs.FileSites.{param_sites, result_sites, func_role, func_sites, import_name, import_purpose, import_sites, imports_sites, decl_sites}
use Rattle.go_scope.specs.FileSites.{method_sites, file_sites}
use Rattle.go_scope.proofs.Regions.{Each, each_append, each_map, Plain, not_both}
use Rattle.go_scope.proofs.PlainSites.{plain_append, plain_list, plain_type}
use Rattle.go_scope.proofs.StatementRegions.{each_rising}
use Rattle.go_scope.proofs.Rising.{Rises, rises_le, rises_up, rises_split}
use Rattle.go_scope.specs.Named.{is_unnamed_import}
use Rattle.law_blocks.proofs.Others.{IsOther, other_decls}
use Rattle.law_blocks.specs.Ranges.{Range, BlockRange, body_blocks, braced_specs, func_range, signature_range, decl_blocks, decl_specs}
use Rattle.law_blocks.specs.Ranges.{method_range, type_blocks, by_specs, parameters_range, type_specs, file_blocks, file_specs, import_ranges}
use Rattle.law_blocks.specs.Lookup.{Spans, NestOrAreApart, outside, imported, not_imported, IsBlockAt, at_once, IsStartAt}
use Rattle.law_blocks.proofs.Ranged.{Laid, IsRanged, laid_plain, laid_wider, laid_join, laid_plain_before, laid_plain_after, laid_head, laid_together}
use Rattle.law_blocks.proofs.Ranged.{laid_inside, AtSpec}
use Rattle.law_blocks.proofs.Ranged.{spec_plain, range, AtLevel, laid_level, RangesLie, blocks_wider, ranges_wider, blocks_behind, ranges_behind}
use Rattle.law_blocks.proofs.Ranged.{ranges_ahead}
use Rattle.law_blocks.proofs.RangedStatements.{ident_at, idents_at, statements_laid}

no_declaration : {A : Type 0} → false ≡ true → A
no_declaration e = cc

-- declarations in no function

level_plain : (b : Block) (n q : ℕ) (xs : List Site) → Plain xs → Each (AtLevel b n q) xs
level_plain b n q xs p = each_map (λ x. may_declare x.role ≡ false) (AtLevel b n q) (λ x e m. not_both x e m) xs p

level_group : {X : Type 0} (P : Site → Type 0) (k q : ℕ) (tokens : X → List Token) (sites : X → List Site) →
    ((n m : ℕ) (x : X) → k ≤ n → m ≤ q → Rises n (tokens x) m → Each P (sites x)) → (n m : ℕ) (g : Group X) → k ≤ n → m ≤ q →
    Rises n (group_tokens tokens g) m → Each P (spec_sites sites g)
unfolding group_tokens group_sites separated_sites
level_group P k q tokens sites one n m (single x) kn mq h = one n m x kn mq h
level_group P k q tokens sites one n m (several o xs c) kn mq h =
    let r = rises_split (suc o) (list_tokens kind.Semicolon tokens xs) (sign kind.RightParen c ∷ []) m h.1 in
    let no : n ≤ o = h.0 in
    let rc : r.0 ≤ c = r.1.1.0 in
    let cm : suc c ≤ m = r.1.1.1 in
    each_rising P tokens sites kind.Semicolon k q one (suc o) r.0 xs (omega arith) (omega arith) r.1.0

name_at : (s : TokenSpellings) (k q n m i : ℕ) → k ≤ n → m ≤ q → Rises n (name_tokens i) m → Each (AtLevel Package k q) (global_name s i)
name_at s k q n m i kn mq h = ((λ may. (omega (arith, h.0), omega (arith, h.1), refl, refl, refl)), tt)

global_at : (s : TokenSpellings) (k q n m : ℕ) (g : GlobalTree) → k ≤ n → m ≤ q → Rises n (global_tokens g) m → Each (AtLevel Package k q) (global_sites s g)
unfolding global_sites global_tokens
global_at s k q n m g kn mq h =
    let behind = type_tokens g.type_use ++ tokens_if (value_tokens basic_tokens) g.values in
    let r = rises_split n (list_tokens kind.Comma name_tokens g.names) behind m h in
    let rm : r.0 ≤ m = rises_le r.0 behind m r.1.1 in
    each_append (AtLevel Package k q) (list_sites (global_name s) g.names) (type_sites s g.type_use)
    (each_rising (AtLevel Package k q) name_tokens (global_name s) kind.Comma k q (λ i j x ki jq u. name_at s k q i j x ki jq u) n r.0 g.names kn
    (omega arith) r.1.0)
    (level_plain Package k q (type_sites s g.type_use) (plain_type s g.type_use))

plain_member : (s : TokenSpellings) (n : ℕ) → Plain (member_name s n)
plain_member s n = (refl, tt)

plain_field : (s : TokenSpellings) (f : FieldTree) → Plain (field_sites s f)
unfolding field_sites
plain_field s f = plain_append (list_sites (member_name s) f.names) (type_sites s f.type_use) (plain_list (member_name s) (plain_member s) f.names)
    (plain_type s f.type_use)

-- functions

plain_result : (s : TokenSpellings) (r : ResultTree) → Plain (result_sites s r)
unfolding result_sites
plain_result s no_result = tt
plain_result s (one_result t) = plain_type s t
plain_result s (results o ts c) = plain_list (type_sites s) (plain_type s) ts

receiver_at : (s : TokenSpellings) (b : Block) (k q n m : ℕ) (r : ReceiverTree) → k ≤ n → m ≤ q → Rises n (receiver_tokens r) m →
    Each (AtSpec b k q) (receiver_sites s b q r)
unfolding receiver_sites receiver_tokens
receiver_at s b k q n m r kn mq h =
    let nl : n ≤ r.lparen = h.0 in
    let behind = sign_if kind.Star r.star ++ (sign kind.Name r.type_name ∷ (sign_if kind.Comma r.comma ++ (sign kind.RightParen r.rparen ∷ []))) in
    let u = rises_split (suc r.lparen) (ident_tokens r.name) behind m h.1 in
    let um : u.0 ≤ m = rises_le u.0 behind m u.1.1 in
    each_append (AtSpec b k q) (ident_sites s (Declaring b q) r.name) (site s r.type_name Use ∷ [])
    (ident_at s b k q (suc r.lparen) u.0 r.name (omega arith) (omega arith) u.1.0) ((λ m. no_declaration m), tt)

param_at : (s : TokenSpellings) (b : Block) (k q n m : ℕ) (p : ParamTree) → k ≤ n → m ≤ q → Rises n (param_tokens p) m →
    Each (AtSpec b k q) (param_sites s b q p)
unfolding param_sites param_tokens
param_at s b k q n m p kn mq h =
    let u = rises_split n (list_tokens kind.Comma ident_tokens p.names) (type_tokens p.type_use) m h in
    let um : u.0 ≤ m = rises_le u.0 (type_tokens p.type_use) m u.1.1 in
    each_append (AtSpec b k q) (list_sites (ident_sites s (Declaring b q)) p.names) (type_sites s p.type_use)
    (idents_at s b k q n u.0 p.names kn (omega arith) u.1.0) (spec_plain b k q (type_sites s p.type_use) (plain_type s p.type_use))

body_laid : (s : TokenSpellings) (k m : ℕ) (x : BlockTree) → IsBlock x → Rises k (block_tokens x) m →
    (k ≤ open_of x) × (open_of x < close_of x) × (suc (close_of x) ≤ m) ×
    Laid s.rank (Inner s.rank (open_of x) (close_of x)) (suc (open_of x)) (close_of x) (body_blocks x) (braced_specs x) (block_sites s x)
unfolding block_tokens block_sites braced_specs IsBlock
body_laid s k m (block o ss c) w h =
    let r = rises_split (suc o) (statements_tokens ss) (sign kind.RightBrace c ∷ []) m h.1 in
    let rc : r.0 ≤ c = r.1.1.0 in
    let ro : suc o ≤ r.0 = rises_le (suc o) (statements_tokens ss) r.0 r.1.0 in (
      h.0,
      omega arith,
      r.1.1.1,
      statements_laid s (Inner s.rank o c) (suc o) c ss w.1 (rises_up (suc o) (statements_tokens ss) r.0 c rc r.1.0),
    )

-- the parameters, the results and the body of a function, in its block from the token k on
module _ (s : TokenSpellings) (k o c : ℕ) (ps : List (Item ParamTree)) (result : ResultTree) (rs : List BlockRange) (es : List Range) (body : List Site)
    (ko : k ≤ o) (oc : o < c) (laid : Laid s.rank (Inner s.rank o c) (suc o) c rs es body) where
  abbrev own_block : Block
  own_block = Inner s.rank o c

  behind_head : Laid s.rank own_block k c rs (range k o ∷ es) (result_sites s result ++ body)
  behind_head = laid_join s.rank own_block k o c [] rs (range k o ∷ []) es [] (result_sites s result ++ body) ko (omega arith)
      (laid_together s.rank own_block k o [] ko tt)
      (laid_plain_before s.rank own_block o c rs es (result_sites s result) body (plain_result s result)
      (laid_wider s.rank own_block (suc o) c o c rs es body (omega arith) (omega arith) laid))

  pub headed : (xs ys : List Site) → Each (AtSpec own_block k o) xs → Laid s.rank own_block k c rs (range k o ∷ es) ys →
      Laid s.rank own_block k c rs (range k o ∷ es) (xs ++ ys)
  headed xs ys h y = laid_head s.rank own_block k o c rs es xs ys ko (omega arith)
      (blocks_wider (suc o) c o c rs (omega arith) (omega arith) laid.blocks)
      (ranges_wider (suc o) c o c es (omega arith) (omega arith) laid.specs) h y

  pub with_params : (n m : ℕ) → k ≤ n → m ≤ o → Rises n (list_tokens kind.Comma param_tokens ps) m →
      Laid s.rank own_block k c rs (range k o ∷ es) (list_sites (param_sites s own_block o) ps ++ (result_sites s result ++ body))
  with_params n m kn mo h = headed (list_sites (param_sites s own_block o) ps) (result_sites s result ++ body)
      (each_rising (AtSpec own_block k o) param_tokens (param_sites s own_block o) kind.Comma k o
      (λ i j p ki jo r. param_at s own_block k o i j p ki jo r) n m ps kn mo h) behind_head

-- type definitions

-- identifiers of a list, or of a group, where those of each item have the blocks and scopes of its ranges
module _ {X : Type 0} (rank : ℕ) (tokens : X → List Token) (sites : X → List Site) (blocks : X → List BlockRange) (specs : X → List Range)
    (one : (n m : ℕ) (x : X) → Rises n (tokens x) m → Laid rank Package n m (blocks x) (specs x) (sites x)) where
  listed_laid : (k : Kind) (n m : ℕ) (xs : List (Item X)) → Rises n (list_tokens k tokens xs) m →
      Laid rank Package n m (flat_map (λ (i : Item X). blocks i.value) xs) (flat_map (λ (i : Item X). specs i.value) xs) (list_sites sites xs)
  unfolding all_tokens
  listed_laid k n m [] h = laid_plain rank Package n m [] tt
  listed_laid k n m (x ∷ xs) h =
      let r = rises_split n (item_tokens k tokens x) (list_tokens k tokens xs) m h in
      let nr : n ≤ r.0 = rises_le n (item_tokens k tokens x) r.0 r.1.0 in
      let rm : r.0 ≤ m = rises_le r.0 (list_tokens k tokens xs) m r.1.1 in
      let v = rises_split n (tokens x.value) (sign_if k x.separator) r.0 r.1.0 in
      let vr : v.0 ≤ r.0 = rises_le v.0 (sign_if k x.separator) r.0 v.1.1 in
      laid_join rank Package n r.0 m (blocks x.value) (flat_map (λ (i : Item X). blocks i.value) xs) (specs x.value)
      (flat_map (λ (i : Item X). specs i.value) xs) (sites x.value) (list_sites sites xs) nr rm
      (laid_wider rank Package n v.0 n r.0 (blocks x.value) (specs x.value) (sites x.value) (omega arith) vr (one n v.0 x.value v.1.0))
      (listed_laid k r.0 m xs r.1.1)

  grouped_laid : (n m : ℕ) (g : Group X) → Rises n (group_tokens tokens g) m →
      Laid rank Package n m (by_specs blocks g) (by_specs specs g) (spec_sites sites g)
  unfolding group_tokens group_sites separated_sites
  grouped_laid n m (single x) h = one n m x h
  grouped_laid n m (several o xs c) h =
      let no : n ≤ o = h.0 in
      let r = rises_split (suc o) (list_tokens kind.Semicolon tokens xs) (sign kind.RightParen c ∷ []) m h.1 in
      let rc : r.0 ≤ c = r.1.1.0 in
      let cm : suc c ≤ m = r.1.1.1 in
      laid_wider rank Package (suc o) r.0 n m (by_specs blocks (several o xs c)) (by_specs specs (several o xs c)) (list_sites sites xs) (omega arith)
      (omega arith) (listed_laid kind.Semicolon (suc o) r.0 xs r.1.0)

-- the parameters of a method that an interface asks for, in a block of their own
method_laid : (s : TokenSpellings) (n m : ℕ) (x : MethodTree) → Rises n (method_tokens x) m →
    Laid s.rank Package n m (method_range x ∷ []) (parameters_range x ∷ []) (method_sites s x)
unfolding method_tokens method_sites
method_laid s n m x h =
    let o = x.lparen in
    let c = x.rparen in
    let b = Inner s.rank o c in
    let nx : n ≤ x.name = h.0 in
    let xo : suc x.name ≤ o = h.1.0 in
    let u = rises_split (suc o) (list_tokens kind.Comma param_tokens x.params) (sign kind.RightParen c ∷ result_tokens x.result) m h.1.1 in
    let ou : suc o ≤ u.0 = rises_le (suc o) (list_tokens kind.Comma param_tokens x.params) u.0 u.1.0 in
    let uc : u.0 ≤ c = u.1.1.0 in
    let cm : suc c ≤ m = rises_le (suc c) (result_tokens x.result) m u.1.1.1 in
    let ps = list_sites (param_sites s b c) x.params in
    let rs = method_range x ∷ [] in
    let es = parameters_range x ∷ [] in
    let inside = laid_together s.rank b o c ps (omega arith)
    (each_rising (AtSpec b o c) param_tokens (param_sites s b c) kind.Comma o c (λ i j p oi jc r. param_at s b o c i j p oi jc r) (suc o) u.0 x.params
    (omega arith) uc u.1.0) in
    laid_plain_before s.rank Package n m rs es (member_name s x.name) (ps ++ result_sites s x.result) (plain_member s x.name)
    (laid_plain_after s.rank Package n m rs es ps (result_sites s x.result)
    (laid_wider s.rank Package o c n m rs es ps (omega arith) (omega arith)
    (laid_inside s.rank Package (method_range x) [] es ps (omega arith) tt inside)) (plain_result s x.result))

type_laid : (s : TokenSpellings) (n m : ℕ) (t : BodyTree) → Rises n (body_tokens t) m →
    Laid s.rank Package n m (type_blocks t) (type_specs t) (body_sites s t)
unfolding body_tokens body_sites
type_laid s n m (Other t) h = laid_plain s.rank Package n m (type_sites s t) (plain_type s t)
type_laid s n m (Struct p o fs c) h = laid_plain s.rank Package n m (list_sites (field_sites s) fs) (plain_list (field_sites s) (plain_field s) fs)
type_laid s n m (Interface p o ms c) h =
    let np : n ≤ p = h.0 in
    let po : suc p ≤ o = h.1.0 in
    let r = rises_split (suc o) (list_tokens kind.Semicolon method_tokens ms) (sign kind.RightBrace c ∷ []) m h.1.1 in
    let rc : r.0 ≤ c = r.1.1.0 in
    let cm : suc c ≤ m = r.1.1.1 in
    laid_wider s.rank Package (suc o) r.0 n m (type_blocks (Interface p o ms c)) (type_specs (Interface p o ms c)) (list_sites (method_sites s) ms)
    (omega arith) (omega arith)
    (listed_laid s.rank method_tokens (method_sites s) (λ x. method_range x ∷ []) (λ x. parameters_range x ∷ []) (method_laid s) kind.Semicolon (suc o) r.0 ms
    r.1.0)

type_spec_laid : (s : TokenSpellings) (n m : ℕ) (t : TypeSpecTree) → Rises n (type_spec_tokens t) m →
    Laid s.rank Package n m (type_blocks t.body) (type_specs t.body) (type_spec_sites s t)
unfolding type_spec_sites type_spec_tokens
type_spec_laid s n m t h =
    let nt : n ≤ t.name = h.0 in
    let le : suc t.name ≤ m = rises_le (suc t.name) (body_tokens t.body) m h.1 in
    laid_join s.rank Package n (suc t.name) m [] (type_blocks t.body) [] (type_specs t.body) (global_name s t.name) (body_sites s t.body) (omega arith) le
    (laid_level s.rank Package n (suc t.name) (global_name s t.name)
    (name_at s n (suc t.name) n (suc t.name) t.name (omega arith) (omega arith) (nt, omega arith)))
    (type_laid s (suc t.name) m t.body h.1)

named_at : (s : TokenSpellings) (n q i : ℕ) (b : Bool) → n ≤ i → i < q →
    AtLevel Package n q (site s i (if b then NotLexical purpose.InitFunction else Declaring Package 0))
named_at s n q i true ni iq = λ m. no_declaration m
named_at s n q i false ni iq = λ m. (ni, iq, refl, refl, refl)

-- the tokens of a receiver from its parenthesis on
receiver_first : (n m : ℕ) (r : ReceiverTree) → Rises n (receiver_tokens r) m → (n ≤ r.lparen) × (suc r.lparen ≤ m) × Rises r.lparen (receiver_tokens r) m
unfolding receiver_tokens
receiver_first n m r h =
    let behind = ident_tokens r.name ++ (sign_if kind.Star r.star ++
    (sign kind.Name r.type_name ∷ (sign_if kind.Comma r.comma ++ (sign kind.RightParen r.rparen ∷ [])))) in
    (h.0, rises_le (suc r.lparen) behind m h.1, (omega arith, h.1))

func_with : (s : TokenSpellings) (n m : ℕ) (receiver : Option ReceiverTree) (name lparen : ℕ) (params : List (Item ParamTree)) (rparen : ℕ)
    (result : ResultTree) (body : BlockTree) → IsBlock body → let f : FuncTree = record {
      receiver = receiver;
      name = name;
      lparen = lparen;
      params = params;
      rparen = rparen;
      result = result;
      body = body;
    } in
    Rises n (func_tokens f) m →
    Laid s.rank Package n m (func_range f ∷ body_blocks body) (signature_range f ∷ braced_specs body) (func_sites s f)
unfolding func_tokens func_sites
func_with s n m None name lparen params rparen result body w h =
    let o = open_of body in
    let c = close_of body in
    let B = Inner s.rank o c in
    let nn : n ≤ name = h.0 in
    let nl : suc name ≤ lparen = h.1.0 in
    let behind = sign kind.RightParen rparen ∷ (result_tokens result ++ block_tokens body) in
    let u = rises_split (suc lparen) (list_tokens kind.Comma param_tokens params) behind m h.1.1 in
    let lu : suc lparen ≤ u.0 = rises_le (suc lparen) (list_tokens kind.Comma param_tokens params) u.0 u.1.0 in
    let ur : u.0 ≤ rparen = u.1.1.0 in
    let v = rises_split (suc rparen) (result_tokens result) (block_tokens body) m u.1.1.1 in
    let rv : suc rparen ≤ v.0 = rises_le (suc rparen) (result_tokens result) v.0 v.1.0 in
    let y = body_laid s v.0 m body w v.1.1 in
    let vo : v.0 ≤ o = y.0 in
    let oc : o < c = y.1 in
    let cm : suc c ≤ m = y.2 in
    let rs = body_blocks body in
    let es = braced_specs body in
    let xs = list_sites (param_sites s B o) params ++ (result_sites s result ++ block_sites s body) in
    let z = with_params s lparen o c params result rs es (block_sites s body) (omega arith) oc y.3 (suc lparen) u.0 (omega arith) (omega arith) u.1.0 in
    let named = site s name (func_role None (s.spell name)) in
    laid_join s.rank Package n lparen m [] (record { first = lparen; from = o; last = c } ∷ rs) [] (range lparen o ∷ es) (named ∷ []) xs (omega arith)
    (omega arith)
    (laid_level s.rank Package n lparen (named ∷ []) (named_at s n lparen name (bytes_eq (s.spell name) (codes "init")) nn (omega arith), tt))
    (laid_wider s.rank Package lparen c lparen m (record { first = lparen; from = o; last = c } ∷ rs) (range lparen o ∷ es) xs (omega arith) (omega arith)
    (laid_inside s.rank Package (record { first = lparen; from = o; last = c }) rs (range lparen o ∷ es) xs (omega arith)
    (blocks_wider (suc o) c (suc lparen) c rs (omega arith) (omega arith) y.3.blocks) z))
func_with s n m (Some r) name lparen params rparen result body w h =
    let o = open_of body in
    let c = close_of body in
    let B = Inner s.rank o c in
    let k = r.lparen in
    let tail = sign kind.Name name ∷ sign kind.LeftParen lparen ∷
    (list_tokens kind.Comma param_tokens params ++ (sign kind.RightParen rparen ∷ (result_tokens result ++ block_tokens body))) in
    let t = rises_split n (receiver_tokens r) tail m h in
    let at = receiver_first n t.0 r t.1.0 in
    let nk : n ≤ k = at.0 in
    let kt : suc k ≤ t.0 = at.1 in
    let tn : t.0 ≤ name = t.1.1.0 in
    let nl : suc name ≤ lparen = t.1.1.1.0 in
    let behind = sign kind.RightParen rparen ∷ (result_tokens result ++ block_tokens body) in
    let u = rises_split (suc lparen) (list_tokens kind.Comma param_tokens params) behind m t.1.1.1.1 in
    let lu : suc lparen ≤ u.0 = rises_le (suc lparen) (list_tokens kind.Comma param_tokens params) u.0 u.1.0 in
    let ur : u.0 ≤ rparen = u.1.1.0 in
    let v = rises_split (suc rparen) (result_tokens result) (block_tokens body) m u.1.1.1 in
    let rv : suc rparen ≤ v.0 = rises_le (suc rparen) (result_tokens result) v.0 v.1.0 in
    let y = body_laid s v.0 m body w v.1.1 in
    let vo : v.0 ≤ o = y.0 in
    let oc : o < c = y.1 in
    let cm : suc c ≤ m = y.2 in
    let rs = body_blocks body in
    let es = braced_specs body in
    let xs = list_sites (param_sites s B o) params ++ (result_sites s result ++ block_sites s body) in
    let named = site s name (NotLexical purpose.Member) in
    let z = with_params s k o c params result rs es (block_sites s body) (omega arith) oc y.3 (suc lparen) u.0 (omega arith) (omega arith) u.1.0 in
    let all = headed s k o c params result rs es (block_sites s body) (omega arith) oc y.3 (receiver_sites s B o r) (named ∷ xs)
    (receiver_at s B k o k t.0 r (omega arith) (omega arith) at.2)
    (laid_plain_before s.rank B k c rs (range k o ∷ es) (named ∷ []) xs (refl, tt) z) in
    laid_wider s.rank Package k c n m (record { first = k; from = o; last = c } ∷ rs) (range k o ∷ es) (receiver_sites s B o r ++ (named ∷ xs)) nk
    (omega arith)
    (laid_inside s.rank Package (record { first = k; from = o; last = c }) rs (range k o ∷ es) (receiver_sites s B o r ++ (named ∷ xs)) (omega arith)
    (blocks_wider (suc o) c (suc k) c rs (omega arith) (omega arith) y.3.blocks) all)

func_laid : (s : TokenSpellings) (n m : ℕ) (f : FuncTree) → IsFunc f → Rises n (func_tokens f) m →
    Laid s.rank Package n m (func_range f ∷ body_blocks f.body) (signature_range f ∷ braced_specs f.body) (func_sites s f)
func_laid s n m f w h = func_with s n m f.receiver f.name f.lparen f.params f.rparen f.result f.body w.body h

decl_laid : (s : TokenSpellings) (n m : ℕ) (d : DeclTree) → IsDecl d → Rises n (decl_tokens d) m →
    Laid s.rank Package n m (decl_blocks d) (decl_specs d) (decl_sites s d)
unfolding decl_tokens decl_sites
decl_laid s n m (VarDecl k g semicolon) w h =
    let nk : n ≤ k = h.0 in
    let r = rises_split (suc k) (group_tokens global_tokens g) (sign kind.Semicolon semicolon ∷ []) m h.1 in
    let rm : r.0 ≤ m = rises_le r.0 (sign kind.Semicolon semicolon ∷ []) m r.1.1 in
    laid_level s.rank Package n m (spec_sites (global_sites s) g)
    (level_group (AtLevel Package n m) n m global_tokens (global_sites s) (λ i j x ni jm u. global_at s n m i j x ni jm u) (suc k) r.0 g (omega arith) rm r.1.0)
decl_laid s n m (TypeDecl k g semicolon) w h =
    let nk : n ≤ k = h.0 in
    let r = rises_split (suc k) (group_tokens type_spec_tokens g) (sign kind.Semicolon semicolon ∷ []) m h.1 in
    let rm : r.0 ≤ m = rises_le r.0 (sign kind.Semicolon semicolon ∷ []) m r.1.1 in
    let rs = by_specs (λ (t : TypeSpecTree). type_blocks t.body) g in
    let es = by_specs (λ (t : TypeSpecTree). type_specs t.body) g in
    laid_wider s.rank Package (suc k) r.0 n m rs es (spec_sites (type_spec_sites s) g) (omega arith) rm
    (grouped_laid s.rank type_spec_tokens (type_spec_sites s) (λ t. type_blocks t.body) (λ t. type_specs t.body) (type_spec_laid s) (suc k) r.0 g r.1.0)
decl_laid s n m (FuncDecl k f semicolon) w h =
    let nk : n ≤ k = h.0 in
    let r = rises_split (suc k) (func_tokens f) (sign kind.Semicolon semicolon ∷ []) m h.1 in
    let rm : r.0 ≤ m = rises_le r.0 (sign kind.Semicolon semicolon ∷ []) m r.1.1 in
    laid_wider s.rank Package (suc k) r.0 n m (func_range f ∷ body_blocks f.body) (signature_range f ∷ braced_specs f.body) (func_sites s f) (omega arith) rm
    (func_laid s (suc k) r.0 f w r.1.0)

decls_laid : (s : TokenSpellings) (n m : ℕ) (ds : List DeclTree) → All IsDecl ds → Rises n (all_tokens decl_tokens ds) m →
    Laid s.rank Package n m (flat_map decl_blocks ds) (flat_map decl_specs ds) (flat_map (decl_sites s) ds)
unfolding all_tokens
decls_laid s n m [] w h = laid_plain s.rank Package n m [] tt
decls_laid s n m (d ∷ ds) w h =
    let r = rises_split n (decl_tokens d) (all_tokens decl_tokens ds) m h in
    let nr : n ≤ r.0 = rises_le n (decl_tokens d) r.0 r.1.0 in
    let rm : r.0 ≤ m = rises_le r.0 (all_tokens decl_tokens ds) m r.1.1 in
    laid_join s.rank Package n r.0 m (decl_blocks d) (flat_map decl_blocks ds) (decl_specs d) (flat_map decl_specs ds) (decl_sites s d)
    (flat_map (decl_sites s) ds) nr rm (decl_laid s n r.0 d (All-head IsDecl d ds w) r.1.0) (decls_laid s r.0 m ds (All-tail IsDecl d ds w) r.1.1)

-- imports

-- an identifier of an import, from the token k on, before q
abbrev AtImport : TokenSpellings → ℕ → ℕ → Site → Type 0
AtImport s k q x = (k ≤ x.place.index) × (x.place.index < q) ×
    (may_declare x.role ≡ true → (block_of x.role ≡ File s.rank) × (start_of x.role ≡ 0) × (is_implied x.role ≡ false))

import_name_at : (s : TokenSpellings) (k q n m : ℕ) (x : Option ℕ) → k ≤ n → m ≤ q → Rises n (sign_if kind.Name x) m → Each (AtImport s k q) (import_name s x)
import_name_at s k q n m None kn mq h = tt
import_name_at s k q n m (Some i) kn mq h = ((omega (arith, h.0), omega (arith, h.1), λ may. (refl, refl, refl)), tt)

import_at : (s : TokenSpellings) (k q n m : ℕ) (i : ImportTree) → k ≤ n → m ≤ q → Rises n (import_tokens i) m → Each (AtImport s k q) (import_sites s i)
unfolding import_sites import_tokens
import_at s k q n m i kn mq h =
    let r = rises_split n (sign_if kind.Name i.name) (sign kind.Text i.path ∷ []) m h in
    let nr : n ≤ r.0 = rises_le n (sign_if kind.Name i.name) r.0 r.1.0 in
    let rp : r.0 ≤ i.path = r.1.1.0 in
    let pm : suc i.path ≤ m = r.1.1.1 in
    each_append (AtImport s k q) (import_name s i.name) (site s i.path (NotLexical (import_purpose i.name)) ∷ [])
    (import_name_at s k q n r.0 i.name kn (omega arith) r.1.0) ((omega arith, omega arith, λ m. no_declaration m), tt)

abbrev import_range : ImportsTree → Range
import_range i = range i.keyword i.semicolon

abbrev ranges_of : List ImportsTree → List Range
ranges_of is = flat_map (λ i. record { first = i.keyword; last = i.semicolon } ∷ []) is

-- an identifier of one of these imports, before the token q
abbrev InImports : TokenSpellings → ℕ → List Range → Site → Type 0
InImports s q is x = (r : Range) × (Contains is r × Spans r x.place.index × (x.place.index < q) ×
    (may_declare x.role ≡ true → (block_of x.role ≡ File s.rank) × (start_of x.role ≡ 0) × (is_implied x.role ≡ false)))

imports_in : (s : TokenSpellings) (n q : ℕ) (i : ImportsTree) (is : List Range) → Rises n (imports_tokens i) q →
    Each (InImports s q (import_range i ∷ is)) (imports_sites s i)
unfolding imports_sites imports_tokens
imports_in s n q i is h =
    let r = rises_split (suc i.keyword) (group_tokens import_tokens i.imports) (sign kind.Semicolon i.semicolon ∷ []) q h.1 in
    let rs : r.0 ≤ i.semicolon = r.1.1.0 in
    let sq : suc i.semicolon ≤ q = r.1.1.1 in
    each_map (AtImport s i.keyword i.semicolon) (InImports s q (import_range i ∷ is)) (λ x y.
    (let high : x.place.index < i.semicolon = y.1 in (import_range i, (first_in (import_range i) is, (y.0, y.1), omega arith, y.2))))
    (spec_sites (import_sites s) i.imports)
    (level_group (AtImport s i.keyword i.semicolon) i.keyword i.semicolon import_tokens (import_sites s)
    (λ a b x ka bq u. import_at s i.keyword i.semicolon a b x ka bq u) (suc i.keyword) r.0 i.imports (omega arith) rs r.1.0)

imports_end : (n q : ℕ) (i : ImportsTree) → Rises n (imports_tokens i) q → (n ≤ i.keyword) × (i.semicolon < q)
unfolding imports_tokens
imports_end n q i h =
    let r = rises_split (suc i.keyword) (group_tokens import_tokens i.imports) (sign kind.Semicolon i.semicolon ∷ []) q h.1 in
    (h.0, omega (arith, r.1.1.1))

all_imports_in : (s : TokenSpellings) (n q : ℕ) (is : List ImportsTree) → Rises n (all_tokens imports_tokens is) q →
    RangesLie n q (ranges_of is) × Each (InImports s q (ranges_of is)) (flat_map (imports_sites s) is)
unfolding all_tokens
all_imports_in s n q [] h = (tt, tt)
all_imports_in s n q (i ∷ is) h =
    let r = rises_split n (imports_tokens i) (all_tokens imports_tokens is) q h in
    let nr : n ≤ r.0 = rises_le n (imports_tokens i) r.0 r.1.0 in
    let rq : r.0 ≤ q = rises_le r.0 (all_tokens imports_tokens is) q r.1.1 in
    let ends = imports_end n r.0 i r.1.0 in
    let sr : i.semicolon < r.0 = ends.1 in
    let rest = all_imports_in s r.0 q is r.1.1 in (
      ((ends.0, omega arith), ranges_wider r.0 q n q (ranges_of is) nr (omega arith) rest.0),
      each_append (InImports s q (ranges_of (i ∷ is))) (imports_sites s i) (flat_map (imports_sites s) is)
          (each_map (InImports s r.0 (ranges_of (i ∷ is))) (InImports s q (ranges_of (i ∷ is))) (λ x y.
          (let high : x.place.index < r.0 = y.1.2 in (y.0, (y.1.0, y.1.1, omega arith, y.1.3))))
          (imports_sites s i) (imports_in s n r.0 i (ranges_of is) r.1.0))
          (each_map (InImports s q (ranges_of is)) (InImports s q (ranges_of (i ∷ is))) (λ x y.
          (y.0, (later_in (import_range i) (ranges_of is) y.0 y.1.0, y.1.1, y.1.2, y.1.3)))
          (flat_map (imports_sites s) is) rest.1),
    )

-- files

-- the block and the start of the scope of a declaration are those that the ranges of the file give
abbrev pub IsFound : ℕ → FileTree → Site → Type 0
IsFound rank f x = may_declare x.role ≡ true →
    (is_implied x.role ≡ false) × IsBlockAt rank f x.place.index (block_of x.role) × IsStartAt f x.place.index (start_of x.role)

pub file_found : (s : TokenSpellings) (m : ℕ) (f : FileTree) → IsFile f → Rises 0 (flatten f) m → Each (IsFound s.rank f) (file_sites s f)
unfolding flatten file_sites
file_found s m f w h =
    let r = rises_split (suc f.semicolon) (all_tokens imports_tokens f.imports) (all_tokens decl_tokens f.decls) m h.1.1.1 in
    let imports = all_imports_in s (suc f.semicolon) r.0 f.imports r.1.0 in
    let decls = decls_laid s r.0 m f.decls w.decls r.1.1 in (
      (λ may. no_declaration may),
      each_append (IsFound s.rank f) (flat_map (imports_sites s) f.imports) (flat_map (decl_sites s) f.decls)
          (each_map (InImports s r.0 (import_ranges f)) (IsFound s.rank f) (λ x y may.
          (let high : x.place.index < r.0 = y.1.2 in
          let told = y.1.3 may in (
            told.2,
            record {
              outer = File s.rank;
              is_outer = imported y.0 y.1.0 y.1.1 refl;
              among = outside (blocks_behind r.0 m x.place.index (file_blocks f) high decls.blocks) told.0;
            },
            at_once (ranges_behind r.0 m x.place.index (file_specs f) high decls.specs) told.1,
          ))) (flat_map (imports_sites s) f.imports) imports.1)
          (each_map (IsRanged s.rank Package r.0 m (file_blocks f) (file_specs f)) (IsFound s.rank f) (λ x a may.
          (let y = a may in (
            y.written,
            record {
              outer = Package;
              is_outer = not_imported (ranges_ahead (suc f.semicolon) r.0 x.place.index (import_ranges f) y.low imports.0) refl;
              among = y.block;
            },
            y.start,
          ))) (flat_map (decl_sites s) f.decls) decls.each),
    )

-- the string literal of an import without a name has the block of the file, from its start on
abbrev pub IsLiteralFound : ℕ → FileTree → Site → Type 0
IsLiteralFound rank f x = is_unnamed_import x.role ≡ true → IsBlockAt rank f x.place.index (File rank) × IsStartAt f x.place.index 0

no_literal : {A : Type 0} (x : Site) → IsOther x → is_unnamed_import x.role ≡ true → A
no_literal x e k = cc

pub literals_found : (s : TokenSpellings) (m : ℕ) (f : FileTree) → IsFile f → Rises 0 (flatten f) m → Each (IsLiteralFound s.rank f) (file_sites s f)
unfolding flatten file_sites
literals_found s m f w h =
    let r = rises_split (suc f.semicolon) (all_tokens imports_tokens f.imports) (all_tokens decl_tokens f.decls) m h.1.1.1 in
    let imports = all_imports_in s (suc f.semicolon) r.0 f.imports r.1.0 in
    let decls = decls_laid s r.0 m f.decls w.decls r.1.1 in (
      (λ unnamed. no_declaration unnamed),
      each_append (IsLiteralFound s.rank f) (flat_map (imports_sites s) f.imports) (flat_map (decl_sites s) f.decls)
          (each_map (InImports s r.0 (import_ranges f)) (IsLiteralFound s.rank f) (λ x y unnamed.
          (let high : x.place.index < r.0 = y.1.2 in (
            record {
              outer = File s.rank;
              is_outer = imported y.0 y.1.0 y.1.1 refl;
              among = outside (blocks_behind r.0 m x.place.index (file_blocks f) high decls.blocks) refl;
            },
            at_once (ranges_behind r.0 m x.place.index (file_specs f) high decls.specs) refl,
          ))) (flat_map (imports_sites s) f.imports) imports.1)
          (each_map IsOther (IsLiteralFound s.rank f) (λ x e unnamed. no_literal x e unnamed) (flat_map (decl_sites s) f.decls)
          (other_decls s f.decls)),
    )

pub file_nests : (s : TokenSpellings) (m : ℕ) (f : FileTree) → IsFile f → Rises 0 (flatten f) m → NestOrAreApart (file_blocks f)
unfolding flatten
file_nests s m f w h =
    let r = rises_split (suc f.semicolon) (all_tokens imports_tokens f.imports) (all_tokens decl_tokens f.decls) m h.1.1.1 in
    (decls_laid s r.0 m f.decls w.decls r.1.1).nest
