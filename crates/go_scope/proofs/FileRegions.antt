-- The identifiers of a file whose tokens rise fit into the region of the file.
use Rattle.std.proofs.Common.{ℕ, ◌≡◌, ◌<◌, ◌≤◌, List, [], ◌∷◌, ◌++◌, Option, Some, None, Bool, true, false, refl, arith, suc, inl}
use Rattle.std.specs.Prelude.{bytes_eq, codes, if◌then◌else◌}
use Rattle.std.specs.List.{All, flat_map}
use Rattle.std.proofs.lemmas.List.Elements.{All-head, All-tail}
use Rattle.go_scope.specs.declared.model.Block.TheVariants.{Package, File, Inner}
use Rattle.go_scope.specs.declared.model.Role.{Role}
use Rattle.go_scope.specs.declared.model.Role.TheVariants.{Use, Declaring, NotLexical}
use Rattle.go_scope.specs.declared.model.Purpose.TheVariants as purpose
use Rattle.go_scope.specs.Bindings.{may_declare}
use Rattle.go_scope.specs.Site.{Site, TokenSpellings, site}
use Rattle.go_scope.specs.ExpressionSites.{sites_if, list_sites, type_sites}
use Rattle.go_scope.specs.StatementSites.{ident_sites, separated_sites, group_sites, open_of, close_of, block_sites}
use Rattle.go_scope.specs.FileSites.{global_name, member_name, spec_sites, global_sites, field_sites, body_sites, type_spec_sites, receiver_sites}
use Rattle.go_scope.specs.FileSites.{param_sites, result_sites, func_role, func_sites, import_name, import_purpose, import_sites, imports_sites, decl_sites}
use Rattle.go_scope.specs.FileSites.{method_sites, file_sites}
use Rattle.go_scope.proofs.Regions.{Each, each_append, Segment, segment_plain_after, segment_together, segment_join}
use Rattle.go_scope.proofs.Regions.{segment_widen, segment_outward, Plain, segment_plain_before, Flat, Level}
use Rattle.go_scope.proofs.Regions.{segment_level, level_plain, Together, segment_head, together_plain}
use Rattle.go_scope.proofs.PlainSites.{plain_append, plain_list, plain_type}
use Rattle.go_scope.proofs.StatementRegions.{each_rising, idents_together, ident_together, statements_fits}
use Rattle.go_scope.proofs.Rising.{Rises, rises_le, rises_up, rises_down, rises_split}
use Rattle.go_ast.specs.declared.syntax.Kind.TheVariants as kind
use Rattle.go_ast.specs.declared.syntax.Kind.{Kind}
use Rattle.go_ast.specs.declared.syntax.Token.{Token}
use Rattle.go_ast.specs.Flatten.{sign, sign_if, tokens_if, all_tokens, item_tokens, list_tokens, group_tokens, ident_tokens, type_tokens, param_tokens}
use Rattle.go_ast.specs.Flatten.{field_tokens, method_tokens, body_tokens, receiver_tokens, result_tokens, block_tokens}
use Rattle.go_ast.specs.Flatten.{statements_tokens, global_tokens, type_spec_tokens, func_tokens, imports_tokens, decl_tokens, flatten}
use Rattle.go_ast.specs.WellFormed.{IsFunc, IsDecl, IsFile, IsBlock}
use Rattle.go_ast.specs.Tree.{Item, Group, single, several, GlobalTree, FieldTree, BodyTree, Other, Struct, TypeSpecTree, ReceiverTree, ParamTree}
use Rattle.go_ast.specs.Tree.{ResultTree, no_result, one_result, results, FuncTree, ImportTree, ImportsTree, DeclTree, VarDecl, TypeDecl, FuncDecl}
use Rattle.go_ast.specs.Tree.{MethodTree, Interface, FileTree, BlockTree, block}

level_append : (xs ys : List Site) → Level xs → Level ys → Level (xs ++ ys)
level_append xs ys a b = each_append (λ x. may_declare x.role ≡ true → Flat x) xs ys a b

level_list : {X : Type 0} → (f : X → List Site) → ((x : X) → Level (f x)) → (xs : List (Item X)) → Level (list_sites f xs)
level_list f h [] = tt
level_list f h (x ∷ xs) = level_append (f x.value) (list_sites f xs) (h x.value) (level_list f h xs)

level_group : {X : Type 0} → (f : X → List Site) → ((x : X) → Level (f x)) → (g : Group X) → Level (spec_sites f g)
unfolding group_sites separated_sites
level_group f h (single x) = h x
level_group f h (several o xs c) = level_list f h xs

flat_package : (s : TokenSpellings) (i : ℕ) → Flat (site s i (Declaring Package 0))
flat_package s i = record { apart = λ f a b e. cc; start = refl; not_left = λ e. cc }

flat_file : (s : TokenSpellings) (i : ℕ) → Flat (site s i (Declaring (File s.rank) 0))
flat_file s i = record { apart = λ f a b e. cc; start = refl; not_left = λ e. cc }

level_name : (s : TokenSpellings) (n : ℕ) → Level (global_name s n)
level_name s n = ((λ m. flat_package s n), tt)

plain_member : (s : TokenSpellings) (n : ℕ) → Plain (member_name s n)
plain_member s n = (refl, tt)

level_global : (s : TokenSpellings) (g : GlobalTree) → Level (global_sites s g)
unfolding global_sites
level_global s g = level_append (list_sites (global_name s) g.names) (type_sites s g.type_use) (level_list (global_name s) (level_name s) g.names)
    (level_plain (type_sites s g.type_use) (plain_type s g.type_use))

plain_field : (s : TokenSpellings) (f : FieldTree) → Plain (field_sites s f)
unfolding field_sites
plain_field s f = plain_append (list_sites (member_name s) f.names) (type_sites s f.type_use) (plain_list (member_name s) (plain_member s) f.names)
    (plain_type s f.type_use)

level_import_name : (s : TokenSpellings) (n : Option ℕ) → Level (import_name s n)
level_import_name s None = tt
level_import_name s (Some n) = ((λ m. flat_file s n), tt)

level_import : (s : TokenSpellings) (i : ImportTree) → Level (import_sites s i)
unfolding import_sites
level_import s i =
    level_append (import_name s i.name) (site s i.path (NotLexical (import_purpose i.name)) ∷ []) (level_import_name s i.name)
    (level_plain (site s i.path (NotLexical (import_purpose i.name)) ∷ []) (refl, tt))

level_imports : (s : TokenSpellings) (i : ImportsTree) → Level (imports_sites s i)
unfolding imports_sites
level_imports s i = level_group (import_sites s) (level_import s) i.imports

level_all_imports : (s : TokenSpellings) (xs : List ImportsTree) → Level (flat_map (imports_sites s) xs)
level_all_imports s [] = tt
level_all_imports s (x ∷ xs) = level_append (imports_sites s x) (flat_map (imports_sites s) xs) (level_imports s x) (level_all_imports s xs)

absurd_may : {A : Type 0} → false ≡ true → A
absurd_may e = cc

-- functions

plain_result : (s : TokenSpellings) (r : ResultTree) → Plain (result_sites s r)
unfolding result_sites
plain_result s no_result = tt
plain_result s (one_result t) = plain_type s t
plain_result s (results o ts c) = plain_list (type_sites s) (plain_type s) ts

-- the receiver and the parameters of a body from o to c, whose scopes begin with it

abbrev Head : TokenSpellings → ℕ → ℕ → List Site → Type 0
Head s o c xs = Each (Together s.rank o c o o) xs

head_append : (s : TokenSpellings) (o c : ℕ) (xs ys : List Site) → Head s o c xs → Head s o c ys → Head s o c (xs ++ ys)
head_append s o c xs ys a b = each_append (Together s.rank o c o o) xs ys a b

head_receiver : (s : TokenSpellings) (o c n m : ℕ) (r : Option ReceiverTree) → m ≤ o → Rises n (tokens_if receiver_tokens r) m →
    Head s o c (sites_if (receiver_sites s (Inner s.rank o c) o) r)
unfolding receiver_sites receiver_tokens
head_receiver s o c n m None mo h = tt
head_receiver s o c n m (Some r) mo h =
    let behind = sign_if kind.Star r.star ++ (sign kind.Name r.type_name ∷ (sign_if kind.Comma r.comma ++ (sign kind.RightParen r.rparen ∷ []))) in
    let u = rises_split (suc r.lparen) (ident_tokens r.name) behind m h.1 in
    let um : u.0 ≤ m = rises_le u.0 behind m u.1.1 in
    head_append s o c (ident_sites s (Declaring (Inner s.rank o c) o) r.name) (site s r.type_name Use ∷ [])
    (ident_together s o c o o (suc r.lparen) u.0 r.name (omega arith) u.1.0) ((λ m. absurd_may m), tt)

-- parameters of a block from o to c, whose scopes begin at q
param_together : (s : TokenSpellings) (o c q n m : ℕ) (p : ParamTree) → m ≤ q → Rises n (param_tokens p) m →
    Each (Together s.rank o c o q) (param_sites s (Inner s.rank o c) q p)
unfolding param_sites param_tokens
param_together s o c q n m p mq h =
    let u = rises_split n (list_tokens kind.Comma ident_tokens p.names) (type_tokens p.type_use) m h in
    let um : u.0 ≤ m = rises_le u.0 (type_tokens p.type_use) m u.1.1 in
    each_append (Together s.rank o c o q) (list_sites (ident_sites s (Declaring (Inner s.rank o c) q)) p.names) (type_sites s p.type_use)
    (idents_together s o c q o n u.0 p.names (omega arith) u.1.0)
    (together_plain s.rank o c o q (type_sites s p.type_use) (plain_type s p.type_use))

params_together : (s : TokenSpellings) (o c q n m : ℕ) (ps : List (Item ParamTree)) → m ≤ q → Rises n (list_tokens kind.Comma param_tokens ps) m →
    Each (Together s.rank o c o q) (list_sites (param_sites s (Inner s.rank o c) q) ps)
params_together s o c q n m ps mq h =
    each_rising (Together s.rank o c o q) param_tokens (param_sites s (Inner s.rank o c) q) kind.Comma 0 q
    (λ i j p z le r. param_together s o c q i j p le r) n m ps (omega arith) mq h

init_name : (s : TokenSpellings) (o c i : ℕ) (b : Bool) → Together s.rank o c o o (site s i (if b then NotLexical purpose.InitFunction else Declaring
    Package 0))
init_name s o c i true = λ m. absurd_may m
init_name s o c i false = λ m. inl (flat_package s i)

func_name : (s : TokenSpellings) (o c i : ℕ) (r : Option ReceiverTree) (name : List ℕ) → Together s.rank o c o o (site s i (func_role r name))
func_name s o c i (Some r) name = λ m. absurd_may m
func_name s o c i None name = init_name s o c i (bytes_eq name (codes "init"))

body_fits : (s : TokenSpellings) (k m : ℕ) (x : BlockTree) → IsBlock x → Rises k (block_tokens x) m →
    (k ≤ open_of x) × (open_of x < close_of x) × (suc (close_of x) ≤ m) ×
    Segment s.rank (open_of x) (close_of x) (suc (open_of x)) (close_of x) (block_sites s x)
unfolding block_tokens block_sites IsBlock
body_fits s k m (block o ss c) w h =
    let r = rises_split (suc o) (statements_tokens ss) (sign kind.RightBrace c ∷ []) m h.1 in
    let rc : r.0 ≤ c = r.1.1.0 in
    let ro : suc o ≤ r.0 = rises_le (suc o) (statements_tokens ss) r.0 r.1.0 in
    (h.0, omega arith, r.1.1.1, statements_fits s o c (suc o) c ss w.1 (omega arith) (omega arith) (rises_up (suc o) (statements_tokens ss) r.0 c rc r.1.0))

-- the identifiers before the body, and those of the body
func_body : (s : TokenSpellings) (o c : ℕ) (receiver : Option ReceiverTree) (name : ℕ) (role : Role) (params : List (Item ParamTree)) (result : ResultTree)
    (body : List Site) →
    Head s o c (sites_if (receiver_sites s (Inner s.rank o c) o) receiver) → Together s.rank o c o o (site s name role) →
    Head s o c (list_sites (param_sites s (Inner s.rank o c) o) params) → o < c → Segment s.rank o c (suc o) c body →
    Segment s.rank o c o c (sites_if (receiver_sites s (Inner s.rank o c) o) receiver ++
    (site s name role ∷ (list_sites (param_sites s (Inner s.rank o c) o) params ++ (result_sites s result ++ body))))
func_body s o c receiver name role params result body received named given oc y =
    let rs = sites_if (receiver_sites s (Inner s.rank o c) o) receiver in
    let ps = list_sites (param_sites s (Inner s.rank o c) o) params in
    let all = result_sites s result ++ body in
    segment_head s.rank o c rs (site s name role ∷ (ps ++ all)) (omega arith) received
    (segment_head s.rank o c (site s name role ∷ []) (ps ++ all) (omega arith) (named, tt)
    (segment_head s.rank o c ps all (omega arith) given
    (segment_plain_before s.rank o c o c (result_sites s result) body (plain_result s result)
    (segment_widen s.rank o c (suc o) c o c body (omega arith) (omega arith) y))))

-- a function's block comes after its name
func_fits : (s : TokenSpellings) (b n m : ℕ) (f : FuncTree) → IsFunc f → m ≤ b → Rises n (func_tokens f) m →
    (q : ℕ) × ((n ≤ q) × (suc q ≤ m) × Segment s.rank 0 b n q (func_sites s f))
unfolding func_tokens func_sites
func_fits s b n m f w mb h =
    let o = open_of f.body in
    let c = close_of f.body in
    let params = sign kind.LeftParen f.lparen ∷ (list_tokens kind.Comma param_tokens f.params ++
    (sign kind.RightParen f.rparen ∷ (result_tokens f.result ++ block_tokens f.body))) in
    let r = rises_split n (tokens_if receiver_tokens f.receiver) (sign kind.Name f.name ∷ params) m h in
    let nr : n ≤ r.0 = rises_le n (tokens_if receiver_tokens f.receiver) r.0 r.1.0 in
    let rn : r.0 ≤ f.name = r.1.1.0 in
    let nl : suc f.name ≤ f.lparen = r.1.1.1.0 in
    let u = rises_split (suc f.lparen) (list_tokens kind.Comma param_tokens f.params)
    (sign kind.RightParen f.rparen ∷ (result_tokens f.result ++ block_tokens f.body)) m r.1.1.1.1 in
    let lu : suc f.lparen ≤ u.0 = rises_le (suc f.lparen) (list_tokens kind.Comma param_tokens f.params) u.0 u.1.0 in
    let ur : u.0 ≤ f.rparen = u.1.1.0 in
    let v = rises_split (suc f.rparen) (result_tokens f.result) (block_tokens f.body) m u.1.1.1 in
    let rv : suc f.rparen ≤ v.0 = rises_le (suc f.rparen) (result_tokens f.result) v.0 v.1.0 in
    let y = body_fits s v.0 m f.body w.body v.1.1 in
    let vo : v.0 ≤ o = y.0 in
    let oc : o < c = y.1 in
    let cm : suc c ≤ m = y.2 in (
      c,
      (
        omega arith,
        cm,
        segment_outward s.rank o c o c 0 b n c (func_sites s f) oc (omega arith) (omega arith) (omega arith) (omega arith) (omega arith)
            (func_body s o c f.receiver f.name (func_role f.receiver (s.spell f.name)) f.params f.result (block_sites s f.body)
            (head_receiver s o c n r.0 f.receiver (omega arith) r.1.0) (func_name s o c f.name f.receiver (s.spell f.name))
            (params_together s o c o (suc f.lparen) u.0 f.params (omega arith) u.1.0) oc y.3),
      ),
    )

-- types

-- each item of a list lies in a region of its own
module _ {X : Type 0} (f b : ℕ) (tokens : X → List Token) (sites : X → List Site)
    (one : (n m : ℕ) (x : X) → m ≤ b → Rises n (tokens x) m → (q : ℕ) × ((n ≤ q) × (suc q ≤ m) × Segment f 0 b n q (sites x))) where
  items_fit : (k : Kind) (n m : ℕ) (xs : List (Item X)) → m ≤ b → Rises n (list_tokens k tokens xs) m → Segment f 0 b n m (list_sites sites xs)
  unfolding all_tokens
  items_fit k n m [] mb h = (tt, tt)
  items_fit k n m (x ∷ xs) mb h =
      let r = rises_split n (item_tokens k tokens x) (list_tokens k tokens xs) m h in
      let rm : r.0 ≤ m = rises_le r.0 (list_tokens k tokens xs) m r.1.1 in
      let v = rises_split n (tokens x.value) (sign_if k x.separator) r.0 r.1.0 in
      let vr : v.0 ≤ r.0 = rises_le v.0 (sign_if k x.separator) r.0 v.1.1 in
      let u = one n v.0 x.value (omega arith) v.1.0 in
      let nu : n ≤ u.0 = u.1.0 in
      let uv : suc u.0 ≤ v.0 = u.1.1 in
      segment_join f 0 b n u.0 m (sites x.value) (list_sites sites xs) (omega arith) (omega arith) u.1.2
      (items_fit k (suc u.0) m xs mb (rises_down (suc u.0) r.0 (list_tokens k tokens xs) m (omega arith) r.1.1))

  specs_fit : (n m : ℕ) (g : Group X) → m ≤ b → Rises n (group_tokens tokens g) m → Segment f 0 b n m (spec_sites sites g)
  unfolding group_tokens group_sites separated_sites
  specs_fit n m (single x) mb h =
      let u = one n m x mb h in
      let um : suc u.0 ≤ m = u.1.1 in
      segment_widen f 0 b n u.0 n m (sites x) (omega arith) (omega arith) u.1.2
  specs_fit n m (several o xs c) mb h =
      let no : n ≤ o = h.0 in
      let r = rises_split (suc o) (list_tokens kind.Semicolon tokens xs) (sign kind.RightParen c ∷ []) m h.1 in
      let rc : r.0 ≤ c = r.1.1.0 in
      let cm : suc c ≤ m = r.1.1.1 in
      segment_widen f 0 b (suc o) r.0 n m (list_sites sites xs) (omega arith) (omega arith) (items_fit kind.Semicolon (suc o) r.0 xs (omega arith) r.1.0)

-- the block of the parameters of an interface's method
method_fits : (s : TokenSpellings) (b n m : ℕ) (x : MethodTree) → m ≤ b → Rises n (method_tokens x) m →
    (q : ℕ) × ((n ≤ q) × (suc q ≤ m) × Segment s.rank 0 b n q (method_sites s x))
unfolding method_tokens method_sites
method_fits s b n m x mb h =
    let o = x.lparen in
    let c = x.rparen in
    let nx : n ≤ x.name = h.0 in
    let xo : suc x.name ≤ o = h.1.0 in
    let u = rises_split (suc o) (list_tokens kind.Comma param_tokens x.params) (sign kind.RightParen c ∷ result_tokens x.result) m h.1.1 in
    let ou : suc o ≤ u.0 = rises_le (suc o) (list_tokens kind.Comma param_tokens x.params) u.0 u.1.0 in
    let uc : u.0 ≤ c = u.1.1.0 in
    let cm : suc c ≤ m = rises_le (suc c) (result_tokens x.result) m u.1.1.1 in
    let ps = list_sites (param_sites s (Inner s.rank o c) c) x.params in (
      c,
      (
        omega arith,
        cm,
        segment_plain_before s.rank 0 b n c (member_name s x.name) (ps ++ result_sites s x.result) (plain_member s x.name)
            (segment_plain_after s.rank 0 b n c ps (result_sites s x.result)
            (segment_outward s.rank o c o c 0 b n c ps (omega arith) (omega arith) (omega arith) (omega arith) (omega arith) (omega arith)
            (segment_together s.rank o c o c ps (omega arith) (omega arith) (params_together s o c c (suc o) u.0 x.params uc u.1.0)))
            (plain_result s x.result)),
      ),
    )

-- a definition's blocks come after its name, and before what follows it
defined_fits : (s : TokenSpellings) (b n m name : ℕ) (t : BodyTree) → m ≤ b → n ≤ name → Rises (suc name) (body_tokens t) m →
    (q : ℕ) × ((n ≤ q) × (suc q ≤ m) × Segment s.rank 0 b n q (global_name s name ++ body_sites s t))
unfolding body_tokens body_sites
defined_fits s b n m name (Other t) mb nn h =
    let le : suc name ≤ m = rises_le (suc name) (type_tokens t) m h in (
      name,
      (
        nn,
        le,
        segment_level s.rank 0 b n name (global_name s name ++ type_sites s t)
            (level_append (global_name s name) (type_sites s t) (level_name s name) (level_plain (type_sites s t) (plain_type s t))),
      ),
    )
defined_fits s b n m name (Struct p o fs c) mb nn h =
    let fields = list_sites (field_sites s) fs in
    let le : suc name ≤ p = h.0 in
    let pm : suc p ≤ m = rises_le (suc p) (sign kind.LeftBrace o ∷ (list_tokens kind.Semicolon field_tokens fs ++ (sign kind.RightBrace c ∷ []))) m h.1 in (
      name,
      (
        nn,
        omega arith,
        segment_level s.rank 0 b n name (global_name s name ++ fields)
            (level_append (global_name s name) fields (level_name s name) (level_plain fields (plain_list (field_sites s) (plain_field s) fs))),
      ),
    )
defined_fits s b n m name (Interface p o ms c) mb nn h =
    let np : suc name ≤ p = h.0 in
    let po : suc p ≤ o = h.1.0 in
    let r = rises_split (suc o) (list_tokens kind.Semicolon method_tokens ms) (sign kind.RightBrace c ∷ []) m h.1.1 in
    let ro : suc o ≤ r.0 = rises_le (suc o) (list_tokens kind.Semicolon method_tokens ms) r.0 r.1.0 in
    let rc : r.0 ≤ c = r.1.1.0 in
    let cm : suc c ≤ m = r.1.1.1 in
    let methods = list_sites (method_sites s) ms in (
      c,
      (
        omega arith,
        cm,
        segment_join s.rank 0 b n name c (global_name s name) methods (omega arith) (omega arith)
            (segment_level s.rank 0 b n name (global_name s name) (level_name s name))
            (segment_widen s.rank 0 b (suc o) r.0 (suc name) c methods (omega arith) (omega arith)
            (items_fit s.rank b method_tokens (method_sites s) (method_fits s b) kind.Semicolon (suc o) r.0 ms (omega arith) r.1.0)),
      ),
    )

type_spec_fits : (s : TokenSpellings) (b n m : ℕ) (t : TypeSpecTree) → m ≤ b → Rises n (type_spec_tokens t) m →
    (q : ℕ) × ((n ≤ q) × (suc q ≤ m) × Segment s.rank 0 b n q (type_spec_sites s t))
unfolding type_spec_tokens type_spec_sites
type_spec_fits s b n m t mb h = defined_fits s b n m t.name t.body mb h.0 h.1

decl_fits : (s : TokenSpellings) (b n m : ℕ) (d : DeclTree) → 0 < n → IsDecl d → m ≤ b → Rises n (decl_tokens d) m →
    (q : ℕ) × ((n ≤ q) × (suc q ≤ m) × Segment s.rank 0 b n q (decl_sites s d))
unfolding decl_tokens decl_sites
decl_fits s b n m (VarDecl k g semicolon) pos w mb h =
    let le : suc k ≤ m = rises_le (suc k) (group_tokens global_tokens g ++ (sign kind.Semicolon semicolon ∷ [])) m h.1 in
    (k, (h.0, le, segment_level s.rank 0 b n k (spec_sites (global_sites s) g) (level_group (global_sites s) (level_global s) g)))
decl_fits s b n m (TypeDecl k g semicolon) pos w mb h =
    let nk : n ≤ k = h.0 in
    let r = rises_split (suc k) (group_tokens type_spec_tokens g) (sign kind.Semicolon semicolon ∷ []) m h.1 in
    let kr : suc k ≤ r.0 = rises_le (suc k) (group_tokens type_spec_tokens g) r.0 r.1.0 in
    let rs : r.0 ≤ semicolon = r.1.1.0 in
    let sm : suc semicolon ≤ m = r.1.1.1 in (
      semicolon,
      (
        omega arith,
        sm,
        segment_widen s.rank 0 b (suc k) r.0 n semicolon (spec_sites (type_spec_sites s) g) (omega arith) (omega arith)
            (specs_fit s.rank b type_spec_tokens (type_spec_sites s) (type_spec_fits s b) (suc k) r.0 g (omega arith) r.1.0),
      ),
    )
decl_fits s b n m (FuncDecl k f semicolon) pos w mb h =
    let nk : n ≤ k = h.0 in
    let r = rises_split (suc k) (func_tokens f) (sign kind.Semicolon semicolon ∷ []) m h.1 in
    let rs : r.0 ≤ semicolon = r.1.1.0 in
    let sm : suc semicolon ≤ m = r.1.1.1 in
    let u = func_fits s b (suc k) r.0 f w (omega arith) r.1.0 in
    let ku : suc k ≤ u.0 = u.1.0 in
    let ur : suc u.0 ≤ r.0 = u.1.1 in
    (u.0, (omega arith, omega arith, segment_widen s.rank 0 b (suc k) u.0 n u.0 (func_sites s f) (omega arith) (omega arith) u.1.2))

decls_fit : (s : TokenSpellings) (b n m : ℕ) (ds : List DeclTree) → 0 < n → All IsDecl ds → m ≤ b → Rises n (all_tokens decl_tokens ds) m →
    Segment s.rank 0 b n m (flat_map (decl_sites s) ds)
unfolding all_tokens
decls_fit s b n m [] pos w mb h = (tt, tt)
decls_fit s b n m (d ∷ ds) pos w mb h =
    let r = rises_split n (decl_tokens d) (all_tokens decl_tokens ds) m h in
    let rm : r.0 ≤ m = rises_le r.0 (all_tokens decl_tokens ds) m r.1.1 in
    let u = decl_fits s b n r.0 d pos (All-head IsDecl d ds w) (omega arith) r.1.0 in
    let nu : n ≤ u.0 = u.1.0 in
    let ur : suc u.0 ≤ r.0 = u.1.1 in
    segment_join s.rank 0 b n u.0 m (decl_sites s d) (flat_map (decl_sites s) ds) (omega arith) (omega arith) u.1.2
    (decls_fit s b (suc u.0) m ds (omega arith) (All-tail IsDecl d ds w) mb (rises_down (suc u.0) r.0 (all_tokens decl_tokens ds) m ur r.1.1))

pub file_fits : (s : TokenSpellings) (m : ℕ) (f : FileTree) → IsFile f → Rises 0 (flatten f) m → Segment s.rank 0 m 0 m (file_sites s f)
unfolding flatten file_sites
file_fits s m f w h =
    let ks : suc f.keyword ≤ f.name = h.1.0 in
    let ns : suc f.name ≤ f.semicolon = h.1.1.0 in
    let r = rises_split (suc f.semicolon) (all_tokens imports_tokens f.imports) (all_tokens decl_tokens f.decls) m h.1.1.1 in
    let sr : suc f.semicolon ≤ r.0 = rises_le (suc f.semicolon) (all_tokens imports_tokens f.imports) r.0 r.1.0 in
    let rm : r.0 ≤ m = rises_le r.0 (all_tokens decl_tokens f.decls) m r.1.1 in
    let decls = flat_map (decl_sites s) f.decls in
    let imports = flat_map (imports_sites s) f.imports in
    segment_plain_before s.rank 0 m 0 m (site s f.name (NotLexical purpose.PackageClause) ∷ []) (imports ++ decls) (refl, tt)
    (segment_join s.rank 0 m 0 0 m imports decls (omega arith) (omega arith)
    (segment_level s.rank 0 m 0 0 imports (level_all_imports s f.imports))
    (segment_widen s.rank 0 m r.0 m 1 m decls (omega arith) (omega arith) (decls_fit s m r.0 m f.decls (omega arith) w.decls (omega arith) r.1.1)))
