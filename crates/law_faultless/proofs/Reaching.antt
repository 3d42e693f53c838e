-- What a name in a function may be bound to, of all that is declared inside of a file, is declared in that function.
use Rattle.std.proofs.Common.{ℕ, suc, ◌≡◌, ◌<◌, ◌≤◌, ◌⊎◌, inl, inr, true, false, List, [], ◌∷◌, ◌++◌, Option, Some, None, sym, ap, subst, ◌∙◌, arith}
use Rattle.std.specs.List.{All, AllByRecursion, flat_map}
use Rattle.std.proofs.lemmas.Bool.{true≢false}
use Rattle.std.proofs.lemmas.List.Elements.{All-head, All-tail}
use Rattle.base_lemmas.proofs.EachElement.{all_append, all_front}
use Rattle.go_ast.specs.declared.syntax.Kind.{Kind}
use Rattle.go_ast.specs.declared.syntax.Kind.TheVariants as kind
use Rattle.go_ast.specs.declared.syntax.Token.{Token}
use Rattle.go_ast.specs.Flatten.{sign, sign_if, tokens_if, all_tokens, item_tokens, list_tokens, group_tokens, param_tokens, receiver_tokens}
use Rattle.go_ast.specs.Flatten.{result_tokens, block_tokens, statements_tokens, method_tokens, body_tokens, type_spec_tokens, func_tokens}
use Rattle.go_ast.specs.Flatten.{imports_tokens, decl_tokens, flatten}
use Rattle.go_ast.specs.WellFormed.{IsFunc, IsDecl, IsFile, IsBlock}
use Rattle.go_ast.specs.Tree.{Item, Group, single, several, IdentTree, Named, Underscore, MethodTree, BodyTree, Other, Struct, Interface, TypeSpecTree}
use Rattle.go_ast.specs.Tree.{ReceiverTree, ParamTree, FuncTree, DeclTree, VarDecl, TypeDecl, FuncDecl, FileTree, BlockTree, block}
use Rattle.go_scope.specs.declared.model.Block.TheVariants.{Inner}
use Rattle.go_scope.specs.declared.model.Role.{Role}
use Rattle.go_scope.specs.declared.model.Role.TheVariants.{Use, Declaring}
use Rattle.go_scope.specs.Bindings.{block_of, start_of}
use Rattle.go_scope.specs.Site.{Site, TokenSpellings, site}
use Rattle.go_scope.specs.ExpressionSites.{sites_if, list_sites, type_sites}
use Rattle.go_scope.specs.StatementSites.{ident_sites, separated_sites, group_sites, open_of, close_of, block_sites, statements_sites}
use Rattle.go_scope.specs.FileSites.{spec_sites, global_sites, field_sites, method_sites, body_sites, type_spec_sites, receiver_sites, param_sites}
use Rattle.go_scope.specs.FileSites.{result_sites, func_role, func_sites, imports_sites, decl_sites, file_sites}
use Rattle.go_scope.proofs.Regions.{Each, Fits, Framed, inner_to}
use Rattle.go_scope.proofs.StatementRegions.{statements_fits}
use Rattle.go_scope.proofs.Rising.{Rises, rises_le, rises_up, rises_split}
use Rattle.go_scope.proofs.Covers.{Covers, ends, skips, takes, selects, keys}
use Rattle.go_scope.proofs.CoveredFiles.{decls_named}
use Rattle.types_info.proofs.DeclKinds.{Holds}
use Rattle.refs_lookup.proofs.Apart.{all_as}
use Rattle.law_faultless.specs.ResolvedNames.{may_be_local}
use Rattle.law_faultless.proofs.KnownLocals.{local_may}
use Rattle.law_faultless.proofs.Typed.{type_abroad, result_abroad, func_abroad, group_abroad, global_abroad, fields_abroad, imports_abroad}

-- where identifiers stand

abbrev pub Lies : ℕ → ℕ → Site → Type 0
Lies n m x = (n ≤ x.place.index) × (x.place.index < m)

lies_later : (n k m : ℕ) (xs : List Site) → n ≤ k → AllByRecursion (Lies k m) xs → AllByRecursion (Lies n m) xs
lies_later n k m xs le h = all_as (Lies k m) (Lies n m) (λ x l. (let at : k ≤ x.place.index = l.0 in omega arith, l.1)) xs h

covers_lie : {P : Kind → _} {s : TokenSpellings} {xs : List Site} {ts : List Token} → Covers P s xs ts → (n m : ℕ) → Rises n ts m → AllByRecursion (Lies n m) xs
covers_lie ends n m r = tt
covers_lie (skips {xs = xs} {t = t} k a) n m r =
    let le : n ≤ t.place = r.0 in lies_later n (suc t.place) m xs (omega arith) (covers_lie a (suc t.place) m r.1)
covers_lie (takes {x = x} {xs = xs} {t = t} {ts = ts} k i e a) n m r =
    let le : n ≤ t.place = r.0 in
    let up : suc t.place ≤ m = rises_le (suc t.place) ts m r.1 in
    let at : x.place.index ≡ t.place = ap (λ (y : Site). y.place.index) e in
    ((omega arith, omega arith), lies_later n (suc t.place) m xs (omega arith) (covers_lie a (suc t.place) m r.1))
covers_lie (selects {x = x} {xs = xs} {d = d} {t = t} {ts = ts} dot out k w e a) n m r =
    let first : n ≤ d.place = r.0 in
    let le : suc d.place ≤ t.place = r.1.0 in
    let up : suc t.place ≤ m = rises_le (suc t.place) ts m r.1.1 in
    let at : x.place.index ≡ t.place = ap (λ (y : Site). y.place.index) e in
    ((omega arith, omega arith), lies_later n (suc t.place) m xs (omega arith) (covers_lie a (suc t.place) m r.1.1))
covers_lie (keys {x = x} {xs = xs} {t = t} {c = c} {ts = ts} colon out k w e a) n m r =
    let le : n ≤ t.place = r.0 in
    let next : suc t.place ≤ c.place = r.1.0 in
    let up : suc c.place ≤ m = rises_le (suc c.place) ts m r.1.1 in
    let at : x.place.index ≡ t.place = ap (λ (y : Site). y.place.index) e in
    ((omega arith, omega arith), lies_later n (suc c.place) m xs (omega arith) (covers_lie a (suc c.place) m r.1.1))

rises_end : (n : ℕ) (ts : List Token) (m : ℕ) → Rises n ts m → Rises n (ts ++ []) m
rises_end n [] m h = h
rises_end n (t ∷ ts) m h = (h.0, rises_end (suc t.place) ts m h.1)

decl_lies : (s : TokenSpellings) (n m : ℕ) (d : DeclTree) → Rises n (decl_tokens d) m → AllByRecursion (Lies n m) (decl_sites s d)
unfolding all_tokens
decl_lies s n m d h = all_front (Lies n m) (decl_sites s d) [] (covers_lie (decls_named s (d ∷ [])) n m (rises_end n (decl_tokens d) m h))

-- The scope of a local begins at n or later, and its block ends before m.
abbrev pub IsWithin : ℕ → ℕ → Site → Type 0
IsWithin n m x = may_be_local x.role ≡ true → (f a b : ℕ) → block_of x.role ≡ Inner f a b → (n ≤ start_of x.role) × (b < m)

abroad_within : (n m : ℕ) (xs : List Site) → AllByRecursion (λ x. may_be_local x.role ≡ false) xs → AllByRecursion (IsWithin n m) xs
abroad_within n m xs h = all_as (λ (x : Site). may_be_local x.role ≡ false) (IsWithin n m) (λ x e may f a b k. absurd (true≢false (sym may ∙ e))) xs h

fits_within : (f o c u q n m : ℕ) → n ≤ o → c < m → (x : Site) → Fits f o c u q x → IsWithin n m x
fits_within f o c u q n m begun cm x h may g a b e = elim (h (local_may x.role may)) [
  | inl flat ↦ absurd (flat.apart g a b e)
  | inr s ↦ elim s [
    | inl own ↦ (let low : o ≤ start_of x.role = own.above in let end : b ≡ c = inner_to g a b f o c (sym e ∙ own.block) in (omega arith, omega arith))
    | inr i ↦ (let frame : Framed f x = i.frame in
        let low : frame.from ≤ start_of x.role = frame.low in
        let above : o < frame.from = i.above in
        let below : frame.to ≤ c = i.below in
        let end : b ≡ frame.to = inner_to g a b f frame.from frame.to (sym e ∙ frame.block) in (omega arith, omega arith))
  ]
]

all_fit : (f o c u q n m : ℕ) (xs : List Site) → n ≤ o → c < m → Each (Fits f o c u q) xs → AllByRecursion (IsWithin n m) xs
all_fit f o c u q n m [] begun cm h = tt
all_fit f o c u q n m (x ∷ xs) begun cm h = (fits_within f o c u q n m begun cm x h.0, all_fit f o c u q n m xs begun cm h.1)

ident_within : (s : TokenSpellings) (o c q n m : ℕ) → n ≤ q → c < m → (x : IdentTree) →
    AllByRecursion (IsWithin n m) (ident_sites s (Declaring (Inner s.rank o c) q) x)
ident_within s o c q n m begun cm (Named i) = ((λ may f a b e. (begun, let end : c ≡ b = inner_to s.rank o c f a b e in omega arith)), tt)
ident_within s o c q n m begun cm (Underscore i) = ((λ may f a b e. absurd (true≢false (sym may))), tt)

idents_within : (s : TokenSpellings) (o c q n m : ℕ) → n ≤ q → c < m → (xs : List (Item IdentTree)) →
    AllByRecursion (IsWithin n m) (list_sites (ident_sites s (Declaring (Inner s.rank o c) q)) xs)
idents_within s o c q n m begun cm [] = tt
idents_within s o c q n m begun cm (x ∷ xs) =
    let names = ident_sites s (Declaring (Inner s.rank o c) q) in
    all_append (IsWithin n m) (names x.value) (list_sites names xs) (ident_within s o c q n m begun cm x.value) (idents_within s o c q n m begun cm xs)

receiver_within : (s : TokenSpellings) (o c n m : ℕ) → n ≤ o → c < m → (r : Option ReceiverTree) →
    AllByRecursion (IsWithin n m) (sites_if (receiver_sites s (Inner s.rank o c) o) r)
unfolding receiver_sites
receiver_within s o c n m begun cm None = tt
receiver_within s o c n m begun cm (Some r) =
    all_append (IsWithin n m) (ident_sites s (Declaring (Inner s.rank o c) o) r.name) (site s r.type_name Use ∷ []) (ident_within s o c o n m begun cm r.name)
    ((λ may f a b e. absurd (true≢false (sym may))), tt)

params_within : (s : TokenSpellings) (o c q n m : ℕ) → n ≤ q → c < m → (ps : List (Item ParamTree)) →
    AllByRecursion (IsWithin n m) (list_sites (param_sites s (Inner s.rank o c) q) ps)
unfolding param_sites
params_within s o c q n m begun cm [] = tt
params_within s o c q n m begun cm (p ∷ ps) =
    let names = list_sites (ident_sites s (Declaring (Inner s.rank o c) q)) p.value.names in
    let typing = type_sites s p.value.type_use in
    all_append (IsWithin n m) (names ++ typing) (list_sites (param_sites s (Inner s.rank o c) q) ps)
    (all_append (IsWithin n m) names typing (idents_within s o c q n m begun cm p.value.names) (abroad_within n m typing (type_abroad s p.value.type_use)))
    (params_within s o c q n m begun cm ps)

body_within : (s : TokenSpellings) (n k m : ℕ) (x : BlockTree) → n ≤ k → IsBlock x → Rises k (block_tokens x) m →
    (n ≤ open_of x) × (close_of x < m) × AllByRecursion (IsWithin n m) (block_sites s x)
unfolding block_tokens block_sites IsBlock
body_within s n k m (block o ss c) nk w h =
    let r = rises_split (suc o) (statements_tokens ss) (sign kind.RightBrace c ∷ []) m h.1 in
    let rc : r.0 ≤ c = r.1.1.0 in
    let ro : suc o ≤ r.0 = rises_le (suc o) (statements_tokens ss) r.0 r.1.0 in
    let ko : k ≤ o = h.0 in
    let cm : suc c ≤ m = r.1.1.1 in
    let fits = statements_fits s o c (suc o) c ss w.1 (omega arith) (omega arith) (rises_up (suc o) (statements_tokens ss) r.0 c rc r.1.0) in
    (omega arith, omega arith, all_fit s.rank o c (suc o) c n m (statements_sites s (Inner s.rank o c) c ss) (omega arith) (omega arith) fits.0)

-- The tokens of a function are taken apart here as in the proof that its block lies behind its name. That proof shows another fact of these
-- parts.
func_within : (s : TokenSpellings) (n m : ℕ) (f : FuncTree) → IsFunc f → Rises n (func_tokens f) m → AllByRecursion (IsWithin n m) (func_sites s f)
unfolding func_tokens func_sites
func_within s n m f w h =
    let o = open_of f.body in
    let c = close_of f.body in
    let params = sign kind.LeftParen f.lparen ∷ (list_tokens kind.Comma param_tokens f.params ++
    (sign kind.RightParen f.rparen ∷ (result_tokens f.result ++ block_tokens f.body))) in
    let r = rises_split n (tokens_if receiver_tokens f.receiver) (sign kind.Name f.name ∷ params) m h in
    let nr : n ≤ r.0 = rises_le n (tokens_if receiver_tokens f.receiver) r.0 r.1.0 in
    let rn : r.0 ≤ f.name = r.1.1.0 in
    let nl : suc f.name ≤ f.lparen = r.1.1.1.0 in
    let u = rises_split (suc f.lparen) (list_tokens kind.Comma param_tokens f.params)
    (sign kind.RightParen f.rparen ∷ (result_tokens f.result ++ block_tokens f.body)) m r.1.1.1.1 in
    let lu : suc f.lparen ≤ u.0 = rises_le (suc f.lparen) (list_tokens kind.Comma param_tokens f.params) u.0 u.1.0 in
    let ur : u.0 ≤ f.rparen = u.1.1.0 in
    let v = rises_split (suc f.rparen) (result_tokens f.result) (block_tokens f.body) m u.1.1.1 in
    let rv : suc f.rparen ≤ v.0 = rises_le (suc f.rparen) (result_tokens f.result) v.0 v.1.0 in
    let y = body_within s n v.0 m f.body (omega arith) w.body v.1.1 in
    let rs = sites_if (receiver_sites s (Inner s.rank o c) o) f.receiver in
    let name = site s f.name (func_role f.receiver (s.spell f.name)) in
    let ps = list_sites (param_sites s (Inner s.rank o c) o) f.params in
    let results = result_sites s f.result in
    all_append (IsWithin n m) rs (name ∷ (ps ++ (results ++ block_sites s f.body))) (receiver_within s o c n m y.0 y.1 f.receiver) (
      (λ may g a b e. absurd (true≢false (sym may ∙ func_abroad f.receiver (s.spell f.name)))),
      all_append (IsWithin n m) ps (results ++ block_sites s f.body) (params_within s o c o n m y.0 y.1 f.params)
          (all_append (IsWithin n m) results (block_sites s f.body) (abroad_within n m results (result_abroad s f.result)) y.2),
    )

wider_within : (n k u m : ℕ) (xs : List Site) → n ≤ k → u ≤ m → AllByRecursion (IsWithin k u) xs → AllByRecursion (IsWithin n m) xs
wider_within n k u m xs nk um h =
    all_as (IsWithin k u) (IsWithin n m) (λ x i may f a b e.
    let j = i may f a b e in
    let low : k ≤ start_of x.role = j.0 in
    let high : b < u = j.1 in
    (omega arith, omega arith)) xs h

-- types

-- each identifier of the items of a list, or of a group
module _ {X : Type 0} (tokens : X → List Token) (sites : X → List Site)
    (one : (n m : ℕ) (x : X) → Rises n (tokens x) m → AllByRecursion (IsWithin n m) (sites x)) where
  items_within : (k : Kind) (n m : ℕ) (xs : List (Item X)) → Rises n (list_tokens k tokens xs) m → AllByRecursion (IsWithin n m) (list_sites sites xs)
  unfolding all_tokens
  items_within k n m [] h = tt
  items_within k n m (x ∷ xs) h =
      let r = rises_split n (item_tokens k tokens x) (list_tokens k tokens xs) m h in
      let nr : n ≤ r.0 = rises_le n (item_tokens k tokens x) r.0 r.1.0 in
      let rm : r.0 ≤ m = rises_le r.0 (list_tokens k tokens xs) m r.1.1 in
      let v = rises_split n (tokens x.value) (sign_if k x.separator) r.0 r.1.0 in
      let vr : v.0 ≤ r.0 = rises_le v.0 (sign_if k x.separator) r.0 v.1.1 in
      all_append (IsWithin n m) (sites x.value) (list_sites sites xs)
      (wider_within n n v.0 m (sites x.value) (omega arith) (omega arith) (one n v.0 x.value v.1.0))
      (wider_within n r.0 m m (list_sites sites xs) nr (omega arith) (items_within k r.0 m xs r.1.1))

  group_within : (n m : ℕ) (g : Group X) → Rises n (group_tokens tokens g) m → AllByRecursion (IsWithin n m) (spec_sites sites g)
  unfolding group_tokens group_sites separated_sites
  group_within n m (single x) h = one n m x h
  group_within n m (several o xs c) h =
      let no : n ≤ o = h.0 in
      let r = rises_split (suc o) (list_tokens kind.Semicolon tokens xs) (sign kind.RightParen c ∷ []) m h.1 in
      let rc : r.0 ≤ c = r.1.1.0 in
      let cm : suc c ≤ m = r.1.1.1 in
      wider_within n (suc o) r.0 m (list_sites sites xs) (omega arith) (omega arith) (items_within kind.Semicolon (suc o) r.0 xs r.1.0)

method_within : (s : TokenSpellings) (n m : ℕ) (x : MethodTree) → Rises n (method_tokens x) m → AllByRecursion (IsWithin n m) (method_sites s x)
unfolding method_tokens method_sites
method_within s n m x h =
    let o = x.lparen in
    let c = x.rparen in
    let nx : n ≤ x.name = h.0 in
    let xo : suc x.name ≤ o = h.1.0 in
    let u = rises_split (suc o) (list_tokens kind.Comma param_tokens x.params) (sign kind.RightParen c ∷ result_tokens x.result) m h.1.1 in
    let ou : suc o ≤ u.0 = rises_le (suc o) (list_tokens kind.Comma param_tokens x.params) u.0 u.1.0 in
    let uc : u.0 ≤ c = u.1.1.0 in
    let cm : suc c ≤ m = rises_le (suc c) (result_tokens x.result) m u.1.1.1 in
    let ps = list_sites (param_sites s (Inner s.rank o c) c) x.params in
    let results = result_sites s x.result in (
      (λ may f a b e. absurd (true≢false (sym may))),
      all_append (IsWithin n m) ps results (params_within s o c c n m (omega arith) (omega arith) x.params)
          (abroad_within n m results (result_abroad s x.result)),
    )

type_within : (s : TokenSpellings) (n m : ℕ) (t : BodyTree) → Rises n (body_tokens t) m → AllByRecursion (IsWithin n m) (body_sites s t)
unfolding body_tokens body_sites
type_within s n m (Other t) h = abroad_within n m (type_sites s t) (type_abroad s t)
type_within s n m (Struct p o fs c) h = abroad_within n m (list_sites (field_sites s) fs) (fields_abroad s fs)
type_within s n m (Interface p o ms c) h =
    let np : n ≤ p = h.0 in
    let po : suc p ≤ o = h.1.0 in
    let r = rises_split (suc o) (list_tokens kind.Semicolon method_tokens ms) (sign kind.RightBrace c ∷ []) m h.1.1 in
    let rc : r.0 ≤ c = r.1.1.0 in
    let cm : suc c ≤ m = r.1.1.1 in
    wider_within n (suc o) r.0 m (list_sites (method_sites s) ms) (omega arith) (omega arith)
    (items_within method_tokens (method_sites s) (method_within s) kind.Semicolon (suc o) r.0 ms r.1.0)

spec_within : (s : TokenSpellings) (n m : ℕ) (x : TypeSpecTree) → Rises n (type_spec_tokens x) m → AllByRecursion (IsWithin n m) (type_spec_sites s x)
unfolding type_spec_tokens type_spec_sites
spec_within s n m x h =
    let nx : n ≤ x.name = h.0 in (
      (λ may f a b e. absurd (true≢false (sym may))),
      wider_within n (suc x.name) m m (body_sites s x.body) (omega arith) (omega arith) (type_within s (suc x.name) m x.body h.1),
    )

decl_within : (s : TokenSpellings) (n m : ℕ) (d : DeclTree) → IsDecl d → Rises n (decl_tokens d) m → AllByRecursion (IsWithin n m) (decl_sites s d)
unfolding decl_tokens decl_sites
decl_within s n m (VarDecl k g semicolon) w h = abroad_within n m (spec_sites (global_sites s) g) (group_abroad (global_sites s) (global_abroad s) g)
decl_within s n m (TypeDecl k g semicolon) w h =
    let nk : n ≤ k = h.0 in
    let r = rises_split (suc k) (group_tokens type_spec_tokens g) (sign kind.Semicolon semicolon ∷ []) m h.1 in
    let rs : r.0 ≤ semicolon = r.1.1.0 in
    let sm : suc semicolon ≤ m = r.1.1.1 in
    wider_within n (suc k) r.0 m (spec_sites (type_spec_sites s) g) (omega arith) (omega arith)
    (group_within type_spec_tokens (type_spec_sites s) (spec_within s) (suc k) r.0 g r.1.0)
decl_within s n m (FuncDecl k f semicolon) w h =
    let nk : n ≤ k = h.0 in
    let r = rises_split (suc k) (func_tokens f) (sign kind.Semicolon semicolon ∷ []) m h.1 in
    let rs : r.0 ≤ semicolon = r.1.1.0 in
    let sm : suc semicolon ≤ m = r.1.1.1 in
    wider_within n (suc k) r.0 m (func_sites s f) (omega arith) (omega arith) (func_within s (suc k) r.0 f w r.1.0)

-- A declaring identifier to which the name at token n may be bound: it stands there, or its scope contains the token.
abbrev pub Reaches : ℕ → (index : ℕ) → Role → Type 0
Reaches n i r = (i ≡ n) ⊎ ((f : ℕ) × ((a : ℕ) × ((b : ℕ) × ((block_of r ≡ Inner f a b) × (start_of r ≤ n) × (n < b)))))

abbrev Bounded : ℕ → ℕ → Site → Type 0
Bounded a b x = may_be_local x.role ≡ true → (n : ℕ) → Reaches n x.place.index x.role → (a ≤ n) × (n < b)

bounded : (a b : ℕ) (xs : List Site) → AllByRecursion (Lies a b) xs → AllByRecursion (IsWithin a b) xs → AllByRecursion (Bounded a b) xs
bounded a b [] h k = tt
bounded a b (x ∷ xs) h k = (
  λ may n reach. elim reach [
    | inl e ↦ (let low : a ≤ x.place.index = h.0.0 in let high : x.place.index < b = h.0.1 in (omega arith, omega arith))
    | inr s ↦ (let i = k.0 may s.0 s.1.0 s.1.1.0 s.1.1.1.0 in
        let low : a ≤ start_of x.role = i.0 in
        let high : s.1.1.0 < b = i.1 in
        let begun : start_of x.role ≤ n = s.1.1.1.1 in
        let ending : n < s.1.1.0 = s.1.1.1.2 in (omega arith, omega arith))
  ],
  bounded a b xs h.1 k.1,
)

decl_bounded : (s : TokenSpellings) (a b : ℕ) (d : DeclTree) → IsDecl d → Rises a (decl_tokens d) b → AllByRecursion (Bounded a b) (decl_sites s d)
decl_bounded s a b d w h = bounded a b (decl_sites s d) (decl_lies s a b d h) (decl_within s a b d w h)

wider_bounded : (a k u b : ℕ) (xs : List Site) → a ≤ k → u ≤ b → AllByRecursion (Bounded k u) xs → AllByRecursion (Bounded a b) xs
wider_bounded a k u b xs ak ub h =
    all_as (Bounded k u) (Bounded a b) (λ x i may n reach.
    let j = i may n reach in
    let low : k ≤ n = j.0 in
    let high : n < u = j.1 in
    (omega arith, omega arith)) xs h

decls_bounded : (s : TokenSpellings) (a b : ℕ) (ds : List DeclTree) → All IsDecl ds → Rises a (all_tokens decl_tokens ds) b →
    AllByRecursion (Bounded a b) (flat_map (decl_sites s) ds)
unfolding all_tokens
decls_bounded s a b [] w h = tt
decls_bounded s a b (d ∷ ds) w h =
    let r = rises_split a (decl_tokens d) (all_tokens decl_tokens ds) b h in
    let ar : a ≤ r.0 = rises_le a (decl_tokens d) r.0 r.1.0 in
    let rb : r.0 ≤ b = rises_le r.0 (all_tokens decl_tokens ds) b r.1.1 in
    all_append (Bounded a b) (decl_sites s d) (flat_map (decl_sites s) ds)
    (wider_bounded a a r.0 b (decl_sites s d) (omega arith) rb (decl_bounded s a r.0 d (All-head IsDecl d ds w) r.1.0))
    (wider_bounded a r.0 b b (flat_map (decl_sites s) ds) ar (omega arith) (decls_bounded s r.0 b ds (All-tail IsDecl d ds w) r.1.1))

-- the name at the token n stands in the function g
module _ (s : TokenSpellings) (k : ℕ) (g : FuncTree) (c n : ℕ) (inside : (a b : ℕ) → AllByRecursion (Lies a b) (func_sites s g) → (a ≤ n) × (n < b))
    (P : ℕ → Role → Type 0) (own : AllByRecursion (λ x. may_be_local x.role ≡ true → P x.place.index x.role) (func_sites s g)) where
  in_own : (a b : ℕ) (d : DeclTree) → d ≡ FuncDecl k g c → Rises a (decl_tokens d) b → (a ≤ n) × (n < b)
  unfolding decl_sites
  in_own a b d e h = inside a b (subst (λ z. AllByRecursion (Lies a b) (decl_sites s z)) e (decl_lies s a b d h))

  in_decls : (a b : ℕ) (ds : List DeclTree) → Holds ds (FuncDecl k g c) → Rises a (all_tokens decl_tokens ds) b → (a ≤ n) × (n < b)
  unfolding all_tokens
  in_decls a b [] h r = absurd h
  in_decls a b (d ∷ ds) h r =
      let x = rises_split a (decl_tokens d) (all_tokens decl_tokens ds) b r in
      let ax : a ≤ x.0 = rises_le a (decl_tokens d) x.0 x.1.0 in
      let xb : x.0 ≤ b = rises_le x.0 (all_tokens decl_tokens ds) b x.1.1 in
      elim h [
        | inl e ↦ (let y = in_own a x.0 d e x.1.0 in let low : a ≤ n = y.0 in let high : n < x.0 = y.1 in (omega arith, omega arith))
        | inr i ↦ (let y = in_decls x.0 b ds i x.1.1 in let low : x.0 ≤ n = y.0 in (omega arith, y.1))
      ]

  abbrev Q : Site → Type 0
  Q x = may_be_local x.role ≡ true → Reaches n x.place.index x.role → P x.place.index x.role

  none_behind : (a b : ℕ) (xs : List Site) → n < a → AllByRecursion (Bounded a b) xs → AllByRecursion Q xs
  none_behind a b xs less h = all_as (Bounded a b) Q (λ x i may reach. let low : a ≤ n = (i may n reach).0 in absurd (omega arith)) xs h

  none_before : (a b : ℕ) (xs : List Site) → b ≤ n → AllByRecursion (Bounded a b) xs → AllByRecursion Q xs
  none_before a b xs le h = all_as (Bounded a b) Q (λ x i may reach. let high : n < b = (i may n reach).1 in absurd (omega arith)) xs h

  decls_only : (a b : ℕ) (ds : List DeclTree) → All IsDecl ds → Holds ds (FuncDecl k g c) → Rises a (all_tokens decl_tokens ds) b →
      AllByRecursion Q (flat_map (decl_sites s) ds)
  unfolding all_tokens decl_sites
  decls_only a b [] w h r = tt
  decls_only a b (d ∷ ds) w h r =
      let x = rises_split a (decl_tokens d) (all_tokens decl_tokens ds) b r in
      let rest = All-tail IsDecl d ds w in
      elim h [
        | inl e ↦ (let high : n < x.0 = (in_own a x.0 d e x.1.0).1 in
            all_append Q (decl_sites s d) (flat_map (decl_sites s) ds)
            (subst (λ z. AllByRecursion Q (decl_sites s z)) (sym e)
            (all_as (λ (y : Site). may_be_local y.role ≡ true → P y.place.index y.role) Q (λ y f may reach. f may) (func_sites s g) own))
            (none_behind x.0 b (flat_map (decl_sites s) ds) high (decls_bounded s x.0 b ds rest x.1.1)))
        | inr i ↦ (let low : x.0 ≤ n = (in_decls x.0 b ds i x.1.1).0 in
            all_append Q (decl_sites s d) (flat_map (decl_sites s) ds)
            (none_before a x.0 (decl_sites s d) low (decl_bounded s a x.0 d (All-head IsDecl d ds w) x.1.0)) (decls_only x.0 b ds rest i x.1.1))
      ]

  pub file_only : (b : ℕ) (f : FileTree) → IsFile f → Holds f.decls (FuncDecl k g c) → Rises 0 (flatten f) b → AllByRecursion Q (file_sites s f)
  unfolding flatten file_sites
  file_only b f w h r =
      let x = rises_split (suc f.semicolon) (all_tokens imports_tokens f.imports) (all_tokens decl_tokens f.decls) b r.1.1.1 in
      let imports = flat_map (imports_sites s) f.imports in (
        (λ may reach. absurd (true≢false (sym may))),
        all_append Q imports (flat_map (decl_sites s) f.decls)
            (all_as (λ (y : Site). may_be_local y.role ≡ false) Q (λ y e may reach. absurd (true≢false (sym may ∙ e))) imports (imports_abroad s f.imports))
            (decls_only x.0 b f.decls w.decls h x.1.1),
      )
