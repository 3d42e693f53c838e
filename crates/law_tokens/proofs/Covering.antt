-- The identifiers of a file stand one at each identifier among its tokens, and at each literal of an import.
use Rattle.std.proofs.Common.{ℕ, ◌≡◌, List, [], ◌∷◌, ◌++◌, Option, Some, None, Bool, true, false, not, ◌||◌, ap, sym, ◌∙◌, refl, subst, map}
use Rattle.std.specs.Prelude.{filter, cond}
use Rattle.std.specs.List.{flat_map, AllByRecursion}
use Rattle.std.proofs.lemmas.Bool.{and_parts, cond-true, cond-false, true≢false}
use Rattle.go_ast.specs.declared.syntax.Kind.{Kind}
use Rattle.go_ast.specs.declared.syntax.Kind.TheVariants as kind
use Rattle.go_ast.specs.declared.syntax.Token.{Token}
use Rattle.go_ast.specs.Flatten.{sign, sign_if, all_tokens, item_tokens, list_tokens, group_tokens, import_tokens, imports_tokens, decl_tokens, flatten}
use Rattle.go_ast.specs.Tree.{Item, Group, single, several, ImportTree, ImportsTree, DeclTree, VarDecl, TypeDecl, FuncDecl, FileTree}
use Rattle.go_scope.specs.declared.model.Purpose.{Purpose}
use Rattle.go_scope.specs.declared.model.Purpose.TheVariants as purpose
use Rattle.go_scope.specs.declared.model.Role.{Role}
use Rattle.go_scope.specs.declared.model.Role.TheVariants.{Use, Declaring, LeftName, Implied, NotLexical}
use Rattle.go_scope.specs.Bindings.{is_implied}
use Rattle.go_scope.specs.Site.{Site, TokenSpellings, site}
use Rattle.go_scope.specs.FileSites.{imports_sites, decl_sites, file_sites}
use Rattle.go_scope.specs.IdentifierTokens.{is_ident_token, is_header_name}
use Rattle.law_tokens.specs.Tokens.{begins_declaration, names_among, identifiers_among}
use Rattle.law_tokens.specs.Covered.{CoverTokens, place_in}
use Rattle.go_scope.proofs.Covers.{Covers, is_link, is_linked, stands_unlinked, IsTaken, ends, skips, takes, selects, keys}
use Rattle.go_scope.proofs.CoveredFiles.{imports_covered, decls_named}

-- one identifier at each token, in their order, none of them predeclared
abbrev pub Pairs : TokenSpellings → List Site → List Token → Type 0
Pairs s [] [] = Unit {0}
Pairs s [] (t ∷ ts) = ⊥
Pairs s (x ∷ xs) [] = ⊥
Pairs s (x ∷ xs) (t ∷ ts) = (is_implied x.role ≡ false) × (x ≡ site s t.place x.role) × Pairs s xs ts

pairs_append : (s : TokenSpellings) (xs ys : List Site) (ts us : List Token) → Pairs s xs ts → Pairs s ys us → Pairs s (xs ++ ys) (ts ++ us)
pairs_append s [] ys [] us a b = b
pairs_append s [] ys (t ∷ ts) us a b = absurd a
pairs_append s (x ∷ xs) ys [] us a b = absurd a
pairs_append s (x ∷ xs) ys (t ∷ ts) us a b = (a.0, a.1, pairs_append s xs ys ts us a.2 b)

abbrev among : (Kind → Bool) → List Token → List Token
among P ts = filter (λ t. P t.kind) ts

kept : (P : Kind → Bool) (t : Token) (ts : List Token) → IsTaken P t.kind → among P (t ∷ ts) ≡ t ∷ among P ts
kept P t ts k = cond-true (P t.kind) (t ∷ among P ts) (among P ts) (and_parts (P t.kind) (not (is_link t.kind)) k).0

dropped : (P : Kind → Bool) (t : Token) (ts : List Token) → P t.kind ≡ false → among P (t ∷ ts) ≡ among P ts
dropped P t ts k = cond-false (P t.kind) (t ∷ among P ts) (among P ts) k

pub neither : (a b : Bool) → (a || b) ≡ false → (a ≡ false) × (b ≡ false)
neither true b e = absurd (true≢false e)
neither false b e = (refl, e)

not_implied : (r : Role) → is_linked r ≡ false → is_implied r ≡ false
not_implied Use e = refl
not_implied (Declaring block start) e = refl
not_implied (LeftName block start) e = refl
not_implied (Implied block start) e = absurd (true≢false e)
not_implied (NotLexical p) e = refl

-- an identifier of a known role, by its own
by_role : (s : TokenSpellings) (x : Site) (place : ℕ) (p : Purpose) → x ≡ site s place (NotLexical p) → (is_implied x.role ≡ false) × (x ≡ site s place x.role)
by_role s x place p e = (ap (λ (y : Site). is_implied y.role) e, e ∙ ap (site s place) (sym (ap (λ (y : Site). y.role) e)))

pairs_of : (P : Kind → Bool) (s : TokenSpellings) (xs : List Site) (ts : List Token) → Covers P s xs ts → Pairs s xs (among P ts)
pairs_of P s _ _ ends = tt
pairs_of P s xs _ (skips {t = t} {ts = ts} k a) =
    subst (λ l. Pairs s xs l) (sym (dropped P t ts (neither (P t.kind) (is_link t.kind) k).0)) (pairs_of P s xs ts a)
pairs_of P s _ _ (takes {x = x} {xs = xs} {t = t} {ts = ts} k i e a) =
    subst (λ l. Pairs s (x ∷ xs) l) (sym (kept P t ts k)) (not_implied x.role (stands_unlinked x.role t.kind i), e, pairs_of P s xs ts a)
pairs_of P s _ _ (selects {x = x} {xs = xs} {d = d} {t = t} {ts = ts} dot out k w e a) =
    let own = by_role s x t.place purpose.Selected e in
    subst (λ l. Pairs s (x ∷ xs) l) (sym (dropped P d (t ∷ ts) out ∙ kept P t ts k)) (own.0, own.1, pairs_of P s xs ts a)
pairs_of P s _ _ (keys {x = x} {xs = xs} {t = t} {c = c} {ts = ts} colon out k w e a) =
    let own = by_role s x t.place purpose.Key e in
    subst (λ l. Pairs s (x ∷ xs) l) (sym (kept P t (c ∷ ts) k ∙ ap (λ l. t ∷ l) (dropped P c ts out))) (own.0, own.1, pairs_of P s xs ts a)

-- no declaration begins among the tokens of imports

abbrev Plain : List Token → Type 0
Plain ts = AllByRecursion (λ t. begins_declaration t.kind ≡ false) ts

plain_append : (ts us : List Token) → Plain ts → Plain us → Plain (ts ++ us)
plain_append [] us a b = b
plain_append (t ∷ ts) us a b = (a.0, plain_append ts us a.1 b)

plain_if : (k : Kind) (p : Option ℕ) → begins_declaration k ≡ false → Plain (sign_if k p)
plain_if k None h = tt
plain_if k (Some p) h = (h, tt)

plain_all : {X : Type 0} (t : X → List Token) → ((x : X) → Plain (t x)) → (xs : List X) → Plain (all_tokens t xs)
unfolding all_tokens
plain_all t h [] = tt
plain_all t h (x ∷ xs) = plain_append (t x) (all_tokens t xs) (h x) (plain_all t h xs)

plain_import : (i : ImportTree) → Plain (import_tokens i)
unfolding import_tokens
plain_import i = plain_append (sign_if kind.Name i.name) (sign kind.Text i.path ∷ []) (plain_if kind.Name i.name refl) (refl, tt)

plain_group : (g : Group ImportTree) → Plain (group_tokens import_tokens g)
unfolding group_tokens
plain_group (single i) = plain_import i
plain_group (several o xs c) = (
  refl,
  plain_append (list_tokens kind.Semicolon import_tokens xs) (sign kind.RightParen c ∷ [])
      (plain_all (item_tokens kind.Semicolon import_tokens)
      (λ (x : Item ImportTree). plain_append (import_tokens x.value) (sign_if kind.Semicolon x.separator) (plain_import x.value)
      (plain_if kind.Semicolon x.separator refl)) xs)
      (refl, tt),
)

plain_imports : (i : ImportsTree) → Plain (imports_tokens i)
unfolding imports_tokens
plain_imports i = (refl, plain_append (group_tokens import_tokens i.imports) (sign kind.Semicolon i.semicolon ∷ []) (plain_group i.imports) (refl, tt))

-- so the identifiers of a file are the names and strings of its imports, and the names of its declarations

header_step : (b : Bool) (t : Token) (whole front back : List Token) → whole ≡ front ++ back → cond b (t ∷ whole) whole ≡ cond b (t ∷ front) front ++ back
header_step true t whole front back e = ap (λ l. t ∷ l) e
header_step false t whole front back e = e

header_first : (hs ds : List Token) → Plain hs → identifiers_among (hs ++ ds) ≡ among is_header_name hs ++ identifiers_among ds
unfolding identifiers_among
header_first [] ds h = refl
header_first (t ∷ hs) ds h =
    cond-false (begins_declaration t.kind) (names_among (hs ++ ds))
    (cond (is_header_name t.kind) (t ∷ identifiers_among (hs ++ ds)) (identifiers_among (hs ++ ds))) h.0 ∙
    header_step (is_header_name t.kind) t (identifiers_among (hs ++ ds)) (among is_header_name hs) (identifiers_among ds) (header_first hs ds h.1)

names_behind : (ds : List DeclTree) → identifiers_among (all_tokens decl_tokens ds) ≡ names_among (all_tokens decl_tokens ds)
unfolding identifiers_among all_tokens decl_tokens
names_behind [] = refl
names_behind (VarDecl k g semicolon ∷ ds) = refl
names_behind (TypeDecl k g semicolon ∷ ds) = refl
names_behind (FuncDecl k f semicolon ∷ ds) = refl

pub file_pairs : (s : TokenSpellings) (f : FileTree) → Pairs s (file_sites s f) (identifiers_among (flatten f))
unfolding file_sites flatten identifiers_among
file_pairs s f =
    let header = all_tokens imports_tokens f.imports in
    let rest = all_tokens decl_tokens f.decls in
    let sites = flat_map (imports_sites s) f.imports ++ flat_map (decl_sites s) f.decls in
    let split : identifiers_among (header ++ rest) ≡ among is_header_name header ++ names_among rest =
    header_first header rest (plain_all imports_tokens plain_imports f.imports) ∙ ap (λ l. among is_header_name header ++ l) (names_behind f.decls) in
    let whole : Pairs s sites (among is_header_name header ++ names_among rest) =
    pairs_append s (flat_map (imports_sites s) f.imports) (flat_map (decl_sites s) f.decls) (among is_header_name header) (names_among rest)
    (pairs_of is_header_name s (flat_map (imports_sites s) f.imports) header (imports_covered s f.imports))
    (pairs_of is_ident_token s (flat_map (decl_sites s) f.decls) rest (decls_named s f.decls)) in
    (refl, refl, subst (λ l. Pairs s sites l) (sym split) whole)

-- places and spellings

places_of : (s : TokenSpellings) (xs : List Site) (ts : List Token) → Pairs s xs ts → map (λ x. x.place) xs ≡ map (place_in s.rank) ts
places_of s [] [] h = refl
places_of s [] (t ∷ ts) h = absurd h
places_of s (x ∷ xs) [] h = absurd h
places_of s (x ∷ xs) (t ∷ ts) h = ap (λ (y : Site). y.place ∷ map (λ x. x.place) xs) h.1 ∙ ap (λ l. place_in s.rank t ∷ l) (places_of s xs ts h.2)

names_of : (s : TokenSpellings) (xs : List Site) (ts : List Token) → Pairs s xs ts → map (λ x. x.name) xs ≡ map (λ t. s.spell t.place) ts
names_of s [] [] h = refl
names_of s [] (t ∷ ts) h = absurd h
names_of s (x ∷ xs) [] h = absurd h
names_of s (x ∷ xs) (t ∷ ts) h = ap (λ (y : Site). y.name ∷ map (λ x. x.name) xs) h.1 ∙ ap (λ l. s.spell t.place ∷ l) (names_of s xs ts h.2)

pub file_covered : (s : TokenSpellings) (f : FileTree) → CoverTokens s (file_sites s f) (identifiers_among (flatten f))
file_covered s f =
    let pairs = file_pairs s f in
    record {
      places = places_of s (file_sites s f) (identifiers_among (flatten f)) pairs;
      names =
          names_of s (file_sites s f) (identifiers_among (flatten f)) pairs;
    }
