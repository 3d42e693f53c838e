-- Identifiers that stand at all tokens of some kinds, in their order.
use Rattle.std.proofs.Common.{ℕ, ◌≡◌, List, [], ◌∷◌, ◌++◌, Option, Some, None, Bool, true, false, refl, not, ◌&&◌, ◌||◌}
use Rattle.std.specs.List.{flat_map}
use Rattle.std.specs.Option.{unwrap_or}
use Rattle.go_ast.specs.declared.syntax.Kind.{Kind}
use Rattle.go_ast.specs.declared.syntax.Kind.TheVariants as kind
use Rattle.go_ast.specs.declared.syntax.Token.{Token}
use Rattle.go_ast.specs.Flatten.{sign, sign_if, tokens_if, all_tokens, item_tokens, list_tokens, group_tokens}
use Rattle.go_ast.specs.Tree.{Item, Group, single, several}
use Rattle.go_scope.specs.declared.model.Purpose.TheVariants as purpose
use Rattle.go_scope.specs.declared.model.Role.{Role}
use Rattle.go_scope.specs.declared.model.Role.TheVariants.{Use, Declaring, LeftName, Implied, NotLexical}
use Rattle.go_scope.specs.Site.{Site, TokenSpellings, site}
use Rattle.go_scope.specs.IdentifierTokens.{is_ident_token}
use Rattle.go_scope.specs.ExpressionSites.{sites_if, list_sites}
use Rattle.go_scope.specs.StatementSites.{separated_sites, group_sites}

-- a dot or a colon
abbrev pub is_link : Kind → Bool
is_link kind.Dot = true
is_link kind.Colon = true
is_link _ = false

-- the role of a name behind a dot, of a key, or of a predeclared name
abbrev pub is_linked : Role → Bool
is_linked (NotLexical purpose.Selected) = true
is_linked (NotLexical purpose.Key) = true
is_linked (Implied block start) = true
is_linked _ = false

-- An identifier of this role may stand at a token of this kind: one that declares at a name, a use at a name or `_`, the path of an import
-- at a string. Behind a dot and before a colon stand names.
abbrev pub Stands : Role → Kind → Type 0
Stands Use k = is_ident_token k ≡ true
Stands (Declaring block start) k = k ≡ kind.Name
Stands (LeftName block start) k = k ≡ kind.Name
Stands (Implied block start) k = ⊥
Stands (NotLexical purpose.Selected) k = ⊥
Stands (NotLexical purpose.Key) k = ⊥
Stands (NotLexical purpose.Blank) k = k ≡ kind.Blank
Stands (NotLexical purpose.ImportPath) k = k ≡ kind.Text
Stands (NotLexical purpose.UnnamedImport) k = k ≡ kind.Text
Stands (NotLexical p) k = k ≡ kind.Name

pub stands_unlinked : (r : Role) (k : Kind) → Stands r k → is_linked r ≡ false
stands_unlinked Use k h = refl
stands_unlinked (Declaring block start) k h = refl
stands_unlinked (LeftName block start) k h = refl
stands_unlinked (Implied block start) k h = absurd h
stands_unlinked (NotLexical purpose.Selected) k h = absurd h
stands_unlinked (NotLexical purpose.Key) k h = absurd h
stands_unlinked (NotLexical purpose.PackageClause) k h = refl
stands_unlinked (NotLexical purpose.Member) k h = refl
stands_unlinked (NotLexical purpose.ImportPath) k h = refl
stands_unlinked (NotLexical purpose.UnnamedImport) k h = refl
stands_unlinked (NotLexical purpose.InitFunction) k h = refl
stands_unlinked (NotLexical purpose.Blank) k h = refl

abbrev pub IsTaken : (Kind → Bool) → Kind → Type 0
IsTaken P k = (P k && not (is_link k)) ≡ true

abbrev pub IsSkipped : (Kind → Bool) → Kind → Type 0
IsSkipped P k = (P k || is_link k) ≡ false

-- one identifier at each token of such a kind, in their order; those behind a dot are selected, and those before a colon keys
pub data Covers (P : Kind → Bool) (s : TokenSpellings) : List Site → List Token → Type 0 where
  ends : Covers P s [] []
  skips : {xs : List Site} {t : Token} {ts : List Token} → IsSkipped P t.kind → Covers P s xs ts → Covers P s xs (t ∷ ts)
  takes : {x : Site} {xs : List Site} {t : Token} {ts : List Token} → IsTaken P t.kind → Stands x.role t.kind → x ≡ site s t.place x.role →
      Covers P s xs ts →
      Covers P s (x ∷ xs) (t ∷ ts)
  selects : {x : Site} {xs : List Site} {d t : Token} {ts : List Token} → d.kind ≡ kind.Dot → P d.kind ≡ false → IsTaken P t.kind →
      t.kind ≡ kind.Name → x ≡ site s t.place (NotLexical purpose.Selected) →
      Covers P s xs ts → Covers P s (x ∷ xs) (d ∷ (t ∷ ts))
  keys : {x : Site} {xs : List Site} {t c : Token} {ts : List Token} → c.kind ≡ kind.Colon → P c.kind ≡ false → IsTaken P t.kind →
      t.kind ≡ kind.Name → x ≡ site s t.place (NotLexical purpose.Key) →
      Covers P s xs ts → Covers P s (x ∷ xs) (t ∷ (c ∷ ts))

pub covers_append : (P : Kind → Bool) (s : TokenSpellings) (xs ys : List Site) (ts us : List Token) → Covers P s xs ts → Covers P s ys us →
    Covers P s (xs ++ ys) (ts ++ us)
covers_append P s _ ys _ us ends b = b
covers_append P s xs ys _ us (skips {ts = ts} k a) b = skips k (covers_append P s xs ys ts us a b)
covers_append P s _ ys _ us (takes {xs = xs} {ts = ts} k i e a) b = takes k i e (covers_append P s xs ys ts us a b)
covers_append P s _ ys _ us (selects {xs = xs} {ts = ts} d n k w e a) b = selects d n k w e (covers_append P s xs ys ts us a b)
covers_append P s _ ys _ us (keys {xs = xs} {ts = ts} c n k w e a) b = keys c n k w e (covers_append P s xs ys ts us a b)

-- tokens of no such kind behind
pub covers_pad : (P : Kind → Bool) (s : TokenSpellings) (xs : List Site) (ts us : List Token) → Covers P s xs ts → Covers P s [] us → Covers P s xs (ts ++ us)
covers_pad P s _ _ us ends b = b
covers_pad P s xs _ us (skips {ts = ts} k a) b = skips k (covers_pad P s xs ts us a b)
covers_pad P s _ _ us (takes {xs = xs} {ts = ts} k i e a) b = takes k i e (covers_pad P s xs ts us a b)
covers_pad P s _ _ us (selects {xs = xs} {ts = ts} d n k w e a) b = selects d n k w e (covers_pad P s xs ts us a b)
covers_pad P s _ _ us (keys {xs = xs} {ts = ts} c n k w e a) b = keys c n k w e (covers_pad P s xs ts us a b)

pub covers_end : (P : Kind → Bool) (s : TokenSpellings) (xs : List Site) (ts : List Token) (k : Kind) (p : ℕ) → IsSkipped P k → Covers P s xs ts →
    Covers P s xs (ts ++ (sign k p ∷ []))
covers_end P s xs ts k p h a = covers_pad P s xs ts (sign k p ∷ []) a (skips h ends)

pub none_if : (P : Kind → Bool) (s : TokenSpellings) (k : Kind) (p : Option ℕ) → IsSkipped P k → Covers P s [] (sign_if k p)
none_if P s k None h = ends
none_if P s k (Some p) h = skips h ends

-- such a token before, where there is one
pub covers_behind : (P : Kind → Bool) (s : TokenSpellings) (xs : List Site) (ts : List Token) (k : Kind) (p : Option ℕ) → IsSkipped P k → Covers P s xs ts →
    Covers P s xs (sign_if k p ++ ts)
covers_behind P s xs ts k None h a = a
covers_behind P s xs ts k (Some p) h a = skips h a

-- lists, groups and what may be absent

pub all_covers : {X : Type 0} (P : Kind → Bool) (s : TokenSpellings) (f : X → List Site) (t : X → List Token) → ((x : X) → Covers P s (f x) (t x)) →
    (xs : List X) → Covers P s (flat_map f xs) (all_tokens t xs)
unfolding all_tokens
all_covers P s f t h [] = ends
all_covers P s f t h (x ∷ xs) = covers_append P s (f x) (flat_map f xs) (t x) (all_tokens t xs) (h x) (all_covers P s f t h xs)

pub none_all : {X : Type 0} (P : Kind → Bool) (s : TokenSpellings) (t : X → List Token) → ((x : X) → Covers P s [] (t x)) → (xs : List X) →
    Covers P s [] (all_tokens t xs)
unfolding all_tokens
none_all P s t h [] = ends
none_all P s t h (x ∷ xs) = covers_append P s [] [] (t x) (all_tokens t xs) (h x) (none_all P s t h xs)

pub list_covers : {X : Type 0} (P : Kind → Bool) (s : TokenSpellings) (k : Kind) → IsSkipped P k → (f : X → List Site) (t : X → List Token) →
    ((x : X) → Covers P s (f x) (t x)) → (xs : List (Item X)) →
    Covers P s (list_sites f xs) (list_tokens k t xs)
list_covers P s k other f t h xs =
    all_covers P s (λ x. f x.value) (item_tokens k t)
    (λ x. covers_pad P s (f x.value) (t x.value) (sign_if k x.separator) (h x.value) (none_if P s k x.separator other)) xs

pub separated_covers : {X : Type 0} (P : Kind → Bool) (s : TokenSpellings) (k : Kind) → IsSkipped P k → (f : ℕ → X → List Site) (t : X → List Token) →
    ((n : ℕ) (x : X) → Covers P s (f n x) (t x)) →
    (close : ℕ) (xs : List (Item X)) → Covers P s (separated_sites f close xs) (list_tokens k t xs)
unfolding separated_sites
separated_covers P s k other f t h close xs =
    all_covers P s (λ x. f (unwrap_or x.separator close) x.value) (item_tokens k t)
    (λ x. covers_pad P s (f (unwrap_or x.separator close) x.value) (t x.value) (sign_if k x.separator) (h (unwrap_or x.separator close) x.value)
    (none_if P s k x.separator other)) xs

pub group_covers : {X : Type 0} (P : Kind → Bool) (s : TokenSpellings) → IsSkipped P kind.LeftParen → IsSkipped P kind.Semicolon → IsSkipped P kind.RightParen →
    (f : ℕ → X → List Site) (t : X → List Token) →
    ((n : ℕ) (x : X) → Covers P s (f n x) (t x)) → (following : ℕ) (g : Group X) → Covers P s (group_sites f following g) (group_tokens t g)
unfolding group_sites group_tokens
group_covers P s left between right f t h following (single x) = h following x
group_covers P s left between right f t h following (several o xs c) =
    skips left (covers_end P s (separated_sites f c xs) (list_tokens kind.Semicolon t xs) kind.RightParen c right
    (separated_covers P s kind.Semicolon between f t h c xs))

pub option_covers : {X : Type 0} (P : Kind → Bool) (s : TokenSpellings) (f : X → List Site) (t : X → List Token) → ((x : X) → Covers P s (f x) (t x)) →
    (x : Option X) → Covers P s (sites_if f x) (tokens_if t x)
option_covers P s f t h None = ends
option_covers P s f t h (Some x) = h x
