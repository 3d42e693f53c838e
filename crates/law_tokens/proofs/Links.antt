-- The dots and colons beside the identifiers of a file.
use Rattle.std.proofs.Common.{ℕ, suc, ◌≡◌, ◌<◌, ◌≤◌, ◌⊎◌, inl, inr, List, [], ◌∷◌, ◌++◌, true, false, not, ap, sym, ◌∙◌, refl, subst, Bool, arith}
use Rattle.std.specs.List.{flat_map, AllByRecursion}
use Rattle.std.proofs.lemmas.Bool.{and_parts, true≢false, not-true}
use Rattle.go_ast.specs.declared.syntax.Kind.{Kind}
use Rattle.go_ast.specs.declared.syntax.Kind.TheVariants as kind
use Rattle.go_ast.specs.declared.syntax.Token.{Token}
use Rattle.go_ast.specs.Flatten.{all_tokens, imports_tokens, decl_tokens, flatten}
use Rattle.go_ast.specs.Tree.{FileTree}
use Rattle.go_scope.specs.declared.model.Purpose.TheVariants as purpose
use Rattle.go_scope.specs.declared.model.Role.{Role}
use Rattle.go_scope.specs.declared.model.Role.TheVariants.{NotLexical}
use Rattle.go_scope.specs.Site.{Site, TokenSpellings}
use Rattle.go_scope.specs.FileSites.{imports_sites, decl_sites, file_sites}
use Rattle.go_scope.specs.IdentifierTokens.{is_ident_token, is_header_name}
use Rattle.go_scope.proofs.Covers.{Covers, is_link, is_linked, stands_unlinked, ends, skips, takes, selects, keys}
use Rattle.go_scope.proofs.CoveredFiles.{imports_covered, decls_named}
use Rattle.law_tokens.proofs.Covering.{neither}

-- identifiers among tokens: behind each dot stands a selected name, before each colon a key
data Linked (s : TokenSpellings) : List Site → List Token → Type 0 where
  stop : Linked s [] []
  skip : {xs : List Site} {t : Token} {ts : List Token} → is_link t.kind ≡ false → Linked s xs ts → Linked s xs (t ∷ ts)
  take : {x : Site} {xs : List Site} {t : Token} {ts : List Token} → is_link t.kind ≡ false → is_linked x.role ≡ false → x.place.index ≡ t.place →
      Linked s xs ts → Linked s (x ∷ xs) (t ∷ ts)
  select : {x : Site} {xs : List Site} {d t : Token} {ts : List Token} → d.kind ≡ kind.Dot → is_link t.kind ≡ false → x.place.index ≡ t.place →
      x.role ≡ NotLexical purpose.Selected →
      Linked s xs ts → Linked s (x ∷ xs) (d ∷ (t ∷ ts))
  key : {x : Site} {xs : List Site} {t c : Token} {ts : List Token} → c.kind ≡ kind.Colon → is_link t.kind ≡ false → x.place.index ≡ t.place →
      x.role ≡ NotLexical purpose.Key →
      Linked s xs ts → Linked s (x ∷ xs) (t ∷ (c ∷ ts))

linked : (P : Kind → Bool) (s : TokenSpellings) (xs : List Site) (ts : List Token) → Covers P s xs ts → Linked s xs ts
linked P s _ _ ends = stop
linked P s xs _ (skips {t = t} {ts = ts} k a) = skip (neither (P t.kind) (is_link t.kind) k).1 (linked P s xs ts a)
linked P s _ _ (takes {x = x} {xs = xs} {t = t} {ts = ts} k i e a) =
    take (not-true (is_link t.kind) (and_parts (P t.kind) (not (is_link t.kind)) k).1) (stands_unlinked x.role t.kind i)
    (ap (λ (y : Site). y.place.index) e) (linked P s xs ts a)
linked P s _ _ (selects {x = x} {xs = xs} {t = t} {ts = ts} d out k w e a) =
    select d (not-true (is_link t.kind) (and_parts (P t.kind) (not (is_link t.kind)) k).1) (ap (λ (y : Site). y.place.index) e)
    (ap (λ (y : Site). y.role) e) (linked P s xs ts a)
linked P s _ _ (keys {x = x} {xs = xs} {t = t} {ts = ts} c out k w e a) =
    key c (not-true (is_link t.kind) (and_parts (P t.kind) (not (is_link t.kind)) k).1) (ap (λ (y : Site). y.place.index) e) (ap (λ (y : Site). y.role) e)
    (linked P s xs ts a)

linked_append : (s : TokenSpellings) (xs ys : List Site) (ts us : List Token) → Linked s xs ts → Linked s ys us → Linked s (xs ++ ys) (ts ++ us)
linked_append s _ ys _ us stop b = b
linked_append s xs ys _ us (skip {ts = ts} k a) b = skip k (linked_append s xs ys ts us a b)
linked_append s _ ys _ us (take {xs = xs} {ts = ts} k i e a) b = take k i e (linked_append s xs ys ts us a b)
linked_append s _ ys _ us (select {xs = xs} {ts = ts} d k e r a) b = select d k e r (linked_append s xs ys ts us a b)
linked_append s _ ys _ us (key {xs = xs} {ts = ts} c k e r a) b = key c k e r (linked_append s xs ys ts us a b)

file_linked : (s : TokenSpellings) (f : FileTree) → Linked s (file_sites s f) (flatten f)
unfolding file_sites flatten
file_linked s f =
    let header = all_tokens imports_tokens f.imports in
    let rest = all_tokens decl_tokens f.decls in
    let imports = flat_map (imports_sites s) f.imports in
    let decls = flat_map (decl_sites s) f.decls in
    skip refl (take refl refl refl (skip refl
    (linked_append s imports decls header rest (linked is_header_name s imports header (imports_covered s f.imports))
    (linked is_ident_token s decls rest (decls_named s f.decls)))))

-- tokens numbered one by one

abbrev pub AreConsecutive : ℕ → List Token → Type 0
AreConsecutive n [] = Unit {0}
AreConsecutive n (t ∷ ts) = (t.place ≡ n) × AreConsecutive (suc n) ts

-- a token of that kind has that number
abbrev pub HasKind : Kind → ℕ → List Token → Type 0
HasKind k i [] = ⊥
HasKind k i (t ∷ ts) = ((t.place ≡ i) × (t.kind ≡ k)) ⊎ HasKind k i ts

pub kind_from : (n : ℕ) (ts : List Token) → AreConsecutive n ts → (k : Kind) (i : ℕ) → HasKind k i ts → n ≤ i
kind_from n [] w k i h = absurd h
kind_from n (t ∷ ts) w k i h = elim h [
  | inl here ↦ (let e : t.place ≡ i = here.0 in let f : t.place ≡ n = w.0 in omega arith)
  | inr rest ↦ (let le : suc n ≤ i = kind_from (suc n) ts w.1 k i rest in omega arith)
]

-- no colon comes first
none_first : (s : TokenSpellings) (n : ℕ) (xs : List Site) (ts : List Token) → Linked s xs ts → AreConsecutive n ts → HasKind kind.Colon n ts → ⊥
none_first s n _ _ stop w h = h
none_first s n xs _ (skip {t = t} {ts = ts} k a) w h = elim h [
  | inl here ↦ true≢false (sym (ap is_link here.1) ∙ k)
  | inr rest ↦ (let le : suc n ≤ n = kind_from (suc n) ts w.1 kind.Colon n rest in absurd (omega arith))
]
none_first s n _ _ (take {t = t} {ts = ts} k i e a) w h = elim h [
  | inl here ↦ true≢false (sym (ap is_link here.1) ∙ k)
  | inr rest ↦ (let le : suc n ≤ n = kind_from (suc n) ts w.1 kind.Colon n rest in absurd (omega arith))
]
none_first s n _ _ (select {d = d} {t = t} {ts = ts} dot k e r a) w h = elim h [
  | inl here ↦ (let same : kind.Colon ≡ kind.Dot = sym here.1 ∙ dot in let z : ⊥ = cc in z)
  | inr rest ↦ (let le : suc n ≤ n = kind_from (suc n) (t ∷ ts) w.1 kind.Colon n rest in absurd (omega arith))
]
none_first s n _ _ (key {t = t} {c = c} {ts = ts} colon k e r a) w h = elim h [
  | inl here ↦ true≢false (sym (ap is_link here.1) ∙ k)
  | inr rest ↦ (let le : suc n ≤ n = kind_from (suc n) (c ∷ ts) w.1 kind.Colon n rest in absurd (omega arith))
]

-- what the tokens tell of an identifier
pub record Told (ts : List Token) (index : ℕ) (role : Role) : Type 0 where
  pub dotted : role ≡ NotLexical purpose.Selected → (i : ℕ) × ((suc i ≡ index) × HasKind kind.Dot i ts)
  pub by_dot : (i : ℕ) → suc i ≡ index → HasKind kind.Dot i ts → role ≡ NotLexical purpose.Selected
  pub keyed : role ≡ NotLexical purpose.Key → HasKind kind.Colon (suc index) ts
  pub by_colon : HasKind kind.Colon (suc index) ts → role ≡ NotLexical purpose.Key

-- one more token before
told_more : (t : Token) (ts : List Token) (index : ℕ) (role : Role) → t.place < index → (t.kind ≡ kind.Dot → suc t.place < index) → Told ts index role →
    Told (t ∷ ts) index role
told_more t ts index role lt far h = record {
  dotted = (λ e. let d = h.dotted e in (d.0, (d.1.0, inr d.1.1)));
  by_dot = (λ i e m. elim m [
    | inl here ↦
        (let at : t.place ≡ i = here.0 in let more : suc t.place < index = far here.1 in absurd (omega arith))
    | inr rest ↦ h.by_dot i e rest
  ]);
  keyed = (λ e. inr (h.keyed e));
  by_colon = (λ m. elim m [ inl here ↦ (let at : t.place ≡ suc index = here.0 in absurd (omega arith)) | inr rest ↦ h.by_colon rest ]);
}

not_selected : (r : Role) → is_linked r ≡ false → r ≡ NotLexical purpose.Selected → ⊥
not_selected r k e = true≢false (sym (ap is_linked e) ∙ k)

not_key : (r : Role) → is_linked r ≡ false → r ≡ NotLexical purpose.Key → ⊥
not_key r k e = true≢false (sym (ap is_linked e) ∙ k)

selected_no_key : (r : Role) → r ≡ NotLexical purpose.Selected → r ≡ NotLexical purpose.Key → ⊥
selected_no_key r e f = let same : NotLexical purpose.Selected ≡ NotLexical purpose.Key = sym e ∙ f in let z : ⊥ = cc in z

told_here : (s : TokenSpellings) (n : ℕ) (x : Site) (xs : List Site) (t : Token) (ts : List Token) → is_link t.kind ≡ false → is_linked x.role ≡ false →
    x.place.index ≡ t.place → Linked s xs ts →
    t.place ≡ n → AreConsecutive (suc n) ts → Told (t ∷ ts) x.place.index x.role
told_here s n x xs t ts k i e a at w = record {
  dotted = (λ r. absurd (not_selected x.role i r));
  by_dot = (λ j f m. elim m [
    | inl here ↦ (let p : t.place ≡ j = here.0 in absurd (omega arith))
    | inr rest ↦ (let le : suc n ≤ j = kind_from (suc n) ts w kind.Dot j rest in absurd (omega arith))
  ]);
  keyed = (λ r. absurd (not_key x.role i r));
  by_colon = (λ m. elim m [
    | inl here ↦ (let p : t.place ≡ suc x.place.index = here.0 in absurd (omega arith))
    | inr rest ↦ absurd (none_first s (suc n) xs ts a w (subst (λ j. HasKind kind.Colon j ts) (omega arith) rest))
  ]);
}

told_selected : (s : TokenSpellings) (n : ℕ) (x : Site) (xs : List Site) (d t : Token) (ts : List Token) → d.kind ≡ kind.Dot → x.place.index ≡ t.place →
    x.role ≡ NotLexical purpose.Selected → Linked s xs ts →
    d.place ≡ n → t.place ≡ suc n → AreConsecutive (suc (suc n)) ts → Told (d ∷ (t ∷ ts)) x.place.index x.role
told_selected s n x xs d t ts dot e r a first second w = record {
  dotted = (λ q. (n, ((omega arith), inl (first, dot))));
  by_dot = (λ i f m. r);
  keyed = (λ q. absurd (selected_no_key x.role r q));
  by_colon = (λ m. elim m [
    | inl here ↦ (let p : d.place ≡ suc x.place.index = here.0 in absurd (omega arith))
    | inr rest ↦ elim rest [
      | inl here ↦ (let p : t.place ≡ suc x.place.index = here.0 in absurd (omega arith))
      | inr more ↦ absurd (none_first s (suc (suc n)) xs ts a w (subst (λ j. HasKind kind.Colon j ts) (omega arith) more))
    ]
  ]);
}

told_key : (s : TokenSpellings) (n : ℕ) (x : Site) (t c : Token) (ts : List Token) → c.kind ≡ kind.Colon → x.place.index ≡ t.place →
    x.role ≡ NotLexical purpose.Key → AreConsecutive n (t ∷ (c ∷ ts)) →
    Told (t ∷ (c ∷ ts)) x.place.index x.role
told_key s n x t c ts colon e r w =
    let first : t.place ≡ n = w.0 in
    let second : c.place ≡ suc n = w.1.0 in
    record {
      dotted = (λ q. absurd (selected_no_key x.role q r));
      by_dot = (λ i f m. let le : n ≤ i = kind_from n (t ∷ (c ∷ ts)) w kind.Dot i m in absurd (omega arith));
      keyed = (λ q. inr (inl ((omega arith), colon)));
      by_colon = (λ m. r);
    }

abbrev ToldFrom : ℕ → List Token → Site → Type 0
ToldFrom n ts x = (n ≤ x.place.index) × Told ts x.place.index x.role

each_more : (n : ℕ) (t : Token) (ts : List Token) (xs : List Site) → t.place ≡ n →
    (t.kind ≡ kind.Dot → AllByRecursion (λ (x : Site). suc n < x.place.index) xs) →
    AllByRecursion (ToldFrom (suc n) ts) xs → AllByRecursion (ToldFrom n (t ∷ ts)) xs
each_more n t ts [] at far h = tt
each_more n t ts (x ∷ xs) at far h =
    let le : suc n ≤ x.place.index = h.0.0 in (
      (
        (omega arith),
        told_more t ts x.place.index x.role (omega arith)
            (λ e. let more : suc n < x.place.index = (far e).0 in omega arith) h.0.1,
      ),
      each_more n t ts xs at (λ e. (far e).1) h.1,
    )

-- where no dot comes before
plain_more : (n : ℕ) (t : Token) (ts : List Token) (xs : List Site) → t.place ≡ n → is_link t.kind ≡ false → AllByRecursion (ToldFrom (suc n) ts) xs →
    AllByRecursion (ToldFrom n (t ∷ ts)) xs
plain_more n t ts xs at k h = each_more n t ts xs at (λ e. absurd (true≢false (sym (ap is_link e) ∙ k))) h

all_behind : (n : ℕ) (ts : List Token) (xs : List Site) → AllByRecursion (ToldFrom n ts) xs → AllByRecursion (λ (x : Site). n ≤ x.place.index) xs
all_behind n ts [] h = tt
all_behind n ts (x ∷ xs) h = (h.0.0, all_behind n ts xs h.1)

each_told : (s : TokenSpellings) (n : ℕ) (xs : List Site) (ts : List Token) → Linked s xs ts → AreConsecutive n ts → AllByRecursion (ToldFrom n ts) xs
each_told s n _ _ stop w = tt
each_told s n xs _ (skip {t = t} {ts = ts} k a) w = plain_more n t ts xs w.0 k (each_told s (suc n) xs ts a w.1)
each_told s n _ _ (take {x = x} {xs = xs} {t = t} {ts = ts} k i e a) w =
    let at : t.place ≡ n = w.0 in
    (((omega arith), told_here s n x xs t ts k i e a w.0 w.1), plain_more n t ts xs w.0 k (each_told s (suc n) xs ts a w.1))
each_told s n _ _ (select {x = x} {xs = xs} {d = d} {t = t} {ts = ts} dot k e r a) w =
    let first : d.place ≡ n = w.0 in
    let second : t.place ≡ suc n = w.1.0 in
    let rest = each_told s (suc (suc n)) xs ts a w.1.1 in
    let behind = plain_more (suc n) t ts xs second k rest in (
      ((omega arith), told_selected s n x xs d t ts dot e r a first second w.1.1),
      each_more n d (t ∷ ts) xs first
          (λ q. all_behind (suc (suc n)) ts xs rest) behind,
    )
each_told s n _ _ (key {x = x} {xs = xs} {t = t} {c = c} {ts = ts} colon k e r a) w =
    let first : t.place ≡ n = w.0 in
    let second : c.place ≡ suc n = w.1.0 in
    let rest = each_told s (suc (suc n)) xs ts a w.1.1 in
    let behind = each_more (suc n) c ts xs second (λ q. let same : kind.Dot ≡ kind.Colon = sym q ∙ colon in let z : ⊥ = cc in absurd z) rest in
    (((omega arith), told_key s n x t c ts colon e r w), plain_more n t (c ∷ ts) xs first k behind)

abbrev pub ToldIn : List Token → Site → Type 0
ToldIn ts x = Told ts x.place.index x.role

told_alone : (n : ℕ) (ts : List Token) (xs : List Site) → AllByRecursion (ToldFrom n ts) xs → AllByRecursion (ToldIn ts) xs
told_alone n ts [] h = tt
told_alone n ts (x ∷ xs) h = (h.0.1, told_alone n ts xs h.1)

pub file_told : (s : TokenSpellings) (f : FileTree) → AreConsecutive 0 (flatten f) → AllByRecursion (ToldIn (flatten f)) (file_sites s f)
file_told s f w = told_alone 0 (flatten f) (file_sites s f) (each_told s 0 (file_sites s f) (flatten f) (file_linked s f) w)
