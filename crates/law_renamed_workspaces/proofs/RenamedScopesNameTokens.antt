-- What declares or is a use in a scope stands at an identifier token, unless it is predeclared or an import without a name.
use Rattle.std.proofs.Common.{ℕ, zero, suc, ◌≡◌, ◌+◌, inl, inr, Bool, true, false, List, [], ◌∷◌, ◌++◌, Option, Some, None, map, refl, sym}
use Rattle.std.proofs.Common.{◌∙◌, ap, subst, arith}
use Rattle.std.specs.Prelude.{slice_get}
use Rattle.std.specs.List.{AllByRecursion, flat_map}
use Rattle.std.proofs.lemmas.Bool.{and_parts, true≢false}
use Rattle.std.proofs.lemmas.List.Elements.{All-head, All-tail}
use Rattle.std.proofs.lemmas.Option.{get_or_from_slice_get}
use Rattle.base_lemmas.proofs.EachElement.{all_append}
use Rattle.go_scanner.specs.declared.operators.Operator.{Operator}
use Rattle.go_scanner.specs.declared.operators.Operator.TheVariants as operators
use Rattle.go_scanner.specs.declared.keywords.Keyword.{Keyword}
use Rattle.go_scanner.specs.declared.keywords.Keyword.TheVariants as words
use Rattle.go_scanner.specs.declared.piece.Class.{Class}
use Rattle.go_scanner.specs.declared.piece.Class.TheVariants as class
use Rattle.go_scanner.specs.declared.piece.Piece.{Piece}
use Rattle.go_scanner.specs.Cuts.{bytes_of}
use Rattle.go_scanner.specs.CutText.{CutText, tokens_in, token_at}
use Rattle.go_scanner.specs.TokenValues.{IsStringClass}
use Rattle.go_scanner.specs.Tokens.{semicolon}
use Rattle.go_ast.specs.declared.syntax.Kind.{Kind}
use Rattle.go_ast.specs.declared.syntax.Token.{Token}
use Rattle.go_ast.specs.FileView.{file_view}
use Rattle.go_ast.specs.Flatten.{all_tokens, imports_tokens, decl_tokens, flatten}
use Rattle.go_ast.specs.Kinds.{kind_of_keyword, kind_of_operator, kind_of}
use Rattle.go_ast.specs.SourceFile.{FileParts, IsSourceFile, source_of, spelling_of}
use Rattle.go_ast.specs.Tree.{Item, Group, single, several, ImportTree, ImportsTree, FileTree}
use Rattle.go_scope.specs.declared.model.Block.TheVariants as blocks
use Rattle.go_scope.specs.declared.model.Position.{Position}
use Rattle.go_scope.specs.declared.model.Purpose.TheVariants as purpose
use Rattle.go_scope.specs.declared.model.Role.{Role}
use Rattle.go_scope.specs.declared.model.Role.TheVariants.{Use, Declaring, NotLexical}
use Rattle.go_scope.specs.FileSites.{universe_site, import_name, import_purpose, import_sites, imports_sites, spec_sites, decl_sites, file_sites}
use Rattle.go_scope.specs.FileSites.{files_sites}
use Rattle.go_scope.specs.Site.{Site, TokenSpellings, site, or_blank}
use Rattle.go_scope.specs.SpelledFiles.{spelled_file}
use Rattle.go_scope.specs.StatementSites.{separated_sites, group_sites}
use Rattle.law_tokens.specs.Covered.{AreSourceFiles}
use Rattle.law_tokens.specs.Roles.{IsOfKind}
use Rattle.go_scope.specs.IdentifierTokens.{is_ident_token}
use Rattle.law_tokens.specs.Tokens.{identifiers_among}
use Rattle.go_scope.proofs.CoveredFiles.{decls_named}
use Rattle.go_scope.proofs.Covers.{Covers, IsTaken, ends, skips, takes, selects, keys}
use Rattle.law_tokens.proofs.Covering.{file_pairs}
use Rattle.law_tokens.proofs.FileIdentifiers.{role_in, paired_files}
use Rattle.law_faultless.proofs.DeclaringNames.{AllOf, back}
use Rattle.law_faultless.proofs.Numbers.{OfKind, file_kinds}
use Rattle.law_rename.proofs.Finding.{token_of}
use Rattle.refs_lookup.proofs.Apart.{all_as}

-- an identifier token is a name

sign_is_none : {A : Type 0} (o : Operator) → is_ident_token (kind_of_operator o) ≡ true → A
sign_is_none operators.LeftParen e = cc
sign_is_none _ e = cc

word_is_none : {A : Type 0} (k : Keyword) → is_ident_token (kind_of_keyword k) ≡ true → A
word_is_none words.Break e = cc
word_is_none _ e = cc

ident_class : (c : Class) (bytes : List ℕ) → is_ident_token (kind_of c bytes) ≡ true → c ≡ class.Name
ident_class class.Name bytes e = refl
ident_class (class.Keyword k) bytes e = word_is_none k e
ident_class (class.Operator o) bytes e = sign_is_none o e
ident_class _ bytes e = let z : ⊥ = cc in absurd z

pub record IsIdent (c : CutText) (i : ℕ) : Type 0 where
  pub kind : Kind
  pub of_kind : IsOfKind c i kind
  pub is_ident : is_ident_token kind ≡ true

pub record IsNamePiece (c : CutText) (i : ℕ) : Type 0 where
  pub piece : Piece
  pub at : slice_get (tokens_in c) i ≡ Some piece
  pub is_name : piece.class ≡ class.Name

pub ident_piece : (c : CutText) (i : ℕ) → IsIdent c i → IsNamePiece c i
ident_piece c i h =
    let token = token_of 0 c.text (tokens_in c) i h.of_kind.0 h.of_kind.1.0 in
    record {
      piece = token.piece;
      at = token.at;
      is_name = ident_class token.piece.class (bytes_of c.text token.piece)
          (ap is_ident_token (token.is ∙ h.of_kind.1.1) ∙ h.is_ident);
    }

no_string : (c : Class) → c ≡ class.Name → IsStringClass c → ⊥
no_string c e s = elim s [
  | inl f ↦ (let z : class.Name ≡ class.InterpretedString = sym e ∙ f in cc)
  | inr f ↦ (let z : class.Name ≡ class.RawString = sym e ∙ f in cc)
]

pub ident_no_string : (c : CutText) (i : ℕ) → IsIdent c i → IsStringClass (token_at c i).class → ⊥
ident_no_string c i h s =
    let p = ident_piece c i h in
    no_string p.piece.class p.is_name
    (subst (λ (x : Piece). IsStringClass x.class) (get_or_from_slice_get (tokens_in c) i p.piece (semicolon 0) p.at) s)

-- the tokens of what covers them

module _ (K : Kind → ℕ → Type 0) where
  abbrev IsOf : (Kind → Bool) → ℕ → Type 0
  IsOf P i = (k : Kind) × (K k i × (P k ≡ true))

  -- it stands in the file, at a token of such a kind
  abbrev StandsAt : (Kind → Bool) → TokenSpellings → Site → Type 0
  StandsAt P s x = (x.place.file ≡ s.rank) × IsOf P x.place.index

  taken : (P : Kind → Bool) (s : TokenSpellings) (x : Site) (t : Token) (r : Role) → x ≡ site s t.place r → IsTaken P t.kind → K t.kind t.place → StandsAt P s x
  taken P s x t r e k h = (
    ap (λ (y : Site). y.place.file) e,
    (t.kind, (subst (K t.kind) (sym (ap (λ (y : Site). y.place.index) e)) h, (and_parts _ _ k).0)),
  )

  covers_stand : (P : Kind → Bool) (s : TokenSpellings) (xs : List Site) (ts : List Token) → Covers P s xs ts → AllOf K ts → AllByRecursion (StandsAt P s) xs
  covers_stand P s _ _ ends h = tt
  covers_stand P s xs _ (skips {ts = ts} k a) h = covers_stand P s xs ts a h.1
  covers_stand P s _ _ (takes {x = x} {xs = xs} {t = t} {ts = ts} k i e a) h = (taken P s x t x.role e k h.0, covers_stand P s xs ts a h.1)
  covers_stand P s _ _ (selects {x = x} {xs = xs} {d = d} {t = t} {ts = ts} dot out k w e a) h =
      (taken P s x t (NotLexical purpose.Selected) e k h.1.0, covers_stand P s xs ts a h.1.1)
  covers_stand P s _ _ (keys {x = x} {xs = xs} {t = t} {c = c} {ts = ts} colon out k w e a) h =
      (taken P s x t (NotLexical purpose.Key) e k h.0, covers_stand P s xs ts a h.1.1)

-- a use, or a name behind a dot; no import is one

abbrev pub is_named : Role → Bool
is_named Use = true
is_named (NotLexical purpose.Selected) = true
is_named r = false

abbrev IsUnused : Site → Type 0
IsUnused x = is_named x.role ≡ false

import_unused : (s : TokenSpellings) (i : ImportTree) → AllByRecursion IsUnused (import_sites s i)
unfolding import_sites
import_unused s i = by_name i.name
  where
    by_name : (n : Option ℕ) → AllByRecursion IsUnused (import_name s n ++ (site s i.path (NotLexical (import_purpose n)) ∷ []))
    by_name None = (refl, tt)
    by_name (Some n) = (refl, (refl, tt))

items_unused : (s : TokenSpellings) (xs : List (Item ImportTree)) → AllByRecursion IsUnused (flat_map (λ (x : Item ImportTree). import_sites s x.value) xs)
items_unused s [] = tt
items_unused s (x ∷ xs) = all_append IsUnused (import_sites s x.value) _ (import_unused s x.value) (items_unused s xs)

group_unused : (s : TokenSpellings) (g : Group ImportTree) → AllByRecursion IsUnused (spec_sites (import_sites s) g)
unfolding group_sites separated_sites
group_unused s (single x) = import_unused s x
group_unused s (several o xs c) = items_unused s xs

imports_unused : (s : TokenSpellings) (is : List ImportsTree) → AllByRecursion IsUnused (flat_map (imports_sites s) is)
unfolding imports_sites
imports_unused s [] = tt
imports_unused s (i ∷ is) = all_append IsUnused (imports_sites s i) (flat_map (imports_sites s) is) (group_unused s i.imports) (imports_unused s is)

-- the identifiers of a file

module _ (K : Kind → ℕ → Type 0) (s : TokenSpellings) (f : FileTree) (h : AllOf K (flatten f)) where
  decls_stand : AllByRecursion (StandsAt K is_ident_token s) (flat_map (decl_sites s) f.decls)
  unfolding flatten
  decls_stand =
      covers_stand K is_ident_token s (flat_map (decl_sites s) f.decls) (all_tokens decl_tokens f.decls) (decls_named s f.decls)
      (back K (all_tokens imports_tokens f.imports) (all_tokens decl_tokens f.decls) h.1.1.1)

  abbrev IsNamedUse : Site → Type 0
  IsNamedUse x = is_named x.role ≡ true → IsOf K is_ident_token x.place.index

  file_uses : AllByRecursion IsNamedUse (file_sites s f)
  unfolding file_sites
  file_uses = (
    λ e. absurd (true≢false (sym e)),
    all_append IsNamedUse (flat_map (imports_sites s) f.imports) (flat_map (decl_sites s) f.decls)
        (all_as IsUnused IsNamedUse (λ x n e. absurd (true≢false (sym e ∙ n))) (flat_map (imports_sites s) f.imports) (imports_unused s f.imports))
        (all_as (StandsAt K is_ident_token s) IsNamedUse (λ x a e. a.1) (flat_map (decl_sites s) f.decls) decls_stand),
  )

-- the literal of an import with a name stands behind that name

abbrev pub is_import_name : Role → Bool
is_import_name (Declaring (blocks.File f) start) = true
is_import_name r = false

module _ (T : Position → Type 0) where
  -- each literal of an import, as far as it is a string, stands behind an import's name; b: one stands before the first
  abbrev pub Led : Bool → List Site → Type 0
  Led b [] = Unit {0}
  Led b (x ∷ xs) = (x.role ≡ NotLexical purpose.ImportPath → T x.place → b ≡ true) × Led (is_import_name x.role) xs

  led_more : (b : Bool) (xs : List Site) → Led false xs → Led b xs
  led_more b [] h = tt
  led_more b (x ∷ xs) h = ((λ e t. absurd (true≢false (sym (h.0 e t)))), h.1)

  led_append : (b : Bool) (xs ys : List Site) → Led b xs → Led false ys → Led b (xs ++ ys)
  led_append b [] ys h k = led_more b ys k
  led_append b (x ∷ xs) ys h k = (h.0, led_append (is_import_name x.role) xs ys h.1 k)

  no_strings : (xs : List Site) → AllByRecursion (λ x. T x.place → ⊥) xs → Led false xs
  no_strings [] h = tt
  no_strings (x ∷ xs) h = ((λ e t. absurd (h.0 t)), led_more (is_import_name x.role) xs (no_strings xs h.1))

  led_import : (s : TokenSpellings) (i : ImportTree) → Led false (import_sites s i)
  unfolding import_sites
  led_import s i = by_name i.name
    where
      by_name : (n : Option ℕ) → Led false (import_name s n ++ (site s i.path (NotLexical (import_purpose n)) ∷ []))
      by_name None = ((λ e t. let z : ⊥ = cc in absurd z), tt)
      by_name (Some n) = ((λ e t. let z : ⊥ = cc in absurd z), ((λ e t. refl), tt))

  led_items : (s : TokenSpellings) (xs : List (Item ImportTree)) → Led false (flat_map (λ (x : Item ImportTree). import_sites s x.value) xs)
  led_items s [] = tt
  led_items s (x ∷ xs) = led_append false (import_sites s x.value) _ (led_import s x.value) (led_items s xs)

  led_group : (s : TokenSpellings) (g : Group ImportTree) → Led false (spec_sites (import_sites s) g)
  unfolding group_sites separated_sites
  led_group s (single x) = led_import s x
  led_group s (several o xs c) = led_items s xs

  led_imports : (s : TokenSpellings) (is : List ImportsTree) → Led false (flat_map (imports_sites s) is)
  unfolding imports_sites
  led_imports s [] = tt
  led_imports s (i ∷ is) = led_append false (imports_sites s i) (flat_map (imports_sites s) is) (led_group s i.imports) (led_imports s is)

  led_file : (K : Kind → ℕ → Type 0) (s : TokenSpellings) (f : FileTree) → AllOf K (flatten f) →
      ((x : Site) → StandsAt K is_ident_token s x → T x.place → ⊥) → Led false (file_sites s f)
  unfolding file_sites
  led_file K s f h apart = (
    (λ e t. let z : ⊥ = cc in absurd z),
    led_append false (flat_map (imports_sites s) f.imports) (flat_map (decl_sites s) f.decls) (led_imports s f.imports)
        (no_strings (flat_map (decl_sites s) f.decls)
        (all_as (StandsAt K is_ident_token s) (λ x. T x.place → ⊥) apart (flat_map (decl_sites s) f.decls) (decls_stand K s f h))),
  )

  pub led_universe : (names : List (List ℕ)) (xs : List Site) → Led false xs → Led false (map universe_site names ++ xs)
  led_universe [] xs h = h
  led_universe (n ∷ names) xs h = ((λ e t. let z : ⊥ = cc in absurd z), led_universe names xs h)

  abbrev place_in : List Site → ℕ → Position
  place_in xs u = (or_blank (slice_get xs u)).place

  pub led_at : (b : Bool) (xs : List Site) → Led b xs → (u : ℕ) → role_in xs (suc u) ≡ NotLexical purpose.ImportPath → T (place_in xs (suc u)) →
      is_import_name (role_in xs u) ≡ true
  led_at b [] h u e t = let z : ⊥ = cc in absurd z
  led_at b (x ∷ []) h zero e t = let z : ⊥ = cc in absurd z
  led_at b (x ∷ (y ∷ ys)) h zero e t = h.1.0 e t
  led_at b (x ∷ xs) h (suc u) e t = led_at (is_import_name x.role) xs h.1 u e t

-- the files of a package

-- a string stands at the token of the file
abbrev pub IsStringIn : Option FileParts → ℕ → Type 0
IsStringIn None i = ⊥
IsStringIn (Some t) i = IsStringClass (token_at t.cut i).class

abbrev pub IsStringAt : List FileParts → Position → Type 0
IsStringAt files at = IsStringIn (slice_get files at.file) at.index

-- the identifier is a use, or behind a dot, at an identifier token of its file
abbrev pub IsUseTold : List FileParts → Site → Type 0
IsUseTold files x = is_named x.role ≡ true → (t : FileParts) × ((slice_get files x.place.file ≡ Some t) × IsIdent t.cut x.place.index)

abbrev source_at : ℕ → FileParts → TokenSpellings
source_at rank t = record { rank = rank; spell = spelling_of (source_of t) }

module _ (files : List FileParts) where
  -- the files from a rank on are the last of them
  abbrev AreLast : ℕ → List FileParts → Type 0
  AreLast rank ts = (j : ℕ) → slice_get ts j ≡ slice_get files (rank + j)

  last_first : (rank : ℕ) (t : FileParts) (ts : List FileParts) → AreLast rank (t ∷ ts) → slice_get files rank ≡ Some t
  last_first rank t ts h = let z : rank + 0 ≡ rank = omega arith in ap (slice_get files) (sym z) ∙ sym (h 0)

  last_rest : (rank : ℕ) (t : FileParts) (ts : List FileParts) → AreLast rank (t ∷ ts) → AreLast (suc rank) ts
  last_rest rank t ts h j = let z : rank + suc j ≡ suc rank + j = omega arith in h (suc j) ∙ ap (slice_get files) z

  named_use : (rank : ℕ) (t : FileParts) → slice_get files rank ≡ Some t → (x : Site) → x.place.file ≡ rank →
      (is_named x.role ≡ true → IsOf (OfKind t.cut) is_ident_token x.place.index) → IsUseTold files x
  named_use rank t at x here h = λ use_of. let k = h use_of in
      (t, (ap (slice_get files) here ∙ at, record { kind = k.0; of_kind = k.1.0; is_ident = k.1.1 }))

  ident_apart : (rank : ℕ) (t : FileParts) → slice_get files rank ≡ Some t → (x : Site) → StandsAt (OfKind t.cut) is_ident_token (source_at rank t) x →
      IsStringAt files x.place → ⊥
  ident_apart rank t at x k string =
      ident_no_string t.cut x.place.index (record { kind = k.1.0; of_kind = k.1.1.0; is_ident = k.1.1.1 })
      (subst (λ o. IsStringIn o x.place.index) (ap (slice_get files) k.0 ∙ at) string)

  both : (P Q R : Site → Type 0) → ((x : Site) → P x → Q x → R x) → (xs : List Site) → AllByRecursion P xs → AllByRecursion Q xs → AllByRecursion R xs
  both P Q R f [] a b = tt
  both P Q R f (x ∷ xs) a b = (f x a.0 b.0, both P Q R f xs a.1 b.1)

  pub files_uses : (rank : ℕ) (ts : List FileParts) → AreSourceFiles ts → AreLast rank ts →
      AllByRecursion (IsUseTold files) (files_sites rank (map spelled_file ts))
  unfolding files_sites
  files_uses rank [] sources last = tt
  files_uses rank (t ∷ ts) sources last =
      let s = source_at rank t in
      let tree = file_view t.file in
      let is : IsSourceFile (source_of t) = All-head (λ (g : FileParts). IsSourceFile (source_of g)) t ts sources in
      let rest : AreSourceFiles ts = All-tail (λ (g : FileParts). IsSourceFile (source_of g)) t ts sources in
      all_append (IsUseTold files) (file_sites s tree) (files_sites (suc rank) (map spelled_file ts))
      (both (λ x. x.place.file ≡ rank) (λ x. is_named x.role ≡ true → IsOf (OfKind t.cut) is_ident_token x.place.index) (IsUseTold files)
      (named_use rank t (last_first rank t ts last)) (file_sites s tree)
      (paired_files s (file_sites s tree) (identifiers_among (flatten tree)) (file_pairs s tree))
      (file_uses (OfKind t.cut) s tree (file_kinds (source_of t) is)))
      (files_uses (suc rank) ts rest (last_rest rank t ts last))

  pub files_led : (rank : ℕ) (ts : List FileParts) → AreSourceFiles ts → AreLast rank ts → Led (IsStringAt files) false (files_sites rank (map spelled_file ts))
  unfolding files_sites
  files_led rank [] sources last = tt
  files_led rank (t ∷ ts) sources last =
      let s = source_at rank t in
      let tree = file_view t.file in
      let is : IsSourceFile (source_of t) = All-head (λ (g : FileParts). IsSourceFile (source_of g)) t ts sources in
      let rest : AreSourceFiles ts = All-tail (λ (g : FileParts). IsSourceFile (source_of g)) t ts sources in
      led_append (IsStringAt files) false (file_sites s tree) (files_sites (suc rank) (map spelled_file ts))
      (led_file (IsStringAt files) (OfKind t.cut) s tree (file_kinds (source_of t) is) (ident_apart rank t (last_first rank t ts last)))
      (files_led (suc rank) ts rest (last_rest rank t ts last))

  pub all_last : AreLast 0 files
  all_last j = let z : j ≡ 0 + j = omega arith in ap (slice_get files) z
