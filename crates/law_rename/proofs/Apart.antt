-- No word and no number ends at the literal of an import without a name, but the word `import`.
use Rattle.std.proofs.Common.{ℕ, zero, suc, ◌≡◌, ◌+◌, ◌<◌, ◌≤◌, ◌⊎◌, inl, inr, List, [], ◌∷◌, ◌++◌, ◌&&◌, Option, Some, None, Bool, true, false, length}
use Rattle.std.proofs.Common.{refl, sym, ap, ◌∙◌, subst, arith, ⊎_elim, append_assoc, append-nil, cond, length-append}
use Rattle.std.specs.Prelude.{codes, option_map, slice_get, ◌==◌}
use Rattle.std.specs.Cmp.{nat_cmp_is}
use Rattle.std.specs.Cmp.Lexicographic.{pointwise}
use Rattle.std.specs.List.{Contains}
use Rattle.std.specs.List.Sorted.{IsStrictlySortedBy}
use Rattle.std.specs.Ordering.{nat_cmp}
use Rattle.std.specs.declared.cmp.Ordering.TheVariants.{Equal, Greater, Less}
use Rattle.std.proofs.lemmas.Bool.{cases_order}
use Rattle.std.proofs.lemmas.List.Elements.{All-contains, All-from_recursion}
use Rattle.std.proofs.lemmas.Option.{none-some, same_Some, slice_get-map, slice_get-get_or}
use Rattle.base_lemmas.proofs.EachElement.{all_from_each}
use Rattle.base_lemmas.proofs.Elements.{first_in, first_or_later, later_in, nothing_in}
use Rattle.go_scanner.specs.declared.keywords.Keyword.{Keyword}
use Rattle.go_scanner.specs.declared.keywords.Keyword.TheVariants as word
use Rattle.go_scanner.specs.declared.operators.Operator.TheVariants as operators
use Rattle.go_scanner.specs.declared.piece.Class.{Class}
use Rattle.go_scanner.specs.declared.piece.Class.TheVariants as class
use Rattle.go_scanner.specs.declared.piece.Piece.{Piece}
use Rattle.go_scanner.specs.Cuts.{bytes_of}
use Rattle.go_scanner.specs.CutText.{tokens_in}
use Rattle.go_scanner.specs.Pieces.{IsPiece}
use Rattle.go_scanner.specs.Spans.{FollowFrom, IsTokenText, starts}
use Rattle.go_scanner.specs.Tokens.{ends_statement, is_trivia, line_ends, semicolon, tokens_of}
use Rattle.go_scanner.proofs.SpanLemmas.{cut_covers, cut_tokens, tokens_in_order}
use Rattle.go_ast.specs.declared.syntax.Kind.{Kind}
use Rattle.go_ast.specs.declared.syntax.Kind.TheVariants as kind
use Rattle.go_ast.specs.declared.syntax.Token.{Token}
use Rattle.go_ast.specs.Flatten.{all_tokens, import_tokens, imports_tokens, list_tokens, sign, sign_if}
use Rattle.go_ast.specs.Kinds.{kind_of, kind_of_keyword, kinds_of}
use Rattle.go_ast.specs.SourceFile.{IsSourceFile, SourceFile, offset_at, offset_of, spelling_at, spelling_of}
use Rattle.go_ast.specs.Tree.{ImportTree, ImportsTree, Item}
use Rattle.go_ast.specs.WellFormed.{Any, IsFile, IsGroup, IsImports, IsSeparated}
use Rattle.types_declared.specs.Files.{imports_in}
use Rattle.go_respelled.proofs.Places.{begins_behind}
use Rattle.go_respelled.proofs.Spelled.{held_at}
use Rattle.law_rename.specs.Around.{AroundImport, AroundItem, alone, among, bare_import, file_with, group_with, imports_with}
use Rattle.law_rename.specs.Put.{IsNoWord, NoWordEndsAt}
use Rattle.law_rename.proofs.Behind.{LiesBehind}
use Rattle.law_rename.proofs.NamedTree.{left, left_item, right}
use Rattle.law_rename.proofs.Finding.{IsHeld, IsToken, KindsAbout, bare, held_in, kinds_about, literal_token, token_of}
use Rattle.law_rename.proofs.TokensBehind.{behind, seam}
use Rattle.law_rename.proofs.Standing.{import_stands}

-- The tokens before an import without a name.

abbrev Leads : Kind → Type 0
Leads k = (k ≡ kind.Import) ⊎ ((k ≡ kind.LeftParen) ⊎ (k ≡ kind.Semicolon))

record EndsSo (ts : List Token) : Type 0 where
  first : List Token
  last : Token
  is : ts ≡ first ++ last ∷ []
  leads : Leads last.kind

abbrev list : List (Item ImportTree) → List Token
list xs = list_tokens kind.Semicolon import_tokens xs

-- more tokens in front
after : (us ts : List Token) → EndsSo ts → EndsSo (us ++ ts)
after us ts e = record {
  first = us ++ e.first;
  last = e.last;
  is = ap (λ l. us ++ l) e.is ∙ sym (append_assoc us e.first (e.last ∷ []));
  leads = e.leads;
}

-- the items before one of them end with a semicolon
items_end : (b : Item ImportTree) (before more : List (Item ImportTree)) (x : Item ImportTree) → IsSeparated (b ∷ (before ++ x ∷ more)) →
    EndsSo (list (b ∷ before))
unfolding all_tokens
items_end b [] more x w = by_separator b.separator w.0
  where
    by_separator : (o : Option ℕ) → (o ≡ None → x ∷ more ≡ []) → EndsSo ((import_tokens b.value ++ sign_if kind.Semicolon o) ++ [])
    by_separator None none = let wrong : x ∷ more ≡ [] = none refl in absurd (not_empty wrong)
      where
        not_empty : x ∷ more ≡ [] → ⊥
        not_empty e = cc
    by_separator (Some p) none = record {
      first = import_tokens b.value;
      last = sign kind.Semicolon p;
      is = append-nil (import_tokens b.value ++ sign kind.Semicolon p ∷ []);
      leads = inr (inr refl);
    }
items_end b (c ∷ before) more x w =
    after (import_tokens b.value ++ sign_if kind.Semicolon b.separator) (list (c ∷ before)) (items_end c before more x w.1)

abbrev ItemIsWell : ImportTree → AroundItem → Type 0
ItemIsWell i alone = Unit {0}
ItemIsWell i (among o before separator more c) = IsSeparated (before ++ record { value = i; separator = separator } ∷ more)

item_ends : (keyword : ℕ) (i : ImportTree) (x : AroundItem) → ItemIsWell i x → EndsSo (sign kind.Import keyword ∷ left_item x)
unfolding all_tokens
item_ends keyword i alone w = record { first = []; last = sign kind.Import keyword; is = refl; leads = inl refl }
item_ends keyword i (among o [] separator more c) w =
    record { first = sign kind.Import keyword ∷ []; last = sign kind.LeftParen o; is = refl; leads = inr (inl refl) }
item_ends keyword i (among o (b ∷ before) separator more c) w =
    after (sign kind.Import keyword ∷ sign kind.LeftParen o ∷ []) (list (b ∷ before))
    (items_end b before more (record { value = i; separator = separator }) w)

left_ends : (number : ℕ) (a : AroundImport) → IsFile (file_with (bare_import number) a) → EndsSo (left a)
left_ends number a w =
    let here = All-contains IsImports (a.before ++ imports_with (bare_import number) a ∷ a.after) (imports_with (bare_import number) a) w.imports
    (in_middle a.before a.after (imports_with (bare_import number) a)) in
    let ends = item_ends a.import_keyword (bare_import number) a.item (by_item a.item here) in
    after (sign kind.Package a.keyword ∷ sign kind.Name a.name ∷ sign kind.Semicolon a.semicolon ∷ all_tokens imports_tokens a.before)
    (sign kind.Import a.import_keyword ∷ left_item a.item) ends
  where
    in_middle : (xs ys : List ImportsTree) (y : ImportsTree) → Contains (xs ++ y ∷ ys) y
    in_middle [] ys y = first_in y ys
    in_middle (x ∷ xs) ys y = later_in x (xs ++ y ∷ ys) y (in_middle xs ys y)

    by_item : (x : AroundItem) → IsGroup Any (group_with (bare_import number) x) → ItemIsWell (bare_import number) x
    by_item alone is = tt
    by_item (among o before separator more c) is = is.separated

-- a piece that is no trivia is a token

first_token : (trivia ends : Bool) (q mark : Piece) (rest : List Piece) → trivia ≡ false → Contains (cond trivia rest (q ∷ cond ends (mark ∷ rest) rest)) q
first_token true ends q mark rest token = cc
first_token false ends q mark rest token = first_in q (cond ends (mark ∷ rest) rest)

later_token : (trivia ends : Bool) (q mark p : Piece) (rest : List Piece) → Contains rest p → Contains (cond trivia rest (q ∷ cond ends (mark ∷ rest) rest)) p
later_token true ends q mark p rest has = has
later_token false true q mark p rest has = later_in q (mark ∷ rest) p (later_in mark rest p has)
later_token false false q mark p rest has = later_in q rest p has

among_tokens : (text : List ℕ) (ps : List Piece) (p : Piece) → Contains ps p → is_trivia p.class ≡ false → Contains (tokens_of text ps) p
unfolding tokens_of
among_tokens text [] p has some = absurd (nothing_in p has)
among_tokens text (q ∷ ps) p has some =
    let ends : Bool = ends_statement q.class && line_ends text ps in
    let rest : List Piece = tokens_of text ps in
    ⊎_elim
    (λ (here : q ≡ p). subst (Contains (tokens_of text (q ∷ ps))) here
    (first_token (is_trivia q.class) ends q (semicolon q.span.end) rest (ap (λ (x : Piece). is_trivia x.class) here ∙ some)))
    (λ (later : Contains ps p). later_token (is_trivia q.class) ends q (semicolon q.span.end) p rest (among_tokens text ps p later some))
    (first_or_later q ps p has)

-- of two tokens, where the one begins at which the other ends, nothing is between

no_less : (x y : ℕ) → nat_cmp x y ≡ Less → y ≤ x → ⊥
no_less x y less le = elim (cases_order x y) [
  | inl same ↦ (let wrong : Equal ≡ Less = nat_cmp_is x y Equal same ∙ less in cc)
  | inr o ↦ elim o [
    | inl lt ↦ omega (arith, lt)
    | inr gt ↦ (let wrong : Greater ≡ Less = nat_cmp_is x y Greater gt ∙ less in cc)
  ]
]

begins_first : (from to : ℕ) (ts : List Piece) (n : ℕ) (q : Piece) → FollowFrom from ts to → IsStrictlySortedBy nat_cmp (starts ts) →
    slice_get ts n ≡ Some q → q.span.start ≤ from → n ≡ 0
unfolding IsStrictlySortedBy
begins_first from to [] n q follow rise at le = absurd (none-some q at)
begins_first from to (t ∷ ts) zero q follow rise at le = refl
begins_first from to (t ∷ ts) (suc n) q follow rise at le =
    let there : slice_get (starts ts) n ≡ Some q.span.start = slice_get-map (λ (x : Piece). x.span.start) ts n
    ∙ ap (λ (o : Option Piece). option_map (λ (x : Piece). x.span.start) o) at in
    let less = held_at (λ y. nat_cmp t.span.start y ≡ Less) (starts ts) n q.span.start rise.0 there in
    absurd (no_less t.span.start q.span.start less (omega (arith, follow.0)))

next_to : (from to : ℕ) (ts : List Piece) (m n : ℕ) (p q : Piece) → FollowFrom from ts to → IsStrictlySortedBy nat_cmp (starts ts) →
    slice_get ts m ≡ Some p → slice_get ts n ≡ Some q → p.span.start < p.span.end → p.span.end ≡ q.span.start → n ≡ suc m
unfolding IsStrictlySortedBy
next_to from to [] m n p q follow rise one other some meet = absurd (none-some p one)
next_to from to (t ∷ ts) zero zero p q follow rise one other some meet =
    let same : p.span.start ≡ q.span.start = ap (λ (x : Piece). x.span.start) (sym (same_Some t p one) ∙ same_Some t q other) in absurd (omega arith)
next_to from to (t ∷ ts) zero (suc n) p q follow rise one other some meet =
    let ends : t.span.end ≡ p.span.end = ap (λ (x : Piece). x.span.end) (same_Some t p one) in
    ap suc (begins_first t.span.end to ts n q follow.2 rise.1 other (omega arith))
next_to from to (t ∷ ts) (suc m) zero p q follow rise one other some meet =
    let begins : t.span.start ≡ q.span.start = ap (λ (x : Piece). x.span.start) (same_Some t q other) in
    let lies = held_at (LiesBehind t.span.end) ts m p (behind t.span.end t.span.end to ts (omega arith) follow.2) one in
    absurd (omega (arith, lies.0, follow.1))
next_to from to (t ∷ ts) (suc m) (suc n) p q follow rise one other some meet =
    ap suc (next_to t.span.end to ts m n p q follow.2 rise.1 one other some meet)

-- what such a piece is

abbrev IsWord : Class → Type 0
IsWord c = (c ≡ class.Name) ⊎ ((c ≡ class.Integer) ⊎ ((k : Keyword) × (c ≡ class.Keyword k)))

word_token : (c : Class) → IsWord c → is_trivia c ≡ false
word_token c (inl e) = ap is_trivia e
word_token c (inr (inl e)) = ap is_trivia e
word_token c (inr (inr e)) = ap is_trivia e.1

no_name_leads : (b : Bool) → Leads (cond b kind.Blank kind.Name) → ⊥
no_name_leads true l = no_kind l
  where
    no_kind : Leads kind.Blank → ⊥
    no_kind (inl e) = cc
    no_kind (inr (inl e)) = cc
    no_kind (inr (inr e)) = cc
no_name_leads false l = no_kind l
  where
    no_kind : Leads kind.Name → ⊥
    no_kind (inl e) = cc
    no_kind (inr (inl e)) = cc
    no_kind (inr (inr e)) = cc

no_number_leads : Leads kind.Number → ⊥
no_number_leads (inl e) = cc
no_number_leads (inr (inl e)) = cc
no_number_leads (inr (inr e)) = cc

import_word : (k : Keyword) → kind_of_keyword k ≡ kind.Import → k ≡ word.Import
import_word word.Import e = refl
import_word _ e = cc

no_paren : (k : Keyword) → kind_of_keyword k ≡ kind.LeftParen → ⊥
no_paren word.Break e = cc
no_paren _ e = cc

no_semicolon : (k : Keyword) → kind_of_keyword k ≡ kind.Semicolon → ⊥
no_semicolon word.Break e = cc
no_semicolon _ e = cc

keyword_leads : (k : Keyword) → Leads (kind_of_keyword k) → k ≡ word.Import
keyword_leads k (inl e) = import_word k e
keyword_leads k (inr (inl e)) = absurd (no_paren k e)
keyword_leads k (inr (inr e)) = absurd (no_semicolon k e)

word_leads : (c : Class) (bytes : List ℕ) → IsWord c → Leads (kind_of c bytes) → c ≡ class.Keyword word.Import
word_leads c bytes (inl e) l =
    absurd (no_name_leads (pointwise ◌==◌ bytes (95 ∷ [])) (subst (λ (d : Class). Leads (kind_of d bytes)) e l))
word_leads c bytes (inr (inl e)) l = absurd (no_number_leads (subst (λ (d : Class). Leads (kind_of d bytes)) e l))
word_leads c bytes (inr (inr e)) l = e.1 ∙ ap class.Keyword (keyword_leads e.0 (subst (λ (d : Class). Leads (kind_of d bytes)) e.1 l))

import_bytes : (c : Class) (bytes : List ℕ) → c ≡ class.Keyword word.Import → IsTokenText c bytes → bytes ≡ codes "import"
import_bytes c bytes e (inl is) = subst (λ (d : Class). IsPiece d bytes) e is
import_bytes c bytes e (inr is) = let wrong : class.Keyword word.Import ≡ class.Operator operators.Semicolon = sym e ∙ is.0 in cc

-- the literal stands behind no other word

abbrev NotRightBehindImport : SourceFile → ℕ → Type 0
NotRightBehindImport f token = (before : ℕ) → token ≡ suc before → spelling_of f before ≡ codes "import" →
    offset_of f before + length (spelling_of f before) ≡ offset_of f token → ⊥

leads_at : (f : SourceFile) (number : ℕ) (a : AroundImport) (m : ℕ) (p : Piece) → KindsAbout f number a → EndsSo (left a) → number ≡ suc m →
    slice_get (tokens_in f.cut) m ≡ Some p → Leads (kind_of p.class (bytes_of f.cut.text p))
leads_at f number a m p about lead next at =
    let there : List Token = sign kind.Text number ∷ right a in
    let long = length-append lead.first (lead.last ∷ []) in
    let size : m ≡ length lead.first = omega (arith, next, about.size, ap length lead.is, long) in
    let kinds : kinds_of f.cut ≡ lead.first ++ lead.last ∷ there =
    about.kinds ∙ ap (λ l. l ++ there) lead.is ∙ append_assoc lead.first (lead.last ∷ []) there in
    by_token (token_of 0 f.cut.text (tokens_in f.cut) m lead.last ((λ j. slice_get (kinds j) (size j)) ∙ seam lead.first there lead.last))
  where
    by_token : IsToken f.cut.text (tokens_in f.cut) m lead.last.kind → Leads (kind_of p.class (bytes_of f.cut.text p))
    by_token token =
        let same : token.piece ≡ p = same_Some token.piece p (sym token.at ∙ at) in
        subst Leads (sym token.is ∙ ap (λ (x : Piece). kind_of x.class (bytes_of f.cut.text x)) same) lead.leads

import_ends : (f : SourceFile) (m : ℕ) (p : Piece) → slice_get (tokens_in f.cut) m ≡ Some p → IsHeld f.cut.text p →
    offset_of f m + length (spelling_of f m) ≡ p.span.end
import_ends f m p at held =
    let start : offset_of f m ≡ p.span.start = ap (offset_at f.cut.text) at in
    let long : length (spelling_of f m) ≡ length (bytes_of f.cut.text p) = ap (λ o. length (spelling_at f.cut.text o)) at in
    let whole : length held.front + length (bytes_of f.cut.text p) ≡ p.span.end = ap (λ (x : Piece). x.span.end) held.piece in
    omega (arith, start, long, whole, held.begins)

module _ (f : SourceFile) (number : ℕ) (a : AroundImport) (is : IsSourceFile f) (tree : f.tree ≡ file_with (bare_import number) a)
    (other : NotRightBehindImport f number) where
  abbrev tokens : List Piece
  tokens = tokens_in f.cut

  -- a piece that is a word, ends at the literal and is the token of a number
  no_word_at : (p : Piece) (m : ℕ) → Contains f.cut.pieces p → p.span.end ≡ offset_of f number → IsWord p.class → slice_get tokens m ≡ Some p →
      number ≡ suc m → ⊥
  no_word_at p m has ends is_word at next =
      let leads = leads_at f number a m p (kinds_about f number a is tree) (left_ends number a (subst IsFile tree is.is_tree.well_formed)) next at in
      let import : p.class ≡ class.Keyword word.Import = word_leads p.class (bytes_of f.cut.text p) is_word leads in
      let text = held_at (λ (t : Piece). IsTokenText t.class (bytes_of f.cut.text t)) tokens m p (cut_tokens f.cut.text f.cut.pieces is.is_cut) at in
      let spelled : spelling_of f m ≡ codes "import" = ap (spelling_at f.cut.text) at ∙ import_bytes p.class (bytes_of f.cut.text p) import text in
      other m next spelled (import_ends f m p at (held_in f.cut.text f.cut.pieces p is.is_cut has) ∙ ends)

  next_at : (p : Piece) (m : ℕ) → Contains f.cut.pieces p → p.span.end ≡ offset_of f number → slice_get tokens m ≡ Some p →
      IsToken f.cut.text tokens number kind.Text → number ≡ suc m
  next_at p m has ends at literal =
      let lies = begins_behind 0 (length f.cut.text) f.cut.pieces p (cut_covers f.cut.text f.cut.pieces is.is_cut) has in
      let order = tokens_in_order f.cut.text f.cut.pieces is.is_cut in
      next_to 0 (length f.cut.text) tokens m number p literal.piece order.follow order.rise at literal.at lies.1
      (ends ∙ ap (offset_at f.cut.text) literal.at)

  no_word_ends : (p : Piece) → Contains f.cut.pieces p → p.span.end ≡ offset_of f number → IsWord p.class → ⊥
  no_word_ends p has ends is_word =
      let found = among_tokens f.cut.text f.cut.pieces p has (word_token p.class is_word) in
      let at : slice_get tokens found.0 ≡ Some p = slice_get-get_or tokens found.0 p found.1 ∙ ap Some found.2 in
      no_word_at p found.0 has ends is_word at (next_at p found.0 has ends at (literal_token f number a (kinds_about f number a is tree)))

  stands_apart : NoWordEndsAt (offset_of f number) f.cut.pieces
  stands_apart =
      let P : Piece → Type 0 = λ p. p.span.end ≡ offset_of f number → IsNoWord p.class in
      All-from_recursion P f.cut.pieces (all_from_each P f.cut.pieces (λ p has ends. record {
        no_name = λ e. no_word_ends p has ends (inl e);
        no_keyword = λ k e. no_word_ends p has ends (inr (inr (k, e)));
        no_number = λ e. no_word_ends p has ends (inr (inl e));
      }))

pub literal_apart : (f : SourceFile) (i : ImportTree) → IsSourceFile f → Contains (imports_in f.tree) i → i.name ≡ None →
    ((before : ℕ) → i.path ≡ suc before → spelling_of f before ≡ codes "import" →
    offset_of f before + length (spelling_of f before) ≡ offset_of f i.path → ⊥) →
    NoWordEndsAt (offset_of f i.path) f.cut.pieces
literal_apart f i is has none other =
    let stands = import_stands f.tree i has in
    let tree : f.tree ≡ file_with (bare_import i.path) stands.0 = stands.1 ∙ ap (λ (x : ImportTree). file_with x stands.0) (bare i none) in
    stands_apart f i.path stands.0 is tree other
