-- How the tokens of a file in which names and string literals are replaced are spelled, by their numbers.
use Rattle.std.proofs.Common.{ℕ, zero, suc, ◌≡◌, ◌⊎◌, ◌-◌, ◌<◌, ◌≤◌, ◌&&◌, inl, inr, Bool, true, false, cond, List, [], ◌∷◌, Option, Some}
use Rattle.std.proofs.Common.{None, length, take, drop}
use Rattle.std.proofs.Common.{refl, sym, ap, ◌∙◌, subst, arith, ⊎_elim}
use Rattle.std.specs.Prelude.{slice_get, option_map, find, ◌==◌, nat_lt}
use Rattle.std.specs.List.{AllByRecursion, Contains}
use Rattle.std.proofs.lemmas.Bool.{true≢false}
use Rattle.std.proofs.lemmas.Bool.Decides.{nat_tests}
use Rattle.std.proofs.lemmas.List.Elements.{All-contains}
use Rattle.std.proofs.lemmas.Option.{none-some, same_Some, slice_get-map}
use Rattle.base_files.specs.declared.place.Span.{Span}
use Rattle.base_lemmas.proofs.EachElement.{all_from_each}
use Rattle.base_lemmas.proofs.Elements.{nothing_in, first_in, later_in, first_or_later}
use Rattle.base_edits.specs.Edits.{edited_text}
use Rattle.base_edits.specs.Moved.{moved_offset}
use Rattle.base_edits.specs.RevisionsOfEdits.{replaces_at, text_or}
use Rattle.base_edits.specs.declared.edit.Edit.{Edit}
use Rattle.base_edits.proofs.MovedPlaces.{moves_end}
use Rattle.go_scanner.specs.declared.piece.Class.{Class}
use Rattle.go_scanner.specs.declared.piece.Class.TheVariants.{Name}
use Rattle.go_scanner.specs.declared.piece.Piece.{Piece}
use Rattle.go_scanner.specs.Cuts.{bytes_of}
use Rattle.go_scanner.specs.CutText.{tokens_in}
use Rattle.go_scanner.specs.Spans.{FollowFrom}
use Rattle.go_scanner.specs.TokenValues.{IsStringClass}
use Rattle.go_scanner.specs.Tokens.{semicolon}
use Rattle.go_scanner.proofs.SpanLemmas.{cut_covers, tokens_in_order}
use Rattle.go_ast.specs.SourceFile.{SourceFile, IsSourceFile, offset_at, offset_of, spelling_at, spelling_of}
use Rattle.go_respelled.proofs.Places.{apart, begins_behind}
use Rattle.go_respelled.proofs.Spelled.{held_at}
use Rattle.go_respelled.proofs.Trees.{each_token}
use Rattle.law_moves.specs.Replacements.{AreReplacedPieces, IsReplacement, MayReplace, new_piece, replaced_file}
use Rattle.law_moves.proofs.NewTokens.{may_put, other_bytes, put_bytes, tokens_moved, within}

-- tokens by their places

token_lies : (from to : ℕ) (ts : List Piece) (i : ℕ) (a : Piece) → FollowFrom from ts to → slice_get ts i ≡ Some a → from ≤ a.span.start
token_lies from to [] i a follow at = absurd (none-some a at)
token_lies from to (t ∷ ts) zero a follow at = subst (λ (x : Piece). from ≤ x.span.start) (same_Some t a at) follow.0
token_lies from to (t ∷ ts) (suc i) a follow at =
    let rest = token_lies t.span.end to ts i a follow.2 at in omega (arith, rest, follow.0, follow.1)

behind_first : (from to : ℕ) (t : Piece) (ts : List Piece) (i : ℕ) (a b : Piece) → FollowFrom from (t ∷ ts) to → t ≡ a → slice_get ts i ≡ Some b →
    a.span.start < a.span.end → a.span.start ≡ b.span.start → ⊥
behind_first from to t ts i a b follow same at some start =
    let low : t.span.end ≤ b.span.start = token_lies t.span.end to ts i b follow.2 at in
    let less : a.span.end ≤ b.span.start = subst (λ (x : Piece). x.span.end ≤ b.span.start) same low in
    never a.span.start a.span.end b.span.start some start less
  where
    never : (x y z : ℕ) → x < y → x ≡ z → y ≤ z → ⊥
    never x y z lt e le = omega arith

-- two tokens with bytes that begin at one offset are one
pub one_token : (from to : ℕ) (ts : List Piece) (i j : ℕ) (a b : Piece) → FollowFrom from ts to → slice_get ts i ≡ Some a → slice_get ts j ≡ Some b →
    a.span.start < a.span.end → b.span.start < b.span.end → a.span.start ≡ b.span.start → i ≡ j
one_token from to [] i j a b follow one other some more start = absurd (none-some a one)
one_token from to (t ∷ ts) zero zero a b follow one other some more start = refl
one_token from to (t ∷ ts) zero (suc j) a b follow one other some more start =
    absurd (behind_first from to t ts j a b follow (same_Some t a one) other some start)
one_token from to (t ∷ ts) (suc i) zero a b follow one other some more start =
    absurd (behind_first from to t ts i b a follow (same_Some t b other) one more (sym start))
one_token from to (t ∷ ts) (suc i) (suc j) a b follow one other some more start =
    ap suc (one_token t.span.end to ts i j a b follow.2 one other some more start)

-- what is found in a list

pub found_in : {X : Type 0} (test : X → Bool) (xs : List X) (y : X) → find test xs ≡ Some y → Contains xs y × (test y ≡ true)
found_in test [] y e = absurd (none-some y e)
found_in test (x ∷ xs) y e =
    elim (test x) as (λ b. test x ≡ b → cond b (Some x) (find test xs) ≡ Some y → Contains (x ∷ xs) y × (test y ≡ true)) [
      | true ↦ λ is k. (let same = same_Some x y k in (subst (Contains (x ∷ xs)) same (first_in x xs), subst (λ z. test z ≡ true) same is))
      | false ↦ λ is k. (let r = found_in test xs y k in (later_in x xs y r.0, r.1))
    ] refl e

pub one_found : {X : Type 0} (test : X → Bool) (xs : List X) (x : X) → Contains xs x → test x ≡ true → (y : X) × (find test xs ≡ Some y)
one_found test [] x has is = absurd (nothing_in x has)
one_found test (z ∷ zs) x has is =
    elim (test z) as (λ b. test z ≡ b → (y : _) × (cond b (Some z) (find test zs) ≡ Some y)) [
      | true ↦ λ passes. (z, refl)
      | false ↦ λ fails. ⊎_elim (λ same. absurd (true≢false (sym is ∙ ap test (sym same) ∙ fails))) (λ later. one_found test zs x later is)
          (first_or_later z zs x has)
    ] refl

replaces_there : (offset start end : ℕ) → start ≡ offset → start < end → ((start == offset) && nat_lt start end) ≡ true
replaces_there offset start end e h = grind (arith, nat_tests)

starts_there : (offset start end : ℕ) → ((start == offset) && nat_lt start end) ≡ true → start ≡ offset
starts_there offset start end e = grind (arith, nat_tests)

empty : (text : List ℕ) (at : ℕ) → bytes_of text (semicolon at) ≡ []
empty text at = let none : at - at ≡ 0 = omega arith in ap (λ (k : ℕ). take k (drop at text)) none

-- names and string literals
abbrev pub IsWordClass : Class → Type 0
IsWordClass c = (c ≡ Name) ⊎ IsStringClass c

module _ (path : List ℕ) (f : SourceFile) (edits : List Edit) (is : IsSourceFile f) (are : AreReplacedPieces f.cut.pieces edits) where
  abbrev new : List ℕ
  new = edited_text edits f.cut.text

  abbrev pub now : SourceFile
  now = replaced_file path edits f

  abbrev token : ℕ → Option Piece
  token n = slice_get (tokens_in f.cut) n

  pub token_of : (n : ℕ) → slice_get (tokens_in now.cut) n ≡ option_map (new_piece edits) (token n)
  token_of n = ap (λ ts. slice_get ts n) (tokens_moved f.cut edits is.is_cut are) ∙ slice_get-map (new_piece edits) (tokens_in f.cut) n

  pub spelled_as : (n : ℕ) → spelling_of now n ≡ spelling_at new (option_map (new_piece edits) (token n))
  spelled_as n = ap (spelling_at new) (token_of n)

  pub offset_moved : (n : ℕ) → offset_of now n ≡ moved_offset edits (offset_of f n)
  offset_moved n = ap (offset_at new) (token_of n) ∙ by_token (token n)
    where
      by_token : (o : Option Piece) → offset_at new (option_map (new_piece edits) o) ≡ moved_offset edits (offset_at f.cut.text o)
      by_token None = moves_end edits f.cut.text are.in_order (within f.cut edits is.is_cut are)
      by_token (Some p) = refl

  -- a name or string literal is a piece
  pub is_piece : (n : ℕ) (t : Piece) → token n ≡ Some t → IsWordClass t.class → Contains f.cut.pieces t
  is_piece n t at word =
      let P : Piece → Type 0 = λ x. IsWordClass x.class → Contains f.cut.pieces x in
      held_at P (tokens_in f.cut) n t (each_token P (λ place h. absurd (no_word h)) f.cut.text f.cut.pieces
      (all_from_each P f.cut.pieces (λ x has h. has))) at word
    where
      no_word : IsWordClass (semicolon 0).class → ⊥
      no_word (inl e) = cc
      no_word (inr h) = elim h [ inl e ↦ (let z : ⊥ = cc in z) | inr e ↦ (let z : ⊥ = cc in z) ]

  pub has_bytes : (p : Piece) → Contains f.cut.pieces p → p.span.start < p.span.end
  has_bytes p has = (begins_behind 0 (length f.cut.text) f.cut.pieces p (cut_covers f.cut.text f.cut.pieces is.is_cut) has).1

  pub one_number : (i j : ℕ) (a b : Piece) → token i ≡ Some a → token j ≡ Some b → Contains f.cut.pieces a → Contains f.cut.pieces b →
      a.span.start ≡ b.span.start → i ≡ j
  one_number i j a b one other has also start =
      one_token 0 (length f.cut.text) (tokens_in f.cut) i j a b (tokens_in_order f.cut.text f.cut.pieces is.is_cut).follow one other (has_bytes a has)
      (has_bytes b also) start

  -- an edit that begins where a piece does replaces it
  pub same_span : (e : Edit) (p : Piece) → Contains edits e → Contains f.cut.pieces p → e.span.start ≡ p.span.start → e.span ≡ p.span
  same_span e p among has start =
      let r : IsReplacement f.cut.pieces e = All-contains (IsReplacement f.cut.pieces) edits e are.each among in
      let begins : p.span.start ≡ r.old.span.start = sym start ∙ ap (λ (x : Span). x.start) r.span in
      let lie = apart 0 (length f.cut.text) f.cut.pieces p r.old (cut_covers f.cut.text f.cut.pieces is.is_cut) has r.is_piece in
      elim lie [
        | inl same ↦ r.span ∙ ap (λ (x : Piece). x.span) (sym same)
        | inr far ↦ absurd (never p.span.start p.span.end r.old.span.start r.old.span.end (has_bytes p has) (has_bytes r.old r.is_piece) begins far)
      ]
    where
      never : (a b c d : ℕ) → a < b → c < d → a ≡ c → (b ≤ c) ⊎ (d ≤ a) → ⊥
      never a b c d one two e (inl le) = omega (arith, one, two, e, le)
      never a b c d one two e (inr le) = omega (arith, one, two, e, le)

  -- what an edit finds at the token
  abbrev pub found : ℕ → Option Edit
  found n = find (replaces_at (offset_of f n)) edits

  pub found_edit : (n : ℕ) (t : Piece) → token n ≡ Some t → Contains f.cut.pieces t → (e : Edit) → found n ≡ Some e → Contains edits e × (e.span ≡ t.span)
  found_edit n t at has e is =
      let x = found_in (replaces_at (offset_of f n)) edits e is in
      let start : e.span.start ≡ t.span.start = starts_there (offset_of f n) e.span.start e.span.end x.1 ∙ ap (offset_at f.cut.text) at in
      (x.0, same_span e t x.0 has start)

  pub none_found : (n : ℕ) (t : Piece) → token n ≡ Some t → Contains f.cut.pieces t → found n ≡ None → (e : Edit) → Contains edits e → e.span ≡ t.span → ⊥
  none_found n t at has none e among same =
      let some : e.span.start < e.span.end = subst (λ (x : Span). x.start < x.end) (sym same) (has_bytes t has) in
      let start : e.span.start ≡ offset_of f n = ap (λ (x : Span). x.start) same ∙ sym (ap (offset_at f.cut.text) at) in
      let one = one_found (replaces_at (offset_of f n)) edits e among (replaces_there (offset_of f n) e.span.start e.span.end start some) in
      none-some one.0 (sym none ∙ one.1)

  -- spellings

  pub spelled_put : (n : ℕ) (t : Piece) → token n ≡ Some t → (e : Edit) → Contains edits e → e.span ≡ t.span → spelling_of now n ≡ e.text
  spelled_put n t at e among same =
      spelled_as n ∙ ap (λ o. spelling_at new (option_map (new_piece edits) o)) at ∙ put_bytes f.cut edits is.is_cut are e t among same

  pub spelled_kept : (n : ℕ) (t : Piece) → token n ≡ Some t → Contains f.cut.pieces t → ((e : Edit) → Contains edits e → e.span ≡ t.span → ⊥) →
      spelling_of now n ≡ spelling_of f n
  spelled_kept n t at has other =
      spelled_as n ∙ ap (λ o. spelling_at new (option_map (new_piece edits) o)) at ∙ other_bytes f.cut edits is.is_cut are t has other
      ∙ sym (ap (spelling_at f.cut.text) at)

  -- a name or a string literal is spelled afterwards as the change calls it
  pub called : (n : ℕ) (t : Piece) → token n ≡ Some t → Contains f.cut.pieces t → spelling_of now n ≡ text_or (spelling_of f n) (found n)
  called n t at has = by_found (found n) refl
    where
      by_found : (o : Option Edit) → found n ≡ o → spelling_of now n ≡ text_or (spelling_of f n) o
      by_found None e = spelled_kept n t at has (none_found n t at has e)
      by_found (Some x) e = let d = found_edit n t at has x e in spelled_put n t at x d.0 d.1

  -- what is no name and no string literal stays as it is

  abbrev StaysIfOther : Piece → Type 0
  StaysIfOther t = (IsWordClass t.class → ⊥) → bytes_of new (new_piece edits t) ≡ bytes_of f.cut.text t

  word_by : (c : Class) (bytes : List ℕ) → MayReplace c bytes → IsWordClass c
  word_by c bytes (inl h) = inl h.0
  word_by c bytes (inr h) = inr h.0

  all_stay : AllByRecursion StaysIfOther (tokens_in f.cut)
  all_stay = each_token StaysIfOther (λ at other. empty new _ ∙ sym (empty f.cut.text at)) f.cut.text f.cut.pieces
      (all_from_each StaysIfOther f.cut.pieces (λ p has other. other_bytes f.cut edits is.is_cut are p has
      (λ e among same. other (word_by p.class e.text (may_put f.cut edits is.is_cut are e p has among same)))))

  pub other_kept : (n : ℕ) → ((t : Piece) → token n ≡ Some t → IsWordClass t.class → ⊥) → spelling_of now n ≡ spelling_of f n
  other_kept n other = spelled_as n ∙ by_token (token n) refl
    where
      by_token : (o : Option Piece) → token n ≡ o → spelling_at new (option_map (new_piece edits) o) ≡ spelling_at f.cut.text o
      by_token None e = refl
      by_token (Some t) e = held_at StaysIfOther (tokens_in f.cut) n t all_stay e (other t e)
