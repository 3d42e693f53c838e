-- The tokens, and their kinds, of a text in which a name is put before a string literal.
use Rattle.std.proofs.Common.{ℕ, suc, ◌≡◌, ◌+◌, ◌-◌, List, [], ◌∷◌, ◌++◌, ◌||◌, ◌&&◌, Bool, true, false, cond, Some, length, take, drop, map, refl, sym, ap}
use Rattle.std.proofs.Common.{◌∙◌}
use Rattle.std.proofs.Common.{subst, arith, eqb, ⊎_elim, append_assoc, drop-drop, length-append}
use Rattle.std.specs.Prelude.{slice_get}
use Rattle.std.specs.List.{AllByRecursion, list_any}
use Rattle.std.specs.List.Sorted.{IsStrictlySortedBy}
use Rattle.std.specs.Ordering.{nat_cmp}
use Rattle.std.proofs.lemmas.List.{drop_at, take_at}
use Rattle.go_scanner.specs.declared.piece.Class.{Class}
use Rattle.go_scanner.specs.declared.piece.Class.TheVariants as class
use Rattle.go_scanner.specs.declared.piece.Piece.{Piece}
use Rattle.go_scanner.specs.Cuts.{IsCut, bytes_of}
use Rattle.go_scanner.specs.CutText.{tokens_in}
use Rattle.go_scanner.specs.Spans.{starts}
use Rattle.go_scanner.specs.TokenValues.{IsStringClass}
use Rattle.go_scanner.specs.Tokens.{ends_line, ends_line_by, ends_statement, is_trivia, line_ends, semicolon, tokens_of}
use Rattle.go_scanner.proofs.IntegerLemmas.{by_test}
use Rattle.go_scanner.proofs.SpanLemmas.{cut_covers, tokens_in_order}
use Rattle.go_respelled.specs.Literals.{piece_at, shifted}
use Rattle.go_ast.specs.declared.syntax.Token.{Token}
use Rattle.go_ast.specs.Kinds.{kind_of, kinds_from, kinds_of}
use Rattle.go_respelled.proofs.Trees.{each_token}
use Rattle.law_rename.specs.Named.{MayPut, NamePut, after_put, before_put, later, literal_piece, moved_behind, name_piece, name_token, put_bytes}
use Rattle.law_rename.specs.Named.{put_pieces, with_one_at}
use Rattle.law_rename.specs.Put.{NoWordEndsAt, name_and_blank}
use Rattle.law_rename.proofs.Behind.{LiesBefore, LiesBehind, all_by, all_lie, behind_bytes, front_bytes, only_number}
use Rattle.law_rename.proofs.Putting.{put_apart, put_joined}

-- the whole is cut

pub put_cut : (p : NamePut) → MayPut p → IsCut (after_put p).text (after_put p).pieces
put_cut p may = by_form p.blank_first may.apart
  where
    by_form : (b : Bool) → (b ≡ false → NoWordEndsAt (length p.front) p.before) →
        IsCut (p.front ++ (cond b (32 ∷ (p.name ++ 32 ∷ [])) (p.name ++ 32 ∷ []) ++ (p.literal ++ p.rest)))
        ((p.before ++ cond b (piece_at class.Blank (length p.front) (32 ∷ []) ∷ name_and_blank (length p.front + 1) p.name)
        (name_and_blank (length p.front) p.name)) ++ map (shifted (length p.front)
        (length p.front + length (cond b (32 ∷ (p.name ++ 32 ∷ [])) (p.name ++ 32 ∷ [])))) (piece_at p.class (length p.front) p.literal ∷ p.after))
    by_form true apart = put_joined p.front p.literal p.name p.rest p.before p.after p.class may.is_name may.is_string may.is_cut
    by_form false apart = put_apart p.front p.literal p.name p.rest p.before p.after p.class may.is_name may.is_string (apart refl) may.is_cut

-- tokens before the literal

same_line : (text other : List ℕ) (p q : Piece) → q.class ≡ p.class → bytes_of text p ≡ bytes_of other q → ends_line text p ≡ ends_line other q
same_line text other p q class same = ap (ends_line_by p.class) (ap (λ l. list_any (λ b. eqb b 10) l) same)
    ∙ ap (λ (c : Class). ends_line_by c (list_any (λ b. eqb b 10) (bytes_of other q))) (sym class)

abbrev SameBytes : List ℕ → List ℕ → Piece → Type 0
SameBytes text other t = kind_of t.class (bytes_of other t) ≡ kind_of t.class (bytes_of text t)

-- the tokens of pieces that both texts begin with, where no line ends behind them
record Front (text other : List ℕ) (ps qs rs : List Piece) : Type 0 where
  lines : line_ends text (ps ++ qs) ≡ line_ends other (ps ++ rs)
  ones : List Piece
  old : tokens_of text (ps ++ qs) ≡ ones ++ tokens_of text qs
  new : tokens_of other (ps ++ rs) ≡ ones ++ tokens_of other rs
  same : AllByRecursion (SameBytes text other) ones

front_tokens : (text other : List ℕ) (ps qs rs : List Piece) → AllByRecursion (λ q. bytes_of text q ≡ bytes_of other q) ps →
    line_ends text qs ≡ false → line_ends other rs ≡ false → Front text other ps qs rs
unfolding line_ends tokens_of
front_tokens text other [] qs rs all one two = record { lines = one ∙ sym two; ones = []; old = refl; new = refl; same = tt }
front_tokens text other (p ∷ ps) qs rs all one two =
    let rest = front_tokens text other ps qs rs all.1 one two in
    let first : ends_line text p ≡ ends_line other p = same_line text other p p refl all.0 in
    let lines_here : line_ends text ((p ∷ ps) ++ qs) ≡ line_ends other ((p ∷ ps) ++ rs) =
    λ i. cond (is_trivia p.class) (first i || rest.lines i) false in
    by_test (is_trivia p.class)
    (λ trivia. record {
      lines = lines_here;
      ones = rest.ones;
      old = rw trivia rest.old;
      new = rw trivia rest.new;
      same = rest.same;
    })
    (λ token. by_test (ends_statement p.class && line_ends text (ps ++ qs))
    (λ ends.
    let also : (ends_statement p.class && line_ends other (ps ++ rs)) ≡ true = ap (λ b. ends_statement p.class && b) (sym rest.lines) ∙ ends in
    record {
      lines = lines_here;
      ones = p ∷ semicolon p.span.end ∷ rest.ones;
      old = rw (token, ends) (ap (λ l. p ∷ semicolon p.span.end ∷ l) rest.old);
      new = rw (token, also) (ap (λ l. p ∷ semicolon p.span.end ∷ l) rest.new);
      same = (ap (kind_of p.class) (sym all.0), (refl, rest.same));
    })
    (λ goes.
    let also : (ends_statement p.class && line_ends other (ps ++ rs)) ≡ false = ap (λ b. ends_statement p.class && b) (sym rest.lines) ∙ goes in
    record {
      lines = lines_here;
      ones = p ∷ rest.ones;
      old = rw (token, goes) (ap (λ l. p ∷ l) rest.old);
      new = rw (token, also) (ap (λ l. p ∷ l) rest.new);
      same = (ap (kind_of p.class) (sym all.0), rest.same);
    }))

-- tokens behind it

module _ (a b : ℕ) (text other : List ℕ) where
  abbrev move : Piece → Piece
  move = shifted a b

  lines_moved : (ps : List Piece) → AllByRecursion (λ p. bytes_of other (move p) ≡ bytes_of text p) ps →
      line_ends other (map move ps) ≡ line_ends text ps
  unfolding line_ends
  lines_moved [] same = refl
  lines_moved (p ∷ ps) same =
      let first : ends_line other (move p) ≡ ends_line text p = same_line other text (move p) p refl same.0 in
      let rest : line_ends other (map move ps) ≡ line_ends text ps = lines_moved ps same.1 in
      λ i. cond (is_trivia p.class) (first i || rest i) false

  tokens_moved : (ps : List Piece) → AllByRecursion (λ p. bytes_of other (move p) ≡ bytes_of text p) ps →
      tokens_of other (map move ps) ≡ map move (tokens_of text ps)
  unfolding tokens_of
  tokens_moved [] same = refl
  tokens_moved (p ∷ ps) same =
      let lines : line_ends other (map move ps) ≡ line_ends text ps = lines_moved ps same.1 in
      let rest : tokens_of other (map move ps) ≡ map move (tokens_of text ps) = tokens_moved ps same.1 in
      let after : List Piece → Bool → List Piece = λ ts ends. cond (ends_statement p.class && ends) (semicolon (move p).span.end ∷ ts) ts in
      let whole : tokens_of other (map move (p ∷ ps)) ≡ cond (is_trivia p.class) (map move (tokens_of text ps))
      (move p ∷ after (map move (tokens_of text ps)) (line_ends text ps)) = λ i. cond (is_trivia p.class) (rest i) (move p ∷ after (rest i) (lines i)) in
      whole ∙ by_test (is_trivia p.class)
      (λ trivia. rw trivia refl)
      (λ token. by_test (ends_statement p.class && line_ends text ps)
      (λ ends. rw (token, ends) refl)
      (λ goes. rw (token, goes) refl))

-- what is put there

no_trivia : (c : Class) → IsStringClass c → is_trivia c ≡ false
no_trivia c is = ⊎_elim (λ (e : c ≡ class.InterpretedString). ap is_trivia e) (λ (e : c ≡ class.RawString). ap is_trivia e) is

-- no line ends before a piece that is no trivia
goes_on : (text : List ℕ) (p : Piece) (ps : List Piece) → is_trivia p.class ≡ false → line_ends text (p ∷ ps) ≡ false
unfolding line_ends
goes_on text p ps token = rw token refl

name_goes : (text name : List ℕ) (at : ℕ) (ps : List Piece) → line_ends text (name_and_blank at name ++ ps) ≡ false
unfolding line_ends
name_goes text name at ps = refl

name_tokens : (text name : List ℕ) (at : ℕ) (p : Piece) (ps : List Piece) → is_trivia p.class ≡ false →
    tokens_of text (name_and_blank at name ++ p ∷ ps) ≡ piece_at class.Name at name ∷ tokens_of text (p ∷ ps)
unfolding tokens_of line_ends
name_tokens text name at p ps token = rw token refl

blank_goes : (text : List ℕ) (at : ℕ) (ps : List Piece) → line_ends text ps ≡ false → line_ends text (piece_at class.Blank at (32 ∷ []) ∷ ps) ≡ false
unfolding line_ends
blank_goes text at ps goes = goes

blank_tokens : (text : List ℕ) (at : ℕ) (ps : List Piece) → tokens_of text (piece_at class.Blank at (32 ∷ []) ∷ ps) ≡ tokens_of text ps
unfolding tokens_of
blank_tokens text at ps = refl

put_goes : (p : NamePut) (text : List ℕ) (q : Piece) (ps : List Piece) → line_ends text (put_pieces p ++ q ∷ ps) ≡ false
put_goes p text q ps = by_form p.blank_first
  where
    by_form : (b : Bool) → line_ends text (cond b (piece_at class.Blank (length p.front) (32 ∷ []) ∷ name_and_blank (length p.front + 1) p.name)
        (name_and_blank (length p.front) p.name) ++ q ∷ ps) ≡ false
    by_form true = blank_goes text (length p.front) (name_and_blank (length p.front + 1) p.name ++ q ∷ ps)
        (name_goes text p.name (length p.front + 1) (q ∷ ps))
    by_form false = name_goes text p.name (length p.front) (q ∷ ps)

put_tokens : (p : NamePut) (text : List ℕ) (q : Piece) (ps : List Piece) → is_trivia q.class ≡ false →
    tokens_of text (put_pieces p ++ q ∷ ps) ≡ name_piece p ∷ tokens_of text (q ∷ ps)
put_tokens p text q ps token = by_form p.blank_first
  where
    by_form : (b : Bool) → tokens_of text (cond b (piece_at class.Blank (length p.front) (32 ∷ []) ∷ name_and_blank (length p.front + 1) p.name)
        (name_and_blank (length p.front) p.name) ++ q ∷ ps) ≡ piece_at class.Name (cond b (length p.front + 1) (length p.front)) p.name ∷ tokens_of text
        (q ∷ ps)
    by_form true = blank_tokens text (length p.front) (name_and_blank (length p.front + 1) p.name ++ q ∷ ps) ∙
        name_tokens text p.name (length p.front + 1) q ps token
    by_form false = name_tokens text p.name (length p.front) q ps token

-- both

abbrev pub texts : NamePut → List ℕ
texts p = (before_put p).text

abbrev pub news : NamePut → List ℕ
news p = (after_put p).text

pub same_rest : (p : NamePut) → drop (length p.front) (texts p) ≡ drop (length p.front + length (put_bytes p)) (news p)
same_rest p =
    let tail : List ℕ = p.literal ++ p.rest in
    drop_at p.front tail (length p.front) refl
    ∙ sym (ap (drop (length p.front + length (put_bytes p))) (sym (append_assoc p.front (put_bytes p) tail))
    ∙ drop_at (p.front ++ put_bytes p) tail (length p.front + length (put_bytes p)) (length-append p.front (put_bytes p)))

-- The literal's tokens, and the tokens before them in both texts.
pub record Tokens (p : NamePut) : Type 0 where
  pub ones : List Piece
  pub behind : List Piece
  pub old : tokens_in (before_put p) ≡ ones ++ literal_piece p ∷ behind
  pub new : tokens_in (after_put p) ≡ ones ++ name_piece p ∷ map (moved_behind p) (literal_piece p ∷ behind)
  pub same : AllByRecursion (SameBytes (texts p) (news p)) ones
  pub moved : AllByRecursion (λ t. kind_of t.class (bytes_of (news p) (moved_behind p t)) ≡ kind_of t.class (bytes_of (texts p) t))
      (literal_piece p ∷ behind)

record Led (text : List ℕ) (q : Piece) (ps : List Piece) : Type 0 where
  rest : List Piece
  is : tokens_of text (q ∷ ps) ≡ q ∷ rest

led : (text : List ℕ) (q : Piece) (ps : List Piece) → is_trivia q.class ≡ false → Led text q ps
unfolding tokens_of
led text q ps token = record {
  rest = cond (ends_statement q.class && line_ends text ps) (semicolon q.span.end ∷ tokens_of text ps) (tokens_of text ps);
  is = rw token refl;
}

pub both_tokens : (p : NamePut) → MayPut p → Tokens p
both_tokens p may =
    let lit : Piece = literal_piece p in
    let token : is_trivia p.class ≡ false = no_trivia p.class may.is_string in
    let lies = all_lie 0 (length (texts p)) p.before p.after lit (cut_covers (texts p) (before_put p).pieces may.is_cut) in
    let same_front = all_by (LiesBefore (length p.front)) (λ q. bytes_of (texts p) q ≡ bytes_of (news p) q) p.before
    (λ q before. front_bytes p.front (p.literal ++ p.rest) (put_bytes p ++ (p.literal ++ p.rest)) q before) lies.all_before in
    let same_behind = all_by (LiesBehind (length p.front)) (λ q. bytes_of (news p) (moved_behind p q) ≡ bytes_of (texts p) q) (lit ∷ p.after)
    (λ q behind. behind_bytes (length p.front) (length p.front + length (put_bytes p)) (texts p) (news p) q behind (same_rest p)) lies.all_behind in
    let moved : List Piece = map (moved_behind p) (lit ∷ p.after) in
    let first = front_tokens (texts p) (news p) p.before (lit ∷ p.after) (put_pieces p ++ moved) same_front (goes_on (texts p) lit p.after token)
    (put_goes p (news p) (moved_behind p lit) (map (moved_behind p) p.after)) in
    let then = tokens_moved (length p.front) (length p.front + length (put_bytes p)) (texts p) (news p) (lit ∷ p.after) same_behind in
    let leads = led (texts p) lit p.after token in
    let put = put_tokens p (news p) (moved_behind p lit) (map (moved_behind p) p.after) token in
    let kinds = each_token (λ t. kind_of t.class (bytes_of (news p) (moved_behind p t)) ≡ kind_of t.class (bytes_of (texts p) t)) (λ at. refl) (texts p)
    (lit ∷ p.after) (all_by (λ q. bytes_of (news p) (moved_behind p q) ≡ bytes_of (texts p) q)
    (λ t. kind_of t.class (bytes_of (news p) (moved_behind p t)) ≡ kind_of t.class (bytes_of (texts p) t)) (lit ∷ p.after)
    (λ q same. ap (kind_of q.class) same) same_behind) in
    record {
      ones = first.ones;
      behind = leads.rest;
      old = first.old ∙ ap (λ l. first.ones ++ l) leads.is;
      new = ap (tokens_of (news p)) (append_assoc p.before (put_pieces p) moved) ∙ first.new
          ∙ ap (λ l. first.ones ++ l) (put ∙ ap (λ l. name_piece p ∷ l) (then ∙ ap (map (moved_behind p)) leads.is));
      same = first.same;
      moved = subst (AllByRecursion (λ t. kind_of t.class (bytes_of (news p) (moved_behind p t)) ≡ kind_of t.class (bytes_of (texts p) t))) leads.is kinds;
    }

pub literal_number : (p : NamePut) → MayPut p → (t : Tokens p) (number : ℕ) → slice_get (tokens_in (before_put p)) number ≡ Some (literal_piece p) →
    number ≡ length t.ones
literal_number p may t number at =
    let rise = (tokens_in_order (texts p) (before_put p).pieces may.is_cut).rise in
    only_number t.ones (literal_piece p) t.behind number
    (subst (λ ts. IsStrictlySortedBy nat_cmp (starts ts)) t.old rise) (ap (λ ts. slice_get ts number) (sym t.old) ∙ at)

pub one_put : {X : Type 0} (ones behind : List X) (number : ℕ) (one : X) (change : X → X) → number ≡ length ones →
    with_one_at number one change (ones ++ behind) ≡ ones ++ one ∷ map change behind
one_put ones behind number one change is =
    ap (λ l. l ++ one ∷ map change (drop number (ones ++ behind))) (take_at ones behind number (sym is))
    ∙ ap (λ l. ones ++ one ∷ map change l) (drop_at ones behind number (sym is))

pub gained_tokens : (p : NamePut) (number : ℕ) → MayPut p → slice_get (tokens_in (before_put p)) number ≡ Some (literal_piece p) →
    tokens_in (after_put p) ≡ with_one_at number (name_piece p) (moved_behind p) (tokens_in (before_put p))
gained_tokens p number may at =
    let t = both_tokens p may in
    t.new ∙ sym (ap (with_one_at number (name_piece p) (moved_behind p)) t.old
    ∙ one_put t.ones (literal_piece p ∷ t.behind) number (name_piece p) (moved_behind p) (literal_number p may t number at))

-- kinds

kinds_of_both : (n : ℕ) (text : List ℕ) (ts us : List Piece) → kinds_from n text (ts ++ us) ≡ kinds_from n text ts ++ kinds_from (n + length ts) text us
unfolding kinds_from
kinds_of_both n text [] us = let same : n ≡ n + 0 = omega arith in ap (λ (k : ℕ). kinds_from k text us) same
kinds_of_both n text (t ∷ ts) us =
    let here : Token = record { kind = kind_of t.class (bytes_of text t); place = n } in
    let same : n + 1 + length ts ≡ n + length (t ∷ ts) = omega arith in
    ap (λ l. here ∷ l) (kinds_of_both (n + 1) text ts us ∙ ap (λ (k : ℕ). kinds_from (n + 1) text ts ++ kinds_from k text us) same)

kinds_same : (n : ℕ) (text other : List ℕ) (ts : List Piece) → AllByRecursion (SameBytes text other) ts → kinds_from n other ts ≡ kinds_from n text ts
unfolding kinds_from
kinds_same n text other [] same = refl
kinds_same n text other (t ∷ ts) same =
    let first : kind_of t.class (bytes_of other t) ≡ kind_of t.class (bytes_of text t) = same.0 in
    let rest : kinds_from (n + 1) other ts ≡ kinds_from (n + 1) text ts = kinds_same (n + 1) text other ts same.1 in
    λ i. record { kind = first i; place = n } ∷ rest i

kinds_later : (n : ℕ) (move : Piece → Piece) (text other : List ℕ) (ts : List Piece) →
    AllByRecursion (λ t. kind_of (move t).class (bytes_of other (move t)) ≡ kind_of t.class (bytes_of text t)) ts →
    kinds_from (n + 1) other (map move ts) ≡ map later (kinds_from n text ts)
unfolding kinds_from
kinds_later n move text other [] same = refl
kinds_later n move text other (t ∷ ts) same =
    let first : kind_of (move t).class (bytes_of other (move t)) ≡ kind_of t.class (bytes_of text t) = same.0 in
    let rest : kinds_from (n + 1 + 1) other (map move ts) ≡ map later (kinds_from (n + 1) text ts) = kinds_later (n + 1) move text other ts same.1 in
    λ i. record { kind = first i; place = n + 1 } ∷ rest i

pub name_bytes : (p : NamePut) → bytes_of (news p) (name_piece p) ≡ p.name
name_bytes p = by_form p.blank_first
  where
    take_name : (at : ℕ) (text : List ℕ) → drop at text ≡ p.name ++ 32 ∷ (p.literal ++ p.rest) → bytes_of text (piece_at class.Name at p.name) ≡ p.name
    take_name at text here =
        let size : at + length p.name - at ≡ length p.name = omega arith in
        ap (λ (k : ℕ). take k (drop at text)) size ∙ ap (take (length p.name)) here ∙ take_at p.name (32 ∷ (p.literal ++ p.rest)) (length p.name) refl

    by_form : (b : Bool) → bytes_of (p.front ++ (cond b (32 ∷ (p.name ++ 32 ∷ [])) (p.name ++ 32 ∷ []) ++ (p.literal ++ p.rest)))
        (piece_at class.Name (cond b (length p.front + 1) (length p.front)) p.name) ≡ p.name
    by_form true =
        let whole : List ℕ = p.front ++ (32 ∷ (p.name ++ 32 ∷ []) ++ (p.literal ++ p.rest)) in
        let first : drop (length p.front) whole ≡ 32 ∷ ((p.name ++ 32 ∷ []) ++ (p.literal ++ p.rest)) =
        drop_at p.front (32 ∷ ((p.name ++ 32 ∷ []) ++ (p.literal ++ p.rest))) (length p.front) refl in
        take_name (length p.front + 1) whole (sym (drop-drop 1 (length p.front) whole) ∙ ap (drop 1) first ∙
        append_assoc p.name (32 ∷ []) (p.literal ++ p.rest))
    by_form false =
        let whole : List ℕ = p.front ++ ((p.name ++ 32 ∷ []) ++ (p.literal ++ p.rest)) in
        take_name (length p.front) whole (drop_at p.front ((p.name ++ 32 ∷ []) ++ (p.literal ++ p.rest)) (length p.front) refl
        ∙ append_assoc p.name (32 ∷ []) (p.literal ++ p.rest))

length_kinds : (n : ℕ) (text : List ℕ) (ts : List Piece) → length (kinds_from n text ts) ≡ length ts
unfolding kinds_from
length_kinds n text [] = refl
length_kinds n text (t ∷ ts) = ap suc (length_kinds (n + 1) text ts)

pub gained_kinds : (p : NamePut) (number : ℕ) → MayPut p → slice_get (tokens_in (before_put p)) number ≡ Some (literal_piece p) →
    kinds_of (after_put p) ≡ with_one_at number (name_token p.name number) later (kinds_of (before_put p))
unfolding kinds_from
gained_kinds p number may at =
    let t = both_tokens p may in
    let is : number ≡ length t.ones = literal_number p may t number at in
    let size : ℕ = length t.ones in
    let there : List Piece = literal_piece p ∷ t.behind in
    let front : List Token = kinds_from 0 (texts p) t.ones in
    let zero_size : 0 + size ≡ size = omega arith in
    let old : kinds_of (before_put p) ≡ front ++ kinds_from size (texts p) there =
    ap (kinds_from 0 (texts p)) t.old ∙ kinds_of_both 0 (texts p) t.ones there ∙ ap (λ (k : ℕ). front ++ kinds_from k (texts p) there) zero_size in
    let named : kind_of class.Name (bytes_of (news p) (name_piece p)) ≡ kind_of class.Name p.name = ap (kind_of class.Name) (name_bytes p) in
    let moved = kinds_later size (moved_behind p) (texts p) (news p) there t.moved in
    let behind : kinds_from size (news p) (name_piece p ∷ map (moved_behind p) there) ≡ name_token p.name size ∷ map later (kinds_from size (texts p) there) =
    λ i. record { kind = named i; place = size } ∷ moved i in
    let new : kinds_of (after_put p) ≡ front ++ name_token p.name size ∷ map later (kinds_from size (texts p) there) =
    ap (kinds_from 0 (news p)) t.new ∙ kinds_of_both 0 (news p) t.ones (name_piece p ∷ map (moved_behind p) there)
    ∙ ap (λ (k : ℕ). kinds_from 0 (news p) t.ones ++ kinds_from k (news p) (name_piece p ∷ map (moved_behind p) there)) zero_size
    ∙ ap (λ l. l ++ kinds_from size (news p) (name_piece p ∷ map (moved_behind p) there)) (kinds_same 0 (texts p) (news p) t.ones t.same)
    ∙ ap (λ l. front ++ l) behind in
    new ∙ ap (λ (k : ℕ). front ++ name_token p.name k ∷ map later (kinds_from size (texts p) there)) (sym is)
    ∙ sym (ap (with_one_at number (name_token p.name number) later) old
    ∙ one_put front (kinds_from size (texts p) there) number (name_token p.name number) later (is ∙ sym (length_kinds 0 (texts p) t.ones)))
