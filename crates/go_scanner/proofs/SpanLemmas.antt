-- The spans of the pieces and tokens of a cut.
use Rattle.std.proofs.Common.{◌≡◌, ℕ, zero, suc, ◌-◌, ◌<◌, ◌≤◌, List, [], ◌∷◌, ◌++◌, true, false, ◌&&◌, refl, sym, ap, ◌∙◌, subst, drop, take, length}
use Rattle.std.proofs.Common.{get_or, arith, inl, inr, ⊎_elim}
use Rattle.std.specs.Prelude.{nat_eq}
use Rattle.std.specs.Cmp.{nat_cmp_is}
use Rattle.std.specs.List.{AllByRecursion, starts_with}
use Rattle.std.specs.List.Sorted.{IsStrictlySortedBy}
use Rattle.std.specs.Ordering.{nat_cmp}
use Rattle.std.specs.declared.cmp.Ordering.TheVariants.{Less}
use Rattle.std.proofs.lemmas.Bool.{and_parts, false≢true}
use Rattle.std.specs.Cmp.Lexicographic.{same_text}
use Rattle.go_scanner.specs.declared.piece.Class.{Class}
use Rattle.go_scanner.specs.declared.piece.Piece.{Piece}
use Rattle.go_scanner.specs.Pieces.{IsPiece}
use Rattle.go_scanner.specs.Cuts.{CutsTo, IsCut, mark_of, mark_len, byte_order_mark, bytes_of}
use Rattle.go_scanner.specs.Tokens.{is_trivia, ends_statement, line_ends, semicolon, tokens_of}
use Rattle.go_scanner.specs.Spans.{CoversFrom, FollowFrom, starts, AreTokensInOrder, IsPieceText, IsTokenText}
use Rattle.go_scanner.proofs.IntegerLemmas.{by_test}

-- a cut covers its text
CoversFrom-cut : (text : List ℕ) (from to : ℕ) (ps : List Piece) → CutsTo text from ps to → CoversFrom from ps to
CoversFrom-cut text from to [] cut = cut
CoversFrom-cut text from to (p ∷ ps) cut = (cut.0, omega (arith, cut.2.some), CoversFrom-cut text p.span.end to ps cut.3)

mark_covers : (text : List ℕ) (rest : List Piece) (to : ℕ) → CoversFrom (mark_len text) rest to → CoversFrom 0 (mark_of text ++ rest) to
mark_covers text rest to covers =
    by_test (starts_with nat_eq text byte_order_mark)
    (λ is. rw is (refl, omega arith, rw is at covers))
    (λ not. rw not (rw not at covers))

pub cut_covers : (text : List ℕ) (ps : List Piece) → IsCut text ps → CoversFrom 0 ps (length text)
cut_covers text ps cut = subst (λ l. CoversFrom 0 l (length text)) (sym cut.cut.1)
    (mark_covers text cut.cut.0 (length text) (CoversFrom-cut text (mark_len text) (length text) cut.cut.0 cut.cut.2))

covers_on : (from to : ℕ) (ps : List Piece) → CoversFrom from ps to → from ≤ to
covers_on from to [] covers = omega (arith, covers)
covers_on from to (p ∷ ps) covers = omega (arith, covers.1, covers_on p.span.end to ps covers.2)

-- each piece lies in the text
pub covers_at : (from to : ℕ) (ps : List Piece) (i : ℕ) (d : Piece) → CoversFrom from ps to → i < length ps →
    ((get_or ps i d).span.start ≤ (get_or ps i d).span.end) × ((get_or ps i d).span.end ≤ to)
covers_at from to [] i d covers fits = absurd (omega (arith, fits))
covers_at from to (p ∷ ps) zero d covers fits = (omega (arith, covers.0, covers.1), covers_on p.span.end to ps covers.2)
covers_at from to (p ∷ ps) (suc i) d covers fits = covers_at p.span.end to ps i d covers.2 (omega (arith, fits))

-- tokens that follow from an offset also follow from an earlier one
follow_before : (low from to : ℕ) (ts : List Piece) → low ≤ from → FollowFrom from ts to → FollowFrom low ts to
follow_before low from to [] less follow = omega (arith, less, follow)
follow_before low from to (t ∷ ts) less follow = (omega (arith, less, follow.0), follow.1, follow.2)

follow_tokens : (text : List ℕ) (from to : ℕ) (ps : List Piece) → CoversFrom from ps to → FollowFrom from (tokens_of text ps) to
unfolding tokens_of
follow_tokens text from to [] covers = omega (arith, covers)
follow_tokens text from to (p ∷ ps) covers =
    let rest = follow_tokens text p.span.end to ps covers.2 in
    let start : from ≤ p.span.start = omega (arith, covers.0) in
    let order : p.span.start ≤ p.span.end = omega (arith, covers.0, covers.1) in
    by_test (is_trivia p.class)
    (λ trivia. rw trivia (follow_before from p.span.end to (tokens_of text ps) (omega (arith, covers.1)) rest))
    (λ token. by_test (ends_statement p.class && line_ends text ps)
    (λ ends. rw (token, ends) (start, order, (omega arith, omega arith, rest)))
    (λ goes. rw (token, goes) (start, order, rest)))

pub follow_at : (from to : ℕ) (ts : List Piece) (i : ℕ) (d : Piece) → FollowFrom from ts to → i < length ts →
    ((get_or ts i d).span.start ≤ (get_or ts i d).span.end) × ((get_or ts i d).span.end ≤ to)
follow_at from to [] i d follow fits = absurd (omega (arith, fits))
follow_at from to (t ∷ ts) zero d follow fits = (follow.1, follow_on t.span.end to ts follow.2)
  where
    follow_on : (from to : ℕ) (ts : List Piece) → FollowFrom from ts to → from ≤ to
    follow_on from to [] follow = follow
    follow_on from to (t ∷ ts) follow = omega (arith, follow.0, follow.1, follow_on t.span.end to ts follow.2)
follow_at from to (t ∷ ts) (suc i) d follow fits = follow_at t.span.end to ts i d follow.2 (omega (arith, fits))

-- tokens begin at a bound or later
above : (low high : ℕ) (xs : List ℕ) → low ≤ high → AllByRecursion (λ x. high ≤ x) xs → AllByRecursion (λ x. low ≤ x) xs
above low high [] less all = tt
above low high (x ∷ xs) less all = (omega (arith, less, all.0), above low high xs less all.1)

strictly_above : (low high : ℕ) (xs : List ℕ) → low < high → AllByRecursion (λ x. high ≤ x) xs → AllByRecursion (λ x. nat_cmp low x ≡ Less) xs
strictly_above low high [] less all = tt
strictly_above low high (x ∷ xs) less all = (sym (nat_cmp_is low x Less (omega (arith, less, all.0))), strictly_above low high xs less all.1)

from_here : (text : List ℕ) (from to : ℕ) (ps : List Piece) → CoversFrom from ps to → AllByRecursion (λ x. from ≤ x) (starts (tokens_of text ps))
unfolding tokens_of
from_here text from to [] covers = tt
from_here text from to (p ∷ ps) covers =
    let rest = above from p.span.end (starts (tokens_of text ps)) (omega (arith, covers.1)) (from_here text p.span.end to ps covers.2) in
    let start : from ≤ p.span.start = omega (arith, covers.0) in
    by_test (is_trivia p.class)
    (λ trivia. rw trivia rest)
    (λ token. by_test (ends_statement p.class && line_ends text ps)
    (λ ends. rw (token, ends) (start, (omega (arith, covers.1), rest)))
    (λ goes. rw (token, goes) (start, rest)))

-- where the line ends first, the tokens begin later
behind_line_end : (text : List ℕ) (from to : ℕ) (ps : List Piece) → CoversFrom from ps to → line_ends text ps ≡ true →
    AllByRecursion (λ x. nat_cmp from x ≡ Less) (starts (tokens_of text ps))
unfolding tokens_of line_ends
behind_line_end text from to [] covers ends = tt
behind_line_end text from to (p ∷ ps) covers ends =
    by_test (is_trivia p.class)
    (λ trivia. rw trivia (strictly_above from p.span.end (starts (tokens_of text ps)) covers.1 (from_here text p.span.end to ps covers.2)))
    (λ token. absurd (false≢true (rw token at ends)))

starts_rise : (text : List ℕ) (from to : ℕ) (ps : List Piece) → CoversFrom from ps to → IsStrictlySortedBy nat_cmp (starts (tokens_of text ps))
unfolding tokens_of IsStrictlySortedBy
starts_rise text from to [] covers = tt
starts_rise text from to (p ∷ ps) covers =
    let rest = starts_rise text p.span.end to ps covers.2 in
    let later = strictly_above p.span.start p.span.end (starts (tokens_of text ps)) (omega (arith, covers.0, covers.1))
    (from_here text p.span.end to ps covers.2) in
    by_test (is_trivia p.class)
    (λ trivia. rw trivia rest)
    (λ token. by_test (ends_statement p.class && line_ends text ps)
    (λ ends.
    let line = (and_parts (ends_statement p.class) (line_ends text ps) ends).1 in
    rw (token, ends) (
      (sym (nat_cmp_is p.span.start p.span.end Less (omega (arith, covers.0, covers.1))), later),
      (behind_line_end text p.span.end to ps covers.2 line, rest),
    ))
    (λ goes. rw (token, goes) (later, rest)))

pub tokens_in_order : (text : List ℕ) (ps : List Piece) → IsCut text ps → AreTokensInOrder text (tokens_of text ps)
tokens_in_order text ps cut =
    let covers = cut_covers text ps cut in
    record { follow = follow_tokens text 0 (length text) ps covers; rise = starts_rise text 0 (length text) ps covers }

-- the bytes of each piece are of its class
pieces_of : (text : List ℕ) (from to : ℕ) (ps : List Piece) → CutsTo text from ps to → AllByRecursion (λ p. IsPieceText p.class (bytes_of text p)) ps
pieces_of text from to [] cut = tt
pieces_of text from to (p ∷ ps) cut = (
  inl (subst (λ (k : ℕ). IsPiece p.class (take (p.span.end - k) (drop k text))) (sym cut.0) cut.2.piece),
  pieces_of text p.span.end to ps cut.3,
)

mark_pieces : (text : List ℕ) (rest : List Piece) → AllByRecursion (λ p. IsPieceText p.class (bytes_of text p)) rest →
    AllByRecursion (λ p. IsPieceText p.class (bytes_of text p)) (mark_of text ++ rest)
mark_pieces text rest all =
    by_test (starts_with nat_eq text byte_order_mark)
    (λ is. rw is (inr (refl, sym (same_text _ _ (sym is))), all))
    (λ not. rw not all)

pub cut_pieces : (text : List ℕ) (ps : List Piece) → IsCut text ps → AllByRecursion (λ p. IsPieceText p.class (bytes_of text p)) ps
cut_pieces text ps cut = subst (AllByRecursion (λ p. IsPieceText p.class (bytes_of text p))) (sym cut.cut.1)
    (mark_pieces text cut.cut.0 (pieces_of text (mark_len text) (length text) cut.cut.0 cut.cut.2))

-- the bytes of each token are of its class
token_of_piece : (class : Class) (bytes : List ℕ) → is_trivia class ≡ false → IsPieceText class bytes → IsTokenText class bytes
token_of_piece class bytes token piece = ⊎_elim (λ p. inl p) (λ mark. absurd (false≢true (sym token ∙ ap is_trivia mark.0))) piece

empty_token : (text : List ℕ) (at : ℕ) → bytes_of text (semicolon at) ≡ []
empty_token text at = let none : at - at ≡ 0 = omega arith in rw none refl

tokens_of_pieces : (text : List ℕ) (ps : List Piece) → AllByRecursion (λ p. IsPieceText p.class (bytes_of text p)) ps →
    AllByRecursion (λ t. IsTokenText t.class (bytes_of text t)) (tokens_of text ps)
unfolding tokens_of
tokens_of_pieces text [] all = tt
tokens_of_pieces text (p ∷ ps) all =
    let rest = tokens_of_pieces text ps all.1 in
    by_test (is_trivia p.class)
    (λ trivia. rw trivia rest)
    (λ token.
    let here = token_of_piece p.class (bytes_of text p) token all.0 in
    by_test (ends_statement p.class && line_ends text ps)
    (λ ends. rw (token, ends) (here, (inr (refl, empty_token text p.span.end), rest)))
    (λ goes. rw (token, goes) (here, rest)))

pub cut_tokens : (text : List ℕ) (ps : List Piece) → IsCut text ps → AllByRecursion (λ t. IsTokenText t.class (bytes_of text t)) (tokens_of text ps)
cut_tokens text ps cut = tokens_of_pieces text ps (cut_pieces text ps cut)

-- one of them
all_at : {X : Type 0} (P : X → Type 0) (xs : List X) (i : ℕ) (d : X) → AllByRecursion P xs → i < length xs → P (get_or xs i d)
all_at P [] i d all fits = absurd (omega (arith, fits))
all_at P (x ∷ xs) zero d all fits = all.0
all_at P (x ∷ xs) (suc i) d all fits = all_at P xs i d all.1 (omega (arith, fits))

pub record IsToken (text : List ℕ) (t : Piece) : Type 0 where
  pub order : t.span.start ≤ t.span.end
  pub fits : t.span.end ≤ length text
  pub bytes : IsTokenText t.class (bytes_of text t)

pub token_is : (text : List ℕ) (ps ts : List Piece) (i : ℕ) (t : Piece) → IsCut text ps → ts ≡ tokens_of text ps → t ≡ get_or ts i t → i < length ts →
    IsToken text t
token_is text ps ts i t cut ts_is t_is fits =
    let fits' : i < length (tokens_of text ps) = omega (arith, fits, ap length ts_is) in
    let at : t ≡ get_or (tokens_of text ps) i t = t_is ∙ ap (λ l. get_or l i t) ts_is in
    let place = follow_at 0 (length text) (tokens_of text ps) i t (tokens_in_order text ps cut).follow fits' in
    let bytes = all_at (λ t. IsTokenText t.class (bytes_of text t)) (tokens_of text ps) i t (cut_tokens text ps cut) fits' in
    subst (IsToken text) (sym at) (record { order = place.0; fits = place.1; bytes = bytes })
