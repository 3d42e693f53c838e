-- How the tokens of a text are spelled, in which a name is put before a string literal.
use Rattle.std.proofs.Common.{ℕ, zero, suc, ◌≡◌, ◌+◌, ◌-◌, List, [], ◌∷◌, ◌++◌, Some, length, take, drop, map, refl, sym, ap, ◌∙◌, subst, arith}
use Rattle.std.specs.Prelude.{slice_get}
use Rattle.std.specs.List.{AllByRecursion}
use Rattle.std.proofs.lemmas.Bool.Decides.{nat_tests}
use Rattle.std.proofs.lemmas.List.{drop_at, take_at}
use Rattle.go_scanner.specs.declared.piece.Piece.{Piece}
use Rattle.go_scanner.specs.Cuts.{bytes_of}
use Rattle.go_scanner.specs.CutText.{tokens_in}
use Rattle.go_scanner.specs.Spans.{FollowFrom}
use Rattle.go_scanner.proofs.SpanLemmas.{tokens_in_order}
use Rattle.go_ast.specs.SourceFile.{spelling_at}
use Rattle.law_rename.specs.Around.{from_on}
use Rattle.law_rename.specs.Named.{MayPut, NamePut, after_put, before_put, literal_piece, moved_behind, name_piece, put_bytes}
use Rattle.law_rename.proofs.Behind.{AllLie, LiesBefore, LiesBehind, all_by, behind_bytes, front_bytes}
use Rattle.law_rename.proofs.Gaining.{both_tokens, literal_number, name_bytes, news, same_rest, texts}
use Rattle.law_rename.proofs.TokensBehind.{behind, seam}
use Rattle.law_rename.specs.Gained.{token_bytes}

-- the numbers of tokens

pub from_first : (n : ℕ) → from_on 0 n ≡ suc n
from_first n = grind (arith, nat_tests)

pub from_zero : (k : ℕ) → from_on (suc k) 0 ≡ 0
from_zero k = grind (arith, nat_tests)

pub from_suc : (k n : ℕ) → from_on (suc k) (suc n) ≡ suc (from_on k n)
from_suc k n = grind (arith, nat_tests)

pub from_itself : (n : ℕ) → from_on n n ≡ n + 1
from_itself n = grind (arith, nat_tests)

-- where tokens lie

tokens_lie : (from to : ℕ) (ones rest : List Piece) (t : Piece) → FollowFrom from (ones ++ t ∷ rest) to → AllLie t.span.start from ones (t ∷ rest)
tokens_lie from to [] rest t follow = record {
  order = follow.0;
  all_before = tt;
  all_behind = ((omega arith, follow.1), behind t.span.start t.span.end to rest follow.1 follow.2);
}
tokens_lie from to (o ∷ ones) rest t follow =
    let more = tokens_lie o.span.end to ones rest t follow.2 in
    record {
      order = omega (arith, follow.0, follow.1, more.order);
      all_before = ((follow.1, more.order), more.all_before);
      all_behind = more.all_behind;
    }

-- their bytes, by their numbers

module _ (text other : List ℕ) (one : Piece) (move : Piece → Piece) where
  spelled_behind : (ts : List Piece) → AllByRecursion (λ t. bytes_of other (move t) ≡ bytes_of text t) ts → (n : ℕ) →
      spelling_at other (slice_get (map move ts) n) ≡ spelling_at text (slice_get ts n)
  spelled_behind [] moved n = refl
  spelled_behind (t ∷ ts) moved zero = moved.0
  spelled_behind (t ∷ ts) moved (suc n) = spelled_behind ts moved.1 n

  spelled_on : (ones rest : List Piece) → AllByRecursion (λ t. bytes_of text t ≡ bytes_of other t) ones →
      AllByRecursion (λ t. bytes_of other (move t) ≡ bytes_of text t) rest → (n : ℕ) →
      spelling_at other (slice_get (ones ++ one ∷ map move rest) (from_on (length ones) n)) ≡ spelling_at text (slice_get (ones ++ rest) n)
  spelled_on [] rest same moved n =
      ap (λ (k : ℕ). spelling_at other (slice_get (one ∷ map move rest) k)) (from_first n) ∙ spelled_behind rest moved n
  spelled_on (t ∷ ones) rest same moved zero =
      ap (λ (k : ℕ). spelling_at other (slice_get (t ∷ (ones ++ one ∷ map move rest)) k)) (from_zero (length ones)) ∙ sym same.0
  spelled_on (t ∷ ones) rest same moved (suc n) =
      ap (λ (k : ℕ). spelling_at other (slice_get (t ∷ (ones ++ one ∷ map move rest)) k)) (from_suc (length ones) n)
      ∙ spelled_on ones rest same.1 moved n

pub spelled_kept : (p : NamePut) (number : ℕ) → MayPut p → slice_get (tokens_in (before_put p)) number ≡ Some (literal_piece p) → (n : ℕ) →
    token_bytes (after_put p) (from_on number n) ≡ token_bytes (before_put p) n
spelled_kept p number may at n =
    let t = both_tokens p may in
    let there : List Piece = literal_piece p ∷ t.behind in
    let follow = subst (λ ts. FollowFrom 0 ts (length (texts p))) t.old (tokens_in_order (texts p) (before_put p).pieces may.is_cut).follow in
    let lies = tokens_lie 0 (length (texts p)) t.ones t.behind (literal_piece p) follow in
    let same = all_by (LiesBefore (length p.front)) (λ q. bytes_of (texts p) q ≡ bytes_of (news p) q) t.ones
    (λ q before. front_bytes p.front (p.literal ++ p.rest) (put_bytes p ++ (p.literal ++ p.rest)) q before) lies.all_before in
    let moved = all_by (LiesBehind (length p.front)) (λ q. bytes_of (news p) (moved_behind p q) ≡ bytes_of (texts p) q) there
    (λ q behind. behind_bytes (length p.front) (length p.front + length (put_bytes p)) (texts p) (news p) q behind (same_rest p)) lies.all_behind in
    ap (λ ts. spelling_at (news p) (slice_get ts (from_on number n))) t.new
    ∙ ap (λ (k : ℕ). spelling_at (news p) (slice_get (t.ones ++ name_piece p ∷ map (moved_behind p) there) (from_on k n))) (literal_number p may t number at)
    ∙ spelled_on (texts p) (news p) (name_piece p) (moved_behind p) t.ones there same moved n
    ∙ ap (λ ts. spelling_at (texts p) (slice_get ts n)) (sym t.old)

pub spelled_name : (p : NamePut) (number : ℕ) → MayPut p → slice_get (tokens_in (before_put p)) number ≡ Some (literal_piece p) →
    token_bytes (after_put p) number ≡ p.name
spelled_name p number may at =
    let t = both_tokens p may in
    ap (λ ts. spelling_at (news p) (slice_get ts number)) t.new
    ∙ ap (λ (k : ℕ). spelling_at (news p) (slice_get (t.ones ++ name_piece p ∷ map (moved_behind p) (literal_piece p ∷ t.behind)) k))
    (literal_number p may t number at)
    ∙ ap (spelling_at (news p)) (seam t.ones (map (moved_behind p) (literal_piece p ∷ t.behind)) (name_piece p)) ∙ name_bytes p

pub spelled_literal : (p : NamePut) (number : ℕ) → slice_get (tokens_in (before_put p)) number ≡ Some (literal_piece p) →
    token_bytes (before_put p) number ≡ p.literal
spelled_literal p number at =
    let size : length p.front + length p.literal - length p.front ≡ length p.literal = omega arith in
    ap (spelling_at (texts p)) at ∙ ap (λ (k : ℕ). take k (drop (length p.front) (texts p))) size
    ∙ ap (take (length p.literal)) (drop_at p.front (p.literal ++ p.rest) (length p.front) refl) ∙ take_at p.literal p.rest (length p.literal) refl

pub spelled_path : (p : NamePut) (number : ℕ) → MayPut p → slice_get (tokens_in (before_put p)) number ≡ Some (literal_piece p) →
    token_bytes (after_put p) (number + 1) ≡ p.literal
spelled_path p number may at =
    ap (token_bytes (after_put p)) (sym (from_itself number)) ∙ spelled_kept p number may at number ∙ spelled_literal p number at
