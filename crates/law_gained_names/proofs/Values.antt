-- String literals keep their values where a name is put before one of them.
use Rattle.std.proofs.Common.{ℕ, zero, suc, ◌≡◌, List, [], ◌∷◌, ◌++◌, Some, length, map, refl, sym, ap, ◌∙◌, subst}
use Rattle.std.specs.Prelude.{◌↔◌, get_or, slice_get}
use Rattle.go_scanner.specs.declared.piece.Piece.{Piece}
use Rattle.go_scanner.specs.Cuts.{bytes_of}
use Rattle.go_scanner.specs.CutText.{CutText, token_at, tokens_in}
use Rattle.go_scanner.specs.StringValues.{HasStringValue}
use Rattle.go_scanner.specs.Tokens.{semicolon}
use Rattle.go_scanner.specs.TokenValues.{IsStringClass}
use Rattle.go_ast.specs.SourceFile.{SourceFile, spelling_at}
use Rattle.law_rename.specs.Around.{from_on}
use Rattle.law_rename.specs.Named.{MayPut, NamePut, after_put, before_put, literal_piece, moved_behind, name_piece}
use Rattle.law_rename.proofs.Gaining.{both_tokens, literal_number}
use Rattle.law_rename.proofs.Spelling.{from_first, from_suc, from_zero, spelled_kept}
use Rattle.types_declared.specs.Files.{HasLiteral}

-- the bytes of a token

bytes_at : (text : List ℕ) (ts : List Piece) (n : ℕ) → bytes_of text (get_or ts n (semicolon 0)) ≡ spelling_at text (slice_get ts n)
bytes_at text [] n = refl
bytes_at text (t ∷ ts) zero = refl
bytes_at text (t ∷ ts) (suc n) = bytes_at text ts n

-- its class

module _ (one : Piece) (move : Piece → Piece) (same : (t : Piece) → (move t).class ≡ t.class) where
  class_behind : (ts : List Piece) (n : ℕ) → (get_or (map move ts) n (semicolon 0)).class ≡ (get_or ts n (semicolon 0)).class
  class_behind [] n = refl
  class_behind (t ∷ ts) zero = same t
  class_behind (t ∷ ts) (suc n) = class_behind ts n

  class_on : (ones rest : List Piece) (n : ℕ) →
      (get_or (ones ++ one ∷ map move rest) (from_on (length ones) n) (semicolon 0)).class ≡ (get_or (ones ++ rest) n (semicolon 0)).class
  class_on [] rest n = ap (λ (k : ℕ). (get_or (one ∷ map move rest) k (semicolon 0)).class) (from_first n) ∙ class_behind rest n
  class_on (t ∷ ones) rest zero =
      ap (λ (k : ℕ). (get_or (t ∷ (ones ++ one ∷ map move rest)) k (semicolon 0)).class) (from_zero (length ones))
  class_on (t ∷ ones) rest (suc n) =
      ap (λ (k : ℕ). (get_or (t ∷ (ones ++ one ∷ map move rest)) k (semicolon 0)).class) (from_suc (length ones) n) ∙ class_on ones rest n

class_kept : (p : NamePut) (number : ℕ) → MayPut p → slice_get (tokens_in (before_put p)) number ≡ Some (literal_piece p) → (n : ℕ) →
    (token_at (after_put p) (from_on number n)).class ≡ (token_at (before_put p) n).class
class_kept p number may at n =
    let t = both_tokens p may in
    let there : List Piece = literal_piece p ∷ t.behind in
    ap (λ ts. (get_or ts (from_on number n) (semicolon 0)).class) t.new
    ∙ ap (λ (k : ℕ). (get_or (t.ones ++ name_piece p ∷ map (moved_behind p) there) (from_on k n) (semicolon 0)).class) (literal_number p may t number at)
    ∙ class_on (name_piece p) (moved_behind p) (λ u. refl) t.ones there n
    ∙ ap (λ ts. (get_or ts n (semicolon 0)).class) (sym t.old)

bytes_kept : (p : NamePut) (number : ℕ) → MayPut p → slice_get (tokens_in (before_put p)) number ≡ Some (literal_piece p) → (n : ℕ) →
    bytes_of (after_put p).text (token_at (after_put p) (from_on number n)) ≡ bytes_of (before_put p).text (token_at (before_put p) n)
bytes_kept p number may at n =
    bytes_at (after_put p).text (tokens_in (after_put p)) (from_on number n) ∙ spelled_kept p number may at n
    ∙ sym (bytes_at (before_put p).text (tokens_in (before_put p)) n)

-- a literal, by its class and its bytes

record HasValue (c : CutText) (n : ℕ) (value : List ℕ) : Type 0 where
  is_string : IsStringClass (token_at c n).class
  stands_for : HasStringValue (bytes_of c.text (token_at c n)) value

same_value : (c d : CutText) (n m : ℕ) (value : List ℕ) → (token_at d m).class ≡ (token_at c n).class →
    bytes_of d.text (token_at d m) ≡ bytes_of c.text (token_at c n) → HasValue c n value → HasValue d m value
same_value c d n m value class bytes h = record {
  is_string = subst IsStringClass (sym class) h.is_string;
  stands_for = subst (λ b. HasStringValue b value) (sym bytes) h.stands_for;
}

of_cut : (s : SourceFile) (c : CutText) (n : ℕ) (value : List ℕ) → s.cut ≡ c → HasLiteral s n value → HasValue c n value
of_cut s c n value is h = subst (λ d. HasValue d n value) is (record { is_string = h.is_string; stands_for = h.stands_for })

in_file : (s : SourceFile) (c : CutText) (n : ℕ) (value : List ℕ) → s.cut ≡ c → HasValue c n value → HasLiteral s n value
in_file s c n value is h =
    let own : HasValue s.cut n value = subst (λ d. HasValue d n value) (sym is) h in
    record { is_string = own.is_string; stands_for = own.stands_for }

pub values : (p : NamePut) (number : ℕ) → MayPut p → slice_get (tokens_in (before_put p)) number ≡ Some (literal_piece p) → (s u : SourceFile) →
    s.cut ≡ before_put p → u.cut ≡ after_put p → (n : ℕ) (value : List ℕ) → HasLiteral s n value ↔ HasLiteral u (from_on number n) value
values p number may at s u old new n value =
    let class = class_kept p number may at n in
    let bytes = bytes_kept p number may at n in (
      (λ h. in_file u (after_put p) (from_on number n) value new
          (same_value (before_put p) (after_put p) n (from_on number n) value class bytes (of_cut s (before_put p) n value old h))),
      (λ h. in_file s (before_put p) n value old
          (same_value (after_put p) (before_put p) (from_on number n) n value (sym class) (sym bytes)
          (of_cut u (after_put p) (from_on number n) value new h))),
    )
