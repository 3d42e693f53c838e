-- A text in which one name is replaced.
use Rattle.std.proofs.Common.{ℕ, ◌≡◌, ◌+◌, ◌-◌, List, ◌∷◌, ◌++◌, length, drop, refl, sym, subst, arith}
use Rattle.std.specs.Prelude.{map}
use Rattle.std.specs.Str.{IsUtf8}
use Rattle.std.proofs.lemmas.List.{take_at, drop_at}
use Rattle.std.proofs.lemmas.Str.{IsUtf8-append}
use Rattle.go_scanner.specs.declared.piece.Class.{Class}
use Rattle.go_scanner.specs.declared.piece.Class.TheVariants.{ByteOrderMark, Name}
use Rattle.go_scanner.specs.declared.piece.Piece.{Piece}
use Rattle.go_scanner.specs.Contexts.{EndsName, MayFollow}
use Rattle.go_scanner.specs.Cuts.{IsCut, CutsUpTo}
use Rattle.go_scanner.specs.Pieces.{IsPiece, Stands}
use Rattle.go_scanner.proofs.ContextLemmas.{stands_before, may_follow}
use Rattle.go_scanner.proofs.OneCutLemmas.{one_piece}
use Rattle.go_respelled.specs.Literals.{piece_at, shifted}
use Rattle.go_respelled.proofs.Joining.{no_zero, recut}
use Rattle.go_respelled.proofs.Seams.{all_end_alike, cut_kept, follow_kept, front_utf8}
use Rattle.go_respelled.proofs.Leading.{stands_behind}
use Rattle.go_respelled.proofs.Names.{behind_utf8, first_byte, names, names_end, word_encoded, word_utf8}

pub follow_alike : (class : Class) (bytes between old new rest : List ℕ) → IsPiece Name old → IsPiece Name new →
    MayFollow class bytes (between ++ (old ++ rest)) → MayFollow class bytes (between ++ (new ++ rest))
follow_alike class bytes between old new rest is_old is_new may =
    let a = first_byte old is_old.0 in
    let b = first_byte new is_new.0 in
    let was = subst (λ l. MayFollow class bytes (between ++ (l ++ rest))) a.spelled may in
    subst (λ l. MayFollow class bytes (between ++ (l ++ rest))) (sym b.spelled)
    (follow_kept class bytes between (a.more ++ rest) (b.more ++ rest) a.byte b.byte (names old new rest is_old.0 is_new.0 a b)
    (λ here is. names_end old new rest is_old.0 a b) was)

-- how a piece stood

pub record WasPiece (front old rest : List ℕ) (before : List Piece) (c : Class) : Type 0 where
  pub leads : CutsUpTo (front ++ (old ++ rest)) before (length front)
  pub stands : Stands (old ++ rest) c (length old)
  pub piece : IsPiece c old

pub was_piece : (front old rest : List ℕ) (before after : List Piece) (c : Class) → (c ≡ ByteOrderMark → ⊥) →
    IsCut (front ++ (old ++ rest)) (before ++ piece_at c (length front) old ∷ after) → WasPiece front old rest before c
was_piece front old rest before after c other whole =
    let text : List ℕ = front ++ (old ++ rest) in
    let found = stands_behind text before after (piece_at c (length front) old) other whole in
    let size : length front + length old - length front ≡ length old = omega arith in
    let here : drop (length front) text ≡ old ++ rest = drop_at front (old ++ rest) (length front) refl in
    let stands : Stands (old ++ rest) c (length old) = subst (λ (k : ℕ). Stands (old ++ rest) c k) size
    (subst (λ l. Stands l c (length front + length old - length front)) here found.stands) in
    record { leads = found.leads; stands = stands; piece = subst (IsPiece c) (take_at old rest (length old) refl) stands.piece }

leads_still : (front old new rest : List ℕ) (before : List Piece) → IsPiece Name old → IsPiece Name new →
    CutsUpTo (front ++ (old ++ rest)) before (length front) → CutsUpTo (front ++ (new ++ rest)) before (length front)
leads_still front old new rest before is_old is_new cut =
    let a = first_byte old is_old.0 in
    let b = first_byte new is_new.0 in
    let was = subst (λ l. CutsUpTo (front ++ (l ++ rest)) before (length front)) a.spelled cut in
    subst (λ l. CutsUpTo (front ++ (l ++ rest)) before (length front)) (sym b.spelled)
    (cut_kept front (a.more ++ rest) (b.more ++ rest) a.byte b.byte before (names old new rest is_old.0 is_new.0 a b)
    (all_end_alike (length front) a.byte b.byte (a.more ++ rest) (b.more ++ rest) before (names_end old new rest is_old.0 a b)) was)

before_utf8 : (front old rest : List ℕ) → IsPiece Name old → IsUtf8 (front ++ (old ++ rest)) → IsUtf8 front
before_utf8 front old rest is utf8 =
    let a = first_byte old is.0 in
    front_utf8 front (a.more ++ rest) a.byte a.starts (subst (λ l. IsUtf8 (front ++ (l ++ rest))) a.spelled utf8)

pub replaced_name : (front old new rest : List ℕ) (before after : List Piece) → IsPiece Name new →
    IsCut (front ++ (old ++ rest)) (before ++ piece_at Name (length front) old ∷ after) →
    (let behind = map (shifted (length front + length old) (length front + length new)) after in
    IsCut (front ++ (new ++ rest)) (before ++ piece_at Name (length front) new ∷ behind))
replaced_name front old new rest before after is_new whole =
    let was = was_piece front old rest before after Name (λ e. cc) whole in
    let ends : EndsName rest = subst EndsName (drop_at old rest (length old) refl) (may_follow Name (old ++ rest) (length old) was.stands) in
    let encoded = word_encoded new is_new.0 in
    let utf8 : IsUtf8 front = before_utf8 front old rest was.piece whole.encoded.0 in
    let rest_utf8 : IsUtf8 rest = behind_utf8 old rest (word_utf8 old was.piece.0) (behind_utf8 front (old ++ rest) utf8 whole.encoded.0) in
    recut front old new rest before after (piece_at Name (length front) old) Name (record {
      size = λ n stands. (one_piece (old ++ rest) Name Name n (length old) stands was.stands).0;
      stands = stands_before Name new rest is_new ends;
      encoded = (
        IsUtf8-append front (new ++ rest) utf8 (IsUtf8-append new rest encoded.0 rest_utf8),
        no_zero front old new rest whole.encoded encoded,
      );
      leads = was.leads;
      leads_still = leads_still front old new rest before was.piece is_new was.leads;
    }) whole
