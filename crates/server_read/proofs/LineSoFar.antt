-- The part of a line that was read.
use Rattle.std.proofs.Common.{◌≡◌, ◌≢◌, ℕ, ◌<◌, ◌≤◌, List, [], ◌∷◌, ◌++◌, length, take, Option, None, Some, Ok, Bool, true, false, cond, nat_lt}
use Rattle.std.proofs.Common.{sym, ap, ◌∙◌, arith, length-append, length-take, min}
use Rattle.std.proofs.lemmas.List.{length-take, take_all, take-append-le}
use Rattle.std.proofs.lemmas.Bool.{ltb-true}
use Rattle.std.proofs.Math.Seq.{drop-append-add}
use Rattle.std.proofs.lemmas.Grind.{common_steps}
use Rattle.std.proofs.lemmas.List.Folds.{position_or_len_push, prefix_len-append}
use Rattle.std.specs.List.{position_or_len}
use Rattle.std.specs.Io.KnownBytes.{Consumes}
use Rattle.std.proofs.KnownBytes.{Consumes-trans}
use Rattle.server_read.specs.FirstLine.{is_newline, first_line, after_line}
use Rattle.server_read.specs.Incoming.{ReadsLine}
use Rattle.server_read.specs.declared.input.ReadLine.TheVariants.{Whole, TooLong}

-- these bytes of a line were read, and of them as many kept as the limit allows
pub record LineSoFar (limit : ℕ) (before now : Option (List ℕ)) (line : List ℕ) (is_too_long : Bool) : Type 0 where
  pub bytes : List ℕ
  pub consumed : Consumes before now bytes
  pub plain : position_or_len is_newline bytes ≡ length bytes
  pub kept : line ≡ take limit bytes
  pub long : is_too_long ≡ nat_lt limit (length bytes)

is_long : (limit n : ℕ) → limit < n → true ≡ nat_lt limit n
is_long limit n h = grind (arith, common_steps)

whole_input : (input mid rest bytes : List ℕ) → input ≡ bytes ++ mid → mid ≡ 10 ∷ rest → input ≡ bytes ++ 10 ∷ rest
whole_input input mid rest bytes e f = e ∙ ap (λ l. bytes ++ l) f

not_empty : (bytes rest : List ℕ) → bytes ++ 10 ∷ rest ≢ []
not_empty bytes rest = λ f. absurd (omega (arith, ap length f, length-append bytes (10 ∷ rest)))

long_is : (limit n : ℕ) → true ≡ nat_lt limit n → limit < n
long_is limit n e = ltb-true limit n (sym e)

short_is : (limit n : ℕ) → false ≡ nat_lt limit n → n ≤ limit
short_is limit n e = grind (arith, common_steps)

plain_push : (bytes : List ℕ) (byte : ℕ) → position_or_len is_newline bytes ≡ length bytes → byte ≢ 10 →
    position_or_len is_newline (bytes ++ byte ∷ []) ≡ length (bytes ++ byte ∷ [])
plain_push bytes byte p n = grind (arith, common_steps, position_or_len_push)

-- the kept part is as long as the limit allows
length_kept : (limit : ℕ) (bytes line : List ℕ) → line ≡ take limit bytes → length line ≡ min limit (length bytes)
length_kept limit bytes line e = ap length e ∙ length-take limit bytes

pub long_push : (limit : ℕ) (before mid now : Option (List ℕ)) (line : List ℕ) (is_too_long : Bool) (byte : ℕ)
    → LineSoFar limit before mid line is_too_long → Consumes mid now (byte ∷ []) → byte ≢ 10 → limit ≤ length line
    → LineSoFar limit before now line true
long_push limit before mid now line is_too_long byte h c n full =
    let is_min = length_kept limit h.bytes line h.kept in
    let long : limit ≤ length h.bytes = omega arith in
    let length_more = length-append h.bytes (byte ∷ []) in
    record {
      bytes = h.bytes ++ byte ∷ [];
      consumed = Consumes-trans before mid now h.bytes (byte ∷ []) h.consumed c;
      plain = plain_push h.bytes byte h.plain n;
      kept = h.kept ∙ sym (take-append-le limit h.bytes (byte ∷ []) long);
      long = is_long limit (length (h.bytes ++ byte ∷ [])) (omega (arith, length_more));
    }

-- a line without a newline, and then a newline
position_there : (bytes rest : List ℕ) → position_or_len is_newline bytes ≡ length bytes → position_or_len is_newline (bytes ++ 10 ∷ rest) ≡ length bytes
position_there bytes rest p = grind (arith, common_steps, prefix_len-append)

pub line_of-append : (bytes rest : List ℕ) → position_or_len is_newline bytes ≡ length bytes → first_line (bytes ++ 10 ∷ rest) ≡ bytes
line_of-append bytes rest p = rw (position_there bytes rest p)
    (take-append-le (length bytes) bytes (10 ∷ rest) (omega arith) ∙ take_all (length bytes) bytes (omega arith))

pub after_line-append : (bytes rest : List ℕ) → position_or_len is_newline bytes ≡ length bytes → after_line (bytes ++ 10 ∷ rest) ≡ rest
after_line-append bytes rest p = rw (position_there bytes rest p) (drop-append-add bytes (10 ∷ rest) 1)

-- the outcome of a line that was read to its end
pub line_read : (limit : ℕ) (before mid after : Option (List ℕ)) (line : List ℕ) (is_too_long : Bool)
    → LineSoFar limit before mid line is_too_long → Consumes mid after (10 ∷ [])
    → ReadsLine limit before after line (Ok (cond is_too_long TooLong Whole))
line_read limit None mid after line true h c = tt
line_read limit None mid after line false h c = tt
line_read limit (Some input) None after line is_too_long h c = absurd h.consumed
line_read limit (Some input) (Some mid) None line is_too_long h c = absurd c
line_read limit (Some input) (Some mid) (Some rest) line true h c =
    let e = whole_input input mid rest h.bytes h.consumed c in
    rw e (
      not_empty h.bytes rest,
      rw (line_of-append h.bytes rest h.plain) (long_is limit (length h.bytes) h.long),
      ap Some (sym (after_line-append h.bytes rest h.plain)),
    )
line_read limit (Some input) (Some mid) (Some rest) line false h c =
    let e = whole_input input mid rest h.bytes h.consumed c in
    let all : line ≡ h.bytes = h.kept ∙ take_all limit h.bytes (short_is limit (length h.bytes) h.long) in
    let short : length line ≤ limit = rw all (short_is limit (length h.bytes) h.long) in
    rw e (not_empty h.bytes rest, short, all ∙ sym (line_of-append h.bytes rest h.plain), ap Some (sym (after_line-append h.bytes rest h.plain)))
