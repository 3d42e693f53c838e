-- Where a text stops being UTF-8 with no zero byte.
use Rattle.std.proofs.Common.{◌≡◌, ℕ, ◌<◌, ◌≤◌, List, Some, None, sym, ◌∙◌, subst, take, length, get_or, arith, length-take-le, get_or-take, eq-eqb}
use borrow.Author.Tests.{eqb-true}
use Rattle.std.specs.Str.{IsUtf8, IsValidUpTo}
use Rattle.std.proofs.lemmas.List.{take-take, take_all}
use Rattle.std.proofs.lemmas.Str.{IsUtf8-take, IsCharBoundary-before_ascii}
use Rattle.bstr.specs.Find.{IsFirstByte, is_byte}
use Rattle.go_scanner.specs.Cuts.{IsValidLen, IsWellEncoded, IsIllEncodedAt}

pub zero_first : (text : List ℕ) (valid zero_at : ℕ) → IsValidLen text valid → IsFirstByte (is_byte 0) (take valid text) (Some zero_at) →
    IsIllEncodedAt text zero_at
zero_first text valid n long found =
    let len = length-take-le valid text long.fits in
    let below : n < valid = omega (arith, found.0.high, len) in
    let here : get_or text n 0 ≡ 0 = sym (get_or-take valid text n 0 below) ∙ eqb-true (get_or (take valid text) n 0) 0 found.1 in
    record {
      short = omega (arith, below, long.fits);
      front = (
        subst IsUtf8 (take-take n valid text (omega arith))
            (IsUtf8-take (take valid text) n long.front
            (IsCharBoundary-before_ascii (take valid text) n (omega (arith, found.0.high)) (omega (arith, eqb-true (get_or (take valid text) n 0) 0 found.1)))),
        λ k lt is_zero.
            let k_below : k < n = omega (arith, lt, length-take-le n text (omega (arith, below, long.fits))) in
            found.0.before k (omega arith) k_below (eq-eqb (get_or (take valid text) k 0) 0
            (get_or-take valid text k 0 (omega arith) ∙ sym (get_or-take n text k 0 k_below) ∙ is_zero)),
      );
      longest = λ m more fits well. well.1 n (omega (arith, length-take-le m text fits)) (get_or-take m text n 0 more ∙ here);
    }

pub valid_ends : (text : List ℕ) (valid : ℕ) → IsValidLen text valid → valid < length text → IsFirstByte (is_byte 0) (take valid text) None →
    IsIllEncodedAt text valid
valid_ends text valid long short none = record {
  short = short;
  front = (long.front, λ k lt is_zero. none k (omega arith) lt (eq-eqb (get_or (take valid text) k 0) 0 is_zero));
  longest = λ m more fits well. long.longest m more fits well.0;
}

pub all_valid : (text : List ℕ) (valid : ℕ) → IsValidLen text valid → length text ≤ valid → IsFirstByte (is_byte 0) (take valid text) None → IsWellEncoded text
all_valid text valid long all none = subst IsWellEncoded (take_all valid text all)
    (long.front, λ k lt is_zero. none k (omega arith) lt (eq-eqb (get_or (take valid text) k 0) 0 is_zero))

pub valid_from : (text : List ℕ) (n : ℕ) → IsValidUpTo text n → IsValidLen text n
valid_from text n h = record { fits = omega (arith, h.short); front = h.front; longest = λ m more fits utf8. h.longest m more utf8 }
