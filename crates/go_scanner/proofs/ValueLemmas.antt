-- The value of digits, from the left.
use Rattle.std.proofs.Common.{◌≡◌, ℕ, ◌+◌, ◌*◌, ◌<◌, ◌≤◌, List, [], ◌∷◌, eqb, refl, ap, ◌≢◌, drop, length, get_or, arith, fold}
use borrow.Author.Tests.{eqb-true}
use Rattle.std.proofs.lemmas.List.{drop_more}
use Rattle.std.specs.Char.{digit_value}
use Rattle.go_scanner.specs.Integers.{number_in, next_value}
use Rattle.go_scanner.proofs.IntegerLemmas.{by_test}

-- digits after a number
abbrev pub number_from : ℕ → ℕ → List ℕ → ℕ
number_from base n bytes = fold (next_value base) n bytes

step_grows : (base n b : ℕ) → 2 ≤ base → n ≤ next_value base n b
step_grows base n b low = by_test (eqb b 95) (λ is. rw is (omega arith)) (λ not. rw not (grind arith))

-- a number only grows
pub number_grows : (base n : ℕ) (bytes : List ℕ) → 2 ≤ base → n ≤ number_from base n bytes
number_grows base n [] low = omega arith
number_grows base n (b ∷ bytes) low = omega (arith, step_grows base n b low, number_grows base (next_value base n b) bytes low)

-- a digit that makes the number too great: the whole is no less
pub exceeds : (base n i d limit : ℕ) (bytes : List ℕ) → 2 ≤ base → i < length bytes → get_or bytes i 0 ≢ 95 → d ≡ digit_value (get_or bytes i 0) →
    limit ≤ n * base + d
    → number_from base n (drop i bytes) ≡ number_from base 0 bytes → limit ≤ number_in base bytes
exceeds base n i d limit bytes low fits digit d_is large same =
    let b = get_or bytes i 0 in
    let rest = ap (λ l. number_from base n l) (drop_more bytes i 0 fits) in
    let next : next_value base n b ≡ n * base + d = by_test (eqb b 95) (λ is. absurd (digit (eqb-true b 95 is))) (λ not. rw (not, d_is) refl) in
    let grows = number_grows base (next_value base n b) (drop (i + 1) bytes) low in
    omega (arith, rest, next, grows, large, same)
