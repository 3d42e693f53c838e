-- The answers to the goals of `requests::number`.
use Rattle.std.proofs.Common.{◌≡◌, arith}
use Rattle.std.specs.Str.Parse.{ExplainsUnsignedError, HasUnsignedDigitsIfOk, ParsesUnsigned}
use Rattle.clap.specs.Words.{found_of}
use Rattle.clap.proofs.WalkLemmas.{one_text-rows}
use Rattle.server_words.proofs.Numbers.{no_number, number_read, number_same}
use Rattle.server_words.proofs.requests.number.Goals as goal
use Rattle.server_words.proofs.requests.number.Goals.{else-number-ge1-via-then-number-ge1+else-number-most, else-number-ge1-via-else-number-ge1}

pub returns-in_err-number : goal.returns-in_err-number
returns-in_err-number c = rw c.from_residual.ensures
    (no_number (λ bs r. ParsesUnsigned 32 10 bs r × ExplainsUnsignedError 10 bs r × HasUnsignedDigitsIfOk bs r) (λ u x h. h.0) c.args.option.now _ c.args.most _
    (one_text-rows (found_of c.args.matches.now) c.args.option.now) (omega arith) c.in_err-number.ensures.value)

pub returns-then-number-most : goal.returns-then-number-most
returns-then-number-most c =
    number_read (λ bs r. ParsesUnsigned 32 10 bs r × ExplainsUnsignedError 10 bs r × HasUnsignedDigitsIfOk bs r) (λ u x h. h.0) c.args.option.now _
    c.args.most _
    (one_text-rows (found_of c.args.matches.now) c.args.option.now) c.in_ok-number.number c.in_ok-number.ensures.none c.in_ok-number.ensures.value
    c.if-number-ge1.true c.if-number-most.true

pub returns-else-number-ge1 : goal.returns-else-number-ge1
returns-else-number-ge1 c = λ n h.
    let same : n ≡ c.in_ok-number.number = number_same (λ bs r. ParsesUnsigned 32 10 bs r × ExplainsUnsignedError 10 bs r × HasUnsignedDigitsIfOk bs r)
    (λ u x h. h.0)
    c.args.option.now _ c.args.most _ (one_text-rows (found_of c.args.matches.now) c.args.option.now) c.in_ok-number.number n c.in_ok-number.ensures.value h in
    let low = h.4 in
    let high = h.5 in
    elim c.else-number-ge1.branch [
      | else-number-ge1-via-then-number-ge1+else-number-most w ↦ absurd (omega arith)
      | else-number-ge1-via-else-number-ge1 w ↦ absurd (omega arith)
    ]
