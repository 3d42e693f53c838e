-- The answers to the goals of `cycles::own_numbers`.
use Rattle.std.proofs.Common.{◌≡◌, ◌+◌, inl, inr, [], ◌∷◌, length, get_or, length-append, sym, ap, ◌∙◌, arith}
use Rattle.std.proofs.lemmas.Bool.{cases_lt}
use Rattle.std.proofs.lemmas.List.{get_or_push, get_or_append_left}
use Rattle.workspace_check.proofs.cycles.own_numbers.Goals as goal

pub loop-number-init : goal.loop-number-init
loop-number-init c = record { size = ap length c.in_ok-numbers.ensures.items; own = λ i lt. absurd (omega (arith, lt)) }

pub loop-number-preserved : goal.loop-number-preserved
loop-number-preserved c =
    let old = c.loop-number.numbers.items in
    let n = c.loop-number.number in
    let inv = c.loop-number.invariant in
    let pushed = c.in_ok-push.ensures.items in
    record {
      size = ap length pushed ∙ length-append old (n ∷ []) ∙ ap (λ k. k + 1) inv.size;
      own = λ i lt. ap (λ l. get_or l i 0) pushed ∙ elim (cases_lt i n) [
        | inl before ↦ get_or_append_left old (n ∷ []) 0 i (omega (arith, inv.size, before)) ∙ inv.own i before
        | inr after ↦ (
            let is : i ≡ n = omega (arith, lt, after) in
            get_or_push old n 0 i (inv.size ∙ sym is) ∙ sym is)
      ];
    }

pub returns : goal.returns
returns c =
    let inv = c.loop-number.invariant in
    let all : c.loop-number.number ≡ c.args.count = omega (arith, c.loop-number-test.false, c.loop-number.auto.number-end) in
    record { size = inv.size ∙ all; own = λ i lt. inv.own i (omega (arith, lt, all)) }
