-- The answers to the goals of `string_values::interpreted_value`.
use Rattle.std.proofs.Common.{◌≡◌, ◌+◌, ◌-◌, sym, ◌∙◌, arith}
use Rattle.std.proofs.lemmas.List.{take_rest}
use Rattle.go_scanner.proofs.StringLemmas.{part_is}
use Rattle.go_scanner.proofs.StringValueLemmas.{value_opens, value_grows, value_ends}
use Rattle.go_scanner.proofs.string_values.interpreted_value.Goals as goal

pub loop-value-init : goal.loop-value-init
loop-value-init c = rw c.new-value.ensures.items (value_opens c.args.literal.now c.requires)

pub returns-then-size-eq0 : goal.returns-then-size-eq0
returns-then-size-eq0 c = value_ends c.args.literal.now _ c.loop-value.value.items c.loop-value.n c.requires c.loop-value.invariant
    (take_rest c.args.literal.now c.loop-value.n) (sym c.if-size-eq0.true ∙ c.part_len-size.ensures.value)

pub push_part-requires : goal.push_part-requires
push_part-requires c =
    let text = c.args.literal.now in
    let n = c.loop-value.n in
    let size = c.part_len-size.result in
    let rest = take_rest text n in
    let size_is = c.part_len-size.ensures.value in
    let count : n + size - n ≡ size = omega arith in
    rw (count, ← rest, size_is) (part_is _ (omega (arith, size_is)))

pub loop-value-preserved : goal.loop-value-preserved
loop-value-preserved c =
    let text = c.args.literal.now in
    let n = c.loop-value.n in
    let size = c.part_len-size.result in
    let rest = take_rest text n in
    let count : n + size - n ≡ size = omega arith in
    value_grows text _ c.loop-value.value.items _ n size c.loop-value.invariant rest c.part_len-size.ensures.value (omega arith)
    c.part_len-size.ensures.fits (rw (rest, ← count) c.in_ok-push_part.ensures)
