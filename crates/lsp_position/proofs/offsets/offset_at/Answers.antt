-- The answers to the goals of `offsets::offset_at`.
use Rattle.std.proofs.Common.{◌≡◌, length, subst, arith}
use Rattle.lsp_position.specs.Offsets.{IsAtOrBefore}
use Rattle.lsp_position.specs.Positions.{editor_position}
use Rattle.lsp_position.proofs.Searching.{at_or_before, end_is_last, found_is_last, found_more}
use Rattle.lsp_position.proofs.offsets.offset_at.Goals as goal

pub returns-then-is_behind : goal.returns-then-is_behind
returns-then-is_behind c =
    let behind = c.is_behind.ensures.0 c.if-is_behind.true in
    found_is_last c.args.encoding c.args.text.now c.args.asked c.loop-number.number c.loop-number.found (omega arith) c.loop-number.invariant.found
    (subst (λ p. IsAtOrBefore p c.args.asked → ⊥) c.loop-number.invariant.at behind)

pub loop-number-preserved : goal.loop-number-preserved
loop-number-preserved c =
    let at = at_or_before c.loop-number.at c.args.asked c.is_behind.result c.is_behind.ensures c.if-is_behind.false in
    record {
      at = c.advanced-at.ensures;
      found =
          found_more c.args.encoding c.args.text.now c.args.asked c.loop-number.number c.loop-number.found c.last_place-found.result
          c.loop-number.invariant.found (subst (λ p. IsAtOrBefore p c.args.asked) c.loop-number.invariant.at at) c.last_place-found.ensures;
    }

pub returns-then-is_behind-2 : goal.returns-then-is_behind-2
returns-then-is_behind-2 c =
    let behind = c.is_behind-2.ensures.0 c.if-is_behind-2.true in
    found_is_last c.args.encoding c.args.text.now c.args.asked c.loop-number.number c.loop-number.found (omega arith) c.loop-number.invariant.found
    (subst (λ p. IsAtOrBefore p c.args.asked → ⊥) c.loop-number.invariant.at behind)

pub returns-else-is_behind-2 : goal.returns-else-is_behind-2
returns-else-is_behind-2 c =
    let at = at_or_before c.loop-number.at c.args.asked c.is_behind-2.result c.is_behind-2.ensures c.if-is_behind-2.false in
    let whole : c.loop-number.number ≡ length c.args.text.now = omega arith in
    let here = subst (λ p. IsAtOrBefore p c.args.asked) c.loop-number.invariant.at at in
    end_is_last c.args.encoding c.args.text.now c.args.asked
    (subst (λ n. IsAtOrBefore (editor_position c.args.encoding c.args.text.now n) c.args.asked) whole here)
