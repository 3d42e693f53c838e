-- One verdict more is taken in.
use Rattle.std.proofs.Common.{◌<◌, length, sym, subst, arith}
use Rattle.std.specs.Prelude.{Contains}
use Rattle.std.proofs.lemmas.List.Elements.{Contains-get_or}
use Rattle.build_carry.proofs.learning.take_in_each.Goals as goal

pub loop-verdict-init : goal.loop-verdict-init
loop-verdict-init c = record { room = c.requires.room; known = c.requires.known }

pub take_in-requires : goal.take_in-requires
take_in-requires c =
    let found = c.args.found.now in
    let k = c.loop-verdict.verdict-index in
    let one = c.verdict-item.result in
    let below : k < length found = omega arith in
    let among : Contains found one = subst (Contains found) (sym c.verdict-item.is) (Contains-get_or found k one below) in
    record { verdict = (c.requires.found one among).1; room = c.loop-verdict.invariant.room; known = c.loop-verdict.invariant.known }

pub loop-verdict-preserved : goal.loop-verdict-preserved
loop-verdict-preserved c = record { room = c.in_ok-take_in.ensures.room; known = c.in_ok-take_in.ensures.known }
