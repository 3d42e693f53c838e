-- The names are given in their order.
use Rattle.std.proofs.Common.{◌+◌, ◌≤◌, length, drop, sym, ap, ◌∙◌, arith}
use Rattle.build_names.specs.Words.{NameChange, text_with_name}
use Rattle.build_kept.specs.KnownUnits.{text_with_names}
use Rattle.build_kept.proofs.KnownBefore.{names_end, names_step}
use Rattle.build_kept.proofs.ready.text_with_names.Goals as goal

pub loop-given-preserved : goal.loop-given-preserved
loop-given-preserved c =
    let names = c.args.names.now in
    let n = c.loop-given.given-index in
    let one = c.given-item.result in
    ap (text_with_names (drop (n + 1) names)) (c.in_ok-renamed-2.ensures ∙ ap (text_with_name one) c.deref.ensures.value)
    ∙ ap (λ (d : NameChange). text_with_names (drop (n + 1) names) (text_with_name d c.loop-given.renamed.items)) c.given-item.is
    ∙ sym (names_step names n one c.loop-given.renamed.items c.loop-given-test.true)
    ∙ c.loop-given.invariant

pub returns : goal.returns
returns c =
    let past : length c.args.names.now ≤ c.loop-given.given-index = omega (arith, c.loop-given-test.false) in
    sym (names_end c.args.names.now c.loop-given.given-index c.loop-given.renamed.items past) ∙ c.loop-given.invariant
