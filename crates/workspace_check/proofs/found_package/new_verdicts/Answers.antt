-- The answers to the goals of `found_package::new_verdicts`.
use Rattle.std.proofs.Common.{get_or, subst, arith}
use Rattle.std.specs.Prelude.{Contains}
use Rattle.std.proofs.lemmas.List.Elements.{Contains-get_or}
use Rattle.base_lemmas.proofs.Elements.{nothing_in}
use Rattle.workspace_check.proofs.Underway.{verdicts_next}
use Rattle.workspace_check.proofs.found_package.new_verdicts.Goals as goal

pub loop-number-init : goal.loop-number-init
loop-number-init c = λ one has. absurd (nothing_in one (subst (λ l. Contains l one) c.new-found.ensures.items has))

pub new_verdict-requires : goal.new_verdict-requires
new_verdict-requires c =
    let items = c.args.numbers.now in
    let k = c.loop-number.number-index in
    record { number = c.requires.numbers (get_or items k 0) (Contains-get_or items k 0 (omega arith)); now = c.requires.now }

pub loop-number-preserved : goal.loop-number-preserved
loop-number-preserved c =
    let items = c.args.numbers.now in
    let k = c.loop-number.number-index in
    let n = get_or items k 0 in
    verdicts_next c.args.graph.now n c.loop-number.found.items c.push_some.new.verdicts.items c.in_ok-verdict.verdict
    (c.requires.numbers n (Contains-get_or items k 0 (omega arith))) c.in_ok-push_some.ensures c.in_ok-verdict.ensures c.loop-number.invariant
