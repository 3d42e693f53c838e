-- The answers to the goals of `turning::those_turning`.
use Rattle.std.proofs.Common.{◌≡◌, ◌∙◌, ap, arith, take}
use Rattle.std.specs.Prelude.{filter}
use Rattle.std.proofs.lemmas.List.{take_all}
use Rattle.refactor_coupled.specs.RenamedTypesView.{definitions_in, rename_of}
use Rattle.refactor_coupled.specs.Turning.{can_turn}
use Rattle.refactor_coupled.proofs.Following.{filtered_next}
use Rattle.refactor_coupled.proofs.turning.those_turning.Goals as goal

pub loop-symbol-preserved : goal.loop-symbol-preserved
loop-symbol-preserved c =
    let t = c.args.types.now in
    filtered_next (can_turn (definitions_in t.types.now) (rename_of t.rename) c.args.moved) c.args.called.now c.loop-symbol.symbol-index
    c.symbol-item.result c.loop-symbol-test.true c.symbol-item.is c.loop-symbol.found.items c.add_if_turning.new.found.items c.loop-symbol.invariant
    c.in_ok-add_if_turning.ensures

pub returns : goal.returns
returns c =
    let t = c.args.types.now in
    let all : take c.loop-symbol.symbol-index c.args.called.now ≡ c.args.called.now =
    take_all c.loop-symbol.symbol-index c.args.called.now (omega (arith, c.loop-symbol-test.false)) in
    c.loop-symbol.invariant ∙ ap (filter (can_turn (definitions_in t.types.now) (rename_of t.rename) c.args.moved)) all
