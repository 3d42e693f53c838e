-- The answers to the goals of `findings::judge_all`.
use Rattle.std.proofs.Common.{◌+◌, ◌<◌, take, length, get_or, refl, subst, arith}
use Rattle.std.proofs.lemmas.List.{take_all}
use Rattle.std.proofs.lemmas.List.Elements.{Contains-get_or}
use Rattle.std.proofs.lemmas.Option.{slice_get-get_or}
use Rattle.base_files.specs.Packages.{package_paths}
use Rattle.types_info.proofs.MeaningLists.{slice_get_some}
use Rattle.workspace_check.specs.Steps.{AreAllGathered}
use Rattle.workspace_check.proofs.Adding.{below_before}
use Rattle.workspace_check.proofs.Gathering.{none_passed, gathered_next}
use Rattle.workspace_check.proofs.Members.{taken_or_next}
use Rattle.workspace_check.proofs.findings.judge_all.Goals as goal

pub loop-number-init : goal.loop-number-init
loop-number-init c = none_passed c.args.graph.now _ c.args.all.now refl c.requires.all

pub judge_next-requires : goal.judge_next-requires
judge_next-requires c =
    let order = c.args.order.now in
    let k = c.loop-number.number-index in
    let lt : k < length order = omega arith in
    record {
      in_range = (c.requires.order.each (get_or order k 0)).0 (Contains-get_or order k 0 lt);
      cycles = c.requires.cycles;
      all = c.loop-number.invariant.right;
    }

pub loop-number-preserved : goal.loop-number-preserved
loop-number-preserved c =
    let w = c.args.graph.now in
    let order = c.args.order.now in
    let built = c.requires.order in
    let k = c.loop-number.number-index in
    let lt : k < length order = omega arith in
    let n = get_or order k 0 in
    let there = slice_get-get_or order k 0 lt in
    let q = slice_get_some (package_paths w) n ((built.each n).0 (Contains-get_or order k 0 lt)) in
    gathered_next w q.0 (take k order) (take (k + 1) order) n q.1 (λ m h. taken_or_next order k 0 m lt h)
    (λ r on. below_before w order built k n q.0 r there q.1 on)
    c.loop-number.all c.judge_next.new.all c.loop-number.invariant (c.in_ok-judge_next.ensures q.0 q.1)

pub returns : goal.returns
returns c =
    let order = c.args.order.now in
    subst (λ l. AreAllGathered c.args.graph.now l c.loop-number.all) (take_all c.loop-number.number-index order (omega arith)) c.loop-number.invariant
