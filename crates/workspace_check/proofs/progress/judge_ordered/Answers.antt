-- The answers to the goals of `progress::judge_ordered`.
use Rattle.std.proofs.Common.{◌+◌, ◌<◌, take, length, get_or, subst, arith}
use Rattle.std.proofs.lemmas.List.{take_all}
use Rattle.std.proofs.lemmas.List.Elements.{Contains-get_or}
use Rattle.std.proofs.lemmas.Option.{slice_get-get_or}
use Rattle.base_lemmas.proofs.Elements.{nothing_in}
use Rattle.base_files.specs.Packages.{package_paths}
use Rattle.types_info.proofs.MeaningLists.{slice_get_some}
use Rattle.workspace_check.proofs.Adding.{below_before}
use Rattle.workspace_check.proofs.Members.{taken_or_next}
use Rattle.workspace_check.proofs.Underway.{AreJudgedTo, all_judged, judged_next}
use Rattle.workspace_check.proofs.progress.judge_ordered.Goals as goal

pub loop-next-init : goal.loop-next-init
loop-next-init c = record { gathered = c.requires.all; each = λ m none. absurd (nothing_in m none) }

pub judge_among-requires : goal.judge_among-requires
judge_among-requires c =
    let order = c.args.order.now in
    let k = c.loop-next.next-index in
    let lt : k < length order = omega arith in
    record {
      in_range = (c.requires.order.each (get_or order k 0)).0 (Contains-get_or order k 0 lt);
      below = c.requires.below;
      cycles = c.requires.cycles;
      all = c.loop-next.invariant.gathered.right;
    }

pub loop-next-preserved : goal.loop-next-preserved
loop-next-preserved c =
    let w = c.args.graph.now in
    let order = c.args.order.now in
    let built = c.requires.order in
    let k = c.loop-next.next-index in
    let lt : k < length order = omega arith in
    let n = get_or order k 0 in
    let there = slice_get-get_or order k 0 lt in
    let q = slice_get_some (package_paths w) n ((built.each n).0 (Contains-get_or order k 0 lt)) in
    judged_next w q.0 (take k order) (take (k + 1) order) n q.1 (λ m h. taken_or_next order k 0 m lt h) c.args.below.now c.requires.below
    (λ r on. below_before w order built k n q.0 r there q.1 on)
    c.loop-next.all c.judge_among.new.all c.loop-next.invariant (c.in_ok-judge_among.ensures q.0 q.1)

pub returns : goal.returns
returns c =
    let w = c.args.graph.now in
    let order = c.args.order.now in
    let below = c.args.below.now in
    all_judged w below order c.requires.below c.requires.order c.loop-next.all
    (subst (λ l. AreJudgedTo w below l c.loop-next.all) (take_all c.loop-next.next-index order (omega arith)) c.loop-next.invariant)
