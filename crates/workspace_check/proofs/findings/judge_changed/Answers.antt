-- The answers to the goals of `findings::judge_changed`.
use Rattle.std.proofs.Common.{◌+◌, ◌<◌, take, length, get_or, refl, sym, subst, arith}
use Rattle.std.proofs.lemmas.List.{take_all}
use Rattle.std.proofs.lemmas.List.Elements.{Contains-get_or}
use Rattle.std.proofs.lemmas.Option.{slice_get-get_or}
use Rattle.base_lemmas.proofs.Elements.{nothing_in}
use Rattle.base_files.specs.Packages.{package_paths}
use Rattle.types_info.proofs.MeaningLists.{slice_get_some}
use Rattle.workspace_check.specs.Earlier.{KeepExportData}
use Rattle.workspace_check.specs.Steps.{AreAllGathered}
use Rattle.workspace_check.proofs.Adding.{below_before}
use Rattle.workspace_check.proofs.Gathering.{none_passed, gathered_next}
use Rattle.workspace_check.proofs.Keeping.{none_steady, steady_next}
use Rattle.workspace_check.proofs.Members.{taken_or_next, next_taken}
use Rattle.workspace_check.proofs.Passing.{passed_below, passed_next}
use Rattle.workspace_check.proofs.findings.judge_changed.Goals as goal

pub loop-number-init : goal.loop-number-init
loop-number-init c =
    let w = c.args.graph.now in
    let all = c.args.all.now in (
      none_passed w _ all refl c.requires.all,
      none_steady w c.args.earlier.now.verdicts.items all c.in_ok-steady.steady.marks.items c.in_ok-steady.ensures.none,
      c.in_ok-steady.ensures.stirs,
      λ n has. absurd (nothing_in n has),
    )

pub keep_or_judge-requires : goal.keep_or_judge-requires
keep_or_judge-requires c =
    let w = c.args.graph.now in
    let order = c.args.order.now in
    let k = c.loop-number.number-index in
    let lt : k < length order = omega arith in
    let n = get_or order k 0 in
    let there = slice_get-get_or order k 0 lt in
    record {
      in_range = (c.requires.order.each n).0 (Contains-get_or order k 0 lt);
      cycles = c.requires.cycles;
      all = c.loop-number.invariant.0.right;
      same = c.requires.same;
      steady = c.loop-number.invariant.1;
      below = λ p at. passed_below w c.loop-number.steady (take k order) n p at c.loop-number.invariant.2 c.loop-number.invariant.3
          (λ q on. below_before w order c.requires.order k n p q there at on);
    }

pub keeps_export_data-same-requires : goal.keeps_export_data-same-requires
keeps_export_data-same-requires c =
    let order = c.args.order.now in
    let k = c.loop-number.number-index in
    (c.requires.order.each (get_or order k 0)).0 (Contains-get_or order k 0 c.loop-number-test.true)

pub pass-requires : goal.pass-requires
pass-requires c =
    let order = c.args.order.now in
    let k = c.loop-number.number-index in
    record { number = (c.requires.order.each (get_or order k 0)).0 (Contains-get_or order k 0 c.loop-number-test.true); stirs = c.loop-number.invariant.2 }

pub loop-number-preserved : goal.loop-number-preserved
loop-number-preserved c =
    let w = c.args.graph.now in
    let order = c.args.order.now in
    let built = c.requires.order in
    let k = c.loop-number.number-index in
    let lt : k < length order = omega arith in
    let n = get_or order k 0 in
    let there = slice_get-get_or order k 0 lt in
    let q = slice_get_some (package_paths w) n ((built.each n).0 (Contains-get_or order k 0 lt)) in
    let old = c.loop-number.all in
    let new = c.keep_or_judge.new.all in
    let may = c.in_ok-keep_or_judge.ensures q.0 q.1 in
    let all = gathered_next w q.0 (take k order) (take (k + 1) order) n q.1 (λ m h. taken_or_next order k 0 m lt h)
    (λ r on. below_before w order built k n q.0 r there q.1 on) old new c.loop-number.invariant.0 may in
    let marks = c.loop-number.steady.marks.items in
    let within : n < length marks =
    subst (λ l. n < l) (sym c.loop-number.invariant.2.size) ((built.each n).0 (Contains-get_or order k 0 lt)) in
    let verdicts = c.args.earlier.now.verdicts.items in (
      all,
      subst (KeepExportData w verdicts new) (sym c.in_ok-pass.ensures.marks)
          (steady_next w verdicts n q.0 q.1 old new marks within may c.loop-number.invariant.1 c.keeps_export_data-same.result
          (λ t. c.keeps_export_data-same.ensures t q.0 q.1) (all.each n (next_taken order k 0 lt))),
      c.in_ok-pass.ensures.stirs,
      passed_next w (take k order) (take (k + 1) order) n c.loop-number.steady c.pass.new.self (λ m h. taken_or_next order k 0 m lt h)
          c.in_ok-pass.ensures.passes c.loop-number.invariant.3,
    )

pub returns : goal.returns
returns c =
    let order = c.args.order.now in
    subst (λ l. AreAllGathered c.args.graph.now l c.loop-number.all) (take_all c.loop-number.number-index order (omega arith)) c.loop-number.invariant.0
