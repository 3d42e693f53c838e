-- The answers to the goals of `gathered::gather`.
use Rattle.std.proofs.Common.{◌≡◌, ◌<◌, length, arith}
use Rattle.base_files.specs.Packages.{package_paths}
use Rattle.types_info.proofs.MeaningLists.{slice_get_some}
use Rattle.workspace_check.proofs.Rising.{later_path}
use Rattle.workspace_check.proofs.Taking.{none_gathered}
use Rattle.workspace_check.proofs.gathered.gather.Goals as goal

pub loop-number-init : goal.loop-number-init
loop-number-init c =
    let none = c.in_ok-all.ensures.none in
    let size : length c.in_ok-all.all.findings.items ≡ length (package_paths c.args.graph.now) = omega (arith, c.in_ok-all.ensures.size) in
    record {
      right = none_gathered c.args.graph.now _ c.in_ok-all.all size none c.in_ok-all.ensures.names c.in_ok-all.ensures.export_table;
      unknown = λ n le. none n;
      before = λ m q at above. c.in_ok-all.ensures.behind q;
    }

pub take_next-requires : goal.take_next-requires
take_next-requires c =
    let k = c.loop-number.number in
    record {
      number = omega arith;
      known = c.requires;
      all = c.loop-number.invariant.right;
      unknown = c.loop-number.invariant.unknown k (omega arith);
      behind = λ p at. c.loop-number.invariant.before k p at (λ n lt. lt);
    }

pub loop-number-preserved : goal.loop-number-preserved
loop-number-preserved c =
    let w = c.args.graph.now in
    let k = c.loop-number.number in
    let lt : k < length (package_paths w) = omega arith in
    let p = slice_get_some (package_paths w) k lt in
    record {
      right = c.in_ok-take_next.ensures.right;
      unknown = λ n le g. c.loop-number.invariant.unknown n (omega arith) (c.in_ok-take_next.ensures.others n (λ e. omega arith) g);
      before = λ m q at above. c.in_ok-take_next.ensures.end p.0 p.1 q (later_path w k m p.0 q p.1 at (above k (omega arith)));
    }

pub returns : goal.returns
returns c = c.loop-number.invariant.right
