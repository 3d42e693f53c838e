-- The answers to the goals of `first::first_turned`.
use Rattle.std.proofs.Common.{arith}
use Rattle.std.specs.Prelude.{None}
use Rattle.refactor_members.specs.Renames.{by}
use Rattle.refactor_members.proofs.AllPackages.{NumberStays, Told, next_package, all_packages}
use Rattle.refactor_members.proofs.Judged.{judged_begin}
use Rattle.refactor_members.proofs.first.first_turned.Goals as goal

pub loop-number-init : goal.loop-number-init
loop-number-init c = λ edits.
    let m = by c.args.m.now edits in
    judged_begin m (Told m c.has_no_faults.ensures) (NumberStays m) None

pub loop-number-preserved : goal.loop-number-preserved
loop-number-preserved c = λ edits.
    next_package (by c.args.m.now edits) c.has_no_faults.ensures c.loop-number.number (omega arith) c.loop-number.first c.judge_package.new.first
    (c.loop-number.invariant edits) (c.in_ok-judge_package.ensures edits)

pub returns : goal.returns
returns c = λ edits.
    all_packages (by c.args.m.now edits) c.has_no_faults.ensures c.loop-number.number (omega arith) c.loop-number.first (c.loop-number.invariant edits)
