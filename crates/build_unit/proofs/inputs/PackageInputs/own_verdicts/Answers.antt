-- One verdict more, if it is on a package of the inputs.
use Rattle.std.proofs.Common.{sym, subst, ◌∙◌, arith}
use Rattle.std.specs.Prelude.{Contains}
use Rattle.base_files.specs.Packages.{package_paths}
use Rattle.build_unit.proofs.InputVerdicts.{none_own, more_own}
use Rattle.build_unit.proofs.inputs.PackageInputs.own_verdicts.Goals as goal
use Rattle.build_unit.proofs.inputs.PackageInputs.own_verdicts.Goals.{then-has+in_ok-clone+in_ok-push, else-has}

pub loop-verdict-init : goal.loop-verdict-init
loop-verdict-init c = λ w closures right. none_own c.args.self.now c.new-own.result.items c.new-own.ensures.items

pub loop-verdict-preserved : goal.loop-verdict-preserved
loop-verdict-preserved c = λ w closures right.
    let x = c.args.self.now in
    let one = c.verdict-item.result in
    let before = c.loop-verdict.invariant w closures right in
    let told = right one (c.loop-verdict.verdict-index, omega arith, sym c.verdict-item.is) in
    elim c.if-has.branch [
      | then-has+in_ok-clone+in_ok-push d ↦ (
          let here = subst (Contains (package_paths x)) (c.path-in-loop-verdict.ensures ∙ c.path.ensures) (c.has.ensures d.if-has.true) in
          rw (d.own-is, d.in_ok-push.ensures.items, d.in_ok-clone.ensures.cases)
          (more_own w x closures c.loop-verdict.own.items one told.1 here before))
      | else-has d ↦ rw d.own-is before
    ]
