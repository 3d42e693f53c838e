-- The answers to the goals of `checking::check_package`.
use Rattle.std.proofs.lemmas.Result.{IfOk-weaker}
use Rattle.types_declared.specs.Stage.{FirstOf}
use Rattle.types_resolve.specs.Stages.{IsInnerFault}
use Rattle.types_declared.specs.Package.{laid_of}
use Rattle.types_members.specs.MemberFaults.{IsMemberFault}
use Rattle.types_check.specs.TypeFaults.{IsTypeFault}
use Rattle.types_check.specs.Check.{exports_in, IsFindingBy, IsLaterFault}
use Rattle.types_declared.specs.PackageView.{package_of}
use Rattle.types_check.proofs.Staging.{ends_with, goes_on, none_kept}
use Rattle.types_check.proofs.checking.check_package.Goals as goal

pub returns-then-not-is_empty : goal.returns-then-not-is_empty
returns-then-not-is_empty c =
    let p = package_of c.args.pkg in
    record {
      checked = ends_with (IsInnerFault p.files (exports_in p) (laid_of p)) (FirstOf (IsMemberFault p) (IsTypeFault p)) p c.faulty.result.checked
          c.in_ok-faults.faults c.is_empty.result c.faulty.ensures.faults c.faulty.ensures.export_data
          c.is_empty.ensures c.if-not-is_empty.true c.in_ok-faults.ensures.listed c.in_ok-faults.ensures.order;
      bounds = none_kept p c.faulty.result c.faulty.ensures.bounds;
    }

pub returns : goal.returns
returns c =
    let p = package_of c.args.pkg in
    let later = FirstOf (IsMemberFault p) (IsTypeFault p) in
    record {
      checked = IfOk-weaker c.check_members.result (λ x. IsFindingBy later p x.checked) (λ x. IsFindingBy (IsLaterFault p) p x.checked)
          (λ x h. goes_on (IsInnerFault p.files (exports_in p) (laid_of p)) later p c.in_ok-faults.faults c.is_empty.result c.is_empty.ensures
          c.if-not-is_empty.false c.in_ok-faults.ensures.listed x.checked h)
          c.check_members.ensures.checked;
      bounds = c.check_members.ensures.bounds;
    }
