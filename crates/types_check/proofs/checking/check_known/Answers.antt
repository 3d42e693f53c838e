-- The answers to the goals of `checking::check_known`.
use Rattle.std.proofs.lemmas.Result.{IfOk-weaker}
use Rattle.types_declared.specs.Stage.{FirstOf}
use Rattle.types_members.specs.MemberFaults.{IsMemberFault}
use Rattle.types_check.specs.TypeFaults.{IsTypeFault}
use Rattle.types_check.specs.Check.{IsFindingBy}
use Rattle.types_declared.specs.PackageView.{package_of}
use Rattle.types_check.proofs.Staging.{ends_with, goes_on, none_kept}
use Rattle.types_check.proofs.checking.check_known.Goals as goal

pub returns-then-not-is_empty : goal.returns-then-not-is_empty
returns-then-not-is_empty c =
    let p = package_of c.args.pkg in
    record {
      checked = ends_with (IsMemberFault p) (IsTypeFault p) p c.faulty.result.checked c.in_ok-faults.faults c.is_empty.result c.faulty.ensures.faults
          c.faulty.ensures.export_data c.is_empty.ensures c.if-not-is_empty.true c.in_ok-faults.ensures.listed c.in_ok-faults.ensures.order;
      bounds = none_kept p c.faulty.result c.faulty.ensures.bounds;
    }

pub returns : goal.returns
returns c =
    let p = package_of c.args.pkg in
    record {
      checked = IfOk-weaker c.check_definitions.result (λ x. IsFindingBy (IsTypeFault p) p x.checked)
          (λ x. IsFindingBy (FirstOf (IsMemberFault p) (IsTypeFault p)) p x.checked)
          (λ x h. goes_on (IsMemberFault p) (IsTypeFault p) p c.in_ok-faults.faults c.is_empty.result c.is_empty.ensures c.if-not-is_empty.false
          c.in_ok-faults.ensures.listed x.checked h) c.check_definitions.ensures.checked;
      bounds = c.check_definitions.ensures.bounds;
    }
