-- The answers to the goals of `underlying::underlying_types`.
use Rattle.std.proofs.Common.{subst, sym}
use Rattle.types_members.specs.Steps.{AreSteps}
use Rattle.types_declared.specs.PackageView.{package_of}
use Rattle.types_members.proofs.Steps.{step_within}
use Rattle.types_members.proofs.underlying.underlying_types.Goals as goal

pub step_order-requires : goal.step_order-requires
step_order-requires c =
    step_within (package_of c.args.pkg) c.deref.result.now (subst (AreSteps (package_of c.args.pkg)) (sym c.deref.ensures.value) c.in_ok-steps.ensures)
