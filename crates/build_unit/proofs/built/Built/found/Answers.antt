-- The answers to the goals of `built::Built::found`.
use Rattle.std.proofs.Common.{sym, subst}
use Rattle.workspace_check.specs.Found.{AreVerdictsOf}
use Rattle.build_unit.specs.BuiltUnits.{BuiltUnit}
use Rattle.build_unit.proofs.built.Built.found.Goals as goal

pub returns : goal.returns
returns c =
    subst (AreVerdictsOf c.args.self.now.inputs) (sym c.deref.ensures.value)
    (subst (λ (b : BuiltUnit). AreVerdictsOf b.inputs c.self.inside.found.items) c.self.view_is c.self.invariant.1)
