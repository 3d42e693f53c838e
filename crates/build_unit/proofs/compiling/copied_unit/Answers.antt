-- The answers to the goals of `compiling::copied_unit`.
use Rattle.std.proofs.Common.{sym, subst, ◌∙◌}
use Rattle.std.proofs.lemmas.Result.{IfOk-weaker}
use Rattle.build_unit.specs.Compiling.{HoldsFaults}
use Rattle.build_unit.proofs.compiling.copied_unit.Goals as goal

pub faulty_unit-requires : goal.faulty_unit-requires
faulty_unit-requires c = λ e. c.requires (sym c.in_ok-faults.ensures ∙ e)

pub returns : goal.returns
returns c =
    IfOk-weaker c.faulty_unit.result (HoldsFaults c.in_ok-faults.faults.items) (HoldsFaults c.args.faults.now)
    (λ unit holds. subst (λ list. HoldsFaults list unit) c.in_ok-faults.ensures holds) c.faulty_unit.ensures
