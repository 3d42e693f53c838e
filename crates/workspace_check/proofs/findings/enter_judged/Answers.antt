-- The answers to the goals of `findings::enter_judged`.
use Rattle.std.proofs.Common.{refl, subst}
use Rattle.workspace_check.specs.Steps.{AddsOptional}
use Rattle.workspace_check.proofs.Adding.{learns_by}
use Rattle.workspace_check.proofs.findings.enter_judged.Goals as goal

pub returns : goal.returns
returns c = λ w p path whole fresh judged.
    let j = c.args.judged in
    learns_by w p c.args.all.now c.add.new.all j _ fresh whole judged (subst (λ q. AddsOptional c.args.all.now c.add.new.all q j.export_data) path
    c.in_ok-add.ensures)
    path refl refl refl refl
