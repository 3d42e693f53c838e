-- What is made in the whole is right of the inputs.
use Rattle.std.proofs.Common.{◌≡◌, sym, ap, subst, ◌∙◌}
use Rattle.workspace_check.specs.Found.{AreVerdictsOf, KnowsVerdicts}
use Rattle.build_unit.specs.Inputs.{HasClosuresOf, IsClosureAt, part_of}
use Rattle.build_unit.specs.Units.{IsUnitAt}
use Rattle.build_unit.specs.declared.inputs.InputParts.{InputParts}
use Rattle.build_unit.proofs.ClosurePart.{closures_at}
use Rattle.build_unit.proofs.InputVerdicts.{unit_here}
use Rattle.build_unit.proofs.inputs.PackageInputs.made.Goals as goal

pub made_by-requires : goal.made_by-requires
made_by-requires c =
    let all = subst (λ (q : InputParts). IsClosureAt q.whole q.number q.closure × KnowsVerdicts q.whole q.known × IsUnitAt q.whole q.number q.unit)
    (sym c.deref-parts.ensures) c.self.invariant in
    record { at = all.0; known = all.1; unit = all.2 }

pub returns : goal.returns
returns c =
    let parts = c.deref-parts.result.now in
    let w = parts.whole in
    let x = c.args.self.now in
    let is = subst (λ (q : InputParts). IsClosureAt q.whole q.number q.closure) (sym c.deref-parts.ensures) c.self.invariant.0 in
    let view : part_of w parts.closure ≡ x = ap (λ (q : InputParts). part_of q.whole q.closure) c.deref-parts.ensures ∙ c.self.view_is in
    let closures = subst (HasClosuresOf w) view (closures_at w parts.number parts.closure is) in
    let made = c.in_ok-unit.ensures in
    record {
      unit = unit_here w x closures c.args.path.now c.in_ok-unit.field-0.unit made.unit;
      verdicts = c.in_ok-own.ensures w closures (subst (AreVerdictsOf w) (sym c.deref.ensures.value) made.verdicts);
    }
