-- The answers to the goals of `built::build`.
use Rattle.std.proofs.Common.{◌≡◌, ℕ, List, subst, ◌∙◌}
use Rattle.base_files.specs.Workspace.{Workspace}
use Rattle.build_unit.specs.Units.{IsUnitIn}
use Rattle.build_unit.proofs.built.build.Goals as goal

pub returns : goal.returns
returns c =
    let job = c.args.job.now in
    let path : c.in_ok-package.package ≡ job.package = c.in_ok-package.ensures.cases ∙ c.package.ensures in
    let inputs : c.in_ok-inputs.inputs ≡ job.inputs = c.in_ok-inputs.ensures.cases ∙ c.inputs.ensures in
    let unit = c.in_ok-unit.field-0.unit in
    record {
      number = c.number.ensures;
      of_package = path;
      inputs = inputs;
      unit = subst (λ (p : List ℕ). IsUnitIn job.inputs p unit) path
          (subst (λ (w : Workspace). IsUnitIn w c.in_ok-package.package unit) inputs c.in_ok-unit.ensures.unit);
    }
