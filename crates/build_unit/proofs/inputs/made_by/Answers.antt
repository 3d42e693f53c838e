-- Where the path is that of the number, the unit is made here.
use Rattle.std.proofs.Common.{◌≡◌, ap, sym, subst, ◌∙◌}
use Rattle.std.specs.Prelude.{Some, slice_get}
use Rattle.std.proofs.lemmas.Option.{slice_get_within}
use Rattle.std.proofs.lemmas.Result.{IfOk-weaker}
use Rattle.base_files.specs.Packages.{package_paths}
use Rattle.workspace_check.specs.Found.{KnowsVerdicts}
use Rattle.build_unit.specs.Compiling.{IsMadeUnit, IsMadeUnitIn}
use Rattle.build_unit.proofs.inputs.made_by.Goals as goal

pub has_path-requires : goal.has_path-requires
has_path-requires c =
    let w = c.args.parts.now.whole in
    let is = c.requires.at in
    slice_get_within (package_paths w) c.args.parts.now.number is.path is.has_path

pub unit_in-requires : goal.unit_in-requires
unit_in-requires c = subst (KnowsVerdicts c.args.parts.now.whole) (sym c.get.ensures) c.requires.known

pub made_here-requires : goal.made_here-requires
made_here-requires c = record {
  here = c.has_path.ensures c.if-not-has_path.false ∙ ap Some c.path.ensures;
  at = c.requires.at;
  known = c.requires.known;
  unit = c.requires.unit;
}

pub returns : goal.returns
returns c =
    let w = c.args.parts.now.whole in
    let p = c.args.path.now in
    IfOk-weaker c.made_here.result (IsMadeUnit w p) (IsMadeUnitIn w p) (λ made is. record { unit = λ among. is.unit; verdicts = is.verdicts })
    c.made_here.ensures
