-- The unit of the number is that of the package of its path.
use Rattle.std.proofs.Common.{◌≡◌, List, sym, ap, subst, ◌∙◌}
use Rattle.std.specs.Prelude.{Some, slice_get}
use Rattle.std.proofs.lemmas.Result.{IfOk-weaker}
use Rattle.base_files.specs.Packages.{package_paths}
use Rattle.base_files.specs.Workspace.{Workspace}
use Rattle.build_names.specs.Words.{NameChange}
use Rattle.build_unit.specs.Units.{IsUnitAt}
use Rattle.build_kept.specs.KnownUnits.{AreKnownUnits}
use Rattle.build_kept.proofs.known_units.KnownUnits.unit.Goals as goal

pub returns : goal.returns
returns c =
    let w : Workspace = c.self.inside.files in
    let are : AreKnownUnits w c.deref.result.now c.self.inside.units =
    subst (λ (l : List NameChange). AreKnownUnits w l c.self.inside.units) (sym c.deref.ensures.value) c.self.invariant in
    let at : slice_get (package_paths w) c.args.number ≡ Some c.as_slice-path.result.now = c.package.ensures.path ∙ ap Some (sym
    c.as_slice-path.ensures.value) in
    IfOk-weaker c.known_unit_at.result _ (IsUnitAt c.args.self.now c.args.number)
    (λ found told. subst (λ (v : Workspace). IsUnitAt v c.args.number found) c.self.view_is (told w are at)) c.known_unit_at.ensures
