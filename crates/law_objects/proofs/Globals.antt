-- Behind the rename of a package-level declaration each other package keeps its unit, with the new name in its object.
use Rattle.std.proofs.Common.{ℕ, ◌≡◌, ◌<◌, List, sym}
use Rattle.go_scope.specs.Bindings.{IsPackageLevel}
use Rattle.workspace_check.proofs.OnePackage.{layout_formed}
use Rattle.law_faultless.proofs.Declared.{may_within}
use Rattle.law_renamed_workspaces.proofs.DeclaredNames.{level_declares}
use Rattle.law_objects.specs.CarriedUnits.{GlobalRenamesCarryUnits}
use Rattle.law_objects.proofs.Carried.{global_carried}
use Rattle.law_objects.proofs.LegibleNames.{good_legible, good_no_point}
use Rattle.law_objects.proofs.LegibleObjects.{objects_legible}
use Rattle.law_objects.proofs.PackageNames.{declared_name}

pub globals_carried : GlobalRenamesCarryUnits
globals_carried w before own n name s plain keeps is level paths =
    let sound = plain.rename.sound in
    let right = plain.rename.right in
    let declares = level_declares own.layout (layout_formed w before own.path own is.is_checked) own.names n level in
    let lt : n < own.size = may_within w before own.path own is.is_checked n declares.may in
    let good = declared_name w sound before right paths own is n lt level in
    global_carried w before own n name s plain keeps is level (record {
      path = paths own.path is.of_workspace;
      old = good_legible (own.names n) good;
      no_point = good_no_point (own.names n) good;
    }) (objects_legible w sound before right paths)
