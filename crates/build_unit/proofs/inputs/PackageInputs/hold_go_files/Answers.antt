-- A part holds Go files alone.
use Rattle.std.proofs.Common.{subst}
use Rattle.build_unit.specs.Inputs.{AreGoFiles}
use Rattle.build_unit.proofs.Part.{part_go}
use Rattle.build_unit.proofs.inputs.PackageInputs.hold_go_files.Goals as goal

pub returns : goal.returns
returns c = subst AreGoFiles c.self.view_is (part_go _ _)
