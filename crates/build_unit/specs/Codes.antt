-- Codes of workspaces and of units, which proofs compare.
use Rattle.std.specs.Coded.{Coded, coded_ℕ, coded_list}
use Rattle.std.specs.FinMap as files
use Rattle.base_files.specs.Workspace.{Workspace}
use Rattle.build_unit.specs.declared.unit.Compiled.{Compiled}
use Rattle.build_unit.specs.contracts.unit.Compiled.{the_row}

-- The code of a workspace, as a finite map from paths to texts.
pub workspace_code : Coded Workspace
workspace_code = files.code (coded_list coded_ℕ) (coded_list coded_ℕ)

-- The code of a unit.
pub unit_code : Coded Compiled
unit_code = the_row.coded
