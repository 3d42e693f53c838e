-- A package has one unit in two workspaces where its closure has the same texts in both.
use Rattle.std.proofs.Common.{ℕ, List, [], subst}
use Rattle.std.specs.Prelude.{Contains}
use Rattle.base_files.specs.Workspace.{Workspace}
use Rattle.base_files.specs.Packages.{package_paths}
use Rattle.go_ast.specs.SourceFile.{SourceFile}
use Rattle.workspace_graph.specs.Packages.{IsInClosure}
use Rattle.workspace_graph.specs.Parsed.{AreParsed}
use Rattle.workspace_check.specs.Closures.{HasSameClosure}
use Rattle.workspace_check.proofs.Local.{same_back, closed_there, files_there, local_list, locally_checked}
use Rattle.build_unit.specs.Laws.{AreLocalUnits}
use Rattle.build_unit.specs.Units.{AreFilesOf, AreFilesSeen, within, beyond, UnitValue, Faults, Done, IsUnitValue, unit_value}

files_local : (w x : Workspace) (p : List ℕ) → HasSameClosure w x p → (q : List ℕ) (files : List SourceFile) → IsInClosure w p q → AreFilesOf w q files →
    AreFilesOf x q files
files_local w x p same q files closed f = record {
  parts = f.parts;
  faulty = f.faulty;
  parsed = subst (λ (es : List (List ℕ × List ℕ)). AreParsed es f.parts f.faulty) (files_there w x p same q closed) f.parsed;
  are_files = f.are_files;
}

read_local : (w x : Workspace) (p : List ℕ) → HasSameClosure w x p → (q : List ℕ) (files : List SourceFile) → AreFilesSeen w p q files →
    AreFilesSeen x p q files
read_local w x p same q files (within closed are) = within (closed_there w x p same q closed) (files_local w x p same q files closed are)
read_local w x p same q _ (beyond outside) = beyond (λ closed. outside (closed_there x w p (same_back w x p same) q closed))

value_local : (w x : Workspace) (p : List ℕ) (u : UnitValue) → Contains (package_paths w) p → HasSameClosure w x p → IsUnitValue w p u → IsUnitValue x p u
value_local w x p (Faults list) has same u = (local_list w x p list has same u.0, u.1)
value_local w x p (Done i object) has same u =
    let there = locally_checked w x p u.known u.checked has same u.right u.is_package in
    record {
      known = u.known;
      right = there.0;
      faultless = local_list w x p [] has same u.faultless;
      checked = u.checked;
      is_package = there.1;
      export_data = u.export_data;
      files_of = u.files_of;
      are_files = λ q. read_local w x p same q (u.files_of q) (u.are_files q);
      is_object = u.is_object;
    }

pub local_unit : AreLocalUnits
local_unit w x p unit has same u = record { value = value_local w x p (unit_value p unit) has same u.value; alone = u.alone }
