-- The export data of packages after the move of the package `from`, which may get another name.
use Rattle.std.specs.Prelude.{ℕ, bytes_eq, cond, List, Option, option_map, unwrap_or}
use Rattle.types_declared.specs.Package.{ExportData}
use Rattle.law_changed_types.specs.Moved.{PathMap}
use Rattle.law_changed_types.specs.MovedPackage.{moved_export, moved_definition}

-- The name after the move of the package at this path. `name`: the new name of the package that moves, if it gets one.
abbrev pub moved_name : (from : List ℕ) (name : Option (List ℕ)) (path old : List ℕ) → List ℕ
moved_name from name path old = cond (bytes_eq path from) (unwrap_or name old) old

-- The export data after the move of the package that is at this path before it: symbols are moved, and the package may have a new name.
abbrev pub moved_data : (from : List ℕ) (name : Option (List ℕ)) → PathMap → (path : List ℕ) → ExportData → ExportData
moved_data from name g path i = record {
  name = moved_name from name path i.name;
  exported = λ n. option_map (moved_export g) (i.exported n);
  definition = λ rank. moved_definition g (i.definition rank);
}
