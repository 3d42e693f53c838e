-- The program's table of export data, as the definitions of `Package.antt` see it.
use Rattle.std.specs.Prelude.{ℕ, ◌≡◌, true, List, [], Option, Some, None, option_map, slice_get}
use Rattle.std.specs.Global.{Vec}
use Rattle.std.specs.BTreeMap.{BTreeMap, get_by}
use Rattle.std.specs.Cmp.Lexicographic.{slice_cmp}
use Rattle.std.specs.Ordering.{nat_cmp}
use Rattle.std.specs.declared.cmp.Ordering.TheVariants.{Greater}
use Rattle.base_files.specs.Workspace.{path_cmp}
use Rattle.base_files.specs.Entries.{IsAfterAllPaths}
use Rattle.types_expr.specs.Types.{Meaning, Value, Typed, TypeName, Function}
use Rattle.types_expr.specs.View.{type_of, signature_of}
use Rattle.types_expr.specs.WorldView.{no_definition, definition_or_none, ranked, known_at, definitions_listed, definitions_at}
use Rattle.types_declared.specs.declared.states.ImportState.{ImportState}
use Rattle.types_expr.specs.declared.world.Definition.{Definition}
use Rattle.types_expr.specs.declared.exports.ExportMeaning.{ExportMeaning}
use Rattle.types_expr.specs.declared.exports.ExportMeaning.TheVariants as exported
use Rattle.types_expr.specs.declared.exports.Export.{Export}
use Rattle.types_declared.specs.States.{state_in}
use Rattle.types_expr.specs.declared.exports.PackageScope.{PackageScope}
use Rattle.types_expr.specs.declared.exports.ExportData.{ExportData}
use Rattle.types_declared.specs.declared.export_tables.ExportTable.{ExportTable}
use Rattle.types_declared.specs.Package as seen

-- the meaning of an export
unfoldable pub meaning_of : ExportMeaning → Meaning
meaning_of (exported.Variable t) = Value (Typed (type_of t)) true
meaning_of (exported.TypeName t) = TypeName (type_of t)
meaning_of (exported.Function s) = Function (signature_of s)

-- an export as the definitions see it
abbrev pub export_of : Export → seen.Export
export_of e = record { meaning = meaning_of e.meaning }

-- the export under a name in a map
abbrev pub exports_at : BTreeMap (Vec ℕ) Export → List ℕ → Option seen.Export
exports_at exports name = option_map export_of (get_by (λ key. slice_cmp nat_cmp name key.items) exports)

-- the export of a package under a name
abbrev pub exported_in : PackageScope → List ℕ → Option seen.Export
exported_in s name = exports_at s.exported name

-- the name and the exports of a package, if its export data is known
abbrev pub known_scope : Option ExportData → Option PackageScope
known_scope known = option_map (λ (i : ExportData). i.scope) known

-- the name and the exports of the package at a path, if known
abbrev pub scope_in : ExportTable → List ℕ → Option PackageScope
scope_in i path = known_scope (known_at i.definitions path)

-- the name of a package, if known
abbrev pub scope_name : Option PackageScope → Option (List ℕ)
scope_name None = None
scope_name (Some s) = Some s.name.items

-- the name of the package at a path, if known
abbrev pub name_in : ExportTable → List ℕ → Option (List ℕ)
name_in i path = scope_name (scope_in i path)

-- the name of a package, if its export data is known
abbrev pub known_name : Option ExportData → Option (List ℕ)
known_name known = scope_name (known_scope known)

-- a name, or the empty name for none
abbrev pub name_or_none : Option (List ℕ) → List ℕ
name_or_none None = []
name_or_none (Some name) = name

-- the export of a package under a name; none where the package isn't known
abbrev pub scope_export : Option PackageScope → List ℕ → Option seen.Export
scope_export None name = None
scope_export (Some s) name = exported_in s name

-- the export data of the package at a path, from its name and exports and its type definitions, so far as they are known
abbrev pub export_data_by : (path : List ℕ) → Option PackageScope → Option (List Definition) → seen.ExportData
export_data_by path scope definitions = record {
  name = name_or_none (scope_name scope);
  exported = λ name. scope_export scope name;
  definition = λ rank. definition_or_none (record { «package» = path; rank = rank }) (ranked definitions rank);
}

-- the export data of the package at a path; a package that isn't known has no name and exports nothing
abbrev pub export_data_in : ExportTable → List ℕ → seen.ExportData
export_data_in i path = export_data_by path (scope_in i path) (definitions_at i.definitions path)

-- the export data of the package at a path, from what is known of it
abbrev pub export_data_known : (path : List ℕ) → Option ExportData → seen.ExportData
export_data_known path known = export_data_by path (known_scope known) (definitions_listed known)

-- the export data of a path without a known package: no name, no export, and each definition a struct of its own without fields
abbrev pub no_export_data : (path : List ℕ) → seen.ExportData
no_export_data path = record {
  name = [];
  exported = λ name. None;
  definition = λ rank. no_definition (record { «package» = path; rank = rank });
}

-- the program's export data of the package at a path, as the definitions see it
abbrev pub export_data_of : (path : List ℕ) → ExportData → seen.ExportData
export_data_of path i = record {
  name = i.scope.name.items;
  exported = λ name. exported_in i.scope name;
  definition = λ rank. definition_or_none (record { «package» = path; rank = rank }) (slice_get i.definitions.items rank);
}

-- both tables have the same export data, name and state for the path
pub record HasSameEntry (old new : ExportTable) (path : List ℕ) : Type 0 where
  pub export_data : export_data_in new path ≡ export_data_in old path
  pub name : name_in new path ≡ name_in old path
  pub state : state_in new.states path ≡ state_in old.states path

-- the path has this export data and this name in the new table; all states and all other paths stay
pub record SetsEntry (old new : ExportTable) (path : List ℕ) (export_data : seen.ExportData) (name : Option (List ℕ)) : Type 0 where
  pub has_export_data : export_data_in new path ≡ export_data
  pub has_name : name_in new path ≡ name
  pub states : (p : List ℕ) → state_in new.states p ≡ state_in old.states p
  pub elsewhere : (p : List ℕ) → (p ≡ path → ⊥) → HasSameEntry old new p

-- the path has the known export data in the new table, and all else stays
abbrev pub SetsKnown : (old new : ExportTable) (path : List ℕ) → Option ExportData → Type 0
SetsKnown old new path known = SetsEntry old new path (export_data_known path known) (known_name known)

-- the path has the export data i in the new table, and all else stays
abbrev pub AddsExportData : (old new : ExportTable) (path : List ℕ) → ExportData → Type 0
AddsExportData old new path i = SetsEntry old new path (export_data_of path i) (Some i.scope.name.items)

-- the path has the export data and name of the table others in the new table, and all else stays
abbrev pub CopiesEntry : (others old new : ExportTable) (path : List ℕ) → Type 0
CopiesEntry others old new path = SetsEntry old new path (export_data_in others path) (name_in others path)

-- the path has this state in the new table, and all other paths keep theirs
pub record SetsState (old new : List ℕ → ImportState) (path : List ℕ) (state : ImportState) : Type 0 where
  pub here : new path ≡ state
  pub elsewhere : (p : List ℕ) → (p ≡ path → ⊥) → new p ≡ old p

-- the path comes after all paths of the table
abbrev pub ComesAfterAll : ExportTable → List ℕ → Type 0
ComesAfterAll i path = IsAfterAllPaths path i.definitions.packages

-- each path after this one comes after all paths of the table
abbrev pub EndsAt : ExportTable → List ℕ → Type 0
EndsAt i path = (p : List ℕ) → path_cmp p path ≡ Greater → ComesAfterAll i p
