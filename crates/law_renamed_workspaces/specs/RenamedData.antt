-- The export data of the declaring package after a plain rename: those of before, with the new name in the place of the old one.
use Rattle.std.specs.Prelude.{ℕ, ◌≡◌, ◌≢◌, ◌⊎◌, ◌==◌, true, false, if◌then◌else◌, List, Option, Some, None, option_map, slice_get, Contains}
use Rattle.base_edits.specs.EditSet.{FileChanges, edited}
use Rattle.base_files.specs.Packages.{package_paths}
use Rattle.base_files.specs.Workspace.{Workspace}
use Rattle.go_scope.specs.Bindings.{IsPackageLevel}
use Rattle.types_expr.specs.Types.{same_path}
use Rattle.types_expr.specs.World.{Definition}
use Rattle.types_declared.specs.Laid.{is_exported}
use Rattle.types_declared.specs.Package.{Package, PlacedFunction, ExportData, symbol_in}
use Rattle.types_declared.specs.Definitions.{PlacedField, IsFieldOf, IsMethodOf}
use Rattle.workspace_check.specs.declared.known.Known.{Known}
use Rattle.workspace_check.specs.declared.known.KnownVerdict.{KnownVerdict}
use Rattle.workspace_check.specs.Found.{KnowsVerdicts}
use Rattle.workspace_check.specs.KnownFindings.{IsKnownVerdict, verdict_from}
use Rattle.workspace_check.specs.Verdicts.{Verdicts, AreVerdicts}
use Rattle.refs_binding.specs.declared.declaration.Declaration.{Declaration}
use Rattle.refs_binding.specs.declared.declaration.Declaration.TheVariants.{Declared, Field, Method}
use Rattle.refs_binding.specs.Uses.{IsCheckedPackage}
use Rattle.refs_places.specs.Outside.{declaring_path}
use Rattle.law_renamed_workspaces.specs.MovedExports.{field_called, method_called}
use Rattle.law_renamed_workspaces.specs.KnownVerdicts.{IsKeptRename}

-- A map of names that has `entry` under the name `new`, and nothing under `old`. Under each other name it has what `f` has.
abbrev pub renamed_entry : {X : Type 0} → (old new : List ℕ) → (entry : Option X) → (List ℕ → Option X) → List ℕ → Option X
renamed_entry old new entry f name = if same_path name new then entry else if same_path name old then None else f name

-- The export data in which the export called `old` is called `new`. It is gone if `new` is not exported.
abbrev pub export_renamed : (old new : List ℕ) → ExportData → ExportData
export_renamed old new i = record {
  name = i.name;
  exported = renamed_entry old new (if is_exported new then i.exported old else None) i.exported;
  definition = i.definition;
}

-- The type definition whose field `old` is called `new`.
abbrev pub field_renamed : (old new : List ℕ) → Definition → Definition
field_renamed old new d = record {
  underlying = d.underlying;
  field = renamed_entry old new (option_map (field_called new) (d.field old)) d.field;
  method = d.method;
}

-- The type definition whose method `old` is called `new`.
abbrev pub method_renamed : (old new : List ℕ) → Definition → Definition
method_renamed old new d = record {
  underlying = d.underlying;
  field = d.field;
  method = renamed_entry old new (option_map (method_called new) (d.method old)) d.method;
}

-- The export data with another definition of the rank `owner`.
abbrev pub definition_changed : (owner : ℕ) → (Definition → Definition) → ExportData → ExportData
definition_changed owner change i = record {
  name = i.name;
  exported = i.exported;
  definition = λ rank. if rank == owner then change (i.definition rank) else i.definition rank;
}

-- After the rename of a package-level declaration with an exported name, its package's export data are those of before with the new name.
abbrev pub ExportsAreRenamed : Type 0
ExportsAreRenamed = (w : Workspace) (before after : Verdicts) (p : Package) (n : ℕ) (name : List ℕ) (s : FileChanges) → IsCheckedPackage w before p →
    IsKeptRename w before (Declared p.path n) name s → AreVerdicts (edited s w) after → IsPackageLevel p.layout n → is_exported (p.names n) ≡ true →
    (after p.path).export_data ≡ export_renamed (p.names n) name (before p.path).export_data

-- Nothing is renamed with the declaration.
abbrev pub IsAlone : Declaration → (set : List Declaration) → Type 0
IsAlone d set = (e : Declaration) → Contains set e → e ≡ d

-- After the rename of a field, its package's export data are those of before, but for the definition that has the field.
abbrev pub FieldsAreRenamed : Type 0
FieldsAreRenamed = (w : Workspace) (before after : Verdicts) (p : Package) (rank : ℕ) (name : List ℕ) (s : FileChanges) → IsCheckedPackage w before p →
    (h : IsKeptRename w before (Field (symbol_in p rank)) name s) → IsAlone (Field (symbol_in p rank)) h.plain.rename.set → AreVerdicts (edited s w) after →
    (owner : ℕ) (old : List ℕ) (f : PlacedField) →
    IsFieldOf p owner old rank f → (after p.path).export_data ≡ definition_changed owner (field_renamed old name) (before p.path).export_data

-- So after the rename of a method.
abbrev pub MethodsAreRenamed : Type 0
MethodsAreRenamed = (w : Workspace) (before after : Verdicts) (p : Package) (rank : ℕ) (name : List ℕ) (s : FileChanges) → IsCheckedPackage w before p →
    (h : IsKeptRename w before (Method (symbol_in p rank)) name s) → IsAlone (Method (symbol_in p rank)) h.plain.rename.set → AreVerdicts (edited s w) after →
    (owner : ℕ) (old : List ℕ) (f : PlacedFunction) →
    IsMethodOf p owner old rank f → (after p.path).export_data ≡ definition_changed owner (method_renamed old name) (before p.path).export_data

-- In a rename the known verdict `was` on the package at the path `q` becomes `now`, which keeps its finding. `change` says what becomes of the
-- package's export data.
pub record IsRenamedVerdict (before after : Verdicts) (q : List ℕ) (was now : KnownVerdict) : Type 0 where
  pub change : ExportData → ExportData
  pub changed : (after q).export_data ≡ change (before q).export_data
  pub finding : now.finding ≡ was.finding
  pub known : verdict_from q now.known ≡ record { faulty = false; export_data = change (verdict_from q was.known).export_data }

-- So a known verdict with such a change of its export data is right of the edited workspace.
abbrev pub RenamedVerdictsAreRight : Type 0
RenamedVerdictsAreRight = (w : Workspace) (before after : Verdicts) (d : Declaration) (name : List ℕ) (s : FileChanges) → IsKeptRename w before d name s →
    AreVerdicts (edited s w) after → (q : List ℕ) → Contains (package_paths w) q → (was now : KnownVerdict) → IsKnownVerdict w q was →
    IsRenamedVerdict before after q was now → IsKnownVerdict (edited s w) q now

-- Each verdict of the new list stands under its number in the old one, but `now` may stand under `number`.
abbrev pub HoldVerdictsWith : (number : ℕ) → (now : KnownVerdict) → (old new : List (Option KnownVerdict)) → Type 0
HoldVerdictsWith number now old new = (n : ℕ) (one : KnownVerdict) → slice_get new n ≡ Some (Some one) →
    ((n ≢ number) × (slice_get old n ≡ Some (Some one))) ⊎ ((n ≡ number) × (one ≡ now))

-- All known verdicts stay, where that on the declaring package is so replaced.
abbrev pub RenamedKnownVerdictsStay : Type 0
RenamedKnownVerdictsStay = (w : Workspace) (before after : Verdicts) (d : Declaration) (name : List ℕ) (s : FileChanges) (h : IsKeptRename w before d name s) →
    IsAlone d h.plain.rename.set → AreVerdicts (edited s w) after → (number : ℕ) (path : List ℕ) → slice_get (package_paths w) number ≡ Some path →
    declaring_path d ≡ Some path →
    (known rest : Known) → KnowsVerdicts w known → (was now : KnownVerdict) → slice_get known.verdicts.items number ≡ Some (Some was) →
    IsRenamedVerdict before after path was now → HoldVerdictsWith number now known.verdicts.items rest.verdicts.items → KnowsVerdicts (edited s w) rest
