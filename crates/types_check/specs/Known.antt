-- The export data of a package as plain values, to compare.
use Rattle.std.specs.Prelude.{ℕ, ◌≡◌, List, map, Option, option_map}
use Rattle.std.specs.Global.{Vec}
use Rattle.types_expr.specs.Types.{Underlying}
use Rattle.types_expr.specs.World as plain
use Rattle.types_expr.specs.WorldView.{underlying_of, field_of, plain_method_of, known_at}
use Rattle.types_expr.specs.declared.world.Definition.{Definition}
use Rattle.types_declared.specs.Package as seen
use Rattle.types_expr.specs.declared.exports.ExportData.{ExportData}
use Rattle.types_expr.specs.declared.exports.PackageScope.{PackageScope}
use Rattle.types_declared.specs.declared.export_tables.ExportTable.{ExportTable}
use Rattle.types_declared.specs.ExportTablesView.{export_of, name_in, known_name, export_data_in, export_data_known}

-- an entry of a map: its name and the plain value
abbrev pub entry_value : {X Y : Type 0} → (X → Y) → Vec ℕ × X → List ℕ × Y
entry_value value e = (e.0.items, value e.1)

-- the name of a package, and its exports in the order of their names
pub record KnownScope : Type 0 where
  pub name : List ℕ
  pub exported : List (List ℕ × seen.Export)

-- the plain values of a package's name and exports
abbrev pub known_scope : PackageScope → KnownScope
known_scope s = record { name = s.name.items; exported = map (entry_value export_of) s.exported.entries }

-- the underlying type of a definition, and its fields and methods in the order of their names
pub record KnownDefinition : Type 0 where
  pub underlying : Underlying
  pub fields : List (List ℕ × plain.Field)
  pub methods : List (List ℕ × plain.Method)

-- the plain values of a type definition
abbrev pub known_definition : Definition → KnownDefinition
known_definition d = record {
  underlying = underlying_of d.underlying;
  fields = map (entry_value field_of) d.fields.entries;
  methods = map (entry_value plain_method_of) d.methods.entries;
}

-- the plain values of a package's export data
pub record PlainExports : Type 0 where
  pub scope : KnownScope
  pub definitions : List KnownDefinition

-- the plain values of export data
abbrev pub known_as : ExportData → PlainExports
known_as i = record { scope = known_scope i.scope; definitions = map known_definition i.definitions.items }

-- the plain values of export data, if there is any
abbrev pub known_values : Option ExportData → Option PlainExports
known_values known = option_map known_as known

-- the plain values of the export data that a table has for a path
abbrev pub known_at_path : ExportTable → List ℕ → Option PlainExports
known_at_path i path = known_values (known_at i.definitions path)

-- the known export data gives the package the name and the export data that the table has for its path
pub record IsKnownAlike (known : Option ExportData) (all : ExportTable) (path : List ℕ) : Type 0 where
  pub name : known_name known ≡ name_in all path
  pub export_data : export_data_known path known ≡ export_data_in all path
