-- Packages with equal known values have the same export data.
use Rattle.std.proofs.Common.{ℕ, ◌≡◌, List, [], ◌∷◌, map, refl, ap, sym, ◌∙◌}
use Rattle.std.specs.Prelude.{Bool, true, false, if◌then◌else◌, Option, Some, None, option_map, slice_get}
use Rattle.std.specs.Global.{Vec}
use Rattle.std.specs.BTreeMap.{is_at}
use Rattle.std.specs.Cmp.Lexicographic.{slice_cmp}
use Rattle.std.specs.Map.{lookup}
use Rattle.std.specs.Ordering.{nat_cmp, is_eq}
use Rattle.std.proofs.lemmas.Option.{slice_get-map}
use Rattle.types_expr.specs.World as plain
use Rattle.types_expr.specs.WorldView.{no_definition, field_of, plain_method_of, definition_of, definition_or_none, definitions_listed, known_at, ranked}
use Rattle.types_expr.specs.declared.symbol.Symbol.{Symbol}
use Rattle.types_expr.specs.declared.world.Definition.{Definition}
use Rattle.types_declared.specs.Package as seen
use Rattle.types_expr.specs.declared.exports.ExportData.{ExportData}
use Rattle.types_declared.specs.declared.export_tables.ExportTable.{ExportTable}
use Rattle.types_declared.specs.ExportTablesView.{export_of, known_name, known_scope, name_or_none, scope_export, export_data_known}
use Rattle.types_check.specs.Known.{entry_value, KnownDefinition, known_definition, PlainExports, known_at_path, known_values, IsKnownAlike}

-- the value of a name in a list of entries
abbrev value_named : {Y : Type 0} → List ℕ → List (List ℕ × Y) → Option Y
value_named name es = lookup (λ key. is_eq (slice_cmp nat_cmp name key)) es

one_found : {X Y : Type 0} (value : X → Y) (found : Bool) (x : X) (o : Option X) (p : Option Y) → option_map value o ≡ p →
    option_map value (if found then Some x else o) ≡ (if found then Some (value x) else p)
one_found value true x o p e = refl
one_found value false x o p e = e

value_found : {X Y : Type 0} (value : X → Y) (name : List ℕ) (es : List (Vec ℕ × X)) →
    option_map value (lookup (is_at (λ key. slice_cmp nat_cmp name key.items)) es) ≡ value_named name (map (entry_value value) es)
value_found value name [] = refl
value_found value name (e ∷ es) =
    one_found value (is_at (λ (key : Vec ℕ). slice_cmp nat_cmp name key.items) e.0) e.1 (lookup (is_at (λ key. slice_cmp nat_cmp name key.items)) es)
    (value_named name (map (entry_value value) es)) (value_found value name es)

-- the definition with these plain values
abbrev plain_of : KnownDefinition → plain.Definition
plain_of d = record {
  underlying = d.underlying;
  field = λ name. value_named name d.fields;
  method = λ name. value_named name d.methods;
}

plain_known : (d : Definition) → definition_of d ≡ plain_of (known_definition d)
plain_known d = λ i. record {
  underlying = (known_definition d).underlying;
  field = λ name. value_found field_of name d.fields.entries i;
  method = λ name. value_found plain_method_of name d.methods.entries i;
}

abbrev plain_or_none : Symbol → Option KnownDefinition → plain.Definition
plain_or_none s None = no_definition s
plain_or_none s (Some d) = plain_of d

definition_known : (s : Symbol) (d : Option Definition) → definition_or_none s d ≡ plain_or_none s (option_map known_definition d)
definition_known s None = refl
definition_known s (Some d) = plain_known d

abbrev plain_name : Option PlainExports → Option (List ℕ)
plain_name None = None
plain_name (Some k) = Some k.scope.name

name_same : (known : Option ExportData) → known_name known ≡ plain_name (known_values known)
name_same None = refl
name_same (Some i) = refl

abbrev plain_export : Option PlainExports → List ℕ → Option seen.Export
plain_export None name = None
plain_export (Some k) name = value_named name k.scope.exported

export_same : (known : Option ExportData) (name : List ℕ) → scope_export (known_scope known) name ≡ plain_export (known_values known) name
export_same None name = refl
export_same (Some i) name = value_found export_of name i.scope.exported.entries

abbrev plain_at : Symbol → Option PlainExports → ℕ → plain.Definition
plain_at s None rank = no_definition s
plain_at s (Some k) rank = plain_or_none s (slice_get k.definitions rank)

definition_same : (s : Symbol) (known : Option ExportData) (rank : ℕ) →
    definition_or_none s (ranked (definitions_listed known) rank) ≡ plain_at s (known_values known) rank
definition_same s None rank = refl
definition_same s (Some i) rank =
    definition_known s (slice_get i.definitions.items rank) ∙ ap (plain_or_none s) (sym (slice_get-map known_definition i.definitions.items rank))

abbrev plain_export_data : (path : List ℕ) → Option PlainExports → seen.ExportData
plain_export_data path k = record {
  name = name_or_none (plain_name k);
  exported = λ name. plain_export k name;
  definition = λ rank. plain_at (record { «package» = path; rank = rank }) k rank;
}

export_data_same : (known : Option ExportData) (path : List ℕ) → export_data_known path known ≡ plain_export_data path (known_values known)
export_data_same known path = λ at. record {
  name = name_or_none (name_same known at);
  exported = λ name. export_same known name at;
  definition = λ rank. definition_same (record { «package» = path; rank = rank }) known rank at;
}

pub same_known : (known : Option ExportData) (all : ExportTable) (path : List ℕ) → known_values known ≡ known_at_path all path → IsKnownAlike known all path
same_known known all path e =
    let there = known_at all.definitions path in
    record {
      name = name_same known ∙ (ap plain_name e ∙ sym (name_same there));
      export_data = export_data_same known path ∙ (ap (plain_export_data path) e ∙ sym (export_data_same there path));
    }
