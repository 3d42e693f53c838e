-- Definitions and export data that are moved part by part.
use Rattle.std.proofs.Common.{ℕ, ◌≡◌, List, map, ap, refl, sym, ◌∙◌}
use Rattle.std.specs.Prelude.{Option, Some, None, option_map, slice_get}
use Rattle.std.specs.BTreeMap.{BTreeMap}
use Rattle.std.specs.Global.{Vec}
use Rattle.std.proofs.Math.Path.{fun_ext}
use Rattle.std.proofs.lemmas.Option.{none-some, same_Some, slice_get-map}
use Rattle.types_expr.specs.declared.exports.Export.{Export as OwnExport}
use Rattle.types_expr.specs.declared.exports.ExportData.{ExportData as OwnData}
use Rattle.types_expr.specs.declared.symbol.Symbol.{Symbol}
use Rattle.types_expr.specs.declared.world.Definition.{Definition as OwnDefinition}
use Rattle.types_expr.specs.declared.world.Field.{Field as OwnField}
use Rattle.types_expr.specs.declared.world.Method.{Method as OwnMethod}
use Rattle.types_expr.specs.WorldView.{definition_of, definition_or_none, field_of, plain_method_of, underlying_of}
use Rattle.types_declared.specs.ExportTablesView.{export_data_of, export_of}
use Rattle.law_changed_types.specs.Moved.{PathMap, moved_symbol, moved_underlying}
use Rattle.law_changed_types.specs.MovedPackage.{moved_definition, moved_export, moved_field, moved_method}
use Rattle.refactor_known.specs.MovedData.{moved_data, moved_name}
use Rattle.refactor_known.specs.Tables.{AreRelated, HasRelated, entry_at}

related : {X Y : Type 0} (f : X → Y) (h : Y → Y) (old new : Option X) → AreRelated (λ a b. f b ≡ h (f a)) old new →
    option_map f new ≡ option_map h (option_map f old)
related f h None None r = refl
related f h (Some a) (Some b) r = ap Some r
related f h None (Some b) r = absurd r
related f h (Some a) None r = absurd r

table_is : {X Y : Type 0} (f : X → Y) (h : Y → Y) (old new : BTreeMap (Vec ℕ) X) → HasRelated (λ a b. f b ≡ h (f a)) old new →
    ◌≡◌ {A = List ℕ → Option Y} (λ name. option_map f (entry_at new name)) (λ name. option_map h (option_map f (entry_at old name)))
table_is f h old new r = fun_ext (λ name. related f h (entry_at old name) (entry_at new name) (r name))

pub definition_is : (g : PathMap) (old new : OwnDefinition) → underlying_of new.underlying ≡ moved_underlying g (underlying_of old.underlying) →
    HasRelated (λ (a b : OwnField). field_of b ≡ moved_field g (field_of a)) old.fields new.fields →
    HasRelated (λ (a b : OwnMethod). plain_method_of b ≡ moved_method g (plain_method_of a)) old.methods new.methods →
    definition_of new ≡ moved_definition g (definition_of old)
definition_is g old new under fields methods =
    let f = table_is field_of (moved_field g) old.fields new.fields fields in
    let m = table_is plain_method_of (moved_method g) old.methods new.methods methods in
    λ i. record { underlying = under i; field = f i; method = m i }

or_none : (g : PathMap) (s : Symbol) (old new : Option OwnDefinition) →
    option_map definition_of new ≡ option_map (moved_definition g) (option_map definition_of old) →
    definition_or_none (moved_symbol g s) new ≡ moved_definition g (definition_or_none s old)
or_none g s None None e = refl
or_none g s (Some a) (Some b) e = same_Some (definition_of b) (moved_definition g (definition_of a)) e
or_none g s None (Some b) e = absurd (none-some (definition_of b) (sym e))
or_none g s (Some a) None e = absurd (none-some (moved_definition g (definition_of a)) e)

definition_at : (g : PathMap) (path : List ℕ) (old new : List OwnDefinition) →
    map definition_of new ≡ map (moved_definition g) (map definition_of old) → (rank : ℕ) →
    definition_or_none (record { «package» = g path; rank = rank }) (slice_get new rank)
    ≡ moved_definition g (definition_or_none (record { «package» = path; rank = rank }) (slice_get old rank))
definition_at g path old new e rank =
    or_none g (record { «package» = path; rank = rank }) (slice_get old rank) (slice_get new rank)
    (sym (slice_get-map definition_of new rank) ∙ ap (λ xs. slice_get xs rank) e ∙ slice_get-map (moved_definition g) (map definition_of old) rank
    ∙ ap (option_map (moved_definition g)) (slice_get-map definition_of old rank))

pub data_is : (from : List ℕ) (name : Option (List ℕ)) (g : PathMap) (path : List ℕ) (old new : OwnData) →
    new.scope.name.items ≡ moved_name from name path old.scope.name.items →
    HasRelated (λ (a b : OwnExport). export_of b ≡ moved_export g (export_of a)) old.scope.exported new.scope.exported →
    map definition_of new.definitions.items ≡ map (moved_definition g) (map definition_of old.definitions.items) →
    export_data_of (g path) new ≡ moved_data from name g path (export_data_of path old)
data_is from name g path old new called exports definitions =
    let e = table_is export_of (moved_export g) old.scope.exported new.scope.exported exports in
    let d = fun_ext (definition_at g path old.definitions.items new.definitions.items definitions) in
    λ i. record { name = called i; exported = e i; definition = d i }
