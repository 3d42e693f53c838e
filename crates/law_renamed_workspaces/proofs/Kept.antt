-- Two packages with the same bindings and the same names of members and exports: their definitions and their export data are equal.
use Rattle.std.proofs.Common.{ℕ, ◌≡◌, ◌⊎◌, inl, inr, true, List, ap, sym, subst, refl, ◌∙◌}
use Rattle.std.specs.Prelude.{Option, Some, None, slice_get}
use Rattle.go_scope.specs.Bindings.{IsPackageLevel, Counts}
use Rattle.types_expr.specs.declared.symbol.Symbol.{Symbol}
use Rattle.types_expr.specs.Types.{Defined, Underlying}
use Rattle.types_expr.specs.Types.{Struct as StructOf}
use Rattle.types_expr.specs.World.{Definition}
use Rattle.types_expr.specs.WorldView.{no_definition}
use Rattle.types_declared.specs.Files.{package_name}
use Rattle.types_declared.specs.Laid.{is_exported}
use Rattle.types_declared.specs.Package.{Package, Export, ExportData, PlacedFunction, package_types, symbol_in, spelled}
use Rattle.types_declared.specs.Definitions.{HasUnderlying, PlacedField, IsFieldOf, IsMethodOf, IsUnderlyingOf, has, has_none, IsDefinition}
use Rattle.types_check.specs.Exports.{IsExport, IsExported, IsExportData}
use Rattle.law_changed_types.proofs.Alike.{Alike, turned, symbols, got_by}
use Rattle.law_changed_types.proofs.Types.{has_underlying}
use Rattle.law_renamed_workspaces.proofs.ExportsMove.{counts_there, level_there, export_there, export_exported}
use Rattle.law_renamed_workspaces.proofs.Counting.{EachMemberCounts}
use Rattle.law_renamed_workspaces.proofs.FoundMembers.{FieldsGo, MethodsGo, field_by, method_by, field_stays, method_stays}

-- The declaration has an exported name in the one package or in the other.
abbrev pub IsExportedInOne : (p q : Package) → ℕ → Type 0
IsExportedInOne p q u = (is_exported (p.names u) ≡ true) ⊎ (is_exported (q.names u) ≡ true)

-- Each declaration of the package's block that is exported in one of the packages has the same name in both.
abbrev pub KeepsLevels : (p q : Package) → Type 0
KeepsLevels p q = (u : ℕ) → IsPackageLevel p.layout u → Counts p.layout p.names u → IsExportedInOne p q u → q.names u ≡ p.names u

-- `q` has the bindings of `p`, and the same names of fields, methods and exported declarations. In both packages each member counts.
pub record Kept (p q : Package) : Type 0 where
  pub alike : Alike p q
  pub clause : package_name q.files ≡ package_name p.files
  pub fields : (d rank : ℕ) (name : List ℕ) (f : PlacedField) → IsFieldOf p d name rank f → spelled q f.file f.name ≡ name
  pub methods : (d rank : ℕ) (name : List ℕ) (f : PlacedFunction) → IsMethodOf p d name rank f → spelled q f.file f.function.name ≡ name
  pub levels : KeepsLevels p q
  pub counts : EachMemberCounts p
  pub counts_after : EachMemberCounts q

swapped : (p q : Package) (u : ℕ) → IsExportedInOne q p u → IsExportedInOne p q u
swapped p q u (inl now) = inr now
swapped p q u (inr was) = inl was

turned_levels : (p q : Package) → Alike p q → KeepsLevels p q → KeepsLevels q p
turned_levels p q alike levels u level counts one =
    let back = turned p q alike in
    sym (levels u (level_there q p back u level) (counts_there q p back u counts) (swapped p q u one))

pub turned_kept : (p q : Package) → Kept p q → Kept q p
turned_kept p q k =
    let back = turned p q k.alike in
    record {
      alike = back;
      clause = sym k.clause;
      fields = λ d rank name f h.
          sym (k.fields d rank (spelled p f.file f.name) f (field_by q p back d rank name f h (spelled p f.file f.name) refl)) ∙ h.named;
      methods = λ d rank name f h.
          sym (k.methods d rank (spelled p f.file f.function.name) f (method_by q p back d rank name f h (spelled p f.file f.function.name) refl).0) ∙ h.named;
      levels = turned_levels p q k.alike k.levels;
      counts = k.counts_after;
      counts_after = k.counts;
    }

-- definitions

field_goes : (p q : Package) → Kept p q → (d : ℕ) (name : List ℕ) → FieldsGo p q d name name
field_goes p q k d name rank f c =
    k.counts_after.fields d rank name f (field_by p q k.alike d rank name f c.is_field name (k.fields d rank name f c.is_field))

method_goes : (p q : Package) → Kept p q → (d : ℕ) (name : List ℕ) → MethodsGo p q d name name
method_goes p q k d name rank f c =
    let m = method_by p q k.alike d rank name f c.is_method name (k.methods d rank name f c.is_method) in
    let counts = k.counts_after.methods d rank name f m.0 in
    (record { is_method = m.0; no_field = counts.no_field; first = counts.first }, m.1)

struct_there : (p q : Package) → Alike p q → (d : ℕ) (u : Underlying) → HasUnderlying p (Defined (symbol_in p d)) u →
    HasUnderlying q (Defined (symbol_in q d)) u
struct_there p q a d u h =
    subst (λ (s : Symbol). HasUnderlying q (Defined s) u) (sym (symbols p q a d)) (has_underlying p q a (Defined (symbol_in p d)) u h)

pub underlying_there : (p q : Package) → Alike p q → (rank : ℕ) (u : Underlying) → IsUnderlyingOf p rank u → IsUnderlyingOf q rank u
underlying_there p q a rank _ (has {u = u} h) = has {u = u} (struct_there p q a rank u h)
underlying_there p q a rank _ (has_none none) =
    subst (λ (s : Symbol). IsUnderlyingOf q rank (StructOf s)) (symbols p q a rank)
    (has_none (λ u h. none u (struct_there q p (turned p q a) rank u h)))

pub definition_there : (p q : Package) → Kept p q → (rank : ℕ) (d : Definition) → IsDefinition p rank d → IsDefinition q rank d
definition_there p q k rank d h = record {
  underlying = underlying_there p q k.alike rank d.underlying h.underlying;
  fields = λ name.
      field_stays p q k.alike rank name (field_goes p q k rank name) (field_goes q p (turned_kept p q k) rank name) (d.field name) (h.fields name);
  methods = λ name.
      method_stays p q k.alike rank name (method_goes p q k rank name) (method_goes q p (turned_kept p q k) rank name) (d.method name) (h.methods name);
}

-- exports

export_kept : (p q : Package) → Alike p q → KeepsLevels p q → (name : List ℕ) (e : Export) → IsExport p name e → IsExport q name e
export_kept p q alike levels name e x =
    let seen = x.by_declaration.seen in
    export_there p q alike name name e x (levels x.declaration seen.package_level seen.counts (inl seen.exported) ∙ x.named) (export_exported p name e x)

pub exported_there : (p q : Package) → Alike p q → KeepsLevels p q → (name : List ℕ) (o : Option Export) → IsExported p name o → IsExported q name o
exported_there p q alike levels name None none = λ e x.
    none e (export_kept q p (turned p q alike) (turned_levels p q alike levels) name e x)
exported_there p q alike levels name (Some e) x = export_kept p q alike levels name e x

-- The export data of the one are those of the other.
pub export_data_there : (p q : Package) → Kept p q → (i : ExportData) → IsExportData p i → IsExportData q i
export_data_there p q k i h = record {
  name = h.name ∙ sym k.clause;
  exported = λ name. exported_there p q k.alike k.levels name (i.exported name) (h.exported name);
  definitions = λ rank d at.
      definition_there p q k rank (i.definition rank) (h.definitions rank d (got_by (package_types q) (package_types p) rank d (sym k.alike.types) at));
  beyond = λ rank none.
      h.beyond rank (ap (λ ts. slice_get ts rank) (sym k.alike.types) ∙ none) ∙ ap no_definition (sym (symbols p q k.alike rank));
}
