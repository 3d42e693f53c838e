-- The export data of a package is its own.
use Rattle.std.proofs.Common.{ℕ, ◌≡◌, true, List, Option, Some, None, ap, refl, sym, ◌∙◌, subst}
use Rattle.std.specs.Prelude.{slice_get}
use Rattle.base_files.specs.Workspace.{Workspace}
use Rattle.types_declared.specs.Laid.{is_exported}
use Rattle.types_expr.specs.declared.symbol.Symbol.{Symbol}
use Rattle.types_expr.specs.World.{Definition, Field, Method}
use Rattle.types_expr.specs.WorldView.{no_definition}
use Rattle.types_declared.specs.Package.{Package, Export, ExportData, PlacedType, package_types, symbol_in}
use Rattle.types_declared.specs.Definitions.{IsFoundField, IsFoundMethod}
use Rattle.types_check.specs.Exports.{IsExport, IsExported, IsExportData}
use Rattle.workspace_check.specs.Verdicts.{Verdicts, IsPackageIn}
use Rattle.refactor_plan.specs.OwnExports.{ExportsName, AreOwnExports}

checked_path : {w : Workspace} {known : Verdicts} {p : List ℕ} {checked : Package} (is : IsPackageIn w known p checked) → checked.path ≡ p
checked_path is = ap (λ (z : Package). z.path) is.is_package.is_package

export_own : (w : Workspace) (known : Verdicts) (p : List ℕ) (checked : Package) → IsPackageIn w known p checked → (name : List ℕ) (e : Export) →
    IsExport checked name e → ExportsName w known p name e
export_own w known p checked is name e x = record {
  checked = checked;
  is_package = is;
  is_export = x;
  exported = subst (λ n. is_exported n ≡ true) x.named x.by_declaration.seen.exported;
}

-- definitions

no_field : {A : Type 0} (s : Symbol) (name : List ℕ) (f : Field) → (no_definition s).field name ≡ Some f → A
no_field s name f e = cc

no_method : {A : Type 0} (s : Symbol) (name : List ℕ) (m : Method) → (no_definition s).method name ≡ Some m → A
no_method s name m e = cc

field_own : (checked : Package) (rank : ℕ) (name : List ℕ) (f : Field) → IsFoundField checked rank name (Some f) → f.symbol.«package» ≡ checked.path
field_own checked rank name f x = ap (λ (z : Symbol). z.«package») x.1.2

method_own : (checked : Package) (rank : ℕ) (name : List ℕ) (m : Method) → IsFoundMethod checked rank name (Some m) → m.symbol.«package» ≡ checked.path
method_own checked rank name m x = ap (λ (z : Symbol). z.«package») x.4

fields_own : (checked : Package) (i : ExportData) → IsExportData checked i → (rank : ℕ) (o : Option PlacedType) → slice_get (package_types checked) rank ≡ o →
    (name : List ℕ) (f : Field) → (i.definition rank).field name ≡ Some f →
    f.symbol.«package» ≡ checked.path
fields_own checked i is rank None e name f h = no_field (symbol_in checked rank) name f (ap (λ (z : Definition). z.field name) (sym (is.beyond rank e)) ∙ h)
fields_own checked i is rank (Some d) e name f h = field_own checked rank name f (subst (λ z. IsFoundField checked rank name z) h
    ((is.definitions rank d e).fields name))

methods_own : (checked : Package) (i : ExportData) → IsExportData checked i → (rank : ℕ) (o : Option PlacedType) → slice_get (package_types checked) rank ≡ o →
    (name : List ℕ) (m : Method) → (i.definition rank).method name ≡ Some m →
    m.symbol.«package» ≡ checked.path
methods_own checked i is rank None e name m h = no_method (symbol_in checked rank) name m (ap (λ (z : Definition). z.method name) (sym (is.beyond rank e)) ∙ h)
methods_own checked i is rank (Some d) e name m h =
    method_own checked rank name m (subst (λ z. IsFoundMethod checked rank name z) h ((is.definitions rank d e).methods name))

pub export_data_own : (w : Workspace) (known : Verdicts) (p : List ℕ) (i : ExportData) (checked : Package) → IsPackageIn w known p checked →
    IsExportData checked i → AreOwnExports w known p i
export_data_own w known p i checked is x = record {
  exports = λ name e h. export_own w known p checked is name e (subst (λ z. IsExported checked name z) h (x.exported name));
  fields = λ rank name f h. fields_own checked i x rank (slice_get (package_types checked) rank) refl name f h ∙ checked_path is;
  methods = λ rank name m h. methods_own checked i x rank (slice_get (package_types checked) rank) refl name m h ∙ checked_path is;
}
