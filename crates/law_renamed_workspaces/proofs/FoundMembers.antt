-- The fields and methods that are found of a type definition, of two packages with the same bindings: the same where the same count, and
-- under another name where they count under it.
use Rattle.std.proofs.Common.{ℕ, ◌≡◌, List, ap, sym, refl, ◌∙◌}
use Rattle.std.specs.Prelude.{Option, Some, None, slice_get, option_map}
use Rattle.types_expr.specs.Types.{Signature}
use Rattle.types_expr.specs.World.{Field, Method}
use Rattle.types_declared.specs.Definitions.{PlacedField, fields_from, package_fields, IsFieldOf, IsCountingField, IsMethodOf, IsCountingMethod}
use Rattle.types_declared.specs.Definitions.{IsFoundField, IsFoundSignature, IsFoundMethod, is_on_pointer}
use Rattle.types_declared.specs.Package.{Package, PlacedFunction, package_functions, spelled}
use Rattle.law_changed_types.proofs.Alike.{Alike, turned, tokens, symbols, got_by}
use Rattle.law_changed_types.proofs.Types.{declares_type}
use Rattle.law_renamed_workspaces.specs.MovedExports.{field_called, method_called}
use Rattle.law_renamed_workspaces.proofs.DefinitionsAfter.{field_form_stays, signature}

-- What counts for the definition under the one name counts for it in the other package under the other name.

abbrev pub FieldsGo : (p q : Package) → (definition : ℕ) → (m n : List ℕ) → Type 0
FieldsGo p q d m n = (rank : ℕ) (f : PlacedField) → IsCountingField p d m rank f → IsCountingField q d n rank f

abbrev pub MethodsGo : (p q : Package) → (definition : ℕ) → (m n : List ℕ) → Type 0
MethodsGo p q d m n = (rank : ℕ) (f : PlacedFunction) (c : IsCountingMethod p d m rank f) →
    (k : IsCountingMethod q d n rank f) × (k.is_method.receiver ≡ c.is_method.receiver)

pub fields_listed : (p q : Package) → Alike p q → package_fields q ≡ package_fields p
fields_listed p q a = ap (fields_from 0) a.types

-- a field or method of the one is one of the other, by its own name there

pub field_by : (p q : Package) → Alike p q → (d rank : ℕ) (name : List ℕ) (f : PlacedField) → IsFieldOf p d name rank f →
    (other : List ℕ) → spelled q f.file f.name ≡ other → IsFieldOf q d other rank f
field_by p q a d rank name f h other called = record {
  has_rank = got_by (package_fields p) (package_fields q) rank f (fields_listed p q a) h.has_rank;
  of_struct = h.of_struct;
  named = called;
}

pub method_by : (p q : Package) → Alike p q → (d rank : ℕ) (name : List ℕ) (f : PlacedFunction) (h : IsMethodOf p d name rank f) (other : List ℕ) →
    spelled q f.file f.function.name ≡ other → (m : IsMethodOf q d other rank f) × (m.receiver ≡ h.receiver)
method_by p q a d rank name f h other called = (
  record {
    has_rank = got_by (package_functions p) (package_functions q) rank f a.functions h.has_rank;
    receiver = h.receiver;
    received = h.received;
    declaration = h.declaration;
    binds = tokens p q a f.file h.receiver.type_name h.declaration h.binds;
    of_type = declares_type p q a h.declaration d h.of_type;
    named = called;
  },
  refl,
)

module _ (p q : Package) (alike : Alike p q) (d : ℕ) where
  -- fields

  pub field_stays : (name : List ℕ) → FieldsGo p q d name name → FieldsGo q p d name name → (o : Option Field) → IsFoundField p d name o →
      IsFoundField q d name o
  field_stays name there back None none = λ rank f t c h.
      none rank f t (back rank f c) (field_form_stays q p (turned p q alike) rank f c.is_field.has_rank t h)
  field_stays name there back (Some x) h = (
    h.0,
    (
      there x.symbol.rank h.0 h.1.0,
      field_form_stays p q alike x.symbol.rank h.0 h.1.0.is_field.has_rank x.form h.1.1,
      h.1.2 ∙ sym (symbols p q alike x.symbol.rank),
      h.1.3,
    ),
  )

  pub field_moves : (m n : List ℕ) → FieldsGo p q d m n → FieldsGo q p d n m → (o : Option Field) → IsFoundField p d m o →
      IsFoundField q d n (option_map (field_called n) o)
  field_moves m n there back None none = λ rank f t c h.
      none rank f t (back rank f c) (field_form_stays q p (turned p q alike) rank f c.is_field.has_rank t h)
  field_moves m n there back (Some x) h = (
    h.0,
    (
      there x.symbol.rank h.0 h.1.0,
      field_form_stays p q alike x.symbol.rank h.0 h.1.0.is_field.has_rank x.form h.1.1,
      h.1.2 ∙ sym (symbols p q alike x.symbol.rank),
      refl,
    ),
  )

  -- methods

  found_signature : (rank : ℕ) (f : PlacedFunction) → slice_get (package_functions p) rank ≡ Some f → (o : Option Signature) → IsFoundSignature p f o →
      IsFoundSignature q f o
  found_signature rank f at None none = λ s h.
      none s (signature q p (turned p q alike) rank f (got_by (package_functions p) (package_functions q) rank f alike.functions at) s h)
  found_signature rank f at (Some s) h = signature p q alike rank f at s h

  pub method_stays : (name : List ℕ) → MethodsGo p q d name name → MethodsGo q p d name name → (o : Option Method) → IsFoundMethod p d name o →
      IsFoundMethod q d name o
  method_stays name there back None none = λ rank f c. none rank f (back rank f c).0
  method_stays name there back (Some x) h =
      let k = there x.symbol.rank h.0 h.1 in (
        h.0,
        k.0,
        found_signature x.symbol.rank h.0 h.1.is_method.has_rank x.signature h.2,
        h.3 ∙ ap is_on_pointer (sym k.1),
        h.4 ∙ sym (symbols p q alike x.symbol.rank),
        h.5,
      )

  pub method_moves : (m n : List ℕ) → MethodsGo p q d m n → MethodsGo q p d n m → (o : Option Method) → IsFoundMethod p d m o →
      IsFoundMethod q d n (option_map (method_called n) o)
  method_moves m n there back None none = λ rank f c. none rank f (back rank f c).0
  method_moves m n there back (Some x) h =
      let k = there x.symbol.rank h.0 h.1 in (
        h.0,
        k.0,
        found_signature x.symbol.rank h.0 h.1.is_method.has_rank x.signature h.2,
        h.3 ∙ ap is_on_pointer (sym k.1),
        h.4 ∙ sym (symbols p q alike x.symbol.rank),
        refl,
      )
