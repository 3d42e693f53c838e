-- Whether the underlying type of a definition is a struct with a field of a name.
use Rattle.std.proofs.Common.{ℕ, ◌≡◌, Bool, true, List, length, ap, sym, subst, refl, ◌∙◌}
use Rattle.std.specs.Prelude.{Option, Some, None, ◌↔◌}
use Rattle.std.proofs.lemmas.Bool.{false≢true}
use Rattle.std.proofs.lemmas.Option.{slice_get_within}
use Rattle.go_scope.specs.WellFormed.{WellFormed}
use Rattle.types_expr.specs.declared.symbol.Symbol.{Symbol}
use Rattle.types_expr.specs.Types.{Defined, Underlying}
use Rattle.types_expr.specs.Types.{Struct as StructOf}
use Rattle.types_expr.specs.World.{Field}
use Rattle.types_expr.specs.WorldView.{underlying_of}
use Rattle.types_expr.specs.declared.world.Underlying.{Underlying as Found}
use Rattle.types_expr.specs.declared.world.Underlying.TheVariants as variant
use Rattle.types_declared.specs.Package.{Package, symbol_in}
use Rattle.types_declared.specs.Definitions.{package_fields, HasUnderlying, HasFieldNamed, of_own, of_imported}
use Rattle.types_members.specs.FieldsView.{IsFieldNamed}
use Rattle.types_members.specs.MemberNames.{AreNamesBelow}
use Rattle.types_members.specs.MembersView.{IsUnderlyingFound}
use Rattle.types_members.specs.MethodsView.{exported_field, StructHas, own, imported, UnderlyingHas}
use Rattle.types_declared.proofs.OneUnderlying.{one_underlying}

-- A struct of the package

pub own_has : (p : Package) (b : Bool) (noted : ℕ → List ℕ → Bool) (s : Symbol) (name : List ℕ) → b ≡ noted s.rank name →
    AreNamesBelow (IsFieldNamed p) (length (package_fields p)) noted →
    s.package ≡ p.path → (b ≡ true) ↔ StructHas p s name
own_has p b noted s name is h e = (
  (λ t. let w = h.only s.rank name (sym is ∙ t) in own {field = w.0} {f = w.1.1.field} e w.1.1.is_field),
  (λ has. elim has [
    | own {field} {f} same at ↦ is ∙ h.holds field s.rank name (slice_get_within (package_fields p) field f at.has_rank) (record { field = f; is_field = at })
    | imported other exported ↦ absurd (other e)
  ]),
)

-- a struct of another package
pub other_has : (p : Package) (b : Bool) (s : Symbol) (name : List ℕ) → (s.package ≡ p.path → ⊥) →
    b ≡ exported_field (((p.export_data_of s.package).definition s.rank).field name) → (b ≡ true) ↔ StructHas p s name
other_has p b s name ne e = (
  (λ t. imported ne (sym e ∙ t)),
  (λ has. elim has [
    | own same is ↦ absurd (ne same)
    | imported other exported ↦ e ∙ exported
  ]),
)

-- the symbol of a struct, or another one where the underlying type is no struct
abbrev symbol_or : Symbol → Underlying → Symbol
symbol_or s (StructOf t) = t
symbol_or s u = s

pub has_struct : (p : Package) (s : Symbol) (name : List ℕ) → StructHas p s name → UnderlyingHas p (StructOf s) name
has_struct p s name h = record { symbol = s; is_struct = refl; has = h }

pub struct_had : (p : Package) (s : Symbol) (name : List ℕ) → UnderlyingHas p (StructOf s) name → StructHas p s name
struct_had p s name h = subst (λ t. StructHas p t name) (sym (ap (symbol_or s) h.is_struct)) h.has

pub underlying_had : (p : Package) (v : Found) (s : Symbol) (name : List ℕ) (b : Bool) → v ≡ variant.Struct s → (b ≡ true) ↔ StructHas p s name →
    (b ≡ true) ↔ UnderlyingHas p (underlying_of v) name
unfolding underlying_of
underlying_had p v s name b e h = subst (λ w. (b ≡ true) ↔ UnderlyingHas p (underlying_of w) name) (sym e)
    ((λ t. has_struct p s name (h.0 t)), (λ u. h.1 (struct_had p s name u)))

-- The exported field of a definition

field_exported : (o : Option Field) → exported_field o ≡ true → (f : Field) × ((o ≡ Some f) × (f.exported ≡ true))
field_exported None e = absurd (false≢true e)
field_exported (Some f) e = (f, (refl, e))

symbol_from : (s : Symbol) (path : List ℕ) → s.package ≡ path → s ≡ record { «package» = path; rank = s.rank }
symbol_from s path e = ap (λ z. record { «package» = z; rank = s.rank }) e

-- By the underlying type

named_if : (p : Package) (definition : ℕ) (u : Underlying) (name : List ℕ) → HasUnderlying p (Defined (symbol_in p definition)) u → UnderlyingHas p u name →
    HasFieldNamed p definition name
named_if p definition u name is h =
    let known : HasUnderlying p (Defined (symbol_in p definition)) (StructOf h.symbol) =
    subst (HasUnderlying p (Defined (symbol_in p definition))) h.is_struct is in
    elim h.has [
      | own {field} {f} same at ↦ of_own {rank = h.symbol.rank} {field = field} {f = f}
          (subst (λ s. HasUnderlying p (Defined (symbol_in p definition)) (StructOf s)) (symbol_from h.symbol p.path same) known) at
      | imported other exported ↦ (
          let known_field = field_exported (((p.export_data_of h.symbol.package).definition h.symbol.rank).field name) exported in
          of_imported {path = h.symbol.package} {rank = h.symbol.rank} {f = known_field.0} known other known_field.1.0 known_field.1.1)
    ]

only_if : (p : Package) → WellFormed p.layout → (definition : ℕ) (u : Underlying) (name : List ℕ) → HasUnderlying p (Defined (symbol_in p definition)) u →
    HasFieldNamed p definition name → UnderlyingHas p u name
only_if p w definition u name is (of_own {rank = rank} {field = field} {f = f} has at) = record {
  symbol = symbol_in p rank;
  is_struct = one_underlying p w (Defined (symbol_in p definition)) u (StructOf (symbol_in p rank)) is has;
  has = own {field = field} {f = f} refl at;
}
only_if p w definition u name is (of_imported {path = path} {rank = rank} {f = f} has other found exported) = record {
  symbol = record { «package» = path; rank = rank };
  is_struct = one_underlying p w (Defined (symbol_in p definition)) u (StructOf (record { «package» = path; rank = rank })) is has;
  has = imported other (ap exported_field found ∙ exported);
}

pub field_named_by : (p : Package) → WellFormed p.layout → (definition : ℕ) (o : Option Underlying) (u : Underlying) (name : List ℕ) (b : Bool) →
    IsUnderlyingFound p definition o → o ≡ Some u →
    (b ≡ true) ↔ UnderlyingHas p u name → (b ≡ true) ↔ HasFieldNamed p definition name
field_named_by p w definition o u name b found e h =
    let is : HasUnderlying p (Defined (symbol_in p definition)) u = subst (IsUnderlyingFound p definition) e found in
    ((λ t. named_if p definition u name is (h.0 t)), (λ f. h.1 (only_if p w definition u name is f)))

-- a definition without an underlying type has no field
underlying_of_named : (p : Package) (definition : ℕ) (name : List ℕ) → HasFieldNamed p definition name → (u : Underlying) ×
    HasUnderlying p (Defined (symbol_in p definition)) u
underlying_of_named p definition name (of_own has at) = (_, has)
underlying_of_named p definition name (of_imported has other found exported) = (_, has)

pub no_field_named : (p : Package) (definition : ℕ) (o : Option Underlying) (name : List ℕ) → IsUnderlyingFound p definition o → o ≡ None →
    HasFieldNamed p definition name → ⊥
no_field_named p definition o name found e h =
    let none : (u : Underlying) → HasUnderlying p (Defined (symbol_in p definition)) u → ⊥ = subst (IsUnderlyingFound p definition) e found in
    let u = underlying_of_named p definition name h in
    none u.0 u.1
