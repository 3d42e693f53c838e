-- The type definitions of a package while fields and methods are added to them, by rank.
use Rattle.std.specs.Prelude.{ℕ, ◌≡◌, ◌<◌, Bool, false, List, Option, Some, None, length, slice_get}
use Rattle.go_ast.specs.Tree.{ReceiverTree}
use Rattle.types_expr.specs.declared.world.Definition.{Definition}
use Rattle.types_expr.specs.Types.{WrittenAs, Signature}
use Rattle.types_expr.specs.World.{Field, Method}
use Rattle.types_expr.specs.World as plain
use Rattle.types_expr.specs.WorldView.{definition_of}
use Rattle.types_declared.specs.Laid.{is_exported}
use Rattle.types_declared.specs.Package.{Package, PlacedFunction, package_types, symbol_in, spelled}
use Rattle.types_declared.specs.Definitions.{PlacedField, WrittenForm, HasForm, IsCountingField, IsCountingMethod, IsFoundField, IsFoundSignature}
use Rattle.types_declared.specs.Definitions.{IsFoundMethod, IsUnderlyingOf, is_on_pointer}

-- the definition's field of this name, while only the fields below count are added
abbrev pub IsFieldBelow : Package → (count definition : ℕ) → List ℕ → Option Field → Type 0
IsFieldBelow p count definition name None = (rank : ℕ) (f : PlacedField) (t : WrittenAs) → rank < count → IsCountingField p definition name rank f →
    HasForm p f.file f.form t → ⊥
IsFieldBelow p count definition name (Some x) = IsFoundField p definition name (Some x)

-- the definition's method of this name, while only the methods below count are added
abbrev pub IsMethodBelow : Package → (count definition : ℕ) → List ℕ → Option Method → Type 0
IsMethodBelow p count definition name None = (rank : ℕ) (f : PlacedFunction) → rank < count → IsCountingMethod p definition name rank f → ⊥
IsMethodBelow p count definition name (Some x) = IsFoundMethod p definition name (Some x)

-- d is the definition of this rank with those fields and methods whose ranks are below these
pub record IsDefinitionBelow (p : Package) (fields methods rank : ℕ) (d : plain.Definition) : Type 0 where
  pub underlying : IsUnderlyingOf p rank d.underlying
  pub has_fields : (name : List ℕ) → IsFieldBelow p fields rank name (d.field name)
  pub has_methods : (name : List ℕ) → IsMethodBelow p methods rank name (d.method name)

-- found has the definitions of the package, with those fields and methods whose ranks are below these
pub record HaveMembersBelow (p : Package) (fields methods : ℕ) (found : List Definition) : Type 0 where
  pub all : length found ≡ length (package_types p)
  pub each : (rank : ℕ) (d : Definition) → slice_get found rank ≡ Some d → IsDefinitionBelow p fields methods rank (definition_of d)

-- the new definition has the field x under this name, and all else is as in the old one
pub record SetsField (old new : plain.Definition) (name : List ℕ) (x : Field) : Type 0 where
  pub underlying : new.underlying ≡ old.underlying
  pub here : new.field name ≡ Some x
  pub elsewhere : (n : List ℕ) → (n ≡ name → ⊥) → new.field n ≡ old.field n
  pub methods : (n : List ℕ) → new.method n ≡ old.method n

-- the new definition has the method x under this name, and all else is as in the old one
pub record SetsMethod (old new : plain.Definition) (name : List ℕ) (x : Method) : Type 0 where
  pub underlying : new.underlying ≡ old.underlying
  pub here : new.method name ≡ Some x
  pub elsewhere : (n : List ℕ) → (n ≡ name → ⊥) → new.method n ≡ old.method n
  pub fields : (n : List ℕ) → new.field n ≡ old.field n

-- the written member of this rank, with its type or signature, as expressions see it
abbrev pub typed_field : Package → ℕ → PlacedField → WrittenAs → Field
typed_field p rank f t = record { symbol = symbol_in p rank; exported = is_exported (spelled p f.file f.name); form = t }

-- the type or the signature that is written in a file; none where a type expression in it is broken
abbrev pub IsWrittenFound : Package → (file : ℕ) → WrittenForm → Option WrittenAs → Type 0
IsWrittenFound p file form None = (t : WrittenAs) → HasForm p file form t → ⊥
IsWrittenFound p file form (Some t) = HasForm p file form t

-- the type or the signature of a written member
abbrev pub IsFormFound : Package → PlacedField → Option WrittenAs → Type 0
IsFormFound p f found = IsWrittenFound p f.file f.form found

-- whether there is a receiver whose type is a pointer
abbrev pub received_by_pointer : Option ReceiverTree → Bool
received_by_pointer None = false
received_by_pointer (Some r) = is_on_pointer r

-- the method of this rank, with its signature, as expressions see it
abbrev pub signed_method : Package → ℕ → PlacedFunction → Option Signature → Method
signed_method p rank f s =
    record {
      symbol = symbol_in p rank;
      exported = is_exported (spelled p f.file f.function.name);
      on_pointer =
          received_by_pointer f.function.receiver;
      signature = s;
    }

-- the new definition has the method f, with its signature, and all else is as in the old one
pub record SetsMethodOf (p : Package) (rank : ℕ) (f : PlacedFunction) (old new : plain.Definition) : Type 0 where
  pub signature : Option Signature
  pub is_signature : IsFoundSignature p f signature
  pub sets : SetsMethod old new (spelled p f.file f.function.name) (signed_method p rank f signature)

-- the item at this place changed by the relation C, and no other item changed
pub record ChangesAt {X : Type 0} (old new : List X) (place : ℕ) (C : X → X → Type 0) : Type 0 where
  pub size : length new ≡ length old
  pub before : X
  pub after : X
  pub was : slice_get old place ≡ Some before
  pub is : slice_get new place ≡ Some after
  pub elsewhere : (i : ℕ) → (i ≡ place → ⊥) → slice_get new i ≡ slice_get old i
  pub changed : C before after

-- the written member f was added to its definition; nothing was added where a type expression in it is broken
pub data AddsField (p : Package) (rank : ℕ) (f : PlacedField) (old new : List Definition) : Type 0 where
  typed : {t : WrittenAs} → HasForm p f.file f.form t →
      ChangesAt old new f.definition (λ x y. SetsField (definition_of x) (definition_of y) (spelled p f.file f.name) (typed_field p rank f t)) →
      AddsField p rank f old new
  untyped : ((t : WrittenAs) → HasForm p f.file f.form t → ⊥) → new ≡ old → AddsField p rank f old new
