-- What the definition of a written member is: a struct writes fields, an interface methods.
use Rattle.std.proofs.Common.{ℕ, suc, ◌≡◌, ◌+◌, inl, inr, List, [], ◌∷◌, map, refl, subst, arith}
use Rattle.std.specs.Prelude.{Some, slice_get}
use Rattle.go_ast.specs.Tree.{Item, FieldTree, MethodTree, BodyTree, Other, Struct, Interface}
use Rattle.types_expr.specs.Types.{PlainType, Defined, Signature, AFieldOf, AMethodOf}
use Rattle.types_expr.specs.Types.{Struct as StructOf, Interface as InterfaceOf}
use Rattle.types_declared.specs.Package.{Package, PlacedType, package_types, symbol_in}
use Rattle.types_declared.specs.Definitions.{PlacedField, WrittenForm, OfType, OfSignature, HasForm}
use Rattle.types_declared.specs.Definitions.{HasUnderlying, struct, interface, body_fields, fields_from, package_fields}
use Rattle.types_info.proofs.DeclKinds.{Holds, holds_append, holds_flat, holds_got, holds_map}

-- the body writes members of this form
abbrev WritesForm : BodyTree → WrittenForm → Type 0
WritesForm (Other t) form = ⊥
WritesForm (Struct k o fs c) (OfType t) = Unit {0}
WritesForm (Struct k o fs c) (OfSignature ps r) = ⊥
WritesForm (Interface k o ms c) (OfType t) = ⊥
WritesForm (Interface k o ms c) (OfSignature ps r) = Unit {0}

body_form : (rank file : ℕ) (b : BodyTree) (f : PlacedField) → Holds (body_fields rank file b) f → (f.definition ≡ rank) × WritesForm b f.form
body_form rank file (Other t) f h = absurd h
body_form rank file (Struct k o fs c) f h =
    let x = holds_flat (λ (i : Item FieldTree). map
    (λ (n : Item ℕ). record { definition = rank; file = file; name = n.value; form = OfType i.value.type_use }) i.value.names) fs f h in
    let n = holds_map (λ (n : Item ℕ). record {
      definition = rank;
      file = file;
      name = n.value;
      form = OfType x.0.value.type_use;
    }) x.0.value.names f x.1.1 in
    subst (λ (z : PlacedField). (z.definition ≡ rank) × WritesForm (Struct k o fs c) z.form) n.1.1 (refl, tt)
body_form rank file (Interface k o ms c) f h =
    let i = holds_map (λ (m : Item MethodTree). record {
      definition = rank;
      file = file;
      name = m.value.name;
      form = OfSignature m.value.params m.value.result;
    }) ms f h in
    subst (λ (z : PlacedField). (z.definition ≡ rank) × WritesForm (Interface k o ms c) z.form) i.1.1 (refl, tt)

-- one of some definitions writes the member, by its rank from a first one on
record IsFormAmong (first : ℕ) (ds : List PlacedType) (f : PlacedField) : Type 0 where
  place : ℕ
  definition : PlacedType
  stands : slice_get ds place ≡ Some definition
  of_rank : f.definition ≡ first + place
  writes : WritesForm definition.spec.body f.form

form_among : (first : ℕ) (ds : List PlacedType) (f : PlacedField) → Holds (fields_from first ds) f → IsFormAmong first ds f
form_among first [] f h = absurd h
form_among first (d ∷ ds) f h = elim (holds_append (body_fields first d.file d.spec.body) (fields_from (suc first) ds) f h) [
  | inl here ↦
      let x = body_form first d.file d.spec.body f here in
      record { place = 0; definition = d; stands = refl; of_rank = (let e : f.definition ≡ first = x.0 in omega arith); writes = x.1 }
  | inr later ↦
      let x = form_among (suc first) ds f later in
      record {
        place = suc x.place;
        definition = x.definition;
        stands = x.stands;
        of_rank = (let e : f.definition ≡ suc first + x.place = x.of_rank in omega arith);
        writes = x.writes;
      }
]

-- the definition of a written member
record IsWriter (p : Package) (f : PlacedField) : Type 0 where
  definition : PlacedType
  has_rank : slice_get (package_types p) f.definition ≡ Some definition
  writes : WritesForm definition.spec.body f.form

writer_of : (p : Package) (rank : ℕ) (f : PlacedField) → slice_get (package_fields p) rank ≡ Some f → IsWriter p f
writer_of p rank f at =
    let x = form_among 0 (package_types p) f (holds_got (package_fields p) rank f at) in
    let same : x.place ≡ f.definition = (let e : f.definition ≡ 0 + x.place = x.of_rank in omega arith) in
    record {
      definition = x.definition;
      has_rank = subst (λ n. slice_get (package_types p) n ≡ Some x.definition) same x.stands;
      writes = x.writes;
    }

interface_body : (p : Package) (rank : ℕ) (d : PlacedType) → slice_get (package_types p) rank ≡ Some d → (b : BodyTree) → d.spec.body ≡ b →
    (form : WrittenForm) → WritesForm b form → (file : ℕ) (g : Signature) → HasForm p file form (AMethodOf g) →
    HasUnderlying p (Defined (symbol_in p rank)) (InterfaceOf (symbol_in p rank))
interface_body p rank d at (Interface k o ms c) e (OfSignature ps r) writes file g h = interface at e
interface_body p rank d at (Interface k o ms c) e (OfType t) writes file g h = absurd writes
interface_body p rank d at (Struct k o fs c) e (OfSignature ps r) writes file g h = absurd writes
interface_body p rank d at (Struct k o fs c) e (OfType t) writes file g h = absurd h
interface_body p rank d at (Other t) e form writes file g h = absurd writes

struct_body : (p : Package) (rank : ℕ) (d : PlacedType) → slice_get (package_types p) rank ≡ Some d → (b : BodyTree) → d.spec.body ≡ b →
    (form : WrittenForm) → WritesForm b form → (file : ℕ) (t : PlainType) → HasForm p file form (AFieldOf t) →
    HasUnderlying p (Defined (symbol_in p rank)) (StructOf (symbol_in p rank))
struct_body p rank d at (Struct k o fs c) e (OfType x) writes file t h = struct at e
struct_body p rank d at (Struct k o fs c) e (OfSignature ps r) writes file t h = absurd writes
struct_body p rank d at (Interface k o ms c) e (OfType x) writes file t h = absurd writes
struct_body p rank d at (Interface k o ms c) e (OfSignature ps r) writes file t h = absurd h
struct_body p rank d at (Other x) e form writes file t h = absurd writes

-- A method that is written is one that an interface asks for. The interface is the underlying type of its own definition.
pub asking_interface : (p : Package) (rank : ℕ) (f : PlacedField) → slice_get (package_fields p) rank ≡ Some f → (g : Signature) →
    HasForm p f.file f.form (AMethodOf g) → HasUnderlying p (Defined (symbol_in p f.definition)) (InterfaceOf (symbol_in p f.definition))
asking_interface p rank f at g h =
    let w = writer_of p rank f at in interface_body p f.definition w.definition w.has_rank w.definition.spec.body refl f.form w.writes f.file g h

-- So is the struct of a field.
pub writing_struct : (p : Package) (rank : ℕ) (f : PlacedField) → slice_get (package_fields p) rank ≡ Some f → (t : PlainType) →
    HasForm p f.file f.form (AFieldOf t) → HasUnderlying p (Defined (symbol_in p f.definition)) (StructOf (symbol_in p f.definition))
writing_struct p rank f at t h =
    let w = writer_of p rank f at in struct_body p f.definition w.definition w.has_rank w.definition.spec.body refl f.form w.writes f.file t h
