-- The type definitions of a package: their underlying types, and the fields and methods that count.
use Rattle.std.specs.Prelude.{ℕ, suc, ◌≡◌, ◌<◌, Bool, true, is_some, List, [], ◌∷◌, ◌++◌, map, Option, Some, None, All, slice_get}
use Rattle.std.specs.List.{flat_map}
use Rattle.go_ast.specs.Tree.{Item, TypeTree, BodyTree, Other, Struct, Interface, ReceiverTree, ParamTree, ResultTree}
use Rattle.types_expr.specs.declared.symbol.Symbol.{Symbol}
use Rattle.types_expr.specs.Types.{PlainType, BasicType, Defined, Pointer, Slice, Underlying, Plain, PointerTo, SliceOf, Signature}
use Rattle.types_expr.specs.Types.{Struct as StructOf, Interface as InterfaceOf, WrittenAs, AFieldOf, AMethodOf}
use Rattle.types_expr.specs.World.{Definition, Field, Method}
use Rattle.types_expr.specs.WorldView.{no_definition}
use Rattle.types_declared.specs.Laid.{is_exported}
use Rattle.types_declared.specs.Package.{Package, PlacedType, PlacedFunction, package_types, package_functions, symbol_in, spelled}
use Rattle.types_declared.specs.Written.{BindsToken, DeclaresType, DenotesType, IsTypeOf, signature_types}
use Rattle.types_declared.specs.MeaningOf.{IsSignatureOf}

-- The underlying type of a type, of this package or of an imported one (the Go specification, "Underlying types"). It is found through
-- definitions, broken or not, up to a predeclared type, a pointer, a slice, a struct or an interface. A struct is identified by the
-- definition that writes it, and so is an interface. A type has none where its definitions form a cycle or name no type.
pub data HasUnderlying (p : Package) : PlainType → Underlying → Type 0 where
  basic : {b : _} → HasUnderlying p (BasicType b) (Plain b)
  pointer : {t : PlainType} → HasUnderlying p (Pointer t) (PointerTo t)
  slice : {t : PlainType} → HasUnderlying p (Slice t) (SliceOf t)
  struct : {rank : ℕ} {d : PlacedType} {k o c : ℕ} {fs : _} → slice_get (package_types p) rank ≡ Some d → d.spec.body ≡ Struct k o fs c →
      HasUnderlying p (Defined (symbol_in p rank)) (StructOf (symbol_in p rank))
  interface : {rank : ℕ} {d : PlacedType} {k o c : ℕ} {ms : _} → slice_get (package_types p) rank ≡ Some d → d.spec.body ≡ Interface k o ms c →
      HasUnderlying p (Defined (symbol_in p rank)) (InterfaceOf (symbol_in p rank))
  named : {rank : ℕ} {d : PlacedType} {tree : TypeTree} {t : PlainType} {u : Underlying} → slice_get (package_types p) rank ≡ Some d →
      d.spec.body ≡ Other tree → DenotesType p d.file tree t →
      HasUnderlying p t u → HasUnderlying p (Defined (symbol_in p rank)) u
  imported : {path : List ℕ} {rank : ℕ} → (path ≡ p.path → ⊥) →
      HasUnderlying p (Defined (record { «package» = path; rank = rank })) (((p.export_data_of path).definition rank).underlying)

-- Members that definitions write: each name of each struct, and each method that an interface asks for, in the order of path and offset.
-- The rank of a written member is its index in this list. Below, fields are written members of both kinds.

-- what a written member has: a field its type expression, a method that an interface asks for its parameters and results
pub data WrittenForm : Type 0 where
  OfType : TypeTree → WrittenForm
  OfSignature : List (Item ParamTree) → ResultTree → WrittenForm

-- what is said of each type expression of a written member
abbrev pub OfForm : (TypeTree → Type 0) → WrittenForm → Type 0
OfForm P (OfType t) = P t
OfForm P (OfSignature ps r) = All P (signature_types ps r)

-- a written member: the rank of its definition, the rank of its file, the token of its name, and its form
pub record PlacedField : Type 0 where
  pub definition : ℕ
  pub file : ℕ
  pub name : ℕ
  pub form : WrittenForm

-- the members that a definition's body writes; none where it is neither a struct nor an interface
abbrev pub body_fields : (definition file : ℕ) → BodyTree → List PlacedField
body_fields definition file (Other t) = []
body_fields definition file (Struct k o fs c) =
    flat_map (λ i. map (λ n. record { definition = definition; file = file; name = n.value; form = OfType i.value.type_use }) i.value.names) fs
body_fields definition file (Interface k o ms c) =
    map (λ i. record { definition = definition; file = file; name = i.value.name; form = OfSignature i.value.params i.value.result }) ms

-- the fields of type definitions whose ranks begin at rank
abbrev pub fields_from : ℕ → List PlacedType → List PlacedField
fields_from rank [] = []
fields_from rank (d ∷ ds) = body_fields rank d.file d.spec.body ++ fields_from (suc rank) ds

-- the fields of a package, by rank
abbrev pub package_fields : Package → List PlacedField
package_fields p = fields_from 0 (package_types p)

-- the field f of this rank has this name and is in the struct of this definition
pub record IsFieldOf (p : Package) (definition : ℕ) (name : List ℕ) (rank : ℕ) (f : PlacedField) : Type 0 where
  pub has_rank : slice_get (package_fields p) rank ≡ Some f
  pub of_struct : f.definition ≡ definition
  pub named : spelled p f.file f.name ≡ name

-- the field f counts: it is the first of its name in its struct
pub record IsCountingField (p : Package) (definition : ℕ) (name : List ℕ) (rank : ℕ) (f : PlacedField) : Type 0 where
  pub is_field : IsFieldOf p definition name rank f
  pub first : (other : ℕ) (g : PlacedField) → other < rank → IsFieldOf p definition name other g → ⊥

-- Methods: functions with a receiver whose type name is bound to a definition of the package

-- whether a receiver's type is a pointer, as in `func (r *T) m()`
abbrev pub is_on_pointer : ReceiverTree → Bool
is_on_pointer r = is_some r.star

-- the function f of this rank is a method of this name whose receiver names this definition
pub record IsMethodOf (p : Package) (definition : ℕ) (name : List ℕ) (rank : ℕ) (f : PlacedFunction) : Type 0 where
  pub has_rank : slice_get (package_functions p) rank ≡ Some f
  pub receiver : ReceiverTree
  pub received : f.function.receiver ≡ Some receiver
  pub declaration : ℕ
  pub binds : BindsToken p f.file receiver.type_name declaration
  pub of_type : DeclaresType p declaration definition
  pub named : spelled p f.file f.function.name ≡ name

-- The underlying type of the definition is a struct with a field of this name. The struct may be in an imported package; there only an
-- exported field counts:
--
--   import "q"
--   type T q.S // q: type S struct { A int; b int }
--   func (t T) A() {} // a field of T has this name
--   func (t T) b() {} // no field of T has this name
pub data HasFieldNamed (p : Package) (definition : ℕ) (name : List ℕ) : Type 0 where
  of_own : {rank field : ℕ} {f : PlacedField} → HasUnderlying p (Defined (symbol_in p definition)) (StructOf (symbol_in p rank)) →
      IsFieldOf p rank name field f → HasFieldNamed p definition name
  of_imported : {path : List ℕ} {rank : ℕ} {f : Field} →
      HasUnderlying p (Defined (symbol_in p definition)) (StructOf (record { «package» = path; rank = rank })) → (path ≡ p.path → ⊥) →
      ((p.export_data_of path).definition rank).field name ≡ Some f → f.exported ≡ true → HasFieldNamed p definition name

-- the method f counts: no field of the type has its name, and no earlier method of the definition has it
pub record IsCountingMethod (p : Package) (definition : ℕ) (name : List ℕ) (rank : ℕ) (f : PlacedFunction) : Type 0 where
  pub is_method : IsMethodOf p definition name rank f
  pub no_field : HasFieldNamed p definition name → ⊥
  pub first : (other : ℕ) (g : PlacedFunction) → other < rank → IsMethodOf p definition name other g → ⊥

-- Definitions as expressions see them. A definition with a broken field type is broken, and no rule looks at its fields.

-- what is written stands for this type, or for this signature
abbrev pub HasForm : Package → ℕ → WrittenForm → WrittenAs → Type 0
HasForm p file (OfType x) (AFieldOf t) = IsTypeOf p file x t
HasForm p file (OfType x) (AMethodOf s) = ⊥
HasForm p file (OfSignature ps r) (AFieldOf t) = ⊥
HasForm p file (OfSignature ps r) (AMethodOf s) = IsSignatureOf p file ps r s

-- the definition's written member of this name, with its type or signature; none where none of this name counts or what it is written with is
-- broken
abbrev pub IsFoundField : Package → ℕ → List ℕ → Option Field → Type 0
IsFoundField p definition name None = (rank : ℕ) (f : PlacedField) (t : WrittenAs) → IsCountingField p definition name rank f →
    HasForm p f.file f.form t → ⊥
IsFoundField p definition name (Some x) = (f : PlacedField) × (IsCountingField p definition name x.symbol.rank f × HasForm p f.file f.form x.form
    × (x.symbol ≡ symbol_in p x.symbol.rank) × (x.exported ≡ is_exported name))

-- the signature of parameters and results in a file; none where a type expression in them is broken
abbrev pub IsSignatureFound : Package → (file : ℕ) → List (Item ParamTree) → ResultTree → Option Signature → Type 0
IsSignatureFound p file params result None = (s : Signature) → IsSignatureOf p file params result s → ⊥
IsSignatureFound p file params result (Some s) = IsSignatureOf p file params result s

-- the signature of the function f
abbrev pub IsFoundSignature : Package → PlacedFunction → Option Signature → Type 0
IsFoundSignature p f o = IsSignatureFound p f.file f.function.params f.function.result o

-- the definition's method of this name, with its signature and kind of receiver; none where no method of this name counts
abbrev pub IsFoundMethod : Package → ℕ → List ℕ → Option Method → Type 0
IsFoundMethod p definition name None = (rank : ℕ) (f : PlacedFunction) → IsCountingMethod p definition name rank f → ⊥
IsFoundMethod p definition name (Some x) = (f : PlacedFunction) × (c : IsCountingMethod p definition name x.symbol.rank f) × IsFoundSignature p f x.signature
    × (x.on_pointer ≡ is_on_pointer c.is_method.receiver) × (x.symbol ≡ symbol_in p x.symbol.rank) × (x.exported ≡ is_exported name)

-- the underlying type of the definition of this rank; where it has none, a struct of its own
pub data IsUnderlyingOf (p : Package) (rank : ℕ) : Underlying → Type 0 where
  has : {u : Underlying} → HasUnderlying p (Defined (symbol_in p rank)) u → IsUnderlyingOf p rank u
  has_none : ((u : Underlying) → HasUnderlying p (Defined (symbol_in p rank)) u → ⊥) → IsUnderlyingOf p rank (StructOf (symbol_in p rank))

-- d has the underlying type, the fields and the methods of the definition of this rank
pub record IsDefinition (p : Package) (rank : ℕ) (d : Definition) : Type 0 where
  pub underlying : IsUnderlyingOf p rank d.underlying
  pub fields : (name : List ℕ) → IsFoundField p rank name (d.field name)
  pub methods : (name : List ℕ) → IsFoundMethod p rank name (d.method name)

-- the function gives the definition of each symbol, of this package and of imported ones; there is at most one such function
pub record AreDefinitions (p : Package) (definition : Symbol → Definition) : Type 0 where
  pub own : (rank : ℕ) (d : PlacedType) → slice_get (package_types p) rank ≡ Some d → IsDefinition p rank (definition (symbol_in p rank))
  pub beyond : (rank : ℕ) → slice_get (package_types p) rank ≡ None → definition (symbol_in p rank) ≡ no_definition (symbol_in p rank)
  pub imported : (path : List ℕ) (rank : ℕ) → (path ≡ p.path → ⊥) →
      definition (record { «package» = path; rank = rank }) ≡ (p.export_data_of path).definition rank
