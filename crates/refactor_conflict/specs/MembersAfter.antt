-- The members of types under the new names of a change. Types, their structs and their methods are those of the workspace before the
-- change; only the names are new. IsPackage: the packages of that workspace.
use Rattle.std.specs.Prelude.{ℕ, ◌≡◌, ◌<◌, true, List, Option, Some}
use Rattle.types_declared.specs.Laid.{is_exported}
use Rattle.types_expr.specs.declared.symbol.Symbol.{Symbol}
use Rattle.types_expr.specs.Types.{PlainType, Defined, Underlying}
use Rattle.types_expr.specs.Types.{Struct as StructOf}
use Rattle.types_expr.specs.World.{field_owner, owner, is_seen}
use Rattle.types_declared.specs.Package.{Package, symbol_in}
use Rattle.types_declared.specs.Definitions.{HasUnderlying}
use Rattle.refs_binding.specs.declared.declaration.Declaration.{Declaration}
use Rattle.refs_binding.specs.declared.declaration.Declaration.TheVariants.{Predeclared, Declared, Field, Method}
use Rattle.base_edits.specs.Revisions.{Revision}
use Rattle.refs_binding.specs.DeclaringPlaces.{InPackage}
use Rattle.refactor_conflict.specs.NamesAfter.{IsFieldAfter, IsMethodAfter}

-- The first rank of which `K` holds.
pub record IsFirst (K : ℕ → Type 0) (rank : ℕ) : Type 0 where
  pub has : K rank
  pub first : (other : ℕ) → other < rank → K other → ⊥

-- The field of this rank is the first of the struct that has the name after the change. Of two fields of one name the first counts.
abbrev pub IsFirstField : Revision → Package → (definition : ℕ) → (name : List ℕ) → (rank : ℕ) → Type 0
IsFirstField r p definition name rank = IsFirst (IsFieldAfter r p definition name) rank

-- The name, written in the package `own`, selects the field of this rank in the struct. Names that are not exported select only in their
-- own package (Go specification, "Uniqueness of identifiers").
pub record IsFieldIn (IsPackage : Package → Type 0) (r : Revision) (own name : List ℕ) (struct : Symbol) (rank : ℕ) : Type 0 where
  pub seen : is_seen own struct (is_exported name) ≡ true
  pub has : InPackage IsPackage struct.package (λ p. IsFirstField r p struct.rank name rank)

-- The values of the type definition have a field of this name after the change: their underlying type is a struct that has one.
pub record HasFieldAfter (IsPackage : Package → Type 0) (r : Revision) (p : Package) (definition : ℕ) (name : List ℕ) : Type 0 where
  pub struct : Symbol
  pub underlying : HasUnderlying p (Defined (symbol_in p definition)) (StructOf struct)
  pub rank : ℕ
  pub has : IsFieldIn IsPackage r p.path name struct rank

-- The method of this rank counts for the type definition under this name: no field of its values and no earlier method has the name.
--
--   type T struct { size int }
--   func (t T) area() int { return 0 }   // doesn't count when area is renamed to size
pub record IsFirstMethod (IsPackage : Package → Type 0) (r : Revision) (p : Package) (definition : ℕ) (name : List ℕ) (rank : ℕ) : Type 0 where
  pub no_field : HasFieldAfter IsPackage r p definition name → ⊥
  pub has : IsFirst (IsMethodAfter r p definition name) rank

-- The name, written in the package `own`, selects the method of this rank for values of the type definition `of`.
pub record IsMethodIn (IsPackage : Package → Type 0) (r : Revision) (own name : List ℕ) (of : Symbol) (rank : ℕ) : Type 0 where
  pub seen : is_seen own of (is_exported name) ≡ true
  pub has : InPackage IsPackage of.package (λ p. IsFirstMethod IsPackage r p of.rank name rank)

-- There is a struct, and the name, written in the package `own`, selects this field of it.
pub record IsFieldOfStruct (IsPackage : Package → Type 0) (r : Revision) (own name : List ℕ) (struct : Option Symbol) (field : Symbol) : Type 0 where
  pub of_struct : Symbol
  pub is_struct : struct ≡ Some of_struct
  pub of_package : field.package ≡ of_struct.package
  pub has : IsFieldIn IsPackage r own name of_struct field.rank

-- There is a type definition, and the name, written in the package `own`, selects this method of it.
pub record IsMethodOfOwner (IsPackage : Package → Type 0) (r : Revision) (own name : List ℕ) (of : Option Symbol) (method : Symbol) : Type 0 where
  pub of_type : Symbol
  pub is_owner : of ≡ Some of_type
  pub of_package : method.package ≡ of_type.package
  pub has : IsMethodIn IsPackage r own name of_type method.rank

-- The member that the name, written in the package `own`, selects for the type `t`: a field of its struct, or else a method of its type
-- definition. definition: the underlying types of type definitions.
abbrev pub IsMemberAfter : (Package → Type 0) → Revision → (own name : List ℕ) → (definition : Symbol → Underlying) → PlainType → Declaration → Type 0
IsMemberAfter IsPackage r own name definition t (Predeclared n) = ⊥
IsMemberAfter IsPackage r own name definition t (Declared path d) = ⊥
IsMemberAfter IsPackage r own name definition t (Field s) = IsFieldOfStruct IsPackage r own name (field_owner definition t) s
IsMemberAfter IsPackage r own name definition t (Method s) =
    ((f : Symbol) → IsFieldOfStruct IsPackage r own name (field_owner definition t) f → ⊥) × IsMethodOfOwner IsPackage r own name (owner t) s

-- The field of this rank is the first of its name in its struct.
pub record FieldCounts (r : Revision) (p : Package) (rank : ℕ) : Type 0 where
  pub definition : ℕ
  pub name : List ℕ
  pub first : IsFirstField r p definition name rank

-- The method of this rank counts for its type definition under its name.
pub record MethodCounts (IsPackage : Package → Type 0) (r : Revision) (p : Package) (rank : ℕ) : Type 0 where
  pub definition : ℕ
  pub name : List ℕ
  pub first : IsFirstMethod IsPackage r p definition name rank

-- The declaration is a field or method that counts under its new name.
abbrev pub CountsAfter : (Package → Type 0) → Revision → Declaration → Type 0
CountsAfter IsPackage r (Predeclared n) = ⊥
CountsAfter IsPackage r (Declared path d) = ⊥
CountsAfter IsPackage r (Field s) = InPackage IsPackage s.package (λ p. FieldCounts r p s.rank)
CountsAfter IsPackage r (Method s) = InPackage IsPackage s.package (λ p. MethodCounts IsPackage r p s.rank)
