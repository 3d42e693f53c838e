-- Which methods are coupled, and what a rename renames with one of them. definition: the type definitions of the workspace.
use Rattle.std.specs.Prelude.{ℕ, ◌≡◌, ◌⊎◌, ◌↔◌, Bool, true, false, List, Some, Contains}
use Rattle.types_expr.specs.declared.symbol.Symbol.{Symbol}
use Rattle.types_expr.specs.Types.{PlainType, Defined, Pointer, Underlying, Plain, PointerTo, SliceOf, Struct, Interface, Signature, AMethodOf}
use Rattle.types_expr.specs.World.{Definition, SetMethod, Implements, in_set, Field as Written}
use Rattle.types_declared.specs.Package.{Package}
use Rattle.refs_binding.specs.declared.declaration.Declaration.{Declaration}
use Rattle.refs_binding.specs.declared.declaration.Declaration.TheVariants.{Field, Method}
use Rattle.refactor_coupled.specs.Implementing.{AreAllDefinitions}

-- T, or `*T` behind a star
abbrev pub type_through : (star : Bool) → Symbol → PlainType
type_through false s = Defined s
type_through true s = Pointer (Defined s)

-- The declaration of a method in the method set of a type with this underlying type: what an interface asks for is a member that it writes.
abbrev pub declaration_in_set : Underlying → Symbol → Declaration
declaration_in_set (Plain b) method = Method method
declaration_in_set (PointerTo t) method = Method method
declaration_in_set (SliceOf t) method = Method method
declaration_in_set (Struct s) method = Method method
declaration_in_set (Interface i) method = Field method

-- The interface asks for the method `e` under this name.
pub record AsksFor (definition : Symbol → Definition) (interface : Symbol) (name : List ℕ) (e : Declaration) : Type 0 where
  pub written : Written
  pub is_written : (definition interface).field name ≡ Some written
  pub signature : Signature
  pub is_method : written.form ≡ AMethodOf signature
  pub is_declaration : e ≡ Field written.symbol

-- The method set of T, or of `*T` behind a star, has the method `d` under this name.
pub record HasInSet (definition : Symbol → Definition) (star : Bool) (of : Symbol) (name : List ℕ) (d : Declaration) : Type 0 where
  pub method : SetMethod
  pub is_method : in_set definition star of name ≡ Some method
  pub is_declaration : d ≡ declaration_in_set (definition of).underlying method.symbol

-- T or `*T` implements an interface, and by its method `d` has what this asks for by `e`. T may be an interface too.
--
--   type I interface { M() }
--   type T struct{}
--   func (t *T) M() {}   // coupled with the M of I, since *T implements I
pub record Meets (definition : Symbol → Definition) (d e : Declaration) : Type 0 where
  pub of : Symbol
  pub star : Bool
  pub interface : Symbol
  pub implements : Implements definition (type_through star of) interface
  pub name : List ℕ
  pub asked : AsksFor definition interface name e
  pub has : HasInSet definition star of name d

-- One of the two methods has what the other asks for.
abbrev pub IsCoupled : (Symbol → Definition) → Declaration → Declaration → Type 0
IsCoupled definition d e = Meets definition d e ⊎ Meets definition e d

-- The declaration is a method that an interface asks for.
pub record IsAskedMethod (definition : Symbol → Definition) (d : Declaration) : Type 0 where
  pub interface : Symbol
  pub name : List ℕ
  pub asked : AsksFor definition interface name d

-- What is renamed with `d`. With a method that an interface asks for that is the least set that is closed under coupling, else `d` alone.
--
--   type I interface { M() }
--   func (t T) M() {}   // renamed with the M of I; renamed alone where the rename begins here
pub data RenamedWith (definition : Symbol → Definition) (d : Declaration) : Declaration → Type 0 where
  itself : RenamedWith definition d d
  coupled : {e f : Declaration} → IsAskedMethod definition d → RenamedWith definition d e → IsCoupled definition e f → RenamedWith definition d f

-- The list has just what is renamed with `d`, in a workspace of these packages.
pub record IsRenamedSet (IsPackage : Package → Type 0) (d : Declaration) (set : List Declaration) : Type 0 where
  pub definition : Symbol → Definition
  pub are_definitions : AreAllDefinitions IsPackage definition
  pub each : (e : Declaration) → Contains set e ↔ RenamedWith definition d e
