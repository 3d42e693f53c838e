-- The faults of members: repeated fields and methods, and type definitions that contain themselves.
use Rattle.std.specs.Prelude.{ℕ, ◌≡◌, ◌⊎◌, List, Some, slice_get, Contains}
use Rattle.base_files.specs.declared.fault_kind.FaultKind.TheVariants as kind
use Rattle.types_declared.specs.declared.fault.Fault.{Fault}
use Rattle.go_ast.specs.Tree.{Local}
use Rattle.types_declared.specs.Package.{Package, PlacedType, PlacedFunction, package_types}
use Rattle.types_declared.specs.Written.{BindsToken, DeclaresType, contained_types}
use Rattle.types_declared.specs.Definitions.{PlacedField, IsFieldOf, IsCountingField, IsMethodOf, IsCountingMethod}

-- the fault, at its name, of a field that doesn't count
pub record IsRepeatedField (p : Package) (f : Fault) : Type 0 where
  pub definition : ℕ
  pub name : List ℕ
  pub rank : ℕ
  pub field : PlacedField
  pub is_field : IsFieldOf p definition name rank field
  pub displaced : IsCountingField p definition name rank field → ⊥
  pub at : f ≡ record { file = field.file; token = field.name; kind = kind.Repeated }

-- the fault, at its name, of a method that doesn't count
pub record IsRepeatedMethod (p : Package) (f : Fault) : Type 0 where
  pub definition : ℕ
  pub name : List ℕ
  pub rank : ℕ
  pub method : PlacedFunction
  pub is_method : IsMethodOf p definition name rank method
  pub displaced : IsCountingMethod p definition name rank method → ⊥
  pub at : f ≡ record { file = method.file; token = method.function.name; kind = kind.Repeated }

-- the definition outer contains the definition inner as its own type or as the type of a field, not under a pointer or slice
pub record ContainsDirectly (p : Package) (outer inner : ℕ) : Type 0 where
  pub definition : PlacedType
  pub has_rank : slice_get (package_types p) outer ≡ Some definition
  pub name : ℕ
  pub written : Contains (contained_types definition.spec.body) (Local name)
  pub declaration : ℕ
  pub binds : BindsToken p definition.file name declaration
  pub names : DeclaresType p declaration inner

-- the definition of the first rank contains that of the second, directly or through other definitions
pub data ContainsType (p : Package) : ℕ → ℕ → Type 0 where
  directly : {a b : ℕ} → ContainsDirectly p a b → ContainsType p a b
  through : {a b c : ℕ} → ContainsDirectly p a b → ContainsType p b c → ContainsType p a c

-- The fault, at its name, of a type definition that contains itself:
--
--   type A struct { b B }
--   type B struct { a A }
pub record IsRecursive (p : Package) (f : Fault) : Type 0 where
  pub rank : ℕ
  pub definition : PlacedType
  pub has_rank : slice_get (package_types p) rank ≡ Some definition
  pub holds_itself : ContainsType p rank rank
  pub at : f ≡ record { file = definition.file; token = definition.spec.name; kind = kind.Recursive }

-- f is a fault of the package's members
abbrev pub IsMemberFault : Package → Fault → Type 0
IsMemberFault p f = IsRepeatedField p f ⊎ (IsRepeatedMethod p f ⊎ IsRecursive p f)
