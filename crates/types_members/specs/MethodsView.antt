-- The methods of a package, as the program finds them.
use Rattle.std.specs.Prelude.{ℕ, ◌≡◌, ◌↔◌, Bool, true, false, List, Option, Some, None, MatchOption}
use Rattle.go_ast.specs.Tree.{ReceiverTree}
use Rattle.types_expr.specs.declared.symbol.Symbol.{Symbol}
use Rattle.types_expr.specs.Types.{Underlying}
use Rattle.types_expr.specs.Types.{Struct as StructOf}
use Rattle.types_expr.specs.World.{Field}
use Rattle.types_declared.specs.Package.{Package, PlacedFunction, spelled}
use Rattle.types_declared.specs.Written.{BindsToken, DeclaresType}
use Rattle.types_declared.specs.Definitions.{PlacedField, IsFieldOf, HasFieldNamed}
use Rattle.types_members.specs.MemberNames.{AddsMemberName}

-- the function f is a method of the definition of this rank
pub record IsOwner (p : Package) (f : PlacedFunction) (definition : ℕ) : Type 0 where
  pub receiver : ReceiverTree
  pub received : f.function.receiver ≡ Some receiver
  pub declaration : ℕ
  pub binds : BindsToken p f.file receiver.type_name declaration
  pub of_type : DeclaresType p declaration definition

-- found is the only definition of which f is a method, or none where f is no method
abbrev pub IsOwnedBy : Package → PlacedFunction → Option ℕ → Type 0
IsOwnedBy p f found = MatchOption found ((d : ℕ) → IsOwner p f d → ⊥) (λ d. IsOwner p f d × ((other : ℕ) → IsOwner p f other → other ≡ d))

-- whether there is a field, and it is exported
abbrev pub exported_field : Option Field → Bool
exported_field None = false
exported_field (Some f) = f.exported

-- the struct that the symbol identifies has a field of this name; in an imported package's struct only exported fields count
pub data StructHas (p : Package) (s : Symbol) (name : List ℕ) : Type 0 where
  own : {field : ℕ} {f : PlacedField} → s.package ≡ p.path → IsFieldOf p s.rank name field f → StructHas p s name
  imported : (s.package ≡ p.path → ⊥) → exported_field (((p.export_data_of s.package).definition s.rank).field name) ≡ true → StructHas p s name

-- the underlying type is a struct with a field of this name
pub record UnderlyingHas (p : Package) (u : Underlying) (name : List ℕ) : Type 0 where
  pub symbol : Symbol
  pub is_struct : u ≡ StructOf symbol
  pub has : StructHas p symbol name

-- The name of f was added to those of its definition, if f is a method. The mark counts is true exactly where f is a method, its name was
-- new there, and no field has it.
pub data AddsMethodName (p : Package) (f : PlacedFunction) (owner : Option ℕ) (old new : ℕ → List ℕ → Bool) (counts : Bool) : Type 0 where
  no_method : owner ≡ None → ((d : ℕ) (n : List ℕ) → new d n ≡ old d n) → counts ≡ false → AddsMethodName p f owner old new counts
  method : {definition : ℕ} → owner ≡ Some definition → AddsMemberName old new definition (spelled p f.file f.function.name) →
      ((counts ≡ true) ↔ ((old definition (spelled p f.file f.function.name) ≡ false) ×
      (HasFieldNamed p definition (spelled p f.file f.function.name) → ⊥))) → AddsMethodName p f owner old new counts
