-- The names of fields and methods after a change. Types and their methods are those of the workspace before the change; only the names are
-- new.
use Rattle.std.specs.Prelude.{ℕ, ◌≡◌, List, Some, slice_get}
use Rattle.base_files.specs.declared.place.Place.{Place}
use Rattle.go_scope.specs.declared.model.Position.{Position}
use Rattle.types_declared.specs.Laid.{is_exported}
use Rattle.types_expr.specs.World.{Field, Method}
use Rattle.types_declared.specs.Package.{Package, PlacedFunction, package_functions, function_place, spelled}
use Rattle.types_declared.specs.Definitions.{PlacedField, package_fields}
use Rattle.types_members.specs.MethodsView.{IsOwner}
use Rattle.refs_binding.specs.Binding.{field_place}
use Rattle.base_edits.specs.Revisions.{Revision}
use Rattle.refs_binding.specs.DeclaringPlaces.{TokenAt}

-- The name after the change of the token at the position `at` of the package.
pub record HasNameAfter (r : Revision) (p : Package) (at : Position) (name : List ℕ) : Type 0 where
  pub place : Place
  pub stands : TokenAt p at place
  pub called : r.called place (spelled p at.file at.index) ≡ name

-- The field of this rank, in the struct that the type definition writes, has this name after the change.
pub record IsFieldAfter (r : Revision) (p : Package) (definition : ℕ) (name : List ℕ) (rank : ℕ) : Type 0 where
  pub field : PlacedField
  pub has_rank : slice_get (package_fields p) rank ≡ Some field
  pub of_struct : field.definition ≡ definition
  pub called : HasNameAfter r p (field_place field) name

-- The function of this rank is a method of the type definition, and has this name after the change.
pub record IsMethodAfter (r : Revision) (p : Package) (definition : ℕ) (name : List ℕ) (rank : ℕ) : Type 0 where
  pub method : PlacedFunction
  pub has_rank : slice_get (package_functions p) rank ≡ Some method
  pub of_type : IsOwner p method definition
  pub called : HasNameAfter r p (function_place method) name

-- a field or method under another name: the same, but for whether its name is exported
abbrev pub field_called : List ℕ → Field → Field
field_called name f = record { symbol = f.symbol; exported = is_exported name; form = f.form }

abbrev pub method_called : List ℕ → Method → Method
method_called name m = record { symbol = m.symbol; exported = is_exported name; on_pointer = m.on_pointer; signature = m.signature }
