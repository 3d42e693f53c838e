-- The type definitions of a workspace with a method of one of two names. definition: the type definitions.
use Rattle.std.specs.Prelude.{ℕ, ◌≡◌, ◌↔◌, ◌||◌, Bool, true, false, List, [], ◌∷◌, Some, Contains, is_some, slice_get}
use Rattle.base_files.specs.Packages.{package_paths}
use Rattle.types_expr.specs.declared.symbol.Symbol.{Symbol}
use Rattle.types_expr.specs.declared.world.Definition.{Definition as Held}
use Rattle.types_expr.specs.declared.world.Definitions.{Definitions}
use Rattle.types_expr.specs.Types.{Underlying, Interface}
use Rattle.types_expr.specs.World.{Definition}
use Rattle.types_expr.specs.WorldView.{definition_of, imported_at}
use Rattle.refs_binding.specs.WorkspaceFindings.{WorkspaceFindings}
use Rattle.refactor_coupled.specs.RenamedTypesView.{definitions_in, types_of}

-- whether the definition writes a member of one of the names
abbrev pub writes_either : Definition → (old new : List ℕ) → Bool
writes_either d old new = is_some (d.field old) || is_some (d.field new)

-- whether the underlying type is an interface that asks for a method of one of the names
abbrev pub asks_either : (Symbol → Definition) → Underlying → (old new : List ℕ) → Bool
asks_either definition (Interface s) old new = writes_either (definition s) old new
asks_either definition u old new = false

-- whether the type, or a pointer to it, has a method of one of the names
abbrev pub has_either_by : (Symbol → Definition) → Definition → Underlying → (old new : List ℕ) → Bool
has_either_by definition d (Interface s) old new = writes_either (definition s) old new
has_either_by definition d u old new = is_some (d.method old) || is_some (d.method new)

abbrev pub has_either : (Symbol → Definition) → Definition → (old new : List ℕ) → Bool
has_either definition d old new = has_either_by definition d d.underlying old new

-- whether the definition is sought: as an interface alone, or as any type
abbrev pub is_sought_type : (Symbol → Definition) → Definition → (old new : List ℕ) → (only_interfaces : Bool) → Bool
is_sought_type definition d old new true = asks_either definition d.underlying old new
is_sought_type definition d old new false = has_either definition d old new

-- The symbol is that of the definition, which has this rank in the package at the path. It is sought.
pub record IsSoughtHeld (ds : Definitions) (old new : List ℕ) (only_interfaces : Bool) (path : List ℕ) (held : Held) (rank : ℕ) (s : Symbol) : Type 0 where
  pub sought : is_sought_type (definitions_in ds) (definition_of held) old new only_interfaces ≡ true
  pub is_symbol : s ≡ record { «package» = path; rank = rank }

-- The symbol is that of the definition of this rank in the list, which has those of the package at the path. It is sought.
pub record IsSoughtAt (ds : Definitions) (old new : List ℕ) (only_interfaces : Bool) (path : List ℕ) (own : List Held) (rank : ℕ) (s : Symbol) : Type 0 where
  pub held : Held
  pub has_rank : slice_get own rank ≡ Some held
  pub sought : is_sought_type (definitions_in ds) (definition_of held) old new only_interfaces ≡ true
  pub is_symbol : s ≡ record { «package» = path; rank = rank }

-- So is one of the list.
abbrev pub IsSoughtAmong : Definitions → (old new : List ℕ) → (only_interfaces : Bool) → (path : List ℕ) → List Held → Symbol → Type 0
IsSoughtAmong ds old new only_interfaces path own s = (rank : ℕ) × IsSoughtAt ds old new only_interfaces path own rank s

-- The symbol is that of a sought type definition of one of the packages.
pub record IsSoughtType (ds : Definitions) (old new : List ℕ) (only_interfaces : Bool) (paths : List (List ℕ)) (s : Symbol) : Type 0 where
  pub of_package : Contains paths s.package
  pub held : Held
  pub is_held : imported_at ds s ≡ Some held
  pub sought : is_sought_type (definitions_in ds) (definition_of held) old new only_interfaces ≡ true

-- The symbol is that of a sought type definition of the package of this number.
pub record IsSoughtOf (ds : Definitions) (old new : List ℕ) (only_interfaces : Bool) (paths : List (List ℕ)) (number : ℕ) (s : Symbol) : Type 0 where
  pub path : List ℕ
  pub has_number : slice_get paths number ≡ Some path
  pub sought : IsSoughtType ds old new only_interfaces (path ∷ []) s

-- The list has exactly the sought type definitions of all packages.
abbrev pub AreCalled : WorkspaceFindings → (old new : List ℕ) → (only_interfaces : Bool) → List Symbol → Type 0
AreCalled w old new only_interfaces found = (s : Symbol) →
    Contains found s ↔ IsSoughtType (types_of w) old new only_interfaces (package_paths w.graph) s
