-- The program's view of type definitions under the names that a rename gives.
use Rattle.std.specs.Prelude.{ℕ, Bool, true, false, not, ◌&&◌, ◌||◌, List, Option, Some, None}
use Rattle.std.specs.List.{list_all, list_any}
use Rattle.types_expr.specs.declared.symbol.Symbol.{Symbol}
use Rattle.types_expr.specs.declared.world.Definition.{Definition as Held}
use Rattle.types_expr.specs.declared.world.Definitions.{Definitions}
use Rattle.types_expr.specs.declared.world.Underlying.{Underlying as HeldUnderlying}
use Rattle.types_expr.specs.Types.{Underlying, Interface, is_interface}
use Rattle.types_expr.specs.World.{Definition, has_if_asked, in_set}
use Rattle.types_expr.specs.WorldView.{definition_of, definition_or_none, imported_at, names_written, underlying_of}
use Rattle.refs_binding.specs.WorkspaceFindings.{WorkspaceFindings}
use Rattle.refactor_coupled.specs.RenamedTypes.{SetRename, renamed_definition, renamed_definitions, unrenamed}
use Rattle.refactor_coupled.specs.declared.renamed_types.RenamedSet.{RenamedSet}

-- the rename of a set
abbrev pub rename_of : RenamedSet → SetRename
rename_of r = record { set = r.set.now; old = r.old.now; new = r.new.now }

-- the type definition of each symbol; none where the definitions have none
abbrev pub definitions_in : Definitions → Symbol → Definition
definitions_in ds s = definition_or_none s (imported_at ds s)

-- the type definitions of all packages of a workspace without faults
abbrev pub types_of : WorkspaceFindings → Definitions
types_of w = w.findings.export_table.definitions

-- the type definitions under the names after the rename
abbrev pub definitions_after : Definitions → SetRename → Symbol → Definition
definitions_after ds r = renamed_definitions r (definitions_in ds)

-- whether an underlying type is an interface
abbrev pub is_interface_of : HeldUnderlying → Bool
is_interface_of u = is_interface (underlying_of u)

-- the interface that is an underlying type, by the definition that writes it
abbrev pub interface_of : Underlying → Option Symbol
interface_of (Interface s) = Some s
interface_of u = None

-- whether T, or `*T` behind a star, has after the rename what a definition asks for under the name
abbrev pub has_after : Definitions → SetRename → (behind_star : Bool) → Symbol → (interface : Held) → (name : List ℕ) → Bool
has_after ds r behind_star s interface name =
    has_if_asked ((renamed_definition r (definition_of interface)).field name) (in_set (definitions_after ds r) behind_star s name)

-- whether it has all that the definition asks for: under each name that it had, and under the new one
abbrev pub has_each_after : Definitions → SetRename → (behind_star : Bool) → Symbol → (interface : Held) → Bool
has_each_after ds r behind_star s interface =
    list_all (has_after ds r behind_star s interface) (names_written (Some interface)) && has_after ds r behind_star s interface r.new

-- whether it implements after the rename the interface that a definition writes
abbrev pub implements_held : Definitions → SetRename → (behind_star : Bool) → Symbol → (interface : Option Held) → Bool
implements_held ds r behind_star s None = false
implements_held ds r behind_star s (Some interface) = is_interface_of interface.underlying && has_each_after ds r behind_star s interface

abbrev pub implements_after : Definitions → SetRename → (behind_star : Bool) → Symbol → (interface : Symbol) → Bool
implements_after ds r behind_star s interface = implements_held ds r behind_star s (imported_at ds interface)

-- whether T or `*T` does
abbrev pub either_after : Definitions → SetRename → Symbol → (interface : Symbol) → Bool
either_after ds r s interface = implements_after ds r false s interface || implements_after ds r true s interface

-- whether two answers differ
abbrev pub is_changed : (before after : Bool) → Bool
is_changed true after = not after
is_changed false after = after

-- whether the rename makes T, or `*T` behind a star, implement the interface that it didn't, or no longer implement it
abbrev pub turns_through : Definitions → SetRename → (behind_star : Bool) → Symbol → (interface : Symbol) → Bool
turns_through ds r behind_star s interface =
    is_changed (implements_after ds (unrenamed r) behind_star s interface) (implements_after ds r behind_star s interface)

-- whether it does so to T or to `*T`
abbrev pub either_turns : Definitions → SetRename → Symbol → (interface : Symbol) → Bool
either_turns ds r s interface = turns_through ds r false s interface || turns_through ds r true s interface

-- whether it does so to one of a list
abbrev pub any_turns : Definitions → SetRename → (called : List Symbol) → (interface : Symbol) → Bool
any_turns ds r called interface = list_any (λ s. either_turns ds r s interface) called
