-- Which types a rename can turn for an interface, by what it moves. definition: the type definitions.
use Rattle.std.specs.Prelude.{◌≡◌, Bool, true, false, not, ◌&&◌, Option, Some, None, filter}
use Rattle.types_declared.specs.Laid.{is_exported}
use Rattle.types_expr.specs.declared.symbol.Symbol.{Symbol}
use Rattle.types_expr.specs.Types.{Underlying, Interface}
use Rattle.types_expr.specs.World.{Definition, Field as Written, Method as Received}
use Rattle.refactor_coupled.specs.RenamedTypes.{SetRename, has_received_method, has_written_member, moves_received, moves_written}
use Rattle.refactor_coupled.specs.RenamedTypesView.{definitions_in, rename_of}
use Rattle.refactor_coupled.specs.declared.renamed_types.RenamedTypes.{RenamedTypes}
use Rattle.refactor_coupled.specs.declared.turning.CalledTypes.{CalledTypes}

-- whether the new name is exported as the old one is
abbrev pub keeps_exported : SetRename → (exported : Bool) → Bool
keeps_exported r true = is_exported r.new
keeps_exported r false = not (is_exported r.new)

-- whether the rename moves the member, and keeps it exported or not exported
abbrev pub follows_if_written : SetRename → Option Written → Bool
follows_if_written r None = false
follows_if_written r (Some f) = has_written_member r.set f.symbol && keeps_exported r f.exported

abbrev pub follows_if_received : SetRename → Option Received → Bool
follows_if_received r None = false
follows_if_received r (Some m) = has_received_method r.set m.symbol && keeps_exported r m.exported

-- whether the rename moves the method of the old name that the type has, or pointers to it
abbrev pub moves_by : (Symbol → Definition) → SetRename → Definition → Underlying → Bool
moves_by definition r d (Interface s) = moves_written r (definition s)
moves_by definition r d u = moves_received r d

abbrev pub moves : (Symbol → Definition) → SetRename → Definition → Bool
moves definition r d = moves_by definition r d d.underlying

-- whether it does so and keeps the method exported or not exported
abbrev pub follows_by : (Symbol → Definition) → SetRename → Definition → Underlying → Bool
follows_by definition r d (Interface s) = follows_if_written r ((definition s).field r.old)
follows_by definition r d u = follows_if_received r (d.method r.old)

abbrev pub follows : (Symbol → Definition) → SetRename → Definition → Bool
follows definition r d = follows_by definition r d d.underlying

-- whether the rename can turn the type of this symbol for an interface whose method it moves, or does not move
abbrev pub can_turn : (Symbol → Definition) → SetRename → (moved : Bool) → Symbol → Bool
can_turn definition r true s = not (follows definition r (definition s))
can_turn definition r false s = moves definition r (definition s)

-- The two parts of the types are those that the rename can turn.
pub record HasParts (t : RenamedTypes) (called : CalledTypes) : Type 0 where
  pub moving : called.moving.items ≡ filter (can_turn (definitions_in t.types.now) (rename_of t.rename) false) called.all.items
  pub staying : called.staying.items ≡ filter (can_turn (definitions_in t.types.now) (rename_of t.rename) true) called.all.items
