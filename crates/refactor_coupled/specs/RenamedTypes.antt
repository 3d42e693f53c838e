-- The type definitions under the names that a rename gives a set of members, by lookups under the old and the new name alone.
use Rattle.std.specs.Prelude.{ℕ, Bool, false, ◌&&◌, List, [], Option, Some, None, option_map, if◌then◌else◌}
use Rattle.std.specs.List.{list_any}
use Rattle.types_declared.specs.Laid.{is_exported}
use Rattle.types_expr.specs.declared.symbol.Symbol.{Symbol}
use Rattle.types_expr.specs.Types.{same_path, same_symbol}
use Rattle.types_expr.specs.World.{Definition, Field as Written, Method as Received}
use Rattle.refs_binding.specs.declared.declaration.Declaration.{Declaration}
use Rattle.refs_binding.specs.declared.declaration.Declaration.TheVariants.{Predeclared, Declared, Field, Method}

-- A set of members, all called `old`, that get the name `new`.
pub record SetRename : Type 0 where
  pub set : List Declaration
  pub old : List ℕ
  pub new : List ℕ

-- whether the declaration is the written member with this symbol
abbrev pub is_written_member : Declaration → Symbol → Bool
is_written_member (Field t) s = same_symbol t s
is_written_member (Method t) s = false
is_written_member (Declared path n) s = false
is_written_member (Predeclared n) s = false

-- whether the declaration is the method of a receiver with this symbol
abbrev pub is_received_method : Declaration → Symbol → Bool
is_received_method (Method t) s = same_symbol t s
is_received_method (Field t) s = false
is_received_method (Declared path n) s = false
is_received_method (Predeclared n) s = false

-- whether the list has it
abbrev pub has_written_member : List Declaration → Symbol → Bool
has_written_member set s = list_any (λ d. is_written_member d s) set

abbrev pub has_received_method : List Declaration → Symbol → Bool
has_received_method set s = list_any (λ d. is_received_method d s) set

-- whether the rename moves the member that the definition writes under the old name
abbrev pub moves_if_written : SetRename → Option Written → Bool
moves_if_written r None = false
moves_if_written r (Some f) = has_written_member r.set f.symbol

abbrev pub moves_written : SetRename → Definition → Bool
moves_written r d = moves_if_written r (d.field r.old)

-- whether the rename moves the method of a receiver that the definition has under the old name
abbrev pub moves_if_received : SetRename → Option Received → Bool
moves_if_received r None = false
moves_if_received r (Some m) = has_received_method r.set m.symbol

abbrev pub moves_received : SetRename → Definition → Bool
moves_received r d = moves_if_received r (d.method r.old)

-- whether a member that has the name after the rename gets it by the rename; moves: whether the member of the old name does
abbrev pub is_new_name_of : SetRename → (moves : Bool) → (name : List ℕ) → Bool
is_new_name_of r moves name = moves && same_path name r.new

-- the name that what is called `name` after the rename has before it, or None where nothing is called so
abbrev pub name_before : SetRename → (moves : Bool) → (name : List ℕ) → Option (List ℕ)
name_before r moves name = if is_new_name_of r moves name then Some r.old else (if moves && same_path name r.old then None else Some name)

-- what stands under a name, if there is a name
abbrev pub under_name : {X : Type 0} → (List ℕ → Option X) → Option (List ℕ) → Option X
under_name named None = None
under_name named (Some name) = named name

-- what the definition writes under the name after the rename, as it is before it
abbrev pub written_before : SetRename → Definition → (name : List ℕ) → Option Written
written_before r d name = under_name d.field (name_before r (moves_written r d) name)

-- the method of a receiver that has the name after the rename, as it is before it
abbrev pub received_before : SetRename → Definition → (name : List ℕ) → Option Received
received_before r d name = under_name d.method (name_before r (moves_received r d) name)

-- a name is exported as it was, unless it is new
abbrev pub exported_after : (is_new : Bool) → (new : List ℕ) → (exported : Bool) → Bool
exported_after is_new new exported = if is_new then is_exported new else exported

-- the member under its name after the rename
abbrev pub written_as : SetRename → (is_new : Bool) → Written → Written
written_as r is_new f = record { symbol = f.symbol; exported = exported_after is_new r.new f.exported; form = f.form }

abbrev pub received_as : SetRename → (is_new : Bool) → Received → Received
received_as r is_new m = record {
  symbol = m.symbol;
  exported = exported_after is_new r.new m.exported;
  on_pointer = m.on_pointer;
  signature = m.signature;
}

-- the definition after the rename: what it renames stands under the new name, and nothing else moves
abbrev pub renamed_definition : SetRename → Definition → Definition
renamed_definition r d = record {
  underlying = d.underlying;
  field = λ name. option_map (written_as r (is_new_name_of r (moves_written r d) name)) (written_before r d name);
  method = λ name. option_map (received_as r (is_new_name_of r (moves_received r d) name)) (received_before r d name);
}

-- The definitions after the rename.
abbrev pub renamed_definitions : SetRename → (Symbol → Definition) → Symbol → Definition
renamed_definitions r definition s = renamed_definition r (definition s)

-- the same names without a rename
abbrev pub unrenamed : SetRename → SetRename
unrenamed r = record { set = []; old = r.old; new = r.new }
