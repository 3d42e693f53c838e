-- The bases of commands.
use Rattle.std.specs.Prelude.{ℕ, Option, Some, None}
use Rattle.server_read.specs.declared.command.StateCommand.{StateCommand}
use Rattle.server_read.specs.declared.command.StateCommand.TheVariants as state

-- the number that the current state must have for a command, or none where it may have any
abbrev pub command_basis : StateCommand → Option ℕ
command_basis state.Look = None
command_basis (state.Put basis path size body) = Some basis
command_basis (state.Del basis path) = Some basis
command_basis (state.Rename basis path offset name) = Some basis
command_basis (state.Move basis from to) = Some basis
command_basis (state.Undo basis) = Some basis
command_basis (state.Redo basis) = Some basis
command_basis (state.Cat path) = None
command_basis (state.Uses path offset) = None
command_basis state.List = None
command_basis state.Faults = None
command_basis (state.Object path) = None
command_basis (state.Objects basis) = None
command_basis state.Work = None
