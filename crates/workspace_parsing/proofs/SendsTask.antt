-- Files to parse may go to the thread that parses them.
use denote.RattleType.{RattleType}
use denote.Struct.Field.{row_field}
use denote.Struct.Tuple.{TupleAt, type_at}
use denote.Param.Send.{IsSend, sendable}
use denote.Param.SendFields.{as_row_send, declared_send}
use mathlib.Core.List.{[], ◌∷◌}
use mir.Syntax.{Sym}
use Rattle.std.proofs.Crossing.{crosses}
use Rattle.base_files.proofs.files.Files.TheSendSync.{the_send as Files-send}
use Rattle.workspace_parsing.specs.contracts.task.ParseTask.{the_row as parse_task}

pub parse_sent : IsSend parse_task
parse_sent = search (sendable, crosses, Files-send) depth 30 fits 50000

-- a closure that owns one value
pub one_sent : (ν : Sym) (A : RattleType) → IsSend A → IsSend (TupleAt ν (A ∷ []))
one_sent ν A a = declared_send (type_at ν (A ∷ [])) (as_row_send (row_field A) a, tt)
