-- A closure of five captures may be sent where each of them may.
use denote.RattleType.{RattleType}
use denote.Struct.Field.{row_field}
use denote.Struct.Tuple.{type_at, TupleAt}
use denote.Param.Send.{IsSend}
use denote.Param.SendFields.{as_row_send, declared_send}
use mathlib.Core.List.{[], ◌∷◌}
use mir.Syntax.{Sym}

pub five_sent : (ν : Sym) (A B C D E : RattleType) → IsSend A → IsSend B → IsSend C → IsSend D → IsSend E →
    IsSend (TupleAt ν (A ∷ B ∷ C ∷ D ∷ E ∷ []))
five_sent ν A B C D E a b c d e = declared_send (type_at ν (A ∷ B ∷ C ∷ D ∷ E ∷ [])) (
  as_row_send (row_field A) a,
  (
    as_row_send (row_field B) b,
    (
      as_row_send (row_field C) c,
      (as_row_send (row_field D) d, (as_row_send (row_field E) e, tt)),
    ),
  ),
)
