-- When the judgement of an expression is that it has a meaning.
use Rattle.std.specs.Prelude.{◌≡◌, []}
use Rattle.types_expr.specs.Types.{Meaning}
use Rattle.types_expr.specs.Judge.{Judged}
use Rattle.law_typing.specs.Names.{IsNotBroken}

-- the judgement j has the meaning m, which is not broken, and no fault
pub record IsJudgedAs (j : Judged) (m : Meaning) : Type 0 where
  pub meaning : j.meaning ≡ m
  pub faultless : j.faults ≡ []
  pub whole : IsNotBroken m
