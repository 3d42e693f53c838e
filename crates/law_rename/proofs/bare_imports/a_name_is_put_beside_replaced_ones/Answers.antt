-- The answer to the goal of `bare_imports::a_name_is_put_beside_replaced_ones`.
use Rattle.law_rename.proofs.Beside.{gains_beside}
use Rattle.law_rename.proofs.bare_imports.a_name_is_put_beside_replaced_ones.Goals as goal

pub returns : goal.returns
returns c = gains_beside
