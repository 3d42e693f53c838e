-- The answer to the goal of `bare_imports::bytes_are_put_beside_other_edits`.
use Rattle.law_rename.proofs.Beside.{inserted_beside}
use Rattle.law_rename.proofs.bare_imports.bytes_are_put_beside_other_edits.Goals as goal

pub returns : goal.returns
returns c = inserted_beside
