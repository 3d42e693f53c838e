-- The answers to the goals of `moves::files_move`.
use Rattle.law_changed_types.proofs.FilesMove.{files_move}
use Rattle.law_changed_types.proofs.moves.files_move.Goals as goal

pub returns : goal.returns
returns c = files_move
