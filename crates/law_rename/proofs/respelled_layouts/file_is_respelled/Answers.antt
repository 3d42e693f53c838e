-- The answer to the goal of `respelled_layouts::file_is_respelled`.
use Rattle.law_rename.proofs.RespelledFiles.{file_respelled}
use Rattle.law_rename.proofs.respelled_layouts.file_is_respelled.Goals as goal

pub returns : goal.returns
returns c = file_respelled
