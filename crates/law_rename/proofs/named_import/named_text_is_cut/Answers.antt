-- The answer to the goal of `named_import::named_text_is_cut`.
use Rattle.law_rename.proofs.Gaining.{put_cut}
use Rattle.law_rename.proofs.named_import.named_text_is_cut.Goals as goal

pub returns : goal.returns
returns c = put_cut
