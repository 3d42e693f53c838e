-- The answers to the goals of `recut::renamed_text_is_cut`.
use Rattle.go_respelled.proofs.Many.{recut_only}
use Rattle.go_respelled.proofs.recut.renamed_text_is_cut.Goals as goal

pub returns : goal.returns
returns c = recut_only
