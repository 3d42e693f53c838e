-- The answers to the goals of `recut::replaced_name_is_cut`.
use Rattle.go_respelled.proofs.Single.{replaced_name}
use Rattle.go_respelled.proofs.recut.replaced_name_is_cut.Goals as goal

pub returns : goal.returns
returns c = replaced_name
