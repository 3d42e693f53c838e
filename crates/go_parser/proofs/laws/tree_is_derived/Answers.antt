-- The answers to the goals of `laws::tree_is_derived`.
use Rattle.go_parser.proofs.OneTree.{derived}
use Rattle.go_parser.proofs.laws.tree_is_derived.Goals as goal

pub returns : goal.returns
returns c = λ tree ts w. derived w
