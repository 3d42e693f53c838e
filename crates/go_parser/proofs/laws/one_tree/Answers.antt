-- The answers to the goals of `laws::one_tree`.
use Rattle.go_parser.proofs.OneTree.{one_tree}
use Rattle.go_parser.proofs.laws.one_tree.Goals as goal

pub returns : goal.returns
returns c = λ tree other ts v w. one_tree v w
