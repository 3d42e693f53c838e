-- The answer to the goal of `named_import::named_import_is_in_the_tree`.
use Rattle.law_rename.proofs.NamedTree.{gained_tree}
use Rattle.law_rename.proofs.named_import.named_import_is_in_the_tree.Goals as goal

pub returns : goal.returns
returns c = gained_tree
