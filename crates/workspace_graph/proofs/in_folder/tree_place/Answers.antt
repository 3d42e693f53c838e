-- A file that compares equal has the path, and where none does the place is between those before it and those behind it.
use Rattle.std.proofs.Common.{rules}
use Rattle.std.proofs.lemmas.Fn.{always_returns_same}
use Rattle.workspace_graph.specs.InFolder.{tree_path}
use Rattle.workspace_graph.proofs.Numbers.{place_or_number, search_cmp}
use Rattle.workspace_graph.proofs.in_folder.tree_place.Goals as goal

pub returns : goal.returns
returns c = place_or_number tree_path c.args.trees.now c.args.path.now c.binary_search_by.result c.requires c.binary_search_by.ensures.bound
    (c.binary_search_by.ensures.position (search_cmp tree_path c.args.path.now) (always_returns_same _ _ _ (λ a r f k. (search rules, search rules))))
