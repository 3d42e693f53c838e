-- A package that compares equal has the path, and where none does the place is between those before it and those behind it.
use Rattle.std.proofs.Common.{rules}
use Rattle.workspace_graph.proofs.Numbers.{path_of_package, place_or_number, search_cmp}
use Rattle.std.proofs.lemmas.Fn.{always_returns_same}
use Rattle.workspace_graph.proofs.updated.place_of.Goals as goal

pub returns : goal.returns
returns c = place_or_number path_of_package c.args.packages.now c.args.path.now c.binary_search_by.result c.requires c.binary_search_by.ensures.bound
    (c.binary_search_by.ensures.position (search_cmp path_of_package c.args.path.now) (always_returns_same _ _ _ (λ a r f k. (search rules, search rules))))
