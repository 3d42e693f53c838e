-- A package that compares equal has the path, and where none does none has it.
use Rattle.std.proofs.Common.{rules}
use Rattle.workspace_graph.proofs.Numbers.{found_is, none_is, path_of_package, search_cmp}
use Rattle.std.proofs.lemmas.Fn.{always_returns_same}
use Rattle.workspace_graph.proofs.shared_package.number_of.Goals as goal

pub returns-in-Ok : goal.returns-in-Ok
returns-in-Ok c = found_is path_of_package c.args.packages.now c.args.path.now c.in-Ok.number c.in-Ok.ensures.bound
    (c.in-Ok.ensures.position (search_cmp path_of_package c.args.path.now) (always_returns_same _ _ _ (λ a r f k. (search rules, search rules))))

pub returns-in-Err : goal.returns-in-Err
returns-in-Err c = none_is path_of_package c.args.packages.now c.args.path.now c.in-Err.field-0 c.requires
    (c.in-Err.ensures.position (search_cmp path_of_package c.args.path.now) (always_returns_same _ _ _ (λ a r f k. (search rules, search rules))))
