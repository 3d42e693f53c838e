-- The paths are in order, so a search by halves finds the only place.
use Rattle.std.proofs.Common.{rules}
use Rattle.std.proofs.lemmas.Fn.{always_returns_same}
use Rattle.workspace_graph.proofs.Numbers.{search_cmp}
use Rattle.history_machine.proofs.PathNumbers.{itself, no_place, only_place}
use Rattle.history_machine.proofs.path_list.place_of.Goals as goal

pub returns-in-Ok : goal.returns-in-Ok
returns-in-Ok c = only_place c.args.paths.now c.args.path.now c.in-Ok.place c.requires c.in-Ok.ensures.bound
    (c.in-Ok.ensures.position (search_cmp itself c.args.path.now) (always_returns_same _ _ _ (λ a r f k. (search rules, search rules))))

pub returns-in-Err : goal.returns-in-Err
returns-in-Err c = no_place c.args.paths.now c.args.path.now c.in-Err.field-0 c.requires
    (c.in-Err.ensures.position (search_cmp itself c.args.path.now) (always_returns_same _ _ _ (λ a r f k. (search rules, search rules))))
