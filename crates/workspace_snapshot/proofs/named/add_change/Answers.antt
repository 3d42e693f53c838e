-- The path, and where the file moves to.
use Rattle.std.proofs.Common.{ap}
use Rattle.std.proofs.lemmas.Result.{on_ok_weaker}
use Rattle.base_edits.specs.Fits.{new_path}
use Rattle.workspace_graph.specs.Borrows.{names}
use Rattle.workspace_snapshot.proofs.NamedPaths.{change_moves, change_stays}
use Rattle.workspace_snapshot.proofs.named.add_change.Goals as goal

pub returns-in-Moves : goal.returns-in-Moves
returns-in-Moves c =
    let old = names c.args.paths.now.items in
    let some = names c.add_path.new.paths.items in
    let all = names c.add_path-in-Moves.new.paths.items in
    on_ok_weaker c.add_path-in-Moves.result (λ second.
    change_moves c.args.change.now c.in-Moves.path old some all (ap new_path c.in-Moves.is) c.in_ok-add_path.ensures second) c.add_path-in-Moves.ensures

pub returns-in-Stays : goal.returns-in-Stays
returns-in-Stays c = change_stays c.args.change.now (names c.args.paths.now.items) (names c.add_path.new.paths.items) (ap new_path c.in-Stays.is)
    c.in_ok-add_path.ensures

pub returns-in-Dropped : goal.returns-in-Dropped
returns-in-Dropped c = change_stays c.args.change.now (names c.args.paths.now.items) (names c.add_path.new.paths.items) (ap new_path c.in-Dropped.is)
    c.in_ok-add_path.ensures
