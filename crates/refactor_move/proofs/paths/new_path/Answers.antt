-- The answers to the goals of `paths::new_path`.
use Rattle.std.proofs.Common.{◌≡◌, ◌∷◌, ◌++◌, rules}
use Rattle.refactor_move.proofs.PathParts.{moved_file, refused}
use Rattle.refactor_move.proofs.paths.new_path.Goals as goal

pub returns-in-Err : goal.returns-in-Err
returns-in-Err c =
    let is : c.args.path.now ≡ c.args.moved.now.from ++ 47 ∷ c.in-Some.rest.now = search rules in
    refused c.args.moved.now c.args.path.now c.in-Some.rest.now (search rules) is c.in-Err.refusal c.in-Err.ensures

pub returns-in-Ok : goal.returns-in-Ok
returns-in-Ok c =
    let is : c.args.path.now ≡ c.args.moved.now.from ++ 47 ∷ c.in-Some.rest.now = search rules in
    moved_file c.args.moved.now c.args.path.now c.in-Some.rest.now c.in-Ok.path is c.in-Ok.ensures
