-- A path that is no package's has no object.
use Rattle.std.specs.Prelude.{option_copied}
use Rattle.history_objects.proofs.OneObject.{found_of, object_nowhere}
use Rattle.history_objects.proofs.comparing.object_of.Goals as goal

pub returns-in-None : goal.returns-in-None
returns-in-None c = object_nowhere c.args.state.now.packages c.args.state.now.finished c.args.path.now c.in-None.ensures

pub returns-in-Some : goal.returns-in-Some
returns-in-Some c = found_of c.args.state.now.packages c.args.state.now.finished c.args.path.now c.in-Some.number c.in-Some.ensures
    (option_copied c.object_at.result) c.object_at.ensures
