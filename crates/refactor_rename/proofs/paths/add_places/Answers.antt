-- The answers to the goals of `paths::add_places`.
use Rattle.refactor_rename.proofs.RenamedPaths.{more_places}
use Rattle.refactor_rename.proofs.paths.add_places.Goals as goal

pub loop-place-preserved : goal.loop-place-preserved
loop-place-preserved c =
    more_places c.args.places.now c.loop-place.place-index c.place-item.result c.args.paths.now.items c.loop-place.paths.items c.add_path.new.paths.items
    c.loop-place-test.true c.place-item.is c.loop-place.invariant
    c.in_ok-add_path.ensures
