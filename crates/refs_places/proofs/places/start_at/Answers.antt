-- The answers to the goals of `places::start_at`.
use Rattle.std.specs.Prelude.{option_map}
use Rattle.refs_places.specs.Beginnings.{place_of}
use Rattle.refs_places.proofs.Starts.{name_at}
use Rattle.refs_places.proofs.places.start_at.Goals as goal

pub returns-in-Some : goal.returns-in-Some
returns-in-Some c =
    name_at c.args.files.now c.args.at.file c.args.at.index c.in-Some.file.now (option_map place_of c.start_in.result) c.in-Some.ensures.lookup.3.0
    c.in-Some.ensures.lookup.1 c.start_in.ensures
