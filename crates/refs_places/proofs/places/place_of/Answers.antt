-- The answers to the goals of `places::place_of`.
use Rattle.std.proofs.Common.{length}
use Rattle.base_lemmas.proofs.Tests.{not_below}
use Rattle.refs_places.proofs.Starts.{no_token, a_token}
use Rattle.refs_places.proofs.places.place_of.Goals as goal

pub returns-in-None : goal.returns-in-None
returns-in-None c =
    no_token c.args.files.now c.args.at.file c.args.at.index (not_below c.args.at.file (length c.args.files.now) c.in-None.ensures.lookup.2)

pub returns-in_ok-begin-in-Some : goal.returns-in_ok-begin-in-Some
returns-in_ok-begin-in-Some c =
    a_token c.args.files.now c.args.at.file c.args.at.index c.in-Some.file.now c.in_ok-begin-in-Some.field-0 c.in-Some.ensures.lookup.3.0
    c.in-Some.ensures.lookup.1 c.in_ok-begin-in-Some.ensures
