-- The answers to the goals of `homes::home_number`.
use Rattle.std.proofs.Common.{sym}
use Rattle.refs_places.proofs.HomeMarks.{none_without_path, home_by_path}
use Rattle.refs_places.proofs.homes.home_number.Goals as goal

pub returns-in-None : goal.returns-in-None
returns-in-None c = none_without_path c.args.graph.now c.args.declaration.now c.in-None.ensures

pub returns-in-Some : goal.returns-in-Some
returns-in-Some c = home_by_path c.args.graph.now c.args.declaration.now c.in-Some.path.now c.path.result.now c.number_of.result (sym c.in-Some.ensures)
    c.path.ensures c.number_of.ensures
