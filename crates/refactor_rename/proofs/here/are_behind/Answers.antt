-- The answers to the goals of `here::are_behind`.
use Rattle.std.proofs.Common.{sym, ◌∙◌, ◌<◌, length, arith}
use Rattle.std.proofs.lemmas.Bool.{not-true}
use Rattle.refactor_rename.specs.Here.{before}
use Rattle.refactor_rename.proofs.PlacesHere.{tells_behind}
use Rattle.refactor_rename.proofs.here.are_behind.Goals as goal

pub returns-else-number-places : goal.returns-else-number-places
returns-else-number-places c e =
    let inside : c.args.number < length c.args.places.now = (let outside = c.if-number-places.false in omega arith) in
    tells_behind (before c.args.path.now) c.args.places.now c.args.number c.index-places-number.result c.requires inside c.index-places-number.is
    (sym c.is_before.ensures ∙ not-true c.is_before.result e)
