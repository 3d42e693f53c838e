-- The answers to the goals of `here::are_before`.
use Rattle.std.proofs.Common.{sym, ◌∙◌}
use Rattle.refactor_rename.specs.Here.{before}
use Rattle.refactor_rename.proofs.PlacesHere.{tells_before}
use Rattle.refactor_rename.proofs.here.are_before.Goals as goal

pub returns-else-number-eq0 : goal.returns-else-number-eq0
returns-else-number-eq0 c e =
    tells_before (before c.args.path.now) c.args.places.now c.args.number c.index-places-number.result c.requires.parted c.requires.within
    c.if-number-eq0.false c.index-places-number.is (sym c.is_before.ensures ∙ e)
