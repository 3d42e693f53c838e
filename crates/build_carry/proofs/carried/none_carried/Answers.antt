-- The table has a place for each package, and no unit.
use Rattle.std.proofs.Common.{◌∙◌}
use Rattle.build_carry.proofs.Carrying.{carried_none}
use Rattle.build_carry.proofs.carried.none_carried.Goals as goal

pub returns : goal.returns
returns c = λ v.
    let table = c.in_ok-table.ensures in
    carried_none v c.args.finished.now c.args.after.now c.in_ok-table.table c.requires (table.size ∙ c.len.ensures) table.none
