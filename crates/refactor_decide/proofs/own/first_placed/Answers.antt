-- The answers to the goals of `own::first_placed`.
use Rattle.std.proofs.Common.{Some}
use Rattle.types_expr.proofs.Equations.{ok_map}
use Rattle.refactor_decide.proofs.Placed.{counts, in_unit, within}
use Rattle.refactor_decide.proofs.own.first_placed.Goals as goal

pub placed-requires-clause-in_range : goal.placed-requires-clause-in_range
placed-requires-clause-in_range c = within c.args.unit c.args.rename.now c.requires.read c.requires.table c.in-Some.told c.in-Some.ensures

pub placed-requires-clause-counts : goal.placed-requires-clause-counts
placed-requires-clause-counts c = counts c.args.unit c.args.rename.now c.requires.read c.requires.table c.in-Some.told c.in-Some.ensures

pub returns-in-Some : goal.returns-in-Some
returns-in-Some c =
    ok_map c.placed.result
    (λ x h. record {
      told = Some c.in-Some.told;
      first = (in_unit c.args.unit c.args.rename.now c.requires.read c.requires.table c.in-Some.told c.in-Some.ensures).first;
      placed = h;
    }) c.placed.ensures
