-- The lists are equal exactly where the rest of them is.
use Rattle.std.specs.Prelude.{◌↔◌}
use Rattle.std.proofs.Common.{drop}
use Rattle.std.specs.List.{AllZip}
use Rattle.types_check.proofs.equality.are_lists_alike.Given as goal

abbrev pub invariant-loop-i : goal.invariant-loop-i
invariant-loop-i g l = AllZip g.T.Alike.alike (drop l.i l.one) (drop l.i l.other) ↔ AllZip g.T.Alike.alike l.one l.other
