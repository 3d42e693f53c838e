-- The invariants of the loops of `gathered::gather_some`.
use Rattle.std.proofs.Common.{take}
use Rattle.std.specs.Prelude.{Contains}
use Rattle.workspace_check.specs.Steps.{AreTakenOf}
use Rattle.workspace_check.proofs.Rising.{StandBefore}
use Rattle.workspace_check.proofs.gathered.gather_some.Given as goal

abbrev pub invariant-loop-number : goal.invariant-loop-number
invariant-loop-number l = record {
  right : AreTakenOf l.graph (take l.number-index l.numbers) l.taken;
  before : StandBefore l.graph (Contains (take l.number-index l.numbers)) l.taken.all.export_table;
}
