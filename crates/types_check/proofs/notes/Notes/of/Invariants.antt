-- The invariants of the loops of `notes::Notes::of`.
use Rattle.std.proofs.Common.{◌≡◌, map}
use Rattle.types_expr.specs.Found.{noted_of, plain_entering, use_of}
use Rattle.types_expr.specs.Judge.{enterings_of, members_of}
use Rattle.types_check.proofs.notes.Notes.of.Given as goal

abbrev pub invariant-loop-note : goal.invariant-loop-note
invariant-loop-note l = record {
  members : map use_of l.notes.members.items ≡ members_of (map noted_of l.yielded);
  enterings : map plain_entering l.notes.enterings.items ≡ enterings_of (map noted_of l.yielded);
}
