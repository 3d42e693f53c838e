-- The folders that were found are those that differ.
use Rattle.std.proofs.Common.{Bor, List, ℕ, sym, subst}
use Rattle.workspace_graph.specs.Borrows.{names}
use Rattle.build_carry.specs.Changes.{AreChanged}
use Rattle.build_carry.proofs.change_marks.marks_among.Goals as goal

pub marks_by-requires : goal.marks_by-requires
marks_by-requires c =
    subst (λ (fs : List (Bor (List ℕ))). AreChanged c.args.before.now c.args.after.now (names fs)) (sym c.deref.ensures.value) c.in_ok-changed.ensures
