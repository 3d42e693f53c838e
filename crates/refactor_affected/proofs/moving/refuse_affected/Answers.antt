-- The marked packages are those that the move affects.
use Rattle.std.proofs.Common.{sym, subst}
use Rattle.refactor_part.specs.Affected.{IsMarkedPackage}
use Rattle.refactor_part.proofs.Carried.{refuses_of}
use Rattle.refactor_affected.specs.Starts.{IsAffectedByMove}
use Rattle.refactor_affected.specs.Steps.{MarkPackages}
use Rattle.refactor_affected.proofs.moving.refuse_affected.Goals as goal

pub returns : goal.returns
returns c =
    let w = c.args.snapshot.now.files in
    let P = IsAffectedByMove w c.args.moved.from.now c.args.moved.to.now in
    let marks = c.deref.result.now in
    let same : MarkPackages w P marks = subst (MarkPackages w P) (sym c.deref.ensures.value) c.in_ok-marks.ensures in
    refuses_of w (IsMarkedPackage w marks) P same c.refuse_marked.result c.refuse_marked.ensures
