-- The marked package is the own one.
use Rattle.std.proofs.Common.{sym, subst}
use Rattle.refactor_part.specs.Affected.{IsMarkedPackage}
use Rattle.refactor_part.proofs.Carried.{refuses_of}
use Rattle.refactor_affected.specs.Renames.{IsOwnPath}
use Rattle.refactor_affected.specs.Steps.{MarkPackages}
use Rattle.refactor_affected.proofs.rename.refuse_own.Goals as goal

pub returns : goal.returns
returns c =
    let w = c.args.asked.now.snapshot.now.files in
    let file = c.args.asked.now.file.now in
    let marks = c.deref.result.now in
    let same : MarkPackages w (IsOwnPath file) marks = subst (MarkPackages w (IsOwnPath file)) (sym c.deref.ensures.value) c.in_ok-marks.ensures in
    refuses_of w (IsMarkedPackage w marks) (IsOwnPath file) same c.refuse_marked.result c.refuse_marked.ensures
