-- The packages whose closures hold a marked one.
use Rattle.std.proofs.Common.{Bool, Global, length, sym, subst}
use Rattle.std.specs.Prelude.{Vec}
use Rattle.std.proofs.lemmas.Result.{IfOk-weaker}
use Rattle.base_files.specs.Packages.{package_paths}
use Rattle.workspace_graph.specs.Reaching.{ReachingMarks}
use Rattle.refactor_affected.specs.Starts.{BeginsMove, IsAffectedByMove}
use Rattle.refactor_affected.specs.Steps.{MarkFirst, MarkPackages}
use Rattle.refactor_affected.proofs.Starting.{marks_affected}
use Rattle.refactor_affected.proofs.starts.affected_by_move.Goals as goal

pub returns : goal.returns
returns c =
    let w = c.args.graph.now in
    let from = c.args.moved.from.now in
    let to = c.args.moved.to.now in
    let P = BeginsMove w from to in
    let marks = c.deref.result.now in
    let first = subst (MarkFirst w P (length (package_paths w))) (sym c.deref.ensures.value) c.in_ok-marks.ensures in
    IfOk-weaker c.reaching.result (λ (r : Vec Bool Global). ReachingMarks w marks r.items) (λ (r : Vec Bool Global). MarkPackages w (IsAffectedByMove w from
    to) r.items)
    (λ r h. marks_affected w P marks r.items first h) c.reaching.ensures
