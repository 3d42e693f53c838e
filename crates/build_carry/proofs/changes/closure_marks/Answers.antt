-- The packages that reach those of the folders.
use Rattle.std.proofs.Common.{Bool, List, subst, ◌∙◌, ap, length}
use Rattle.std.proofs.lemmas.Result.{IfOk-weaker}
use Rattle.workspace_graph.specs.Borrows.{names}
use Rattle.workspace_graph.specs.Reaching.{ReachingMarks}
use Rattle.build_carry.specs.Changes.{MarkClosures}
use Rattle.build_carry.proofs.ChangedFolders.{closures_marked}
use Rattle.build_carry.proofs.changes.closure_marks.Goals as goal

pub reaching-requires : goal.reaching-requires
reaching-requires c = ap length c.deref.ensures.value ∙ c.in_ok-marks.ensures.size

pub returns : goal.returns
returns c =
    let w = c.args.graph.now in
    let folders = names c.args.folders.now in
    let marks = c.in_ok-marks.marks.items in
    IfOk-weaker c.reaching.result (λ found. ReachingMarks w c.deref.result.now found.items) (λ found. MarkClosures w folders found.items)
    (λ found are. closures_marked w folders marks found.items c.in_ok-marks.ensures
    (subst (λ (ms : List Bool). ReachingMarks w ms found.items) c.deref.ensures.value are)) c.reaching.ensures
