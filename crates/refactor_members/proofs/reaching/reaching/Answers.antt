-- The answers to the goals of `reaching::reaching`.
use Rattle.std.proofs.Common.{subst}
use Rattle.std.proofs.lemmas.Result.{IfOk-weaker}
use Rattle.go_scope.specs.Named.{name_value}
use Rattle.refs_binding.specs.WorkspaceFindings.{WorkspaceFindings}
use Rattle.refs_places.specs.Homes.{MarksHomes}
use Rattle.refactor_members.proofs.Unreached.{out_of_homes, reached_there}
use Rattle.refactor_members.proofs.reaching.reaching.Goals as goal

pub marked_by_names-requires : goal.marked_by_names-requires
marked_by_names-requires c = rw (← c.workspace.view_is) c.in_ok-marks.ensures.size

pub returns : goal.returns
returns c =
    let w = c.args.workspace.now.graph in
    let names = c.args.names in
    let homes = subst (λ (v : WorkspaceFindings). MarksHomes v.graph c.args.set.now c.in_ok-marks.marks.items) c.workspace.view_is c.in_ok-marks.ensures in
    IfOk-weaker c.marked_by_names.result _ _
    (λ marks leaves number p is unmarked. out_of_homes w (name_value names.called) names.name.now c.in_ok-marks.marks.items marks.items c.args.set.now
    homes leaves number p.path is.has_number unmarked (reached_there w p.path is.is_package.of_workspace)) c.marked_by_names.ensures
