-- The answers to the goals of `reaching::marked_by_names`.
use Rattle.std.proofs.Common.{◌≡◌, Bool, List, length, subst, sym}
use Rattle.std.proofs.lemmas.Result.{IfOk-weaker}
use Rattle.base_files.specs.Packages.{package_paths}
use Rattle.go_scope.specs.Named.{name_value}
use Rattle.workspace_graph.specs.Reaching.{ReachingMarks}
use Rattle.refs_binding.specs.WorkspaceFindings.{WorkspaceFindings}
use Rattle.refactor_members.proofs.Unreached.{out_alone, out_by_closures}
use Rattle.refactor_members.proofs.reaching.marked_by_names.Goals as goal

pub returns-then-are_unexported : goal.returns-then-are_unexported
returns-then-are_unexported c =
    let names = c.args.names in
    out_alone c.args.workspace.now.graph (name_value names.called) names.name.now c.args.marks.items c.args.marks.items
    (c.are_unexported.ensures c.if-are_unexported.true) (λ number marked. marked)

pub reaching-requires : goal.reaching-requires
reaching-requires c =
    subst (λ (l : List Bool). length l ≡ length (package_paths c.workspace.inside.graph.now)) (sym c.deref.ensures.value)
    (subst (λ (v : WorkspaceFindings). length c.args.marks.items ≡ length (package_paths v.graph)) (sym c.workspace.view_is) c.requires)

pub returns-else-are_unexported : goal.returns-else-are_unexported
returns-else-are_unexported c = rw (← c.workspace.view_is) (
    let w = c.workspace.inside.graph.now in
    let names = c.args.names in
    IfOk-weaker c.reaching.result _ _
    (λ marks h. out_by_closures w (name_value names.called) names.name.now c.args.marks.items marks.items
    (subst (λ (l : List Bool). ReachingMarks w l marks.items) c.deref.ensures.value h)) c.reaching.ensures)
