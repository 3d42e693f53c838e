-- The packages of what is renamed, and those that reach them.
use Rattle.std.proofs.Common.{◌≡◌, Bool, List, length, subst, sym}
use Rattle.std.proofs.lemmas.Result.{IfOk-weaker}
use Rattle.base_files.specs.Packages.{package_paths}
use Rattle.workspace_graph.specs.Reaching.{ReachingMarks}
use Rattle.refs_binding.specs.Workspaces.{known_in}
use Rattle.refs_binding.proofs.Units.{list_of_sound}
use Rattle.refs_binding.specs.declared.declaration.Declaration.{Declaration}
use Rattle.refs_places.specs.Homes.{MarksHomes}
use Rattle.refactor_affected.proofs.HomesAbove.{homes_reached}
use Rattle.refactor_affected.proofs.affected.marks_above.Goals as goal

pub reaching-requires : goal.reaching-requires
reaching-requires c =
    subst (λ (l : List Bool). length l ≡ length (package_paths c.args.graph.now)) (sym c.as_slice-starts.ensures.value) c.in_ok-homes.ensures.size

pub returns : goal.returns
returns c =
    let w = c.args.graph.now in
    let v = c.args.workspace.now.graph in
    let found = c.args.workspace.now.findings in
    let homes = subst (λ (l : List Declaration). MarksHomes w l c.in_ok-homes.homes.items) c.as_slice-listed.ensures.value c.in_ok-homes.ensures in
    IfOk-weaker c.reaching.result _ _
    (λ marks h. homes_reached w v (known_in found) c.has_no_faults.ensures.findings.right (list_of_sound v found c.has_no_faults.ensures)
    c.args.declaration.now c.in_ok-set.set.items c.in_ok-set.ensures.set c.in_ok-homes.homes.items marks.items homes
    (subst (λ (l : List Bool). ReachingMarks w l marks.items) c.as_slice-starts.ensures.value h)) c.reaching.ensures
