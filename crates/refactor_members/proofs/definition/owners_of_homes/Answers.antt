-- The answers to the goals of `definition::owners_of_homes`.
use Rattle.std.proofs.Common.{Bool, List, length, subst}
use Rattle.std.proofs.lemmas.Result.{IfOk-weaker}
use Rattle.base_files.specs.Packages.{package_paths}
use Rattle.refs_binding.specs.Packages.{HoldsOfEach}
use Rattle.refs_binding.specs.WorkspaceFindings.{WorkspaceFindings}
use Rattle.refs_binding.specs.Workspaces.{known_in}
use Rattle.refs_places.specs.Homes.{MarksHomes}
use Rattle.refactor_members.specs.Owning.{AreOwnersIfMarked}
use Rattle.refactor_members.proofs.OwnersListed.{homes_known}
use Rattle.refactor_members.proofs.definition.owners_of_homes.Goals as goal

pub returns : goal.returns
returns c =
    let w = c.args.workspace.now.graph in
    let known = known_in c.args.workspace.now.findings in
    let homes = subst (λ (v : WorkspaceFindings). MarksHomes v.graph c.args.set.now c.in_ok-marks.marks.items) c.workspace.view_is c.in_ok-marks.ensures in
    IfOk-weaker c.owners_of_marked.result _ _
    (λ all h. homes_known w known c.args.set.now c.in_ok-marks.marks.items all.items homes
    (subst (λ (marks : List Bool). HoldsOfEach (AreOwnersIfMarked w known marks) (length (package_paths w)) all.items) c.deref.ensures.value h))
    c.owners_of_marked.ensures
