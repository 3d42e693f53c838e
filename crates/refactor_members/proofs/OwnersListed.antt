-- The owners of members are known in each package that declares one of a list.
use Rattle.std.proofs.Common.{ℕ, ◌≡◌, ◌<◌, Bool, List, length, sym, subst}
use Rattle.std.specs.Prelude.{Option, Some, None, Contains, slice_get}
use Rattle.std.proofs.lemmas.Option.{slice_get_within}
use Rattle.base_files.specs.Packages.{package_paths}
use Rattle.base_files.specs.Workspace.{Workspace}
use Rattle.types_info.proofs.MeaningLists.{slice_get_some}
use Rattle.workspace_graph.specs.Search.{IsMarked}
use Rattle.workspace_check.specs.Verdicts.{Verdicts}
use Rattle.refs_binding.specs.declared.declaration.Declaration.{Declaration}
use Rattle.refs_binding.specs.Packages.{HoldsOfEach}
use Rattle.refs_places.specs.Homes.{MarksHomes}
use Rattle.refactor_members.specs.Owning.{AreOwnersIfMarked, HasOwnersAt, KnowsHomeOf}
use Rattle.refactor_members.specs.declared.definition.MemberOwners.{MemberOwners}

listed_if_marked : (w : Workspace) (known : Verdicts) (marks : List Bool) (all : List (Option MemberOwners)) (number : ℕ) → IsMarked marks number →
    (found : Option MemberOwners) → slice_get all number ≡ Some found → AreOwnersIfMarked w known marks number found → HasOwnersAt w known all number
listed_if_marked w known marks all number marked None at unmarked = absurd (unmarked marked)
listed_if_marked w known marks all number marked (Some owners) at are = record { owners = owners; is_listed = at; are_owners = are }

pub homes_known : (w : Workspace) (known : Verdicts) (set : List Declaration) (marks : List Bool) (all : List (Option MemberOwners)) →
    MarksHomes w set marks → HoldsOfEach (AreOwnersIfMarked w known marks) (length (package_paths w)) all → (d : Declaration) → Contains set d →
    KnowsHomeOf w known all d
homes_known w known set marks all homes each d among number path at of =
    let marked = (homes.each number path at).1 (record { declaration = d; among = among; declares = of }) in
    let listed = slice_get_some all number (subst (λ n. number < n) (sym each.size) (slice_get_within (package_paths w) number path at)) in
    listed_if_marked w known marks all number marked listed.0 listed.1 (each.each number listed.0 listed.1)
