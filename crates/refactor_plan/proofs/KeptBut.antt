-- Known verdicts but those on marked packages, which are those of the declarations.
use Rattle.std.proofs.Common.{◌≡◌, Bool, List, sym, subst}
use Rattle.base_files.specs.Workspace.{Workspace}
use Rattle.workspace_check.specs.declared.known.Known.{Known}
use Rattle.workspace_graph.specs.Search.{IsMarked}
use Rattle.refs_binding.specs.declared.declaration.Declaration.{Declaration}
use Rattle.refs_places.specs.Homes.{MarksHomes}
use Rattle.law_renamed_workspaces.specs.KnownVerdicts.{HoldVerdictsBut, IsHomeNumber}

pub but_homes : (w : Workspace) (set : List Declaration) (marks passed : List Bool) → passed ≡ marks → MarksHomes w set marks → (old new : Known) →
    HoldVerdictsBut (IsMarked passed) old.verdicts.items new.verdicts.items → HoldVerdictsBut (IsHomeNumber w set) old.verdicts.items new.verdicts.items
but_homes w set marks passed same homes old new h = λ n one at.
    let kept = h n one at in
    ((λ home. kept.0 (subst (λ l. IsMarked l n) (sym same) ((homes.each n home.path home.has_number).1 home.is_home))), kept.1)
