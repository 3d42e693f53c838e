-- The laws of known verdicts after a plain rename.
use Rattle.std.proofs.Common.{ℕ, ◌≡◌, inl, inr, List, ap, sym, ◌∙◌}
use Rattle.std.specs.Prelude.{Some, slice_get}
use Rattle.base_edits.specs.EditSet.{FileChanges, edited}
use Rattle.base_files.specs.Packages.{package_paths}
use Rattle.base_files.specs.Workspace.{Workspace}
use Rattle.workspace_check.specs.Verdicts.{Verdicts}
use Rattle.workspace_check.proofs.PackageFiles.{at_rank}
use Rattle.refs_binding.specs.declared.declaration.Declaration.{Declaration}
use Rattle.refs_places.specs.Homes.{IsHomeOfSome}
use Rattle.law_renamed_workspaces.proofs.Packages.{same_imports}
use Rattle.law_renamed_workspaces.specs.KnownVerdicts.{IsKeptRename, FindingsStay, UnseenDataStay, UnseenVerdictsStay, OtherVerdictsStay}
use Rattle.law_renamed_workspaces.specs.KnownVerdicts.{HiddenRenamesKeepVerdicts, OtherKnownVerdictsStay}
use Rattle.law_renamed_workspaces.proofs.Findings.{finding_stays, known_stays}
use Rattle.law_renamed_workspaces.proofs.PackagesAfter.{data_stay}

pub findings : FindingsStay
findings w before after d name s h right o has f k = finding_stays w before after d name s h right o has f k

pub unseen_data : UnseenDataStay
unseen_data w before after d name s h right o has unseen = data_stay w before after d name s h right o has unseen

pub unseen_verdicts : UnseenVerdictsStay
unseen_verdicts w before after d name s h right o has unseen one k =
    known_stays w before after d name s h right o has (unseen_data w before after d name s h right o has unseen) one k

pub others : OtherVerdictsStay
others w before after d name s h right o has away = (
  unseen_data w before after d name s h right o has (inl away),
  unseen_verdicts w before after d name s h right o has (inl away),
)

-- a package of the edited workspace had its number before
pub number_before : (w : Workspace) (before : Verdicts) (d : Declaration) (name : List ℕ) (s : FileChanges) → IsKeptRename w before d name s →
    (number : ℕ) (o : List ℕ) → slice_get (package_paths (edited s w)) number ≡ Some o → slice_get (package_paths w) number ≡ Some o
number_before w before d name s h number o at = ap (λ ps. slice_get ps number) (same_imports w before d name s h.plain).paths ∙ at

pub hidden : HiddenRenamesKeepVerdicts
hidden w before after d name s h right is_hidden known knows number o one at listed =
    let was = number_before w before d name s h number o at in
    unseen_verdicts w before after d name s h right o (at_rank (package_paths w) number o was) (inr is_hidden) one (knows number o one was listed)

pub all_others : OtherKnownVerdictsStay
all_others w before after d name s h right known rest knows but n o one at listed =
    let was = number_before w before d name s h n o at in
    let old = but n one listed in
    let has = at_rank (package_paths w) n o was in
    let other : IsHomeOfSome h.plain.rename.set o → ⊥ = λ home. old.0 (record { path = o; has_number = was; is_home = home }) in
    (others w before after d name s h right o has other).1 one (knows n o one was old.1)
