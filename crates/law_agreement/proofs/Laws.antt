-- The laws of this crate, from the two halves of the agreement.
use Rattle.std.proofs.Common.{ℕ, List, subst}
use Rattle.base_files.specs.Workspace.{Workspace}
use Rattle.base_edits.specs.EditSet.{FileChanges}
use Rattle.base_edits.specs.RevisionsOfEdits.{revision_of}
use Rattle.workspace_check.specs.Verdicts.{Verdicts}
use Rattle.refs_binding.specs.declared.declaration.Declaration.TheVariants.{Declared}
use Rattle.refactor_conflict.specs.Conflicts.{IsFirstConflict}
use Rattle.refactor_conflict.specs.Staying.{NoneIsLost}
use Rattle.refactor_conflict.proofs.ConflictsDiffer.{not_staying}
use Rattle.refactor_preserve.specs.Preserved.{Preserves}
use Rattle.law_renamed_workspaces.specs.Renames.{IsPlainRename}
use Rattle.law_renamed_workspaces.proofs.ScopeRenames.{members_stay}
use Rattle.law_renamed_workspaces.proofs.Harmless.{declared_harmless}
use Rattle.law_agreement.specs.Agreement.{PlainPreservedLosesNone}
use Rattle.law_agreement.proofs.Moving.{preserved_follows}
use Rattle.law_agreement.proofs.Premises.{PreservedByMembers}
use Rattle.law_agreement.proofs.PlainRenames.{preserves}
use Rattle.law_agreement.specs.PlainAgreement.{ConflictsRefuse, PlainConflictsAreTold, PlainRenamesAgree, ScopeRenamesAgree}
use Rattle.law_agreement.proofs.KeptMembers.{kept_members_stay}
use Rattle.law_agreement.proofs.KeptNames.{selectors_stay}

members_lose_none : PreservedByMembers
members_lose_none = preserved_follows selectors_stay

pub preserved_loses_none : PlainPreservedLosesNone
preserved_loses_none w known d name s plain k same =
    members_lose_none w known d name s plain k (λ kept. kept_members_stay w known d name s k.after kept same)

-- a rename of a declaration of scopes leaves members
pub scope_loses_none : (w : Workspace) (known : Verdicts) (path : List ℕ) (n : ℕ) (name : List ℕ) (s : FileChanges) →
    IsPlainRename w known (Declared path n) name s → Preserves w (revision_of w s) → NoneIsLost w known (revision_of w s)
scope_loses_none w known path n name s plain k =
    members_lose_none w known (Declared path n) name s plain k (λ kept. members_stay w known path n name s plain)

pub plain_renames_agree : PlainRenamesAgree
plain_renames_agree w known d name s plain same = (
  (λ none. preserves w known d name s plain (record { none_lost = none; implementing = same })),
  (λ k. preserved_loses_none w known d name s plain k (same k.after)),
)

pub scope_renames_agree : ScopeRenamesAgree
scope_renames_agree w known p n name s h = (
  (λ none. preserves w known (Declared p.path n) name s h.rename (declared_harmless w known p.path n name s h.rename none)),
  scope_loses_none w known p.path n name s h.rename,
)

pub conflicts_refuse : ConflictsRefuse
conflicts_refuse w known d name s plain c conflict k same =
    not_staying w known (revision_of w s) c conflict (preserved_loses_none w known d name s plain k same c.used)

pub conflicts_told : PlainConflictsAreTold
conflicts_told w known d name s plain same lost told first none =
    lost (preserves w known d name s plain
    (record { none_lost = subst (IsFirstConflict w known (revision_of w s)) none first; implementing = same }))
