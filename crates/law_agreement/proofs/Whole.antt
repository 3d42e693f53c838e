-- The laws, where it is put in that packages are there after a plain rename, and that members stay.
use Rattle.std.proofs.Common.{ℕ, List}
use Rattle.base_files.specs.Workspace.{Workspace}
use Rattle.base_edits.specs.EditSet.{FileChanges}
use Rattle.base_edits.specs.RevisionsOfEdits.{revision_of}
use Rattle.types_declared.specs.Package.{Package}
use Rattle.workspace_check.specs.Verdicts.{Verdicts}
use Rattle.refs_binding.specs.declared.declaration.Declaration.TheVariants.{Declared}
use Rattle.law_agreement.proofs.OwnConflicts.{own_conflicts_told}
use Rattle.law_renamed_workspaces.proofs.ScopeRenames.{members_stay}
use Rattle.law_renamed_workspaces.proofs.MovedApart.{move_apart}
use Rattle.law_renamed_workspaces.proofs.There.{packages_there}
use Rattle.law_agreement.specs.Behind.{ConflictsBehindAreTold, NamesBehindStay, OtherNamesBehindStay}
use Rattle.law_agreement.specs.Others.{OtherScopesKeep}
use Rattle.law_agreement.specs.ScopeConflicts.{NoConflictStays, OwnConflictsAreConflicts, ConflictsBehindAreConflicts, FirstConflictsAreTold}
use Rattle.law_agreement.specs.ScopeRenames.{IsRenameIn}
use Rattle.law_agreement.proofs.Afterwards.{KeepsPackages}
use Rattle.law_agreement.proofs.Behind.{other_stays, stays, taken, turned}
use Rattle.law_agreement.proofs.Others.{others_by}
use Rattle.law_agreement.proofs.Together.{behind_is, first_by, own_is, stays_by}

keeps : (w : Workspace) (known : Verdicts) (p : Package) (n : ℕ) (name : List ℕ) (s : FileChanges) → IsRenameIn w known p n name s →
    KeepsPackages w known (revision_of w s)
keeps w known p n name s h = record {
  there = packages_there w known (Declared p.path n) name s h.rename;
  apart = move_apart w known (Declared p.path n) name s h.rename.rename;
}

pub other_scopes : OtherScopesKeep
other_scopes w known p n name s h = others_by w known p n name s h (packages_there w known (Declared p.path n) name s h.rename)

pub behind_told : ConflictsBehindAreTold
behind_told w known p n name s h x is u place begins old b by = (
  taken w known p n name s h (keeps w known p n name s h) x is u place begins old b by,
  turned w known p n name s h (keeps w known p n name s h) x is u place begins old b by,
)

pub others_behind_stay : OtherNamesBehindStay
others_behind_stay w known p n name s h x is u place begins path d away b =
    other_stays w known p n name s h (keeps w known p n name s h) x is u place begins path d b away

pub behind_stays : NamesBehindStay
behind_stays w known p n name s h = stays w known p n name s h (keeps w known p n name s h)

pub no_conflict : NoConflictStays
no_conflict w known p n name s h = stays_by w known p n name s h (keeps w known p n name s h) (members_stay w known p.path n name s h.rename)

pub own_conflicts : OwnConflictsAreConflicts
own_conflicts w known p n name s h = own_is own_conflicts_told w known p n name s h (keeps w known p n name s h)

pub behind_conflicts : ConflictsBehindAreConflicts
behind_conflicts w known p n name s h = behind_is w known p n name s h (keeps w known p n name s h)

pub first_told : FirstConflictsAreTold
first_told w known p n name s h = first_by own_conflicts_told w known p n name s h (keeps w known p n name s h) (members_stay w known p.path n name s h.rename)
