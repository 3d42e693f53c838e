-- Where a plain rename keeps all bindings, and brings no fault, scopes and qualified identifiers bind as before.
use Rattle.std.proofs.Common.{List, ℕ}
use Rattle.base_files.specs.Workspace.{Workspace}
use Rattle.base_files.specs.declared.place.Place.{Place}
use Rattle.base_edits.specs.EditSet.{FileChanges}
use Rattle.base_edits.specs.RevisionsOfEdits.{revision_of}
use Rattle.types_declared.specs.Package.{Package}
use Rattle.workspace_check.specs.Verdicts.{Verdicts}
use Rattle.refs_binding.specs.declared.declaration.Declaration.{Declaration}
use Rattle.refs_binding.specs.Binding as binds
use Rattle.refs_binding.specs.Identifiers.{BeginsAt}
use Rattle.refs_binding.specs.Uses.{IsCheckedPackage, IsBoundToDeclaration, IsUseOf}
use Rattle.law_renamed_workspaces.specs.Scopes.{ScopedNamesStay}
use Rattle.law_agreement.proofs.Followed.{kept_relaid}
use Rattle.law_agreement.proofs.Moving.{kept_below}
use Rattle.law_agreement.proofs.Premises.{IsKeptRename}
use Rattle.law_agreement.proofs.Preserved.{stays_by_scope, stays_by_package}
use Rattle.law_agreement.proofs.ScopedFaultless.{faultless_scoped}
use Rattle.law_agreement.proofs.KeptNames.{selectors_stay}

module _ (w : Workspace) (known : Verdicts) (d : Declaration) (name : List ℕ) (s : FileChanges) (after : Verdicts)
    (kept : IsKeptRename w known d name s after) where
  used : (place : Place) (p : Package) → IsCheckedPackage w known p → (u : ℕ) → BeginsAt p place.path place.offset u → (old : Declaration) →
      IsBoundToDeclaration w known p u old → IsUseOf w known old place
  used place p is u begins old bound = record { used_in = p; is_package = is; user = u; begins = begins; bound = bound }

  pub names_stay : ScopedNamesStay w known (revision_of w s)
  names_stay place p is u begins = record {
    by_scope = λ old was.
        let k = kept.kept.keeps place old (used place p is u begins old (binds.by_scope was)) in
        stays_by_scope (kept_relaid kept_below) faultless_scoped selectors_stay w known d name s after kept p is u place begins old k.declaration k.is_use
        k.holds was;
    by_package = λ old was.
        let k = kept.kept.keeps place old (used place p is u begins old (binds.by_package was)) in
        stays_by_package (kept_relaid kept_below) faultless_scoped selectors_stay w known d name s after kept p is u place begins old k.declaration k.is_use
        k.holds was;
  }
