-- Each package exports what it exported, under a rename of a declaration that is not package-level.
use Rattle.std.proofs.Common.{ℕ, ◌≡◌, ◌==◌, inl, inr, List, ap, sym, subst, refl, ◌∙◌}
use Rattle.std.specs.Cmp.Lexicographic.{pointwise, bytes_decides}
use Rattle.std.proofs.lemmas.Bool.{cases_Bool, true≢false}
use Rattle.base_files.specs.Workspace.{Workspace}
use Rattle.base_edits.specs.EditSet.{FileChanges}
use Rattle.base_edits.specs.RevisionsOfEdits.{revision_of}
use Rattle.go_scope.specs.Bindings.{Layout, Counts, Declares, Displaces, IsPackageLevel}
use Rattle.go_scope.proofs.Nests.{nests}
use Rattle.law_rename.specs.Renaming.{Renames}
use Rattle.law_rename.proofs.AfterRename.{after_other, counts_other, declared_before}
use Rattle.types_declared.specs.Laid.{is_exported}
use Rattle.types_declared.specs.Package.{Package}
use Rattle.types_check.specs.Exports.{DoesExport}
use Rattle.workspace_check.specs.Verdicts.{Verdicts}
use Rattle.refs_binding.proofs.Units.{one_package}
use Rattle.law_renamed_workspaces.specs.Layouts.{IsRelaid}
use Rattle.law_renamed_workspaces.proofs.OwnNames.{own_renames}
use Rattle.law_renamed_workspaces.specs.LocalRenames.{IsLocalRename}
use Rattle.law_renamed_workspaces.specs.OtherPackages.{KeepsExports, ExportsStay}
use Rattle.law_renamed_workspaces.proofs.KeptScopes.{others_keep}

-- the package of the declaration
module _ (w : Workspace) (known : Verdicts) (p : Package) (n : ℕ) (name : List ℕ) (s : FileChanges) (h : IsLocalRename w known p n name s) (q : Package)
    (relaid : IsRelaid (revision_of w s) p q) where
  abbrev l : Layout
  l = p.layout

  renames : Renames l p.names n name q.names
  renames = own_renames w known p.path n name s h.rename p q h.is_package refl relaid

  other : (d : ℕ) → IsPackageLevel l d → d ≡ n → ⊥
  other d level e = h.local (subst (IsPackageLevel l) e level)

  apart : (d : ℕ) → IsPackageLevel l d → Displaces l n d → ⊥
  apart d level displaces = elim displaces [ inl same ↦ h.local (same.0 ∙ level) | inr import ↦ h.local import.0 ]

  name_after : (d : ℕ) → IsPackageLevel l d → Declares l p.names d → q.names d ≡ p.names d
  name_after d level declares =
      after_other l (nests l renames.well_formed) p.names q.names n name renames.all_count renames.declared renames.renaming d declares (other d level)

  exports_after : (d : ℕ) → DoesExport p d → DoesExport q d
  exports_after d k =
      let counts : Counts l q.names d =
      counts_other l (nests l renames.well_formed) p.names q.names n name renames.all_count renames.declared renames.renaming d k.counts.declares
      (other d k.package_level) (λ named. apart d k.package_level) in
      record {
        package_level = subst (λ (m : Layout). IsPackageLevel m d) (sym relaid.layout) k.package_level;
        counts = subst (λ (m : Layout). Counts m q.names d) (sym relaid.layout) counts;
        exported = ap is_exported (name_after d k.package_level k.counts.declares) ∙ k.exported;
      }

  exports_before : (d : ℕ) → DoesExport q d → DoesExport p d
  exports_before d k =
      let level : IsPackageLevel l d = subst (λ (m : Layout). IsPackageLevel m d) relaid.layout k.package_level in
      let counts : Counts l q.names d = subst (λ (m : Layout). Counts m q.names d) relaid.layout k.counts in
      let declares : Declares l p.names d =
      declared_before l (nests l renames.well_formed) p.names q.names n name renames.all_count renames.declared renames.renaming d counts.declares in
      record {
        package_level = level;
        counts = renames.all_count d declares;
        exported = ap is_exported (sym (name_after d level declares)) ∙ k.exported;
      }

  own_kept : KeepsExports p q
  own_kept = record {
    exports = λ d. (exports_before d, exports_after d);
    named = λ d k. name_after d k.package_level k.counts.declares;
  }

pub exports_stay : ExportsStay
exports_stay w known p n name s h x q is relaid = elim (cases_Bool (pointwise ◌==◌ x.path p.path)) [
  | inl same ↦
      (let one : p ≡ x = sym (one_package w known x p is h.is_package ((bytes_decides x.path p.path).0 same)) in
      subst (λ (y : Package). KeepsExports y q) one
      (own_kept w known p n name s h q (subst (λ (y : Package). IsRelaid (revision_of w s) y q) (sym one) relaid)))
  | inr away ↦
      (let other_one : x ≡ p → ⊥ = λ e. true≢false (sym ((bytes_decides x.path p.path).1 (ap (λ (y : Package). y.path) e)) ∙ away) in
      let kept = others_keep w known p n name s h x q is other_one relaid in
      record { exports = kept.exports; named = λ d k. kept.names d })
]
