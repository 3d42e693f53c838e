-- Identifiers that scopes of other packages bind stay bound under a plain rename of a declaration of scopes.
use Rattle.std.proofs.Common.{ℕ, ◌≡◌, List, sym}
use Rattle.base_files.specs.Workspace.{Workspace}
use Rattle.base_files.specs.declared.place.Place.{Place}
use Rattle.base_edits.specs.EditSet.{FileChanges}
use Rattle.base_edits.specs.RevisionsOfEdits.{revision_of}
use Rattle.types_declared.specs.Package.{Package}
use Rattle.workspace_check.specs.Verdicts.{Verdicts}
use Rattle.refs_binding.specs.declared.declaration.Declaration.TheVariants.{Declared}
use Rattle.refs_binding.specs.Identifiers.{BeginsAt}
use Rattle.refs_binding.specs.Uses.{IsCheckedPackage}
use Rattle.refs_binding.proofs.Units.{one_package}
use Rattle.refactor_conflict.specs.Staying.{StaysByScope}
use Rattle.law_renamed_workspaces.specs.There.{ArePackagesThere}
use Rattle.law_agreement.specs.ScopeRenames.{IsRenameIn}
use Rattle.law_agreement.proofs.Afterwards.{other_bindings, same_path, scope_stays}

pub others_by : (w : Workspace) (known : Verdicts) (p : Package) (n : ℕ) (name : List ℕ) (s : FileChanges) → IsRenameIn w known p n name s →
    ArePackagesThere w known (revision_of w s) → (x : Package) → IsCheckedPackage w known x → (x ≡ p → ⊥) → (u : ℕ) (place : Place) →
    BeginsAt x place.path place.offset u → StaysByScope w known (revision_of w s) x u place
others_by w known p n name s h there x is away u place begins =
    let a = there x is in
    let not_here : (m : ℕ) → Declared p.path n ≡ Declared x.path m → ⊥ =
    (λ m e. away (one_package w known x p is h.is_package (sym (same_path p.path x.path n m e)))) in
    scope_stays w known (revision_of w s) x a.0 a.1 u place begins (λ m b.
    (other_bindings w known (Declared p.path n) name s h.rename x a.0 is not_here a.1.relaid u m).0 b)
