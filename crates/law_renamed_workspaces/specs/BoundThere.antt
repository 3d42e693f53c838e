-- What is bound by scopes in other packages, or behind a package's name, stays bound.
use Rattle.std.specs.Prelude.{ℕ, ◌≡◌}
use Rattle.base_files.specs.declared.place.Place.{Place}
use Rattle.base_edits.specs.RevisionsOfEdits.{revision_of}
use Rattle.types_declared.specs.Package.{Package}
use Rattle.refs_binding.specs.Identifiers.{BeginsAt}
use Rattle.refs_binding.specs.Uses.{IsCheckedPackage}
use Rattle.refactor_conflict.specs.Staying.{StaysByPackage, StaysByScope}
pub use Rattle.law_renamed_workspaces.specs.There.{IsThereAfter, ArePackagesThere}
use Rattle.law_renamed_workspaces.specs.LocalRenames.{OfLocalRenames}

-- What was bound behind a package's name stays bound, and in other packages what was bound by scopes.
abbrev pub NamesStayBound : Type 0
NamesStayBound = OfLocalRenames (λ w known p n s. (x : Package) → IsCheckedPackage w known x → (u : ℕ) (place : Place) →
    BeginsAt x place.path place.offset u →
    StaysByPackage w known (revision_of w s) x u place × ((x ≡ p → ⊥) → StaysByScope w known (revision_of w s) x u place))
