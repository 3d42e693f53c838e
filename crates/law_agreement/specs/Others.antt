-- What scopes of other packages bind stays bound under a rename of a declaration of scopes, whatever the new name is.
use Rattle.std.specs.Prelude.{ℕ, ◌≡◌}
use Rattle.base_files.specs.declared.place.Place.{Place}
use Rattle.base_edits.specs.RevisionsOfEdits.{revision_of}
use Rattle.types_declared.specs.Package.{Package}
use Rattle.refs_binding.specs.Identifiers.{BeginsAt}
use Rattle.refs_binding.specs.Uses.{IsCheckedPackage}
use Rattle.refactor_conflict.specs.Staying.{StaysByScope}
use Rattle.law_agreement.specs.ScopeRenames.{OfRenamesIn}

abbrev pub OtherScopesKeep : Type 0
OtherScopesKeep = OfRenamesIn (λ w known p n name s. (x : Package) → IsCheckedPackage w known x →
    (x ≡ p → ⊥) → (u : ℕ) (place : Place) → BeginsAt x place.path place.offset u → StaysByScope w known (revision_of w s) x u place)
