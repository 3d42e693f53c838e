-- The first conflict of the scopes of a package, which are those of a table.
use Rattle.std.proofs.Common.{ℕ, ◌≡◌, ◌<◌, List, Option, Some, None, length, refl, subst}
use Rattle.go_scope.specs.Bindings.{AllCount, Declares}
use Rattle.go_scope.specs.Packages.{ScopedPackage, layout_in, names_in}
use Rattle.types_declared.specs.declared.index.Package.{Package as Unit}
use Rattle.types_declared.specs.PackageView.{package_of}
use Rattle.refactor_scopes.specs.declared.outcomes.ScopeConflict.{ScopeConflict}
use Rattle.refactor_scopes.specs.declared.scope_rename.ScopeRename.{ScopeRename}
use Rattle.refactor_scopes.specs.Conflicts.{IsConflictAt, IsScopeRename, TellsConflict}
use Rattle.refactor_decide.specs.Capturers.{CountsIfAny}
use Rattle.refactor_decide.proofs.FirstOwn.{captor, conflict_within}

-- a rename on a table: its declaration declares, all declarations count, and the conflict is the first
pub record IsToldOf (t : ScopedPackage) (d : ℕ) (y : List ℕ) (told : ScopeConflict) : Type 0 where
  pub declares : Declares (layout_in t) (names_in t) d
  pub all_count : AllCount (layout_in t) (names_in t)
  pub first : TellsConflict (layout_in t) (names_in t) d y (Some told)

module _ (unit : Unit) (r : ScopeRename) (is : IsScopeRename r) (same : r.table.now ≡ unit.table.now) (told : ScopeConflict)
    (first : TellsConflict (layout_in r.table.now) (names_in r.table.now) r.declaration r.name.now (Some told)) where
  pub in_unit : IsToldOf unit.table.now r.declaration r.name.now told
  in_unit =
      subst (λ t. IsToldOf t r.declaration r.name.now told) same (record { declares = is.declares; all_count = is.all_count; first = first })

  pub within : told.identifier < length unit.table.now.sites
  within = conflict_within unit.table.now.sites r.declaration r.name.now in_unit.declares told.identifier told.by in_unit.first.1

  by_number : (by : Option ℕ) → told.by ≡ by → CountsIfAny (package_of unit) by
  by_number None e = tt
  by_number (Some c) e =
      let C = captor unit.table.now.sites r.declaration r.name.now in_unit.declares told.identifier c
      (subst (λ o. IsConflictAt (layout_in unit.table.now) (names_in unit.table.now) r.declaration r.name.now told.identifier o) e in_unit.first.1) in
      record { within = C.0; counts = in_unit.all_count c C.1 }

  pub counts : CountsIfAny (package_of unit) told.by
  counts = by_number told.by refl
