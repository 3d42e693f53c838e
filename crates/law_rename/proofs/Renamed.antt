-- An import without a name that gains another name than its package's.
use Rattle.std.proofs.Common.{ℕ, suc, List}
use Rattle.std.specs.Prelude.{◌↔◌}
use Rattle.go_scope.specs.Bindings.{IsBoundTo, Names}
use Rattle.go_scope.specs.Site.{Site, sites_layout, sites_names}
use Rattle.go_scope.proofs.Nests.{nests}
use Rattle.law_rename.specs.Renaming.{HasNoConflict, Renames}
use Rattle.law_rename.proofs.Exactness.{exact}
use Rattle.law_rename.specs.Around.{from_on}
use Rattle.law_rename.specs.Gained.{Gain, HasGained, import_site}
use Rattle.law_rename.proofs.Bound.{bound_gained}

pub renamed_kept : (i : Gain) (called : List ℕ) (at : ℕ) (old new : List Site) → HasGained i (import_site i called) at old new → (later : Names) →
    Renames (sites_layout old) (sites_names old) at i.name (λ x. later (from_on (suc at) x)) →
    ((u d : ℕ) → IsBoundTo (sites_layout old) (sites_names old) u d → IsBoundTo (sites_layout new) later (from_on (suc at) u) (from_on (suc at) d)) ↔
    HasNoConflict (sites_layout old) (sites_names old) at i.name
renamed_kept i called at old new g later r =
    let told = exact (sites_layout old) (nests (sites_layout old) r.well_formed) (sites_names old) (λ x. later (from_on (suc at) x)) at i.name r.all_count
    r.declared r.other_name r.renaming in (
      (λ keeps. told.0 (λ u d was. (bound_gained i called at old new g later u d).1 (keeps u d was))),
      (λ none u d was. (bound_gained i called at old new g later u d).0 (told.1 none u d was)),
    )
