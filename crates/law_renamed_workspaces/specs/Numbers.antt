-- The numbers of a package's identifiers, and the places at which these begin.
use Rattle.std.specs.Prelude.{ℕ, ◌≡◌, ◌<◌, ◌↔◌}
use Rattle.std.specs.declared.cmp.Ordering.TheVariants.{Less}
use Rattle.base_files.specs.Workspace.{Workspace}
use Rattle.base_files.specs.declared.place.Place.{Place}
use Rattle.types_declared.specs.Package.{Package}
use Rattle.workspace_check.specs.Verdicts.{Verdicts}
use Rattle.refs_binding.specs.Identifiers.{BeginsAt}
use Rattle.refs_binding.specs.Places.{place_cmp}
use Rattle.refs_binding.specs.Uses.{IsCheckedPackage}

-- Of two identifiers of a package, the one with the lesser number begins at the earlier place. So the first by number is the first by path
-- and offset.
abbrev pub NumbersFollowPlaces : Type 0
NumbersFollowPlaces = (w : Workspace) (known : Verdicts) (p : Package) → IsCheckedPackage w known p → (u v : ℕ) (a b : Place) →
    BeginsAt p a.path a.offset u → BeginsAt p b.path b.offset v → (u < v) ↔ (place_cmp a b ≡ Less)
