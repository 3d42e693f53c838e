-- The finished units that a change carries over.
use Rattle.std.specs.Prelude.{◌≡◌, ◌↔◌, ℕ, Bool, List, Some, IsTrue, length, slice_get}
use Rattle.base_files.specs.Workspace.{Workspace}
use Rattle.base_files.specs.Packages.{package_paths}
use Rattle.workspace_check.specs.Closures.{HasSameClosure}
use Rattle.build_unit.specs.declared.unit.Unit.{Unit as PackageUnit}
use Rattle.build_carry.specs.Changes.{MarkChanges}
use Rattle.build_carry.specs.Finished.{Table, IsFinished}
use Rattle.build_carry.specs.declared.changes.Marks.{Marks}

-- `kept` is true exactly where the closure of a package has the same texts in the workspaces v and w, before and after a change. `old` and
-- `new` are the numbers of the package in v and in w. `marks` are any marks of the change from v to w.
abbrev pub DecidesKept : Marks → (old new : ℕ) → Bool → Type 0
DecidesKept marks old new kept = (v w : Workspace) → MarkChanges v w marks.before.items → MarkChanges w v marks.after.items → (p : List ℕ) →
    slice_get (package_paths v) old ≡ Some p → slice_get (package_paths w) new ≡ Some p → IsTrue kept ↔ HasSameClosure v w p

-- `new` is the table after a change from v to w that carries over the units of `old`. It has a place for each package of w. A package has a
-- unit in it exactly where it has this unit in `old` and its closure keeps its texts. There is one such table.
pub record IsCarried (v : Workspace) (old : Table) (w : Workspace) (new : Table) : Type 0 where
  pub size : length new ≡ length (package_paths w)
  pub each : (p : List ℕ) (unit : PackageUnit) → IsFinished w new p unit ↔ (IsFinished v old p unit × HasSameClosure v w p)
