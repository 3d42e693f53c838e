-- The state has what the change carries over.
use Rattle.std.proofs.Common.{◌≡◌, length, sym, subst}
use Rattle.base_files.specs.Packages.{package_paths}
use Rattle.workspace_snapshot.specs.declared.change.Change.{Change}
use Rattle.workspace_check.specs.Found.{KnowsVerdicts}
use Rattle.history_book.proofs.following.state_after.Goals as goal

pub invariant_of-state : goal.invariant_of-state
invariant_of-state c =
    let carried = c.in_ok-finished in
    subst (λ (x : Change). (length carried.finished ≡ length (package_paths x.files)) × KnowsVerdicts x.files carried.known) (sym
    c.into_parts-change.ensures.same)
    (carried.ensures.units.size, carried.ensures.known)
