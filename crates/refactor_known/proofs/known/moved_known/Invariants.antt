-- Each verdict so far is one of before the move.
use Rattle.std.proofs.Common.{ℕ, List, ◌≡◌, length}
use Rattle.std.specs.Prelude.{Some, option_copied, slice_get}
use Rattle.base_files.specs.Packages.{package_paths}
use Rattle.workspace_check.specs.declared.known.KnownVerdict.{KnownVerdict}
use Rattle.refactor_known.specs.MovedKnown.{IsMovedFrom}
use Rattle.refactor_known.specs.Swaps.{map_of}
use Rattle.refactor_known.proofs.known.moved_known.Given as goal

abbrev pub invariant-loop-number : goal.invariant-loop-number
invariant-loop-number l =
    (length l.rest.verdicts.items ≡ l.number) × ((n : ℕ) (path : List ℕ) (now : KnownVerdict) → slice_get (package_paths l.after) n ≡ Some path →
    slice_get l.rest.verdicts.items n ≡ Some (Some now) →
    IsMovedFrom l.swap.from (option_copied l.before.name) (map_of l.swap) (package_paths l.before.graph.now) l.before.known.now path now)
