-- The number of a path in a list of paths that are in order.
use Rattle.std.proofs.Common.{◌≡◌, ℕ, ◌<◌, List, length, Some, slice_get, sym, subst}
use Rattle.std.proofs.lemmas.List.{map-id}
use Rattle.std.specs.declared.cmp.Ordering.TheVariants.{Less, Equal, Greater}
use Rattle.std.specs.Ordering.{ordering_index}
use Rattle.std.specs.List.{Contains, HoldsAt}
use Rattle.std.specs.List.Sorted.{IsStrictlySortedBy, IsNonDecreasingBy, IsPartitionPoint}
use Rattle.base_files.specs.Workspace.{path_cmp}
use Rattle.workspace_graph.proofs.Numbers.{found_is, none_is, search_cmp}
use Rattle.workspace_graph.proofs.PackagePaths.{one_number}
use Rattle.history_machine.specs.PathPlaces.{IsOnlyPlace}

-- a path itself, as what is compared with the one that is looked for
abbrev pub itself : List ℕ → List ℕ
itself path = path

pub only_place : (paths : List (List ℕ)) (path : List ℕ) (n : ℕ) → IsStrictlySortedBy path_cmp paths → n < length paths →
    HoldsAt (λ x. search_cmp itself path x ≡ Equal) paths n → IsOnlyPlace paths path n
only_place paths path n sorted within equal =
    let there = subst (λ (xs : List (List ℕ)). slice_get xs n ≡ Some path) (map-id paths) (found_is itself paths path n within equal) in
    (there, λ k at. one_number paths sorted k n path at there)

pub no_place : (paths : List (List ℕ)) (path : List ℕ) (i : ℕ) → IsStrictlySortedBy path_cmp paths →
    (IsNonDecreasingBy (λ y. ordering_index (search_cmp itself path y)) paths →
    IsPartitionPoint (λ x. search_cmp itself path x ≡ Less) (λ x. search_cmp itself path x ≡ Greater) paths i) → Contains paths path → ⊥
no_place paths path i sorted found =
    subst (λ (xs : List (List ℕ)). Contains xs path → ⊥) (map-id paths)
    (none_is itself paths path i (subst (IsStrictlySortedBy path_cmp) (sym (map-id paths)) sorted) found)
