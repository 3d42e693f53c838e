-- The invariants of the loops of `gathering::empty_lists`.
use Rattle.std.proofs.Common.{ℕ, ◌≡◌, List, length}
use Rattle.go_scope.specs.declared.model.Position.{Position}
use Rattle.types_declared.specs.PackageView.{package_of}
use Rattle.types_info.specs.Lists.{IsListedUnder}
use Rattle.types_info.specs.QualifiedIdentifiers.{AreListsBelow}
use Rattle.types_info.proofs.qualified.empty_lists.Given as goal

-- the declarations before the loop's index have empty lists
abbrev pub invariant-loop-d : goal.invariant-loop-d
invariant-loop-d l =
    AreListsBelow (package_of l.pkg) l.d l.lists ×
    (length l.lists.numbers.items ≡ l.d) × ((path : List ℕ) (at : Position) → IsListedUnder l.lists.all.items path at → ⊥)
