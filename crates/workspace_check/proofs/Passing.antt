-- Marks on packages that are passed in order: each package that imports a `affected` one is `affected`.
use Rattle.std.proofs.Common.{ℕ, ◌≡◌, ◌<◌, ◌⊎◌, inl, inr, Bool, true, false, List, length, sym, subst, ◌∙◌}
use Rattle.std.specs.Prelude.{Contains, Some, slice_get}
use Rattle.std.proofs.Math.ListN.{set}
use Rattle.std.proofs.lemmas.Bool.{cases_eq}
use Rattle.std.proofs.lemmas.List.{get_or-set_same, get_or-set_other}
use Rattle.base_files.specs.Workspace.{Workspace}
use Rattle.base_files.specs.Packages.{package_paths}
use Rattle.workspace_graph.specs.Packages.{IsInClosure, itself, through}
use Rattle.workspace_graph.specs.Reaching.{AreImportersMarked}
use Rattle.workspace_graph.specs.Search.{IsMarked}
use Rattle.workspace_graph.proofs.ByPath.{number}
use Rattle.workspace_graph.proofs.PackagePaths.{paths_sorted, one_number}
use Rattle.workspace_check.specs.declared.reuse.PassedPackages.{PassedPackages}
use Rattle.workspace_check.specs.PassedMarks.{AffectsImporters, IsPassed, PassesPackage, ArePassedBelow}
use Rattle.workspace_check.specs.Verdicts.{BuildsOn}
use Rattle.workspace_check.proofs.Closed.{from_package}

-- those of some packages were passed
abbrev pub ArePassed : List ℕ → PassedPackages → Type 0
ArePassed numbers s = (n : ℕ) → Contains numbers n → IsPassed s n

-- what reaches a stirred package is stirred
stirred_above : (w : Workspace) (marks : List Bool) → AreImportersMarked w marks → (p q : List ℕ) → IsInClosure w p q → (i j : ℕ) →
    slice_get (package_paths w) i ≡ Some p → slice_get (package_paths w) j ≡ Some q → IsMarked marks j → IsMarked marks i
stirred_above w marks above p q (itself has) i j at_i at_j m =
    subst (IsMarked marks) (one_number (package_paths w) (paths_sorted w) j i p at_j at_i) m
stirred_above w marks above p q (through {q = r} imports rest) i j at_i at_j m =
    let k = number w r (from_package w r q rest) in
    above i k.0 p r at_i k.1 imports (stirred_above w marks above r q rest k.0 j k.1 at_j m)

pub passed_below : (w : Workspace) (s : PassedPackages) (numbers : List ℕ) (n : ℕ) (p : List ℕ) → slice_get (package_paths w) n ≡ Some p →
    AffectsImporters w s →
    ArePassed numbers s → ((q : List ℕ) → BuildsOn w p q → (m : ℕ) × (Contains numbers m × (slice_get (package_paths w) m ≡ Some q))) →
    ArePassedBelow w p n s
passed_below w s numbers n p at stirs passed below m q at_m on =
    let k = below q on in
    let is = one_number (package_paths w) (paths_sorted w) k.0 m q k.1.1 at_m in
    elim (subst (IsPassed s) is (passed k.0 k.1.0)) [
      | inl marked ↦ inl marked
      | inr affected ↦ inr (stirred_above w s.affected.items stirs.above p q on.imported n m at at_m affected)
    ]

-- one package further
pub passed_next : (w : Workspace) (xs ys : List ℕ) (n : ℕ) (old new : PassedPackages) → ((m : ℕ) → Contains ys m → Contains xs m ⊎ (n ≡ m)) →
    PassesPackage w n old new →
    ArePassed xs old → ArePassed ys new
passed_next w xs ys n old new more passes passed m has = elim (more m has) [
  | inl before ↦ passes.kept m (passed m before)
  | inr e ↦ subst (IsPassed new) e passes.here
]

-- the marks of a package that is passed
pub passes_same : (w : Workspace) (n : ℕ) (old new : PassedPackages) → n < length old.marks.items → new.marks.items ≡ set old.marks.items n true →
    new.affected.items ≡ old.affected.items → PassesPackage w n old new
passes_same w n old new within marks affected =
    let here : IsMarked new.marks.items n = subst (λ (ms : List Bool). IsMarked ms n) (sym marks) (get_or-set_same old.marks.items n true false within) in
    record {
      here = inl here;
      kept = λ m passed. elim (cases_eq m n) [
        | inl e ↦ subst (IsPassed new) (sym e) (inl here)
        | inr ne ↦ elim passed [
          | inl marked ↦ inl (subst (λ (ms : List Bool). IsMarked ms m) (sym marks) (get_or-set_other old.marks.items n m true false ne ∙ marked))
          | inr is ↦ inr (subst (λ (ss : List Bool). IsMarked ss m) (sym affected) is)
        ]
      ];
    }

pub passes_other : (w : Workspace) (n : ℕ) (old new : PassedPackages) → new.marks.items ≡ set old.marks.items n false → IsMarked new.affected.items n →
    ((m : ℕ) → IsMarked old.affected.items m → IsMarked new.affected.items m) → PassesPackage w n old new
passes_other w n old new marks here kept = record {
  here = inr here;
  kept = λ m passed. elim (cases_eq m n) [
    | inl e ↦ subst (IsPassed new) (sym e) (inr here)
    | inr ne ↦ elim passed [
      | inl marked ↦ inl (subst (λ (ms : List Bool). IsMarked ms m) (sym marks) (get_or-set_other old.marks.items n m false false ne ∙ marked))
      | inr is ↦ inr (kept m is)
    ]
  ];
}
