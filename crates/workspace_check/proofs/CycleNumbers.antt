-- Cycle numbers of packages, and lists of them that decide all cycles.
use Rattle.std.proofs.Common.{ℕ, ◌≡◌, ◌<◌, ◌≤◌, inl, inr, List, length, get_or, sym, ap, subst, ◌∙◌, arith}
use Rattle.std.specs.Prelude.{Some, slice_get}
use Rattle.std.proofs.Math.ListN.{set}
use Rattle.std.proofs.lemmas.Bool.{cases_eq}
use Rattle.std.proofs.lemmas.List.{get_or-set_same, get_or-set_other, length-set}
use Rattle.std.proofs.lemmas.Option.{same_Some, slice_get_within}
use Rattle.base_files.specs.Workspace.{Workspace}
use Rattle.base_files.specs.Packages.{package_paths}
use Rattle.workspace_graph.specs.Packages.{IsInClosure, itself, through}
use Rattle.workspace_graph.proofs.ByPath.{number, at_contains}
use Rattle.workspace_graph.proofs.PackagePaths.{one_number, paths_sorted}
use Rattle.workspace_check.specs.Cycles.{HasCycleNumber, AreCycleNumbers, ComeAfterImports, DecideCycles}
use Rattle.workspace_check.proofs.Closed.{from_package, in_closure_then}

-- the own number of each

pub own_numbers : (w : Workspace) (numbers : List ℕ) → length numbers ≡ length (package_paths w) →
    ((i : ℕ) → i < length (package_paths w) → get_or numbers i 0 ≡ i) → AreCycleNumbers w numbers
own_numbers w numbers size own = record {
  size = size;
  each = λ i p at. record {
    path = p;
    has_path = subst (λ k. slice_get (package_paths w) k ≡ Some p) (sym (own i (slice_get_within (package_paths w) i p at))) at;
    on_cycle = record { there = itself (at_contains w i p at); back = itself (at_contains w i p at) };
  };
}

-- one more number

pub renumbered : (w : Workspace) (numbers : List ℕ) (m given : ℕ) (q : List ℕ) → slice_get (package_paths w) m ≡ Some q → HasCycleNumber w q given →
    AreCycleNumbers w numbers → AreCycleNumbers w (set numbers m given)
renumbered w numbers m given q at_m has are = record {
  size = length-set numbers m given ∙ are.size;
  each = λ i p at. elim (cases_eq i m) [
    | inl e ↦ (
        let path : q ≡ p = same_Some q p (sym at_m ∙ subst (λ k. slice_get (package_paths w) k ≡ Some p) e at) in
        let within : m < length numbers = subst (λ l. m < l) (sym are.size) (slice_get_within (package_paths w) m q at_m) in
        subst (λ k. HasCycleNumber w p (get_or (set numbers m given) k 0)) (sym e)
        (subst (HasCycleNumber w p) (sym (get_or-set_same numbers m given 0 within)) (subst (λ r. HasCycleNumber w r given) path has)))
    | inr ne ↦ subst (HasCycleNumber w p) (sym (get_or-set_other numbers m i given 0 ne)) (are.each i p at)
  ];
}

-- If each package's cycle number comes later than those of its imports or equals them, an import leads back only where the numbers are
-- equal.

module _ (w : Workspace) (places numbers : List ℕ) (behind : ComeAfterImports w places numbers) where
  abbrev place : ℕ → ℕ
  place i = get_or places (get_or numbers i 0) 0

  not_before : (p q : List ℕ) → IsInClosure w p q → (i j : ℕ) → slice_get (package_paths w) i ≡ Some p → slice_get (package_paths w) j ≡ Some q →
      place j ≤ place i
  not_before p q (itself has) i j at_i at_j =
      let e : i ≡ j = one_number (package_paths w) (paths_sorted w) i j q at_i at_j in
      let same : place i ≡ place j = ap place e in
      omega (arith, same)
  not_before p r (through {q = q} imports rest) i j at_i at_j =
      let m = number w q (from_package w q r rest) in
      let low : place j ≤ place m.0 = not_before q r rest m.0 j m.1 at_j in
      elim (cases_eq (get_or numbers m.0 0) (get_or numbers i 0)) [
        | inl e ↦ (let same : place m.0 ≡ place i = ap (λ n. get_or places n 0) e in omega (arith, same, low))
        | inr ne ↦ (let less : place m.0 < place i = behind i p at_i m.0 q m.1 imports ne in omega (arith, less, low))
      ]

  pub tell_all : AreCycleNumbers w numbers → DecideCycles w numbers
  tell_all are i j p q lt at_i at_j imports = (
    λ e. (
        let a = are.each i p at_i in
        let b = are.each j q at_j in
        let same : b.path ≡ a.path =
        same_Some b.path a.path (sym b.has_path ∙ subst (λ n. slice_get (package_paths w) n ≡ Some a.path) e a.has_path) in
        in_closure_then w q a.path p (subst (IsInClosure w q) same b.on_cycle.there) a.on_cycle.back),
    λ back. elim (cases_eq (get_or numbers j 0) (get_or numbers i 0)) [
      | inl same ↦ sym same
      | inr ne ↦ (
          let less : place j < place i = behind i p at_i j q at_j imports ne in
          let low : place i ≤ place j = not_before q p back j i at_j at_i in
          absurd (omega (arith, less, low)))
    ],
  )
