-- The state of each path that a package imports, noted one import after the other.
use Rattle.std.proofs.Common.{ℕ, ◌≡◌, ◌⊎◌, inl, inr, true, false, List, [], sym, ap, subst, ◌∙◌}
use Rattle.std.specs.Prelude.{Contains, Some, None, slice_get}
use Rattle.std.proofs.lemmas.Option.{same_Some}
use Rattle.base_lemmas.proofs.Elements.{nothing_in}
use Rattle.base_files.specs.Workspace.{Workspace}
use Rattle.base_files.specs.Packages.{package_paths}
use Rattle.workspace_graph.specs.Graphs.{ListsPackages}
use Rattle.workspace_graph.specs.Packages.{PackageImports, IsInClosure}
use Rattle.workspace_graph.proofs.ByPath.{number, at_contains}
use Rattle.types_declared.specs.declared.states.ImportState.{ImportState}
use Rattle.types_declared.specs.declared.states.ImportState.TheVariants.{Missing}
use Rattle.types_declared.specs.ExportTablesView.{SetsState, name_in, export_data_in}
use Rattle.types_declared.specs.declared.export_tables.ExportTable.{ExportTable}
use Rattle.types_declared.proofs.ByteKeys.{cases_bytes}
use Rattle.workspace_check.specs.KnownFindings.{is_unknown, verdicts_by}
use Rattle.workspace_check.specs.Verdicts.{BuildsOn, Verdicts, IsStateOf, is_missing, AreStates, IsSeenAs, AreSeen}
use Rattle.workspace_check.specs.Steps.{HasSameEntries}
use Rattle.workspace_check.proofs.Closed.{imports_closed}
use Rattle.workspace_check.proofs.Members.{cases_contains}

-- the packages of some numbers are noted, and what is no package is missing
pub record AreNoted (w : Workspace) (known : Verdicts) (p : List ℕ) (numbers : List ℕ) (state : List ℕ → ImportState) : Type 0 where
  pub noted : (n : ℕ) (q : List ℕ) → Contains numbers n → slice_get (package_paths w) n ≡ Some q → IsStateOf w known p q (state q)
  pub others : (q : List ℕ) → (Contains (package_paths w) q → ⊥) → state q ≡ Missing

pub none_noted : (w : Workspace) (known : Verdicts) (p : List ℕ) (numbers : List ℕ) (state : List ℕ → ImportState) → numbers ≡ [] →
    ((q : List ℕ) → state q ≡ Missing) → AreNoted w known p numbers state
none_noted w known p numbers state e missing = record {
  noted = λ n q c at. absurd (nothing_in n (subst (λ l. Contains l n) e c));
  others = λ q none. missing q;
}

pub noted_next : (w : Workspace) (known : Verdicts) (p : List ℕ) (xs ys : List ℕ) (n : ℕ) (q : List ℕ) → slice_get (package_paths w) n ≡ Some q →
    ((m : ℕ) → Contains ys m → Contains xs m ⊎ (n ≡ m)) →
    (old new : List ℕ → ImportState) (s : ImportState) → SetsState old new q s → IsStateOf w known p q s → AreNoted w known p xs old → AreNoted w known p ys new
noted_next w known p xs ys n q at more old new s notes is h = record {
  noted = λ m r c at_m. elim (cases_bytes r q) [
    | inl e ↦ subst (λ z. IsStateOf w known p z (new z)) (sym e) (subst (IsStateOf w known p q) (sym notes.here) is)
    | inr ne ↦ elim (more m c) [
      | inl before ↦ subst (IsStateOf w known p r) (sym (notes.elsewhere r ne)) (h.noted m r before at_m)
      | inr e ↦ absurd (ne (same_Some r q (sym at_m ∙ subst (λ k. slice_get (package_paths w) k ≡ Some q) e at)))
    ]
  ];
  others = λ r none. notes.elsewhere r (λ e. none (subst (Contains (package_paths w)) (sym e) (at_contains w n q at))) ∙ h.others r none;
}

pub all_noted : (w : Workspace) (known : Verdicts) (p : List ℕ) (numbers : List ℕ) (state : List ℕ → ImportState) →
    ListsPackages w (PackageImports w p) numbers → AreNoted w known p numbers state → AreStates w known p state
all_noted w known p numbers state holds h q imports = elim (cases_contains (package_paths w) q) [
  | inl has ↦ (let n = number w q has in h.noted n.0 q ((holds n.0).1 (q, n.1, imports)) n.1)
  | inr none ↦ subst (IsStateOf w known p q) (sym (h.others q none)) (is_missing none)
]

-- what an imported package is

pub imported : (w : Workspace) (p q : List ℕ) (n : ℕ) → slice_get (package_paths w) n ≡ Some q → PackageImports w p q → IsInClosure w p q
imported w p q n at imports = imports_closed w p q imports (at_contains w n q at)

pub builds_by : (w : Workspace) (p q : List ℕ) (n : ℕ) → slice_get (package_paths w) n ≡ Some q → PackageImports w p q → (IsInClosure w q p → ⊥) →
    BuildsOn w p q
builds_by w p q n at imports not_back = record { imported = imported w p q n at imports; not_back = not_back }

pub unknown_by : (all : ExportTable) (q : List ℕ) → name_in all q ≡ None → (verdicts_by all q).faulty ≡ true
unknown_by all q e = ap is_unknown e

pub known_as : (all : ExportTable) (q name : List ℕ) → name_in all q ≡ Some name → (verdicts_by all q).faulty ≡ false
known_as all q name e = ap is_unknown e

-- what is seen stays while imports are noted

pub seen_still : (w : Workspace) (known : Verdicts) (p : List ℕ) (old new : ExportTable) → HasSameEntries old new →
    AreSeen w known p (name_in old) (export_data_in old) → AreSeen w known p (name_in new) (export_data_in new)
seen_still w known p old new same h q =
    subst (λ n. IsSeenAs w known p q n (export_data_in new q)) (sym (same.names q)) (subst (IsSeenAs w known p q (name_in old q)) (sym (same.export_table
    q)) (h q))
