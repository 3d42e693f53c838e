-- A package has at most one fault list, and so has a workspace. In a workspace without faults each package has none.
use Rattle.std.proofs.Common.{ℕ, ◌≡◌, inl, inr, false, List, []}
use Rattle.std.specs.Prelude.{Contains}
use Rattle.std.proofs.lemmas.Bool.{cases_Bool}
use Rattle.base_lemmas.proofs.Elements.{nothing_in}
use Rattle.base_files.specs.Workspace.{Workspace}
use Rattle.base_files.specs.Packages.{package_paths}
use Rattle.workspace_check.specs.declared.fault.FileFault.{FileFault}
use Rattle.workspace_check.specs.Faults.{fault_cmp_total}
use Rattle.workspace_check.specs.Verdicts.{Verdicts, IsFaultBy, HasExportData, AreVerdictsBelow, AreVerdicts}
use Rattle.workspace_check.specs.FaultLists.{AreListedFaults, IsFaultOfSome, ListsPackageFaults, ListsFaults}
use Rattle.workspace_check.proofs.Alike.{fault_as}
use Rattle.workspace_check.proofs.Members.{one_sorted}
use Rattle.workspace_check.proofs.OneVerdict.{right_alike, right_below, verdict_by}

one_listed : (P Q : FileFault → Type 0) (a b : List FileFault) → ((f : FileFault) → P f → Q f) → ((f : FileFault) → Q f → P f) → AreListedFaults P a →
    AreListedFaults Q b → a ≡ b
one_listed P Q a b there back h k =
    one_sorted fault_cmp_total a b h.in_order k.in_order (λ f c. (k.each f).1 (there f ((h.each f).0 c))) (λ f c. (h.each f).1 (back f ((k.each f).0 c)))

fault_moved : (w : Workspace) (p : List ℕ) (a b : Verdicts) → AreVerdictsBelow w p a → AreVerdictsBelow w p b → (f : FileFault) → IsFaultBy w a p f →
    IsFaultBy w b p f
fault_moved w p a b right also f h = fault_as w p a b (right_alike w p a b right also) f h

pub one_list : (w : Workspace) (p : List ℕ) (a b : List FileFault) → ListsPackageFaults w p a → ListsPackageFaults w p b → a ≡ b
one_list w p a b h k =
    one_listed (IsFaultBy w h.known p) (IsFaultBy w k.known p) a b (fault_moved w p h.known k.known h.right k.right)
    (fault_moved w p k.known h.known k.right h.right) h.listed k.listed

some_moved : (w : Workspace) (a b : Verdicts) → AreVerdicts w a → AreVerdicts w b → (f : FileFault) → IsFaultOfSome w a f → IsFaultOfSome w b f
some_moved w a b right also f h = record {
  path = h.path;
  is_package = h.is_package;
  is_fault = fault_moved w h.path a b (right_below w a right h.path) (right_below w b also h.path) f h.is_fault;
}

pub one_whole_list : (w : Workspace) (a b : List FileFault) → ListsFaults w a → ListsFaults w b → a ≡ b
one_whole_list w a b h k =
    one_listed (IsFaultOfSome w h.known) (IsFaultOfSome w k.known) a b (some_moved w h.known k.known h.right k.right)
    (some_moved w k.known h.known k.right h.right) h.listed k.listed

-- a workspace without faults

-- no package of it has one
pub no_fault : (w : Workspace) (h : ListsFaults w []) (p : List ℕ) → Contains (package_paths w) p → (f : FileFault) → IsFaultBy w h.known p f → ⊥
no_fault w h p has f is = nothing_in f ((h.listed.each f).1 (record { path = p; is_package = has; is_fault = is }))

-- so each is without faults, and is checked as a package with the interface that others see
pub is_faultless : (w : Workspace) (h : ListsFaults w []) (p : List ℕ) → Contains (package_paths w) p → (h.known p).faulty ≡ false
is_faultless w h p has = elim (cases_Bool (h.known p).faulty) [
  | inl e ↦ (let f = (verdict_by w p h.known (h.known p) (right_below w h.known h.right p) (h.right p has)).has_faults.0 e in
      absurd (no_fault w h p has f.0 f.1))
  | inr e ↦ e
]

pub checked_package : (w : Workspace) (h : ListsFaults w []) (p : List ℕ) → Contains (package_paths w) p → HasExportData w h.known p (h.known p).export_data
checked_package w h p has = (verdict_by w p h.known (h.known p) (right_below w h.known h.right p) (h.right p has)).has_export_data (is_faultless w h p has)
