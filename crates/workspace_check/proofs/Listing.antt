-- The fault list of a workspace is made of the findings of its packages.
use Rattle.std.proofs.Common.{ℕ, zero, suc, ◌≡◌, ◌<◌, ◌↔◌, inl, inr, List, [], ◌∷◌, length, refl, sym, subst}
use Rattle.std.specs.Prelude.{Contains, Some, slice_get}
use Rattle.std.specs.List.{flat_map}
use Rattle.std.specs.List.Sorted.{IsStrictlySortedBy}
use Rattle.std.proofs.lemmas.List.Elements.{Contains-append_left, Contains-append_right, Contains-append_cases}
use Rattle.std.proofs.lemmas.Option.{same_Some, none-some, slice_get_within}
use Rattle.base_lemmas.proofs.Elements.{nothing_in}
use Rattle.base_files.specs.Workspace.{Workspace}
use Rattle.base_files.specs.Packages.{package_paths}
use Rattle.workspace_graph.proofs.ByPath.{number, at_contains}
use Rattle.types_info.proofs.MeaningLists.{slice_get_some}
use Rattle.workspace_check.specs.declared.fault.FileFault.{FileFault}
use Rattle.workspace_check.specs.declared.finding.Finding.{Finding}
use Rattle.workspace_check.specs.declared.findings.Findings.{Findings}
use Rattle.workspace_check.specs.Faults.{fault_cmp}
use Rattle.workspace_check.specs.FaultLists.{IsFaultOfSome, ListsFaults}
use Rattle.workspace_check.specs.Found.{AreFindings}
use Rattle.workspace_check.specs.KnownFindings.{verdicts_by}

abbrev pub faults_in : Finding → List FileFault
faults_in f = f.faults.items

-- what joined lists hold

of_one : {X Y : Type 0} (g : X → List Y) (xs : List X) (i : ℕ) (x : X) (y : Y) → slice_get xs i ≡ Some x → Contains (g x) y → Contains (flat_map g xs) y
of_one g [] i x y at c = absurd (none-some x at)
of_one g (z ∷ zs) zero x y at c = Contains-append_left (g z) (flat_map g zs) y (subst (λ v. Contains (g v) y) (sym (same_Some z x at)) c)
of_one g (z ∷ zs) (suc i) x y at c = Contains-append_right (g z) (flat_map g zs) y (of_one g zs i x y at c)

one_of : {X Y : Type 0} (g : X → List Y) (xs : List X) (y : Y) → Contains (flat_map g xs) y → (i : ℕ) ×
    ((x : X) × ((slice_get xs i ≡ Some x) × Contains (g x) y))
one_of g [] y c = absurd (nothing_in y c)
one_of g (z ∷ zs) y c = elim (Contains-append_cases (g z) (flat_map g zs) y c) [
  | inl here ↦ (0, (z, (refl, here)))
  | inr there ↦ (let r = one_of g zs y there in (suc r.0, (r.1.0, (r.1.1.0, r.1.1.1))))
]

module _ (w : Workspace) (found : Findings) (h : AreFindings w found) where
  listed_of : (f : FileFault) → Contains (flat_map faults_in found.packages.items) f → IsFaultOfSome w (verdicts_by found.export_table) f
  listed_of f c =
      let r = one_of faults_in found.packages.items f c in
      let within : r.0 < length (package_paths w) = subst (λ k. r.0 < k) h.size (slice_get_within found.packages.items r.0 r.1.0 r.1.1.0) in
      let p = slice_get_some (package_paths w) r.0 within in
      let is = h.each r.0 p.0 r.1.0 p.1 r.1.1.0 in
      record { path = p.0; is_package = at_contains w r.0 p.0 p.1; is_fault = (is.listed.each f).0 r.1.1.1 }

  of_listed : (f : FileFault) → IsFaultOfSome w (verdicts_by found.export_table) f → Contains (flat_map faults_in found.packages.items) f
  of_listed f s =
      let n = number w s.path s.is_package in
      let within : n.0 < length found.packages.items = subst (λ k. n.0 < k) (sym h.size) (slice_get_within (package_paths w) n.0 s.path n.1) in
      let x = slice_get_some found.packages.items n.0 within in
      let is = h.each n.0 s.path x.0 n.1 x.1 in
      of_one faults_in found.packages.items n.0 x.0 f x.1 ((is.listed.each f).1 s.is_fault)

  pub list_found : (list : List FileFault) → IsStrictlySortedBy fault_cmp list →
      ((f : FileFault) → Contains list f ↔ Contains (flat_map faults_in found.packages.items) f) → ListsFaults w list
  list_found list sorted same = record {
    known = verdicts_by found.export_table;
    right = h.right;
    listed = record {
      in_order = sorted;
      each = λ f. (λ c. listed_of f ((same f).0 c), λ s. (same f).1 (of_listed f s));
    };
  }
