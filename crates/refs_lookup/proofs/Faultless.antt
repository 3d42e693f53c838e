-- A package of a workspace without faults has no faults.
use Rattle.std.proofs.Common.{ℕ, ◌<◌, ◌⊎◌, inl, inr, List, [], ◌∷◌, length, map, refl, subst}
use Rattle.std.specs.Prelude.{Contains}
use Rattle.std.proofs.lemmas.Bool.{cases_Bool}
use Rattle.base_lemmas.proofs.Elements.{nothing_in, first_or_later}
use Rattle.base_files.specs.Packages.{package_paths}
use Rattle.base_files.specs.Workspace.{Workspace}
use Rattle.types_declared.specs.declared.fault.Fault.{Fault}
use Rattle.types_declared.specs.Stage.{HasNoFault, FirstOf}
use Rattle.go_ast.specs.SourceFile.{SourceFile, source_of}
use Rattle.workspace_graph.specs.Packages.{PackageImports, IsInClosure}
use Rattle.types_declared.specs.declared.states.ImportState.{ImportState}
use Rattle.types_declared.specs.declared.states.ImportState.TheVariants as import_state
use Rattle.types_resolve.specs.Stages.{IsOuterFault}
use Rattle.types_declared.specs.Package.{Package}
use Rattle.types_check.specs.Check.{IsLaterFault}
use Rattle.types_info.proofs.MeaningLists.{slice_get_some}
use Rattle.workspace_check.specs.Faults.{placed_in}
use Rattle.workspace_check.specs.FaultLists.{ListsFaults}
use Rattle.workspace_check.specs.Verdicts.{Verdicts, AreVerdicts, AreStates, IsStateOf, is_missing}
use Rattle.workspace_check.specs.Verdicts.{is_on_cycle, is_faulty, is_good, IsPackageIn, IsFaultBehindOuter}
use Rattle.workspace_check.proofs.Closed.{imports_closed}
use Rattle.workspace_check.proofs.FaultFiles.{in_outer, in_later, identifiers_stand}
use Rattle.workspace_check.proofs.Members.{cases_contains}
use Rattle.workspace_check.proofs.OneList.{no_fault}
use Rattle.workspace_check.proofs.PackageFiles.{package_file, some_tree}
use Rattle.refs_binding.specs.Uses.{IsCheckedPackage}
use Rattle.refs_lookup.proofs.OnePlace.{same_files}
use Rattle.refs_binding.proofs.Alike.{package_for}

-- what follows whether or not a claim is true of each path follows

abbrev pub IsDecided : (List ℕ → Type 0) → List ℕ → Type 0
IsDecided P q = P q ⊎ (P q → ⊥)

either_way : (A : Type 0) → (A ⊎ (A → ⊥) → ⊥) → ⊥
either_way A n = n (inr (λ a. n (inl a)))

pub all_decided : (P : List ℕ → Type 0) (qs : List (List ℕ)) → (((q : List ℕ) → Contains qs q → IsDecided P q) → ⊥) → ⊥
all_decided P [] k = k (λ q h. absurd (nothing_in q h))
all_decided P (q ∷ qs) k =
    all_decided P qs
    (λ rest. either_way (P q) (λ d. k (λ r h. elim (first_or_later q qs r h) [ inl e ↦ subst (IsDecided P) e d | inr c ↦ rest r c ])))

-- what each path is to a package that may import it
module _ (w : Workspace) (known : Verdicts) (p : List ℕ)
    (decided : (q : List ℕ) → Contains (package_paths w) q → IsDecided (λ r. IsInClosure w r p) q) where
  pub state_for : (q : List ℕ) → (s : ImportState) × (PackageImports w p q → IsStateOf w known p q s)
  state_for q = elim (cases_contains (package_paths w) q) [
    | inl there ↦ elim (decided q there) [
      | inl back ↦ (import_state.OnCycle, λ i. is_on_cycle back)
      | inr away ↦ elim (cases_Bool (known q).faulty) [
        | inl e ↦ (import_state.Faulty, λ i. is_faulty (record { imported = imports_closed w p q i there; not_back = away }) e)
        | inr e ↦ (import_state.Good, λ i. is_good (record { imported = imports_closed w p q i there; not_back = away }) e)
      ]
    ]
    | inr missing ↦ (import_state.Missing, λ i. is_missing missing)
  ]

  pub state_in : List ℕ → ImportState
  state_in q = (state_for q).0

  pub are_states : AreStates w known p state_in
  unfolding state_in
  are_states q i = (state_for q).1 i

-- in such a package

module _ (w : Workspace) (sound : ListsFaults w []) (p : Package) (has : Contains (package_paths w) p.path) (is : IsPackageIn w sound.known p.path p) where
  abbrev sources : List SourceFile
  sources = map source_of is.files

  no_read_fault : (state : List ℕ → ImportState) → AreStates w sound.known p.path state → (f : Fault) → f.file < length sources →
      FirstOf (IsOuterFault state sources) (IsFaultBehindOuter w sound.known p.path) f → ⊥
  no_read_fault state are f lt first =
      let s = slice_get_some sources f.file lt in
      no_fault w sound p.path has (placed_in s.0 f)
      (inr (record {
        files = is.files;
        parsed = is.parsed;
        state = state;
        are_states = are;
        fault = f;
        is_fault = first;
        source = s.0;
        in_file = s.1;
        at = refl;
      }))

  pub no_later_fault : (f : Fault) → IsLaterFault p f → ⊥
  no_later_fault f later =
      let file = package_file w p.path has in
      let some : 0 < length is.files = some_tree is.parsed file.0 file.1 in
      let lt : f.file < length p.files = in_later p (identifiers_stand w sound.known p.path p is some) f later in
      let within : f.file < length sources = subst (λ fs. f.file < length fs) (same_files w sound.known p.path p is) lt in
      all_decided (λ q. IsInClosure w q p.path) (package_paths w)
      (λ decided.
      let state = state_in w sound.known p.path decided in
      let are = are_states w sound.known p.path decided in
      let sound_outside : HasNoFault (IsOuterFault state sources) = λ g o. no_read_fault state are g (in_outer state sources g o) (inl o) in
      no_read_fault state are f within (inr (sound_outside, record { checked = p; is_package = is; is_fault = later })))

-- A package has no later fault by any right verdicts.
pub no_fault_later : (w : Workspace) → ListsFaults w [] → (known : Verdicts) → AreVerdicts w known → (p : Package) → IsCheckedPackage w known p → (f : Fault) →
    IsLaterFault p f → ⊥
no_fault_later w sound known right p is f later =
    let own = package_for w known sound.known right sound.right p is in
    no_later_fault w sound p own.of_workspace own.is_checked f later
