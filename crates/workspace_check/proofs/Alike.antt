-- If two verdict tables agree on all packages that a package builds on, its verdicts by both tables agree.
use Rattle.std.proofs.Common.{ℕ, inl, inr, List, sym, subst, ◌∙◌}
use Rattle.std.specs.Prelude.{Option, Some, map}
use Rattle.base_files.specs.Workspace.{Workspace}
use Rattle.types_declared.specs.declared.fault.Fault.{Fault}
use Rattle.types_declared.specs.Stage.{FirstOf}
use Rattle.go_ast.specs.SourceFile.{source_of}
use Rattle.types_declared.specs.declared.states.ImportState.{ImportState}
use Rattle.types_resolve.specs.Stages.{IsOuterFault}
use Rattle.types_declared.specs.Package.{Package, ExportData}
use Rattle.workspace_check.specs.declared.fault.FileFault.{FileFault}
use Rattle.workspace_check.specs.Verdicts.{BuildsOn, Verdict, Verdicts, IsStateOf, is_missing, is_on_cycle, is_faulty, is_good, AreStates, IsSeenAs, seen}
use Rattle.workspace_check.specs.Verdicts.{unseen, IsPackageIn, IsFaultBehindOuter, IsReadFault, IsFaultBy, HasExportData, IsVerdictBy}
use Rattle.workspace_check.specs.Laws.{IsSameVerdict}

-- Both verdict tables agree on all packages that `p` builds on.
abbrev pub KnowsAlike : Workspace → List ℕ → Verdicts → Verdicts → Type 0
KnowsAlike w p a b = (q : List ℕ) → BuildsOn w p q → IsSameVerdict (a q) (b q)

pub alike_back : (w : Workspace) (p : List ℕ) (a b : Verdicts) → KnowsAlike w p a b → KnowsAlike w p b a
alike_back w p a b same q on =
    let s = same q on in
    record { faulty = sym s.faulty; export_data = λ e. sym (s.export_data (s.faulty ∙ e)) }

pub first_as : (P Q R S : Fault → Type 0) → ((f : Fault) → P f → R f) → ((f : Fault) → R f → P f) → ((f : Fault) → Q f → S f) → (f : Fault) →
    FirstOf P Q f → FirstOf R S f
first_as P Q R S there back later f h = elim h [
  | inl p ↦ inl (there f p)
  | inr n ↦ inr (λ g r. n.0 g (back g r), later f n.1)
]

module _ (w : Workspace) (p : List ℕ) (a b : Verdicts) (same : KnowsAlike w p a b) where
  state_as : (q : List ℕ) (s : ImportState) → IsStateOf w a p q s → IsStateOf w b p q s
  state_as q _ (is_missing none) = is_missing none
  state_as q _ (is_on_cycle back) = is_on_cycle back
  state_as q _ (is_faulty on is) = is_faulty on (sym (same q on).faulty ∙ is)
  state_as q _ (is_good on is) = is_good on (sym (same q on).faulty ∙ is)

  states_as : (state : List ℕ → ImportState) → AreStates w a p state → AreStates w b p state
  states_as state h q imports = state_as q (state q) (h q imports)

  seen_as : (q : List ℕ) (n : Option (List ℕ)) (i : ExportData) → IsSeenAs w a p q n i → IsSeenAs w b p q n i
  seen_as q _ _ (seen on is) =
      let s = same q on in
      subst (λ (i : ExportData). IsSeenAs w b p q (Some i.name) i) (sym (s.export_data is)) (seen on (sym s.faulty ∙ is))
  seen_as q _ _ (unseen none) = unseen (λ on. sym (same q on).faulty ∙ none on)

  pub package_as : (c : Package) → IsPackageIn w a p c → IsPackageIn w b p c
  package_as c h = record {
    files = h.files;
    parsed = h.parsed;
    name_of = h.name_of;
    export_data_of = h.export_data_of;
    are_seen = λ q. seen_as q (h.name_of q) (h.export_data_of q) (h.are_seen q);
    is_package = h.is_package;
  }

  inner_as : (f : Fault) → IsFaultBehindOuter w a p f → IsFaultBehindOuter w b p f
  inner_as f h = record { checked = h.checked; is_package = package_as h.checked h.is_package; is_fault = h.is_fault }

  read_as : (f : FileFault) → IsReadFault w a p f → IsReadFault w b p f
  read_as f h =
      let P = IsOuterFault h.state (map source_of h.files) in
      record {
        files = h.files;
        parsed = h.parsed;
        state = h.state;
        are_states = states_as h.state h.are_states;
        fault = h.fault;
        is_fault = first_as P (IsFaultBehindOuter w a p) P (IsFaultBehindOuter w b p) (λ g x. x) (λ g x. x) inner_as h.fault h.is_fault;
        source = h.source;
        in_file = h.in_file;
        at = h.at;
      }

  pub fault_as : (f : FileFault) → IsFaultBy w a p f → IsFaultBy w b p f
  fault_as f h = elim h [ inl u ↦ inl u | inr r ↦ inr (read_as f r) ]

  pub export_data_as : (i : ExportData) → HasExportData w a p i → HasExportData w b p i
  export_data_as i h = record { checked = h.checked; is_package = package_as h.checked h.is_package; is_export_data = h.is_export_data }

-- A verdict on `p` by one table is a verdict on `p` by the other.
pub verdict_as : (w : Workspace) (p : List ℕ) (a b : Verdicts) → KnowsAlike w p a b → (v : Verdict) → IsVerdictBy w a p v → IsVerdictBy w b p v
verdict_as w p a b same v h = record {
  has_faults = (
    λ e. let f = h.has_faults.0 e in (f.0, fault_as w p a b same f.0 f.1),
    λ f. h.has_faults.1 (f.0, fault_as w p b a (alike_back w p a b same) f.0 f.1),
  );
  has_export_data = λ e. export_data_as w p a b same v.export_data (h.has_export_data e);
}
