-- The finding of a package that has equal files in two workspaces, and whose imports have equal states in both.
use Rattle.std.proofs.Common.{ℕ, ◌≡◌, inl, inr, List, [], sym, subst}
use Rattle.std.specs.Prelude.{Option, Contains, map}
use Rattle.base_files.specs.Packages.{package_paths, package_files}
use Rattle.base_files.specs.Workspace.{Workspace}
use Rattle.types_declared.specs.declared.fault.Fault.{Fault}
use Rattle.go_ast.specs.SourceFile.{source_of}
use Rattle.workspace_graph.specs.Packages.{PackageImports, IsInClosure}
use Rattle.workspace_graph.specs.Parsed.{AreParsed}
use Rattle.workspace_graph.proofs.ChangedPackages.{moved as imports_by}
use Rattle.types_declared.specs.declared.states.ImportState.{ImportState}
use Rattle.types_resolve.specs.Stages.{IsOuterFault}
use Rattle.types_declared.specs.Package.{Package, ExportData}
use Rattle.workspace_check.specs.declared.fault.FileFault.{FileFault}
use Rattle.workspace_check.specs.Verdicts.{BuildsOn, Verdict, Verdicts, IsStateOf, is_missing, is_on_cycle, is_faulty, is_good, AreStates, IsSeenAs, seen}
use Rattle.workspace_check.specs.Verdicts.{unseen, IsPackageIn, IsUnreadFault, IsFaultBehindOuter, IsReadFault, IsFaultBy, HasExportData, IsVerdictBy}
use Rattle.workspace_check.specs.declared.finding.Finding.{Finding}
use Rattle.workspace_check.specs.FaultLists.{AreListedFaults}
use Rattle.workspace_check.specs.KnownFindings.{IsFinding}
use Rattle.workspace_check.proofs.Alike.{first_as}

-- `p` has equal files in both workspaces, and each state of a path that it imports in `w` is one in `x`.
pub record StandsAlike (w x : Workspace) (p : List ℕ) : Type 0 where
  pub files : package_files w p ≡ package_files x p
  pub missing : (q : List ℕ) → PackageImports w p q → (Contains (package_paths w) q → ⊥) → Contains (package_paths x) q → ⊥
  pub round : (q : List ℕ) → PackageImports w p q → IsInClosure w q p → IsInClosure x q p
  pub builds : (q : List ℕ) → BuildsOn w p q → BuildsOn x p q
  pub back : (q : List ℕ) → BuildsOn x p q → BuildsOn w p q

module _ (w x : Workspace) (p : List ℕ) (stands : StandsAlike w x p) (known : Verdicts) where
  state_there : (q : List ℕ) (s : ImportState) → PackageImports w p q → IsStateOf w known p q s → IsStateOf x known p q s
  state_there q _ i (is_missing none) = is_missing (stands.missing q i none)
  state_there q _ i (is_on_cycle round) = is_on_cycle (stands.round q i round)
  state_there q _ i (is_faulty on is) = is_faulty (stands.builds q on) is
  state_there q _ i (is_good on is) = is_good (stands.builds q on) is

  imports_here : (q : List ℕ) → PackageImports x p q → PackageImports w p q
  imports_here q i = imports_by x w p q (sym stands.files) i

  states_there : (state : List ℕ → ImportState) → AreStates w known p state → AreStates x known p state
  states_there state h q i = state_there q (state q) (imports_here q i) (h q (imports_here q i))

  seen_there : (q : List ℕ) (n : Option (List ℕ)) (i : ExportData) → IsSeenAs w known p q n i → IsSeenAs x known p q n i
  seen_there q _ _ (seen on is) = seen (stands.builds q on) is
  seen_there q _ _ (unseen none) = unseen (λ on. none (stands.back q on))

  pub package_there : (c : Package) → IsPackageIn w known p c → IsPackageIn x known p c
  package_there c h = record {
    files = h.files;
    parsed = subst (λ es. AreParsed es h.files []) stands.files h.parsed;
    name_of = h.name_of;
    export_data_of = h.export_data_of;
    are_seen = λ q. seen_there q (h.name_of q) (h.export_data_of q) (h.are_seen q);
    is_package = h.is_package;
  }

  unread_there : (f : FileFault) → IsUnreadFault w p f → IsUnreadFault x p f
  unread_there f h = record {
    path = h.path;
    text = h.text;
    fault = h.fault;
    of_package = subst (λ es. Contains es (h.path, h.text)) stands.files h.of_package;
    is_fault = h.is_fault;
    at = h.at;
  }

  inner_there : (f : Fault) → IsFaultBehindOuter w known p f → IsFaultBehindOuter x known p f
  inner_there f h = record { checked = h.checked; is_package = package_there h.checked h.is_package; is_fault = h.is_fault }

  read_there : (f : FileFault) → IsReadFault w known p f → IsReadFault x known p f
  read_there f h =
      let P = IsOuterFault h.state (map source_of h.files) in
      record {
        files = h.files;
        parsed = subst (λ es. AreParsed es h.files []) stands.files h.parsed;
        state = h.state;
        are_states = states_there h.state h.are_states;
        fault = h.fault;
        is_fault = first_as P (IsFaultBehindOuter w known p) P (IsFaultBehindOuter x known p) (λ g r. r) (λ g r. r) inner_there h.fault h.is_fault;
        source = h.source;
        in_file = h.in_file;
        at = h.at;
      }

  pub fault_there : (f : FileFault) → IsFaultBy w known p f → IsFaultBy x known p f
  fault_there f h = elim h [ inl u ↦ inl (unread_there f u) | inr r ↦ inr (read_there f r) ]

  export_data_there : (i : ExportData) → HasExportData w known p i → HasExportData x known p i
  export_data_there i h = record { checked = h.checked; is_package = package_there h.checked h.is_package; is_export_data = h.is_export_data }

module _ (w x : Workspace) (p : List ℕ) (there : StandsAlike w x p) (here : StandsAlike x w p) (known : Verdicts) where
  pub by_there : (v : Verdict) → IsVerdictBy w known p v → IsVerdictBy x known p v
  by_there v h = record {
    has_faults = (
      λ e. let f = h.has_faults.0 e in (f.0, fault_there w x p there known f.0 f.1),
      λ f. h.has_faults.1 (f.0, fault_there x w p here known f.0 f.1),
    );
    has_export_data = λ e. export_data_there w x p there known v.export_data (h.has_export_data e);
  }

  pub listed_there : (list : List FileFault) → AreListedFaults (IsFaultBy w known p) list → AreListedFaults (IsFaultBy x known p) list
  listed_there list h = record {
    in_order = h.in_order;
    each = λ f. (λ has. fault_there w x p there known f ((h.each f).0 has), λ is. (h.each f).1 (fault_there x w p here known f is));
  }

  pub finding_there : (f : Finding) → IsFinding w known p f → IsFinding x known p f
  finding_there f h = record {
    has_path = h.has_path;
    listed = listed_there f.faults.items h.listed;
    members = λ e. (let u = h.members e in record
        { checked = u.checked; is_package = package_there w x p there known u.checked u.is_package; are_uses = u.are_uses });
    enterings = λ e. (let u = h.enterings e in record
        { checked = u.checked; is_package = package_there w x p there known u.checked u.is_package; are_enterings = u.are_enterings });
    qualified = λ e. (let q = h.qualified e in record
        { checked = q.checked; is_package = package_there w x p there known q.checked q.is_package; are_qualified = q.are_qualified });
  }
