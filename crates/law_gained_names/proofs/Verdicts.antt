-- The verdicts on packages stay where an import gets the name that it declared already.
use Rattle.std.proofs.Common.{ℕ, ◌≡◌, inl, inr, List, [], map, refl, sym, ◌∙◌, subst}
use Rattle.std.specs.Prelude.{Contains}
use Rattle.std.proofs.lemmas.Bool.{true≢false}
use Rattle.base_lemmas.proofs.Elements.{nothing_in}
use Rattle.base_files.specs.Workspace.{Workspace}
use Rattle.base_files.specs.Packages.{package_paths}
use Rattle.go_ast.specs.SourceFile.{source_of}
use Rattle.refs_lookup.proofs.OnePlace.{same_files}
use Rattle.refs_lookup.proofs.Faultless.{no_fault_later}
use Rattle.types_check.specs.Check.{IsLaterFault}
use Rattle.types_check.specs.Exports.{IsExportData}
use Rattle.types_declared.proofs.ByteKeys.{cases_bytes}
use Rattle.types_declared.specs.declared.states.ImportState.{ImportState}
use Rattle.types_declared.specs.Package.{Package}
use Rattle.types_declared.specs.Stage.{FirstOf, HasNoFault}
use Rattle.types_resolve.specs.Stages.{IsOuterFault}
use Rattle.workspace_check.specs.declared.fault.FileFault.{FileFault}
use Rattle.workspace_check.specs.Faults.{placed_in}
use Rattle.workspace_check.specs.FaultLists.{IsFaultOfSome, ListsFaults}
use Rattle.workspace_check.specs.Verdicts.{AreStates, AreVerdicts, IsFaultBy, IsFaultBehindOuter, IsReadFault, IsStateOf, IsVerdict, IsVerdictBy}
use Rattle.workspace_graph.specs.Packages.{IsInClosure, itself, through}
use Rattle.workspace_check.specs.Earlier.{HaveSameImports}
use Rattle.workspace_check.specs.Verdicts.{Verdict, follows, is_faulty, is_good, is_missing, is_on_cycle}
use Rattle.workspace_check.proofs.Closed.{from_package, to_package}
use Rattle.workspace_check.proofs.FaultFiles.{in_outer, some_source}
use Rattle.workspace_check.proofs.OneList.{checked_package, is_faultless, no_fault}
use Rattle.workspace_check.proofs.OnePackage.{one_checked, one_sources}
use Rattle.workspace_check.proofs.OneVerdict.{right_below, verdict_by}
use Rattle.workspace_check.proofs.SameImports.{builds_by, imports_back, stands_by}
use Rattle.workspace_check.proofs.StandsAlike.{by_there}
use Rattle.workspace_check.proofs.Unread.{none_unread}
use Rattle.law_faultless.specs.Worlds.{HaveWorlds}
use Rattle.law_faultless.proofs.PackageWorlds.{have_all_worlds}
use Rattle.law_gained_names.specs.GainedName.{GainedNamesAddNoFault, GainedNamesBringNoFault}
use Rattle.law_gained_names.specs.NamedWorkspace.{GainedNamesKeepVerdicts, GainedNamesListNoFault, HasGainedName}
use Rattle.law_gained_names.proofs.Judged.{gained_names_bring_no_fault}
use Rattle.law_gained_names.proofs.NamedWorkspacesWhole.{gained_names_add_no_fault}

closed_by : (v w : Workspace) → HaveSameImports v w → (p r : List ℕ) → IsInClosure v p r → IsInClosure w p r
closed_by v w same p _ (itself has) = itself (subst (λ ps. Contains ps p) same.paths has)
closed_by v w same p r (through {q = m} i rest) = through ((same.imports p m (from_package v m r rest)).0 i) (closed_by v w same m r rest)

module _ (add : GainedNamesAddNoFault) (bring : GainedNamesBringNoFault) (w x : Workspace) (sound : ListsFaults w []) (number : ℕ) (p q : Package)
    (h : HasGainedName w x sound.known number p q) where
  state_was : (o : List ℕ) (state : ImportState) → IsStateOf x sound.known p.path o state → IsStateOf w sound.known p.path o state
  state_was o _ (is_missing missing) = is_missing (λ has. missing (subst (λ ps. Contains ps o) h.imports.paths has))
  state_was o _ (is_on_cycle round) = is_on_cycle (closed_by x w (imports_back w x h.imports) o p.path round)
  state_was o _ (is_faulty on is) = is_faulty (builds_by x w (imports_back w x h.imports) p.path o on) is
  state_was o _ (is_good on is) = is_good (builds_by x w (imports_back w x h.imports) p.path o on) is

  worlds : HaveWorlds p
  worlds = have_all_worlds w sound sound.known sound.right p h.was

  later_none : HasNoFault (IsLaterFault q)
  later_none = (add number p q h.gains worlds).inner (no_fault_later w sound sound.known sound.right p h.was)

  old_files : p.files ≡ map source_of h.was.is_checked.files
  old_files = same_files w sound.known p.path p h.was.is_checked

  was_outer_fine : (state : List ℕ → ImportState) → AreStates x sound.known p.path state →
      HasNoFault (IsOuterFault state (map source_of h.was.is_checked.files))
  was_outer_fine state are f o =
      let source = some_source (map source_of h.was.is_checked.files) f (in_outer state (map source_of h.was.is_checked.files) f o) in
      no_fault w sound p.path h.was.of_workspace (placed_in source.0 f)
      (inr (record {
        files = h.was.is_checked.files;
        parsed = h.was.is_checked.parsed;
        state = state;
        are_states = λ r i. state_was r (state r) (are r (h.paths r i));
        fault = f;
        is_fault = inl o;
        source = source.0;
        in_file = source.1;
        at = refl;
      }))

  outer_none : (state : List ℕ → ImportState) → AreStates x sound.known p.path state → HasNoFault (IsOuterFault state q.files)
  outer_none state are =
      (add number p q h.gains worlds).outer state
      (subst (λ fs. HasNoFault (IsOuterFault state fs)) (sym old_files) (was_outer_fine state are))

  no_read : (f : FileFault) → IsReadFault x sound.known p.path f → ⊥
  no_read f r = by_stage r.is_fault
    where
      sources : map source_of r.files ≡ q.files
      sources = one_sources r.parsed h.is.parsed ∙ sym (same_files x sound.known p.path q h.is)

      by_stage : FirstOf (IsOuterFault r.state (map source_of r.files)) (IsFaultBehindOuter x sound.known p.path) r.fault → ⊥
      by_stage (inl o) = outer_none r.state r.are_states r.fault (subst (λ fs. IsOuterFault r.state fs r.fault) sources o)
      by_stage (inr later) =
          later_none r.fault
          (subst (λ c. IsLaterFault c r.fault) (one_checked x sound.known p.path later.1.checked q later.1.is_package h.is) later.1.is_fault)

  no_fault_now : (f : FileFault) → IsFaultBy x sound.known p.path f → ⊥
  no_fault_now f (inl u) = none_unread x p.path h.is.files h.is.parsed f u
  no_fault_now f (inr r) = no_read f r

  was_by : (path : List ℕ) → Contains (package_paths w) path → IsVerdictBy w sound.known path (sound.known path)
  was_by path has = verdict_by w path sound.known (sound.known path) (right_below w sound.known sound.right path) (sound.right path has)

  own_by : IsVerdictBy x sound.known p.path (sound.known p.path)
  own_by =
      let fine = is_faultless w sound p.path h.was.of_workspace in
      let was = checked_package w sound p.path h.was.of_workspace in
      record {
        has_faults = ((λ e. absurd (true≢false (sym e ∙ fine))), (λ f. absurd (no_fault_now f.0 f.1)));
        has_export_data = λ e. record {
          checked = q;
          is_package = h.is;
          is_export_data =
              (bring number p q h.gains worlds).exports (sound.known p.path).export_data
              (subst (λ c. IsExportData c (sound.known p.path).export_data)
              (one_checked w sound.known p.path was.checked p was.is_package h.was.is_checked) was.is_export_data);
        };
      }

  is_by : (path : List ℕ) → Contains (package_paths w) path → IsVerdictBy x sound.known path (sound.known path)
  is_by path has = elim (cases_bytes path p.path) [
    | inl same ↦ subst (λ r. IsVerdictBy x sound.known r (sound.known r)) (sym same) own_by
    | inr other ↦
        by_there w x path (stands_by w x h.imports path (h.others path other))
        (stands_by x w (imports_back w x h.imports) path (sym (h.others path other))) sound.known (sound.known path) (was_by path has)
  ]

  stays : (path : List ℕ) (v : Verdict) → IsVerdict w path v → Contains (package_paths w) path → IsVerdict x path (sound.known path)
  stays path v (follows known below by) has =
      follows sound.known
      (λ r on. let then = builds_by x w (imports_back w x h.imports) path r on in stays r (known r) (below r then) (to_package w path r then.imported))
      (is_by path has)

  right : AreVerdicts x sound.known
  right path has =
      let there = subst (λ ps. Contains ps path) (sym h.imports.paths) has in stays path (sound.known path) (sound.right path there) there

  none_of_some : (f : FileFault) → IsFaultOfSome x sound.known f → ⊥
  none_of_some f some =
      let there = subst (λ ps. Contains ps some.path) (sym h.imports.paths) some.is_package in
      true≢false (sym ((is_by some.path there).has_faults.1 (f, some.is_fault)) ∙ is_faultless w sound some.path there)

  lists_none : ListsFaults x []
  lists_none = record {
    known = sound.known;
    right = right;
    listed = record {
      in_order = sound.listed.in_order;
      each = λ f. ((λ has. absurd (nothing_in f has)), (λ some. absurd (none_of_some f some)));
    };
  }

by_laws : GainedNamesAddNoFault → GainedNamesBringNoFault → GainedNamesKeepVerdicts
by_laws add bring w x sound number p q h = right add bring w x sound number p q h

pub gained_names_keep_verdicts : GainedNamesKeepVerdicts
gained_names_keep_verdicts = by_laws gained_names_add_no_fault gained_names_bring_no_fault

none_by_laws : GainedNamesAddNoFault → GainedNamesBringNoFault → GainedNamesListNoFault
none_by_laws add bring w x sound number p q h = lists_none add bring w x sound number p q h

pub gained_names_list_no_fault : GainedNamesListNoFault
gained_names_list_no_fault = none_by_laws gained_names_add_no_fault gained_names_bring_no_fault
