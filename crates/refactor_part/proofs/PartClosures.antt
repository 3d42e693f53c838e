-- Each package without faults has in the part the closure that it has in the workspace, and the part has no fault.
use Rattle.std.proofs.Common.{◌≡◌, ℕ, false, true, List, [], sym, subst, ◌∙◌}
use Rattle.std.specs.Prelude.{Contains}
use Rattle.std.specs.List.Sorted.{IsStrictlySortedBy}
use Rattle.std.proofs.lemmas.Bool.{true≢false}
use Rattle.base_lemmas.proofs.Elements.{nothing_in}
use Rattle.base_files.specs.Packages.{package_paths, package_files}
use Rattle.base_files.specs.Workspace.{Workspace}
use Rattle.workspace_graph.specs.Packages.{IsInClosure, itself, through}
use Rattle.workspace_check.specs.Closures.{HasSameClosure}
use Rattle.workspace_check.specs.FaultLists.{ListsFaults}
use Rattle.workspace_check.specs.Faults.{fault_cmp}
use Rattle.workspace_check.specs.Verdicts.{Verdicts, AreVerdicts}
use Rattle.workspace_check.proofs.Local.{local_verdict, closed_there, same_back}
use Rattle.workspace_check.proofs.OneList.{is_faultless}
use Rattle.workspace_check.proofs.OneVerdict.{one_verdict}
use Rattle.refs_lookup.specs.Reached.{IsReached, start, imported, HasSameReached}
use Rattle.refs_lookup.proofs.Reached.{same_closure}
use Rattle.refactor_part.specs.FaultlessPart.{faultless_part}
use Rattle.refactor_part.proofs.GoodImports.{imported_fine, no_fault_of_fine}
use Rattle.refactor_part.proofs.PartFiles.{same_package, from_part, into_part, whole_part}

empty_in_order : IsStrictlySortedBy fault_cmp []
unfolding IsStrictlySortedBy
empty_in_order = tt

module _ (w : Workspace) (known : Verdicts) (right : AreVerdicts w known) where
  -- the closure of a package without faults has no package with faults
  pub fine_closure : (p q : List ℕ) → (known p).faulty ≡ false → IsInClosure w p q → (known q).faulty ≡ false
  fine_closure p _ fine (itself has) = fine
  fine_closure p q fine (through {q = m} imports rest) = fine_closure m q (imported_fine w known right p m fine imports) rest

  fine_reached : (p q : List ℕ) → (known p).faulty ≡ false → IsReached w p q → (known q).faulty ≡ false
  fine_reached p _ fine start = fine
  fine_reached p q fine (imported {r = r} closed imports) = imported_fine w known right r q (fine_closure p r fine closed) imports

  same_reached : (p : List ℕ) → (known p).faulty ≡ false → HasSameReached w (faultless_part w known) p
  same_reached p fine q reached e =
      let same = same_package w known q (fine_reached p q fine reached) in
      (subst (λ es. Contains es e) (sym same), subst (λ es. Contains es e) same)

  pub part_closure : (p : List ℕ) → (known p).faulty ≡ false → HasSameClosure w (faultless_part w known) p
  part_closure p fine = same_closure w (faultless_part w known) p (same_reached p fine)

  -- the same verdicts are right of the part
  pub right_of_part : AreVerdicts (faultless_part w known) known
  right_of_part p has =
      let own = from_part w known p has in
      local_verdict w (faultless_part w known) p (known p) own.0 (part_closure p own.1) (right p own.0)

  pub part_sound : ListsFaults (faultless_part w known) []
  part_sound = record {
    known = known;
    right = right_of_part;
    listed = record {
      in_order = empty_in_order;
      each = λ f. (
        (λ no. absurd (nothing_in f no)),
        (λ is. absurd (no_fault_of_fine (faultless_part w known) known right_of_part is.path is.is_package (from_part w known is.path is.is_package).1 f
            is.is_fault)),
      );
    };
  }

  -- a package of the part that reaches another in the workspace is one that does so in the part, and has no fault
  pub reaches_in_part : (p q : List ℕ) → (known p).faulty ≡ false → IsInClosure w p q → IsInClosure (faultless_part w known) p q
  reaches_in_part p q fine closed = closed_there w (faultless_part w known) p (part_closure p fine) q closed

  pub reaches_in_whole : (p q : List ℕ) → (known p).faulty ≡ false → IsInClosure (faultless_part w known) p q → IsInClosure w p q
  reaches_in_whole p q fine closed =
      closed_there (faultless_part w known) w p (same_back w (faultless_part w known) p (part_closure p fine)) q closed

  -- in a workspace without faults
  module _ (sound : ListsFaults w []) where
    pub each_fine : (p : List ℕ) → Contains (package_paths w) p → (known p).faulty ≡ false
    each_fine p has =
        let same = one_verdict w p (known p) (sound.known p) (right p has) (sound.right p has) in
        same.faulty ∙ is_faultless w sound p has

    pub whole : faultless_part w known ≡ w
    whole = whole_part w known each_fine
