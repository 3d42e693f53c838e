-- A workspace without faults, by other right verdicts.
use Rattle.std.proofs.Common.{[]}
use Rattle.base_lemmas.proofs.Elements.{nothing_in}
use Rattle.base_files.specs.Workspace.{Workspace}
use Rattle.workspace_check.specs.declared.fault.FileFault.{FileFault}
use Rattle.workspace_check.specs.FaultLists.{IsFaultOfSome, ListsFaults}
use Rattle.workspace_check.specs.Verdicts.{AreVerdicts, Verdicts}
use Rattle.workspace_check.proofs.Alike.{fault_as}
use Rattle.workspace_check.proofs.OneList.{no_fault}
use Rattle.workspace_check.proofs.OneVerdict.{right_alike, right_below}

module _ (w : Workspace) (sound : ListsFaults w []) (known : Verdicts) (right : AreVerdicts w known) where
  pub no_fault_by : (f : FileFault) → IsFaultOfSome w known f → ⊥
  no_fault_by f h =
      no_fault w sound h.path h.is_package f
      (fault_as w h.path known sound.known
      (right_alike w h.path known sound.known (right_below w known right h.path) (right_below w sound.known sound.right h.path)) f h.is_fault)

  -- The workspace has no fault by these verdicts.
  abbrev pub sound_by : ListsFaults w []
  sound_by = record {
    known = known;
    right = right;
    listed = record { in_order = sound.listed.in_order; each = λ f. ((λ has. absurd (nothing_in f has)), (λ h. absurd (no_fault_by f h))) };
  }
