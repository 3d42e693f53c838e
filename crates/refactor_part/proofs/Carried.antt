-- What is said of the faults of some packages, by other right verdicts, of other packages, and by marks.
use Rattle.std.proofs.Common.{◌≡◌, ℕ, List}
use Rattle.std.specs.Prelude.{◌↔◌, Contains, Result, Ok, Err}
use Rattle.base_files.specs.Packages.{package_paths}
use Rattle.base_files.specs.Workspace.{Workspace}
use Rattle.base_files.specs.declared.place.Place.{Place}
use Rattle.base_files.specs.declared.fault_kind.FaultKind.{FaultKind}
use Rattle.base_files.specs.declared.refusal.Refusal.{Refusal}
use Rattle.base_files.specs.declared.refusal.Refusal.TheVariants as refusal
use Rattle.workspace_check.specs.Verdicts.{Verdicts, AreVerdicts}
use Rattle.workspace_check.specs.declared.fault.FileFault.{FileFault}
use Rattle.workspace_check.proofs.Alike.{fault_as}
use Rattle.workspace_check.proofs.OneVerdict.{right_alike, right_below}
use Rattle.refactor_part.specs.FirstFaults.{IsFaultOfThese, HaveNoFault, HaveFirstFault, RefusesFirstOf}

module _ (w : Workspace) (P : List ℕ → Type 0) where
  pub fault_moved : (a b : Verdicts) → AreVerdicts w a → AreVerdicts w b → (f : FileFault) → IsFaultOfThese w a P f → IsFaultOfThese w b P f
  fault_moved a b right also f h = record {
    path = h.path;
    is_package = h.is_package;
    among = h.among;
    is_fault = fault_as w h.path a b (right_alike w h.path a b (right_below w a right h.path) (right_below w b also h.path)) f h.is_fault;
  }

  -- by other right verdicts
  abbrev pub none_as : (known : Verdicts) → AreVerdicts w known → HaveNoFault w P → HaveNoFault w P
  none_as known right h = record { known = known; right = right; none = λ f is. h.none f (fault_moved known h.known right h.right f is) }

-- of other packages
module _ (w : Workspace) (P Q : List ℕ → Type 0) (same : (p : List ℕ) → Contains (package_paths w) p → P p ↔ Q p) where
  of_these : (known : Verdicts) (f : FileFault) → IsFaultOfThese w known P f → IsFaultOfThese w known Q f
  of_these known f h = record { path = h.path; is_package = h.is_package; among = (same h.path h.is_package).0 h.among; is_fault = h.is_fault }

  of_those : (known : Verdicts) (f : FileFault) → IsFaultOfThese w known Q f → IsFaultOfThese w known P f
  of_those known f h = record { path = h.path; is_package = h.is_package; among = (same h.path h.is_package).1 h.among; is_fault = h.is_fault }

  pub none_of : HaveNoFault w P → HaveNoFault w Q
  none_of h = record { known = h.known; right = h.right; none = λ f is. h.none f (of_those h.known f is) }

  pub first_of : (place : Place) (kind : FaultKind) → HaveFirstFault w P place kind → HaveFirstFault w Q place kind
  first_of place kind h = record {
    known = h.known;
    right = h.right;
    is_fault = of_these h.known _ h.is_fault;
    first = λ other is. h.first other (of_those h.known other is);
  }

  refused_of : (r : Refusal) → RefusesFirstOf w P (Err r) → RefusesFirstOf w Q (Err r)
  refused_of refusal.Memory h = tt
  refused_of refusal.BadCommand h = absurd h
  refused_of refusal.BadPath h = absurd h
  refused_of refusal.NoFile h = absurd h
  refused_of refusal.TooLarge h = absurd h
  refused_of (refusal.Moved a) h = absurd h
  refused_of refusal.NothingToUndo h = absurd h
  refused_of refusal.NothingToRedo h = absurd h
  refused_of (refusal.Faulty place kind) h = first_of place kind h
  refused_of refusal.NoIdentifier h = absurd h
  refused_of refusal.NotRenamable h = absurd h
  refused_of refusal.BadName h = absurd h
  refused_of refusal.Same h = absurd h
  refused_of (refusal.Captured a b) h = absurd h
  refused_of (refusal.Lost a) h = absurd h
  refused_of refusal.NoPackage h = absurd h
  refused_of refusal.TargetTaken h = absurd h
  refused_of refusal.InsideItself h = absurd h
  refused_of refusal.JournalFull h = absurd h
  refused_of (refusal.Pending a) h = absurd h
  refused_of (refusal.Stale a) h = absurd h
  refused_of refusal.Already h = absurd h
  refused_of refusal.NoJob h = absurd h
  refused_of refusal.BodyShort h = absurd h
  refused_of (refusal.Coupled place) h = absurd h
  refused_of refusal.Disk h = absurd h

  pub refuses_of : (r : Result (Unit {0}) Refusal) → RefusesFirstOf w P r → RefusesFirstOf w Q r
  refuses_of (Ok done) h = none_of h
  refuses_of (Err r) h = refused_of r h
