-- The faults of some packages of a workspace, and the first one among them.
use Rattle.std.specs.Prelude.{ℕ, ◌≢◌, ⊤, List, Contains, Result, Ok, Err}
use Rattle.std.specs.declared.cmp.Ordering.TheVariants.{Less}
use Rattle.base_files.specs.Packages.{package_paths}
use Rattle.base_files.specs.Workspace.{Workspace}
use Rattle.base_files.specs.declared.fault_kind.FaultKind.{FaultKind}
use Rattle.base_files.specs.declared.place.Place.{Place}
use Rattle.base_files.specs.declared.refusal.Refusal.{Refusal}
use Rattle.base_files.specs.declared.refusal.Refusal.TheVariants.{Memory, Faulty}
use Rattle.workspace_check.specs.declared.fault.FileFault.{FileFault}
use Rattle.workspace_check.specs.Faults.{fault_cmp}
use Rattle.workspace_check.specs.Verdicts.{Verdicts, IsFaultBy, AreVerdicts}

-- A fault of a package for whose path `P` holds.
pub record IsFaultOfThese (w : Workspace) (known : Verdicts) (P : List ℕ → Type 0) (f : FileFault) : Type 0 where
  pub path : List ℕ
  pub is_package : Contains (package_paths w) path
  pub among : P path
  pub is_fault : IsFaultBy w known path f

-- No package for whose path `P` holds has a fault.
pub record HaveNoFault (w : Workspace) (P : List ℕ → Type 0) : Type 0 where
  pub known : Verdicts
  pub right : AreVerdicts w known
  pub none : (f : FileFault) → IsFaultOfThese w known P f → ⊥

-- The first fault, in the order of fault lists, of the packages for whose paths `P` holds.
pub record HaveFirstFault (w : Workspace) (P : List ℕ → Type 0) (place : Place) (kind : FaultKind) : Type 0 where
  pub known : Verdicts
  pub right : AreVerdicts w known
  pub is_fault : IsFaultOfThese w known P (record { place = place; kind = kind })
  pub first : (other : FileFault) → IsFaultOfThese w known P other → fault_cmp other (record { place = place; kind = kind }) ≢ Less

-- None of them has a fault, or the refusal has their first one.
abbrev pub RefusesFirstOf : Workspace → (List ℕ → Type 0) → Result (Unit {0}) Refusal → Type 0
RefusesFirstOf w P (Ok done) = HaveNoFault w P
RefusesFirstOf w P (Err (Faulty place kind)) = HaveFirstFault w P place kind
RefusesFirstOf w P (Err Memory) = ⊤
RefusesFirstOf w P (Err refusal) = ⊥
