-- The names with which units are carried over a planned rename.
use Rattle.std.specs.Prelude.{ℕ, ◌≡◌, ◌⊎◌, ⊤, List, [], Ok}
use Rattle.base_files.specs.Path.{IsPath}
use Rattle.base_files.specs.Workspace.{Workspace}
use Rattle.base_files.specs.declared.refusal.Refusal.{Refusal}
use Rattle.base_files.specs.declared.refusal.Refusal.TheVariants.{BadPath, Faulty, Memory}
use Rattle.workspace_check.specs.FaultLists.{ListsFaults}
use Rattle.workspace_snapshot.specs.declared.change.Change.{Change}
use Rattle.workspace_snapshot.specs.declared.snapshot.Snapshot.{Snapshot}
use Rattle.build_names.specs.Words.{NameChange}
use Rattle.build_kept.specs.KnownUnits.{CarriesUnits}
use Rattle.refs_binding.specs.Uses.{HasFirstFault}
use Rattle.refactor_plan.specs.Plan.{PlansRename}
use Rattle.refactor_units.specs.LevelNames.{IsLevelAt}
use Rattle.refactor_units.specs.LocalNames.{IsLocalAt}

-- The files have no fault. Where a rename of the identifier at the byte to this name is planned, its files carry units over with these names.
pub record CarriesPlanned (snapshot : Snapshot) (path : List ℕ) (offset : ℕ) (name : List ℕ) (cs : List NameChange) : Type 0 where
  pub sound : ListsFaults snapshot.files []
  pub carries : (change : Change) → PlansRename snapshot path offset name (Ok change) → CarriesUnits snapshot.files change.files cs

-- So it is of each snapshot with these files.
abbrev pub CarriesRename : Workspace → (path : List ℕ) → (offset : ℕ) → (name : List ℕ) → List NameChange → Type 0
CarriesRename w path offset name cs = (snapshot : Snapshot) → snapshot.files ≡ w → CarriesPlanned snapshot path offset name cs

-- The identifier at the byte is bound to a declaration over whose rename units are carried: a local one, or a package-level one in a workspace
-- whose packages have legible paths.
abbrev pub HasCarriedName : Workspace → (path : List ℕ) → (offset : ℕ) → (name : List ℕ) → Type 0
HasCarriedName w path offset name = IsLocalAt w path offset ⊎ ((c : NameChange) × IsLevelAt w path offset name c)

-- No names are answered for what is no path, and where a package has a fault.
abbrev pub RefusesCarried : Workspace → (path : List ℕ) → Refusal → Type 0
RefusesCarried w path BadPath = IsPath 2 path → ⊥
RefusesCarried w path (Faulty place kind) = HasFirstFault w place kind
RefusesCarried w path Memory = ⊤
RefusesCarried w path refusal = ⊥
