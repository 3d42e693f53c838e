-- What the steps of planning beside packages with faults answer.
use Rattle.std.specs.Prelude.{ℕ, ◌≡◌, ◌≢◌, ◌<◌, ◌↔◌, ◌⊎◌, ⊤, Bool, true, false, List, Contains, Some, None, Result, Ok, Err, Vec, length, slice_get}
use Rattle.base_files.specs.Packages.{package_paths}
use Rattle.base_files.specs.Workspace.{Workspace}
use Rattle.base_files.specs.declared.refusal.Refusal.{Refusal}
use Rattle.base_files.specs.declared.refusal.Refusal.TheVariants.{Memory, TooLarge, Faulty, NoIdentifier, NotRenamable, Captured, Coupled, Lost}
use Rattle.workspace_graph.specs.Search.{IsMarked}
use Rattle.refs_binding.specs.declared.declaration.Declaration.{Declaration}
use Rattle.types_declared.specs.Package.{Package}
use Rattle.refs_places.specs.Homes.{IsHomeOfSome}
use Rattle.refs_places.specs.Outside.{declaring_path}
use Rattle.refs_binding.specs.Uses.{HasNoIdentifier, HasNoDeclaration}
use Rattle.refactor_part.specs.Affected.{IsAffected, IsMarkedPackage}
use Rattle.refactor_coupled.specs.Coupling.{IsRenamedSet}
use Rattle.refactor_plan.specs.Plan.{ResolvesToFixed}
use Rattle.refactor_affected.specs.Renames.{IsAffectedByRename}

-- The marked packages are exactly those of the workspace for whose paths `P` holds.
abbrev pub MarkPackages : Workspace → (List ℕ → Type 0) → List Bool → Type 0
MarkPackages w P marks = (p : List ℕ) → Contains (package_paths w) p → IsMarkedPackage w marks p ↔ P p

-- The packages in whose closures a package is that declares what is renamed with the declaration.
abbrev pub MarksAboveSet : Workspace → (IsPackage : Package → Type 0) → Declaration → List Bool → Type 0
MarksAboveSet w IsPackage d marks =
    MarkPackages w (IsAffected w (λ home. (set : List Declaration) × (IsRenamedSet IsPackage d set × IsHomeOfSome set home))) marks

-- The marks of these packages. A predeclared declaration can't be renamed.
abbrev pub MarksOfHomes : {Z : Type 0} → Workspace → (IsPackage : Package → Type 0) → Declaration → Result (Vec Bool Z) Refusal → Type 0
MarksOfHomes w IsPackage d (Ok marks) = (declaring_path d ≢ None) × MarksAboveSet w IsPackage d marks.items
MarksOfHomes w IsPackage d (Err NotRenamable) = declaring_path d ≡ None
MarksOfHomes w IsPackage d (Err Memory) = ⊤
MarksOfHomes w IsPackage d (Err refusal) = ⊥

-- The marks of the packages that a rename affects, or why there is nothing to rename at the byte.
abbrev pub MarksRenamed : {Z : Type 0} → (w v : Workspace) → (path : List ℕ) → (offset : ℕ) → Result (Vec Bool Z) Refusal → Type 0
MarksRenamed w v path offset (Ok marks) = MarkPackages w (IsAffectedByRename w v path offset) marks.items
MarksRenamed w v path offset (Err NoIdentifier) = HasNoIdentifier v path offset
MarksRenamed w v path offset (Err NotRenamable) = HasNoDeclaration v path offset ⊎ ResolvesToFixed v path offset
MarksRenamed w v path offset (Err Memory) = ⊤
MarksRenamed w v path offset (Err refusal) = ⊥

-- Of the first `count` packages exactly those are marked for whose paths `P` holds. There is no other mark.
pub record MarkFirst (w : Workspace) (P : List ℕ → Type 0) (count : ℕ) (marks : List Bool) : Type 0 where
  pub size : length marks ≡ count
  pub each : (n : ℕ) (p : List ℕ) → n < count → slice_get (package_paths w) n ≡ Some p → IsMarked marks n ↔ P p

-- The refusal of a rename or a move in the part. Faults of affected packages come before a conflict and a limit.
abbrev pub fault_or : Refusal → Result (Unit {0}) Refusal → Refusal
fault_or refusal (Ok done) = refusal
fault_or refusal (Err fault) = fault

abbrev pub refusal_after : Refusal → Result (Unit {0}) Refusal → Refusal
refusal_after (Captured used by) faults = fault_or (Captured used by) faults
refusal_after (Lost used) faults = fault_or (Lost used) faults
refusal_after (Coupled place) faults = fault_or (Coupled place) faults
refusal_after TooLarge faults = fault_or TooLarge faults
refusal_after refusal faults = refusal

-- Whether a refusal names a fault.
abbrev pub is_of_fault : Refusal → Bool
is_of_fault (Faulty place kind) = true
is_of_fault refusal = false
