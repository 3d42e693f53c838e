-- Refusals of the steps of planning a rename, in the words of the plan.
use Rattle.std.proofs.Common.{ℕ, inl, inr, List, [], sym, subst, refl}
use Rattle.std.specs.Prelude.{Result, Ok, Err}
use Rattle.base_files.specs.declared.refusal.Refusal.{Refusal}
use Rattle.base_files.specs.declared.refusal.Refusal.TheVariants as refusal
use Rattle.workspace_check.specs.declared.findings.Findings.{Findings}
use Rattle.workspace_check.specs.Verdicts.{Verdicts, AreVerdicts}
use Rattle.workspace_check.specs.FaultLists.{ListsFaults}
use Rattle.refs_binding.specs.declared.declaration.Declaration.{Declaration}
use Rattle.refs_binding.specs.Uses.{IsCheckedPackage, HasFileAt, HasDeclaration}
use Rattle.refs_binding.specs.Workspaces.{FindsDeclaration, RefusesFaults}
use Rattle.base_edits.specs.EditSet.{FileChanges}
use Rattle.base_edits.specs.Fits.{Fits}
use Rattle.workspace_snapshot.specs.declared.snapshot.Snapshot.{Snapshot}
use Rattle.workspace_snapshot.specs.declared.change.Change.{Change}
use Rattle.refactor_rename.specs.NewName.{IsNewName}
use Rattle.refactor_rename.specs.Naming.{IsFixed, IsReservedFor, RefusesName}
use Rattle.refactor_coupled.specs.CoupledEdits.{AreCoupledEdits}
use Rattle.refactor_plan.specs.Plan.{IsValidRename, ResolvesIdentifier, IsRenamable, IsLegalName, RenamesIdentifier, PlansRename}
use Rattle.refactor_plan.specs.Proposals.{PlansRenaming}
use Rattle.refactor_plan.specs.Steps.{PlansDeclaration, PlansAtByte}

-- The declaration of the identifier at the byte.

module _ (snapshot : Snapshot) (path : List ℕ) (offset : ℕ) (name : List ℕ) (sound : ListsFaults snapshot.files []) (known : Verdicts)
    (right : AreVerdicts snapshot.files known) where
  pub finds_refused : (r : Refusal) → FindsDeclaration snapshot.files known path offset (Err r) → PlansAtByte snapshot path offset name (Err r)
  finds_refused refusal.Memory h = h
  finds_refused refusal.BadCommand h = absurd h
  finds_refused refusal.BadPath h = absurd h
  finds_refused refusal.NoFile h = absurd h
  finds_refused refusal.TooLarge h = absurd h
  finds_refused (refusal.Moved a) h = absurd h
  finds_refused refusal.NothingToUndo h = absurd h
  finds_refused refusal.NothingToRedo h = absurd h
  finds_refused (refusal.Faulty a b) h = absurd h
  finds_refused refusal.NoIdentifier h = (sound, record { known = known; right = right; none = h })
  finds_refused refusal.NotRenamable h = (
    sound,
    inl
        (record { known = known; right = right; asked_in = h.0; is_asked = h.1.0; number = h.1.1.0; at = h.1.1.1.0; unbound = h.1.1.1.1 }),
  )
  finds_refused refusal.BadName h = absurd h
  finds_refused refusal.Same h = absurd h
  finds_refused (refusal.Captured a b) h = absurd h
  finds_refused (refusal.Lost a) h = absurd h
  finds_refused refusal.NoPackage h = absurd h
  finds_refused refusal.TargetTaken h = absurd h
  finds_refused refusal.InsideItself h = absurd h
  finds_refused refusal.JournalFull h = absurd h
  finds_refused (refusal.Pending a) h = absurd h
  finds_refused (refusal.Stale a) h = absurd h
  finds_refused refusal.Already h = absurd h
  finds_refused refusal.NoJob h = absurd h
  finds_refused refusal.BodyShort h = absurd h
  finds_refused (refusal.Coupled place) h = absurd h
  finds_refused refusal.Disk h = absurd h

  module _ (d : Declaration) (has : HasDeclaration snapshot.files known path offset d) where
    abbrev asked : ResolvesIdentifier snapshot.files path offset
    asked = record { known = known; right = right; declaration = d; has = has }

    abbrev renamable : (IsFixed (IsCheckedPackage snapshot.files known) d → ⊥) → IsRenamable snapshot.files path offset
    renamable free = record { asked = asked; not_fixed = free }

    abbrev may_be : (IsFixed (IsCheckedPackage snapshot.files known) d → ⊥) → (IsReservedFor (IsCheckedPackage snapshot.files known) d name → ⊥) →
        IsLegalName snapshot.files path offset name
    may_be free allowed = record { renamable = renamable free; allowed = allowed }

    pub name_refused : (r : Refusal) → RefusesName (IsCheckedPackage snapshot.files known) d name (Err r) → PlansAtByte snapshot path offset name (Err r)
    name_refused refusal.Memory h = h
    name_refused refusal.BadCommand h = absurd h
    name_refused refusal.BadPath h = absurd h
    name_refused refusal.NoFile h = absurd h
    name_refused refusal.TooLarge h = absurd h
    name_refused (refusal.Moved a) h = absurd h
    name_refused refusal.NothingToUndo h = absurd h
    name_refused refusal.NothingToRedo h = absurd h
    name_refused (refusal.Faulty a b) h = absurd h
    name_refused refusal.NoIdentifier h = absurd h
    name_refused refusal.NotRenamable h = (sound, inr (record { asked = asked; fixed = h }))
    name_refused refusal.BadName h = (sound, record { renamable = renamable h.0; reserved = h.1 })
    name_refused refusal.Same h = (sound, record { may = may_be h.0 h.1; called = h.2 })
    name_refused (refusal.Captured a b) h = absurd h
    name_refused (refusal.Lost a) h = absurd h
    name_refused refusal.NoPackage h = absurd h
    name_refused refusal.TargetTaken h = absurd h
    name_refused refusal.InsideItself h = absurd h
    name_refused refusal.JournalFull h = absurd h
    name_refused (refusal.Pending a) h = absurd h
    name_refused (refusal.Stale a) h = absurd h
    name_refused refusal.Already h = absurd h
    name_refused refusal.NoJob h = absurd h
    name_refused refusal.BodyShort h = absurd h
    name_refused (refusal.Coupled place) h = absurd h
    name_refused refusal.Disk h = absurd h

    module _ (ok : RefusesName (IsCheckedPackage snapshot.files known) d name (Ok tt)) where
      renaming : (set : List Declaration) (s : FileChanges) → AreCoupledEdits snapshot.files known d set name s →
          RenamesIdentifier snapshot.files path offset name s
      renaming set s are = record { may = may_be ok.0 ok.1; other = ok.2; set = set; edits = are }

      edits_refused : (s : FileChanges) → RenamesIdentifier snapshot.files path offset name s → (r : Refusal) →
          PlansRenaming snapshot known s (Err r) → PlansAtByte snapshot path offset name (Err r)
      edits_refused s is refusal.Memory h = h
      edits_refused s is refusal.BadCommand h = absurd h
      edits_refused s is refusal.BadPath h = absurd h
      edits_refused s is refusal.NoFile h = absurd h
      edits_refused s is refusal.TooLarge h = (sound, record { changes = s; renaming = is; preserves = h.0; too_large = h.1 })
      edits_refused s is (refusal.Moved a) h = absurd h
      edits_refused s is refusal.NothingToUndo h = absurd h
      edits_refused s is refusal.NothingToRedo h = absurd h
      edits_refused s is (refusal.Faulty a b) h = absurd h
      edits_refused s is refusal.NoIdentifier h = absurd h
      edits_refused s is refusal.NotRenamable h = absurd h
      edits_refused s is refusal.BadName h = absurd h
      edits_refused s is refusal.Same h = absurd h
      edits_refused s is (refusal.Captured a b) h = (
        sound,
        record { changes = s; renaming = is; not_preserved = h.0; known = known; right = right; told = h.1 },
      )
      edits_refused s is (refusal.Lost a) h = (sound, record { changes = s; renaming = is; not_preserved = h.0; known = known; right = right; told = h.1 })
      edits_refused s is refusal.NoPackage h = absurd h
      edits_refused s is refusal.TargetTaken h = absurd h
      edits_refused s is refusal.InsideItself h = absurd h
      edits_refused s is refusal.JournalFull h = absurd h
      edits_refused s is (refusal.Pending a) h = absurd h
      edits_refused s is (refusal.Stale a) h = absurd h
      edits_refused s is refusal.Already h = absurd h
      edits_refused s is refusal.NoJob h = absurd h
      edits_refused s is refusal.BodyShort h = absurd h
      edits_refused s is (refusal.Coupled place) h = (
        sound,
        record {
          changes = s;
          renaming = is;
          not_preserved = h.0;
          known = known;
          right = right;
          told =
              h.1;
        },
      )
      edits_refused s is refusal.Disk h = absurd h

      edits_planned : (set : List Declaration) (s : FileChanges) → AreCoupledEdits snapshot.files known d set name s → Fits s snapshot.files →
          (r : Result Change Refusal) → PlansRenaming snapshot known s r → PlansAtByte snapshot path offset name r
      edits_planned set s are fit (Err r) h = edits_refused s (renaming set s are) r h
      edits_planned set s are fit (Ok change) h =
          subst (λ (c : Change). PlansAtByte snapshot path offset name (Ok c)) (sym h.2)
          (sound, record { renaming = renaming set s are; preserves = h.0; fits = h.1; fit_files = fit; is_change = refl })

      pub declaration_planned : (r : Result Change Refusal) → PlansDeclaration snapshot known d name r →
          PlansAtByte snapshot path offset name r
      declaration_planned r (inl none) = subst (PlansAtByte snapshot path offset name) (sym none) tt
      declaration_planned r (inr h) = edits_planned h.0 h.1.0 h.1.1.0 h.1.1.1.0 r h.1.1.1.1

-- the first fault

pub faults_refused : (snapshot : Snapshot) (path : List ℕ) (offset : ℕ) (name : List ℕ) (found : Findings) (r : Refusal) →
    RefusesFaults snapshot.files found (Err r) → PlansAtByte snapshot path offset name (Err r)
faults_refused snapshot path offset name found refusal.Memory h = h
faults_refused snapshot path offset name found refusal.BadCommand h = absurd h
faults_refused snapshot path offset name found refusal.BadPath h = absurd h
faults_refused snapshot path offset name found refusal.NoFile h = absurd h
faults_refused snapshot path offset name found refusal.TooLarge h = absurd h
faults_refused snapshot path offset name found (refusal.Moved a) h = absurd h
faults_refused snapshot path offset name found refusal.NothingToUndo h = absurd h
faults_refused snapshot path offset name found refusal.NothingToRedo h = absurd h
faults_refused snapshot path offset name found (refusal.Faulty a b) h = h
faults_refused snapshot path offset name found refusal.NoIdentifier h = absurd h
faults_refused snapshot path offset name found refusal.NotRenamable h = absurd h
faults_refused snapshot path offset name found refusal.BadName h = absurd h
faults_refused snapshot path offset name found refusal.Same h = absurd h
faults_refused snapshot path offset name found (refusal.Captured a b) h = absurd h
faults_refused snapshot path offset name found (refusal.Lost a) h = absurd h
faults_refused snapshot path offset name found refusal.NoPackage h = absurd h
faults_refused snapshot path offset name found refusal.TargetTaken h = absurd h
faults_refused snapshot path offset name found refusal.InsideItself h = absurd h
faults_refused snapshot path offset name found refusal.JournalFull h = absurd h
faults_refused snapshot path offset name found (refusal.Pending a) h = absurd h
faults_refused snapshot path offset name found (refusal.Stale a) h = absurd h
faults_refused snapshot path offset name found refusal.Already h = absurd h
faults_refused snapshot path offset name found refusal.NoJob h = absurd h
faults_refused snapshot path offset name found refusal.BodyShort h = absurd h
faults_refused snapshot path offset name found (refusal.Coupled place) h = absurd h
faults_refused snapshot path offset name found refusal.Disk h = absurd h

-- a file that is there, and a name that has its form

module _ (snapshot : Snapshot) (path : List ℕ) (offset : ℕ) (name : List ℕ) (is : HasFileAt snapshot.files path) (form : IsNewName name) where
  well : ListsFaults snapshot.files [] → IsValidRename snapshot.files path name
  well sound = record { file = is; form = form; sound = sound }

  refused : (r : Refusal) → PlansAtByte snapshot path offset name (Err r) → PlansRename snapshot path offset name (Err r)
  refused refusal.Memory h = h
  refused refusal.BadCommand h = absurd h
  refused refusal.BadPath h = absurd h
  refused refusal.NoFile h = absurd h
  refused refusal.TooLarge h = (well h.0, h.1)
  refused (refusal.Moved a) h = absurd h
  refused refusal.NothingToUndo h = absurd h
  refused refusal.NothingToRedo h = absurd h
  refused (refusal.Faulty a b) h = (is, form, h)
  refused refusal.NoIdentifier h = (well h.0, h.1)
  refused refusal.NotRenamable h = (well h.0, h.1)
  refused refusal.BadName h = inr (well h.0, h.1)
  refused refusal.Same h = (well h.0, h.1)
  refused (refusal.Captured a b) h = (well h.0, h.1)
  refused (refusal.Lost a) h = (well h.0, h.1)
  refused refusal.NoPackage h = absurd h
  refused refusal.TargetTaken h = absurd h
  refused refusal.InsideItself h = absurd h
  refused refusal.JournalFull h = absurd h
  refused (refusal.Pending a) h = absurd h
  refused (refusal.Stale a) h = absurd h
  refused refusal.Already h = absurd h
  refused refusal.NoJob h = absurd h
  refused refusal.BodyShort h = absurd h
  refused (refusal.Coupled place) h = (well h.0, h.1)
  refused refusal.Disk h = absurd h

  pub planned : (r : Result Change Refusal) → PlansAtByte snapshot path offset name r → PlansRename snapshot path offset name r
  planned (Ok change) h = (well h.0, h.1)
  planned (Err r) h = refused r h
