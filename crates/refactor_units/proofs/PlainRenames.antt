-- The planned rename of a declaration that is no import without a name is a plain one.
use Rattle.std.proofs.Common.{ℕ, ◌≡◌, inr, List, [], refl}
use Rattle.base_edits.specs.EditSet.{FileChanges}
use Rattle.base_edits.specs.RevisionsOfEdits.{revision_of}
use Rattle.base_files.specs.Workspace.{Workspace}
use Rattle.base_files.specs.declared.place.Place.{Place}
use Rattle.go_scope.specs.Bindings.{Declares, own}
use Rattle.types_declared.specs.Package.{Package}
use Rattle.workspace_check.specs.Closures.{HasSameClosure}
use Rattle.workspace_check.specs.FaultLists.{ListsFaults}
use Rattle.workspace_check.specs.Verdicts.{Verdicts, AreVerdicts}
use Rattle.workspace_snapshot.specs.declared.change.Change.{Change}
use Rattle.workspace_snapshot.specs.declared.snapshot.Snapshot.{Snapshot}
use Rattle.refs_binding.specs.declared.declaration.Declaration.{Declaration}
use Rattle.refs_binding.specs.declared.declaration.Declaration.TheVariants.{Predeclared, Declared, Field, Method}
use Rattle.refs_binding.specs.Binding.{IsPredeclaredNumber, by_scope}
use Rattle.refs_binding.specs.Uses.{IsCheckedPackage, IsUseOf}
use Rattle.refactor_decide.proofs.Told.{no_literal}
use Rattle.refactor_decide.proofs.Written.{all_count, declares_within, written_begins}
use Rattle.refactor_rename.specs.declared.renamed.Literal.{Literal}
use Rattle.refactor_rename.specs.Literals.{IsPathLiteralOf, IsUnnamedImport}
use Rattle.refactor_rename.specs.NewName.{IsNewName}
use Rattle.refactor_coupled.specs.Obstacles.{PreservesAll}
use Rattle.refactor_plan.specs.Plan.{IsRenamed}
use Rattle.law_renamed_workspaces.specs.Harmless.{IsHarmless}
use Rattle.law_renamed_workspaces.specs.Renames.{IsPlainRename}
use Rattle.law_renamed_workspaces.proofs.OwnNames.{identifies}
use Rattle.law_implementing.specs.Obstacles.{NoObstacleIsHarmless, ObstaclesDecide}
use Rattle.law_implementing.proofs.Laws.{no_obstacle_is_harmless, obstacles_decide, sets_are_called_alike}

-- a workspace has the closures that it has
pub same_closure : (w : Workspace) (p : List ℕ) → HasSameClosure w w p
same_closure w p file = (λ h. h, λ h. h)

-- the declaration is no import without a name
abbrev pub HasOwnName : (Package → Type 0) → Declaration → Type 0
HasOwnName Known (Declared path n) = (p : Package) → Known p → p.path ≡ path → IsUnnamedImport p n → ⊥
HasOwnName Known (Predeclared n) = Unit {0}
HasOwnName Known (Field s) = Unit {0}
HasOwnName Known (Method s) = Unit {0}

-- some identifier is bound to a declaration of scopes that has a name of its own
pub used_there : (w : Workspace) → ListsFaults w [] → (known : Verdicts) → AreVerdicts w known → (p : Package) → IsCheckedPackage w known p → (n : ℕ) →
    (IsPredeclaredNumber n → ⊥) → Declares p.layout p.names n → (IsUnnamedImport p n → ⊥) → (place : Place) × IsUseOf w known (Declared p.path n) place
used_there w sound known right p is n not declares named =
    let there = written_begins w sound known right p is n (declares_within w sound known right p is n declares)
    (identifies w known p.path p is.is_checked n not, λ import literal. named (import, literal)) (inr declares.may) in (
      there.0,
      record {
        used_in = p;
        is_package = is;
        user = n;
        begins = there.1;
        bound = by_scope (refl, not, own refl (all_count w sound known right p is n declares));
      },
    )

-- a declaration with a name of its own has no string literal
literal_none : (K : Package → Type 0) (d : Declaration) → HasOwnName K d → (l : Literal) → IsPathLiteralOf K d l → ⊥
literal_none K (Predeclared n) named l h = h
literal_none K (Declared path n) named l h = named h.inside h.is_package h.of_path h.holds.1
literal_none K (Field s) named l h = h
literal_none K (Method s) named l h = h

pub planned_plain : (snapshot : Snapshot) (path : List ℕ) (offset : ℕ) (name : List ℕ) (change : Change) → ListsFaults snapshot.files [] → IsNewName name →
    (renamed : IsRenamed snapshot path offset name change) →
    (place : Place) × IsUseOf snapshot.files renamed.renaming.may.renamable.asked.known renamed.renaming.may.renamable.asked.declaration place →
    HasOwnName (IsCheckedPackage snapshot.files renamed.renaming.may.renamable.asked.known) renamed.renaming.may.renamable.asked.declaration →
    IsPlainRename snapshot.files renamed.renaming.may.renamable.asked.known renamed.renaming.may.renamable.asked.declaration name change.edits
planned_plain snapshot path offset name change sound form renamed used named =
    let asked = renamed.renaming.may.renamable.asked in
    let K = IsCheckedPackage snapshot.files asked.known in
    record {
      rename = record {
        right = asked.right;
        sound = sound;
        form = form;
        renamable = renamed.renaming.may.renamable.not_fixed;
        allowed = renamed.renaming.may.allowed;
        other = renamed.renaming.other;
        used = used;
        set = renamed.renaming.set;
        is_set = sets_are_called_alike snapshot.files asked.known asked.declaration renamed.renaming.set asked.right sound renamed.renaming.edits.is_set;
        edits = renamed.renaming.edits.edits;
        fit = renamed.fit_files;
      };
      plain = no_literal (IsPathLiteralOf K asked.declaration) (literal_none K asked.declaration named)
          renamed.renaming.edits.edits.renamed.literal renamed.renaming.edits.edits.is_renamed.literal;
    }

-- what is renamed is what the plan renames
pub planned_set : (snapshot : Snapshot) (path : List ℕ) (offset : ℕ) (name : List ℕ) (change : Change) (sound : ListsFaults snapshot.files [])
    (form : IsNewName name) (renamed : IsRenamed snapshot path offset name change)
    (used : (place : Place) × IsUseOf snapshot.files renamed.renaming.may.renamable.asked.known renamed.renaming.may.renamable.asked.declaration place)
    (named : HasOwnName (IsCheckedPackage snapshot.files renamed.renaming.may.renamable.asked.known) renamed.renaming.may.renamable.asked.declaration) →
    (planned_plain snapshot path offset name change sound form renamed used named).rename.set ≡ renamed.renaming.set
unfolding planned_plain
planned_set snapshot path offset name change sound form renamed used named = refl

-- A plain rename that preserves bindings and implementing types is harmless.
abbrev pub KeptAreHarmless : Type 0
KeptAreHarmless = (w : Workspace) (known : Verdicts) (d : Declaration) (name : List ℕ) (s : FileChanges) → IsPlainRename w known d name s →
    PreservesAll w (revision_of w s) → IsHarmless w known (revision_of w s)

harmless_by : NoObstacleIsHarmless → ObstaclesDecide → KeptAreHarmless
harmless_by harmless decide w known d name s plain kept = harmless w known d name s plain ((decide w known d name s plain).1 kept)

pub kept_harmless : KeptAreHarmless
kept_harmless = harmless_by no_obstacle_is_harmless obstacles_decide
