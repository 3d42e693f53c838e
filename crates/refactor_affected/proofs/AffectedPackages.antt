-- The packages that a rename affects, by the declaration that was found at its byte.
use Rattle.std.proofs.Common.{◌≡◌, ℕ, inl, inr, List, [], Bool, None, sym, subst}
use Rattle.std.specs.Prelude.{Result, Ok, Err, Vec}
use Rattle.std.proofs.lemmas.Option.{none-some}
use Rattle.base_files.specs.Workspace.{Workspace}
use Rattle.base_files.specs.declared.refusal.Refusal.{Refusal}
use Rattle.base_files.specs.declared.refusal.Refusal.TheVariants.{NoIdentifier, NotRenamable}
use Rattle.base_files.specs.declared.refusal.Refusal.TheVariants as refusal
use Rattle.workspace_check.specs.FaultLists.{ListsFaults}
use Rattle.workspace_check.specs.Verdicts.{Verdicts, AreVerdicts}
use Rattle.workspace_check.specs.declared.findings.Findings.{Findings}
use Rattle.refs_binding.specs.declared.declaration.Declaration.{Declaration}
use Rattle.refs_binding.specs.declared.declaration.Declaration.TheVariants.{Predeclared, Declared, Field, Method}
use Rattle.refs_binding.specs.Uses.{IsCheckedPackage, HasDeclaration, HasNoIdentifier, HasNoDeclaration}
use Rattle.refs_binding.specs.Workspaces.{FindsDeclaration, RefusesFaults}
use Rattle.refs_binding.proofs.Alike.{package_for}
use Rattle.refs_lookup.proofs.Bindings.{held_stays}
use Rattle.refs_lookup.proofs.OneDeclaration.{one_held}
use Rattle.refs_places.specs.Outside.{declaring_path}
use Rattle.refactor_rename.specs.Naming.{IsFixed}
use Rattle.refactor_coupled.specs.Coupling.{IsRenamedSet}
use Rattle.refactor_coupled.proofs.SamePackages.{set_for}
use Rattle.refactor_plan.specs.Plan.{ResolvesToFixed}
use Rattle.refactor_affected.specs.Renames.{IsAffectedByRename, IsDeclaringPath}
use Rattle.refactor_affected.specs.Steps.{MarkPackages, MarksAboveSet, MarksOfHomes, MarksRenamed}
use Rattle.refactor_affected.proofs.Sound.{no_first_fault}

module _ (v : Workspace) (known : Verdicts) (right : AreVerdicts v known) (path : List ℕ) (offset : ℕ) where
  pub no_identifier : FindsDeclaration v known path offset (Err NoIdentifier) → HasNoIdentifier v path offset
  no_identifier h = record { known = known; right = right; none = h }

  pub no_declaration : FindsDeclaration v known path offset (Err NotRenamable) → HasNoDeclaration v path offset
  no_declaration h = record { known = known; right = right; asked_in = h.0; is_asked = h.1.0; number = h.1.1.0; at = h.1.1.1.0; unbound = h.1.1.1.1 }

  -- a declaration of no package is predeclared, and cannot be renamed
  fixed : (d : Declaration) → declaring_path d ≡ None → IsFixed (IsCheckedPackage v known) d
  fixed (Predeclared n) none = inl tt
  fixed (Declared p n) none = absurd (none-some p (sym none))
  fixed (Field s) none = absurd (none-some s.package (sym none))
  fixed (Method s) none = absurd (none-some s.package (sym none))

  pub resolves_to_fixed : (d : Declaration) → HasDeclaration v known path offset d → declaring_path d ≡ None → ResolvesToFixed v path offset
  resolves_to_fixed d has none = record { asked = record { known = known; right = right; declaration = d; has = has }; fixed = fixed d none }

  module _ (w : Workspace) (d : Declaration) (has : HasDeclaration v known path offset d) where
    -- what is renamed is so with this declaration, by whatever right verdicts it is found
    same_declaration : (e : Declaration) (other : Verdicts) → AreVerdicts v other → HasDeclaration v other path offset e → e ≡ d
    same_declaration e other also there =
        let here : HasDeclaration v known path offset e = held_stays v v other known also right path (λ file. ((λ h. h), (λ h. h))) offset e there in
        sym (one_held v known path offset d e has here)

    set_here : (q : List ℕ) (is : IsDeclaringPath v path offset q) → IsRenamedSet (IsCheckedPackage v known) d is.set
    set_here q is =
        let other = is.asked.known in
        subst (λ e. IsRenamedSet (IsCheckedPackage v known) e is.set) (same_declaration is.asked.declaration other is.asked.right is.asked.has)
        (set_for (IsCheckedPackage v other) (IsCheckedPackage v known) (package_for v other known is.asked.right right)
        (package_for v known other right is.asked.right) is.asked.declaration is.set is.is_set)

    pub mark_affected : (marks : List Bool) → MarksAboveSet w (IsCheckedPackage v known) d marks → MarkPackages w (IsAffectedByRename w v path offset) marks
    mark_affected marks m p there = (
      λ marked.
          let a = (m p there).0 marked in
          record {
            start = a.start;
            begins = record {
              asked = record { known = known; right = right; declaration = d; has = has };
              set = a.begins.0;
              is_set = a.begins.1.0;
              declares = a.begins.1.1;
            };
            in_closure = a.in_closure;
          },
      λ affected. (m p there).1 (record {
        start = affected.start;
        begins = (affected.begins.set, (set_here affected.start affected.begins, affected.begins.declares));
        in_closure = affected.in_closure;
      }),
    )

  -- why there is no declaration, there are no packages that a rename affects
  pub no_marks : (Z : Type 0) (w : Workspace) (r : Refusal) → FindsDeclaration v known path offset (Err r) → MarksRenamed {Z = Z} w v path offset (Err r)
  no_marks Z w refusal.Memory h = tt
  no_marks Z w refusal.BadCommand h = absurd h
  no_marks Z w refusal.BadPath h = absurd h
  no_marks Z w refusal.NoFile h = absurd h
  no_marks Z w refusal.TooLarge h = absurd h
  no_marks Z w (refusal.Moved a) h = absurd h
  no_marks Z w refusal.NothingToUndo h = absurd h
  no_marks Z w refusal.NothingToRedo h = absurd h
  no_marks Z w (refusal.Faulty place kind) h = absurd h
  no_marks Z w refusal.NoIdentifier h = no_identifier h
  no_marks Z w refusal.NotRenamable h = inl (no_declaration h)
  no_marks Z w refusal.BadName h = absurd h
  no_marks Z w refusal.Same h = absurd h
  no_marks Z w (refusal.Captured a b) h = absurd h
  no_marks Z w (refusal.Lost a) h = absurd h
  no_marks Z w refusal.NoPackage h = absurd h
  no_marks Z w refusal.TargetTaken h = absurd h
  no_marks Z w refusal.InsideItself h = absurd h
  no_marks Z w refusal.JournalFull h = absurd h
  no_marks Z w (refusal.Pending a) h = absurd h
  no_marks Z w (refusal.Stale a) h = absurd h
  no_marks Z w refusal.Already h = absurd h
  no_marks Z w refusal.NoJob h = absurd h
  no_marks Z w refusal.BodyShort h = absurd h
  no_marks Z w (refusal.Coupled place) h = absurd h
  no_marks Z w refusal.Disk h = absurd h

  module _ (Z : Type 0) (w : Workspace) (d : Declaration) (has : HasDeclaration v known path offset d) where
    not_marked : (r : Refusal) → MarksOfHomes {Z = Z} w (IsCheckedPackage v known) d (Err r) → MarksRenamed {Z = Z} w v path offset (Err r)
    not_marked refusal.Memory h = tt
    not_marked refusal.BadCommand h = absurd h
    not_marked refusal.BadPath h = absurd h
    not_marked refusal.NoFile h = absurd h
    not_marked refusal.TooLarge h = absurd h
    not_marked (refusal.Moved a) h = absurd h
    not_marked refusal.NothingToUndo h = absurd h
    not_marked refusal.NothingToRedo h = absurd h
    not_marked (refusal.Faulty place kind) h = absurd h
    not_marked refusal.NoIdentifier h = absurd h
    not_marked refusal.NotRenamable h = inr (resolves_to_fixed d has h)
    not_marked refusal.BadName h = absurd h
    not_marked refusal.Same h = absurd h
    not_marked (refusal.Captured a b) h = absurd h
    not_marked (refusal.Lost a) h = absurd h
    not_marked refusal.NoPackage h = absurd h
    not_marked refusal.TargetTaken h = absurd h
    not_marked refusal.InsideItself h = absurd h
    not_marked refusal.JournalFull h = absurd h
    not_marked (refusal.Pending a) h = absurd h
    not_marked (refusal.Stale a) h = absurd h
    not_marked refusal.Already h = absurd h
    not_marked refusal.NoJob h = absurd h
    not_marked refusal.BodyShort h = absurd h
    not_marked (refusal.Coupled place) h = absurd h
    not_marked refusal.Disk h = absurd h

    pub marks_found : (r : Result (Vec Bool Z) Refusal) → MarksOfHomes w (IsCheckedPackage v known) d r → MarksRenamed w v path offset r
    marks_found (Ok marks) m = mark_affected w d has marks.items m.1
    marks_found (Err r) m = not_marked r m

-- a workspace without faults is not refused
module _ (Z : Type 0) (v : Workspace) (sound : ListsFaults v []) (found : Findings) (w : Workspace) (path : List ℕ) (offset : ℕ) where
  pub sound_part : (r : Refusal) → RefusesFaults v found (Err r) → MarksRenamed {Z = Z} w v path offset (Err r)
  sound_part refusal.Memory h = tt
  sound_part refusal.BadCommand h = absurd h
  sound_part refusal.BadPath h = absurd h
  sound_part refusal.NoFile h = absurd h
  sound_part refusal.TooLarge h = absurd h
  sound_part (refusal.Moved a) h = absurd h
  sound_part refusal.NothingToUndo h = absurd h
  sound_part refusal.NothingToRedo h = absurd h
  sound_part (refusal.Faulty place kind) h = absurd (no_first_fault v sound place kind h)
  sound_part refusal.NoIdentifier h = absurd h
  sound_part refusal.NotRenamable h = absurd h
  sound_part refusal.BadName h = absurd h
  sound_part refusal.Same h = absurd h
  sound_part (refusal.Captured a b) h = absurd h
  sound_part (refusal.Lost a) h = absurd h
  sound_part refusal.NoPackage h = absurd h
  sound_part refusal.TargetTaken h = absurd h
  sound_part refusal.InsideItself h = absurd h
  sound_part refusal.JournalFull h = absurd h
  sound_part (refusal.Pending a) h = absurd h
  sound_part (refusal.Stale a) h = absurd h
  sound_part refusal.Already h = absurd h
  sound_part refusal.NoJob h = absurd h
  sound_part refusal.BodyShort h = absurd h
  sound_part (refusal.Coupled place) h = absurd h
  sound_part refusal.Disk h = absurd h
