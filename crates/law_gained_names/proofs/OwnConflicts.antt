-- The old names tell what the rename of an import without a name does to identifiers that the scopes of its package bind.
use Rattle.std.proofs.Common.{ℕ, ◌≡◌, List, sym, subst, ◌∙◌}
use Rattle.std.specs.Prelude.{◌↔◌, Option, Some, None}
use Rattle.base_files.specs.Workspace.{Workspace}
use Rattle.base_files.specs.declared.place.Place.{Place}
use Rattle.base_edits.specs.EditSet.{FileChanges}
use Rattle.go_scope.specs.Bindings.{Counts, IsBoundTo}
use Rattle.go_scope.proofs.Uniqueness.{bound_once}
use Rattle.law_rename.specs.Renaming.{HasNoConflictAt, IsCaptured, IsLost, Renames, WouldCapture, WouldLose}
use Rattle.law_rename.proofs.AfterRename.{declared_before}
use Rattle.law_rename.proofs.Conflicts.{captures, loses}
use Rattle.law_rename.proofs.Exactness.{exact_at}
use Rattle.types_declared.specs.Package.{Package}
use Rattle.workspace_check.specs.Verdicts.{Verdicts}
use Rattle.refs_binding.specs.declared.declaration.Declaration.{Declaration}
use Rattle.refs_binding.specs.Identifiers.{BeginsAt}
use Rattle.refs_binding.specs.Uses.{IsCheckedPackage}
use Rattle.refactor_conflict.specs.BoundAfter.{HasBecome, IsBoundByScopes}
use Rattle.refactor_conflict.specs.Conflicts.{ChangesBinding, IsCapturer, IsConflict, LostOrCaptured, by_scope, is_captured, is_lost}
use Rattle.refactor_conflict.specs.Staying.{StaysByScope}
use Rattle.refactor_conflict.specs.declared.conflict.Capturer.{Capturer}
use Rattle.refactor_conflict.specs.declared.conflict.Conflict.{Conflict}
use Rattle.law_renamed_workspaces.proofs.OwnNames.{counted}
use Rattle.law_agreement.specs.ConflictsByTables.{IsOwnNumber}
use Rattle.law_agreement.proofs.OwnConflicts.{number_of, numbered, one_number}
use Rattle.law_agreement.specs.ScopeConflicts.{IsOwnConflict, IsOwnConflictBy}
use Rattle.law_agreement.proofs.Together.{binds_number}
use Rattle.law_gained_names.specs.UnnamedRenames.{IsNamedFirst, IsUnnamedRename}
use Rattle.law_gained_names.proofs.Numbered as numbers
use Rattle.law_gained_names.proofs.Own as after

module _ (w : Workspace) (known : Verdicts) (p : Package) (n : ℕ) (name : List ℕ) (s : FileChanges) (h : IsUnnamedRename w known p n name s)
    (f : IsNamedFirst w known p n name s) where
  abbrev names : ℕ → List ℕ
  names = numbers.names w known p n name s h f

  abbrev Bec : Declaration → Declaration → Type 0
  Bec = HasBecome w known (after.r w known p n name s h f)

  renames : Renames p.layout p.names n name names
  renames = numbers.renames w known p n name s h f

  -- an identifier stays bound exactly where the old names tell no conflict at it
  pub exact : (u m : ℕ) → IsBoundTo p.layout p.names u m → IsBoundTo p.layout names u m ↔ HasNoConflictAt p.layout p.names n name u
  exact u m was =
      exact_at p.layout (numbers.formed w known p n name s h f) p.names names n name renames.all_count renames.declared renames.other_name renames.renaming
      u m was

  pub captured : (u c : ℕ) → WouldCapture p.layout p.names n name u c → IsCaptured p.layout p.names names u c
  captured u c k =
      captures p.layout (numbers.formed w known p n name s h f) p.names names n name renames.all_count renames.declared renames.other_name renames.renaming
      u c k

  pub lost : (u : ℕ) → WouldLose p.layout p.names n name u → IsLost p.layout p.names names u
  lost u k =
      loses p.layout (numbers.formed w known p n name s h f) p.names names n name renames.all_count renames.declared renames.other_name renames.renaming u k

  counts_before : (u c : ℕ) → IsBoundTo p.layout names u c → Counts p.layout p.names c
  counts_before u c b =
      renames.all_count c
      (declared_before p.layout (numbers.formed w known p n name s h f) p.names names n name renames.all_count renames.declared renames.renaming c
      (counted p.layout names u c b).declares)

  module _ (u : ℕ) (place : Place) (begins : BeginsAt p place.path place.offset u) where
    abbrev E : Declaration → Type 0
    E = IsBoundByScopes (after.r w known p n name s h f) place

    -- where there is no conflict it stays bound
    pub own_stays : HasNoConflictAt p.layout p.names n name u → StaysByScope w known (after.r w known p n name s h f) p u place
    own_stays free old was =
        let m = number_of p u old was in
        let now : IsBoundTo p.layout names u m.0 = (exact u m.0 m.1.1).1 free in
        let to = after.goes_on w known p n name s h f m.0 old m.1.0 in
        record {
          declaration = to.0;
          bound = after.used_after w known p n name s h f u place begins m.0 old to.0 to.1 now;
          become = to.1.become (counted p.layout p.names u m.0 m.1.1) (counted p.layout names u m.0 now);
        }

    -- what is bound to a number afterwards has become what is declared there
    itself : (m : ℕ) (d e : Declaration) → after.IsNumberAfter w known p n name s h f m d e → IsBoundTo p.layout names u m → Bec d e
    itself m d e to now = to.become (counts_before u m now) (counted p.layout names u m now)

    lost_so : WouldLose p.layout p.names n name u → (old : Declaration) → LostOrCaptured Bec (IsCheckedPackage w known) E old None
    lost_so k old =
        is_lost (λ e c used become.
        let x = after.found w known p n name s h f u place begins e used in
        (lost u k).bound_to_none x.number x.bound)

    captured_so : (c : ℕ) (d : Declaration) (by : Capturer) → WouldCapture p.layout p.names n name u c → IsOwnNumber p c d → (m : ℕ) (old : Declaration) →
        IsOwnNumber p m old → IsBoundTo p.layout p.names u m → IsCapturer (IsCheckedPackage w known) d by →
        LostOrCaptured Bec (IsCheckedPackage w known) E old (Some by)
    captured_so c d by k is_d m old is_old was tells =
        let taken = captured u c k in
        let to = after.goes_on w known p n name s h f c d is_d in
        let used : E to.0 = after.used_after w known p n name s h f u place begins c d to.0 to.1 taken.now_bound in
        is_captured to.0 d used (itself c d to.0 to.1 taken.now_bound) tells (λ e now become.
        let x = after.found w known p n name s h f u place begins e now in
        let number : x.number ≡ c = bound_once p.layout (numbers.formed w known p n name s h f) names u x.number c x.bound taken.now_bound in
        let olds : old ≡ x.was = after.only w known p n name s h f u place begins old x.was e now become (itself x.number x.was e x.after x.bound) in
        let here : m ≡ x.number = one_number p m x.number old is_old (subst (IsOwnNumber p x.number) (sym olds) x.numbered) in
        let before : m ≡ taken.old = bound_once p.layout (numbers.formed w known p n name s h f) p.names u m taken.old was taken.was in
        taken.other (sym (here ∙ number) ∙ before))

    own_changes : (by : Option Capturer) → IsOwnConflictBy (IsCheckedPackage w known) p n name u by →
        ChangesBinding w known (after.r w known p n name s h f) p u (record { used = place; by = by })
    own_changes None k =
        let x = lost u k in
        let d = numbered p x.old in
        by_scope d.0 (binds_number p u x.old d.0 d.1 x.was) (lost_so k d.0)
    own_changes (Some by) k =
        let x = captured u k.0 k.1.0 in
        let d = numbered p x.old in
        by_scope d.0 (binds_number p u x.old d.0 d.1 x.was)
        (captured_so k.0 k.1.1.declaration by k.1.0 k.1.1.numbered x.old d.0 d.1 x.was k.1.1.told)

  -- each conflict by the old names is one of the change
  pub own_is : (c : Conflict) → IsOwnConflict (IsCheckedPackage w known) p n name c → IsConflict w known (after.r w known p n name s h f) c
  own_is c k = record {
    used_in = p;
    is_package = h.is_package;
    conflict = record { user = k.user; begins = k.begins; turned = own_changes k.user c.used k.begins c.by k.has };
  }
