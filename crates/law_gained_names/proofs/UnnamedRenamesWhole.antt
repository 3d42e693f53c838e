-- Renames of imports without a name: what is lost or captured is told by the old names, and none is exactly where bindings are preserved.
use Rattle.std.proofs.Common.{ℕ, ◌≡◌, inl, inr, List, sym, subst, ◌∙◌}
use Rattle.std.specs.Prelude.{◌↔◌, Option, Some, None, slice_get}
use Rattle.base_files.specs.Packages.{package_paths}
use Rattle.base_files.specs.Workspace.{Workspace}
use Rattle.base_files.specs.declared.place.Place.{Place}
use Rattle.base_edits.specs.EditSet.{FileChanges, edited}
use Rattle.base_edits.specs.Moved.{moved}
use Rattle.base_edits.specs.Revisions.{Revision}
use Rattle.base_edits.specs.RevisionsOfEdits.{revision_of}
use Rattle.go_scope.specs.declared.model.Block.TheVariants.{File}
use Rattle.go_scope.specs.declared.model.Block.TheVariants.{Package as PackageBlock}
use Rattle.go_scope.specs.Bindings.{IsBoundTo, IsPackageLevel}
use Rattle.go_scope.proofs.Nests.{nests}
use Rattle.law_rename.specs.Renaming.{HasNoConflictAt, KeepsOtherBindings, KeepsScopeBindings, Renames}
use Rattle.law_rename.proofs.Exactness.{exact}
use Rattle.law_rename.proofs.Imports.{imports_kept}
use Rattle.types_declared.specs.Package.{Package}
use Rattle.types_declared.proofs.ByteKeys.{cases_bytes}
use Rattle.workspace_check.specs.declared.known.Known.{Known}
use Rattle.workspace_check.specs.Found.{KnowsVerdicts}
use Rattle.workspace_check.specs.Verdicts.{Verdicts}
use Rattle.refs_binding.specs.declared.declaration.Declaration.TheVariants.{Declared}
use Rattle.refs_binding.specs.Identifiers.{BeginsAt}
use Rattle.refs_binding.specs.Uses.{IsCheckedPackage}
use Rattle.refs_binding.proofs.Units.{one_package}
use Rattle.refactor_preserve.specs.Preserved.{Preserves}
use Rattle.refactor_conflict.specs.Conflicts.{IsFirstConflict}
use Rattle.refactor_conflict.specs.Staying.{NoneIsLost, StaysAt, StaysByScope}
use Rattle.refactor_conflict.specs.declared.conflict.Conflict.{Conflict}
use Rattle.refactor_conflict.proofs.ConflictsDiffer.{not_staying}
use Rattle.law_renamed_workspaces.specs.KnownVerdicts.{HoldVerdictsBut, IsHidden}
use Rattle.law_renamed_workspaces.proofs.Harmless.{declared_harmless}
use Rattle.law_agreement.specs.KnownStay.{HiddenRenamesKeepAll}
use Rattle.law_agreement.proofs.KnownStay.{keep_hidden}
use Rattle.law_agreement.proofs.Laws.{scope_renames_agree}
use Rattle.law_agreement.specs.PlainAgreement.{ScopeRenamesAgree}
use Rattle.law_renamed_workspaces.proofs.SameBindings.{imports_used}
use Rattle.law_agreement.specs.Behind.{TurnsBehind, hidden, preceded, repeated}
use Rattle.law_agreement.specs.ScopeConflicts.{FirstConflictBehind, FirstOwnConflict, HasNoOwnConflict, IsConflictBehind, earlier_conflict}
use Rattle.law_agreement.specs.ScopeConflicts.{NoConflictStays, OwnConflictsAreConflicts}
use Rattle.law_agreement.proofs.Together.{none_behind}
use Rattle.law_agreement.proofs.Whole.{no_conflict, own_conflicts}
use Rattle.law_gained_names.specs.UnnamedRenames.{IsNamedFirst, IsUnnamedRename, StepsPreserve}
use Rattle.law_gained_names.specs.UnnamedRenames.{UnnamedConflictsAreTold, UnnamedConflictsRefuse, UnnamedRenamesAgree, UnnamedRenamesKeepOthers}
use Rattle.law_gained_names.proofs.Beside.{free_back, kept_beside, literal_unbound, old_number}
use Rattle.law_gained_names.proofs.Capturers.{no_conflict_at}
use Rattle.law_gained_names.proofs.Known.{others_known}
use Rattle.law_gained_names.proofs.UnnamedRenamesMembers.{members}
use Rattle.law_gained_names.proofs.Numbered as numbers
use Rattle.law_gained_names.proofs.Others.{elsewhere_stays, stays_behind}
use Rattle.law_gained_names.proofs.OwnConflicts as conflicts
use Rattle.law_gained_names.proofs.Tokens as tokens

module _ (w : Workspace) (known : Verdicts) (p : Package) (n : ℕ) (name : List ℕ) (s : FileChanges) (h : IsUnnamedRename w known p n name s)
    (f : IsNamedFirst w known p n name s) where
  abbrev r : Revision
  r = revision_of w s

  -- where the old names tell no conflict all stays
  pub stays : (place : Place) → HasNoOwnConflict p n name place → StaysAt w known r place
  stays place free y is u begins = record {
    by_scope = elim (cases_bytes y.path p.path) [
      | inl same ↦
          (let one : y ≡ p = one_package w known y p is h.is_package same in
          let here : BeginsAt p place.path place.offset u = subst (λ (x : Package). BeginsAt x place.path place.offset u) one begins in
          subst (λ (x : Package). StaysByScope w known r x u place) (sym one)
          (conflicts.own_stays w known p n name s h f u place here (free u here)))
      | inr away ↦ elsewhere_stays w known p n name s h f y is away u place begins
    ];
    by_package = stays_behind w known p n name s h f y is u place begins;
    by_member = (members w known p n name s h y is u place begins).0;
    by_name = (members w known p n name s h y is u place begins).1;
  }

  told_first : (told : Option Conflict) → FirstOwnConflict (IsCheckedPackage w known) p n name told → IsFirstConflict w known r told
  told_first None first = λ place. stays place (first place)
  told_first (Some c) first = (conflicts.own_is w known p n name s h f c first.0, λ place before. stays place (first.1 place before))

  -- behind the package's name there is no conflict

  level_turned : (old : ℕ) (by : Option ℕ) → TurnsBehind p.layout p.names n name old by → IsPackageLevel p.layout old → IsPackageLevel p.layout n
  level_turned old by (hidden not) level = level
  level_turned old by (preceded level k lt) other = level
  level_turned old by (repeated level k lt) other = level

  not_behind : (c : Conflict) → IsConflictBehind (IsCheckedPackage w known) p n name c → ⊥
  not_behind c k =
      let t = k.turns in
      let one : t.was.other ≡ p = one_package w known t.was.other p t.was.is_package h.is_package t.was.of_path in
      let level = level_turned t.old k.by t.turns (subst (λ (y : Package). IsPackageLevel y.layout t.old) one t.was.seen.package_level) in
      let z : PackageBlock ≡ File h.unnamed.0.0 = sym level ∙ h.unnamed.0.1 in cc

  told_both : (own behind : Option Conflict) → FirstOwnConflict (IsCheckedPackage w known) p n name own →
      FirstConflictBehind (IsCheckedPackage w known) p n name behind → IsFirstConflict w known r (earlier_conflict own behind)
  told_both None None first none = told_first None first
  told_both (Some c) None first none = told_first (Some c) first
  told_both own (Some c) first some = absurd (not_behind c some.0)

pub unnamed_conflicts_are_told : UnnamedConflictsAreTold
unnamed_conflicts_are_told w known p n name s h f own behind first none = told_both w known p n name s h f own behind first none

-- The agreement

module _ (keeps : NoConflictStays) (own_ones : OwnConflictsAreConflicts) (w : Workspace) (known : Verdicts) (p : Package)
    (n : ℕ) (name : List ℕ) (s : FileChanges) (h : IsUnnamedRename w known p n name s) (f : IsNamedFirst w known p n name s) where
  abbrev whole : Revision
  whole = revision_of w s

  abbrev v : Workspace
  v = numbers.v w known p n name s h f

  abbrev q : Package
  q = f.inside

  abbrev g : ℕ → ℕ
  g = numbers.g w known p n name s h f

  abbrev second : Revision
  second = numbers.second w known p n name s h f

  abbrev names : ℕ → List ℕ
  names = numbers.names w known p n name s h f

  renames : Renames p.layout p.names n name names
  renames = numbers.renames w known p n name s h f

  renames_second : Renames q.layout q.names n name (numbers.o w known p n name s h f).names
  renames_second = numbers.renames_second w known p n name s h f

  -- Where both steps lose none, the old names tell no conflict.

  free_at : NoneIsLost w known whole → (u : ℕ) (place : Place) → BeginsAt p place.path place.offset u → HasNoConflictAt p.layout p.names n name u
  free_at none u place begins =
      no_conflict_at w known p h.is_package n name names renames u place begins
      (λ by own_one.
      not_staying w known whole (record { used = place; by = by }) (conflicts.own_is w known p n name s h f (record { used = place; by = by }) own_one)
      (none place))

  -- So all identifiers stay bound but imports, which stay bound since they are used.

  others_kept : NoneIsLost w known whole → KeepsOtherBindings p.layout p.names names
  others_kept none u e other was = kept_beside w known p n name s h f (free_at none) u e other was

  all_kept : NoneIsLost w known whole → KeepsScopeBindings p.layout p.names names
  all_kept none =
      imports_kept p.layout (numbers.formed w known p n name s h f) p.names names n name renames.all_count renames.declared renames.other_name
      renames.renaming (imports_used w h.rename.sound known h.rename.right p h.is_package) (others_kept none)

  -- then the second step has no conflict either

  second_kept : KeepsScopeBindings p.layout p.names names → KeepsScopeBindings q.layout q.names (numbers.o w known p n name s h f).names
  second_kept kept k e was = by_number (old_number w known p n name s h f k (λ same. literal_unbound w known p n name s h f e
      (subst (λ z. IsBoundTo q.layout q.names z e) same was)))
    where
      by_number : (u : ℕ) × (g u ≡ k) → IsBoundTo q.layout (numbers.o w known p n name s h f).names k e
      by_number u =
          let here : IsBoundTo q.layout q.names (g u.0) e = subst (λ z. IsBoundTo q.layout q.names z e) (sym u.1) was in
          let d = numbers.bound_to_old w known p n name s h f q.names u.0 e here in
          let there : IsBoundTo q.layout q.names (g u.0) (g d.0) = subst (λ z. IsBoundTo q.layout q.names (g u.0) z) (sym d.1) here in
          let now = (numbers.bound w known p n name s h f (numbers.o w known p n name s h f).names u.0 d.0).0
          (kept u.0 d.0 ((numbers.bound_first w known p n name s h f u.0 d.0).1 there)) in
          subst (λ z. IsBoundTo q.layout (numbers.o w known p n name s h f).names z e) u.1
          (subst (λ z. IsBoundTo q.layout (numbers.o w known p n name s h f).names (g u.0) z) d.1 now)

  second_free : KeepsScopeBindings q.layout q.names (numbers.o w known p n name s h f).names → (place : Place) → HasNoOwnConflict q n name place
  second_free kept place k begins =
      ((exact q.layout (nests q.layout renames_second.well_formed) q.names (numbers.o w known p n name s h f).names n name renames_second.all_count
      renames_second.declared renames_second.other_name renames_second.renaming).0 kept) k

  second_none : ((place : Place) → HasNoOwnConflict q n name place) → NoneIsLost v known second
  second_none free =
      λ place. keeps v known q n name f.renaming f.renames place (free place)
      (none_behind v known q n name f.renaming f.renames (numbers.no_level w known p n name s h f) place)

  second_loses_none : NoneIsLost w known whole → NoneIsLost v known second
  second_loses_none none = second_none (second_free (second_kept (all_kept none)))

  -- Where both steps preserve bindings the second one has no conflict, so both have none.

  second_free_at : NoneIsLost v known second → (k : ℕ) (place : Place) → BeginsAt q place.path place.offset k → HasNoConflictAt q.layout q.names n name k
  second_free_at none k place begins =
      no_conflict_at v known q f.renames.is_package n name (numbers.o w known p n name s h f).names renames_second k place begins
      (λ by own_one.
      not_staying v known second (record { used = place; by = by })
      (own_ones v known q n name f.renaming f.renames (record { used = place; by = by }) own_one) (none place))

  first_free : NoneIsLost v known second → (place : Place) → HasNoOwnConflict p n name place
  first_free none place u begins =
      free_back w known p n name s h f u (second_free_at none (g u) (moved f.naming place) (tokens.begins w known p n name s h f u place begins))

  both_lose_none : NoneIsLost v known second → NoneIsLost w known whole
  both_lose_none none = λ place. stays w known p n name s h f place (first_free none place)

  agree_by : ScopeRenamesAgree → StepsPreserve w s f.naming f.renaming → NoneIsLost w known whole ↔ Preserves w whole
  agree_by agree steps =
      let same = agree v known q n name f.renaming f.renames in
      ((λ none. steps.1 (same.0 (second_loses_none none))), (λ kept. both_lose_none (same.1 (steps.0 kept))))

  -- What is known

  hidden_import : IsHidden v known (Declared q.path n) name
  hidden_import x also same =
      inl (λ level. numbers.no_level w known p n name s h f
      (subst (λ (y : Package). IsPackageLevel y.layout n) (one_package v known x q also f.renames.is_package same) level))

  keep_by : HiddenRenamesKeepAll → NoneIsLost w known whole → (number : ℕ) → slice_get (package_paths w) number ≡ Some p.path → (old rest : Known) →
      KnowsVerdicts w old → HoldVerdictsBut (λ k. k ≡ number) old.verdicts.items rest.verdicts.items → KnowsVerdicts (edited s w) rest
  keep_by law none number at old rest knows held =
      let between : KnowsVerdicts v rest =
      others_known w v h.rename.sound known h.rename.right f.renames.rename.rename.right f.number p q f.workspace number at old rest knows held in
      subst (λ (x : Workspace). KnowsVerdicts x rest) (sym f.files)
      (law v known (Declared q.path n) name f.renaming (record {
        plain = f.renames.rename;
        kept = declared_harmless v known q.path n name f.renaming f.renames.rename (second_loses_none none);
      }) hidden_import rest between)

agreed : ScopeRenamesAgree → NoConflictStays → OwnConflictsAreConflicts → UnnamedRenamesAgree
agreed agree keeps own_ones w known p n name s h f steps = agree_by keeps own_ones w known p n name s h f agree steps

kept_by : HiddenRenamesKeepAll → NoConflictStays → OwnConflictsAreConflicts → UnnamedRenamesKeepOthers
kept_by law keeps own_ones w known p n name s h f = keep_by keeps own_ones w known p n name s h f law

pub unnamed_renames_keep_others : UnnamedRenamesKeepOthers
unnamed_renames_keep_others = kept_by keep_hidden no_conflict own_conflicts

pub unnamed_renames_agree : UnnamedRenamesAgree
unnamed_renames_agree = agreed scope_renames_agree no_conflict own_conflicts

refuse_by : UnnamedRenamesAgree → UnnamedConflictsRefuse
refuse_by law w known p n name s h f steps c conflict kept =
    not_staying w known (revision_of w s) c conflict ((law w known p n name s h f steps).1 kept c.used)

pub unnamed_conflicts_refuse : UnnamedConflictsRefuse
unnamed_conflicts_refuse = refuse_by unnamed_renames_agree
