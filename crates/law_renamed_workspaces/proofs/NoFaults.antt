-- No fault of scopes, members or types comes to a package in a harmless rename.
use Rattle.std.proofs.Common.{ℕ, ◌<◌, inl, inr, List}
use Rattle.base_edits.specs.EditSet.{FileChanges, edited}
use Rattle.base_edits.specs.RevisionsOfEdits.{revision_of}
use Rattle.base_files.specs.Workspace.{Workspace}
use Rattle.go_scope.specs.Bindings.{IsPackageLevel, Counts}
use Rattle.types_declared.specs.declared.fault.Fault.{Fault}
use Rattle.types_declared.specs.Package.{Package, laid_of}
use Rattle.types_members.specs.MemberFaults.{IsMemberFault}
use Rattle.types_resolve.specs.Stages.{IsInnerFault}
use Rattle.types_check.specs.Check.{exports_in, IsLaterFault}
use Rattle.types_check.specs.TypeFaults.{IsTypeFault}
use Rattle.workspace_check.specs.Verdicts.{Verdicts, AreVerdictsBelow}
use Rattle.workspace_check.proofs.OnePackage.{layout_formed}
use Rattle.workspace_check.proofs.OneVerdict.{right_below}
use Rattle.refs_binding.specs.declared.declaration.Declaration.{Declaration}
use Rattle.refs_lookup.proofs.Faultless.{no_fault_later}
use Rattle.law_faultless.proofs.PackageWorlds.{have_worlds}
use Rattle.law_renamed_workspaces.specs.Harmless.{IsHarmless}
use Rattle.law_renamed_workspaces.specs.Renames.{IsPlainRename}
use Rattle.law_renamed_workspaces.specs.Scopes.{OwnRenamesAreRenames, OtherScopesStay}
use Rattle.law_renamed_workspaces.specs.MembersMoved.{FieldsFollow, MethodsFollow}
use Rattle.law_renamed_workspaces.specs.VerdictsStay.{IsPackageAfter, FoundStays, NoFaultComes}
use Rattle.law_renamed_workspaces.proofs.DeclaredNames.{level_declares, level_names, none_is_init}
use Rattle.law_renamed_workspaces.proofs.Found.{no_type_fault}
use Rattle.law_renamed_workspaces.proofs.InnerFaults.{no_inner_fault}
use Rattle.law_renamed_workspaces.proofs.MemberFaults.{no_member_fault}
use Rattle.law_renamed_workspaces.proofs.NamedMembers.{members_named}
use Rattle.law_renamed_workspaces.proofs.ScopeFaults.{NoneIsInit, none_was_init, all_counted}

module _ (found : FoundStays) (fields : FieldsFollow) (methods : MethodsFollow) (own_renames : OwnRenamesAreRenames) (others_stay : OtherScopesStay)
    (w : Workspace) (before after : Verdicts) (d : Declaration) (name : List ℕ) (s : FileChanges) (plain : IsPlainRename w before d name s)
    (none : IsHarmless w before (revision_of w s)) (p q : Package) (right : AreVerdictsBelow (edited s w) q.path after)
    (here : IsPackageAfter w before after s p q) where
  was_fine : (f : Fault) → IsLaterFault p f → ⊥
  was_fine = no_fault_later w plain.rename.sound before plain.rename.right p here.was

  fine_inner : (f : Fault) → IsInnerFault p.files (exports_in p) (laid_of p) f → ⊥
  fine_inner f i = was_fine f (inl i)

  fine_member : (f : Fault) → IsMemberFault p f → ⊥
  fine_member f m = was_fine f (inr (fine_inner, inl m))

  fine_type : (f : Fault) → IsTypeFault p f → ⊥
  fine_type f t = was_fine f (inr (fine_inner, inr (fine_member, t)))

  counted : (u : ℕ) → u < p.size → IsPackageLevel p.layout u → (Counts p.layout p.names u → ⊥) → ⊥
  counted u lt level not =
      all_counted p.layout p.size p.names q.names here.bound.bindings (λ f h. fine_inner f (inl (inl h))) u lt
      (level_declares p.layout (layout_formed w before p.path p here.was.is_checked) p.names u level) not

  no_init : NoneIsInit p.layout p.size q.names
  no_init =
      none_is_init p q name (layout_formed w before p.path p here.was.is_checked)
      (level_names own_renames others_stay w before d name s plain p q here.was here.relaid)
      (none_was_init p.layout p.size p.names q.names here.bound.bindings (λ f h. fine_inner f (inl (inl h)))) counted

  no_inner : (f : Fault) → IsInnerFault q.files (exports_in q) (laid_of q) f → ⊥
  no_inner = no_inner_fault w (edited s w) before after p q right here.was.is_checked here.is.is_checked here.bound fine_inner no_init

  no_member : (f : Fault) → IsMemberFault q f → ⊥
  no_member =
      no_member_fault w before (revision_of w s) p q here.was (layout_formed (edited s w) after q.path q here.is.is_checked) here.relaid here.bound here.seen
      fields methods none.none_lost (members_named w before p here.was) fine_member

  no_type : (f : Fault) → IsTypeFault q f → ⊥
  no_type =
      no_type_fault found w before after d name s plain none p q here
      (have_worlds w plain.rename.sound before plain.rename.right p here.was) fine_type

  pub no_later : (f : Fault) → IsLaterFault q f → ⊥
  no_later f (inl i) = no_inner f i
  no_later f (inr (_, inl m)) = no_member f m
  no_later f (inr (_, inr (_, t))) = no_type f t

-- No fault comes to a package by right verdicts on what it builds on.
abbrev pub NoFaultComesBelow : Type 0
NoFaultComesBelow = (w : Workspace) (before after : Verdicts) (d : Declaration) (name : List ℕ) (s : FileChanges) → IsPlainRename w before d name s →
    IsHarmless w before (revision_of w s) → (p q : Package) → AreVerdictsBelow (edited s w) q.path after → IsPackageAfter w before after s p q →
    (fault : Fault) → IsLaterFault q fault → ⊥

pub no_fault_below : FoundStays → FieldsFollow → MethodsFollow → OwnRenamesAreRenames → OtherScopesStay → NoFaultComesBelow
no_fault_below found fields methods own_renames others_stay w before after d name s plain none p q right here =
    no_later found fields methods own_renames others_stay w before after d name s plain none p q right here

pub no_fault_comes : NoFaultComesBelow → NoFaultComes
no_fault_comes comes w before after d name s plain right none p q here =
    comes w before after d name s plain none p q (right_below (edited s w) after right q.path) here
