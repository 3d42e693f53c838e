-- What a rename of a field or method does to members, by the laws of such renames.
use Rattle.std.proofs.Common.{ℕ, ◌≡◌, ◌⊎◌, inl, inr, List, sym, refl, ◌∙◌, subst}
use Rattle.std.specs.Prelude.{Option, Some, None, Contains, ◌↔◌}
use Rattle.base_files.specs.Workspace.{Workspace}
use Rattle.base_edits.specs.EditSet.{FileChanges}
use Rattle.base_edits.specs.Revisions.{Revision}
use Rattle.base_edits.specs.RevisionsOfEdits.{revision_of}
use Rattle.types_declared.specs.Package.{Package, symbol_in, spelled}
use Rattle.workspace_check.specs.Verdicts.{Verdicts}
use Rattle.refs_binding.specs.declared.declaration.Declaration.{Declaration}
use Rattle.refs_binding.specs.declared.declaration.Declaration.TheVariants.{Field, Method}
use Rattle.refs_binding.specs.Uses.{IsCheckedPackage}
use Rattle.refactor_conflict.specs.Conflicts.{Takes, HoldsBefore, IsConflict, IsFirstConflict}
use Rattle.refactor_conflict.specs.Staying.{MembersStayIn, DeclaringNamesStayIn}
use Rattle.refactor_conflict.specs.declared.conflict.Conflict.{Conflict}
use Rattle.refactor_conflict.proofs.KeepingFirst.{taken}
use Rattle.law_renamed_workspaces.specs.AtStake.{OtherMembersStay}
use Rattle.law_renamed_workspaces.specs.KeptScopes.{MemberConflictsAreOfMembers}
use Rattle.law_renamed_workspaces.specs.MemberRenames.{IsMemberRename}
use Rattle.law_renamed_workspaces.specs.NamesAfterwards.{IsCalledAfter, IsFieldCalled, IsMethodCalled, gets_name}
use Rattle.law_renamed_workspaces.specs.NamesAfterwards.{keeps_name, spelled_there, MembersAreCalled, FieldNamesAfter, MethodNamesAfter}
use Rattle.refactor_members.specs.Renames.{RenamesMember}
use Rattle.law_renamed_workspaces.proofs.RenamedSets.{among_or_not}
use Rattle.refactor_conflict.specs.NamesAfter.{IsFieldAfter, IsMethodAfter}

module _ (w : Workspace) (known : Verdicts) (d : Declaration) (set : List Declaration) (name : List ℕ) (s : FileChanges)
    (rename : IsMemberRename w known d set name s) where
  abbrev r : Revision
  r = revision_of w s

  -- the laws, of this set

  fields_called : FieldNamesAfter → (x : Package) → IsCheckedPackage w known x → (definition rank : ℕ) →
      IsFieldAfter r x definition name rank ↔ IsFieldCalled set name x definition name rank
  fields_called fields x is definition rank =
      subst (λ k. IsFieldAfter r x definition name rank ↔ IsFieldCalled k name x definition name rank) rename.of_set
      (fields w known d name s rename.rename x is definition name rank)

  methods_called : MethodNamesAfter → (x : Package) → IsCheckedPackage w known x → (definition rank : ℕ) →
      IsMethodAfter r x definition name rank ↔ IsMethodCalled set name x definition name rank
  methods_called methods x is definition rank =
      subst (λ k. IsMethodAfter r x definition name rank ↔ IsMethodCalled k name x definition name rank) rename.of_set
      (methods w known d name s rename.rename x is definition name rank)

  -- A member that is called by the new name is a renamed one, or had the name.
  is_called : (e : Declaration) (old : List ℕ) → IsCalledAfter set name e old name → Contains set e ⊎ (old ≡ name)
  is_called e old (gets_name same new) = inl same
  is_called e old (keeps_name other new) = inr (sym new)

  had_called : (e : Declaration) (old : List ℕ) → Contains set e ⊎ (Contains set e → ⊥) → Contains set e ⊎ (old ≡ name) → IsCalledAfter set name e old name
  had_called e old choice (inl same) = gets_name same refl
  had_called e old (inl same) (inr had) = gets_name same refl
  had_called e old (inr other) (inr had) = keeps_name other (sym had)

  -- So an identifier of a member that is called by the new name afterwards.
  called_so : (e : Declaration) (old new : List ℕ) → IsCalledAfter set name e old new → Contains set e ⊎ (old ≡ name) → new ≡ name
  called_so e old new (gets_name same is) stake = is
  called_so e old new (keeps_name other is) (inl same) = absurd (other same)
  called_so e old new (keeps_name other is) (inr had) = is ∙ had

  pub renames_member : MembersAreCalled → FieldNamesAfter → MethodNamesAfter → OtherMembersStay → RenamesMember w known r set name
  renames_member called fields methods others = record {
    fields = λ x is definition rank. (
      (λ after.
          let c = (fields_called fields x is definition rank).0 after in
          record {
            field = c.field;
            has_rank = c.has_rank;
            of_struct = c.of_struct;
            named = is_called (Field (symbol_in x rank)) (spelled x c.field.file c.field.name) c.called;
          }),
      (λ n. (fields_called fields x is definition rank).1 (record {
        field = n.field;
        has_rank = n.has_rank;
        of_struct = n.of_struct;
        called = had_called (Field (symbol_in x rank)) (spelled x n.field.file n.field.name) (among_or_not set (Field (symbol_in x rank)) tt) n.named;
      })),
    );
    methods = λ x is definition rank. (
      (λ after.
          let c = (methods_called methods x is definition rank).0 after in
          record {
            method = c.method;
            has_rank = c.has_rank;
            of_type = c.of_type;
            named = is_called (Method (symbol_in x rank)) (spelled x c.method.file c.method.function.name) c.called;
          }),
      (λ n. (methods_called methods x is definition rank).1 (record {
        method = n.method;
        has_rank = n.has_rank;
        of_type = n.of_type;
        called = had_called (Method (symbol_in x rank)) (spelled x n.method.file n.method.function.name) (among_or_not set (Method (symbol_in x rank)) tt)
            n.named;
      })),
    );
    called = λ x is u place begins old was stake.
        called_so old (spelled_there x u) (r.called place (spelled_there x u))
        (subst (λ k. IsCalledAfter k name old (spelled_there x u) (r.called place (spelled_there x u))) rename.of_set
        (called w known d name s rename.rename x is u place begins old (inl was))) stake;
    used = λ x is u place begins old was not. (others w known d set name s rename x is u place begins).used old was not;
    declared = λ x is u place begins old was other not.
        (others w known d set name s rename x is u place begins).declared old was (λ k. elim k [ inl same ↦ other same | inr had ↦ not had ]);
  }

  -- The first conflict, where what is bound otherwise stays.
  pub first_told : MemberConflictsAreOfMembers → (told : Option Conflict) → Takes (IsConflict w known r) None told →
      HoldsBefore (λ place. (p : Package) → IsCheckedPackage w known p → MembersStayIn w known r p place × DeclaringNamesStayIn w known r p place) told →
      IsFirstConflict w known r told
  first_told decide None takes stay = λ place. (decide w known d set name s rename place).1 (stay place tt)
  first_told decide (Some c) takes stay =
      (taken (IsConflict w known r) c takes, λ place before. (decide w known d set name s rename place).1 (stay place before))
