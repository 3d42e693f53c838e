-- What a rename does not concern stays: uses of members that cannot have the new name after it, and type definitions without that name.
use Rattle.std.proofs.Common.{ℕ, ◌≡◌, ◌<◌, inl, inr, List, length, map, ap, sym, subst, refl, ◌∙◌}
use Rattle.std.specs.Prelude.{Option, Some, None, Contains, option_map, slice_get}
use Rattle.std.specs.Global.{Vec}
use Rattle.std.proofs.lemmas.Option.{slice_get_read}
use Rattle.base_files.specs.declared.place.Place.{Place}
use Rattle.go_ast.specs.SourceFile.{SourceFile}
use Rattle.types_expr.specs.declared.found.MemberUse.{MemberUse as FoundUse}
use Rattle.types_expr.specs.declared.world.Definition.{Definition}
use Rattle.types_expr.specs.World.{member_by}
use Rattle.types_expr.specs.WorldView.{definition_of, definition_or_none}
use Rattle.types_declared.specs.Package.{Package, symbol_in, spelled, spelled_at}
use Rattle.types_info.specs.MemberUses.{AreMemberUses, uses_in}
use Rattle.types_info.proofs.MeaningLists.{slice_get_some}
use Rattle.types_info.proofs.OneWorld.{has_one_world}
use Rattle.workspace_check.proofs.OnePackage.{layout_formed, files_in_order}
use Rattle.refs_binding.specs.Binding.{declaration_of}
use Rattle.refs_binding.specs.Members.{AreOwnDefinitions}
use Rattle.refs_binding.proofs.MemberParts.{one_list, file_uses, has_uses}
use Rattle.refactor_conflict.specs.Staying.{MembersStayIn}
use Rattle.refactor_members.specs.Judging.{AreUncalled, IsUncalled, NamesStayOf, FieldsStayOf, MethodsStayOf}
use Rattle.refactor_members.specs.Naming.{HasField, HasMethod, IsFirstOld}
use Rattle.refactor_members.specs.Renames.{EditedRename, KnowsRename, packages_before, rename_revision, verdicts_in, workspace_before}
use Rattle.refactor_members.proofs.OldMembers.{AllCount, rank_of_field, rank_of_method, old_field_found, old_method_found}
use Rattle.refactor_members.proofs.Renamed.{renamed_field, renamed_method}
use Rattle.refactor_members.specs.declared.member_rename.RenamedMember.{RenamedMember}

module _ (m : EditedRename) (knows : KnowsRename m) (p : Package) (is : packages_before m.of p) where
  -- Uses of members that cannot have the new name afterwards stay.
  pub uncalled_stay : (members : List (Vec FoundUse)) → AreMemberUses p (map uses_in members) → (files : List SourceFile) → files ≡ p.files →
      AreUncalled m.of files (length members) members → (place : Place) →
      MembersStayIn (workspace_before m.of) (verdicts_in m.of) (rename_revision m) p place
  uncalled_stay members all files same uncalled place = λ u begins old was.
      let file = (p.layout.place u).file in
      let lt : file < length members = has_uses p members all file was.uses was.judged in
      let v = slice_get_some members file lt in
      let formed = layout_formed (workspace_before m.of) (verdicts_in m.of) p.path p is.is_checked in
      let one = has_one_world p formed (files_in_order (workspace_before m.of) (verdicts_in m.of) p.path p is.is_checked) in
      let list : was.uses ≡ uses_in v.0 = one_list p one file was.uses (uses_in v.0) was.judged (file_uses p members all file v.0 v.1) in
      let has : Contains (uses_in v.0) was.found = subst (λ l. Contains l was.found) list was.is_use in
      let at = slice_get_read (uses_in v.0) (length (uses_in v.0)) has.0 was.found refl has.1 (sym has.2) in
      let token : IsUncalled m.of (slice_get p.files file) was.found.place =
      subst (λ (fs : List SourceFile). IsUncalled m.of (slice_get fs file) was.found.place) same (uncalled file v.0 lt v.1 has.0 was.found at) in
      let not : IsUncalled m.of (slice_get p.files file) (p.layout.place u).index =
      subst (IsUncalled m.of (slice_get p.files file)) was.at token in
      let world = was.judged.judged_by in
      let t = (p.layout.place u).index in
      let denotes : option_map declaration_of (member_by world.definitions p.path (spelled p file t) was.found.before) ≡ Some old =
      ap (λ (o : Option SourceFile). option_map declaration_of (member_by world.definitions p.path (spelled_at o t) was.found.before)) was.judged.in_file ∙
      ap (option_map declaration_of) (sym (world.member t was.found.before) ∙ was.is_member) ∙ ap Some was.declares in
      knows.renames.used p is u place begins old was (λ stake. elim stake [
        | inr named ↦ not.not_new named
        | inl renamed ↦ not.not_old ((knows.called old renamed not.old not.has_old p is).only world.definitions world.are_definitions (spelled p file t)
            was.found.before denotes)
      ])

  -- A type definition stays that has no member of the new name, and is not that of the renamed member.
  module _ (all : AllCount p) (own : List Definition) (are : AreOwnDefinitions p own) (definition : ℕ) (d : Definition)
      (here : slice_get own definition ≡ Some d) (no_field : (definition_of d).field m.of.name.now ≡ None) (no_method : (definition_of d).method
      m.of.name.now ≡ None)
      (other : (x : RenamedMember) → Contains m.of.members.now x → x.definition ≡ Some definition → ⊥) (place : Place) where
    fields_stay : FieldsStayOf m p definition place
    fields_stay = λ rank named at. elim named.named [
      | inl same ↦
          let renamed = renamed_field m knows p is p.path refl definition rank
          (record { field = named.field; has_rank = named.has_rank; of_struct = named.of_struct }) same in
          absurd (other renamed.member renamed.among renamed.is_own.0)
      | inr said ↦ (
          let none : rank_of_field (definition_or_none (symbol_in p definition) (slice_get own definition)) m.of.name.now ≡ None =
          ap (λ o. rank_of_field (definition_or_none (symbol_in p definition) o) m.of.name.now) here ∙ ap (option_map (λ f. f.symbol.rank)) no_field in
          absurd (subst (IsFirstOld (HasField p definition m.of.name.now)) none (old_field_found p all m.of.name.now definition own are) rank
          (named.field, record { has_rank = named.has_rank; of_struct = named.of_struct; named = said })))
    ]

    methods_stay : MethodsStayOf m p definition place
    methods_stay = λ rank named at. elim named.named [
      | inl same ↦
          let renamed = renamed_method m knows p is p.path refl definition rank
          (record { method = named.method; has_rank = named.has_rank; of_type = named.of_type }) same in
          absurd (other renamed.member renamed.among renamed.is_own.0)
      | inr said ↦ (
          let t = named.of_type in
          let none : rank_of_method (definition_or_none (symbol_in p definition) (slice_get own definition)) m.of.name.now ≡ None =
          ap (λ o. rank_of_method (definition_or_none (symbol_in p definition) o) m.of.name.now) here ∙ ap (option_map (λ x. x.symbol.rank)) no_method in
          absurd (subst (IsFirstOld (HasMethod p definition m.of.name.now)) none (old_method_found p all m.of.name.now definition own are) rank (
            named.method,
            record {
              has_rank = named.has_rank;
              receiver = t.receiver;
              received = t.received;
              declaration = t.declaration;
              binds = t.binds;
              of_type = t.of_type;
              named = said;
            },
          )))
    ]

    pub unnamed_stay : NamesStayOf m p definition place
    unnamed_stay = (fields_stay, methods_stay)
