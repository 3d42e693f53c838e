-- Lookups in a type definition after a change that loses and captures no identifier: what stands under a name is what had its old name before.
use Rattle.std.proofs.Common.{ℕ, ◌≡◌, inl, inr, List, [], ap, sym, subst, refl, ◌∙◌}
use Rattle.std.specs.Prelude.{Option, Some, None, slice_get, option_map}
use Rattle.std.proofs.Math.Path.{fun_ext}
use Rattle.std.proofs.lemmas.Option.{none-some, same_Some}
use Rattle.base_edits.specs.Revisions.{Revision}
use Rattle.base_files.specs.Workspace.{Workspace}
use Rattle.go_scope.specs.declared.model.Position.{Position}
use Rattle.types_expr.specs.declared.symbol.Symbol.{Symbol}
use Rattle.types_expr.specs.Types.{Underlying}
use Rattle.types_expr.specs.World.{Definition, Field, Method}
use Rattle.types_expr.specs.WorldView.{no_definition}
use Rattle.types_declared.specs.declared.fault.Fault.{Fault}
use Rattle.types_declared.specs.Definitions.{PlacedField, IsCountingField, IsMethodOf, IsCountingMethod, IsFoundField, IsFoundMethod, IsDefinition}
use Rattle.types_declared.specs.Package.{Package, package_types, function_place, spelled}
use Rattle.types_members.specs.MemberFaults.{IsMemberFault}
use Rattle.types_members.proofs.MethodNames.{one_owner}
use Rattle.workspace_check.specs.FaultLists.{ListsFaults}
use Rattle.workspace_check.specs.Verdicts.{Verdicts, AreVerdicts}
use Rattle.workspace_check.proofs.OnePackage.{layout_formed}
use Rattle.refs_binding.specs.Binding.{field_place}
use Rattle.refs_binding.specs.DeclaringPlaces.{InPackage}
use Rattle.refs_binding.specs.Uses.{IsCheckedPackage}
use Rattle.refs_lookup.proofs.Faultless.{no_fault_later}
use Rattle.refactor_conflict.specs.MembersAfter.{IsFirstField, IsFirstMethod, FieldCounts, MethodCounts}
use Rattle.refactor_conflict.specs.NamesAfter.{HasNameAfter, IsFieldAfter, IsMethodAfter}
use Rattle.refactor_conflict.specs.OldPlaces.{field_at, method_at}
use Rattle.refactor_conflict.proofs.FieldsAfter.{of_one}
use Rattle.refactor_conflict.specs.Staying.{NoneIsLost}
use Rattle.law_faultless.proofs.MembersWritten.{field_is_written, member_found}
use Rattle.law_renamed_workspaces.specs.MembersMoved.{IsDefinitionAfter}
use Rattle.law_renamed_workspaces.specs.MovedExports.{field_called, method_called}
use Rattle.law_renamed_workspaces.proofs.MemberFaults.{one_inside}
use Rattle.law_renamed_workspaces.proofs.NamedMembers.{members_named}
use Rattle.law_renamed_workspaces.proofs.NewMembers.{one_place, one_field, one_method, field_counts, method_counts, new_definition}
use Rattle.law_renamed_workspaces.proofs.NewMembers.{SomeField, SomeMethod, field_by, method_by, find_field, find_method}
use Rattle.law_renamed_workspaces.proofs.NewNames.{name_stands}
use Rattle.law_renamed_workspaces.proofs.RenamedMembersNameTokens.{field_name}

-- a definition by its parts
abbrev definition_made : Underlying → (List ℕ → Option Field) → (List ℕ → Option Method) → Definition
definition_made u f m = record { underlying = u; field = f; method = m }

pub same_definition : (a b : Definition) → a.underlying ≡ b.underlying → ((name : List ℕ) → a.field name ≡ b.field name) →
    ((name : List ℕ) → a.method name ≡ b.method name) → a ≡ b
same_definition a b u f m =
    ap (λ x. definition_made x a.field a.method) u ∙ ap (λ x. definition_made b.underlying x a.method) (fun_ext f) ∙
    ap (λ x. definition_made b.underlying b.field x) (fun_ext m)

module _ (w : Workspace) (sound : ListsFaults w []) (known : Verdicts) (right : AreVerdicts w known) (y : Package) (also : IsCheckedPackage w known y) where
  pub without_member_faults : (f : Fault) → IsMemberFault y f → ⊥
  without_member_faults f h =
      no_fault_later w sound known right y also f (inr ((λ g inner. no_fault_later w sound known right y also g (inl inner)), inl h))

  -- a method under its old name
  method_of : (r : Revision) (d : ℕ) (name : List ℕ) (k : ℕ) (h : IsMethodAfter r y d name k) →
      IsMethodOf y d (spelled y h.method.file h.method.function.name) k h.method
  method_of r d name k h = record {
    has_rank = h.has_rank;
    receiver = h.of_type.receiver;
    received = h.of_type.received;
    declaration = h.of_type.declaration;
    binds = h.of_type.binds;
    of_type = h.of_type.of_type;
    named = refl;
  }

  -- each member counted under its old name

  pub field_was : (r : Revision) (d : ℕ) (name : List ℕ) (k : ℕ) (h : IsFieldAfter r y d name k) →
      IsCountingField y d (spelled y h.field.file h.field.name) k h.field
  field_was r d name k h =
      field_counts y without_member_faults d k (spelled y h.field.file h.field.name) h.field
      (record { has_rank = h.has_rank; of_struct = h.of_struct; named = refl })

  pub method_was : (r : Revision) (d : ℕ) (name : List ℕ) (k : ℕ) (h : IsMethodAfter r y d name k) →
      IsCountingMethod y d (spelled y h.method.file h.method.function.name) k h.method
  method_was r d name k h =
      method_counts y without_member_faults d k (spelled y h.method.file h.method.function.name) h.method (method_of r d name k h)

  -- a field and a method of a definition stand under its old name

  pub record HadField (r : Revision) (a : Definition) (d : ℕ) (name : List ℕ) (k : ℕ) (h : IsFieldAfter r y d name k) : Type 0 where
    pub field : Field
    pub stands : a.field (spelled y h.field.file h.field.name) ≡ Some field
    pub of_rank : field.symbol.rank ≡ k

  pub had_field : (r : Revision) (a : Definition) (d : ℕ) → IsDefinition y d a → (name : List ℕ) (k : ℕ) (h : IsFieldAfter r y d name k) →
      HadField r a d name k h
  had_field r a d is name k h = by_field (a.field (spelled y h.field.file h.field.name)) refl (is.fields (spelled y h.field.file h.field.name))
    where
      by_field : (o : Option Field) → a.field (spelled y h.field.file h.field.name) ≡ o → IsFoundField y d (spelled y h.field.file h.field.name) o →
          HadField r a d name k h
      by_field None e none = absurd (member_found w sound known right y also k h.field h.has_rank (λ t has. none k h.field t (field_was r d name k h) has))
      by_field (Some x) e found = record {
        field = x;
        stands = e;
        of_rank = one_field y d x.symbol.rank k (spelled y h.field.file h.field.name) found.0 h.field found.1.0 (field_was r d name k h);
      }

  pub record HadMethod (r : Revision) (a : Definition) (d : ℕ) (name : List ℕ) (k : ℕ) (h : IsMethodAfter r y d name k) : Type 0 where
    pub method : Method
    pub stands : a.method (spelled y h.method.file h.method.function.name) ≡ Some method
    pub of_rank : method.symbol.rank ≡ k

  pub had_method : (r : Revision) (a : Definition) (d : ℕ) → IsDefinition y d a → (name : List ℕ) (k : ℕ) (h : IsMethodAfter r y d name k) →
      HadMethod r a d name k h
  had_method r a d is name k h =
      by_method (a.method (spelled y h.method.file h.method.function.name)) refl (is.methods (spelled y h.method.file h.method.function.name))
    where
      by_method : (o : Option Method) → a.method (spelled y h.method.file h.method.function.name) ≡ o →
          IsFoundMethod y d (spelled y h.method.file h.method.function.name) o → HadMethod r a d name k h
      by_method None e none = absurd (none k h.method (method_was r d name k h))
      by_method (Some x) e found = record {
        method = x;
        stands = e;
        of_rank = one_method y d x.symbol.rank k (spelled y h.method.file h.method.function.name) found.0 h.method found.1 (method_was r d name k h);
      }

  module _ (r : Revision) (none_lost : NoneIsLost w known r) where
    one_name : (at : Position) (m n : List ℕ) → HasNameAfter r y at m → HasNameAfter r y at n → m ≡ n
    one_name at m n a b =
        sym a.called
        ∙ ap (λ place. r.called place (spelled y at.file at.index)) (one_place (slice_get y.files at.file) at.index b.place a.place b.stands a.stands)
        ∙ b.called

    -- each member counts under its new name

    pub field_first : (d : ℕ) (name : List ℕ) (k : ℕ) → IsFieldAfter r y d name k → IsFirstField r y d name k
    field_first d name k h =
        let old = spelled y h.field.file h.field.name in
        let n = (members_named w known y also).fields k (record { definition = d; name = old; field = h.field; counting = field_was r d name k h }) in
        let counts = (none_lost n.place y also n.user n.begins).by_name (field_at y.path k) (refl, n.named) in
        let now : FieldCounts r y k = one_inside w known y also (λ x. FieldCounts r x k) counts in
        let then = now.first.has in
        let same : then.field ≡ h.field = same_Some then.field h.field (sym then.has_rank ∙ h.has_rank) in
        let of : now.definition ≡ d = sym then.of_struct ∙ ap (λ (x : PlacedField). x.definition) same ∙ h.of_struct in
        let called : now.name ≡ name =
        one_name (field_place h.field) now.name name (subst (λ x. HasNameAfter r y (field_place x) now.name) same then.called) h.called in
        subst (λ x. IsFirstField r y x name k) of (subst (λ x. IsFirstField r y now.definition x k) called now.first)

    pub method_first : (d : ℕ) (name : List ℕ) (k : ℕ) → IsMethodAfter r y d name k → IsFirstMethod (IsCheckedPackage w known) r y d name k
    method_first d name k h =
        let old = spelled y h.method.file h.method.function.name in
        let n = (members_named w known y also).methods k (record { definition = d; name = old; method = h.method; counting = method_was r d name k h }) in
        let counts = (none_lost n.place y also n.user n.begins).by_name (method_at y.path k) (refl, n.named) in
        let now : MethodCounts (IsCheckedPackage w known) r y k = one_inside w known y also (λ x. MethodCounts (IsCheckedPackage w known) r x k) counts in
        let then = now.first.has.has in
        let same : then.method ≡ h.method = same_Some then.method h.method (sym then.has_rank ∙ h.has_rank) in
        let of : now.definition ≡ d =
        one_owner y (layout_formed w known y.path y also.is_checked) k d now.definition old
        (spelled y then.method.file then.method.function.name) h.method then.method (method_of r d name k h) (method_of r now.definition now.name k then) in
        let called : now.name ≡ name =
        one_name (function_place h.method) now.name name (subst (λ x. HasNameAfter r y (function_place x) now.name) same then.called) h.called in
        subst (λ x. IsFirstMethod (IsCheckedPackage w known) r y x name k) of
        (subst (λ x. IsFirstMethod (IsCheckedPackage w known) r y now.definition x k) called now.first)

    -- the definition after the change

    module _ (d : ℕ) (a b : Definition) (is : IsDefinition y d a) (moved : IsDefinitionAfter (IsCheckedPackage w known) r y.path d a b) where
      inside : (P : Package → Type 0) → P y → InPackage (IsCheckedPackage w known) y.path P
      inside P h = record { inside = y; is_package = also; of_path = refl; holds = h }

      pub field_moved : (old name : List ℕ) (f : Field) → a.field old ≡ Some f → IsFieldAfter r y d name f.symbol.rank →
          b.field name ≡ Some (field_called name f)
      field_moved old name f e h =
          moved.fields old name f e (inside (λ p. IsFirstField r p d name f.symbol.rank) (field_first d name f.symbol.rank h))

      method_moved : (old name : List ℕ) (m : Method) → a.method old ≡ Some m → IsMethodAfter r y d name m.symbol.rank →
          b.method name ≡ Some (method_called name m)
      method_moved old name m e h =
          moved.methods old name m e
          (inside (λ p. IsFirstMethod (IsCheckedPackage w known) r p d name m.symbol.rank) (method_first d name m.symbol.rank h))

      field_found_by : (name : List ℕ) (o : SomeField w known r y also d name) → b.field name ≡ field_by w known r y also a d name o
      field_found_by name (inl h) =
          let x = had_field r a d is name h.0 h.1 in
          field_moved (spelled y h.1.field.file h.1.field.name) name x.field x.stands (subst (IsFieldAfter r y d name) (sym x.of_rank) h.1)
          ∙ ap (option_map (field_called name)) (sym x.stands)
      field_found_by name (inr none) = by_field (b.field name) refl
        where
          by_field : (o : Option Field) → b.field name ≡ o → b.field name ≡ None
          by_field None e = e
          by_field (Some f) e =
              let first = of_one w known y also y.path refl (λ p. IsFirstField r p d name f.symbol.rank) (moved.no_others name f e).counts in
              absurd (none f.symbol.rank first.has)

      method_found_by : (name : List ℕ) (o : SomeMethod w known r y also d name) → b.method name ≡ method_by w known r y also a d name o
      method_found_by name (inl h) =
          let x = had_method r a d is name h.0 h.1 in
          method_moved (spelled y h.1.method.file h.1.method.function.name) name x.method x.stands (subst (IsMethodAfter r y d name) (sym x.of_rank) h.1)
          ∙ ap (option_map (method_called name)) (sym x.stands)
      method_found_by name (inr none) = by_method (b.method name) refl
        where
          by_method : (o : Option Method) → b.method name ≡ o → b.method name ≡ None
          by_method None e = e
          by_method (Some m) e =
              absurd (none m.symbol.rank
              (of_one w known y also y.path refl (λ p. IsMethodAfter r p d name m.symbol.rank) (moved.no_other_methods name m e)))

      -- It is the one that is built from the old one.
      pub is_built : b ≡ new_definition w known r y also a d
      is_built =
          same_definition b (new_definition w known r y also a d) moved.underlying
          (λ name. field_found_by name (find_field w known r y also d name)) (λ name. method_found_by name (find_method w known r y also d name))

      -- A written member has a new name, and stands under it.
      pub record IsMovedField (f : Field) : Type 0 where
        pub name : List ℕ
        pub stands : b.field name ≡ Some (field_called name f)

      pub moved_field : (old : List ℕ) (f : Field) → a.field old ≡ Some f → IsMovedField f
      moved_field old f e =
          let x = subst (IsFoundField y d old) e (is.fields old) in
          let at = x.1.0.is_field.has_rank in
          let place = name_stands w known y also (field_place x.0) (field_name y f.symbol.rank x.0 at) in
          let name = r.called place.place (spelled y x.0.file x.0.name) in
          record {
            name = name;
            stands = field_moved old name f e (record {
              field = x.0;
              has_rank = at;
              of_struct = x.1.0.is_field.of_struct;
              called = record { place = place.place; stands = place.stands.begins; called = refl };
            });
          }

      -- Each written member had an old name, and is what it was.
      pub record IsOldField (name : List ℕ) (g : Field) : Type 0 where
        pub old : List ℕ
        pub field : Field
        pub stood : a.field old ≡ Some field
        pub same : g ≡ field_called name field

      pub old_field : (name : List ℕ) (g : Field) → b.field name ≡ Some g → IsOldField name g
      old_field name g e =
          let first = of_one w known y also y.path refl (λ p. IsFirstField r p d name g.symbol.rank) (moved.no_others name g e).counts in
          let x = had_field r a d is name g.symbol.rank first.has in
          let old = spelled y first.has.field.file first.has.field.name in
          let there = field_moved old name x.field x.stands (subst (IsFieldAfter r y d name) (sym x.of_rank) first.has) in
          record { old = old; field = x.field; stood = x.stands; same = same_Some g (field_called name x.field) (sym e ∙ there) }

-- A definition of which the package has no type stays unknown.
pub stays_nothing : (w : Workspace) (known : Verdicts) (r : Revision) (y : Package) → IsCheckedPackage w known y → (s : Symbol) → y.path ≡ s.package →
    slice_get (package_types y) s.rank ≡ None → (b : Definition) → IsDefinitionAfter (IsCheckedPackage w known) r s.package s.rank (no_definition s) b →
    b ≡ no_definition s
stays_nothing w known r y also s path none b moved =
    same_definition b (no_definition s) moved.underlying (λ name. no_field name (b.field name) refl) (λ name. no_method name (b.method name) refl)
  where
    no_field : (name : List ℕ) (o : Option Field) → b.field name ≡ o → b.field name ≡ None
    no_field name None e = e
    no_field name (Some f) e =
        let first = of_one w known y also s.package path (λ p. IsFirstField r p s.rank name f.symbol.rank) (moved.no_others name f e).counts in
        let h = field_is_written y f.symbol.rank first.has.field first.has.has_rank in
        absurd (none-some h.definition (sym none ∙ subst (λ n. slice_get (package_types y) n ≡ Some h.definition) first.has.of_struct h.has_rank))

    no_method : (name : List ℕ) (o : Option Method) → b.method name ≡ o → b.method name ≡ None
    no_method name None e = e
    no_method name (Some m) e =
        let after = of_one w known y also s.package path (λ p. IsMethodAfter r p s.rank name m.symbol.rank) (moved.no_other_methods name m e) in
        absurd (none-some after.of_type.of_type.item (sym none ∙ after.of_type.of_type.has_rank))
