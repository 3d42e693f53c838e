-- The type definitions after a rename of members, that loses and captures no identifier, by lookups under the old and the new name.
use Rattle.std.proofs.Common.{ℕ, ◌≡◌, inl, inr, Bool, true, false, ◌&&◌, List, [], ap, sym, subst, refl, ◌∙◌, if◌then◌else◌}
use Rattle.std.specs.Prelude.{◌↔◌, Contains, Option, Some, None, option_map}
use Rattle.std.specs.Cmp.Lexicographic.{bytes_decides}
use Rattle.std.proofs.lemmas.Bool.{false≢true}
use Rattle.std.proofs.lemmas.Option.{none-some, same_Some}
use Rattle.base_edits.specs.EditSet.{FileChanges}
use Rattle.base_edits.specs.Revisions.{Revision}
use Rattle.base_edits.specs.RevisionsOfEdits.{revision_of}
use Rattle.base_files.specs.Workspace.{Workspace}
use Rattle.base_files.specs.declared.place.Place.{Place}
use Rattle.types_expr.specs.declared.symbol.Symbol.{Symbol}
use Rattle.types_expr.specs.Types.{same_path}
use Rattle.types_expr.specs.World.{Definition, Field as Written, Implements, Method as Received}
use Rattle.types_expr.specs.WorldView.{no_definition}
use Rattle.types_declared.specs.Definitions.{PlacedField, IsDefinition, IsFoundField, IsFoundMethod}
use Rattle.types_declared.specs.Package.{Package, PlacedFunction, spelled, symbol_in}
use Rattle.workspace_check.specs.FaultLists.{ListsFaults}
use Rattle.workspace_check.specs.Verdicts.{Verdicts, AreVerdicts}
use Rattle.refs_binding.specs.declared.declaration.Declaration.{Declaration}
use Rattle.refs_binding.specs.declared.declaration.Declaration.TheVariants.{Field, Method}
use Rattle.refs_binding.specs.DeclaredNames.{HasDeclaredName, HasDeclaredNameIn}
use Rattle.refs_binding.specs.Uses.{IsCheckedPackage}
use Rattle.refactor_conflict.specs.NamesAfter.{IsFieldAfter, IsMethodAfter}
use Rattle.refactor_conflict.proofs.FieldsAfter.{of_one, one_first}
use Rattle.refactor_conflict.specs.Staying.{NoneIsLost}
use Rattle.refactor_coupled.specs.FirstTurns.{NamesAreFree, TurnsBetween}
use Rattle.refactor_coupled.specs.Implementing.{AreAllDefinitions, AreDefinitionsAfter, HasMembersAfter, IsMethodFoundAfter, IsTypeSymbol, IsWrittenAfter}
use Rattle.refactor_coupled.specs.Obstacles.{TurnsAt}
use Rattle.refactor_coupled.specs.RenamedTypes.{SetRename, moves_received, moves_written, received_as, renamed_definition, renamed_definitions, under_name}
use Rattle.refactor_coupled.specs.RenamedTypes.{written_as}
use Rattle.law_renamed_workspaces.specs.MemberRenames.{IsMemberRename}
use Rattle.law_renamed_workspaces.specs.NamesAfterwards.{IsCalledAfter, IsFieldCalled, IsMethodCalled, gets_name, keeps_name}
use Rattle.law_renamed_workspaces.proofs.Called.{fields, methods}
use Rattle.law_renamed_workspaces.proofs.NewLookups.{field_first, had_field, had_method, method_first}
use Rattle.law_implementing.specs.MembersCalled.{LookupsAreAfter, NamesAreFreed, TurnsAreTold, set_rename}
use Rattle.law_implementing.proofs.AllAfter.{received_now, written_now}
use Rattle.law_implementing.proofs.AllDefinitions.{after_alike, all_alike, type_or_not}
use Rattle.law_implementing.proofs.SetMembers.{moved_field, moved_method, still_field, still_method}

module _ (w : Workspace) (known : Verdicts) (d : Declaration) (set : List Declaration) (old new : List ℕ) (s : FileChanges)
    (h : IsMemberRename w known d set new s) (has : HasDeclaredName (IsCheckedPackage w known) d old) (none_lost : NoneIsLost w known (revision_of w s)) where
  abbrev r : Revision
  r = revision_of w s

  abbrev names : SetRename
  names = set_rename set old new

  abbrev sound : ListsFaults w []
  sound = h.rename.rename.sound

  abbrev right : AreVerdicts w known
  right = h.rename.rename.right

  -- each of the set is called so
  called_old : (e : Declaration) → Contains set e → HasDeclaredName (IsCheckedPackage w known) e old
  called_old e among = elim (h.rename.rename.is_set.others e (subst (λ l. Contains l e) (sym h.of_set) among)) [
    | inl same ↦ subst (λ k. HasDeclaredName (IsCheckedPackage w known) k old) (sym same) has
    | inr alike ↦ alike.called old has
  ]

  other_name : new ≡ old → ⊥
  other_name same = h.rename.rename.other (subst (HasDeclaredName (IsCheckedPackage w known) d) (sym same) has)

  module _ (p : Package) (is : IsCheckedPackage w known p) (rank : ℕ) (a : Definition) (isd : IsDefinition p rank a) where
    -- Written members

    fields_called : (name : List ℕ) (k : ℕ) → IsFieldAfter r p rank name k ↔ IsFieldCalled set new p rank name k
    fields_called name k =
        subst (λ l. IsFieldAfter r p rank name k ↔ IsFieldCalled l new p rank name k) h.of_set (fields w known d new s h.rename p is rank name k)

    -- the member of a rank, under the name that it had
    record IsFieldNamed (name : List ℕ) (k : ℕ) : Type 0 where
      was : List ℕ
      member : Written
      stood : a.field was ≡ Some member
      of_rank : member.symbol.rank ≡ k
      called : IsCalledAfter set new (Field (symbol_in p k)) was name

    field_named : (name : List ℕ) (k : ℕ) → IsFieldAfter r p rank name k → IsFieldNamed name k
    field_named name k f =
        let c = (fields_called name k).0 f in
        let x = had_field w sound known right p is r a rank isd name k f in
        let same : c.field ≡ f.field = same_Some c.field f.field (sym c.has_rank ∙ f.has_rank) in
        record {
          was = spelled p f.field.file f.field.name;
          member = x.field;
          stood = x.stands;
          of_rank = x.of_rank;
          called = subst (λ (g : PlacedField). IsCalledAfter set new (Field (symbol_in p k)) (spelled p g.file g.name) name) same c.called;
        }

    own_field : (was : List ℕ) (x : Written) → a.field was ≡ Some x → x.symbol ≡ symbol_in p x.symbol.rank
    own_field was x at = (subst (IsFoundField p rank was) at (isd.fields was)).1.2

    -- a member of the rank is of the set
    field_among : (was : List ℕ) (x : Written) → a.field was ≡ Some x → (k : ℕ) → x.symbol.rank ≡ k →
        Contains set (Field (symbol_in p k)) ↔ Contains set (Field x.symbol)
    field_among was x at k ranks =
        let same : x.symbol ≡ symbol_in p k = own_field was x at ∙ ap (symbol_in p) ranks in
        (subst (λ z. Contains set (Field z)) (sym same), subst (λ z. Contains set (Field z)) same)

    -- the name under which a member of the set stands
    field_old : (was : List ℕ) (x : Written) → a.field was ≡ Some x → Contains set (Field x.symbol) → was ≡ old
    field_old was x at among =
        let k = x.symbol.rank in
        let e : Declaration = Field (symbol_in p k) in
        let f = subst (IsFoundField p rank was) at (isd.fields was) in
        let named : HasDeclaredNameIn p e old =
        of_one w known p is p.path refl (λ q. HasDeclaredNameIn q e old) (called_old e ((field_among was x at k refl).1 among)) in
        let c = named.is_at.counts in
        let one : c.field ≡ f.0 = same_Some c.field f.0 (sym c.counting.is_field.has_rank ∙ f.1.0.is_field.has_rank) in
        let spelled_so : spelled p c.field.file c.field.name ≡ old =
        subst (λ q. spelled p q.file q.index ≡ old) (sym named.is_at.named_at) named.called in
        sym f.1.0.is_field.named ∙ ap (λ (g : PlacedField). spelled p g.file g.name) (sym one) ∙ spelled_so

    -- what is called so stands so
    field_now : (was name : List ℕ) (x : Written) → a.field was ≡ Some x → IsCalledAfter set new (Field x.symbol) was name →
        IsFieldAfter r p rank name x.symbol.rank
    field_now was name x at called =
        let f = subst (IsFoundField p rank was) at (isd.fields was) in
        let own : IsCalledAfter set new (Field (symbol_in p x.symbol.rank)) was name = subst (λ z. IsCalledAfter set new (Field z) was name) f.1.2 called in
        (fields_called name x.symbol.rank).1 (record {
          field = f.0;
          has_rank = f.1.0.is_field.has_rank;
          of_struct = f.1.0.is_field.of_struct;
          called = subst (λ n. IsCalledAfter set new (Field (symbol_in p x.symbol.rank)) n name) (sym f.1.0.is_field.named) own;
        })

    abbrev written_if : (moves to_new from_old : Bool) → (name : List ℕ) → Option Written
    written_if moves to_new from_old name =
        option_map (written_as names (moves && to_new))
        (under_name a.field (if moves && to_new then Some old else (if moves && from_old then None else Some name)))

    -- what stays under its name
    module _ (name : List ℕ) (stays : (x : Written) → a.field name ≡ Some x → Contains set (Field x.symbol) → ⊥)
        (not_new : (k : ℕ) → IsFieldNamed name k → Contains set (Field (symbol_in p k)) → name ≡ new → ⊥) where
      no_field : a.field name ≡ None → (k : ℕ) → IsFieldNamed name k → ⊥
      no_field e k c = by_name c.called
        where
          by_name : IsCalledAfter set new (Field (symbol_in p k)) c.was name → ⊥
          by_name (gets_name among same) = not_new k c among same
          by_name (keeps_name other same) = none-some c.member (sym e ∙ ap a.field same ∙ c.stood)

      still_written : (o : Option Written) → a.field name ≡ o → IsFoundField p rank name o →
          IsWrittenAfter r p rank name (option_map (written_as names false) o)
      still_written None e found = λ k first form typed. no_field e k (field_named name k first.has)
      still_written (Some x) e found =
          let now = written_now w sound known right r none_lost p is rank a isd name name x e (field_now name name x e (keeps_name (stays x e) refl)) in
          (now.0, (now.1.0, now.1.1, found.1.3))

    written_by : (name : List ℕ) (moves to_new from_old : Bool) → moves_written names a ≡ moves → same_path name new ≡ to_new →
        same_path name old ≡ from_old → IsWrittenAfter r p rank name (written_if moves to_new from_old name)
    written_by name true true from_old move same was =
        let x = moved_field names (a.field old) move in
        let now : IsWrittenAfter r p rank new (Some (written_as names true x.0)) =
        written_now w sound known right r none_lost p is rank a isd old new x.0 x.1.0 (field_now old new x.0 x.1.0 (gets_name x.1.1 refl)) in
        subst (λ o. IsWrittenAfter r p rank name (option_map (written_as names true) o)) (sym x.1.0)
        (subst (λ n. IsWrittenAfter r p rank n (Some (written_as names true x.0))) (sym ((bytes_decides name new).0 same)) now)
    written_by name true false true move same was = λ k first form typed. gone k (field_named name k first.has)
      where
        x : (x : Written) × ((a.field old ≡ Some x) × Contains set (Field x.symbol))
        x = moved_field names (a.field old) move

        is_old : name ≡ old
        is_old = (bytes_decides name old).0 was

        gone : (k : ℕ) → IsFieldNamed name k → ⊥
        gone k c = by_name c.called
          where
            by_name : IsCalledAfter set new (Field (symbol_in p k)) c.was name → ⊥
            by_name (gets_name among new_name) = false≢true (sym same ∙ (bytes_decides name new).1 new_name)
            by_name (keeps_name other kept) =
                let one : c.member ≡ x.0 = same_Some c.member x.0 (sym c.stood ∙ ap a.field (sym kept ∙ is_old) ∙ x.1.0) in
                other ((field_among c.was c.member c.stood k c.of_rank).1 (subst (λ (z : Written). Contains set (Field z.symbol)) (sym one) x.1.1))
    written_by name true false false move same was =
        still_written name
        (λ x at among. false≢true (sym was ∙ (bytes_decides name old).1 (field_old name x at among)))
        (λ k c among new_name. false≢true (sym same ∙ (bytes_decides name new).1 new_name))
        (a.field name) refl (isd.fields name)
    written_by name false to_new from_old move same was =
        still_written name
        (λ x at among. still_field names (a.field old) move x (ap a.field (sym (field_old name x at among)) ∙ at) among)
        (λ k c among new_name.
        let own = (field_among c.was c.member c.stood k c.of_rank).0 among in
        still_field names (a.field old) move c.member (ap a.field (sym (field_old c.was c.member c.stood own)) ∙ c.stood) own)
        (a.field name) refl (isd.fields name)

    -- Methods of receivers

    methods_called : (name : List ℕ) (k : ℕ) → IsMethodAfter r p rank name k ↔ IsMethodCalled set new p rank name k
    methods_called name k =
        subst (λ l. IsMethodAfter r p rank name k ↔ IsMethodCalled l new p rank name k) h.of_set (methods w known d new s h.rename p is rank name k)

    record IsMethodNamed (name : List ℕ) (k : ℕ) : Type 0 where
      was : List ℕ
      member : Received
      stood : a.method was ≡ Some member
      of_rank : member.symbol.rank ≡ k
      called : IsCalledAfter set new (Method (symbol_in p k)) was name

    method_named : (name : List ℕ) (k : ℕ) → IsMethodAfter r p rank name k → IsMethodNamed name k
    method_named name k f =
        let c = (methods_called name k).0 f in
        let x = had_method w sound known right p is r a rank isd name k f in
        let same : c.method ≡ f.method = same_Some c.method f.method (sym c.has_rank ∙ f.has_rank) in
        record {
          was = spelled p f.method.file f.method.function.name;
          member = x.method;
          stood = x.stands;
          of_rank = x.of_rank;
          called = subst (λ (g : PlacedFunction). IsCalledAfter set new (Method (symbol_in p k)) (spelled p g.file g.function.name) name) same c.called;
        }

    method_among : (was : List ℕ) (x : Received) → a.method was ≡ Some x → (k : ℕ) → x.symbol.rank ≡ k →
        Contains set (Method (symbol_in p k)) ↔ Contains set (Method x.symbol)
    method_among was x at k ranks =
        let same : x.symbol ≡ symbol_in p k = (subst (IsFoundMethod p rank was) at (isd.methods was)).4 ∙ ap (symbol_in p) ranks in
        (subst (λ z. Contains set (Method z)) (sym same), subst (λ z. Contains set (Method z)) same)

    method_old : (was : List ℕ) (x : Received) → a.method was ≡ Some x → Contains set (Method x.symbol) → was ≡ old
    method_old was x at among =
        let k = x.symbol.rank in
        let e : Declaration = Method (symbol_in p k) in
        let f = subst (IsFoundMethod p rank was) at (isd.methods was) in
        let named : HasDeclaredNameIn p e old =
        of_one w known p is p.path refl (λ q. HasDeclaredNameIn q e old) (called_old e ((method_among was x at k refl).1 among)) in
        let c = named.is_at.counts in
        let one : c.method ≡ f.0 = same_Some c.method f.0 (sym c.counting.is_method.has_rank ∙ f.1.is_method.has_rank) in
        let spelled_so : spelled p c.method.file c.method.function.name ≡ old =
        subst (λ q. spelled p q.file q.index ≡ old) (sym named.is_at.named_at) named.called in
        sym f.1.is_method.named ∙ ap (λ (g : PlacedFunction). spelled p g.file g.function.name) (sym one) ∙ spelled_so

    method_now : (was name : List ℕ) (x : Received) → a.method was ≡ Some x → IsCalledAfter set new (Method x.symbol) was name →
        IsMethodAfter r p rank name x.symbol.rank
    method_now was name x at called =
        let f = subst (IsFoundMethod p rank was) at (isd.methods was) in
        let own : IsCalledAfter set new (Method (symbol_in p x.symbol.rank)) was name = subst (λ z. IsCalledAfter set new (Method z) was name) f.4 called in
        let m = f.1.is_method in
        (methods_called name x.symbol.rank).1 (record {
          method = f.0;
          has_rank = m.has_rank;
          of_type = record { receiver = m.receiver; received = m.received; declaration = m.declaration; binds = m.binds; of_type = m.of_type };
          called = subst (λ n. IsCalledAfter set new (Method (symbol_in p x.symbol.rank)) n name) (sym m.named) own;
        })

    abbrev received_if : (moves to_new from_old : Bool) → (name : List ℕ) → Option Received
    received_if moves to_new from_old name =
        option_map (received_as names (moves && to_new))
        (under_name a.method (if moves && to_new then Some old else (if moves && from_old then None else Some name)))

    module _ (name : List ℕ) (stays : (x : Received) → a.method name ≡ Some x → Contains set (Method x.symbol) → ⊥)
        (not_new : (k : ℕ) → IsMethodNamed name k → Contains set (Method (symbol_in p k)) → name ≡ new → ⊥) where
      no_method : a.method name ≡ None → (k : ℕ) → IsMethodNamed name k → ⊥
      no_method e k c = by_name c.called
        where
          by_name : IsCalledAfter set new (Method (symbol_in p k)) c.was name → ⊥
          by_name (gets_name among same) = not_new k c among same
          by_name (keeps_name other same) = none-some c.member (sym e ∙ ap a.method same ∙ c.stood)

      still_received : (o : Option Received) → a.method name ≡ o → IsFoundMethod p rank name o →
          IsMethodFoundAfter (IsCheckedPackage w known) r p rank name (option_map (received_as names false) o)
      still_received None e found = λ k first. no_method e k (method_named name k first.has.has)
      still_received (Some x) e found =
          let now = received_now w sound known right r none_lost p is rank a isd name name x e (method_now name name x e (keeps_name (stays x e) refl)) in
          (now.0, (now.1.0, now.1.1, now.1.2, found.5))

    received_by : (name : List ℕ) (moves to_new from_old : Bool) → moves_received names a ≡ moves → same_path name new ≡ to_new →
        same_path name old ≡ from_old → IsMethodFoundAfter (IsCheckedPackage w known) r p rank name (received_if moves to_new from_old name)
    received_by name true true from_old move same was =
        let x = moved_method names (a.method old) move in
        let now : IsMethodFoundAfter (IsCheckedPackage w known) r p rank new (Some (received_as names true x.0)) =
        received_now w sound known right r none_lost p is rank a isd old new x.0 x.1.0 (method_now old new x.0 x.1.0 (gets_name x.1.1 refl)) in
        subst (λ o. IsMethodFoundAfter (IsCheckedPackage w known) r p rank name (option_map (received_as names true) o)) (sym x.1.0)
        (subst (λ n. IsMethodFoundAfter (IsCheckedPackage w known) r p rank n (Some (received_as names true x.0)))
        (sym ((bytes_decides name new).0 same)) now)
    received_by name true false true move same was = λ k first. gone k (method_named name k first.has.has)
      where
        x : (x : Received) × ((a.method old ≡ Some x) × Contains set (Method x.symbol))
        x = moved_method names (a.method old) move

        is_old : name ≡ old
        is_old = (bytes_decides name old).0 was

        gone : (k : ℕ) → IsMethodNamed name k → ⊥
        gone k c = by_name c.called
          where
            by_name : IsCalledAfter set new (Method (symbol_in p k)) c.was name → ⊥
            by_name (gets_name among new_name) = false≢true (sym same ∙ (bytes_decides name new).1 new_name)
            by_name (keeps_name other kept) =
                let one : c.member ≡ x.0 = same_Some c.member x.0 (sym c.stood ∙ ap a.method (sym kept ∙ is_old) ∙ x.1.0) in
                other ((method_among c.was c.member c.stood k c.of_rank).1 (subst (λ (z : Received). Contains set (Method z.symbol)) (sym one) x.1.1))
    received_by name true false false move same was =
        still_received name
        (λ x at among. false≢true (sym was ∙ (bytes_decides name old).1 (method_old name x at among)))
        (λ k c among new_name. false≢true (sym same ∙ (bytes_decides name new).1 new_name))
        (a.method name) refl (isd.methods name)
    received_by name false to_new from_old move same was =
        still_received name
        (λ x at among. still_method names (a.method old) move x (ap a.method (sym (method_old name x at among)) ∙ at) among)
        (λ k c among new_name.
        let own = (method_among c.was c.member c.stood k c.of_rank).0 among in
        still_method names (a.method old) move c.member (ap a.method (sym (method_old c.was c.member c.stood own)) ∙ c.stood) own)
        (a.method name) refl (isd.methods name)

    renamed_members : HasMembersAfter (IsCheckedPackage w known) r p rank (renamed_definition names a)
    renamed_members = record {
      underlying = isd.underlying;
      written = λ name. written_by name (moves_written names a) (same_path name new) (same_path name old) refl refl refl;
      methods = λ name. received_by name (moves_received names a) (same_path name new) (same_path name old) refl refl refl;
    }

    -- the new name is free where a member moves

    field_free : moves_written names a ≡ true → a.field new ≡ None
    field_free move = by_field (a.field new) refl
      where
        by_field : (o : Option Written) → a.field new ≡ o → a.field new ≡ None
        by_field None e = e
        by_field (Some y) e =
            let x = moved_field names (a.field old) move in
            let kept : Contains set (Field y.symbol) → ⊥ = λ among. other_name (field_old new y e among) in
            let one : y.symbol.rank ≡ x.0.symbol.rank =
            one_first (IsFieldAfter r p rank new) y.symbol.rank x.0.symbol.rank
            (field_first w sound known right p is r none_lost rank new y.symbol.rank (field_now new new y e (keeps_name kept refl)))
            (field_first w sound known right p is r none_lost rank new x.0.symbol.rank (field_now old new x.0 x.1.0 (gets_name x.1.1 refl))) in
            absurd (kept ((field_among new y e x.0.symbol.rank one).0 ((field_among old x.0 x.1.0 x.0.symbol.rank refl).1 x.1.1)))

    method_free : moves_received names a ≡ true → a.method new ≡ None
    method_free move = by_method (a.method new) refl
      where
        by_method : (o : Option Received) → a.method new ≡ o → a.method new ≡ None
        by_method None e = e
        by_method (Some y) e =
            let x = moved_method names (a.method old) move in
            let kept : Contains set (Method y.symbol) → ⊥ = λ among. other_name (method_old new y e among) in
            let first = method_first w sound known right p is r none_lost rank new y.symbol.rank (method_now new new y e (keeps_name kept refl)) in
            let moved = method_first w sound known right p is r none_lost rank new x.0.symbol.rank (method_now old new x.0 x.1.0 (gets_name x.1.1 refl)) in
            let one : y.symbol.rank ≡ x.0.symbol.rank = one_first (IsMethodAfter r p rank new) y.symbol.rank x.0.symbol.rank first.has moved.has in
            absurd (kept ((method_among new y e x.0.symbol.rank one).0 ((method_among old x.0 x.1.0 x.0.symbol.rank refl).1 x.1.1)))

  -- All definitions

  module _ (definition : Symbol → Definition) (are : AreAllDefinitions (IsCheckedPackage w known) definition) where
    nothing_renamed : (t : Symbol) → renamed_definition names (no_definition t) ≡ no_definition t
    nothing_renamed t = refl

    are_renamed : AreDefinitionsAfter (IsCheckedPackage w known) r (renamed_definitions names definition)
    are_renamed = record {
      each = λ p is rank t at. renamed_members p is rank (definition (symbol_in p rank)) (are.each p is rank t at);
      others = λ t none. ap (renamed_definition names) (are.others t none) ∙ nothing_renamed t;
    }

    type_free : (t : Symbol) → IsTypeSymbol (IsCheckedPackage w known) t →
        (moves_written names (definition t) ≡ true → (definition t).field new ≡ None)
        × (moves_received names (definition t) ≡ true → (definition t).method new ≡ None)
    type_free t of =
        let p = of.inside in
        let own = symbol_in p of.rank in
        let isd = are.each p of.is_package of.rank of.definition of.has_rank in
        subst (λ z. (moves_written names (definition z) ≡ true → (definition z).field new ≡ None)
        × (moves_received names (definition z) ≡ true → (definition z).method new ≡ None)) (sym of.is_symbol)
        (field_free p of.is_package of.rank (definition own) isd, method_free p of.is_package of.rank (definition own) isd)

    names_free : NamesAreFree definition names
    names_free = record {
      fields = λ t move. elim (type_or_not w sound known right t) [
        | inl of ↦ (type_free t of).0 move
        | inr none ↦ ap (λ (c : Definition). c.field new) (are.others t none)
      ];
      methods = λ t move. elim (type_or_not w sound known right t) [
        | inl of ↦ (type_free t of).1 move
        | inr none ↦ ap (λ (c : Definition). c.method new) (are.others t none)
      ];
    }

    -- Where implementing types change

    told : (place : Place) → TurnsAt w known r place ↔ TurnsBetween (IsCheckedPackage w known) definition (renamed_definitions names definition) place
    told place = (
      (λ t.
          let x = t.turns in
          let before : x.before ≡ definition = all_alike w sound known right x.before definition x.are_before are in
          let after : x.after ≡ renamed_definitions names definition =
          after_alike w sound known right r x.after (renamed_definitions names definition) x.are_after are_renamed in
          record {
            interface = t.interface;
            named = t.named;
            of = x.of;
            may_have = x.may_have;
            turned =
                subst (λ (ds : Symbol → Definition). ¬ (Implements definition x.of t.interface ↔ Implements ds x.of t.interface)) after
                (subst (λ (ds : Symbol → Definition). ¬ (Implements ds x.of t.interface ↔ Implements x.after x.of t.interface)) before x.turned);
          }),
      (λ t. record {
        interface = t.interface;
        named = t.named;
        turns = record {
          before = definition;
          are_before = are;
          after = renamed_definitions names definition;
          are_after = are_renamed;
          of = t.of;
          may_have = t.may_have;
          turned = t.turned;
        };
      }),
    )

pub lookups_are_after : LookupsAreAfter
lookups_are_after w known d set old new s h has none_lost definition are = are_renamed w known d set old new s h has none_lost definition are

pub names_are_freed : NamesAreFreed
names_are_freed w known d set old new s h has none_lost definition are = names_free w known d set old new s h has none_lost definition are

pub turns_are_told : TurnsAreTold
turns_are_told w known d set old new s h has none_lost definition are place = told w known d set old new s h has none_lost definition are place
