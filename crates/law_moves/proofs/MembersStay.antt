-- Where names other than those of imports are kept, members keep their names. So uses of members, and the names by which members are
-- declared, stay bound.
use Rattle.std.proofs.Common.{ℕ, ◌≡◌, inl, inr, List, [], sym, subst, refl, ◌∙◌}
use Rattle.std.specs.Prelude.{◌↔◌, ⊤, Some, slice_get}
use Rattle.base_files.specs.Workspace.{Workspace}
use Rattle.base_files.specs.declared.place.Place.{Place}
use Rattle.base_edits.specs.Revisions.{Revision}
use Rattle.go_ast.specs.Tree.{ReceiverTree}
use Rattle.go_scope.specs.declared.model.Position.{Position}
use Rattle.go_scope.specs.declared.model.Purpose.{Purpose}
use Rattle.go_scope.specs.declared.model.Purpose.TheVariants as purpose
use Rattle.go_scope.specs.declared.model.Role.TheVariants.{NotLexical}
use Rattle.law_tokens.proofs.Lexical.{never_bound}
use Rattle.types_declared.specs.Definitions.{PlacedField, package_fields}
use Rattle.types_declared.specs.Package.{Package, PlacedFunction, package_functions, function_place, spelled}
use Rattle.workspace_check.specs.FaultLists.{ListsFaults}
use Rattle.workspace_check.specs.Verdicts.{Verdicts, AreVerdicts}
use Rattle.refs_binding.specs.declared.declaration.Declaration.{Declaration}
use Rattle.refs_binding.specs.declared.declaration.Declaration.TheVariants.{Predeclared, Declared, Field, Method}
use Rattle.refs_binding.specs.Binding.{BindsByMember, DeclaresMember, field_place}
use Rattle.refs_binding.specs.DeclaringPlaces.{TokenAt, TokenBegins}
use Rattle.refs_binding.specs.Identifiers.{BeginsAt, NameBegins}
use Rattle.refs_binding.specs.Uses.{IsCheckedPackage}
use Rattle.refs_binding.proofs.Tokens.{Begins}
use Rattle.refs_lookup.proofs.NamedMembers.{IsMemberIn, field_in_tree, method_in_tree, role_of}
use Rattle.refs_lookup.proofs.UsedMembers.{link_role}
use Rattle.refs_uses.proofs.NameTokens.{name_at_token}
use Rattle.refactor_conflict.specs.MembersAfter.{CountsAfter}
use Rattle.refactor_conflict.specs.NamesAfter.{HasNameAfter}
use Rattle.refactor_conflict.specs.BoundAfter.{IsBoundByMember}
use Rattle.law_renamed_workspaces.proofs.RenamedMembersNameTokens.{IsNamedIn, field_name, function_name}
use Rattle.law_renamed_workspaces.proofs.NewNames.{name_stands}
use Rattle.law_renamed_workspaces.specs.NamesAfterwards.{IsMember, spelled_there}
use Rattle.law_renamed_workspaces.proofs.Called.{used_is_member, declared_is_member}
use Rattle.law_renamed_workspaces.proofs.KeptMembers.{NoneGets, IsKept, use_stays, name_stays}
use Rattle.law_moves.specs.KeptNames.{KeepsOtherNames}

module _ (w : Workspace) (known : Verdicts) (r : Revision) (kept : KeepsOtherNames w known r) where
  -- an identifier that scopes do not bind keeps its name, unless it is in a package clause
  pub kept_by_role : (p : Package) → IsCheckedPackage w known p → (u : ℕ) (place : Place) → BeginsAt p place.path place.offset u → (kind : Purpose) →
      p.layout.role u ≡ NotLexical kind → (NotLexical kind ≡ NotLexical purpose.PackageClause → ⊥) → (name : List ℕ) → r.called place name ≡ name
  kept_by_role p is u place b kind role other name =
      kept p is u place b (λ i. never_bound p.layout p.names u i.import kind role i.bound) (λ clause. other (sym role ∙ clause)) name

  -- the name of a member
  named_kept : (p : Package) → IsCheckedPackage w known p → (at : Position) → IsMemberIn p.files at → IsNamedIn p at.file at.index → (place : Place) →
      TokenAt p at place → (name : List ℕ) → r.called place name ≡ name
  named_kept p is at member named place token name =
      let t = (name_stands w known p is at named).stands in
      let b : TokenBegins (Some t.file) at.index place = subst (λ o. TokenBegins o at.index place) t.of_rank token in
      let begins : Begins p at place = subst (λ o. NameBegins o at.index place.path place.offset) (sym t.of_rank) (t.is_name, b.0, b.1) in
      let u = name_at_token w known p.path p is.is_checked at place begins in
      kept_by_role p is u.0 place u.1.0 purpose.Member (role_of w known p.path p is.is_checked at member u.0 u.1.0.0.0 u.1.1)
      (λ e. let z : ⊥ = cc in z) name

  called_before : (p : Package) → IsCheckedPackage w known p → (at : Position) → IsMemberIn p.files at → IsNamedIn p at.file at.index → (name : List ℕ) →
      HasNameAfter r p at name ↔ (spelled p at.file at.index ≡ name)
  called_before p is at member named name = (
    (λ k. sym (named_kept p is at member named k.place k.stands (spelled p at.file at.index)) ∙ k.called),
    (λ e.
        let x = name_stands w known p is at named in
        record {
          place = x.place;
          stands = x.stands.begins;
          called = named_kept p is at member named x.place x.stands.begins (spelled p at.file at.index) ∙ e;
        }),
  )

  pub field_called : (p : Package) → IsCheckedPackage w known p → (rank : ℕ) (f : PlacedField) → slice_get (package_fields p) rank ≡ Some f → (name : List ℕ) →
      HasNameAfter r p (field_place f) name ↔ (spelled p f.file f.name ≡ name)
  field_called p is rank f has name = called_before p is (field_place f) (field_in_tree p rank f has) (field_name p rank f has) name

  pub method_called : (p : Package) → IsCheckedPackage w known p → (rank : ℕ) (f : PlacedFunction) (x : ReceiverTree) →
      slice_get (package_functions p) rank ≡ Some f →
      f.function.receiver ≡ Some x → (name : List ℕ) → HasNameAfter r p (function_place f) name ↔ (spelled p f.file f.function.name ≡ name)
  method_called p is rank f x has received name =
      called_before p is (function_place f) (method_in_tree p rank f x has received) (function_name p rank f has) name

  module _ (sound : ListsFaults w []) (right : AreVerdicts w known) where
    none_gets : (m : List ℕ) → NoneGets w sound known right r m (λ q. ⊤) (λ p q a k. tt)
    none_gets m = record {
      fields = λ y is among definition rank k. (
        k.field,
        record { has_rank = k.has_rank; of_struct = k.of_struct; named = (field_called y is rank k.field k.has_rank m).0 k.called },
      );
      methods = λ y is among definition rank k. (
        k.method,
        record {
          has_rank = k.has_rank;
          receiver = k.of_type.receiver;
          received = k.of_type.received;
          declaration = k.of_type.declaration;
          binds = k.of_type.binds;
          of_type = k.of_type.of_type;
          named = (method_called y is rank k.method k.of_type.receiver k.has_rank k.of_type.received m).0 k.called;
        },
      );
    }

    keeps_it : (m : List ℕ) (e : Declaration) → IsMember e → IsKept w sound known right r m (λ q. ⊤) (λ p q a k. tt) e
    keeps_it m (Predeclared n) member = absurd member
    keeps_it m (Declared path n) member = absurd member
    keeps_it m (Field f) member = λ y is among home definition x own. record {
      field = x;
      has_rank = own.has_rank;
      of_struct = own.of_struct;
      called = (field_called y is f.rank x own.has_rank m).1 own.named;
    }
    keeps_it m (Method f) member = λ y is among home definition x own. record {
      method = x;
      has_rank = own.has_rank;
      of_type = record {
        receiver = own.receiver;
        received = own.received;
        declaration = own.declaration;
        binds = own.binds;
        of_type = own.of_type;
      };
      called = (method_called y is f.rank x own.receiver own.has_rank own.received m).1 own.named;
    }

    module _ (p : Package) (is : IsCheckedPackage w known p) (u : ℕ) (place : Place) (begins : BeginsAt p place.path place.offset u) (old : Declaration) where
      -- a use of a member keeps its name
      pub use_called : BindsByMember p u old → (name : List ℕ) → r.called place name ≡ name
      use_called was name = elim (link_role w known p.path p is.is_checked u old begins.0 was) [
        | inl key ↦ kept_by_role p is u place begins purpose.Key key (λ e. let z : ⊥ = cc in z) name
        | inr selected ↦ kept_by_role p is u place begins purpose.Selected selected (λ e. let z : ⊥ = cc in z) name
      ]

      pub use_kept : (was : BindsByMember p u old) → IsBoundByMember (IsCheckedPackage w known) r place p u old was old
      use_kept was =
          let m = spelled_there p u in
          use_stays w sound known right r m (λ q. ⊤) (λ p q a k. tt) (none_gets m) p is tt u place old was
          (keeps_it m old (used_is_member p u old was)) refl (use_called was m)

      pub name_kept : DeclaresMember p u old → CountsAfter (IsCheckedPackage w known) r old
      name_kept declares =
          let m = spelled_there p u in
          name_stays w sound known right r m (λ q. ⊤) (λ p q a k. tt) (none_gets m) p is tt u place old declares
          (keeps_it m old (declared_is_member p u old declares)) refl
