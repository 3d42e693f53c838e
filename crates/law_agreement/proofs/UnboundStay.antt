-- What a plain rename that loses and captures nothing leaves bound was bound before.
use Rattle.std.proofs.Common.{ℕ, ◌≡◌, ◌<◌, inl, inr, true, false, List, [], refl, sym, ap, subst, ◌∙◌}
use Rattle.std.specs.Prelude.{Some, slice_get}
use Rattle.std.proofs.lemmas.Bool.{cases_Bool, true≢false}
use Rattle.base_files.specs.Workspace.{Workspace}
use Rattle.base_files.specs.declared.fault_kind.FaultKind.TheVariants as kind
use Rattle.base_edits.specs.EditSet.{edited}
use Rattle.base_edits.specs.Revisions.{Revision}
use Rattle.base_edits.specs.RevisionsOfEdits.{revision_of}
use Rattle.go_scope.specs.declared.model.Position.{Position}
use Rattle.go_scope.specs.declared.model.Purpose.TheVariants as purpose
use Rattle.go_scope.specs.declared.model.Role.{Role}
use Rattle.go_scope.specs.declared.model.Role.TheVariants.{Use, Declaring, LeftName, Implied, NotLexical}
use Rattle.go_scope.specs.Bindings as scopes
use Rattle.go_scope.specs.Bindings.{Layout, IsIdentifier}
use Rattle.go_scope.specs.Table.{LiesAt}
use Rattle.law_tokens.proofs.Lexical.{never_bound}
use Rattle.types_declared.specs.declared.fault.Fault.{Fault}
use Rattle.types_declared.specs.Definitions.{PlacedField, package_fields, IsFieldOf, IsMethodOf, IsCountingField, IsCountingMethod}
use Rattle.types_declared.specs.Package.{Package, PlacedFunction, spelled}
use Rattle.types_members.specs.MemberFaults.{IsMemberFault}
use Rattle.workspace_check.specs.FaultLists.{ListsFaults}
use Rattle.workspace_check.specs.Verdicts.{Verdicts, AreVerdicts}
use Rattle.refs_binding.specs.declared.declaration.Declaration.{Declaration}
use Rattle.refs_binding.specs.declared.declaration.Declaration.TheVariants.{Predeclared, Declared, Field, Method}
use Rattle.refs_binding.specs.Binding.{DeclaresMember, by_scope, by_package, by_member, by_name}
use Rattle.refs_binding.specs.Identifiers.{BeginsAt, IsInFiles}
use Rattle.refs_binding.specs.Uses.{IsCheckedPackage, IsBoundToDeclaration}
use Rattle.refs_binding.proofs.Excluding.{number_bound, exported_as}
use Rattle.refs_binding.proofs.Folders.{begins_in_folder}
use Rattle.refs_binding.proofs.Units.{one_package}
use Rattle.refs_lookup.proofs.Faultless.{no_fault_later}
use Rattle.refs_lookup.proofs.OnePlace.{one_begins}
use Rattle.refs_lookup.proofs.UsedMembers.{link_role}
use Rattle.law_faultless.specs.Roles.{is_bound_role}
use Rattle.law_faultless.proofs.Bound.{identifier_bound}
use Rattle.law_faultless.proofs.PackageWorlds.{have_worlds}
use Rattle.law_faultless.proofs.WholeBound.{method_of}
use Rattle.law_renamed_workspaces.specs.Layouts.{IsRelaid}
use Rattle.law_renamed_workspaces.proofs.CountingMembers as counting
use Rattle.law_agreement.proofs.Followed.{packages_stay}
use Rattle.law_agreement.proofs.Premises.{ExportsMoveBelow, UnboundStayUnbound}

-- In a workspace without faults each field counts, and so does each method.
module _ (w : Workspace) (sound : ListsFaults w []) (known : Verdicts) (right : AreVerdicts w known) (p : Package) (is : IsCheckedPackage w known p) where
  no_member_fault : (f : Fault) → IsMemberFault p f → ⊥
  no_member_fault f h =
      no_fault_later w sound known right p is f (inr ((λ g inner. no_fault_later w sound known right p is g (inl inner)), inl h))

  pub field_counts : (rank : ℕ) (f : PlacedField) → slice_get (package_fields p) rank ≡ Some f →
      IsCountingField p f.definition (spelled p f.file f.name) rank f
  field_counts rank f has =
      let own : IsFieldOf p f.definition (spelled p f.file f.name) rank f = record { has_rank = has; of_struct = refl; named = refl } in
      let counted : (IsCountingField p f.definition (spelled p f.file f.name) rank f → ⊥) → ⊥ =
      (λ displaced. no_member_fault (record { file = f.file; token = f.name; kind = kind.Repeated })
      (inl (record {
        definition = f.definition;
        name = spelled p f.file f.name;
        rank = rank;
        field = f;
        is_field = own;
        displaced = displaced;
        at = refl;
      }))) in
      record { is_field = own; first = λ other g lt h. counted (λ c. c.first other g lt h) }

  pub method_counts : (definition rank : ℕ) (name : List ℕ) (f : PlacedFunction) → IsMethodOf p definition name rank f →
      IsCountingMethod p definition name rank f
  method_counts definition rank name f own =
      let counted : (IsCountingMethod p definition name rank f → ⊥) → ⊥ =
      (λ displaced. no_member_fault (record { file = f.file; token = f.function.name; kind = kind.Repeated })
      (inr (inl (record {
        definition = definition;
        name = name;
        rank = rank;
        method = f;
        is_method = own;
        displaced = displaced;
        at = refl;
      })))) in
      record {
        is_method = own;
        no_field = λ h. counted (λ c. c.no_field h);
        first = λ other g lt h. counted (λ c. c.first other g lt h);
      }

  -- So what declares a member in the package relaid declared one.
  module _ (r : Revision) (q : Package) (relaid : IsRelaid r p q) (u : ℕ) where
    lies : (at : Position) → LiesAt q.layout at u → LiesAt p.layout at u
    lies at h = subst (λ (l : Layout). LiesAt l at u) relaid.layout h

    pub declared_before : (e : Declaration) → DeclaresMember q u e → DeclaresMember p u e
    declared_before (Predeclared n) h = absurd h
    declared_before (Declared path n) h = absurd h
    declared_before (Field s) h =
        let n = h.1 in
        let c = n.is_at.counts in
        let has = counting.field_before w known r p q is relaid s.rank c.field c.counting.is_field.has_rank in (
          h.0 ∙ relaid.path,
          record {
            at = n.at;
            is_at = record {
              counts = record {
                definition = c.field.definition;
                name = spelled p c.field.file c.field.name;
                field = c.field;
                counting = field_counts s.rank c.field has;
              };
              named_at = n.is_at.named_at;
            };
            stands = lies n.at n.stands;
          },
        )
    declared_before (Method s) h =
        let n = h.1 in
        let c = n.is_at.counts in
        let m = c.counting.is_method in
        let has = counting.function_before w known r p q is relaid s.rank c.method m.has_rank in
        let d = method_of w sound known right p is (have_worlds w sound known right p is) s.rank c.method has m.receiver m.received in (
          h.0 ∙ relaid.path,
          record {
            at = n.at;
            is_at = record {
              counts = record {
                definition = d.0;
                name = spelled p c.method.file c.method.function.name;
                method = c.method;
                counting = method_counts d.0 s.rank (spelled p c.method.file c.method.function.name) c.method d.1;
              };
              named_at = n.is_at.named_at;
            };
            stands = lies n.at n.stands;
          },
        )

    -- what is not bound by its role is bound as the name of a member alone
    role_there : (k : Role) → q.layout.role u ≡ k → p.layout.role u ≡ k
    role_there k e = ap (λ (l : Layout). l.role u) (sym relaid.layout) ∙ e

    bound_before : IsInFiles p u → (x : Workspace) (after : Verdicts) → IsCheckedPackage x after q → (e : Declaration) → IsBoundToDeclaration x after q u e →
        (old : Declaration) × IsBoundToDeclaration w known p u old
    bound_before stands x after also e b = elim (cases_Bool (is_bound_role (p.layout.role u))) [
      | inl bound ↦ identifier_bound w sound known right p is u stands bound
      | inr other ↦ by_way other b
    ]
      where
        no_role : (k : Role) → q.layout.role u ≡ k → is_bound_role k ≡ true → is_bound_role (p.layout.role u) ≡ false → ⊥
        no_role k e bound unbound = true≢false (sym bound ∙ ap is_bound_role (sym (role_there k e)) ∙ unbound)

        there : IsInFiles q u
        there = (
          subst (λ n. u < n) (sym relaid.size) stands.0,
          subst (λ (l : Layout). IsIdentifier l u) (sym relaid.layout) stands.1,
        )

        by_lexical : (k : Role) → p.layout.role u ≡ k → is_bound_role k ≡ false → (n : ℕ) → scopes.IsBoundTo q.layout q.names u n → ⊥
        by_lexical k role unbound n b = unlexical k (ap (λ (l : Layout). l.role u) relaid.layout ∙ role) unbound n b
          where
            unlexical : (k : Role) → q.layout.role u ≡ k → is_bound_role k ≡ false → (n : ℕ) → scopes.IsBoundTo q.layout q.names u n → ⊥
            unlexical (NotLexical z) same unbound n b = never_bound q.layout q.names u n z same b
            unlexical Use same unbound n b = true≢false unbound
            unlexical (Declaring block start) same unbound n b = true≢false unbound
            unlexical (LeftName block start) same unbound n b = true≢false unbound
            unlexical (Implied block start) same unbound n b = true≢false unbound

        by_way : is_bound_role (p.layout.role u) ≡ false → IsBoundToDeclaration x after q u e → (old : Declaration) × IsBoundToDeclaration w known p u old
        by_way unbound (by_scope h) =
            let n = number_bound q u e h in absurd (by_lexical (p.layout.role u) refl unbound n.0 n.1)
        by_way unbound (by_package h) =
            let n = exported_as (IsCheckedPackage x after) q u e h in absurd (no_role (NotLexical purpose.Selected) n.1.1.1.behind.selected refl unbound)
        by_way unbound (by_member h) = elim (link_role x after q.path q also.is_checked u e there h) [
          | inl key ↦ absurd (no_role (NotLexical purpose.Key) key refl unbound)
          | inr selected ↦ absurd (no_role (NotLexical purpose.Selected) selected refl unbound)
        ]
        by_way unbound (by_name h) = (e, by_name (declared_before e h))

pub unbound_stay : ExportsMoveBelow → UnboundStayUnbound
unbound_stay below w known d name s after free place e at now =
    let x = edited s w in
    let r = revision_of w s in
    let p = at.used_in in
    let u = at.user in
    let to = r.moved place in
    let stay = packages_stay below w known d name s after free p at.is_package in
    let q = stay.0 in
    let begins : BeginsAt q to.path to.offset u = stay.1.1.1.1.names u place at.begins in
    let same : now.used_in ≡ q =
    one_package x after now.used_in q now.is_package stay.1.0
    (begins_in_folder x after now.used_in now.is_package to.path to.offset now.user now.begins
    ∙ sym (begins_in_folder x after q stay.1.0 to.path to.offset u begins)) in
    let there : BeginsAt q to.path to.offset now.user = subst (λ (z : Package). BeginsAt z to.path to.offset now.user) same now.begins in
    let user : now.user ≡ u = one_begins x after q.path q stay.1.0.is_checked to.path to.offset now.user u there begins in
    let bound : IsBoundToDeclaration x after q now.user e = subst (λ (z : Package). IsBoundToDeclaration x after z now.user e) same now.bound in
    let known_sound = free.rename.rename in
    let was = bound_before w known_sound.sound known known_sound.right p at.is_package r q stay.1.1.0 u at.begins.0 x after stay.1.0 e
    (subst (λ v. IsBoundToDeclaration x after q v e) user bound) in (
      was.0,
      record { used_in = p; is_package = at.is_package; user = u; begins = at.begins; bound = was.1 },
    )
