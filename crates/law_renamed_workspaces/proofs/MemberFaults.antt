-- A package with the bindings of one without faults has no faults of members where each member counts under its new name.
use Rattle.std.proofs.Common.{ℕ, ◌≡◌, inl, inr, List, ap, refl, sym, subst, ◌∙◌}
use Rattle.std.proofs.lemmas.Option.{same_Some}
use Rattle.base_edits.specs.Revisions.{Revision}
use Rattle.base_files.specs.Workspace.{Workspace}
use Rattle.base_files.specs.declared.place.Place.{Place}
use Rattle.go_scope.specs.declared.model.Position.{Position}
use Rattle.go_scope.specs.WellFormed.{WellFormed}
use Rattle.types_declared.specs.declared.fault.Fault.{Fault}
use Rattle.types_declared.specs.Definitions.{PlacedField, fields_from, package_fields, IsFieldOf, IsCountingField, IsMethodOf, IsCountingMethod}
use Rattle.types_declared.specs.Package.{Package, PlacedFunction, package_types, package_functions, spelled}
use Rattle.types_members.proofs.MethodNames.{one_owner, one_method_name}
use Rattle.types_members.specs.MemberFaults.{IsRepeatedField, IsRepeatedMethod, ContainsDirectly, ContainsType, directly, through, IsRecursive, IsMemberFault}
use Rattle.types_members.specs.MembersView.{CountsAsField, CountsAsMethod}
use Rattle.workspace_check.specs.Verdicts.{Verdicts, IsPackageIn}
use Rattle.workspace_check.proofs.OnePackage.{one_checked}
use Rattle.refs_binding.specs.Binding.{IsNameOf, IsFieldAt, IsMethodAt}
use Rattle.refs_binding.specs.DeclaringPlaces.{InPackage}
use Rattle.refs_binding.specs.Identifiers.{BeginsAt}
use Rattle.refs_binding.specs.Uses.{IsCheckedPackage}
use Rattle.refactor_conflict.specs.MembersAfter.{FieldCounts, MethodCounts}
use Rattle.refactor_conflict.specs.OldPlaces.{field_at, method_at}
use Rattle.refactor_conflict.specs.Staying.{NoneIsLost}
use Rattle.law_changed_types.specs.SameBindings.{IsBoundAlike}
use Rattle.law_changed_types.proofs.Alike.{Alike, of_bound, turned, tokens, got_by}
use Rattle.law_changed_types.proofs.Types.{declares_type}
use Rattle.law_renamed_workspaces.specs.Layouts.{IsRelaid}
use Rattle.law_renamed_workspaces.specs.MembersMoved.{AreSeenAfter, FieldsFollow, MethodsFollow}

-- one package at a path
pub one_inside : (w : Workspace) (known : Verdicts) (p : Package) → IsCheckedPackage w known p → (P : Package → Type 0) →
    InPackage (IsCheckedPackage w known) p.path P → P p
one_inside w known p is P h =
    let there : IsPackageIn w known p.path h.inside = subst (λ path. IsPackageIn w known path h.inside) h.of_path h.is_package.is_checked in
    subst P (one_checked w known p.path h.inside p there is.is_checked) h.holds

-- definitions that contain themselves

module _ (p q : Package) (alike : Alike q p) where
  contains_directly : (a b : ℕ) → ContainsDirectly q a b → ContainsDirectly p a b
  contains_directly a b h = record {
    definition = h.definition;
    has_rank = got_by (package_types q) (package_types p) a h.definition alike.types h.has_rank;
    name = h.name;
    written = h.written;
    declaration = h.declaration;
    binds = tokens q p alike h.definition.file h.name h.declaration h.binds;
    names = declares_type q p alike h.declaration b h.names;
  }

  contains_type : {a b : ℕ} → ContainsType q a b → ContainsType p a b
  contains_type {a} {b} (directly h) = directly (contains_directly a b h)
  contains_type {a} (through {b = b} h more) = through (contains_directly a b h) (contains_type more)

  was_recursive : (f : Fault) → IsRecursive q f → IsRecursive p f
  was_recursive f h = record {
    rank = h.rank;
    definition = h.definition;
    has_rank = got_by (package_types q) (package_types p) h.rank h.definition alike.types h.has_rank;
    holds_itself = contains_type h.holds_itself;
    at = h.at;
  }

  was_field : (d rank : ℕ) (name : List ℕ) (f : PlacedField) → IsFieldOf q d name rank f → IsFieldOf p d (spelled p f.file f.name) rank f
  was_field d rank name f h = record {
    has_rank = got_by (package_fields q) (package_fields p) rank f (ap (fields_from 0) alike.types) h.has_rank;
    of_struct = h.of_struct;
    named = refl;
  }

  was_method : (d rank : ℕ) (name : List ℕ) (f : PlacedFunction) → IsMethodOf q d name rank f → IsMethodOf p d (spelled p f.file f.function.name) rank f
  was_method d rank name f h = record {
    has_rank = got_by (package_functions q) (package_functions p) rank f alike.functions h.has_rank;
    receiver = h.receiver;
    received = h.received;
    declaration = h.declaration;
    binds = tokens q p alike f.file h.receiver.type_name h.declaration h.binds;
    of_type = declares_type q p alike h.declaration d h.of_type;
    named = refl;
  }

-- a member counts under the name that it has

counts_so : (q : Package) (d e rank : ℕ) (n m : List ℕ) (f g : PlacedField) → IsFieldOf q d n rank f → IsCountingField q e m rank g →
    IsCountingField q d n rank f
counts_so q d e rank n m f g h c =
    let same : f ≡ g = same_Some f g (sym h.has_rank ∙ c.is_field.has_rank) in
    let of : d ≡ e = sym h.of_struct ∙ ap (λ (x : PlacedField). x.definition) same ∙ c.is_field.of_struct in
    let called : n ≡ m = sym h.named ∙ ap (λ (x : PlacedField). spelled q x.file x.name) same ∙ c.is_field.named in
    record {
      is_field = h;
      first = λ other x less is. c.first other x less (record { has_rank = is.has_rank; of_struct = is.of_struct ∙ of; named = is.named ∙ called });
    }

method_counts_so : (q : Package) → WellFormed q.layout → (d e rank : ℕ) (n m : List ℕ) (f g : PlacedFunction) → IsMethodOf q d n rank f →
    IsCountingMethod q e m rank g → IsCountingMethod q d n rank f
method_counts_so q formed d e rank n m f g h c =
    let same : g ≡ f = same_Some g f (sym c.is_method.has_rank ∙ h.has_rank) in
    let of : e ≡ d = one_owner q formed rank d e n m f g h c.is_method in
    let called : m ≡ n = one_method_name q rank d e n m f g h c.is_method in
    subst (λ x. IsCountingMethod q d n rank x) same
    (subst (λ x. IsCountingMethod q d x rank g) called (subst (λ x. IsCountingMethod q x m rank g) of c))

-- each member that counts has an identifier that begins somewhere
pub record IsNamedSomewhere (IsAt : (rank : ℕ) → Position → Type 0) (p : Package) (rank : ℕ) : Type 0 where
  pub user : ℕ
  pub place : Place
  pub named : IsNameOf IsAt p user rank
  pub begins : BeginsAt p place.path place.offset user

pub record AreMembersNamed (p : Package) : Type 0 where
  pub fields : (rank : ℕ) → CountsAsField p rank → IsNamedSomewhere (IsFieldAt p) p rank
  pub methods : (rank : ℕ) → CountsAsMethod p rank → IsNamedSomewhere (IsMethodAt p) p rank

module _ (w : Workspace) (known : Verdicts) (r : Revision) (p q : Package) (is : IsCheckedPackage w known p) (formed : WellFormed q.layout) (relaid :
    IsRelaid r p q)
    (bound : IsBoundAlike p q) (seen : AreSeenAfter (IsCheckedPackage w known) r p q) (fields : FieldsFollow) (methods : MethodsFollow)
    (none_lost : NoneIsLost w known r) (named : AreMembersNamed p) (fine : (f : Fault) → IsMemberFault p f → ⊥) where
  abbrev back : Alike q p
  back = turned p q (of_bound p q bound)

  no_repeated_field : (f : Fault) → IsRepeatedField q f → ⊥
  no_repeated_field f h =
      let was = was_field p q back h.definition h.rank h.name h.field h.is_field in
      fine f (inl (record {
        definition = h.definition;
        name = spelled p h.field.file h.field.name;
        rank = h.rank;
        field = h.field;
        is_field = was;
        displaced = counted;
        at = h.at;
      }))
    where
      counted : IsCountingField p h.definition (spelled p h.field.file h.field.name) h.rank h.field → ⊥
      counted c =
          let n = named.fields h.rank (record { definition = h.definition; name = spelled p h.field.file h.field.name; field = h.field; counting = c }) in
          let after = (none_lost n.place p is n.user n.begins).by_name (field_at p.path h.rank) (refl, n.named) in
          let now : FieldCounts r p h.rank = one_inside w known p is (λ x. FieldCounts r x h.rank) after in
          let there = (fields w known r p q is relaid now.definition now.name h.rank).0 now.first in
          h.displaced (counts_so q h.definition now.definition h.rank h.name now.name h.field there.0 h.is_field there.1)

  no_repeated_method : (f : Fault) → IsRepeatedMethod q f → ⊥
  no_repeated_method f h =
      let was = was_method p q back h.definition h.rank h.name h.method h.is_method in
      fine f (inr (inl (record {
        definition = h.definition;
        name = spelled p h.method.file h.method.function.name;
        rank = h.rank;
        method = h.method;
        is_method = was;
        displaced = counted;
        at = h.at;
      })))
    where
      counted : IsCountingMethod p h.definition (spelled p h.method.file h.method.function.name) h.rank h.method → ⊥
      counted c =
          let n = named.methods h.rank
          (record { definition = h.definition; name = spelled p h.method.file h.method.function.name; method = h.method; counting = c }) in
          let after = (none_lost n.place p is n.user n.begins).by_name (method_at p.path h.rank) (refl, n.named) in
          let now : MethodCounts (IsCheckedPackage w known) r p h.rank = one_inside w known p is (λ x. MethodCounts (IsCheckedPackage w known) r x h.rank)
          after in
          let there = methods w known r p q is relaid bound seen now.definition now.name h.rank now.first in
          h.displaced (method_counts_so q formed h.definition now.definition h.rank h.name now.name h.method there.0 h.is_method there.1)

  pub no_member_fault : (f : Fault) → IsMemberFault q f → ⊥
  no_member_fault f (inl h) = no_repeated_field f h
  no_member_fault f (inr (inl h)) = no_repeated_method f h
  no_member_fault f (inr (inr h)) = fine f (inr (inr (was_recursive p q back f h)))
