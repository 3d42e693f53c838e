-- The faults of members, from the marks of those that count.
use Rattle.std.proofs.Common.{ℕ, ◌≡◌, ◌<◌, ◌⊎◌, Bool, true, not, ◌&&◌, List, [], length, ap, sym, subst, refl, ◌∙◌}
use Rattle.std.specs.Prelude.{Option, Some, None, slice_get, is_some, IsTrue, ◌↔◌}
use Rattle.std.proofs.lemmas.Bool.{false≢true, not-true, not_from_false, false_from_ne_true, and_parts, and_from}
use Rattle.std.proofs.lemmas.Option.{same_Some, slice_get_within}
use Rattle.go_scope.specs.WellFormed.{WellFormed}
use Rattle.base_files.specs.declared.fault_kind.FaultKind.TheVariants as kind
use Rattle.types_declared.specs.declared.fault.Fault.{Fault}
use Rattle.types_declared.specs.Listing.{AddsFaults, IsFaultBelow}
use Rattle.types_declared.proofs.Listings.{adds_as, adds_then, make}
use Rattle.types_declared.specs.Package.{Package, PlacedType, PlacedFunction, package_types, package_functions, spelled}
use Rattle.types_declared.specs.Definitions.{PlacedField, package_fields, IsCountingField, IsMethodOf, IsCountingMethod}
use Rattle.types_members.specs.MemberFaults.{ContainsType, IsRepeatedField, IsRepeatedMethod, IsRecursive}
use Rattle.types_members.specs.MembersView.{CountsAsField, IsMethodOn, CountsAsMethod}
use Rattle.types_members.proofs.FieldNames.{one_name}
use Rattle.types_members.proofs.Owning.{HasOwner}
use Rattle.types_members.proofs.MethodNames.{one_owner, one_method_name}

-- The faults of members, by the ranks of fields, functions and type definitions

pub record IsFieldFault (p : Package) (rank : ℕ) (f : Fault) : Type 0 where
  pub field : PlacedField
  pub has_rank : slice_get (package_fields p) rank ≡ Some field
  pub displaced : CountsAsField p rank → ⊥
  pub at : f ≡ record { file = field.file; token = field.name; kind = kind.Repeated }

pub record IsMethodFault (p : Package) (rank : ℕ) (f : Fault) : Type 0 where
  pub method : PlacedFunction
  pub has_rank : slice_get (package_functions p) rank ≡ Some method
  pub definition : ℕ
  pub is_method : IsMethodOn p rank definition
  pub displaced : CountsAsMethod p rank → ⊥
  pub at : f ≡ record { file = method.file; token = method.function.name; kind = kind.Repeated }

pub record IsRecursionFault (p : Package) (rank : ℕ) (f : Fault) : Type 0 where
  pub definition : PlacedType
  pub has_rank : slice_get (package_types p) rank ≡ Some definition
  pub holds_itself : ContainsType p rank rank
  pub at : f ≡ record { file = definition.file; token = definition.spec.name; kind = kind.Recursive }

-- A fault that a test adds

pub by_test : (old new : List Fault) (test : Bool) (fault : Fault) (P : Fault → Type 0) → AddsFaults old new (λ f. IsTrue test × (f ≡ fault)) →
    (test ≡ true → P fault) → ((f : Fault) → P f → (test ≡ true) × (f ≡ fault)) →
    AddsFaults old new P
by_test old new test fault P h to from = adds_as old new (λ f. IsTrue test × (f ≡ fault)) P h (λ f k. subst P (sym k.1) (to k.0)) (λ f k. from f k)

-- fields

pub field_fault : (p : Package) (rank : ℕ) (x : PlacedField) (b : Bool) → slice_get (package_fields p) rank ≡ Some x → (b ≡ true) ↔ CountsAsField p rank →
    not b ≡ true →
    IsFieldFault p rank (record { file = x.file; token = x.name; kind = kind.Repeated })
field_fault p rank x b e h t = record { field = x; has_rank = e; displaced = λ c. false≢true (sym (not-true b t) ∙ h.1 c); at = refl }

pub of_field_fault : (p : Package) (rank : ℕ) (x : PlacedField) (b : Bool) → slice_get (package_fields p) rank ≡ Some x →
    (b ≡ true) ↔ CountsAsField p rank → (f : Fault) → IsFieldFault p rank f →
    (not b ≡ true) × (f ≡ record { file = x.file; token = x.name; kind = kind.Repeated })
of_field_fault p rank x b e h f k =
    let same : k.field ≡ x = same_Some k.field x (sym k.has_rank ∙ e) in
    (not_from_false b (false_from_ne_true b (λ t. k.displaced (h.0 t))), k.at ∙ ap (λ z. make z.file z.name kind.Repeated) same)

repeated_field : (p : Package) (rank : ℕ) (f : Fault) → IsFieldFault p rank f → IsRepeatedField p f
repeated_field p rank f k = record {
  definition = k.field.definition;
  name = spelled p k.field.file k.field.name;
  rank = rank;
  field = k.field;
  is_field = record { has_rank = k.has_rank; of_struct = refl; named = refl };
  displaced = λ c. k.displaced (record { definition = k.field.definition; name = spelled p k.field.file k.field.name; field = k.field; counting = c });
  at = k.at;
}

fault_of_field : (p : Package) (f : Fault) (k : IsRepeatedField p f) → IsFieldFault p k.rank f
fault_of_field p f k = record {
  field = k.field;
  has_rank = k.is_field.has_rank;
  displaced = λ c. k.displaced (
      let a = one_name p k.rank k.field k.is_field.has_rank k.definition k.name (record { field = k.field; is_field = k.is_field }) in
      let b = one_name p k.rank k.field k.is_field.has_rank c.definition c.name (record { field = c.field; is_field = c.counting.is_field }) in
      let same : c.field ≡ k.field = same_Some c.field k.field (sym c.counting.is_field.has_rank ∙ k.is_field.has_rank) in
      subst (λ d. IsCountingField p d k.name k.rank k.field) (b.0 ∙ sym a.0)
      (subst (λ n. IsCountingField p c.definition n k.rank k.field) (b.1 ∙ sym a.1) (subst (IsCountingField p c.definition c.name k.rank) same c.counting)));
  at = k.at;
}

pub all_field_faults : (p : Package) (old new : List Fault) (count : ℕ) → count ≡ length (package_fields p) →
    AddsFaults old new (IsFaultBelow (IsFieldFault p) count) →
    AddsFaults old new (IsRepeatedField p)
all_field_faults p old new count e h =
    adds_as old new (IsFaultBelow (IsFieldFault p) count) (IsRepeatedField p) h (λ f k. repeated_field p k.0 f k.2)
    (λ f k. (k.rank, subst (λ n. k.rank < n) (sym e) (slice_get_within (package_fields p) k.rank k.field k.is_field.has_rank), fault_of_field p f k))

-- methods

some_owner : (p : Package) (rank : ℕ) (o : Option ℕ) → HasOwner p rank o → is_some o ≡ true → (d : ℕ) × IsMethodOn p rank d
some_owner p rank None h t = absurd (false≢true t)
some_owner p rank (Some d) h t = (d, h)

owner_some : (p : Package) (rank : ℕ) (o : Option ℕ) (d : ℕ) → HasOwner p rank o → IsMethodOn p rank d → is_some o ≡ true
owner_some p rank None d h m = absurd (h d m)
owner_some p rank (Some e) d h m = refl

pub method_fault : (p : Package) (rank : ℕ) (x : PlacedFunction) (o : Option ℕ) (b : Bool) → slice_get (package_functions p) rank ≡ Some x →
    HasOwner p rank o → (b ≡ true) ↔ CountsAsMethod p rank →
    (is_some o && not b) ≡ true → IsMethodFault p rank (record { file = x.file; token = x.function.name; kind = kind.Repeated })
method_fault p rank x o b e has h t =
    let parts = and_parts (is_some o) (not b) t in
    let own = some_owner p rank o has parts.0 in
    record { method = x; has_rank = e; definition = own.0; is_method = own.1; displaced = λ c. false≢true (sym (not-true b parts.1) ∙ h.1 c); at = refl }

pub of_method_fault : (p : Package) (rank : ℕ) (x : PlacedFunction) (o : Option ℕ) (b : Bool) → slice_get (package_functions p) rank ≡ Some x →
    HasOwner p rank o → (b ≡ true) ↔ CountsAsMethod p rank →
    (f : Fault) → IsMethodFault p rank f → ((is_some o && not b) ≡ true) × (f ≡ record { file = x.file; token = x.function.name; kind = kind.Repeated })
of_method_fault p rank x o b e has h f k =
    let same : k.method ≡ x = same_Some k.method x (sym k.has_rank ∙ e) in (
      and_from (is_some o) (not b) (owner_some p rank o k.definition has k.is_method) (not_from_false b (false_from_ne_true b (λ t. k.displaced (h.0 t)))),
      k.at ∙ ap (λ z. make z.file z.function.name kind.Repeated) same,
    )

repeated_method : (p : Package) (rank : ℕ) (f : Fault) → IsMethodFault p rank f → IsRepeatedMethod p f
repeated_method p rank f k =
    let same : k.is_method.method ≡ k.method = same_Some k.is_method.method k.method (sym k.is_method.is_method.has_rank ∙ k.has_rank) in
    record {
      definition = k.definition;
      name = k.is_method.name;
      rank = rank;
      method = k.method;
      is_method = subst (IsMethodOf p k.definition k.is_method.name rank) same k.is_method.is_method;
      displaced = λ c. k.displaced (record { definition = k.definition; name = k.is_method.name; method = k.method; counting = c });
      at = k.at;
    }

fault_of_method : (p : Package) → WellFormed p.layout → (f : Fault) (k : IsRepeatedMethod p f) → IsMethodFault p k.rank f
fault_of_method p w f k = record {
  method = k.method;
  has_rank = k.is_method.has_rank;
  definition = k.definition;
  is_method = record { name = k.name; method = k.method; is_method = k.is_method };
  displaced = λ c. k.displaced (
      let same : c.method ≡ k.method = same_Some c.method k.method (sym c.counting.is_method.has_rank ∙ k.is_method.has_rank) in
      subst (λ d. IsCountingMethod p d k.name k.rank k.method)
      (one_owner p w k.rank k.definition c.definition k.name c.name k.method c.method k.is_method c.counting.is_method)
      (subst (λ n. IsCountingMethod p c.definition n k.rank k.method)
      (one_method_name p k.rank k.definition c.definition k.name c.name k.method c.method k.is_method c.counting.is_method)
      (subst (IsCountingMethod p c.definition c.name k.rank) same c.counting)));
  at = k.at;
}

pub all_method_faults : (p : Package) → WellFormed p.layout → (old new : List Fault) (count : ℕ) → count ≡ length (package_functions p) →
    AddsFaults old new (IsFaultBelow (IsMethodFault p) count) →
    AddsFaults old new (IsRepeatedMethod p)
all_method_faults p w old new count e h =
    adds_as old new (IsFaultBelow (IsMethodFault p) count) (IsRepeatedMethod p) h (λ f k. repeated_method p k.0 f k.2)
    (λ f k. (k.rank, subst (λ n. k.rank < n) (sym e) (slice_get_within (package_functions p) k.rank k.method k.is_method.has_rank), fault_of_method p w f k))

-- recursive definitions

pub recursion_fault : (p : Package) (rank : ℕ) (x : PlacedType) (b : Bool) → slice_get (package_types p) rank ≡ Some x → (b ≡ true) ↔ ContainsType p rank rank →
    b ≡ true →
    IsRecursionFault p rank (record { file = x.file; token = x.spec.name; kind = kind.Recursive })
recursion_fault p rank x b e h t = record { definition = x; has_rank = e; holds_itself = h.0 t; at = refl }

pub of_recursion_fault : (p : Package) (rank : ℕ) (x : PlacedType) (b : Bool) → slice_get (package_types p) rank ≡ Some x →
    (b ≡ true) ↔ ContainsType p rank rank →
    (f : Fault) → IsRecursionFault p rank f →
    (b ≡ true) × (f ≡ record { file = x.file; token = x.spec.name; kind = kind.Recursive })
of_recursion_fault p rank x b e h f k =
    let same : k.definition ≡ x = same_Some k.definition x (sym k.has_rank ∙ e) in
    (h.1 k.holds_itself, k.at ∙ ap (λ z. make z.file z.spec.name kind.Recursive) same)

pub all_recursion_faults : (p : Package) (old new : List Fault) (count : ℕ) → count ≡ length (package_types p) →
    AddsFaults old new (IsFaultBelow (IsRecursionFault p) count) → AddsFaults old new (IsRecursive p)
all_recursion_faults p old new count e h =
    adds_as old new (IsFaultBelow (IsRecursionFault p) count) (IsRecursive p) h
    (λ f k. record { rank = k.0; definition = k.2.definition; has_rank = k.2.has_rank; holds_itself = k.2.holds_itself; at = k.2.at })
    (λ f k. (
      k.rank,
      subst (λ n. k.rank < n) (sym e) (slice_get_within (package_types p) k.rank k.definition k.has_rank),
      record { definition = k.definition; has_rank = k.has_rank; holds_itself = k.holds_itself; at = k.at },
    ))

-- the faults of three properties are added
pub three_added : (P Q R : Fault → Type 0) (a b c : List Fault) → AddsFaults [] a P → AddsFaults a b Q → AddsFaults b c R →
    AddsFaults [] c (λ f. P f ⊎ (Q f ⊎ R f))
three_added P Q R a b c h k l = adds_then [] a c P (λ f. Q f ⊎ R f) h (adds_then a b c Q R k l)
