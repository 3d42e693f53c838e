-- Fields and methods that count under the new name of a rename: those that are the first to have it.
use Rattle.std.proofs.Common.{ℕ, ◌≡◌, Bool, List, ap, sym, subst, refl, ◌∙◌}
use Rattle.std.specs.Prelude.{◌↔◌, IsTrue, Option, Some, None, slice_get}
use Rattle.std.proofs.lemmas.Option.{same_Some}
use Rattle.base_files.specs.declared.place.Place.{Place}
use Rattle.base_edits.specs.Revisions.{Revision}
use Rattle.go_scope.specs.declared.model.Position.{Position}
use Rattle.types_declared.specs.Package.{Package, PlacedFunction, package_functions, spelled, function_place}
use Rattle.types_declared.specs.Definitions.{PlacedField, IsMethodOf}
use Rattle.types_members.specs.MethodsView.{IsOwner}
use Rattle.types_members.proofs.MethodNames.{one_owner}
use Rattle.workspace_check.proofs.OnePackage.{layout_formed}
use Rattle.refs_binding.specs.declared.declaration.Declaration.TheVariants.{Field, Method}
use Rattle.refs_binding.specs.Binding.{field_place}
use Rattle.refs_binding.specs.DeclaringPlaces.{InPackage}
use Rattle.refs_places.proofs.Starts.{token_once}
use Rattle.refactor_conflict.specs.NamesAfter.{HasNameAfter, IsFieldAfter, IsMethodAfter}
use Rattle.refactor_conflict.specs.MembersAfter.{IsFirstField, IsFirstMethod, FieldCounts, MethodCounts, CountsAfter}
use Rattle.refactor_conflict.specs.MembersFound.{IsRankFound}
use Rattle.refactor_conflict.proofs.FieldsAfter.{one_first, mapped_in, of_one}
use Rattle.refactor_members.specs.Renames.{EditedRename, KnowsRename, IsFieldOfNewName, IsMethodNamed}
use Rattle.refactor_members.specs.Renames.{packages_before, rename_revision, renamed_members, workspace_before, verdicts_in}

-- A token has one name after a change.
pub one_name_after : (r : Revision) (p : Package) (at : Position) (a b : List ℕ) → HasNameAfter r p at a → HasNameAfter r p at b → a ≡ b
one_name_after r p at a b h k =
    let same : h.place ≡ k.place = token_once (slice_get p.files at.file) at.index h.place k.place h.stands k.stands in
    sym h.called ∙ ap (λ (x : Place). r.called x (spelled p at.file at.index)) same ∙ k.called

-- A field has one type definition and one name after a change.
field_after_once : (r : Revision) (p : Package) (a b : ℕ) (m n : List ℕ) (rank : ℕ) → IsFieldAfter r p a m rank → IsFieldAfter r p b n rank →
    (a ≡ b) × (m ≡ n)
field_after_once r p a b m n rank h k =
    let same : h.field ≡ k.field = same_Some h.field k.field (sym h.has_rank ∙ k.has_rank) in (
      sym h.of_struct ∙ ap (λ (f : PlacedField). f.definition) same ∙ k.of_struct,
      one_name_after r p (field_place k.field) m n (subst (λ (f : PlacedField). HasNameAfter r p (field_place f) m) same h.called) k.called,
    )

pub as_method : (p : Package) (rank d : ℕ) (f : PlacedFunction) → slice_get (package_functions p) rank ≡ Some f → IsOwner p f d →
    IsMethodOf p d (spelled p f.file f.function.name) rank f
as_method p rank d f e own = record {
  has_rank = e;
  receiver = own.receiver;
  received = own.received;
  declaration = own.declaration;
  binds = own.binds;
  of_type = own.of_type;
  named = refl;
}

found_here : (K : ℕ → Type 0) → ((a b : ℕ) → K a → K b → a ≡ b) → (o : Option ℕ) → IsRankFound K o → (rank : ℕ) → K rank → o ≡ Some rank
found_here K one None none rank k = absurd (none rank k)
found_here K one (Some other) is rank k = ap Some (one other rank is k)

module _ (m : EditedRename) (knows : KnowsRename m) (p : Package) (is : packages_before m.of p) (path : List ℕ) (of : p.path ≡ path) (definition : ℕ) where
  abbrev Known : Package → Type 0
  Known = packages_before m.of

  abbrev r : Revision
  r = rename_revision m

  abbrev name : List ℕ
  name = m.of.name.now

  method_after_once : (b : ℕ) (n : List ℕ) (rank : ℕ) → IsMethodAfter r p definition name rank → IsMethodAfter r p b n rank → (b ≡ definition) × (n ≡ name)
  method_after_once b n rank h k =
      let same : k.method ≡ h.method = same_Some k.method h.method (sym k.has_rank ∙ h.has_rank) in
      let formed = layout_formed (workspace_before m.of) (verdicts_in m.of) p.path p is.is_checked in (
        one_owner p formed rank definition b (spelled p h.method.file h.method.function.name) (spelled p k.method.file k.method.function.name) h.method k.method
            (as_method p rank definition h.method h.has_rank h.of_type) (as_method p rank b k.method k.has_rank k.of_type),
        one_name_after r p (function_place h.method) n name (subst (λ (f : PlacedFunction). HasNameAfter r p (function_place f) n) same k.called) h.called,
      )

  abbrev FirstField : ℕ → Type 0
  FirstField rank = InPackage Known path (λ q. IsFirstField r q definition name rank)

  abbrev FirstMethod : ℕ → Type 0
  FirstMethod rank = InPackage Known path (λ q. IsFirstMethod Known r q definition name rank)

  here : (P : Package → Type 0) → InPackage Known path P → P p
  here P h = of_one (workspace_before m.of) (verdicts_in m.of) p is path of P h

  pub field_counts : (rank : ℕ) → IsFieldOfNewName (renamed_members m.of) name p definition rank → (o : Option ℕ) → IsRankFound FirstField o → (b : Bool) →
      IsTrue b ↔ (o ≡ Some rank) → IsTrue b ↔ CountsAfter Known r (Field (record { «package» = path; rank = rank }))
  field_counts rank named o found b told = (
    (λ t. mapped_in Known path (λ q. IsFirstField r q definition name rank) (λ q. FieldCounts r q rank)
        (λ q i e first. record { definition = definition; name = name; first = first }) (subst (IsRankFound FirstField) (told.0 t) found)),
    (λ counts.
        let c = here (λ q. FieldCounts r q rank) counts in
        let after = (knows.renames.fields p is definition rank).1 named in
        let same = field_after_once r p c.definition definition c.name name rank c.first.has after in
        let first : IsFirstField r p definition name rank =
        subst (λ n. IsFirstField r p definition n rank) same.1 (subst (λ d. IsFirstField r p d c.name rank) same.0 c.first) in
        told.1 (found_here FirstField (λ x y h k. one_first (IsFieldAfter r p definition name) x y (here (λ q. IsFirstField r q definition name x) h)
        (here (λ q. IsFirstField r q definition name y) k)) o found rank (record { inside = p; is_package = is; of_path = of; holds = first }))),
  )

  pub method_counts : (rank : ℕ) → IsMethodNamed (renamed_members m.of) name p definition rank → (o : Option ℕ) → IsRankFound FirstMethod o → (b : Bool) →
      IsTrue b ↔ (o ≡ Some rank) → IsTrue b ↔ CountsAfter Known r (Method (record { «package» = path; rank = rank }))
  method_counts rank named o found b told = (
    (λ t. mapped_in Known path (λ q. IsFirstMethod Known r q definition name rank) (λ q. MethodCounts Known r q rank)
        (λ q i e first. record { definition = definition; name = name; first = first }) (subst (IsRankFound FirstMethod) (told.0 t) found)),
    (λ counts.
        let c = here (λ q. MethodCounts Known r q rank) counts in
        let after = (knows.renames.methods p is definition rank).1 named in
        let same = method_after_once c.definition c.name rank after c.first.has.has in
        let first : IsFirstMethod Known r p definition name rank =
        subst (λ n. IsFirstMethod Known r p definition n rank) same.1 (subst (λ d. IsFirstMethod Known r p d c.name rank) same.0 c.first) in
        told.1 (found_here FirstMethod (λ x y h k. one_first (IsMethodAfter r p definition name) x y (here
        (λ q. IsFirstMethod Known r q definition name x) h).has
        (here (λ q. IsFirstMethod Known r q definition name y) k).has) o found rank (record { inside = p; is_package = is; of_path = of; holds = first }))),
  )
