-- The members that are renamed together have one name, so each type definition has one of them at most.
use Rattle.std.proofs.Common.{ℕ, ◌≡◌, inl, inr, List, ap, sym, subst, refl, ◌∙◌}
use Rattle.std.specs.Prelude.{Contains, Some}
use Rattle.std.proofs.lemmas.Bool.{cases_order}
use Rattle.std.proofs.lemmas.Option.{same_Some}
use Rattle.base_edits.specs.EditSet.{FileChanges}
use Rattle.base_files.specs.Workspace.{Workspace}
use Rattle.base_files.specs.declared.place.Place.{Place}
use Rattle.go_ast.specs.SourceFile.{spelling_of}
use Rattle.types_expr.specs.World.{member_by}
use Rattle.types_declared.specs.Package.{Package, PlacedFunction, function_place, spelled, symbol_in}
use Rattle.types_declared.specs.Definitions.{PlacedField, IsCountingField, IsCountingMethod, IsMethodOf}
use Rattle.workspace_check.specs.Verdicts.{Verdicts, AreVerdicts}
use Rattle.workspace_check.specs.declared.findings.Findings.{Findings}
use Rattle.refs_binding.specs.declared.declaration.Declaration.{Declaration}
use Rattle.refs_binding.specs.declared.declaration.Declaration.TheVariants.{Predeclared, Declared, Field, Method}
use Rattle.refs_binding.specs.Binding.{Binds, UsesMemberAt, by_member, by_name, by_package, by_scope, field_place}
use Rattle.refs_binding.specs.DeclaredNames.{HasDeclaredName, HasDeclaredNameIn}
use Rattle.refs_binding.specs.Uses.{IsCheckedPackage, IsUseOf}
use Rattle.refs_binding.specs.Workspaces.{IsFaultless, known_in}
use Rattle.refs_lookup.proofs.OwnedMembers.{IsOwnedAs, member_named}
use Rattle.refactor_conflict.proofs.FieldsAfter.{of_one}
use Rattle.law_renamed_workspaces.specs.MemberRenames.{IsMemberRename}
use Rattle.law_renamed_workspaces.specs.Renames.{IsMember}
use Rattle.refactor_members.specs.Renames.{IsFieldOfDefinition, IsMethodOfDefinition, StandApart}
use Rattle.refactor_members.proofs.Counting.{as_method}
use Rattle.refactor_members.proofs.Faultless.{all_count}

-- one counts of two members of one name

pub field_once : (p : Package) (definition : ℕ) (name : List ℕ) (i j : ℕ) (f g : PlacedField) → IsCountingField p definition name i f →
    IsCountingField p definition name j g → i ≡ j
field_once p definition name i j f g h k = elim (cases_order i j) [
  | inl same ↦ same
  | inr o ↦ elim o [ inl less ↦ absurd (k.first i f less h.is_field) | inr more ↦ absurd (h.first j g more k.is_field) ]
]

pub method_once : (p : Package) (definition : ℕ) (name : List ℕ) (i j : ℕ) (f g : PlacedFunction) → IsCountingMethod p definition name i f →
    IsCountingMethod p definition name j g → i ≡ j
method_once p definition name i j f g h k = elim (cases_order i j) [
  | inl same ↦ same
  | inr o ↦ elim o [ inl less ↦ absurd (k.first i f less h.is_method) | inr more ↦ absurd (h.first j g more k.is_method) ]
]

-- A member that is used has a name.
module _ (w : Workspace) (known : Verdicts) (right : AreVerdicts w known) where
  abbrev HasName : Declaration → Type 0
  HasName d = (name : List ℕ) × HasDeclaredName (IsCheckedPackage w known) d name

  module _ (p : Package) (is : IsCheckedPackage w known p) where
    use_owned : (file token : ℕ) (d : Declaration) (m : UsesMemberAt p file token d) →
        IsOwnedAs w known right p is m.judged.judged_by.definitions m.judged.judged_by.are_definitions (spelling_of m.judged.source token) d
    use_owned file token d m =
        let world = m.judged.judged_by in
        let spelling = spelling_of m.judged.source token in
        let denoted : member_by world.definitions p.path spelling m.found.before ≡ Some m.member =
        sym (world.member token m.found.before) ∙ m.is_member in
        subst (IsOwnedAs w known right p is world.definitions world.are_definitions spelling) m.declares
        (member_named w known right p is world.definitions world.are_definitions spelling m.found.before m.member denoted)

    bound_named : (d : Declaration) → IsMember d → (u : ℕ) → Binds (IsCheckedPackage w known) p u d → HasName d
    bound_named (Predeclared n) member u b = absurd member
    bound_named (Declared path n) member u b = absurd member
    bound_named (Field s) member u (by_scope b) = absurd b
    bound_named (Field s) member u (by_package b) = absurd b
    bound_named (Field s) member u (by_member m) =
        let o = (use_owned (p.layout.place u).file (p.layout.place u).index (Field s) m).0 in
        let c = o.counts in
        let name = spelling_of m.judged.source (p.layout.place u).index in (
          name,
          record {
            inside = o.inside;
            is_package = o.is_package;
            of_path = o.of_path;
            holds = record {
              at = field_place c.field;
              is_at = record { counts = record { definition = c.definition; name = name; field = c.field; counting = c.counting }; named_at = refl };
              called = c.counting.is_field.named;
            };
          },
        )
    bound_named (Field s) member u (by_name n) =
        let at = n.1.at in (
          spelled p at.file at.index,
          record { inside = p; is_package = is; of_path = sym n.0; holds = record { at = at; is_at = n.1.is_at; called = refl } },
        )
    bound_named (Method s) member u (by_scope b) = absurd b
    bound_named (Method s) member u (by_package b) = absurd b
    bound_named (Method s) member u (by_member m) =
        let o = (use_owned (p.layout.place u).file (p.layout.place u).index (Method s) m).0 in
        let c = o.counts in
        let name = spelling_of m.judged.source (p.layout.place u).index in (
          name,
          record {
            inside = o.inside;
            is_package = o.is_package;
            of_path = o.of_path;
            holds = record {
              at = function_place c.method;
              is_at = record { counts = record { definition = c.definition; name = name; method = c.method; counting = c.counting }; named_at = refl };
              called = c.counting.is_method.named;
            };
          },
        )
    bound_named (Method s) member u (by_name n) =
        let at = n.1.at in (
          spelled p at.file at.index,
          record { inside = p; is_package = is; of_path = sym n.0; holds = record { at = at; is_at = n.1.is_at; called = refl } },
        )

  pub used_named : (d : Declaration) → IsMember d → (place : Place) → IsUseOf w known d place → HasName d
  used_named d member place used = bound_named used.used_in used.is_package d member used.user used.bound

module _ (w : Workspace) (found : Findings) (sound : IsFaultless w found) (d : Declaration) (set : List Declaration) (name : List ℕ) (s : FileChanges)
    (rename : IsMemberRename w (known_in found) d set name s) where
  abbrev known : Verdicts
  known = known_in found

  abbrev Known : Package → Type 0
  Known = IsCheckedPackage w known

  -- all of the set have the name of the declaration

  named : HasName w known sound.findings.right d
  named =
      let used = rename.rename.rename.used in
      used_named w known sound.findings.right d rename.member used.0 used.1

  all_named : (e : Declaration) → Contains set e → HasDeclaredName Known e named.0
  all_named e among = elim (rename.rename.rename.is_set.others e (subst (λ l. Contains l e) (sym rename.of_set) among)) [
    | inl same ↦ subst (λ k. HasDeclaredName Known k named.0) (sym same) named.1
    | inr alike ↦ alike.called named.0 named.1
  ]

  module _ (x : Package) (is : Known x) (definition rank : ℕ) where
    field_spelled : (f : IsFieldOfDefinition x rank definition) → Contains set (Field (symbol_in x rank)) → spelled x f.field.file f.field.name ≡ named.0
    field_spelled f among =
        let n : HasDeclaredNameIn x (Field (symbol_in x rank)) named.0 =
        of_one w known x is x.path refl (λ p. HasDeclaredNameIn p (Field (symbol_in x rank)) named.0) (all_named (Field (symbol_in x rank)) among) in
        let c = n.is_at.counts in
        let one : c.field ≡ f.field = same_Some c.field f.field (sym c.counting.is_field.has_rank ∙ f.has_rank) in
        let at : spelled x c.field.file c.field.name ≡ named.0 = subst (λ p. spelled x p.file p.index ≡ named.0) (sym n.is_at.named_at) n.called in
        sym (ap (λ (g : PlacedField). spelled x g.file g.name) one) ∙ at

    field_counting : (f : IsFieldOfDefinition x rank definition) → Contains set (Field (symbol_in x rank)) → IsCountingField x definition named.0 rank f.field
    field_counting f among =
        (all_count w found sound x is).fields definition named.0 rank f.field
        (record { has_rank = f.has_rank; of_struct = f.of_struct; named = field_spelled f among })

    method_spelled : (f : IsMethodOfDefinition x rank definition) → Contains set (Method (symbol_in x rank)) →
        spelled x f.method.file f.method.function.name ≡ named.0
    method_spelled f among =
        let n : HasDeclaredNameIn x (Method (symbol_in x rank)) named.0 =
        of_one w known x is x.path refl (λ p. HasDeclaredNameIn p (Method (symbol_in x rank)) named.0) (all_named (Method (symbol_in x rank)) among) in
        let c = n.is_at.counts in
        let one : c.method ≡ f.method = same_Some c.method f.method (sym c.counting.is_method.has_rank ∙ f.has_rank) in
        let at : spelled x c.method.file c.method.function.name ≡ named.0 =
        subst (λ p. spelled x p.file p.index ≡ named.0) (sym n.is_at.named_at) n.called in
        sym (ap (λ (g : PlacedFunction). spelled x g.file g.function.name) one) ∙ at

    method_counting : (f : IsMethodOfDefinition x rank definition) → Contains set (Method (symbol_in x rank)) →
        IsCountingMethod x definition named.0 rank f.method
    method_counting f among =
        (all_count w found sound x is).methods definition named.0 rank f.method
        (subst (λ n. IsMethodOf x definition n rank f.method) (method_spelled f among) (as_method x rank definition f.method f.has_rank f.of_type))

  pub stand_apart : StandApart Known set
  stand_apart = record {
    fields = λ x is definition i j f g has_i has_j.
        field_once x definition named.0 i j f.field g.field (field_counting x is definition i f has_i) (field_counting x is definition j g has_j);
    methods = λ x is definition i j f g has_i has_j.
        method_once x definition named.0 i j f.method g.method (method_counting x is definition i f has_i) (method_counting x is definition j g has_j);
  }
