-- After the rename of a field or method the others of its package keep their names, and it has the new one.
use Rattle.std.proofs.Common.{ℕ, ◌≡◌, inl, inr, List, ap, sym, subst, refl, ◌∙◌}
use Rattle.std.specs.Prelude.{Some, slice_get, Contains}
use Rattle.std.proofs.lemmas.Bool.{cases_order}
use Rattle.std.proofs.lemmas.Option.{same_Some}
use Rattle.base_edits.specs.EditSet.{FileChanges}
use Rattle.base_edits.specs.Revisions.{Revision}
use Rattle.base_edits.specs.RevisionsOfEdits.{revision_of}
use Rattle.base_files.specs.Workspace.{Workspace}
use Rattle.go_ast.specs.SourceFile.{spelling_of}
use Rattle.go_scope.specs.declared.model.Position.{Position}
use Rattle.go_scope.specs.Table.{LiesAt}
use Rattle.go_scope.specs.WellFormed.{WellFormed}
use Rattle.types_expr.specs.declared.symbol.Symbol.{Symbol}
use Rattle.types_declared.specs.Definitions.{PlacedField, package_fields, IsFieldOf, IsMethodOf}
use Rattle.types_declared.specs.Package.{Package, PlacedFunction, function_place, symbol_in, spelled, spelled_at}
use Rattle.types_members.proofs.MethodNames.{one_owner, one_method_name}
use Rattle.workspace_check.specs.Verdicts.{Verdicts}
use Rattle.go_scanner.specs.CutText.{tokens_in}
use Rattle.refs_binding.specs.Binding.{DeclaresMember, by_name, field_place}
use Rattle.refs_binding.specs.declared.declaration.Declaration.{Declaration}
use Rattle.refs_binding.specs.declared.declaration.Declaration.TheVariants.{Field, Method}
use Rattle.refs_binding.specs.DeclaringPlaces.{TokenBegins}
use Rattle.refs_binding.specs.Identifiers.{NameBegins, IsNameToken}
use Rattle.refs_binding.specs.Uses.{IsCheckedPackage, IsBoundToDeclaration}
use Rattle.refs_binding.proofs.Tokens.{Begins}
use Rattle.refs_uses.proofs.NameTokens.{name_at_token}
use Rattle.law_changed_types.proofs.Alike.{Alike, turned}
use Rattle.law_renamed_workspaces.specs.Layouts.{IsRelaid}
use Rattle.law_renamed_workspaces.proofs.NameTokens.{named_as_spelled}
use Rattle.law_renamed_workspaces.proofs.RenamedScopesRenamed.{bound_is_called}
use Rattle.law_renamed_workspaces.proofs.RenamedMembersNameTokens.{IsNamedIn, field_name, function_name}
use Rattle.law_renamed_workspaces.proofs.NewNames.{name_stands}
use Rattle.law_renamed_workspaces.specs.KnownVerdicts.{IsKeptRename}
use Rattle.law_renamed_workspaces.proofs.Counting.{EachMemberCounts}
use Rattle.law_renamed_workspaces.proofs.FoundMembers.{FieldsGo, MethodsGo, field_by, method_by}
use Rattle.law_renamed_workspaces.proofs.KeptNames.{field_kept, method_kept}
use Rattle.law_renamed_workspaces.proofs.OneRenamed.{Members, AreSingle, IsOneRenamed}
use Rattle.law_renamed_workspaces.proofs.RenamedSets.{IsBoundToSome}

-- The fields and the methods of a package, by owner, name and rank.

abbrev pub fields_of : Package → Members
fields_of p d name rank = (f : PlacedField) × IsFieldOf p d name rank f

abbrev pub methods_of : Package → Members
methods_of p d name rank = (f : PlacedFunction) × IsMethodOf p d name rank f

-- Where each member counts, each has one owner and one name, and each name one member.

one_field : (p : Package) (d e : ℕ) (m n : List ℕ) (rank : ℕ) → fields_of p d m rank → fields_of p e n rank → (d ≡ e) × (m ≡ n)
one_field p d e m n rank a b =
    let same : a.0 ≡ b.0 = same_Some a.0 b.0 (sym a.1.has_rank ∙ b.1.has_rank) in (
      sym a.1.of_struct ∙ ap (λ (f : PlacedField). f.definition) same ∙ b.1.of_struct,
      sym a.1.named ∙ ap (λ (f : PlacedField). spelled p f.file f.name) same ∙ b.1.named,
    )

one_field_named : (p : Package) → EachMemberCounts p → (d : ℕ) (n : List ℕ) (r s : ℕ) → fields_of p d n r → fields_of p d n s → r ≡ s
one_field_named p counts d n r s a b = elim (cases_order r s) [
  | inl same ↦ same
  | inr o ↦ elim o [
    | inl less ↦ absurd ((counts.fields d s n b.0 b.1).first r a.0 less a.1)
    | inr more ↦ absurd ((counts.fields d r n a.0 a.1).first s b.0 more b.1)
  ]
]

pub fields_single : (p : Package) → EachMemberCounts p → AreSingle (fields_of p)
fields_single p counts = record { one = one_field p; one_named = one_field_named p counts }

one_method_named : (p : Package) → EachMemberCounts p → (d : ℕ) (n : List ℕ) (r s : ℕ) → methods_of p d n r → methods_of p d n s → r ≡ s
one_method_named p counts d n r s a b = elim (cases_order r s) [
  | inl same ↦ same
  | inr o ↦ elim o [
    | inl less ↦ absurd ((counts.methods d s n b.0 b.1).first r a.0 less a.1)
    | inr more ↦ absurd ((counts.methods d r n a.0 a.1).first s b.0 more b.1)
  ]
]

pub methods_single : (p : Package) → WellFormed p.layout → EachMemberCounts p → AreSingle (methods_of p)
methods_single p formed counts = record {
  one = λ d e m n rank a b.
      (sym (one_owner p formed rank d e m n a.0 b.0 a.1 b.1), sym (one_method_name p rank d e m n a.0 b.0 a.1 b.1));
  one_named = one_method_named p counts;
}

-- What counts under the one name counts under the other, if it stands under it.

pub fields_go : (p q : Package) → EachMemberCounts q → (d : ℕ) (m n : List ℕ) → ((rank : ℕ) → fields_of p d m rank → fields_of q d n rank) →
    package_fields q ≡ package_fields p → FieldsGo p q d m n
fields_go p q counts d m n go listed rank f c =
    let g = go rank (f, c.is_field) in
    let same : g.0 ≡ f = same_Some g.0 f (sym g.1.has_rank ∙ ap (λ fs. slice_get fs rank) listed ∙ c.is_field.has_rank) in
    counts.fields d rank n f (subst (IsFieldOf q d n rank) same g.1)

pub methods_go : (p q : Package) → EachMemberCounts q → Alike p q → (d : ℕ) (m n : List ℕ) →
    ((rank : ℕ) → methods_of p d m rank → methods_of q d n rank) → MethodsGo p q d m n
methods_go p q counts alike d m n go rank f c =
    let g = go rank (f, c.is_method) in
    let same : g.0 ≡ f = same_Some g.0 f (sym g.1.has_rank ∙ ap (λ fs. slice_get fs rank) alike.functions ∙ c.is_method.has_rank) in
    let called = ap (λ (x : PlacedFunction). spelled q x.file x.function.name) (sym same) ∙ g.1.named in
    let k = method_by p q alike d rank m f c.is_method n called in
    let counting = counts.methods d rank n f k.0 in
    (record { is_method = k.0; no_field = counting.no_field; first = counting.first }, k.1)

field_rank : (s t : Symbol) → Field s ≡ Field t → s ≡ t
field_rank s t e = cc

method_rank : (s t : Symbol) → Method s ≡ Method t → s ≡ t
method_rank s t e = cc

module _ (w : Workspace) (before : Verdicts) (d : Declaration) (name : List ℕ) (s : FileChanges) (h : IsKeptRename w before d name s)
    (p q : Package) (is : IsCheckedPackage w before p) (relaid : IsRelaid (revision_of w s) p q) where
  abbrev r : Revision
  r = revision_of w s

  begins : (at : Position) (x : IsNamedIn p at.file at.index) → Begins p at (name_stands w before p is at x).place
  begins at x =
      let st = name_stands w before p is at x in
      let t = st.stands in
      let begun : TokenBegins (Some t.file) at.index st.place = subst (λ o. TokenBegins o at.index st.place) t.of_rank t.begins in
      subst (λ o. NameBegins o at.index st.place.path st.place.offset) (sym t.of_rank) (t.is_name, begun.0, begun.1)

  -- the name token of a member is called as its identifier, which is bound to a renamed declaration
  token_called : (at : Position) → IsNamedIn p at.file at.index → ((v : ℕ) → LiesAt p.layout at v → IsBoundToSome w before h.plain.rename.set p v) →
      spelled q at.file at.index ≡ name
  token_called at x bound =
      let st = name_stands w before p is at x in
      let t = st.stands in
      let u = name_at_token w before p.path p is.is_checked at st.place (begins at x) in
      let here : slice_get p.files (p.layout.place u.0).file ≡ Some t.file = ap (slice_get p.files) u.1.1.1 ∙ t.of_rank in
      let named = named_as_spelled w before p.path p is.is_checked u.0 u.1.0.0 t.file here
      (subst (λ i. IsNameToken (slice_get (tokens_in t.file.cut) i)) (sym u.1.1.2) t.is_name) in
      let same : p.names u.0 ≡ spelled p at.file at.index =
      named ∙ ap (spelling_of t.file) u.1.1.2 ∙ sym (ap (λ o. spelled_at o at.index) t.of_rank) in
      relaid.tokens at st.place t
      ∙ ap (r.called st.place) (sym same)
      ∙ sym (relaid.names u.0 st.place u.1.0)
      ∙ bound_is_called w before d name s h.plain p q is relaid u.0 st.place u.1.0 (bound u.0 u.1.1)

  module _ (alike : Alike p q) (counts : EachMemberCounts p) (counts_after : EachMemberCounts q) where
    abbrev back : Alike q p
    back = turned p q alike

    -- no field, or no method, is renamed

    pub fields_there : ((rank : ℕ) → Contains h.plain.rename.set (Field (symbol_in p rank)) → ⊥) → (definition : ℕ) (n : List ℕ) (rank : ℕ) →
        fields_of p definition n rank →
        fields_of q definition n rank
    fields_there none definition n rank x = (
      x.0,
      field_by p q alike definition rank n x.0 x.1 n (field_kept w before d name s h p q is relaid counts definition rank n x.0 x.1 (none rank)),
    )

    pub fields_back : ((rank : ℕ) → Contains h.plain.rename.set (Field (symbol_in p rank)) → ⊥) → (definition : ℕ) (n : List ℕ) (rank : ℕ) →
        fields_of q definition n rank →
        fields_of p definition n rank
    fields_back none definition n rank x =
        let f = x.0 in
        let called = spelled p f.file f.name in
        let then = field_by q p back definition rank n f x.1 called refl in
        let kept = field_kept w before d name s h p q is relaid counts definition rank called f then (none rank) in
        (f, field_by q p back definition rank n f x.1 n (sym kept ∙ x.1.named))

    pub methods_there : ((rank : ℕ) → Contains h.plain.rename.set (Method (symbol_in p rank)) → ⊥) → (definition : ℕ) (n : List ℕ) (rank : ℕ) →
        methods_of p definition n rank →
        methods_of q definition n rank
    methods_there none definition n rank x = (
      x.0,
      (method_by p q alike definition rank n x.0 x.1 n (method_kept w before d name s h p q is relaid counts definition rank n x.0 x.1 (none rank))).0,
    )

    pub methods_back : ((rank : ℕ) → Contains h.plain.rename.set (Method (symbol_in p rank)) → ⊥) → (definition : ℕ) (n : List ℕ) (rank : ℕ) →
        methods_of q definition n rank →
        methods_of p definition n rank
    methods_back none definition n rank x =
        let f = x.0 in
        let called = spelled p f.file f.function.name in
        let then = (method_by q p back definition rank n f x.1 called refl).0 in
        let kept = method_kept w before d name s h p q is relaid counts definition rank called f then (none rank) in
        (f, (method_by q p back definition rank n f x.1 n (sym kept ∙ x.1.named)).0)

    -- one field is renamed

    module _ (renamed : ℕ) (e : d ≡ Field (symbol_in p renamed)) (only : (x : Declaration) → Contains h.plain.rename.set x → x ≡ d) (owner : ℕ)
        (old : List ℕ) (f0 : PlacedField) (was : IsFieldOf p owner old renamed f0) (apart : old ≡ name → ⊥) where
      field_called : spelled q f0.file f0.name ≡ name
      field_called =
          token_called (field_place f0) (field_name p renamed f0 was.has_rank)
          (λ v stands. record {
            declaration = d;
            among = h.plain.rename.is_set.has_it;
            bound = by_name (subst (DeclaresMember p v) (sym e) (
              refl,
              record {
                at = field_place f0;
                is_at = record {
                  counts = record { definition = owner; name = old; field = f0; counting = counts.fields owner renamed old f0 was };
                  named_at = refl;
                };
                stands = stands;
              },
            ));
          })

      other_field : (definition rank : ℕ) (called : List ℕ) (f : PlacedField) → IsFieldOf p definition called rank f → (rank ≡ renamed → ⊥) →
          spelled q f.file f.name ≡ called
      other_field definition rank called f x other =
          field_kept w before d name s h p q is relaid counts definition rank called f x
          (λ also. other (ap (λ (t : Symbol). t.rank) (field_rank (symbol_in p rank) (symbol_in p renamed) (only (Field (symbol_in p rank)) also ∙ e))))

      pub one_field_renamed : IsOneRenamed (fields_of p) (fields_of q) owner renamed old name
      one_field_renamed = record {
        single = fields_single p counts;
        single_after = fields_single q counts_after;
        was = (f0, was);
        now = (f0, field_by p q alike owner renamed old f0 was name field_called);
        apart = apart;
        there = λ definition n rank other x. (
          x.0,
          field_by p q alike definition rank n x.0 x.1 n (other_field definition rank n x.0 x.1 other),
        );
        back = λ definition n rank other x.
            let f = x.0 in
            let then = field_by q p back definition rank n f x.1 (spelled p f.file f.name) refl in
            (f, field_by q p back definition rank n f x.1 n (sym (other_field definition rank (spelled p f.file f.name) f then other) ∙ x.1.named));
      }

    -- one method is renamed

    module _ (formed : WellFormed p.layout) (formed_after : WellFormed q.layout) (renamed : ℕ) (e : d ≡ Method (symbol_in p renamed))
        (only : (x : Declaration) → Contains h.plain.rename.set x → x ≡ d) (owner : ℕ) (old : List ℕ) (f0 : PlacedFunction) (was : IsMethodOf p owner old
        renamed f0) (apart : old ≡ name → ⊥) where
      method_called : spelled q f0.file f0.function.name ≡ name
      method_called =
          token_called (function_place f0) (function_name p renamed f0 was.has_rank)
          (λ v stands. record {
            declaration = d;
            among = h.plain.rename.is_set.has_it;
            bound = by_name (subst (DeclaresMember p v) (sym e) (
              refl,
              record {
                at = function_place f0;
                is_at = record {
                  counts = record { definition = owner; name = old; method = f0; counting = counts.methods owner renamed old f0 was };
                  named_at = refl;
                };
                stands = stands;
              },
            ));
          })

      other_method : (definition rank : ℕ) (called : List ℕ) (f : PlacedFunction) → IsMethodOf p definition called rank f → (rank ≡ renamed → ⊥) →
          spelled q f.file f.function.name ≡ called
      other_method definition rank called f x other =
          method_kept w before d name s h p q is relaid counts definition rank called f x
          (λ also. other (ap (λ (t : Symbol). t.rank) (method_rank (symbol_in p rank) (symbol_in p renamed) (only (Method (symbol_in p rank)) also ∙ e))))

      pub one_method_renamed : IsOneRenamed (methods_of p) (methods_of q) owner renamed old name
      one_method_renamed = record {
        single = methods_single p formed counts;
        single_after = methods_single q formed_after counts_after;
        was = (f0, was);
        now = (f0, (method_by p q alike owner renamed old f0 was name method_called).0);
        apart = apart;
        there = λ definition n rank other x. (
          x.0,
          (method_by p q alike definition rank n x.0 x.1 n (other_method definition rank n x.0 x.1 other)).0,
        );
        back = λ definition n rank other x.
            let f = x.0 in
            let own = spelled p f.file f.function.name in
            let then = (method_by q p back definition rank n f x.1 own refl).0 in
            (f, (method_by q p back definition rank n f x.1 n (sym (other_method definition rank own f then other) ∙ x.1.named)).0);
      }
