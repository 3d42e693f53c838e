-- After a plain rename each field and method that is not renamed keeps its name.
use Rattle.std.proofs.Common.{ℕ, ◌≡◌, ◌<◌, ◌⊎◌, inl, inr, List, ap, sym, subst, refl, ◌∙◌}
use Rattle.std.specs.Prelude.{◌↔◌, Some, None, Option, Contains, slice_get, find}
use Rattle.std.proofs.lemmas.Bool.{cases_eq}
use Rattle.base_files.specs.Workspace.{Workspace}
use Rattle.base_files.specs.declared.fault_kind.FaultKind.TheVariants as kind
use Rattle.base_files.specs.declared.place.Place.{Place}
use Rattle.base_edits.specs.EditSet.{FileChanges}
use Rattle.base_edits.specs.Revisions.{Revision}
use Rattle.base_edits.specs.RevisionsOfEdits.{revision_of, new_name_at, replaces_at, text_or}
use Rattle.base_edits.specs.declared.edit.Edit.{Edit}
use Rattle.go_scanner.specs.declared.piece.Class.TheVariants.{Name}
use Rattle.go_scanner.specs.declared.piece.Piece.{Piece}
use Rattle.go_scanner.specs.CutText.{tokens_in}
use Rattle.go_ast.specs.SourceFile.{SourceFile, offset_at, offset_of, spelling_of}
use Rattle.go_scope.specs.declared.model.Position.{Position}
use Rattle.go_scope.specs.Table.{LiesAt}
use Rattle.go_respelled.specs.Trees.{renamed_file}
use Rattle.types_expr.specs.declared.symbol.Symbol.{Symbol}
use Rattle.types_expr.specs.World.{Member, AField, AMethod, ABrokenMethod}
use Rattle.types_declared.proofs.ByteKeys.{cases_bytes}
use Rattle.types_declared.specs.declared.fault.Fault.{Fault}
use Rattle.types_declared.specs.Definitions.{PlacedField, package_fields, IsMethodOf}
use Rattle.types_declared.specs.Package.{Package, PlacedFunction, package_functions, function_place, symbol_in, spelled, spelled_at}
use Rattle.types_members.specs.MemberFaults.{IsMemberFault}
use Rattle.types_members.specs.MethodsView.{IsOwner}
use Rattle.workspace_check.specs.Verdicts.{Verdicts}
use Rattle.refs_binding.specs.declared.declaration.Declaration.{Declaration}
use Rattle.refs_binding.specs.declared.declaration.Declaration.TheVariants.{Predeclared, Declared, Field, Method}
use Rattle.refs_binding.specs.Binding.{BindsByMember, DeclaresMember, by_member, by_name, declaration_of, field_place}
use Rattle.refs_binding.specs.DeclaringPlaces.{TokenBegins}
use Rattle.refs_binding.specs.Identifiers.{BeginsAt, IsNameToken, NameBegins, file_of}
use Rattle.refs_binding.specs.Uses.{IsCheckedPackage, IsBoundToDeclaration, IsUseOf}
use Rattle.refs_binding.proofs.MemberParts.{not_declared}
use Rattle.refs_binding.proofs.PlaceOrder.{place_is}
use Rattle.refs_lookup.proofs.Faultless.{no_fault_later}
use Rattle.refs_lookup.proofs.OneDeclaration.{one_declaration}
use Rattle.refs_lookup.proofs.OnePlace.{one_begins}
use Rattle.refs_uses.proofs.NameTokens.{name_at_token}
use Rattle.refactor_rename.specs.FileEdits.{RenamesToken}
use Rattle.refactor_conflict.specs.NamesAfter.{HasNameAfter, IsFieldAfter, IsMethodAfter}
use Rattle.law_renamed_workspaces.specs.Layouts.{IsToken}
use Rattle.law_renamed_workspaces.specs.Renames.{IsPlainRename}
use Rattle.law_renamed_workspaces.proofs.RenamedSets.{same_or_other}
use Rattle.law_renamed_workspaces.proofs.NameEdits.{renamed, replaced_token}
use Rattle.law_renamed_workspaces.proofs.Replaced as replaced
use Rattle.law_renamed_workspaces.proofs.RenamedMembersNameTokens.{IsNamedIn, field_name, function_name}
use Rattle.law_renamed_workspaces.proofs.NewNames.{name_stands}
use Rattle.law_renamed_workspaces.specs.ScopeRenames.{NamesApartStay}
use Rattle.law_renamed_workspaces.specs.NamesAfterwards.{IsMember, IsCalledAfter, gets_name, keeps_name}
use Rattle.law_renamed_workspaces.specs.NamesAfterwards.{NamesMember, IsFieldCalled, IsMethodCalled, spelled_there}
use Rattle.law_renamed_workspaces.specs.NamesAfterwards.{MembersAreCalled, FieldNamesAfter, MethodNamesAfter}

no_predeclared : (m : Member) (n : ℕ) → declaration_of m ≡ Predeclared n → ⊥
no_predeclared (AField s t) n e = cc
no_predeclared (AMethod s p g) n e = cc
no_predeclared (ABrokenMethod s) n e = cc

pub used_is_member : (x : Package) (u : ℕ) (e : Declaration) → BindsByMember x u e → IsMember e
used_is_member x u (Predeclared n) b = absurd (no_predeclared b.member n b.declares)
used_is_member x u (Declared path n) b = absurd (not_declared b.member path n b.declares)
used_is_member x u (Field s) b = tt
used_is_member x u (Method s) b = tt

pub declared_is_member : (x : Package) (u : ℕ) (e : Declaration) → DeclaresMember x u e → IsMember e
declared_is_member x u (Predeclared n) b = absurd b
declared_is_member x u (Declared path n) b = absurd b
declared_is_member x u (Field s) b = tt
declared_is_member x u (Method s) b = tt

-- a member is called one way
pub one_called : (set : List Declaration) (name : List ℕ) (e : Declaration) (old a b : List ℕ) → IsCalledAfter set name e old a →
    IsCalledAfter set name e old b → a ≡ b
one_called set name e old a b (gets_name x p) (gets_name y q) = p ∙ sym q
one_called set name e old a b (gets_name x p) (keeps_name y q) = absurd (y x)
one_called set name e old a b (keeps_name x p) (gets_name y q) = absurd (x y)
one_called set name e old a b (keeps_name x p) (keeps_name y q) = p ∙ sym q

named_token : (o : Option Piece) → IsNameToken o → (t : Piece) × ((o ≡ Some t) × (t.class ≡ Name))
named_token None h = absurd h
named_token (Some t) h = (t, (refl, h))

pub file_at : (o : Option SourceFile) (i : ℕ) (path : List ℕ) (offset : ℕ) → NameBegins o i path offset → (s : SourceFile) × (o ≡ Some s)
file_at None i path offset h = absurd h
file_at (Some s) i path offset h = (s, refl)

module _ (w : Workspace) (known : Verdicts) (d : Declaration) (name : List ℕ) (s : FileChanges) (h : IsPlainRename w known d name s) (x : Package)
    (is : IsCheckedPackage w known x) where
  abbrev r : Revision
  r = revision_of w s

  -- the name at a token, before and after
  module _ (at : Position) (place : Place) (token : IsToken x at place) where
    abbrev f : SourceFile
    f = token.file

    abbrev i : ℕ
    i = at.index

    abbrev old : List ℕ
    old = spelled x at.file at.index

    abbrev edits : List Edit
    edits = replaced.edits w known d name s h x is at.file f token.of_rank

    abbrev IsReplaced : Type 0
    IsReplaced = replaced.IsReplaced w known d name s h x is at.file f token.of_rank i

    begins : TokenBegins (Some f) i place
    begins = subst (λ o. TokenBegins o i place) token.of_rank token.begins

    place_here : record { path = f.path; offset = offset_of f i } ≡ place
    place_here = place_is (record { path = f.path; offset = offset_of f i }) place begins.0 begins.1

    spelling : old ≡ spelling_of f i
    spelling = ap (λ o. spelled_at o i) token.of_rank

    as_spelled : r.called place old ≡ spelling_of (renamed_file edits f) i
    as_spelled =
        ap (λ (y : Place). new_name_at s y old) (sym place_here)
        ∙ ap (λ m. text_or m (find (replaces_at (offset_of f i)) edits)) spelling
        ∙ sym (replaced.called w known d name s h x is at.file f token.of_rank i token.is_name)

    name_kept : (IsReplaced → ⊥) → r.called place old ≡ old
    name_kept none = as_spelled ∙ replaced.old_spelled w known d name s h x is at.file f token.of_rank i none ∙ sym spelling

    name_new : IsReplaced → r.called place old ≡ name
    name_new k = as_spelled ∙ replaced.new_spelled w known d name s h x is at.file f token.of_rank i k

    -- an identifier stands there

    named_begins : NameBegins (slice_get x.files at.file) i place.path place.offset
    named_begins = subst (λ o. NameBegins o i place.path place.offset) (sym token.of_rank) (token.is_name, begins.0, begins.1)

    begins_at : (u : ℕ) → u < x.size → LiesAt x.layout at u → BeginsAt x place.path place.offset u
    begins_at u lt stands = (
      (lt, stands.0),
      subst (λ k. NameBegins (slice_get x.files k) (x.layout.place u).index place.path place.offset) (sym stands.1)
          (subst (λ n. NameBegins (slice_get x.files at.file) n place.path place.offset) (sym stands.2) named_begins),
    )

    -- if it is bound to a renamed member, it is replaced
    bound_replaced : (u : ℕ) → u < x.size → LiesAt x.layout at u → (m : Declaration) → Contains h.rename.set m → IsBoundToDeclaration w known x u m → IsReplaced
    bound_replaced u lt stands m in_set bound =
        let t = named_token (slice_get (tokens_in f.cut) i) token.is_name in
        let one : IsUseOf w known m place = record { used_in = x; is_package = is; user = u; begins = begins_at u lt stands; bound = bound } in
        let among = (h.rename.edits.is_renamed.uses.each place).1 (record { declaration = m; among = in_set; is_use = one }) in
        let start : offset_of f i ≡ t.0.span.start = ap (offset_at f.cut.text) t.1.0 in
        let here : place ≡ record { path = f.path; offset = t.0.span.start } =
        sym place_here ∙ ap (λ n. record { path = f.path; offset = n }) start in
        let e : Edit = record { span = t.0.span; text = (renamed w known d name s h).name } in
        let k : RenamesToken f (renamed w known d name s h) i e = record {
          token = t.0;
          at = t.1.0;
          is_name = t.1.1;
          among = subst (Contains (renamed w known d name s h).places) here among;
          is_edit = refl;
        } in
        record {
          edit = e;
          among = ((h.rename.edits.edits.each f (replaced.source w known d name s h x is at.file f token.of_rank)).each e).1 (i, inr k);
          token = replaced_token w known d name s h f i e k;
        }

    -- each identifier there is bound to the member `e`
    abbrev AreBound : Declaration → Type 0
    AreBound e = (u : ℕ) → u < x.size → LiesAt x.layout at u → (IsBoundToDeclaration w known x u e → ⊥) → ⊥

    called_after : (e : Declaration) → IsMember e → AreBound e → IsCalledAfter h.rename.set name e old (r.called place old)
    called_after e member bound = elim (replaced.replaced_or_not w known d name s h x is at.file f token.of_rank i) [
      | inl k ↦
          (let t = replaced.token_bound w known d name s h x is at.file f token.of_rank i k in
          gets_name (elim (same_or_other e t.declaration member) [
            | inl same ↦ subst (Contains h.rename.set) (sym same) t.among
            | inr other ↦ absurd (bound t.identifier t.inside.0 t.stands
                (λ b. other (one_declaration w known x is t.identifier t.inside e t.declaration b t.bound)))
          ]) (name_new k))
      | inr none ↦ keeps_name
          (λ in_set.
          let u = name_at_token w known x.path x is.is_checked at place named_begins in
          bound u.0 u.1.0.0.0 u.1.1 (λ b. none (bound_replaced u.0 u.1.0.0.0 u.1.1 e in_set b)))
          (name_kept none)
    ]

  -- members by rank

  no_member_fault : (f : Fault) → IsMemberFault x f → ⊥
  no_member_fault f k =
      no_fault_later w h.rename.sound known h.rename.right x is f
      (inr ((λ g inner. no_fault_later w h.rename.sound known h.rename.right x is g (inl inner)), inl k))

  field_bound : (rank : ℕ) (f : PlacedField) → slice_get (package_fields x) rank ≡ Some f → (u : ℕ) → u < x.size → LiesAt x.layout (field_place f) u →
      (IsBoundToDeclaration w known x u (Field (symbol_in x rank)) → ⊥) → ⊥
  field_bound rank f has u lt stands none =
      no_member_fault (record { file = f.file; token = f.name; kind = kind.Repeated })
      (inl (record {
        definition = f.definition;
        name = spelled x f.file f.name;
        rank = rank;
        field = f;
        is_field = record { has_rank = has; of_struct = refl; named = refl };
        displaced =
            (λ counting. none (by_name (
              refl,
              record {
                at = field_place f;
                is_at = record {
                  counts = record { definition = f.definition; name = spelled x f.file f.name; field = f; counting = counting };
                  named_at = refl;
                };
                stands = stands;
              },
            )));
        at = refl;
      }))

  method_bound : (definition rank : ℕ) (m : List ℕ) (f : PlacedFunction) → IsMethodOf x definition m rank f → (u : ℕ) → u < x.size →
      LiesAt x.layout (function_place f) u → (IsBoundToDeclaration w known x u (Method (symbol_in x rank)) → ⊥) → ⊥
  method_bound definition rank m f own u lt stands none =
      no_member_fault (record { file = f.file; token = f.function.name; kind = kind.Repeated })
      (inr (inl (record {
        definition = definition;
        name = m;
        rank = rank;
        method = f;
        is_method = own;
        displaced =
            (λ counting. none (by_name (
              refl,
              record {
                at = function_place f;
                is_at = record { counts = record { definition = definition; name = m; method = f; counting = counting }; named_at = refl };
                stands = stands;
              },
            )));
        at = refl;
      })))

  -- the name after the change of the member that is named at the position
  after_called : (at : Position) → IsNamedIn x at.file at.index → (e : Declaration) → IsMember e →
      ((u : ℕ) → u < x.size → LiesAt x.layout at u → (IsBoundToDeclaration w known x u e → ⊥) → ⊥) → (m : List ℕ) →
      HasNameAfter r x at m ↔ IsCalledAfter h.rename.set name e (spelled x at.file at.index) m
  after_called at named e member bound m = (
    (λ k.
        let there = (name_stands w known x is at named).stands in
        subst (IsCalledAfter h.rename.set name e (spelled x at.file at.index)) k.called
        (called_after at k.place (record { file = there.file; of_rank = there.of_rank; is_name = there.is_name; begins = k.stands }) e member bound)),
    (λ c.
        let y = name_stands w known x is at named in
        record {
          place = y.place;
          stands = y.stands.begins;
          called =
              one_called h.rename.set name e (spelled x at.file at.index) (r.called y.place (spelled x at.file at.index)) m
              (called_after at y.place y.stands e member bound) c;
        }),
  )

  field_called : (rank : ℕ) (f : PlacedField) → slice_get (package_fields x) rank ≡ Some f → (other : List ℕ) →
      HasNameAfter r x (field_place f) other ↔ IsCalledAfter h.rename.set name (Field (symbol_in x rank)) (spelled x f.file f.name) other
  field_called rank f has other =
      after_called (field_place f) (field_name x rank f has) (Field (symbol_in x rank)) tt (field_bound rank f has) other

  field_after : (definition : ℕ) (other : List ℕ) (rank : ℕ) → IsFieldAfter r x definition other rank ↔ IsFieldCalled h.rename.set name x definition other rank
  field_after definition other rank = (
    (λ k. record {
      field = k.field;
      has_rank = k.has_rank;
      of_struct = k.of_struct;
      called =
          (field_called rank k.field k.has_rank other).0 k.called;
    }),
    (λ k. record {
      field = k.field;
      has_rank = k.has_rank;
      of_struct = k.of_struct;
      called =
          (field_called rank k.field k.has_rank other).1 k.called;
    }),
  )

  -- a function with an owner is a method of its name
  pub owned : (definition rank : ℕ) (f : PlacedFunction) → slice_get (package_functions x) rank ≡ Some f → IsOwner x f definition →
      IsMethodOf x definition (spelled x f.file f.function.name) rank f
  owned definition rank f has o = record {
    has_rank = has;
    receiver = o.receiver;
    received = o.received;
    declaration = o.declaration;
    binds = o.binds;
    of_type = o.of_type;
    named = refl;
  }

  method_called : (definition : ℕ) (other : List ℕ) (rank : ℕ) (f : PlacedFunction) → slice_get (package_functions x) rank ≡ Some f →
      IsOwner x f definition →
      HasNameAfter r x (function_place f) other ↔ IsCalledAfter h.rename.set name (Method (symbol_in x rank)) (spelled x f.file f.function.name) other
  method_called definition other rank f has o =
      after_called (function_place f) (function_name x rank f has) (Method (symbol_in x rank)) tt
      (method_bound definition rank (spelled x f.file f.function.name) f (owned definition rank f has o)) other

  method_after : (definition : ℕ) (other : List ℕ) (rank : ℕ) → IsMethodAfter r x definition other rank ↔ IsMethodCalled h.rename.set name x definition
      other rank
  method_after definition other rank = (
    (λ k. record {
      method = k.method;
      has_rank = k.has_rank;
      of_type = k.of_type;
      called = (method_called definition other rank k.method k.has_rank k.of_type).0 k.called;
    }),
    (λ k. record {
      method = k.method;
      has_rank = k.has_rank;
      of_type = k.of_type;
      called = (method_called definition other rank k.method k.has_rank k.of_type).1 k.called;
    }),
  )

  -- an identifier that names a member

  module _ (u : ℕ) (place : Place) (begun : BeginsAt x place.path place.offset u) where
    pub token_at : IsToken x (x.layout.place u) place
    token_at =
        let i = (x.layout.place u).index in
        let f = file_at (file_of x u) i place.path place.offset begun.1 in
        let there : NameBegins (Some f.0) i place.path place.offset = subst (λ o. NameBegins o i place.path place.offset) f.1 begun.1 in
        record {
          file = f.0;
          of_rank = f.1;
          is_name = there.0;
          begins = subst (λ o. TokenBegins o i place) (sym f.1) (there.1, there.2);
        }

    member_bound : (e : Declaration) → NamesMember x u e → IsBoundToDeclaration w known x u e
    member_bound e n = elim n [ inl b ↦ by_member b | inr b ↦ by_name b ]

    names_member : (e : Declaration) → NamesMember x u e → IsMember e
    names_member e n = elim n [ inl b ↦ used_is_member x u e b | inr b ↦ declared_is_member x u e b ]

    identifier_called : (e : Declaration) → NamesMember x u e → IsCalledAfter h.rename.set name e (spelled_there x u) (r.called place (spelled_there x u))
    identifier_called e n =
        called_after (x.layout.place u) place token_at e (names_member e n)
        (λ v lt stands none. none (subst (λ k. IsBoundToDeclaration w known x k e)
        (sym (one_begins w known x.path x is.is_checked place.path place.offset v u (begins_at (x.layout.place u) place token_at v lt stands) begun))
        (member_bound e n)))

pub identifiers : MembersAreCalled
identifiers w known d name s h x is u place begun e n = identifier_called w known d name s h x is u place begun e n

pub fields : FieldNamesAfter
fields w known d name s h x is definition other rank = field_after w known d name s h x is definition other rank

pub methods : MethodNamesAfter
methods w known d name s h x is definition other rank = method_after w known d name s h x is definition other rank

pub names : NamesApartStay
names w known d name s h x is at place token apart =
    name_kept w known d name s h x is at place token
    (λ k.
    let t = replaced.token_bound w known d name s h x is at.file token.file token.of_rank at.index k in
    apart t.declaration t.among t.identifier t.inside.0 t.stands t.bound)
