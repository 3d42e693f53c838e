-- The fields and methods of a package after a rename are built from the old ones: each stands under its new name.
use Rattle.std.proofs.Common.{ℕ, ◌≡◌, ◌⊎◌, inl, inr, List, length, ap, refl, sym, subst, ◌∙◌, arith}
use Rattle.std.specs.Prelude.{Option, Some, None, slice_get, option_map}
use Rattle.std.proofs.Math.Path.{ap₂}
use Rattle.std.proofs.lemmas.Bool.{cases_eq, cases_lt}
use Rattle.std.proofs.lemmas.Option.{none-some, same_Some, slice_get_within}
use Rattle.base_edits.specs.Revisions.{Revision}
use Rattle.base_files.specs.Workspace.{Workspace}
use Rattle.base_files.specs.declared.fault_kind.FaultKind.TheVariants as kind
use Rattle.base_files.specs.declared.place.Place.{Place}
use Rattle.go_ast.specs.Tree.{ReceiverTree}
use Rattle.go_ast.specs.SourceFile.{SourceFile}
use Rattle.go_scope.specs.WellFormed.{WellFormed}
use Rattle.go_scope.specs.declared.model.Position.{Position}
use Rattle.types_expr.specs.Types.{Defined, Underlying, Signature}
use Rattle.types_expr.specs.Types.{Struct as StructOf}
use Rattle.types_expr.specs.World.{Definition, Field, Method}
use Rattle.types_expr.specs.declared.symbol.Symbol.{Symbol}
use Rattle.types_declared.specs.declared.fault.Fault.{Fault}
use Rattle.types_declared.specs.Definitions.{HasUnderlying, PlacedField, package_fields, IsFieldOf}
use Rattle.types_declared.specs.Definitions.{IsCountingField, IsMethodOf, is_on_pointer, IsCountingMethod}
use Rattle.types_declared.specs.Definitions.{IsFoundField, IsFoundSignature, IsFoundMethod, IsUnderlyingOf, has, has_none, IsDefinition, HasForm}
use Rattle.types_declared.specs.Package.{Package, PlacedFunction, package_types, package_functions, function_place, type_place, symbol_in, spelled}
use Rattle.types_declared.specs.Written.{BindsToken, DeclaresType}
use Rattle.types_declared.proofs.ByteKeys.{cases_bytes}
use Rattle.types_declared.proofs.Naming.{one_binding}
use Rattle.types_declared.proofs.Ranking.{one_rank}
use Rattle.types_members.specs.MemberFaults.{IsMemberFault}
use Rattle.types_members.specs.MethodsView.{IsOwner}
use Rattle.workspace_check.specs.Verdicts.{Verdicts}
use Rattle.workspace_check.proofs.OnePackage.{layout_formed}
use Rattle.refs_binding.specs.Binding.{field_place}
use Rattle.refs_binding.specs.DeclaringPlaces.{TokenBegins}
use Rattle.refs_binding.specs.Uses.{IsCheckedPackage}
use Rattle.refactor_conflict.specs.NamesAfter.{HasNameAfter, IsFieldAfter, IsMethodAfter}
use Rattle.law_faultless.proofs.Deciding.{Decided, some}
use Rattle.law_faultless.proofs.TypesDecided.{token_bound, rank}
use Rattle.law_changed_types.proofs.Alike.{Alike, turned}
use Rattle.law_changed_types.proofs.Types.{has_underlying}
use Rattle.law_renamed_workspaces.specs.Layouts.{IsRelaid}
use Rattle.law_renamed_workspaces.specs.MovedExports.{field_called, method_called}
use Rattle.law_renamed_workspaces.proofs.CountingMembers as counting
use Rattle.law_renamed_workspaces.proofs.DefinitionsAfter.{field_form_stays, signature}
use Rattle.law_renamed_workspaces.proofs.RenamedMembersNameTokens.{IsNamedIn, field_name, function_name}
use Rattle.law_renamed_workspaces.proofs.NewNames.{name_stands}

-- a token begins at one place
pub one_place : (o : Option SourceFile) (n : ℕ) (a b : Place) → TokenBegins o n a → TokenBegins o n b → b ≡ a
one_place None n a b h k = absurd h
one_place (Some f) n a b h k =
    let at : List ℕ → ℕ → Place = λ path offset. record { path = path; offset = offset } in ap₂ at (sym k.0 ∙ h.0) (sym k.1 ∙ h.1)

-- In a package without faults of members each field and each method counts.

pub field_counts : (p : Package) → ((f : Fault) → IsMemberFault p f → ⊥) → (d rank : ℕ) (name : List ℕ) (f : PlacedField) → IsFieldOf p d name rank f →
    IsCountingField p d name rank f
field_counts p fine d rank name f h = record {
  is_field = h;
  first = λ other g lt k.
      fine (record { file = f.file; token = f.name; kind = kind.Repeated })
      (inl (record { definition = d; name = name; rank = rank; field = f; is_field = h; displaced = λ c. c.first other g lt k; at = refl }));
}

pub method_counts : (p : Package) → ((f : Fault) → IsMemberFault p f → ⊥) → (d rank : ℕ) (name : List ℕ) (f : PlacedFunction) →
    IsMethodOf p d name rank f → IsCountingMethod p d name rank f
method_counts p fine d rank name f h = record {
  is_method = h;
  no_field = λ k. repeated (λ c. c.no_field k);
  first = λ other g lt k. repeated (λ c. c.first other g lt k);
}
  where
    repeated : (IsCountingMethod p d name rank f → ⊥) → ⊥
    repeated displaced =
        fine (record { file = f.file; token = f.function.name; kind = kind.Repeated })
        (inr (inl (record { definition = d; name = name; rank = rank; method = f; is_method = h; displaced = displaced; at = refl })))

-- one of a name counts

pub one_field : (p : Package) (d m n : ℕ) (name : List ℕ) (f g : PlacedField) → IsCountingField p d name m f → IsCountingField p d name n g → m ≡ n
one_field p d m n name f g a b = elim (cases_lt m n) [
  | inl lt ↦ absurd (b.first m f lt a.is_field)
  | inr ge ↦ elim (cases_lt n m) [ inl less ↦ absurd (a.first n g less b.is_field) | inr more ↦ omega arith ]
]

pub one_method : (p : Package) (d m n : ℕ) (name : List ℕ) (f g : PlacedFunction) → IsCountingMethod p d name m f → IsCountingMethod p d name n g → m ≡ n
one_method p d m n name f g a b = elim (cases_lt m n) [
  | inl lt ↦ absurd (b.first m f lt a.is_method)
  | inr ge ↦ elim (cases_lt n m) [ inl less ↦ absurd (a.first n g less b.is_method) | inr more ↦ omega arith ]
]

module _ (w : Workspace) (before : Verdicts) (r : Revision) (p : Package) (is : IsCheckedPackage w before p) where
  formed : WellFormed p.layout
  formed = layout_formed w before p.path p is.is_checked

  -- whether a member has a name after the change is decided

  named_or_not : (at : Position) → IsNamedIn p at.file at.index → (name : List ℕ) → Decided (HasNameAfter r p at name)
  named_or_not at h name =
      let x = name_stands w before p is at h in
      elim (cases_bytes (r.called x.place (spelled p at.file at.index)) name) [
        | inl called ↦ inl (record { place = x.place; stands = x.stands.begins; called = called })
        | inr other ↦ inr (λ k.
            let same : k.place ≡ x.place = one_place (slice_get p.files at.file) at.index x.place k.place x.stands.begins k.stands in
            other (ap (λ place. r.called place (spelled p at.file at.index)) (sym same) ∙ k.called))
      ]

  field_or_not : (d : ℕ) (name : List ℕ) (rank : ℕ) → Decided (IsFieldAfter r p d name rank)
  field_or_not d name rank = by_item (slice_get (package_fields p) rank) refl
    where
      by_item : (o : Option PlacedField) → slice_get (package_fields p) rank ≡ o → Decided (IsFieldAfter r p d name rank)
      by_item None e = inr (λ h. none-some h.field (sym e ∙ h.has_rank))
      by_item (Some f) e = elim (cases_eq f.definition d) [
        | inr other ↦ inr (λ h.
            other (ap (λ (x : PlacedField). x.definition) (same_Some f h.field (sym e ∙ h.has_rank)) ∙ h.of_struct))
        | inl own ↦ elim (named_or_not (field_place f) (field_name p rank f e) name) [
          | inl called ↦ inl (record { field = f; has_rank = e; of_struct = own; called = called })
          | inr other ↦ inr (λ h. other (subst (λ x. HasNameAfter r p (field_place x) name) (same_Some h.field f (sym h.has_rank ∙ e)) h.called))
        ]
      ]

  owner_or_not : (f : PlacedFunction) (d : ℕ) → Decided (IsOwner p f d)
  owner_or_not f d = by_receiver f.function.receiver refl
    where
      by_receiver : (o : Option ReceiverTree) → f.function.receiver ≡ o → Decided (IsOwner p f d)
      by_receiver None e = inr (λ h. none-some h.receiver (sym e ∙ h.received))
      by_receiver (Some t) e = elim (token_bound p formed f.file t.type_name) [
        | inr none ↦ inr (λ h. none h.declaration (binds_too h))
        | inl b ↦ elim (rank p formed type_place (package_types p) b.0) [
          | inr none ↦ inr (λ h. none d (declares_too b.0 b.1 h))
          | inl k ↦ elim (cases_eq k.0 d) [
            | inl same ↦ inl (record {
              receiver = t;
              received = e;
              declaration = b.0;
              binds = b.1;
              of_type = subst (DeclaresType p b.0) same k.1;
            })
            | inr other ↦ inr (λ h. other (one_rank type_place (package_types p) p.layout b.0 k.0 d k.1 (declares_too b.0 b.1 h)))
          ]
        ]
      ]
        where
          binds_too : (h : IsOwner p f d) → BindsToken p f.file t.type_name h.declaration
          binds_too h =
              subst (λ (z : ReceiverTree). BindsToken p f.file z.type_name h.declaration) (same_Some h.receiver t (sym h.received ∙ e)) h.binds

          declares_too : (b : ℕ) → BindsToken p f.file t.type_name b → IsOwner p f d → DeclaresType p b d
          declares_too b binds h =
              subst (λ x. DeclaresType p x d) (one_binding p formed f.file t.type_name h.declaration b (binds_too h) binds) h.of_type

  method_or_not : (d : ℕ) (name : List ℕ) (rank : ℕ) → Decided (IsMethodAfter r p d name rank)
  method_or_not d name rank = by_item (slice_get (package_functions p) rank) refl
    where
      by_item : (o : Option PlacedFunction) → slice_get (package_functions p) rank ≡ o → Decided (IsMethodAfter r p d name rank)
      by_item None e = inr (λ h. none-some h.method (sym e ∙ h.has_rank))
      by_item (Some f) e = elim (owner_or_not f d) [
        | inr other ↦ inr (λ h. other (subst (λ x. IsOwner p x d) (same_Some h.method f (sym h.has_rank ∙ e)) h.of_type))
        | inl own ↦ elim (named_or_not (function_place f) (function_name p rank f e) name) [
          | inl called ↦ inl (record { method = f; has_rank = e; of_type = own; called = called })
          | inr other ↦ inr (λ h. other (subst (λ x. HasNameAfter r p (function_place x) name) (same_Some h.method f (sym h.has_rank ∙ e)) h.called))
        ]
      ]

  -- some member has the name, or none

  abbrev pub SomeField : (d : ℕ) (name : List ℕ) → Type 0
  SomeField d name = ((k : ℕ) × IsFieldAfter r p d name k) ⊎ ((k : ℕ) → IsFieldAfter r p d name k → ⊥)

  abbrev pub SomeMethod : (d : ℕ) (name : List ℕ) → Type 0
  SomeMethod d name = ((k : ℕ) × IsMethodAfter r p d name k) ⊎ ((k : ℕ) → IsMethodAfter r p d name k → ⊥)

  pub find_field : (d : ℕ) (name : List ℕ) → SomeField d name
  find_field d name =
      some (IsFieldAfter r p d name) (field_or_not d name) (length (package_fields p))
      (λ k h. slice_get_within (package_fields p) k h.field h.has_rank)

  pub find_method : (d : ℕ) (name : List ℕ) → SomeMethod d name
  find_method d name =
      some (IsMethodAfter r p d name) (method_or_not d name) (length (package_functions p))
      (λ k h. slice_get_within (package_functions p) k h.method h.has_rank)

  -- The field or method under the new name is that under the old one.

  abbrev pub field_by : (a : Definition) (d : ℕ) (name : List ℕ) → SomeField d name → Option Field
  field_by a d name (inl h) = option_map (field_called name) (a.field (spelled p h.1.field.file h.1.field.name))
  field_by a d name (inr none) = None

  abbrev pub method_by : (a : Definition) (d : ℕ) (name : List ℕ) → SomeMethod d name → Option Method
  method_by a d name (inl h) = option_map (method_called name) (a.method (spelled p h.1.method.file h.1.method.function.name))
  method_by a d name (inr none) = None

  abbrev pub new_definition : (a : Definition) (d : ℕ) → Definition
  new_definition a d = record {
    underlying = a.underlying;
    field = λ name. field_by a d name (find_field d name);
    method = λ name. method_by a d name (find_method d name);
  }

  -- That is the definition in the package after the change, where neither package has faults of members.

  module _ (q : Package) (relaid : IsRelaid r p q) (alike : Alike p q) (fine : (f : Fault) → IsMemberFault p f → ⊥)
      (fine_now : (f : Fault) → IsMemberFault q f → ⊥) where
    back : Alike q p
    back = turned p q alike

    own_symbol : (n : ℕ) → symbol_in p n ≡ symbol_in q n
    own_symbol n = ap (λ (path : List ℕ). record { «package» = path; rank = n }) (sym relaid.path)

    -- a field

    module _ (d k : ℕ) (name : List ℕ) (h : IsFieldAfter r p d name k) where
      abbrev f : PlacedField
      f = h.field

      abbrev old : List ℕ
      old = spelled p f.file f.name

      was_counting : IsCountingField p d old k f
      was_counting = field_counts p fine d k old f (record { has_rank = h.has_rank; of_struct = h.of_struct; named = refl })

      now_counting : IsCountingField q d name k f
      now_counting =
          let g = (counting.field_after w before r p q is relaid d name k).0 h in
          let at = counting.field_before w before r p q is relaid k g.0 g.1.has_rank in
          field_counts q fine_now d k name f (subst (IsFieldOf q d name k) (same_Some g.0 f (sym at ∙ h.has_rank)) g.1)

      same_field : (g : PlacedField) → slice_get (package_fields p) k ≡ Some g → g ≡ f
      same_field g at = same_Some g f (sym at ∙ h.has_rank)

      carried_field : (o : Option Field) → IsFoundField p d old o → IsFoundField q d name (option_map (field_called name) o)
      carried_field None none = λ n g t c typed.
          let one : n ≡ k = one_field q d n k name g f c now_counting in
          let at = counting.field_before w before r p q is relaid k g (subst (λ m. slice_get (package_fields q) m ≡ Some g) one c.is_field.has_rank) in
          let here : HasForm q f.file f.form t = subst (λ (z : PlacedField). HasForm q z.file z.form t) (same_field g at) typed in
          none k f t was_counting (field_form_stays q p back k f (counting.field_behind w before r p q is relaid k f h.has_rank) t here)
      carried_field (Some x) found =
          let one : x.symbol.rank ≡ k = one_field p d x.symbol.rank k old found.0 f found.1.0 was_counting in
          let at : slice_get (package_fields p) k ≡ Some found.0 =
          subst (λ m. slice_get (package_fields p) m ≡ Some found.0) one found.1.0.is_field.has_rank in
          let there : HasForm p f.file f.form x.form =
          subst (λ (z : PlacedField). HasForm p z.file z.form x.form) (same_field found.0 at) found.1.1 in (
            f,
            (
              subst (λ m. IsCountingField q d name m f) (sym one) now_counting,
              field_form_stays p q alike k f h.has_rank x.form there,
              found.1.2 ∙ own_symbol x.symbol.rank,
              refl,
            ),
          )

    found_field : (a : Definition) (d : ℕ) → IsDefinition p d a → (name : List ℕ) (o : SomeField d name) → IsFoundField q d name (field_by a d name o)
    found_field a d def name (inl h) =
        carried_field d h.0 name h.1 (a.field (spelled p h.1.field.file h.1.field.name)) (def.fields (spelled p h.1.field.file h.1.field.name))
    found_field a d def name (inr none) = λ n f t c typed. none n ((counting.field_after w before r p q is relaid d name n).1 (f, c.is_field))

    -- a method

    signature_there : (k : ℕ) (f : PlacedFunction) → slice_get (package_functions p) k ≡ Some f → (o : Option Signature) → IsFoundSignature p f o →
        IsFoundSignature q f o
    signature_there k f at None none = λ s h. none s (signature q p back k f (counting.function_behind w before r p q is relaid k f at) s h)
    signature_there k f at (Some s) h = signature p q alike k f at s h

    module _ (d k : ℕ) (name : List ℕ) (h : IsMethodAfter r p d name k) where
      abbrev called : PlacedFunction
      called = h.method

      abbrev old_name : List ℕ
      old_name = spelled p called.file called.function.name

      was_method : IsCountingMethod p d old_name k called
      was_method =
          method_counts p fine d k old_name called (record {
            has_rank = h.has_rank;
            receiver = h.of_type.receiver;
            received = h.of_type.received;
            declaration = h.of_type.declaration;
            binds = h.of_type.binds;
            of_type = h.of_type.of_type;
            named = refl;
          })

      now_method : IsCountingMethod q d name k called
      now_method =
          let g = (counting.method_after w before r p q is relaid alike d name k).0 h in
          let at = counting.function_before w before r p q is relaid k g.0 g.1.has_rank in
          method_counts q fine_now d k name called (subst (IsMethodOf q d name k) (same_Some g.0 called (sym at ∙ h.has_rank)) g.1)

      same_function : (g : PlacedFunction) → slice_get (package_functions p) k ≡ Some g → g ≡ called
      same_function g at = same_Some g called (sym at ∙ h.has_rank)

      carried_method : (o : Option Method) → IsFoundMethod p d old_name o → IsFoundMethod q d name (option_map (method_called name) o)
      carried_method None none = λ n g c. none k called was_method
      carried_method (Some x) found =
          let one : x.symbol.rank ≡ k = one_method p d x.symbol.rank k old_name found.0 called found.1 was_method in
          let at : slice_get (package_functions p) k ≡ Some found.0 =
          subst (λ m. slice_get (package_functions p) m ≡ Some found.0) one found.1.is_method.has_rank in
          let now : IsCountingMethod q d name x.symbol.rank called = subst (λ m. IsCountingMethod q d name m called) (sym one) now_method in
          let there : IsFoundSignature p called x.signature = subst (λ z. IsFoundSignature p z x.signature) (same_function found.0 at) found.2 in
          let received : called.function.receiver ≡ Some found.1.is_method.receiver =
          subst (λ (z : PlacedFunction). z.function.receiver ≡ Some found.1.is_method.receiver) (same_function found.0 at) found.1.is_method.received in
          let receivers : found.1.is_method.receiver ≡ now.is_method.receiver =
          same_Some found.1.is_method.receiver now.is_method.receiver (sym received ∙ now.is_method.received) in (
            called,
            now,
            signature_there k called h.has_rank x.signature there,
            found.3 ∙ ap is_on_pointer receivers,
            found.4 ∙ own_symbol x.symbol.rank,
            refl,
          )

    found_method : (a : Definition) (d : ℕ) → IsDefinition p d a → (name : List ℕ) (o : SomeMethod d name) → IsFoundMethod q d name (method_by a d name o)
    found_method a d def name (inl h) =
        carried_method d h.0 name h.1 (a.method (spelled p h.1.method.file h.1.method.function.name))
        (def.methods (spelled p h.1.method.file h.1.method.function.name))
    found_method a d def name (inr none) = λ n f c. none n ((counting.method_after w before r p q is relaid alike d name n).1 (f, c.is_method))

    -- an underlying type

    underlying_now : (n : ℕ) (u : Underlying) → HasUnderlying p (Defined (symbol_in p n)) u → HasUnderlying q (Defined (symbol_in q n)) u
    underlying_now n u h =
        subst (λ (x : Symbol). HasUnderlying q (Defined x) u) (own_symbol n) (has_underlying p q alike (Defined (symbol_in p n)) u h)

    underlying_then : (n : ℕ) (u : Underlying) → HasUnderlying q (Defined (symbol_in q n)) u → HasUnderlying p (Defined (symbol_in p n)) u
    underlying_then n u h =
        has_underlying q p back (Defined (symbol_in p n)) u (subst (λ (x : Symbol). HasUnderlying q (Defined x) u) (sym (own_symbol n)) h)

    underlying_of : (n : ℕ) (u : Underlying) → IsUnderlyingOf p n u → IsUnderlyingOf q n u
    underlying_of n u (has h) = has (underlying_now n u h)
    underlying_of n _ (has_none none) =
        subst (λ (x : Symbol). IsUnderlyingOf q n (StructOf x)) (sym (own_symbol n)) (has_none (λ u h. none u (underlying_then n u h)))

    pub is_new_definition : (a : Definition) (d : ℕ) → IsDefinition p d a → IsDefinition q d (new_definition a d)
    is_new_definition a d def = record {
      underlying = underlying_of d a.underlying def.underlying;
      fields = λ name. found_field a d def name (find_field d name);
      methods = λ name. found_method a d def name (find_method d name);
    }
