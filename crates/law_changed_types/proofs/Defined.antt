-- Definitions of a moved package: their fields and methods.
use Rattle.std.proofs.Common.{ℕ, suc, ◌≡◌, List, [], ◌∷◌, map, Option, Some, None, option_map, refl, sym, ap, ◌∙◌, subst}
use Rattle.std.specs.Prelude.{All, slice_get}
use Rattle.std.proofs.lemmas.List.Elements.{All-nil, All-head, All-tail, All-append, All-map, recursion_from_All}
use Rattle.go_ast.specs.Tree.{Item, FieldTree, MethodTree, BodyTree, Other, ParamTree, ResultTree}
use Rattle.go_ast.specs.Tree as tree
use Rattle.law_tokens.proofs.Elements.{all_got}
use Rattle.types_expr.specs.declared.symbol.Symbol.{Symbol}
use Rattle.types_expr.specs.Types.{Defined, Underlying, Signature, WrittenAs, AFieldOf, AMethodOf}
use Rattle.types_expr.specs.Types.{Struct as StructOf}
use Rattle.types_expr.specs.World.{Definition, Field, Method}
use Rattle.types_declared.specs.Package.{Package, PlacedType, PlacedFunction, package_types, package_functions, symbol_in}
use Rattle.types_declared.specs.Written.{written_types, signature_types}
use Rattle.types_declared.specs.Definitions.{HasUnderlying, PlacedField, body_fields, fields_from, package_fields, IsFieldOf, IsCountingField, IsMethodOf}
use Rattle.types_declared.specs.Definitions.{HasFieldNamed, of_own, of_imported, IsCountingMethod, IsFoundField, IsFoundSignature, IsFoundMethod}
use Rattle.types_declared.specs.Definitions.{IsUnderlyingOf, has, has_none, IsDefinition, WrittenForm, OfType, OfSignature, OfForm, HasForm}
use Rattle.law_changed_types.specs.SameBindings.{IsDotted}
use Rattle.law_changed_types.proofs.Alike.{got_by}
use Rattle.law_changed_types.proofs.Parts.{all_given, all_alike, of_mapped, of_asked, all_of_left, all_of_right, of_parameters}
use Rattle.law_changed_types.specs.Moved.{PathMap, IsInjective, moved_symbol, moved_underlying, moved_signature, moved_form}
use Rattle.law_changed_types.proofs.Moving.{ap2}
use Rattle.law_changed_types.specs.MovedPackage.{IsMovedPackage, moved_field, moved_method, moved_definition}
use Rattle.law_changed_types.proofs.Inversions.{some_back, struct_back}
use Rattle.law_changed_types.proofs.Written.{same_place_types, same_place_functions, dotted, symbols, binds, binds_back, declares_type, declares_type_back}
use Rattle.law_changed_types.proofs.Written.{type_of, type_of_back}
use Rattle.law_changed_types.proofs.Underlying.{other_path, own_symbol, has_underlying, underlying_back}
use Rattle.law_changed_types.proofs.MovedTypesMeanings.{signature_of, signature_back, written_signature, written_signature_back}
use Rattle.types_declared.specs.MeaningOf.{parameter_types, result_types}

-- the types of fields follow dots, where they are qualified

body_dotted : (p : Package) (rank file : ℕ) (b : BodyTree) → All (IsDotted p file) (written_types b) →
    All (λ (f : PlacedField). OfForm (IsDotted p f.file) f.form) (body_fields rank file b)
body_dotted p rank file (Other t) h = All-nil (λ (f : PlacedField). OfForm (IsDotted p f.file) f.form)
body_dotted p rank file (tree.Interface k o ms c) h =
    All-map (λ (f : PlacedField). OfForm (IsDotted p f.file) f.form) (λ (i : Item MethodTree). record {
      definition = rank;
      file = file;
      name = i.value.name;
      form = OfSignature i.value.params i.value.result;
    }) ms (of_asked (IsDotted p file) ms h)
body_dotted p rank file (tree.Struct k o fs c) h =
    let P : PlacedField → Type 0 = λ f. OfForm (IsDotted p f.file) f.form in
    let Q : Item FieldTree → Type 0 = λ i. IsDotted p file i.value.type_use in
    let placed : Item FieldTree → Item ℕ → PlacedField = λ i n.
    record { definition = rank; file = file; name = n.value; form = OfType i.value.type_use } in
    all_given P Q (λ i. map (placed i) i.value.names)
    (λ i d. All-map P (placed i) i.value.names (all_alike (Q i) d i.value.names)) fs
    (of_mapped (IsDotted p file) (λ (i : Item FieldTree). i.value.type_use) fs h)

fields_dotted : (p : Package) (rank : ℕ) (ds : List PlacedType) → All (λ d. All (IsDotted p d.file) (written_types d.spec.body)) ds →
    All (λ (f : PlacedField). OfForm (IsDotted p f.file) f.form) (fields_from rank ds)
fields_dotted p rank [] h = All-nil (λ (f : PlacedField). OfForm (IsDotted p f.file) f.form)
fields_dotted p rank (d ∷ ds) h =
    let P : PlacedType → Type 0 = λ d. All (IsDotted p d.file) (written_types d.spec.body) in
    All-append (λ (f : PlacedField). OfForm (IsDotted p f.file) f.form) (body_fields rank d.file d.spec.body) (fields_from (suc rank) ds)
    (body_dotted p rank d.file d.spec.body (All-head P d ds h)) (fields_dotted p (suc rank) ds (All-tail P d ds h))

module _ (g : PathMap) (inj : IsInjective g) (p q : Package) (a : IsMovedPackage g p q) where
  field_dotted : (rank : ℕ) (f : PlacedField) → slice_get (package_fields p) rank ≡ Some f → OfForm (IsDotted p f.file) f.form
  field_dotted rank f at =
      let P : PlacedField → Type 0 = λ f. OfForm (IsDotted p f.file) f.form in
      all_got P (package_fields p) rank f
      (recursion_from_All P (package_fields p) (fields_dotted p 0 (package_types p) (dotted g inj p q a).definitions)) at

  -- the parameters and results of a method that an interface asks for
  params_dotted : (file : ℕ) (ps : List (Item ParamTree)) (r : ResultTree) → All (IsDotted p file) (signature_types ps r) →
      All (IsDotted p file) (parameter_types ps)
  params_dotted file ps r dots =
      of_parameters (IsDotted p file) ps (all_of_left (IsDotted p file) (map (λ (i : Item ParamTree). i.value.type_use) ps) (result_types r) dots)

  rest_dotted : (file : ℕ) (ps : List (Item ParamTree)) (r : ResultTree) → All (IsDotted p file) (signature_types ps r) → All (IsDotted p file) (result_types r)
  rest_dotted file ps r dots = all_of_right (IsDotted p file) (map (λ (i : Item ParamTree). i.value.type_use) ps) (result_types r) dots

  form_of : (file : ℕ) (form : WrittenForm) (t : WrittenAs) → OfForm (IsDotted p file) form → HasForm p file form t → HasForm q file form (moved_form g t)
  form_of file (OfType tree) (AFieldOf t) dots h = type_of g inj p q a file tree t dots h
  form_of file (OfType tree) (AMethodOf s) dots h = absurd h
  form_of file (OfSignature ps r) (AFieldOf t) dots h = absurd h
  form_of file (OfSignature ps r) (AMethodOf s) dots h =
      written_signature g inj p q a file ps r s (params_dotted file ps r dots) (rest_dotted file ps r dots) h

  form_back : (file : ℕ) (form : WrittenForm) (t : WrittenAs) → OfForm (IsDotted p file) form → HasForm q file form t →
      (x : WrittenAs) × ((t ≡ moved_form g x) × HasForm p file form x)
  form_back file (OfType tree) (AFieldOf t) dots h =
      let x = type_of_back g inj p q a file tree t dots h in (AFieldOf x.0, (ap AFieldOf x.1.0, x.1.1))
  form_back file (OfType tree) (AMethodOf s) dots h = absurd h
  form_back file (OfSignature ps r) (AFieldOf t) dots h = absurd h
  form_back file (OfSignature ps r) (AMethodOf s) dots h =
      let x = written_signature_back g inj p q a file ps r s (params_dotted file ps r dots) (rest_dotted file ps r dots) h in
      (AMethodOf x.0, (ap AMethodOf x.1.0, x.1.1))

  same_fields : package_fields q ≡ package_fields p
  same_fields = ap (fields_from 0) (same_place_types g inj p q a)

  same_symbol : (s : Symbol) (rank : ℕ) → s ≡ symbol_in p rank → moved_symbol g s ≡ symbol_in q rank
  same_symbol s rank e = ap (moved_symbol g) e ∙ sym (symbols g inj p q a rank)

  -- fields

  is_field : (definition : ℕ) (name : List ℕ) (rank : ℕ) (f : PlacedField) → IsFieldOf p definition name rank f → IsFieldOf q definition name rank f
  is_field definition name rank f h = record {
    has_rank = got_by (package_fields p) (package_fields q) rank f same_fields h.has_rank;
    of_struct = h.of_struct;
    named = a.fields rank f h.has_rank ∙ h.named;
  }

  pub is_field_back : (definition : ℕ) (name : List ℕ) (rank : ℕ) (f : PlacedField) → IsFieldOf q definition name rank f → IsFieldOf p definition name rank f
  is_field_back definition name rank f h =
      let at : slice_get (package_fields p) rank ≡ Some f = got_by (package_fields q) (package_fields p) rank f (sym same_fields) h.has_rank in
      record { has_rank = at; of_struct = h.of_struct; named = sym (a.fields rank f at) ∙ h.named }

  pub field_counts : (definition : ℕ) (name : List ℕ) (rank : ℕ) (f : PlacedField) → IsCountingField p definition name rank f →
      IsCountingField q definition name rank f
  field_counts definition name rank f c = record {
    is_field = is_field definition name rank f c.is_field;
    first = λ other x lt h. c.first other x lt (is_field_back definition name other x h);
  }

  field_counts_back : (definition : ℕ) (name : List ℕ) (rank : ℕ) (f : PlacedField) → IsCountingField q definition name rank f →
      IsCountingField p definition name rank f
  field_counts_back definition name rank f c = record {
    is_field = is_field_back definition name rank f c.is_field;
    first = λ other x lt h. c.first other x lt (is_field definition name other x h);
  }

  found_field : (definition : ℕ) (name : List ℕ) (x : Option Field) → IsFoundField p definition name x →
      IsFoundField q definition name (option_map (moved_field g) x)
  found_field definition name None none = λ rank f t c h.
      let old = field_counts_back definition name rank f c in
      let u = form_back f.file f.form t (field_dotted rank f old.is_field.has_rank) h in
      none rank f u.0 old u.1.1
  found_field definition name (Some x) h = (
    h.0,
    (
      field_counts definition name x.symbol.rank h.0 h.1.0,
      form_of h.0.file h.0.form x.form (field_dotted x.symbol.rank h.0 h.1.0.is_field.has_rank) h.1.1,
      same_symbol x.symbol x.symbol.rank h.1.2,
      h.1.3,
    ),
  )

  -- the definition has a moved struct under it
  struct_moves : (definition : ℕ) (s r : Symbol) → moved_symbol g s ≡ r → HasUnderlying p (Defined (symbol_in p definition)) (StructOf s) →
      HasUnderlying q (Defined (symbol_in q definition)) (StructOf r)
  struct_moves definition s r e h =
      subst (λ (x : Symbol). HasUnderlying q (Defined (symbol_in q definition)) (StructOf x)) e
      (subst (λ (x : Symbol). HasUnderlying q (Defined x) (StructOf (moved_symbol g s))) (sym (symbols g inj p q a definition))
      (has_underlying g inj p q a (Defined (symbol_in p definition)) (StructOf s) h))

  -- the struct that it had under it before the move
  struct_before : (definition : ℕ) (s : Symbol) → HasUnderlying q (Defined (symbol_in q definition)) (StructOf s) →
      (r : Symbol) × ((s ≡ moved_symbol g r) × HasUnderlying p (Defined (symbol_in p definition)) (StructOf r))
  struct_before definition s h =
      let x = underlying_back g inj p q a (Defined (symbol_in q definition)) (StructOf s) h (Defined (symbol_in p definition))
      (ap Defined (symbols g inj p q a definition)) in
      let r = struct_back g x.0 s x.1.0 in
      (r.0, (r.1.1, subst (λ (u : Underlying). HasUnderlying p (Defined (symbol_in p definition)) u) r.1.0 x.1.1))

  -- a field of the underlying type

  field_named : (definition : ℕ) (name : List ℕ) → HasFieldNamed p definition name → HasFieldNamed q definition name
  field_named definition name (of_own {rank = r} {field = i} {f = f} under is) =
      of_own {rank = r} {field = i} {f = f}
      (struct_moves definition (symbol_in p r) (symbol_in q r) (sym (symbols g inj p q a r)) under) (is_field r name i f is)
  field_named definition name (of_imported {path = path} {rank = r} {f = f} under other at seen) =
      of_imported {path = g path} {rank = r} {f = moved_field g f}
      (struct_moves definition (record { «package» = path; rank = r }) (record { «package» = g path; rank = r }) refl under)
      (other_path g inj p q a path other)
      (ap (λ (d : Definition). d.field name) (a.definitions path r) ∙ ap (option_map (moved_field g)) at) seen

  field_named_back : (definition : ℕ) (name : List ℕ) → HasFieldNamed q definition name → HasFieldNamed p definition name
  field_named_back definition name (of_own {rank = r} {field = i} {f = f} under is) =
      let s = struct_before definition (symbol_in q r) under in
      of_own {rank = r} {field = i} {f = f}
      (subst (λ (x : Symbol). HasUnderlying p (Defined (symbol_in p definition)) (StructOf x)) (own_symbol g inj p q a s.0 r s.1.0) s.1.1)
      (is_field_back r name i f is)
  field_named_back definition name (of_imported {path = path} {rank = r} {f = f} under other at seen) =
      let s = struct_before definition (record { «package» = path; rank = r }) under in
      let from : path ≡ g s.0.package = ap (λ (z : Symbol). z.package) s.1.0 in
      let same : r ≡ s.0.rank = ap (λ (z : Symbol). z.rank) s.1.0 in
      let x = some_back (moved_field g) (((p.export_data_of s.0.package).definition s.0.rank).field name) f
      (sym (ap (λ (d : Definition). d.field name) (a.definitions s.0.package s.0.rank))
      ∙ ap2 (λ (y : List ℕ) (n : ℕ). ((q.export_data_of y).definition n).field name) (sym from) (sym same) ∙ at) in
      of_imported {path = s.0.package} {rank = s.0.rank} {f = x.0} s.1.1 (λ own. other (from ∙ ap g own ∙ sym a.path)) x.1.0
      (ap (λ (y : Field). y.exported) (sym x.1.1) ∙ seen)

  -- methods

  is_method : (definition : ℕ) (name : List ℕ) (rank : ℕ) (f : PlacedFunction) → IsMethodOf p definition name rank f → IsMethodOf q definition name rank f
  is_method definition name rank f h = record {
    has_rank = got_by (package_functions p) (package_functions q) rank f (same_place_functions g inj p q a) h.has_rank;
    receiver = h.receiver;
    received = h.received;
    declaration = h.declaration;
    binds = binds g inj p q a f.file h.receiver.type_name h.declaration h.binds;
    of_type = declares_type g inj p q a h.declaration definition h.of_type;
    named = a.functions rank f h.has_rank ∙ h.named;
  }

  pub is_method_back : (definition : ℕ) (name : List ℕ) (rank : ℕ) (f : PlacedFunction) → IsMethodOf q definition name rank f →
      IsMethodOf p definition name rank f
  is_method_back definition name rank f h =
      let at : slice_get (package_functions p) rank ≡ Some f =
      got_by (package_functions q) (package_functions p) rank f (sym (same_place_functions g inj p q a)) h.has_rank in
      record {
        has_rank = at;
        receiver = h.receiver;
        received = h.received;
        declaration = h.declaration;
        binds = binds_back g inj p q a f.file h.receiver.type_name h.declaration h.binds;
        of_type = declares_type_back g inj p q a h.declaration definition h.of_type;
        named = sym (a.functions rank f at) ∙ h.named;
      }

  pub method_counts : (definition : ℕ) (name : List ℕ) (rank : ℕ) (f : PlacedFunction) → IsCountingMethod p definition name rank f →
      IsCountingMethod q definition name rank f
  method_counts definition name rank f c = record {
    is_method = is_method definition name rank f c.is_method;
    no_field = λ h. c.no_field (field_named_back definition name h);
    first = λ other x lt h. c.first other x lt (is_method_back definition name other x h);
  }

  method_counts_back : (definition : ℕ) (name : List ℕ) (rank : ℕ) (f : PlacedFunction) → IsCountingMethod q definition name rank f →
      IsCountingMethod p definition name rank f
  method_counts_back definition name rank f c = record {
    is_method = is_method_back definition name rank f c.is_method;
    no_field = λ h. c.no_field (field_named definition name h);
    first = λ other x lt h. c.first other x lt (is_method definition name other x h);
  }

  found_signature : (rank : ℕ) (f : PlacedFunction) (s : Option Signature) → slice_get (package_functions p) rank ≡ Some f → IsFoundSignature p f s →
      IsFoundSignature q f (option_map (moved_signature g) s)
  found_signature rank f None at none = λ s h. let x = signature_back g inj p q a rank f s at h in none x.0 x.1.1
  found_signature rank f (Some s) at h = signature_of g inj p q a rank f s at h

  found_method : (definition : ℕ) (name : List ℕ) (x : Option Method) → IsFoundMethod p definition name x →
      IsFoundMethod q definition name (option_map (moved_method g) x)
  unfolding method_counts is_method
  found_method definition name None none = λ rank f c. none rank f (method_counts_back definition name rank f c)
  found_method definition name (Some x) h = (
    h.0,
    method_counts definition name x.symbol.rank h.0 h.1,
    found_signature x.symbol.rank h.0 x.signature h.1.is_method.has_rank h.2,
    h.3,
    same_symbol x.symbol x.symbol.rank h.4,
    h.5,
  )

  -- definitions

  underlying_of : (rank : ℕ) (u : Underlying) → IsUnderlyingOf p rank u → IsUnderlyingOf q rank (moved_underlying g u)
  underlying_of rank _ (has {u = u} h) =
      has {u = moved_underlying g u}
      (subst (λ (s : Symbol). HasUnderlying q (Defined s) (moved_underlying g u)) (sym (symbols g inj p q a rank))
      (has_underlying g inj p q a (Defined (symbol_in p rank)) u h))
  underlying_of rank _ (has_none none) =
      subst (λ (s : Symbol). IsUnderlyingOf q rank (StructOf s)) (symbols g inj p q a rank)
      (has_none (λ u h.
      let x = underlying_back g inj p q a (Defined (symbol_in q rank)) u h (Defined (symbol_in p rank)) (ap Defined (symbols g inj p q a rank)) in
      none x.0 x.1.1))

  pub definition_moves : (rank : ℕ) (d : Definition) → IsDefinition p rank d → IsDefinition q rank (moved_definition g d)
  definition_moves rank d h = record {
    underlying = underlying_of rank d.underlying h.underlying;
    fields = λ name. found_field rank name (d.field name) (h.fields name);
    methods = λ name. found_method rank name (d.method name) (h.methods name);
  }
