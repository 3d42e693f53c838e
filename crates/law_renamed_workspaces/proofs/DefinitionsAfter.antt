-- The definitions of a renamed package are those of before, with new names of fields and methods.
use Rattle.std.proofs.Common.{ℕ, suc, ◌≡◌, inl, inr, Bool, List, [], ◌∷◌, map, ap, sym, subst, refl, ◌∙◌}
use Rattle.std.specs.Prelude.{All, Option, Some, None, slice_get}
use Rattle.std.specs.List.{AllByRecursion}
use Rattle.std.proofs.lemmas.List.Elements.{recursion_from_All}
use Rattle.std.proofs.lemmas.Option.{none-some, same_Some}
use Rattle.base_files.specs.Workspace.{Workspace}
use Rattle.base_edits.specs.Revisions.{Revision}
use Rattle.go_ast.specs.Tree.{Item, TypeTree, FieldTree, BodyTree, Other, Struct, Interface, MethodTree, ParamTree}
use Rattle.go_scope.specs.WellFormed.{WellFormed}
use Rattle.law_tokens.proofs.Elements.{all_got}
use Rattle.types_expr.specs.declared.symbol.Symbol.{Symbol}
use Rattle.types_expr.specs.Types.{Defined, Underlying, Signature, WrittenAs, AFieldOf, AMethodOf}
use Rattle.types_expr.specs.Types.{Struct as StructOf}
use Rattle.types_expr.specs.World.{Definition, Field, Method}
use Rattle.types_expr.specs.WorldView.{no_definition}
use Rattle.types_declared.proofs.ByteKeys.{cases_bytes}
use Rattle.types_declared.proofs.OneUnderlying.{one_underlying}
use Rattle.types_declared.specs.Laid.{is_exported}
use Rattle.types_declared.specs.Package.{Package, ExportData, PlacedType, PlacedFunction, package_types, package_functions, symbol_in}
use Rattle.types_declared.specs.Written.{written_types, signature_types}
use Rattle.types_declared.specs.MeaningOf.{parameter_types, result_types, HasSignature}
use Rattle.types_declared.specs.Definitions.{HasUnderlying, PlacedField, body_fields, fields_from, package_fields, is_on_pointer, IsFoundField}
use Rattle.types_declared.specs.Definitions.{IsFoundSignature, IsFoundMethod, IsUnderlyingOf, has, has_none, IsDefinition, AreDefinitions}
use Rattle.types_declared.specs.Definitions.{WrittenForm, OfType, OfSignature, OfForm, HasForm}
use Rattle.types_check.specs.Exports.{IsExportData}
use Rattle.types_info.proofs.DeclKinds.{Holds, holds_got, holds_append, holds_flat, holds_map, held_map}
use Rattle.types_info.proofs.OneMeaning.{one_signature_found}
use Rattle.types_info.proofs.OneWorld.{one_form}
use Rattle.workspace_check.specs.Verdicts.{Verdicts}
use Rattle.workspace_check.proofs.OnePackage.{layout_formed}
use Rattle.refs_binding.specs.Uses.{IsCheckedPackage}
use Rattle.refactor_conflict.specs.NamesAfter.{IsFieldAfter, IsMethodAfter}
use Rattle.refactor_conflict.specs.MembersAfter.{IsFirstField, IsFirstMethod}
use Rattle.refactor_conflict.proofs.FieldsAfter.{one_first, of_one}
use Rattle.law_changed_types.specs.SameBindings.{IsDotted, AreTypesDotted}
use Rattle.law_changed_types.proofs.Alike.{Alike, turned}
use Rattle.law_changed_types.proofs.Types.{type_of, types_of, has_underlying}
use Rattle.law_renamed_workspaces.specs.Layouts.{IsRelaid}
use Rattle.law_renamed_workspaces.specs.MovedExports.{field_called, method_called}
use Rattle.law_renamed_workspaces.specs.MembersMoved.{HasMethodNamed, IsUnderNewName, IsDefinitionAfter, AreSeenAfter}
use Rattle.law_renamed_workspaces.proofs.CountingMembers as counting
use Rattle.law_changed_types.proofs.Parts.{of_asked, of_parameters, all_of_left, all_of_right}

-- a field or method by its parts

field_is : (f : Field) (s : Symbol) (e : Bool) (t : WrittenAs) → f.symbol ≡ s → f.exported ≡ e → f.form ≡ t →
    f ≡ record { symbol = s; exported = e; form = t }
field_is f s e t a b c =
    let one : (x : Symbol) (y : Bool) (z : WrittenAs) → Field = λ x y z. record { symbol = x; exported = y; form = z } in
    ap (λ x. one x f.exported f.form) a ∙ ap (λ y. one s y f.form) b ∙ ap (λ z. one s e z) c

method_is : (m : Method) (s : Symbol) (e : Bool) (o : Bool) (g : Option Signature) → m.symbol ≡ s → m.exported ≡ e → m.on_pointer ≡ o → m.signature ≡ g →
    m ≡ record { symbol = s; exported = e; on_pointer = o; signature = g }
method_is m s e o g a b c d =
    let one : (x : Symbol) (y z : Bool) (u : Option Signature) → Method = λ x y z u. record { symbol = x; exported = y; on_pointer = z; signature = u } in
    ap (λ x. one x m.exported m.on_pointer m.signature) a ∙ ap (λ y. one s y m.on_pointer m.signature) b ∙ ap (λ z. one s e z m.signature) c
    ∙ ap (λ u. one s e o u) d

-- of a definition that is not known nothing moves
pub nothing_after : (Known : Package → Type 0) (r : Revision) (path : List ℕ) (rank : ℕ) (s t : Symbol) → t ≡ s →
    IsDefinitionAfter Known r path rank (no_definition s) (no_definition t)
nothing_after Known r path rank s t same = record {
  underlying = ap StructOf same;
  fields = λ old new f e first. absurd (none-some f e);
  methods = λ old new m e first. absurd (none-some m e);
  no_others = λ name f e. absurd (none-some f e);
  no_other_methods = λ name m e. absurd (none-some m e);
}

-- the types of fields and the signatures of functions

held : {X : Type 0} (P : X → Type 0) (xs : List X) → AllByRecursion P xs → (x : X) → Holds xs x → P x
held P [] h x k = absurd k
held P (y ∷ ys) h x k = elim k [ inl e ↦ subst P e h.0 | inr rest ↦ held P ys h.1 x rest ]

body_typed : (P : ℕ → TypeTree → Type 0) (rank file : ℕ) (b : BodyTree) → All (P file) (written_types b) → (f : PlacedField) →
    Holds (body_fields rank file b) f → OfForm (P f.file) f.form
body_typed P rank file (Other t) all f h = absurd h
body_typed P rank file (Interface k o ms c) all f h =
    let i = holds_map (λ (m : Item MethodTree). record {
      definition = rank;
      file = file;
      name = m.value.name;
      form = OfSignature m.value.params m.value.result;
    }) ms f h in
    let Q : Item MethodTree → Type 0 = λ m. All (P file) (signature_types m.value.params m.value.result) in
    subst (λ (z : PlacedField). OfForm (P z.file) z.form) i.1.1 (held Q ms (recursion_from_All Q ms (of_asked (P file) ms all)) i.0 i.1.0)
body_typed P rank file (Struct k o fs c) all f h =
    let x = holds_flat (λ (i : Item FieldTree). map
    (λ (n : Item ℕ). record { definition = rank; file = file; name = n.value; form = OfType i.value.type_use }) i.value.names) fs f h in
    let n = holds_map (λ (n : Item ℕ). record {
      definition = rank;
      file = file;
      name = n.value;
      form = OfType x.0.value.type_use;
    }) x.0.value.names f x.1.1 in
    let types : List TypeTree = map (λ (i : Item FieldTree). i.value.type_use) fs in
    subst (λ (z : PlacedField). OfForm (P z.file) z.form) n.1.1
    (held (P file) types (recursion_from_All (P file) types all) x.0.value.type_use (held_map (λ (i : Item FieldTree). i.value.type_use) fs x.0 x.1.0))

fields_typed : (P : ℕ → TypeTree → Type 0) (rank : ℕ) (ds : List PlacedType) → AllByRecursion (λ d. All (P d.file) (written_types d.spec.body)) ds →
    (f : PlacedField) → Holds (fields_from rank ds) f → OfForm (P f.file) f.form
fields_typed P rank [] all f h = absurd h
fields_typed P rank (d ∷ ds) all f h = elim (holds_append (body_fields rank d.file d.spec.body) (fields_from (suc rank) ds) f h) [
  | inl here ↦ body_typed P rank d.file d.spec.body all.0 f here
  | inr later ↦ fields_typed P (suc rank) ds all.1 f later
]

field_dotted : (p : Package) → AreTypesDotted p → (rank : ℕ) (f : PlacedField) → slice_get (package_fields p) rank ≡ Some f →
    OfForm (IsDotted p f.file) f.form
field_dotted p dotted rank f at =
    fields_typed (IsDotted p) 0 (package_types p)
    (recursion_from_All (λ (d : PlacedType). All (IsDotted p d.file) (written_types d.spec.body)) (package_types p) dotted.definitions) f
    (holds_got (package_fields p) rank f at)

form_stays : (p q : Package) → Alike p q → (file : ℕ) (form : WrittenForm) (t : WrittenAs) → OfForm (IsDotted p file) form → HasForm p file form t →
    HasForm q file form t
form_stays p q a file (OfType tree) (AFieldOf t) dots h = type_of p q a file tree t h dots
form_stays p q a file (OfType tree) (AMethodOf s) dots h = absurd h
form_stays p q a file (OfSignature ps r) (AFieldOf t) dots h = absurd h
form_stays p q a file (OfSignature ps r) (AMethodOf s) dots h =
    let D : TypeTree → Type 0 = IsDotted p file in
    let types : List TypeTree = map (λ (i : Item ParamTree). i.value.type_use) ps in
    record {
      parameters = types_of p q a file (parameter_types ps) s.parameters h.parameters (of_parameters D ps (all_of_left D types (result_types r) dots));
      results = types_of p q a file (result_types r) s.results h.results (all_of_right D types (result_types r) dots);
    }

pub field_form_stays : (p q : Package) → Alike p q → (rank : ℕ) (f : PlacedField) → slice_get (package_fields p) rank ≡ Some f → (t : WrittenAs) →
    HasForm p f.file f.form t → HasForm q f.file f.form t
field_form_stays p q a rank f at t h = form_stays p q a f.file f.form t (field_dotted p a.dotted rank f at) h

pub signature : (p q : Package) → Alike p q → (rank : ℕ) (f : PlacedFunction) → slice_get (package_functions p) rank ≡ Some f → (s : Signature) →
    HasSignature p f s → HasSignature q f s
signature p q a rank f at s h =
    let P : PlacedFunction → Type 0 = λ x. All (IsDotted p x.file) (parameter_types x.function.params) in
    let R : PlacedFunction → Type 0 = λ x. All (IsDotted p x.file) (result_types x.function.result) in
    record {
      parameters = types_of p q a f.file (parameter_types f.function.params) s.parameters h.parameters
          (all_got P (package_functions p) rank f (recursion_from_All P (package_functions p) a.dotted.parameters) at);
      results = types_of p q a f.file (result_types f.function.result) s.results h.results
          (all_got R (package_functions p) rank f (recursion_from_All R (package_functions p) a.dotted.results) at);
    }

module _ (w : Workspace) (known : Verdicts) (r : Revision) (p q : Package) (is : IsCheckedPackage w known p) (relaid : IsRelaid r p q)
    (alike : Alike p q) (seen : AreSeenAfter (IsCheckedPackage w known) r p q) where
  Known : Package → Type 0
  Known = IsCheckedPackage w known

  formed : WellFormed p.layout
  formed = layout_formed w known p.path p is.is_checked

  formed_after : WellFormed q.layout
  formed_after = subst WellFormed (sym relaid.layout) formed

  own_symbol : (rank : ℕ) → symbol_in q rank ≡ symbol_in p rank
  own_symbol rank = ap (λ (path : List ℕ). record { «package» = path; rank = rank }) relaid.path

  -- underlying types

  underlying_before : (rank : ℕ) (u : Underlying) → HasUnderlying q (Defined (symbol_in q rank)) u → HasUnderlying p (Defined (symbol_in p rank)) u
  underlying_before rank u h =
      has_underlying q p (turned p q alike) (Defined (symbol_in p rank)) u (subst (λ (x : Symbol). HasUnderlying q (Defined x) u) (own_symbol rank) h)

  underlying_behind : (rank : ℕ) (u : Underlying) → HasUnderlying p (Defined (symbol_in p rank)) u → HasUnderlying q (Defined (symbol_in q rank)) u
  underlying_behind rank u h =
      subst (λ (x : Symbol). HasUnderlying q (Defined x) u) (sym (own_symbol rank)) (has_underlying p q alike (Defined (symbol_in p rank)) u h)

  same_underlying : (rank : ℕ) (u v : Underlying) → IsUnderlyingOf p rank u → IsUnderlyingOf q rank v → v ≡ u
  same_underlying rank u v (has a) (has b) = one_underlying p formed (Defined (symbol_in p rank)) v u (underlying_before rank v b) a
  same_underlying rank u _ (has a) (has_none none) = absurd (none u (underlying_behind rank u a))
  same_underlying rank _ v (has_none none) (has b) = absurd (none v (underlying_before rank v b))
  same_underlying rank _ _ (has_none a) (has_none b) = ap StructOf (own_symbol rank)

  -- fields

  field_there : (rank : ℕ) (old new : List ℕ) (f : Field) → IsFoundField p rank old (Some f) → IsFirstField r p rank new f.symbol.rank → (o : Option Field) →
      IsFoundField q rank new o → o ≡ Some (field_called new f)
  field_there rank old new f x first None none =
      let c = (counting.counting_field w known r p q is relaid rank new f.symbol.rank).0 first in
      let at = counting.field_before w known r p q is relaid f.symbol.rank c.0 c.1.is_field.has_rank in
      let same : x.0 ≡ c.0 = same_Some x.0 c.0 (sym x.1.0.is_field.has_rank ∙ at) in
      let form : HasForm p c.0.file c.0.form f.form = subst (λ (g : PlacedField). HasForm p g.file g.form f.form) same x.1.1 in
      absurd (none f.symbol.rank c.0 f.form c.1 (field_form_stays p q alike f.symbol.rank c.0 at f.form form))
  field_there rank old new f x first (Some y) h =
      let other = (counting.counting_field w known r p q is relaid rank new y.symbol.rank).1 (h.0, h.1.0) in
      let ranks : y.symbol.rank ≡ f.symbol.rank = one_first (IsFieldAfter r p rank new) y.symbol.rank f.symbol.rank other first in
      let at : slice_get (package_fields p) f.symbol.rank ≡ Some h.0 =
      subst (λ n. slice_get (package_fields p) n ≡ Some h.0) ranks
      (counting.field_before w known r p q is relaid y.symbol.rank h.0 h.1.0.is_field.has_rank) in
      let same : x.0 ≡ h.0 = same_Some x.0 h.0 (sym x.1.0.is_field.has_rank ∙ at) in
      let form : HasForm p h.0.file h.0.form f.form = subst (λ (g : PlacedField). HasForm p g.file g.form f.form) same x.1.1 in
      let forms : y.form ≡ f.form =
      one_form q formed_after h.0.file h.0.form y.form f.form h.1.1 (field_form_stays p q alike f.symbol.rank h.0 at f.form form) in
      let symbols : y.symbol ≡ f.symbol = h.1.2 ∙ own_symbol y.symbol.rank ∙ ap (symbol_in p) ranks ∙ sym x.1.2 in
      ap Some (field_is y f.symbol (is_exported new) f.form symbols h.1.3 forms)

  -- methods

  signature_behind : (rank : ℕ) (f : PlacedFunction) → slice_get (package_functions p) rank ≡ Some f → (o : Option Signature) → IsFoundSignature p f o →
      IsFoundSignature q f o
  signature_behind rank f at None none = λ s h.
      none s (signature q p (turned p q alike) rank f (counting.function_behind w known r p q is relaid rank f at) s h)
  signature_behind rank f at (Some s) h = signature p q alike rank f at s h

  method_there : (rank : ℕ) (old new : List ℕ) (m : Method) → IsFoundMethod p rank old (Some m) → IsFirstMethod Known r p rank new m.symbol.rank →
      (o : Option Method) → IsFoundMethod q rank new o → o ≡ Some (method_called new m)
  unfolding Known
  method_there rank old new m x first None none =
      let c = counting.counting_method w known r p q is relaid alike seen rank new m.symbol.rank first in
      absurd (none m.symbol.rank c.0 c.1)
  method_there rank old new m x first (Some y) h =
      let other = counting.first_of_methods w known r p q is relaid alike rank new y.symbol.rank h.0 h.1 in
      let ranks : y.symbol.rank ≡ m.symbol.rank = one_first (IsMethodAfter r p rank new) y.symbol.rank m.symbol.rank other first.has in
      let at : slice_get (package_functions p) m.symbol.rank ≡ Some h.0 =
      subst (λ n. slice_get (package_functions p) n ≡ Some h.0) ranks
      (counting.function_before w known r p q is relaid y.symbol.rank h.0 h.1.is_method.has_rank) in
      let same : x.0 ≡ h.0 = same_Some x.0 h.0 (sym x.1.is_method.has_rank ∙ at) in
      let found : IsFoundSignature p h.0 m.signature = subst (λ (g : PlacedFunction). IsFoundSignature p g m.signature) same x.2 in
      let signatures : y.signature ≡ m.signature =
      one_signature_found q formed_after h.0 y.signature m.signature h.2 (signature_behind m.symbol.rank h.0 at m.signature found) in
      let received : x.0.function.receiver ≡ Some h.1.is_method.receiver =
      subst (λ (g : PlacedFunction). g.function.receiver ≡ Some h.1.is_method.receiver) (sym same) h.1.is_method.received in
      let receivers : h.1.is_method.receiver ≡ x.1.is_method.receiver =
      same_Some h.1.is_method.receiver x.1.is_method.receiver (sym received ∙ x.1.is_method.received) in
      let pointers : y.on_pointer ≡ m.on_pointer = h.3 ∙ ap is_on_pointer receivers ∙ sym x.3 in
      let symbols : y.symbol ≡ m.symbol = h.4 ∙ own_symbol y.symbol.rank ∙ ap (symbol_in p) ranks ∙ sym x.4 in
      ap Some (method_is y m.symbol (is_exported new) m.on_pointer m.signature symbols h.5 pointers signatures)

  -- a definition of the package

  own_under_name : (rank : ℕ) (name : List ℕ) (f : Field) → IsFoundField q rank name (Some f) → IsUnderNewName (IsCheckedPackage w known) r p.path rank name f
  own_under_name rank name f h = record {
    of_package = ap (λ (s : Symbol). s.package) h.1.2 ∙ relaid.path;
    exported = h.1.3;
    counts = record {
      inside = p;
      is_package = is;
      of_path = refl;
      holds = (counting.counting_field w known r p q is relaid rank name f.symbol.rank).1 (h.0, h.1.0);
    };
  }

  own_method_named : (rank : ℕ) (name : List ℕ) (m : Method) → IsFoundMethod q rank name (Some m) →
      HasMethodNamed (IsCheckedPackage w known) r p.path rank name m.symbol.rank
  own_method_named rank name m h = record {
    inside = p;
    is_package = is;
    of_path = refl;
    holds = (counting.first_of_methods w known r p q is relaid alike rank name m.symbol.rank h.0 h.1).has;
  }

  pub own_definition : (rank : ℕ) (a b : Definition) → IsDefinition p rank a → IsDefinition q rank b → IsDefinitionAfter (IsCheckedPackage w known) r p.path
      rank a b
  unfolding Known
  own_definition rank a b h k = record {
    underlying = same_underlying rank a.underlying b.underlying h.underlying k.underlying;
    fields = λ old new f e first.
        field_there rank old new f (subst (IsFoundField p rank old) e (h.fields old))
        (of_one w known p is p.path refl (λ o. IsFirstField r o rank new f.symbol.rank) first) (b.field new) (k.fields new);
    methods = λ old new m e first.
        method_there rank old new m (subst (IsFoundMethod p rank old) e (h.methods old))
        (of_one w known p is p.path refl (λ o. IsFirstMethod (IsCheckedPackage w known) r o rank new m.symbol.rank) first) (b.method new) (k.methods new);
    no_others = λ name f e. own_under_name rank name f (subst (IsFoundField q rank name) e (k.fields name));
    no_other_methods = λ name m e. own_method_named rank name m (subst (IsFoundMethod q rank name) e (k.methods name));
  }

  type_behind : (rank : ℕ) (o : Option PlacedType) → slice_get (package_types p) rank ≡ o → slice_get (package_types q) rank ≡ o
  type_behind rank o e = subst (λ l. slice_get l rank ≡ o) (sym (counting.types_listed w known r p q is relaid)) e

  -- in its export data
  pub exported_definition : (i j : ExportData) → IsExportData p i → IsExportData q j → (rank : ℕ) →
      IsDefinitionAfter (IsCheckedPackage w known) r p.path rank (i.definition rank) (j.definition rank)
  exported_definition i j h k rank = by_rank (slice_get (package_types p) rank) refl
    where
      by_rank : (o : Option PlacedType) → slice_get (package_types p) rank ≡ o →
          IsDefinitionAfter (IsCheckedPackage w known) r p.path rank (i.definition rank) (j.definition rank)
      by_rank None e =
          subst (λ d. IsDefinitionAfter (IsCheckedPackage w known) r p.path rank d (j.definition rank)) (sym (h.beyond rank e))
          (subst (λ d. IsDefinitionAfter (IsCheckedPackage w known) r p.path rank (no_definition (symbol_in p rank)) d) (sym (k.beyond rank (type_behind
          rank None e)))
          (nothing_after (IsCheckedPackage w known) r p.path rank (symbol_in p rank) (symbol_in q rank) (own_symbol rank)))
      by_rank (Some d) e =
          own_definition rank (i.definition rank) (j.definition rank) (h.definitions rank d e) (k.definitions rank d (type_behind rank (Some d) e))

  -- by the symbols of definitions, of this package and of others
  pub definition_after : (ds es : Symbol → Definition) → AreDefinitions p ds → AreDefinitions q es → (s : Symbol) →
      IsDefinitionAfter (IsCheckedPackage w known) r s.package s.rank (ds s) (es s)
  definition_after ds es a b s = elim (cases_bytes s.package p.path) [
    | inl own ↦ (
        let same : symbol_in p s.rank ≡ s = ap (λ (path : List ℕ). record { «package» = path; rank = s.rank }) (sym own) in
        subst (λ (x : Symbol). IsDefinitionAfter (IsCheckedPackage w known) r x.package x.rank (ds x) (es x)) same (by_rank (slice_get (package_types p)
        s.rank) refl))
    | inr other ↦ (
        let after : es s ≡ (q.export_data_of s.package).definition s.rank = b.imported s.package s.rank (λ e. other (e ∙ relaid.path)) in
        subst (λ d. IsDefinitionAfter (IsCheckedPackage w known) r s.package s.rank d (es s)) (sym (a.imported s.package s.rank other))
        (subst (λ d. IsDefinitionAfter (IsCheckedPackage w known) r s.package s.rank ((p.export_data_of s.package).definition s.rank) d) (sym after)
        (seen s.package s.rank other)))
  ]
    where
      by_rank : (o : Option PlacedType) → slice_get (package_types p) s.rank ≡ o →
          IsDefinitionAfter (IsCheckedPackage w known) r p.path s.rank (ds (symbol_in p s.rank)) (es (symbol_in p s.rank))
      by_rank None e =
          let after : es (symbol_in p s.rank) ≡ no_definition (symbol_in p s.rank) =
          subst (λ x. es x ≡ no_definition x) (own_symbol s.rank) (b.beyond s.rank (type_behind s.rank None e)) in
          subst (λ d. IsDefinitionAfter (IsCheckedPackage w known) r p.path s.rank d (es (symbol_in p s.rank))) (sym (a.beyond s.rank e))
          (subst (λ d. IsDefinitionAfter (IsCheckedPackage w known) r p.path s.rank (no_definition (symbol_in p s.rank)) d) (sym after)
          (nothing_after (IsCheckedPackage w known) r p.path s.rank (symbol_in p s.rank) (symbol_in p s.rank) refl))
      by_rank (Some d) e =
          own_definition s.rank (ds (symbol_in p s.rank)) (es (symbol_in p s.rank)) (a.own s.rank d e)
          (subst (λ x. IsDefinition q s.rank (es x)) (own_symbol s.rank) (b.own s.rank d (type_behind s.rank (Some d) e)))
