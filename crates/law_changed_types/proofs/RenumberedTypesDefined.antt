-- Definitions of packages whose tokens correspond: their fields and methods.
use Rattle.std.proofs.Common.{ℕ, ◌≡◌, List, Option, Some, None, refl, sym, ap, ◌∙◌, subst}
use Rattle.std.specs.Prelude.{slice_get}
use Rattle.go_ast.specs.Tree.{ReceiverTree}
use Rattle.types_expr.specs.declared.symbol.Symbol.{Symbol}
use Rattle.types_expr.specs.Types.{Defined, Signature}
use Rattle.types_expr.specs.Types.{Struct as StructOf}
use Rattle.types_expr.specs.World.{Definition, Field, Method}
use Rattle.types_declared.specs.Package.{Package, PlacedFunction, ExportData, symbol_in}
use Rattle.types_declared.specs.Written.{BindsToken}
use Rattle.types_declared.specs.Definitions.{HasUnderlying, PlacedField, package_fields, IsFieldOf, IsCountingField, IsMethodOf, is_on_pointer}
use Rattle.types_declared.specs.Definitions.{HasFieldNamed, of_own, of_imported, IsCountingMethod, IsFoundField, IsFoundSignature, IsFoundMethod, IsDefinition}
use Rattle.law_changed_types.proofs.RenumberedTypesAlike.{Half, SameReceiver, SameFunction, SameField, Turned, TurnedIdentifiers, symbols, binds}
use Rattle.law_changed_types.proofs.RenumberedTypesWritten.{declares_type}
use Rattle.law_changed_types.proofs.RenumberedTypesUnderlying.{own_underlying, underlying_of}
use Rattle.law_changed_types.proofs.RenumberedTypesMeanings.{form_at, signature_of, signature_back}

-- a receiver and its counterpart
pub record Received (T : ℕ → ℕ → ℕ → Type 0) (file : ℕ) (r : ReceiverTree) (o : Option ReceiverTree) : Type 0 where
  pub now : ReceiverTree
  pub is : o ≡ Some now
  pub named : T file r.type_name now.type_name
  pub star : is_on_pointer now ≡ is_on_pointer r

received : (T : ℕ → ℕ → ℕ → Type 0) (p q : Package) (file : ℕ) (r : ReceiverTree) (o : Option ReceiverTree) → SameReceiver T p q file (Some r) o →
    Received T file r o
received T p q file r None h = absurd h
received T p q file r (Some s) h = record { now = s; is = refl; named = h.0; star = h.1 }

module _ (T : ℕ → ℕ → ℕ → Type 0) (I : ℕ → ℕ → Type 0) (p q : Package) (h : Half T I p q) (k : Half (Turned T) (TurnedIdentifiers I) q p) where
  -- fields

  pub is_field : (definition : ℕ) (name : List ℕ) (rank : ℕ) (f : PlacedField) → IsFieldOf p definition name rank f →
      (g : PlacedField) × IsFieldOf q definition name rank g
  is_field definition name rank f is =
      let g = h.fields rank f is.has_rank in
      (g.0, record { has_rank = g.1.0; of_struct = g.1.1.definition ∙ is.of_struct; named = g.1.1.name ∙ is.named })

  -- a method, and the pointer of its receiver
  pub record NowMethod (definition : ℕ) (name : List ℕ) (rank : ℕ) (f : PlacedFunction) (on_pointer : _) : Type 0 where
    pub function : PlacedFunction
    pub is_method : IsMethodOf q definition name rank function
    pub same : SameFunction T p q f function
    pub star : is_on_pointer is_method.receiver ≡ on_pointer

  pub is_method : (definition : ℕ) (name : List ℕ) (rank : ℕ) (f : PlacedFunction) (is : IsMethodOf p definition name rank f) →
      NowMethod definition name rank f (is_on_pointer is.receiver)
  is_method definition name rank f is =
      let g = h.functions rank f is.has_rank in
      let same = g.1.1 in
      let r = received T p q f.file is.receiver g.0.function.receiver
      (subst (λ o. SameReceiver T p q f.file o g.0.function.receiver) is.received same.receiver) in
      let e = binds T I p q h f.file is.receiver.type_name r.now.type_name is.declaration r.named is.binds in
      record {
        function = g.0;
        is_method = record {
          has_rank = g.1.0;
          receiver = r.now;
          received = r.is;
          declaration = e.0;
          binds = subst (λ i. BindsToken q i r.now.type_name e.0) (sym same.file) e.1.1;
          of_type = declares_type T I p q h k is.declaration e.0 definition e.1.0 is.of_type;
          named = same.name ∙ is.named;
        };
        same = same;
        star = r.star;
      }

  pub field_named : (definition : ℕ) (name : List ℕ) → HasFieldNamed p definition name → HasFieldNamed q definition name
  field_named definition name (of_own {rank = r} {field = i} {f = f} under is) =
      let g = is_field r name i f is in
      of_own {rank = r} {field = i} {f = g.0}
      (subst (λ (s : Symbol). HasUnderlying q (Defined (symbol_in q definition)) (StructOf s)) (sym (symbols T I p q h r))
      (own_underlying T I p q h k definition (StructOf (symbol_in p r)) under)) g.1
  field_named definition name (of_imported {path = path} {rank = r} {f = f} under other at seen) =
      of_imported {path = path} {rank = r} {f = f}
      (own_underlying T I p q h k definition (StructOf (record { «package» = path; rank = r })) under) (λ e. other (e ∙ h.path))
      (ap (λ (known : ExportData). (known.definition r).field name) (h.exports path) ∙ at) seen

module _ (T : ℕ → ℕ → ℕ → Type 0) (I : ℕ → ℕ → Type 0) (p q : Package) (h : Half T I p q) (k : Half (Turned T) (TurnedIdentifiers I) q p) where
  is_field_back : (definition : ℕ) (name : List ℕ) (rank : ℕ) (g : PlacedField) → IsFieldOf q definition name rank g →
      (f : PlacedField) × IsFieldOf p definition name rank f
  is_field_back definition name rank g is = is_field (Turned T) (TurnedIdentifiers I) q p k h definition name rank g is

  -- a field that counts, and its counterpart
  field_counts : (definition : ℕ) (name : List ℕ) (rank : ℕ) (f g : PlacedField) → slice_get (package_fields q) rank ≡ Some g →
      SameField T p q f g → IsCountingField p definition name rank f → IsCountingField q definition name rank g
  field_counts definition name rank f g at same c = record {
    is_field = record { has_rank = at; of_struct = same.definition ∙ c.is_field.of_struct; named = same.name ∙ c.is_field.named };
    first = λ other x lt is. let y = is_field_back definition name other x is in c.first other y.0 lt y.1;
  }

  method_counts : (definition : ℕ) (name : List ℕ) (rank : ℕ) (f : PlacedFunction) (c : IsCountingMethod p definition name rank f)
      (g : PlacedFunction) (is : IsMethodOf q definition name rank g) → IsCountingMethod q definition name rank g
  method_counts definition name rank f c g is = record {
    is_method = is;
    no_field = λ named. c.no_field (field_named (Turned T) (TurnedIdentifiers I) q p k h definition name named);
    first = λ other x lt m.
        let y = is_method (Turned T) (TurnedIdentifiers I) q p k h definition name other x m in
        c.first other y.function lt y.is_method;
  }

  pub found_field : (definition : ℕ) (name : List ℕ) (x : Option Field) → IsFoundField p definition name x → IsFoundField q definition name x
  found_field definition name (Some x) is =
      let f = is.0 in
      let g = h.fields x.symbol.rank f is.1.0.is_field.has_rank in (
        g.0,
        (
          field_counts definition name x.symbol.rank f g.0 g.1.0 g.1.1 is.1.0,
          form_at T I p q h k f.file g.0.file f.form g.0.form x.form g.1.1.file g.1.1.form is.1.1,
          is.1.2 ∙ sym (symbols T I p q h x.symbol.rank),
          is.1.3,
        ),
      )
  found_field definition name None none = λ rank g t c is.
      let f = k.fields rank g c.is_field.has_rank in
      none rank f.0 t (counts_back rank f.0 g f.1.0 f.1.1 c)
      (form_at (Turned T) (TurnedIdentifiers I) q p k h g.file f.0.file g.form f.0.form t f.1.1.file f.1.1.form is) where
        counts_back : (rank : ℕ) (f g : PlacedField) → slice_get (package_fields p) rank ≡ Some f → SameField (Turned T) q p g f →
            IsCountingField q definition name rank g → IsCountingField p definition name rank f
        counts_back rank f g at same c = record {
          is_field = record { has_rank = at; of_struct = same.definition ∙ c.is_field.of_struct; named = same.name ∙ c.is_field.named };
          first = λ other x lt is. let y = is_field T I p q h k definition name other x is in c.first other y.0 lt y.1;
        }

  found_signature : (f g : PlacedFunction) (s : Option Signature) → SameFunction T p q f g → IsFoundSignature p f s → IsFoundSignature q g s
  found_signature f g None same none = λ s is. none s (signature_back T I p q h k f g s same is)
  found_signature f g (Some s) same is = signature_of T I p q h k f g s same is

module _ (T : ℕ → ℕ → ℕ → Type 0) (I : ℕ → ℕ → Type 0) (p q : Package) (h : Half T I p q) (k : Half (Turned T) (TurnedIdentifiers I) q p) where
  pub found_method : (definition : ℕ) (name : List ℕ) (x : Option Method) → IsFoundMethod p definition name x → IsFoundMethod q definition name x
  unfolding method_counts
  found_method definition name None none = λ rank g c.
      let f = is_method (Turned T) (TurnedIdentifiers I) q p k h definition name rank g c.is_method in
      none rank f.function (method_counts (Turned T) (TurnedIdentifiers I) q p k h definition name rank g c f.function f.is_method)
  found_method definition name (Some x) is =
      let g = is_method T I p q h k definition name x.symbol.rank is.0 is.1.is_method in (
        g.function,
        method_counts T I p q h k definition name x.symbol.rank is.0 is.1 g.function g.is_method,
        found_signature T I p q h k is.0 g.function x.signature g.same is.2,
        is.3 ∙ sym g.star,
        is.4 ∙ sym (symbols T I p q h x.symbol.rank),
        is.5,
      )

  pub definition_stays : (rank : ℕ) (d : Definition) → IsDefinition p rank d → IsDefinition q rank d
  definition_stays rank d is = record {
    underlying = underlying_of T I p q h k rank d.underlying is.underlying;
    fields = λ name. found_field T I p q h k rank name (d.field name) (is.fields name);
    methods = λ name. found_method rank name (d.method name) (is.methods name);
  }
