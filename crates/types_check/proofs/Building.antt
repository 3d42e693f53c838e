-- Definitions while fields and methods are added by rank.
use Rattle.std.proofs.Common.{ℕ, zero, suc, ◌≡◌, ◌+◌, ◌<◌, ◌≤◌, inl, inr, List, [], ◌∷◌, ◌++◌, length, get_or, ap, sym, subst, refl, ◌∙◌, arith}
use Rattle.std.specs.Prelude.{Option, Some, None, option_map, slice_get, map}
use Rattle.std.specs.List.{flat_map}
use Rattle.std.proofs.Math.ListN.{set}
use Rattle.std.proofs.lemmas.Bool.{cases_lt, cases_eq}
use Rattle.std.proofs.lemmas.List.{length-set}
use Rattle.std.proofs.lemmas.Option.{same_Some, none-some, slice_get_within, slice_get_read}
use Rattle.go_scope.specs.WellFormed.{WellFormed}
use Rattle.go_ast.specs.Tree.{Item, FieldTree, MethodTree, ParamTree, ResultTree, TypeTree, BodyTree, Other, Struct, Interface}
use Rattle.types_expr.specs.declared.world.Definition.{Definition}
use Rattle.types_expr.specs.Types.{PlainType, Signature, WrittenAs, AFieldOf, AMethodOf}
use Rattle.types_expr.specs.World.{Field, Method}
use Rattle.types_expr.specs.World as plain
use Rattle.types_expr.specs.WorldView.{definition_of}
use Rattle.types_declared.specs.Package.{Package, PlacedType, PlacedFunction, package_types, package_functions, spelled}
use Rattle.types_declared.specs.Definitions.{OfType, OfSignature, HasForm, PlacedField, body_fields, fields_from, package_fields, IsCountingField, IsMethodOf}
use Rattle.types_declared.specs.Definitions.{IsCountingMethod, IsFoundField, IsSignatureFound}
use Rattle.types_declared.specs.Definitions.{IsFoundSignature, IsFoundMethod, IsUnderlyingOf}
use Rattle.types_declared.specs.MeaningOf.{IsSignatureOf}
use Rattle.types_declared.specs.Written.{IsTypeOf}
use Rattle.types_declared.specs.WrittenView.{IsTypeFound}
use Rattle.types_members.specs.MembersView.{CountsAsField, IsMethodOn, CountsAsMethod}
use Rattle.types_info.specs.DefinitionsView.{HaveDefinitions}
use Rattle.types_check.specs.Building.{IsFieldBelow, IsMethodBelow, IsDefinitionBelow, HaveMembersBelow}
use Rattle.types_check.specs.Building.{SetsField, typed_field, received_by_pointer, signed_method}
use Rattle.types_check.specs.Building.{SetsMethodOf, ChangesAt, AddsField, IsWrittenFound, typed, untyped}
use Rattle.types_declared.proofs.ByteKeys.{cases_bytes}
use Rattle.types_declared.proofs.Mentioning.{get_set_same, get_set_other}
use Rattle.types_members.proofs.Owning.{HasOwner}
use Rattle.types_members.proofs.MethodNames.{same_function, one_owner}

-- Each field is in a definition of the package

abbrev Bounded : ℕ → List PlacedField → Type 0
Bounded n fs = (r : ℕ) (f : PlacedField) → slice_get fs r ≡ Some f → f.definition < n

bounded_none : (n : ℕ) → Bounded n []
bounded_none n r f e = absurd (none-some f e)

bounded_more : (n : ℕ) (x : PlacedField) (xs : List PlacedField) → x.definition < n → Bounded n xs → Bounded n (x ∷ xs)
bounded_more n x xs lt h zero f e = subst (λ (z : PlacedField). z.definition < n) (same_Some x f e) lt
bounded_more n x xs lt h (suc r) f e = h r f e

bounded_append : (n : ℕ) (xs ys : List PlacedField) → Bounded n xs → Bounded n ys → Bounded n (xs ++ ys)
bounded_append n [] ys h k = k
bounded_append n (x ∷ xs) ys h k = bounded_more n x (xs ++ ys) (h 0 x refl) (bounded_append n xs ys (λ r f e. h (suc r) f e) k)

abbrev named_fields : ℕ → ℕ → Item FieldTree → List PlacedField
named_fields rank file i = map (λ n. record { definition = rank; file = file; name = n.value; form = OfType i.value.type_use }) i.value.names

bounded_names : (n rank file : ℕ) (type_use : _) (names : List (Item ℕ)) → rank < n →
    Bounded n (map (λ i. record { definition = rank; file = file; name = i.value; form = OfType type_use }) names)
bounded_names n rank file t [] lt = bounded_none n
bounded_names n rank file t (x ∷ xs) lt = bounded_more n (record { definition = rank; file = file; name = x.value; form = OfType t }) _ lt
    (bounded_names n rank file t xs lt)

bounded_items : (n rank file : ℕ) (fs : List (Item FieldTree)) → rank < n → Bounded n (flat_map (named_fields rank file) fs)
bounded_items n rank file [] lt = bounded_none n
bounded_items n rank file (i ∷ fs) lt = bounded_append n (named_fields rank file i) (flat_map (named_fields rank file) fs)
    (bounded_names n rank file i.value.type_use i.value.names lt) (bounded_items n rank file fs lt)

bounded_asked : (n rank file : ℕ) (ms : List (Item MethodTree)) → rank < n →
    Bounded n (map (λ i. record { definition = rank; file = file; name = i.value.name; form = OfSignature i.value.params i.value.result }) ms)
bounded_asked n rank file [] lt = bounded_none n
bounded_asked n rank file (m ∷ ms) lt =
    bounded_more n (record { definition = rank; file = file; name = m.value.name; form = OfSignature m.value.params m.value.result }) _ lt
    (bounded_asked n rank file ms lt)

bounded_body : (n rank file : ℕ) (b : BodyTree) → rank < n → Bounded n (body_fields rank file b)
bounded_body n rank file (Other t) lt = bounded_none n
bounded_body n rank file (Struct k o fs c) lt = bounded_items n rank file fs lt
bounded_body n rank file (Interface k o ms c) lt = bounded_asked n rank file ms lt

bounded_from : (n rank : ℕ) (ds : List PlacedType) → rank + length ds ≤ n → Bounded n (fields_from rank ds)
bounded_from n rank [] le = bounded_none n
bounded_from n rank (d ∷ ds) le =
    bounded_append n (body_fields rank d.file d.spec.body) (fields_from (suc rank) ds) (bounded_body n rank d.file d.spec.body (omega arith))
    (bounded_from n (suc rank) ds (omega arith))

pub field_within : (p : Package) (rank : ℕ) (f : PlacedField) → slice_get (package_fields p) rank ≡ Some f → f.definition < length (package_types p)
field_within p rank f e = bounded_from (length (package_types p)) 0 (package_types p) (omega arith) rank f e

-- A list with one item set

changes_set : {X : Type 0} (old : List X) (place : ℕ) (x y : X) (C : X → X → Type 0) → place < length old → x ≡ get_or old place x → C x y →
    ChangesAt old (set old place y) place C
changes_set old place x y C lt is c = record {
  size = length-set old place y;
  before = x;
  after = y;
  was = slice_get_read old (length old) place x refl lt is;
  is = get_set_same old place y lt;
  elsewhere = λ i ne. get_set_other old place i y ne;
  changed = c;
}

-- Fields

same_field : (p : Package) (rank d : ℕ) (n : List ℕ) (f g : PlacedField) → slice_get (package_fields p) rank ≡ Some f → IsCountingField p d n rank g → g ≡ f
same_field p rank d n f g e c = same_Some g f (sym c.is_field.has_rank ∙ e)

its_definition : (p : Package) (rank d : ℕ) (n : List ℕ) (f g : PlacedField) → slice_get (package_fields p) rank ≡ Some f → IsCountingField p d n rank g →
    d ≡ f.definition
its_definition p rank d n f g e c = sym c.is_field.of_struct ∙ ap (λ (z : PlacedField). z.definition) (same_field p rank d n f g e c)

its_name : (p : Package) (rank d : ℕ) (n : List ℕ) (f g : PlacedField) → slice_get (package_fields p) rank ≡ Some f → IsCountingField p d n rank g →
    n ≡ spelled p f.file f.name
its_name p rank d n f g e c = sym c.is_field.named ∙ ap (λ (z : PlacedField). spelled p z.file z.name) (same_field p rank d n f g e c)

counting_field : (p : Package) (rank : ℕ) (f : PlacedField) → slice_get (package_fields p) rank ≡ Some f → CountsAsField p rank →
    IsCountingField p f.definition (spelled p f.file f.name) rank f
counting_field p rank f e c =
    subst (λ d. IsCountingField p d (spelled p f.file f.name) rank f) (its_definition p rank c.definition c.name f c.field e c.counting)
    (subst (λ n. IsCountingField p c.definition n rank f) (its_name p rank c.definition c.name f c.field e c.counting)
    (subst (IsCountingField p c.definition c.name rank) (same_field p rank c.definition c.name f c.field e c.counting) c.counting))

-- the field of this rank isn't a field of this name of the definition
abbrev NoField : Package → (rank definition : ℕ) → List ℕ → Type 0
NoField p rank d n = (f : PlacedField) (t : WrittenAs) → IsCountingField p d n rank f → HasForm p f.file f.form t → ⊥

field_later : (p : Package) (count d : ℕ) (n : List ℕ) (o : Option Field) → NoField p count d n → IsFieldBelow p count d n o → IsFieldBelow p (count + 1) d n o
field_later p count d n None none h = λ r f t lt c is. elim (cases_lt r count) [
  | inl below ↦ h r f t below c is
  | inr ge ↦ (let e : r ≡ count = omega arith in none f t (subst (λ k. IsCountingField p d n k f) e c) is)
]
field_later p count d n (Some x) none h = h

fields_later : (p : Package) (count methods rank : ℕ) (d : plain.Definition) → ((n : List ℕ) → NoField p count rank n) →
    IsDefinitionBelow p count methods rank d → IsDefinitionBelow p (count + 1) methods rank d
fields_later p count methods rank d none h = record
    { underlying = h.underlying; has_fields = λ n. field_later p count rank n (d.field n) (none n) (h.has_fields n); has_methods = h.has_methods }

fields_skipped : (p : Package) (count methods : ℕ) (found : List Definition) → ((d : ℕ) (n : List ℕ) → NoField p count d n) →
    HaveMembersBelow p count methods found → HaveMembersBelow p (count + 1) methods found
fields_skipped p count methods found none h = record { all = h.all; each = λ r d e. fields_later p count methods r (definition_of d) (none r) (h.each r d e) }

-- a field that doesn't count is passed over
pub field_skipped : (p : Package) (count methods : ℕ) (found : List Definition) → (CountsAsField p count → ⊥) → HaveMembersBelow p count methods found →
    HaveMembersBelow p (count + 1) methods found
field_skipped p count methods found none h = fields_skipped p count methods found
    (λ d n f t c is. none (record { definition = d; name = n; field = f; counting = c })) h

field_set : (p : Package) (count methods : ℕ) (f : PlacedField) (t : WrittenAs) (x y : plain.Definition) → slice_get (package_fields p) count ≡ Some f →
    IsCountingField p f.definition (spelled p f.file f.name) count f →
    HasForm p f.file f.form t → SetsField x y (spelled p f.file f.name) (typed_field p count f t) → IsDefinitionBelow p count methods f.definition x →
    IsDefinitionBelow p (count + 1) methods f.definition y
field_set p count methods f t x y at c is s h = record {
  underlying = subst (IsUnderlyingOf p f.definition) (sym s.underlying) h.underlying;
  has_fields = λ n. elim (cases_bytes n (spelled p f.file f.name)) [
    | inl same ↦ subst (λ z. IsFieldBelow p (count + 1) f.definition z (y.field z)) (sym same)
        (subst (IsFieldBelow p (count + 1) f.definition (spelled p f.file f.name)) (sym s.here) (f, (c, is, refl, refl)))
    | inr ne ↦ subst (IsFieldBelow p (count + 1) f.definition n) (sym (s.elsewhere n ne))
        (field_later p count f.definition n (x.field n) (λ g u k typed. ne (its_name p count f.definition n f g at k)) (h.has_fields n))
  ];
  has_methods = λ n. subst (IsMethodBelow p methods f.definition n) (sym (s.methods n)) (h.has_methods n);
}

fields_added : (p : Package) (count methods : ℕ) (f : PlacedField) (t : WrittenAs) (old new : List Definition) → slice_get (package_fields p) count ≡ Some f →
    IsCountingField p f.definition (spelled p f.file f.name) count f → HasForm p f.file f.form t →
    ChangesAt old new f.definition (λ x y. SetsField (definition_of x) (definition_of y) (spelled p f.file f.name) (typed_field p count f t)) →
    HaveMembersBelow p count methods old →
    HaveMembersBelow p (count + 1) methods new
fields_added p count methods f t old new at c is ch h = record {
  all = ch.size ∙ h.all;
  each = λ r d e. elim (cases_eq r f.definition) [
    | inl same ↦ (let after : ch.after ≡ d = same_Some ch.after d (sym ch.is ∙ (ap (slice_get new) (sym same) ∙ e)) in
        subst (λ k. IsDefinitionBelow p (count + 1) methods k (definition_of d)) (sym same)
        (subst (λ z. IsDefinitionBelow p (count + 1) methods f.definition (definition_of z)) after
        (field_set p count methods f t (definition_of ch.before) (definition_of ch.after) at c is ch.changed (h.each f.definition ch.before ch.was))))
    | inr ne ↦ fields_later p count methods r (definition_of d) (λ n g u k typed. ne (its_definition p count r n f g at k))
        (h.each r d (sym (ch.elsewhere r ne) ∙ e))
  ];
}

pub field_changed : (p : Package) (rank : ℕ) (f : PlacedField) (t : WrittenAs) (old : List Definition) (x y : Definition) → f.definition < length old →
    x ≡ get_or old f.definition x → HasForm p f.file f.form t →
    SetsField (definition_of x) (definition_of y) (spelled p f.file f.name) (typed_field p rank f t) → AddsField p rank f old (set old f.definition y)
field_changed p rank f t old x y lt at is s =
    typed is (changes_set old f.definition x y (λ a b. SetsField (definition_of a) (definition_of b) (spelled p f.file f.name) (typed_field p rank f t)) lt
    at s)

-- a field that counts is added
pub field_added : (p : Package) (count methods : ℕ) (f : PlacedField) (old new : List Definition) → slice_get (package_fields p) count ≡ Some f →
    CountsAsField p count → AddsField p count f old new →
    HaveMembersBelow p count methods old → HaveMembersBelow p (count + 1) methods new
field_added p count methods f old new at c (typed {t = t} is ch) h = fields_added p count methods f t old new at (counting_field p count f at c) is ch h
field_added p count methods f old new at c (untyped none e) h =
    subst (HaveMembersBelow p (count + 1) methods) (sym e)
    (fields_skipped p count methods old (λ d n g u k is.
    none u (subst (λ (z : PlacedField). HasForm p z.file z.form u) (same_field p count d n f g at k) is)) h)

-- Methods

same_method : (p : Package) (rank d : ℕ) (n : List ℕ) (f g : PlacedFunction) → slice_get (package_functions p) rank ≡ Some f → IsMethodOf p d n rank g → g ≡ f
same_method p rank d n f g e m = same_function p rank f g e m.has_rank

method_name : (p : Package) (rank d : ℕ) (n : List ℕ) (f g : PlacedFunction) → slice_get (package_functions p) rank ≡ Some f → IsMethodOf p d n rank g →
    n ≡ spelled p f.file f.function.name
method_name p rank d n f g e m = sym m.named ∙ ap (λ (z : PlacedFunction). spelled p z.file z.function.name) (same_method p rank d n f g e m)

counting_method : (p : Package) → WellFormed p.layout → (rank d : ℕ) (f : PlacedFunction) → slice_get (package_functions p) rank ≡ Some f →
    CountsAsMethod p rank → IsMethodOn p rank d →
    IsCountingMethod p d (spelled p f.file f.function.name) rank f
counting_method p w rank d f e c m =
    subst (λ k. IsCountingMethod p k (spelled p f.file f.function.name) rank f)
    (one_owner p w rank d c.definition m.name c.name m.method c.method m.is_method c.counting.is_method)
    (subst (λ n. IsCountingMethod p c.definition n rank f) (method_name p rank c.definition c.name f c.method e c.counting.is_method)
    (subst (IsCountingMethod p c.definition c.name rank) (same_method p rank c.definition c.name f c.method e c.counting.is_method) c.counting))

abbrev NoMethod : Package → (rank definition : ℕ) → List ℕ → Type 0
NoMethod p rank d n = (f : PlacedFunction) → IsCountingMethod p d n rank f → ⊥

method_later : (p : Package) (count d : ℕ) (n : List ℕ) (o : Option Method) → NoMethod p count d n → IsMethodBelow p count d n o →
    IsMethodBelow p (count + 1) d n o
method_later p count d n None none h = λ r f lt c. elim (cases_lt r count) [
  | inl below ↦ h r f below c
  | inr ge ↦ (let e : r ≡ count = omega arith in none f (subst (λ k. IsCountingMethod p d n k f) e c))
]
method_later p count d n (Some x) none h = h

methods_later : (p : Package) (fields count rank : ℕ) (d : plain.Definition) → ((n : List ℕ) → NoMethod p count rank n) →
    IsDefinitionBelow p fields count rank d → IsDefinitionBelow p fields (count + 1) rank d
methods_later p fields count rank d none h = record
    { underlying = h.underlying; has_fields = h.has_fields; has_methods = λ n. method_later p count rank n (d.method n) (none n) (h.has_methods n) }

-- a function that isn't a method that counts is passed over
pub method_skipped : (p : Package) (fields count : ℕ) (found : List Definition) → (CountsAsMethod p count → ⊥) → HaveMembersBelow p fields count found →
    HaveMembersBelow p fields (count + 1) found
method_skipped p fields count found none h = record {
  all = h.all;
  each = λ r d e. methods_later p fields count r (definition_of d) (λ n f c. none (record { definition = r; name = n; method = f; counting = c }))
      (h.each r d e);
}

-- a function without a definition is no method
pub no_owner : (p : Package) (rank : ℕ) (o : Option ℕ) → HasOwner p rank o → ((d : ℕ) → o ≡ Some d → ⊥) → CountsAsMethod p rank → ⊥
no_owner p rank None has none c = has c.definition (record { name = c.name; method = c.method; is_method = c.counting.is_method })
no_owner p rank (Some d) has none c = none d refl

method_there : (p : Package) (rank d : ℕ) (f : PlacedFunction) (s : Option Signature) → IsFoundSignature p f s →
    (c : IsCountingMethod p d (spelled p f.file f.function.name) rank f) →
    IsFoundMethod p d (spelled p f.file f.function.name) (Some (signed_method p rank f s))
method_there p rank d f s is c = (f, c, is, ap received_by_pointer c.is_method.received, refl, refl)

method_set : (p : Package) (fields count d : ℕ) (f : PlacedFunction) (x y : plain.Definition) → slice_get (package_functions p) count ≡ Some f →
    IsCountingMethod p d (spelled p f.file f.function.name) count f →
    SetsMethodOf p count f x y → IsDefinitionBelow p fields count d x → IsDefinitionBelow p fields (count + 1) d y
method_set p fields count d f x y at c s h = record {
  underlying = subst (IsUnderlyingOf p d) (sym s.sets.underlying) h.underlying;
  has_fields = λ n. subst (IsFieldBelow p fields d n) (sym (s.sets.fields n)) (h.has_fields n);
  has_methods = λ n. elim (cases_bytes n (spelled p f.file f.function.name)) [
    | inl same ↦ subst (λ z. IsMethodBelow p (count + 1) d z (y.method z)) (sym same)
        (subst (IsMethodBelow p (count + 1) d (spelled p f.file f.function.name)) (sym s.sets.here) (method_there p count d f s.signature s.is_signature c))
    | inr ne ↦ subst (IsMethodBelow p (count + 1) d n) (sym (s.sets.elsewhere n ne))
        (method_later p count d n (x.method n) (λ g k. ne (method_name p count d n f g at k.is_method)) (h.has_methods n))
  ];
}

pub method_changed : (p : Package) (rank : ℕ) (f : PlacedFunction) (old : List Definition) (d : ℕ) (x y : Definition) → d < length old →
    x ≡ get_or old d x → SetsMethodOf p rank f (definition_of x) (definition_of y) →
    ChangesAt old (set old d y) d (λ a b. SetsMethodOf p rank f (definition_of a) (definition_of b))
method_changed p rank f old d x y lt at s = changes_set old d x y (λ a b. SetsMethodOf p rank f (definition_of a) (definition_of b)) lt at s

-- a method that counts is added
pub method_added : (p : Package) → WellFormed p.layout → (fields count d : ℕ) (f : PlacedFunction) (old new : List Definition) →
    slice_get (package_functions p) count ≡ Some f → CountsAsMethod p count →
    IsMethodOn p count d → ChangesAt old new d (λ x y. SetsMethodOf p count f (definition_of x) (definition_of y)) → HaveMembersBelow p fields count old →
    HaveMembersBelow p fields (count + 1) new
method_added p w fields count d f old new at c m ch h =
    let counting = counting_method p w count d f at c m in
    record {
      all = ch.size ∙ h.all;
      each = λ r x e. elim (cases_eq r d) [
        | inl same ↦ (let after : ch.after ≡ x = same_Some ch.after x (sym ch.is ∙ (ap (slice_get new) (sym same) ∙ e)) in
            subst (λ k. IsDefinitionBelow p fields (count + 1) k (definition_of x)) (sym same)
            (subst (λ z. IsDefinitionBelow p fields (count + 1) d (definition_of z)) after
            (method_set p fields count d f (definition_of ch.before) (definition_of ch.after) at counting ch.changed (h.each d ch.before ch.was))))
        | inr ne ↦ methods_later p fields count r (definition_of x) (λ n g k. ne (one_owner p w count d r m.name n m.method g m.is_method k.is_method))
            (h.each r x (sym (ch.elsewhere r ne) ∙ e))
      ];
    }

-- All fields and methods are added

all_fields : (p : Package) (d : ℕ) (n : List ℕ) (o : Option Field) → IsFieldBelow p (length (package_fields p)) d n o → IsFoundField p d n o
all_fields p d n None h = λ r f t c is. h r f t (slice_get_within (package_fields p) r f c.is_field.has_rank) c is
all_fields p d n (Some x) h = h

all_methods : (p : Package) (d : ℕ) (n : List ℕ) (o : Option Method) → IsMethodBelow p (length (package_functions p)) d n o → IsFoundMethod p d n o
all_methods p d n None h = λ r f c. h r f (slice_get_within (package_functions p) r f c.is_method.has_rank) c
all_methods p d n (Some x) h = h

pub have_definitions : (p : Package) (found : List Definition) → HaveMembersBelow p (length (package_fields p)) (length (package_functions p)) found →
    HaveDefinitions p found
have_definitions p found h = record {
  all = h.all;
  each = λ r d e.
      let k = h.each r d e in
      record {
        underlying = k.underlying;
        fields = λ n. all_fields p r n ((definition_of d).field n) (k.has_fields n);
        methods = λ n. all_methods p r n ((definition_of d).method n) (k.has_methods n);
      };
}

-- What a written member has, by what is found for its type or its signature

no_other_form : (p : Package) (file : ℕ) (x : TypeTree) → ((t : PlainType) → IsTypeOf p file x t → ⊥) → (t : WrittenAs) → HasForm p file (OfType x) t → ⊥
no_other_form p file x none (AFieldOf t) h = none t h
no_other_form p file x none (AMethodOf s) h = h

pub type_written : (p : Package) (file : ℕ) (x : TypeTree) (o : Option PlainType) → IsTypeFound p file x o →
    IsWrittenFound p file (OfType x) (option_map AFieldOf o)
type_written p file x None h = no_other_form p file x h
type_written p file x (Some t) h = h

no_other_signature : (p : Package) (file : ℕ) (ps : List (Item ParamTree)) (r : ResultTree) → ((s : Signature) → IsSignatureOf p file ps r s → ⊥) →
    (t : WrittenAs) → HasForm p file (OfSignature ps r) t → ⊥
no_other_signature p file ps r none (AFieldOf t) h = h
no_other_signature p file ps r none (AMethodOf s) h = none s h

pub signature_written : (p : Package) (file : ℕ) (ps : List (Item ParamTree)) (r : ResultTree) (o : Option Signature) → IsSignatureFound p file ps r o →
    IsWrittenFound p file (OfSignature ps r) (option_map AMethodOf o)
signature_written p file ps r None h = no_other_signature p file ps r h
signature_written p file ps r (Some s) h = h
