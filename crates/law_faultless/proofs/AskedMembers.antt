-- Which written members are methods that interfaces ask for, and what they are called in objects.
use Rattle.std.proofs.Common.{ℕ, zero, suc, ◌≡◌, ◌+◌, List, [], ◌∷◌, ◌++◌, map, ap, sym, subst, refl, ◌∙◌, arith}
use Rattle.std.specs.Prelude.{⊤, Option, Some, None, slice_get}
use Rattle.std.specs.List.{flat_map}
use Rattle.std.proofs.lemmas.Option.{none-some, same_Some}
use Rattle.go_ast.specs.SourceFile.{SourceFile}
use Rattle.go_ast.specs.Tree.{Item, TypeTree, FieldTree, MethodTree, ParamTree, ResultTree, BodyTree, Other, Struct, Interface}
use Rattle.types_declared.specs.Definitions.{PlacedField, OfType, OfSignature, body_fields, fields_from, package_fields}
use Rattle.types_declared.specs.Package.{Package, PlacedType, package_types}
use Rattle.build_object.specs.Lines.{FunctionName, Method}
use Rattle.build_object.specs.Names.{spelled_in, name_of_type, names_of_fields, asked_names_by, asked_names_in, all_asked_names}

module _ (path : List ℕ) (files : List SourceFile) (ds : List PlacedType) where
  -- the member f is a method that an interface asks for, and has this name in objects
  pub record IsAskedBy (f : PlacedField) (name : FunctionName) : Type 0 where
    pub definition : PlacedType
    pub is_definition : slice_get ds f.definition ≡ Some definition
    pub of_interface : (k : ℕ) × ((o : ℕ) × ((ms : List (Item MethodTree)) × ((c : ℕ) × (definition.spec.body ≡ Interface k o ms c))))
    pub called : name ≡ Method (name_of_type path files definition) (spelled_in files f.file f.name)

  -- what is said of a member and of its name, if it is asked for
  abbrev IsAlong : PlacedField → Option FunctionName → Type 0
  IsAlong f o = ((name : FunctionName) → o ≡ Some name → IsAskedBy f name) ×
      ((ps : List (Item ParamTree)) (r : ResultTree) → f.form ≡ OfSignature ps r → (name : FunctionName) × (o ≡ Some name))

  abbrev Along : List PlacedField → List (Option FunctionName) → Type 0
  Along [] [] = ⊤
  Along [] (o ∷ os) = ⊥
  Along (f ∷ fs) [] = ⊥
  Along (f ∷ fs) (o ∷ os) = IsAlong f o × Along fs os

  along_append : (fs gs : List PlacedField) (os qs : List (Option FunctionName)) → Along fs os → Along gs qs → Along (fs ++ gs) (os ++ qs)
  along_append [] gs [] qs h k = k
  along_append [] gs (o ∷ os) qs h k = absurd h
  along_append (f ∷ fs) gs [] qs h k = absurd h
  along_append (f ∷ fs) gs (o ∷ os) qs h k = (h.0, along_append fs gs os qs h.1 k)

  along_at : (fs : List PlacedField) (os : List (Option FunctionName)) (rank : ℕ) (f : PlacedField) → Along fs os → slice_get fs rank ≡ Some f →
      (o : Option FunctionName) × ((slice_get os rank ≡ Some o) × IsAlong f o)
  along_at [] os rank f h e = absurd (none-some f e)
  along_at (g ∷ gs) [] rank f h e = absurd h
  along_at (g ∷ gs) (o ∷ os) zero f h e = (o, (refl, subst (λ (z : PlacedField). IsAlong z o) (same_Some g f e) h.0))
  along_at (g ∷ gs) (o ∷ os) (suc rank) f h e = along_at gs os rank f h.1 e

  -- a field has no such name

  abbrev unasked : List (Item ℕ) → List (Option FunctionName)
  unasked is = map (λ (i : Item ℕ). None) is

  unasked_append : (xs ys : List (Item ℕ)) → unasked (xs ++ ys) ≡ unasked xs ++ unasked ys
  unasked_append [] ys = refl
  unasked_append (x ∷ xs) ys = ap (λ z. None ∷ z) (unasked_append xs ys)

  abbrev typed_member : (n file : ℕ) → TypeTree → Item ℕ → PlacedField
  typed_member n file t i = record { definition = n; file = file; name = i.value; form = OfType t }

  names_along : (n file : ℕ) (t : TypeTree) (is : List (Item ℕ)) → Along (map (typed_member n file t) is) (unasked is)
  names_along n file t [] = tt
  names_along n file t (i ∷ is) = (((λ name e. absurd (none-some name e)), (λ ps r e. let z : ⊥ = cc in absurd z)), names_along n file t is)

  struct_along : (n file : ℕ) (fs : List (Item FieldTree)) →
      Along (flat_map (λ (i : Item FieldTree). map (typed_member n file i.value.type_use) i.value.names) fs) (unasked (names_of_fields fs))
  struct_along n file [] = tt
  struct_along n file (i ∷ is) =
      let own = map (typed_member n file i.value.type_use) i.value.names in
      let rest = flat_map (λ (j : Item FieldTree). map (typed_member n file j.value.type_use) j.value.names) is in
      subst (Along (own ++ rest)) (sym (unasked_append i.value.names (names_of_fields is)))
      (along_append own rest (unasked i.value.names) (unasked (names_of_fields is)) (names_along n file i.value.type_use i.value.names)
      (struct_along n file is))

  -- a method that an interface asks for has one

  abbrev asked_member : (n file : ℕ) → Item MethodTree → PlacedField
  asked_member n file i = record { definition = n; file = file; name = i.value.name; form = OfSignature i.value.params i.value.result }

  abbrev asked_called : PlacedType → Item MethodTree → FunctionName
  asked_called d i = Method (name_of_type path files d) (spelled_in files d.file i.value.name)

  methods_along : (n : ℕ) (d : PlacedType) → slice_get ds n ≡ Some d → (k o c : ℕ) (all : List (Item MethodTree)) → d.spec.body ≡ Interface k o all c →
      (ms : List (Item MethodTree)) → Along (map (asked_member n d.file) ms) (map (λ (i : Item MethodTree). Some (asked_called d i)) ms)
  methods_along n d at k o c all body [] = tt
  methods_along n d at k o c all body (m ∷ ms) = (
    (
      (λ name e. record { definition = d; is_definition = at; of_interface = (k, (o, (all, (c, body)))); called = sym (same_Some (asked_called d m) name e) }),
      (λ ps r e. (asked_called d m, refl)),
    ),
    methods_along n d at k o c all body ms,
  )

  body_along : (n : ℕ) (d : PlacedType) → slice_get ds n ≡ Some d → (b : BodyTree) → d.spec.body ≡ b →
      Along (body_fields n d.file b) (asked_names_by path files d b)
  body_along n d at (Other t) e = tt
  body_along n d at (Struct k o fs c) e = struct_along n d.file fs
  body_along n d at (Interface k o ms c) e = methods_along n d at k o c ms e ms

  fields_along : (n : ℕ) (rest : List PlacedType) → ((i : ℕ) (d : PlacedType) → slice_get rest i ≡ Some d → slice_get ds (n + i) ≡ Some d) →
      Along (fields_from n rest) (flat_map (asked_names_in path files) rest)
  fields_along n [] each = tt
  fields_along n (d ∷ rest) each =
      let here : slice_get ds n ≡ Some d = subst (λ k. slice_get ds k ≡ Some d) (let z : n + 0 ≡ n = omega arith in z) (each 0 d refl) in
      along_append (body_fields n d.file d.spec.body) (fields_from (suc n) rest) (asked_names_in path files d) (flat_map (asked_names_in path files) rest)
      (body_along n d here d.spec.body refl)
      (fields_along (suc n) rest
      (λ i e at. subst (λ k. slice_get ds k ≡ Some e) (let z : n + suc i ≡ suc n + i = omega arith in z) (each (suc i) e at)))

-- of a package

members_along : (c : Package) → Along c.path c.files (package_types c) (package_fields c) (all_asked_names c.path c.files)
members_along c = fields_along c.path c.files (package_types c) 0 (package_types c)
    (λ i d at. subst (λ k. slice_get (package_types c) k ≡ Some d) (let z : i ≡ 0 + i = omega arith in z) at)

pub asked_is : (c : Package) (rank : ℕ) (name : FunctionName) (f : PlacedField) → slice_get (all_asked_names c.path c.files) rank ≡ Some (Some name) →
    slice_get (package_fields c) rank ≡ Some f → IsAskedBy c.path c.files (package_types c) f name
asked_is c rank name f at has =
    let x = along_at c.path c.files (package_types c) (package_fields c) (all_asked_names c.path c.files) rank f (members_along c) has in
    x.1.1.0 name (same_Some x.0 (Some name) (sym x.1.0 ∙ at))

pub asked_has : (c : Package) (rank : ℕ) (f : PlacedField) (ps : List (Item ParamTree)) (r : ResultTree) → slice_get (package_fields c) rank ≡ Some f →
    f.form ≡ OfSignature ps r → (name : FunctionName) × (slice_get (all_asked_names c.path c.files) rank ≡ Some (Some name))
asked_has c rank f ps r has form =
    let x = along_at c.path c.files (package_types c) (package_fields c) (all_asked_names c.path c.files) rank f (members_along c) has in
    let n = x.1.1.1 ps r form in (n.0, x.1.0 ∙ ap (λ (z : Option FunctionName). Some z) n.1)
