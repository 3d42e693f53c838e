-- The names of the methods that interfaces ask for are legible, if the names of the interfaces' types and of the methods are.
use Rattle.std.proofs.Common.{ℕ, zero, suc, ◌≡◌, ◌==◌, inl, inr, Bool, true, false, if◌then◌else◌, List, [], ◌∷◌, ◌++◌, Option, Some, None, map, refl, subst}
use Rattle.std.specs.Prelude.{slice_get}
use Rattle.std.specs.List.{AllByRecursion, flat_map}
use Rattle.std.specs.Option.{option_flatten}
use Rattle.std.proofs.lemmas.Option.{none-some, same_Some}
use Rattle.go_ast.specs.SourceFile.{SourceFile}
use Rattle.go_ast.specs.Tree.{Item, MethodTree, BodyTree, Other, Struct, Interface}
use Rattle.types_declared.specs.Package.{PlacedType, declared_types}
use Rattle.types_info.proofs.DeclKinds.{Holds}
use Rattle.build_object.specs.Lines.{FunctionName, Method}
use Rattle.build_object.specs.Names.{MethodAsked, asked_by_body, asked_if, asked_in_file, asked_names_by, asked_names_in, all_asked_names, asked_names_of}
use Rattle.build_object.specs.Names.{name_of_type, names_of_fields, spelled_in}
use Rattle.build_object.specs.Sources.{asked_there}
use Rattle.law_objects.specs.Legible.{IsLegibleFunction}

-- The names of the methods that interfaces of these files ask for are legible: at their tokens, and by the ranks of members.
pub record AskLegible (path : List ℕ) (files : List SourceFile) : Type 0 where
  pub by_token : (file n : ℕ) (name : FunctionName) → asked_there (asked_in_file path files file) n ≡ Some name → IsLegibleFunction name
  pub by_rank : (rank : ℕ) (name : FunctionName) → option_flatten (slice_get (all_asked_names path files) rank) ≡ Some name → IsLegibleFunction name

abbrev AllLegible : List MethodAsked → Type 0
AllLegible ms = AllByRecursion (λ m. IsLegibleFunction m.name) ms

abbrev IsLegibleIf : Option FunctionName → Type 0
IsLegibleIf o = (name : FunctionName) → o ≡ Some name → IsLegibleFunction name

abbrev AllLegibleIf : List (Option FunctionName) → Type 0
AllLegibleIf os = AllByRecursion IsLegibleIf os

-- the name of a first method, or one of later methods
first_name : (m : MethodAsked) (later : Option FunctionName) → IsLegibleFunction m.name → IsLegibleIf later → (b : Bool) (name : FunctionName) →
    (if b then Some m.name else later) ≡ Some name → IsLegibleFunction name
first_name m later own all true name h = subst IsLegibleFunction (same_Some m.name name h) own
first_name m later own all false name h = all name h

there : (ms : List MethodAsked) → AllLegible ms → (n : ℕ) (name : FunctionName) → asked_there ms n ≡ Some name → IsLegibleFunction name
there [] all n name e = absurd (none-some name e)
there (m ∷ ms) all n name e = first_name m (asked_there ms n) all.0 (λ k h. there ms all.1 n k h) (m.place == n) name e

ranked : (os : List (Option FunctionName)) → AllLegibleIf os → (rank : ℕ) (name : FunctionName) → option_flatten (slice_get os rank) ≡ Some name →
    IsLegibleFunction name
ranked [] all rank name e = absurd (none-some name e)
ranked (o ∷ os) all zero name e = by_option o all.0 e
  where
    by_option : (o : Option FunctionName) → IsLegibleIf o → option_flatten (Some o) ≡ Some name → IsLegibleFunction name
    by_option None each h = absurd (none-some name h)
    by_option (Some f) each h = each name h
ranked (o ∷ os) all (suc rank) name e = ranked os all.1 rank name e

joined : {X : Type 0} (P : X → Type 0) (xs ys : List X) → AllByRecursion P xs → AllByRecursion P ys → AllByRecursion P (xs ++ ys)
joined P [] ys all also = also
joined P (x ∷ xs) ys all also = (all.0, joined P xs ys all.1 also)

fields_named : (ns : List (Item ℕ)) → AllLegibleIf (map (λ (i : Item ℕ). None) ns)
fields_named [] = tt
fields_named (n ∷ ns) = ((λ name e. absurd (none-some name e)), fields_named ns)

module _ (path : List ℕ) (files : List SourceFile) where
  -- what the interface of a type definition asks for is legible
  abbrev pub AsksLegibly : PlacedType → Type 0
  AsksLegibly t = (k o c : ℕ) (ms : List (Item MethodTree)) → t.spec.body ≡ Interface k o ms c → (i : Item MethodTree) → Holds ms i →
      IsLegibleFunction (Method (name_of_type path files t) (spelled_in files t.file i.value.name))

  methods_there : (t : PlacedType) (ms : List (Item MethodTree)) →
      ((i : Item MethodTree) → Holds ms i → IsLegibleFunction (Method (name_of_type path files t) (spelled_in files t.file i.value.name))) →
      AllLegible (asked_names_of (name_of_type path files t) files t.file ms)
  methods_there t [] each = tt
  methods_there t (m ∷ ms) each = (each m (inl refl), methods_there t ms (λ i h. each i (inr h)))

  body_there : (t : PlacedType) (b : BodyTree) → t.spec.body ≡ b → AsksLegibly t → AllLegible (asked_by_body path files t b)
  body_there t (Other x) e each = tt
  body_there t (Struct k o fs c) e each = tt
  body_there t (Interface k o ms c) e each = methods_there t ms (each k o c ms e)

  there_if : (one : Bool) (t : PlacedType) → AsksLegibly t → AllLegible (if one then asked_by_body path files t t.spec.body else [])
  there_if true t each = body_there t t.spec.body refl each
  there_if false t each = tt

  types_there : (file : ℕ) (ts : List PlacedType) → ((t : PlacedType) → Holds ts t → AsksLegibly t) → AllLegible (flat_map (asked_if path files file) ts)
  types_there file [] each = tt
  types_there file (t ∷ ts) each =
      joined (λ (m : MethodAsked). IsLegibleFunction m.name) (asked_if path files file t) (flat_map (asked_if path files file) ts)
      (there_if (t.file == file) t (each t (inl refl))) (types_there file ts (λ u h. each u (inr h)))

  methods_named : (t : PlacedType) (ms : List (Item MethodTree)) →
      ((i : Item MethodTree) → Holds ms i → IsLegibleFunction (Method (name_of_type path files t) (spelled_in files t.file i.value.name))) →
      AllLegibleIf (map (λ (i : Item MethodTree). Some (Method (name_of_type path files t) (spelled_in files t.file i.value.name))) ms)
  methods_named t [] each = tt
  methods_named t (m ∷ ms) each = (
    (λ name e. subst IsLegibleFunction (same_Some (Method (name_of_type path files t) (spelled_in files t.file m.value.name)) name e) (each m (inl refl))),
    methods_named t ms (λ i h. each i (inr h)),
  )

  body_named : (t : PlacedType) (b : BodyTree) → t.spec.body ≡ b → AsksLegibly t → AllLegibleIf (asked_names_by path files t b)
  body_named t (Other x) e each = tt
  body_named t (Struct k o fs c) e each = fields_named (names_of_fields fs)
  body_named t (Interface k o ms c) e each = methods_named t ms (each k o c ms e)

  types_named : (ts : List PlacedType) → ((t : PlacedType) → Holds ts t → AsksLegibly t) → AllLegibleIf (flat_map (asked_names_in path files) ts)
  types_named [] each = tt
  types_named (t ∷ ts) each =
      joined IsLegibleIf (asked_names_in path files t) (flat_map (asked_names_in path files) ts) (body_named t t.spec.body refl (each t (inl refl)))
      (types_named ts (λ u h. each u (inr h)))

  pub ask_legibly : ((t : PlacedType) → Holds (declared_types files) t → AsksLegibly t) → AskLegible path files
  ask_legibly each = record {
    by_token = λ file n name e. there (asked_in_file path files file) (types_there file (declared_types files) each) n name e;
    by_rank = λ rank name e. ranked (all_asked_names path files) (types_named (declared_types files) each) rank name e;
  }
