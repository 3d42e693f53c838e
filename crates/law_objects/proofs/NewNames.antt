-- Objects print the same names of a package, and the positions of its fields stay, where its tokens get new numbers and keep their bytes.
use Rattle.std.proofs.lemmas.Bool.{eqb-true}
use Rattle.std.proofs.Common.{ℕ, suc, ◌≡◌, ◌==◌, ◌+◌, Bool, true, false, if◌then◌else◌, List, []}
use Rattle.std.proofs.Common.{◌∷◌, ◌++◌, Option, Some, None, option_map, map, refl, ap, sym, ◌∙◌}
use Rattle.std.specs.List.{flat_map}
use Rattle.std.proofs.Math.Path.{ap₂}
use Rattle.std.proofs.lemmas.List.{map-append}
use Rattle.go_ast.specs.SourceFile.{SourceFile}
use Rattle.go_ast.specs.Tree.{Item, FieldTree, MethodTree, BodyTree, Other, Struct, Interface, ReceiverTree}
use Rattle.types_declared.specs.Package.{PlacedType, PlacedFunction, declared_types, declared_functions}
use Rattle.build_object.specs.Lines.{FunctionName, GlobalName, Initializer, Method}
use Rattle.build_object.specs.Names.{spelled_in, name_of_type, type_names, is_named_init, is_initializer, function_named, function_called}
use Rattle.build_object.specs.Names.{initializers_with, functions_behind, function_names, positions_from, names_of_fields, body_positions}
use Rattle.build_object.specs.Names.{type_positions, field_positions, MethodAsked, asked_names_of, asked_by_body, asked_if, asked_in_file, asked_names_by}
use Rattle.build_object.specs.Names.{asked_names_in, all_asked_names}
use Rattle.law_rename.specs.Renumbered.{items_by, item_by, body_by, field_by, method_by, receiver_by}
use Rattle.law_changed_types.specs.RenumberedPackage.{AreRenumberedFiles}
use Rattle.law_changed_types.proofs.RenumberedTypesListed.{new_type, new_function, types_by, functions_by}

-- a field has no name in objects
abbrev pub no_name : Item ℕ → Option FunctionName
no_name i = None

module _ (t : ℕ → ℕ → ℕ) (fs gs : List SourceFile) (spelled : (file n : ℕ) → spelled_in gs file (t file n) ≡ spelled_in fs file n) (path : List ℕ) where
  same_types : (ds : List PlacedType) → map (name_of_type path gs) (map (new_type t) ds) ≡ map (name_of_type path fs) ds
  same_types [] = refl
  same_types (d ∷ ds) = ap₂ (λ name rest. record { path = path; name = name } ∷ rest) (spelled d.file d.spec.name) (same_types ds)

  named_init : (file : ℕ) (r : Option ReceiverTree) (name : List ℕ) → is_named_init (option_map (receiver_by (t file)) r) name ≡ is_named_init r name
  named_init file None name = refl
  named_init file (Some r) name = refl

  same_init : (f : PlacedFunction) → is_initializer gs (new_function t f) ≡ is_initializer fs f
  same_init f =
      named_init f.file f.function.receiver (spelled_in gs f.file (t f.file f.function.name))
      ∙ ap (is_named_init f.function.receiver) (spelled f.file f.function.name)

  named_function : (file : ℕ) (r : Option ReceiverTree) (name : List ℕ) →
      function_named path gs file (option_map (receiver_by (t file)) r) name ≡ function_named path fs file r name
  named_function file None name = refl
  named_function file (Some r) name =
      ap (λ own. Method (record { path = path; name = own }) name) (spelled file r.type_name)

  same_called : (f : PlacedFunction) → function_called path gs (new_function t f) ≡ function_called path fs f
  same_called f =
      named_function f.file f.function.receiver (spelled_in gs f.file (t f.file f.function.name))
      ∙ ap (function_named path fs f.file f.function.receiver) (spelled f.file f.function.name)

  same_functions : (k : ℕ) (xs : List PlacedFunction) → functions_behind path gs k (map (new_function t) xs) ≡ functions_behind path fs k xs
  same_functions k [] = refl
  same_functions k (f ∷ xs) =
      ap₂ (λ a rest. a ∷ rest)
      (ap₂ (λ (b : Bool) called. if b then Initializer path k else called) (same_init f) (same_called f))
      (ap (λ (b : Bool). functions_behind path gs (if b then k + 1 else k) (map (new_function t) xs)) (same_init f)
      ∙ same_functions (initializers_with fs k f) xs)

  -- written members

  same_positions : {X : Type 0} (g : ℕ → ℕ) (f : X → X) (n : ℕ) (is : List (Item X)) → positions_from n (items_by g f is) ≡ positions_from n is
  same_positions g f n [] = refl
  same_positions g f n (i ∷ is) = ap (λ rest. n ∷ rest) (same_positions g f (suc n) is)

  field_names : (g : ℕ → ℕ) (xs : List (Item FieldTree)) → names_of_fields (items_by g (field_by g) xs) ≡ items_by g g (names_of_fields xs)
  field_names g [] = refl
  field_names g (x ∷ xs) =
      ap (λ rest. items_by g g x.value.names ++ rest) (field_names g xs) ∙ sym (map-append (item_by g g) x.value.names (names_of_fields xs))

  same_body : (g : ℕ → ℕ) (b : BodyTree) → body_positions (body_by g b) ≡ body_positions b
  same_body g (Other x) = refl
  same_body g (Interface k o ms c) = same_positions g (method_by g) 0 ms
  same_body g (Struct k o xs c) = ap (positions_from 0) (field_names g xs) ∙ same_positions g g 0 (names_of_fields xs)

  positions_of : (ds : List PlacedType) → flat_map type_positions (map (new_type t) ds) ≡ flat_map type_positions ds
  positions_of [] = refl
  positions_of (d ∷ ds) = ap₂ (λ a rest. a ++ rest) (same_body (t d.file) d.spec.body) (positions_of ds)

  -- methods that interfaces ask for

  same_owner : (d : PlacedType) → name_of_type path gs (new_type t d) ≡ name_of_type path fs d
  same_owner d = ap (λ name. record { path = path; name = name }) (spelled d.file d.spec.name)

  -- by token

  abbrev pub new_asked : (file : ℕ) → MethodAsked → MethodAsked
  new_asked file a = record { place = t file a.place; name = a.name }

  methods_named : (of : GlobalName) (file : ℕ) (ms : List (Item MethodTree)) →
      asked_names_of of gs file (items_by (t file) (method_by (t file)) ms) ≡ map (new_asked file) (asked_names_of of fs file ms)
  methods_named of file [] = refl
  methods_named of file (m ∷ ms) =
      ap₂ (λ name rest. record { place = t file m.value.name; name = Method of name } ∷ rest) (spelled file m.value.name) (methods_named of file ms)

  body_asks : (d : PlacedType) (b : BodyTree) →
      asked_by_body path gs (new_type t d) (body_by (t d.file) b) ≡ map (new_asked d.file) (asked_by_body path fs d b)
  body_asks d (Other x) = refl
  body_asks d (Struct k o xs c) = refl
  body_asks d (Interface k o ms c) =
      ap (λ of. asked_names_of of gs d.file (items_by (t d.file) (method_by (t d.file)) ms)) (same_owner d)
      ∙ methods_named (name_of_type path fs d) d.file ms

  asks_if : (b : Bool) (file : ℕ) (d : PlacedType) → (b ≡ true → d.file ≡ file) →
      (if b then asked_by_body path gs (new_type t d) (body_by (t d.file) d.spec.body) else [])
      ≡ map (new_asked file) (if b then asked_by_body path fs d d.spec.body else [])
  asks_if true file d same = body_asks d d.spec.body ∙ ap (λ f. map (new_asked f) (asked_by_body path fs d d.spec.body)) (same refl)
  asks_if false file d same = refl

  types_ask : (file : ℕ) (ds : List PlacedType) →
      flat_map (asked_if path gs file) (map (new_type t) ds) ≡ map (new_asked file) (flat_map (asked_if path fs file) ds)
  types_ask file [] = refl
  types_ask file (d ∷ ds) =
      ap₂ (λ a rest. a ++ rest) (asks_if (d.file == file) file d (eqb-true d.file file)) (types_ask file ds)
      ∙ sym (map-append (new_asked file) (asked_if path fs file d) (flat_map (asked_if path fs file) ds))

  -- by rank

  no_names : (g : ℕ → ℕ) (is : List (Item ℕ)) → map (λ (i : Item ℕ). no_name i) (items_by g g is) ≡ map (λ (i : Item ℕ). no_name i) is
  no_names g [] = refl
  no_names g (i ∷ is) = ap (λ rest. None ∷ rest) (no_names g is)

  methods_ranked : (of : GlobalName) (file : ℕ) (ms : List (Item MethodTree)) →
      map (λ (i : Item MethodTree). Some (Method of (spelled_in gs file i.value.name))) (items_by (t file) (method_by (t file)) ms)
      ≡ map (λ (i : Item MethodTree). Some (Method of (spelled_in fs file i.value.name))) ms
  methods_ranked of file [] = refl
  methods_ranked of file (m ∷ ms) = ap₂ (λ name rest. Some (Method of name) ∷ rest) (spelled file m.value.name) (methods_ranked of file ms)

  body_names : (d : PlacedType) (b : BodyTree) → asked_names_by path gs (new_type t d) (body_by (t d.file) b) ≡ asked_names_by path fs d b
  body_names d (Other x) = refl
  body_names d (Struct k o xs c) =
      ap (λ is. map (λ (i : Item ℕ). no_name i) is) (field_names (t d.file) xs) ∙ no_names (t d.file) (names_of_fields xs)
  body_names d (Interface k o ms c) =
      ap (λ of. map (λ (i : Item MethodTree). Some (Method of (spelled_in gs d.file i.value.name))) (items_by (t d.file) (method_by (t d.file)) ms))
      (same_owner d)
      ∙ methods_ranked (name_of_type path fs d) d.file ms

  types_named : (ds : List PlacedType) → flat_map (asked_names_in path gs) (map (new_type t) ds) ≡ flat_map (asked_names_in path fs) ds
  types_named [] = refl
  types_named (d ∷ ds) = ap₂ (λ a rest. a ++ rest) (body_names d d.spec.body) (types_named ds)

  module _ (are : AreRenumberedFiles t 0 fs gs) where
    pub asked_kept : (file : ℕ) → asked_in_file path gs file ≡ map (new_asked file) (asked_in_file path fs file)
    asked_kept file = ap (λ ds. flat_map (asked_if path gs file) ds) (types_by t fs gs are) ∙ types_ask file (declared_types fs)

    pub asked_names_kept : all_asked_names path gs ≡ all_asked_names path fs
    asked_names_kept = ap (λ ds. flat_map (asked_names_in path gs) ds) (types_by t fs gs are) ∙ types_named (declared_types fs)

    pub types_kept : type_names path gs ≡ type_names path fs
    types_kept = ap (λ ds. map (name_of_type path gs) ds) (types_by t fs gs are) ∙ same_types (declared_types fs)

    pub functions_kept : function_names path gs ≡ function_names path fs
    functions_kept = ap (λ xs. functions_behind path gs 0 xs) (functions_by t fs gs are) ∙ same_functions 0 (declared_functions fs)

    pub positions_kept : field_positions gs ≡ field_positions fs
    positions_kept = ap (λ ds. flat_map type_positions ds) (types_by t fs gs are) ∙ positions_of (declared_types fs)
