-- The declarations of files with new numbers of tokens are the old ones, with the new numbers.
use Rattle.std.proofs.Common.{ℕ, suc, ◌≡◌, ◌+◌, List, [], ◌∷◌, ◌++◌, map, refl, sym, ap, ◌∙◌}
use Rattle.std.specs.List.{flat_map, enumerate_from}
use Rattle.std.proofs.lemmas.List.{map-append}
use Rattle.go_ast.specs.SourceFile.{SourceFile}
use Rattle.go_ast.specs.Tree.{Item, Group, single, several, GlobalTree, FieldTree, MethodTree, BodyTree}
use Rattle.go_ast.specs.Tree.{Other, Struct, Interface, TypeTree, ParamTree, ResultTree, IdentTree}
use Rattle.go_ast.specs.Tree.{no_result, one_result, results, TypeSpecTree, DeclTree, VarDecl, TypeDecl, FuncDecl}
use Rattle.types_declared.specs.Files.{RankedSource, group_items}
use Rattle.types_declared.specs.Package.{PlacedVariable, PlacedType, PlacedFunction, variables_of, placed_type, decl_variables, decl_types, decl_functions}
use Rattle.types_declared.specs.Package.{declared_variables, declared_types, declared_functions}
use Rattle.types_declared.specs.MeaningOf.{parameter_types, result_types}
use Rattle.types_declared.specs.Definitions.{PlacedField, WrittenForm, OfType, OfSignature, body_fields, fields_from}
use Rattle.law_rename.specs.Renumbered.{item_by, items_by, group_by, ident_by, type_by, global_by}
use Rattle.law_rename.specs.Renumbered.{field_by, method_by, body_by, type_spec_by, param_by, result_by, func_by}
use Rattle.law_rename.specs.Renumbered.{decl_by}
use Rattle.law_changed_types.specs.RenumberedPackage.{AreRenumberedFiles}

-- lists

two : {A B C : Type 0} (f : A → B → C) {a c : A} {b d : B} → a ≡ c → b ≡ d → f a b ≡ f c d
two f {c = c} {b = b} e h = ap (λ z. f z b) e ∙ ap (λ z. f c z) h

-- what `f` gives for changed elements is what it gives for the old ones, changed
pub map_by : {X Y : Type 0} (f g : X → Y) (h : X → X) (k : Y → Y) → ((x : X) → g (h x) ≡ k (f x)) → (xs : List X) → map g (map h xs) ≡ map k (map f xs)
map_by f g h k each [] = refl
map_by f g h k each (x ∷ xs) = two (λ y ys. y ∷ ys) (each x) (map_by f g h k each xs)

pub flat_by : {X Y : Type 0} (f g : X → List Y) (h : X → X) (k : Y → Y) → ((x : X) → g (h x) ≡ map k (f x)) → (xs : List X) →
    flat_map g (map h xs) ≡ map k (flat_map f xs)
flat_by f g h k each [] = refl
flat_by f g h k each (x ∷ xs) = two (λ y ys. y ++ ys) (each x) (flat_by f g h k each xs) ∙ sym (map-append k (f x) (flat_map f xs))

items_of_group : {X : Type 0} (g : ℕ → ℕ) (h : X → X) (x : Group X) → group_items (group_by g h x) ≡ map h (group_items x)
items_of_group g h (single x) = refl
items_of_group {X} g h (several o xs c) = map_by (λ (i : Item X). i.value) (λ i. i.value) (item_by g h) h (λ i. refl) xs

-- declarations with new numbers

abbrev pub new_variable : (ℕ → ℕ → ℕ) → PlacedVariable → PlacedVariable
new_variable t v = record { file = v.file; name = t v.file v.name; type_use = type_by (t v.file) v.type_use }

abbrev pub new_type : (ℕ → ℕ → ℕ) → PlacedType → PlacedType
new_type t d = record { file = d.file; spec = type_spec_by (t d.file) d.spec }

abbrev pub new_function : (ℕ → ℕ → ℕ) → PlacedFunction → PlacedFunction
new_function t f = record { file = f.file; function = func_by (t f.file) f.function }

abbrev pub form_by : (ℕ → ℕ) → WrittenForm → WrittenForm
form_by g (OfType t) = OfType (type_by g t)
form_by g (OfSignature ps r) = OfSignature (items_by g (param_by g) ps) (result_by g r)

abbrev pub new_field : (ℕ → ℕ → ℕ) → PlacedField → PlacedField
new_field t f = record { definition = f.definition; file = f.file; name = t f.file f.name; form = form_by (t f.file) f.form }

module _ (t : ℕ → ℕ → ℕ) where
  specified : (n : ℕ) (v : GlobalTree) → variables_of n (global_by (t n) v) ≡ map (new_variable t) (variables_of n v)
  specified n v =
      map_by (λ (i : Item ℕ). record { file = n; name = i.value; type_use = v.type_use })
      (λ i. record { file = n; name = i.value; type_use = type_by (t n) v.type_use }) (item_by (t n) (t n)) (new_variable t) (λ i. refl) v.names

  decl_variables_by : (n : ℕ) (d : DeclTree) → decl_variables n (decl_by (t n) d) ≡ map (new_variable t) (decl_variables n d)
  decl_variables_by n (VarDecl p g s) =
      ap (flat_map (variables_of n)) (items_of_group (t n) (global_by (t n)) g)
      ∙ flat_by (variables_of n) (variables_of n) (global_by (t n)) (new_variable t) (specified n) (group_items g)
  decl_variables_by n (TypeDecl p g s) = refl
  decl_variables_by n (FuncDecl p f s) = refl

  decl_types_by : (n : ℕ) (d : DeclTree) → decl_types n (decl_by (t n) d) ≡ map (new_type t) (decl_types n d)
  decl_types_by n (VarDecl p g s) = refl
  decl_types_by n (TypeDecl p g s) =
      ap (map (placed_type n)) (items_of_group (t n) (type_spec_by (t n)) g)
      ∙ map_mixed (group_items g) where
        map_mixed : (xs : List TypeSpecTree) → map (placed_type n) (map (type_spec_by (t n)) xs) ≡ map (new_type t) (map (placed_type n) xs)
        map_mixed [] = refl
        map_mixed (x ∷ xs) = ap (λ z. placed_type n (type_spec_by (t n) x) ∷ z) (map_mixed xs)
  decl_types_by n (FuncDecl p f s) = refl

  decl_functions_by : (n : ℕ) (d : DeclTree) → decl_functions n (decl_by (t n) d) ≡ map (new_function t) (decl_functions n d)
  decl_functions_by n (VarDecl p g s) = refl
  decl_functions_by n (TypeDecl p g s) = refl
  decl_functions_by n (FuncDecl p f s) = refl

  -- what is listed of all files
  listed : {Y : Type 0} (list : ℕ → DeclTree → List Y) (k : Y → Y) → ((n : ℕ) (d : DeclTree) → list n (decl_by (t n) d) ≡ map k (list n d)) →
      (n : ℕ) (fs gs : List SourceFile) → AreRenumberedFiles t n fs gs →
      flat_map (λ (r : RankedSource). flat_map (list r.0) r.1.tree.decls) (enumerate_from n gs) ≡
      map k (flat_map (λ (r : RankedSource). flat_map (list r.0) r.1.tree.decls) (enumerate_from n fs))
  listed list k each n [] [] are = refl
  listed list k each n [] (g ∷ gs) are = absurd are
  listed list k each n (f ∷ fs) [] are = absurd are
  listed list k each n (f ∷ fs) (g ∷ gs) are =
      let later = flat_map (λ (r : RankedSource). flat_map (list r.0) r.1.tree.decls) (enumerate_from (n + 1) fs) in
      two (λ y ys. y ++ ys)
      (ap (flat_map (list n)) are.0 ∙ flat_by (list n) (list n) (decl_by (t n)) k (each n) f.tree.decls)
      (listed list k each (n + 1) fs gs are.1)
      ∙ sym (map-append k (flat_map (list n) f.tree.decls) later)

  pub variables_by : (fs gs : List SourceFile) → AreRenumberedFiles t 0 fs gs → declared_variables gs ≡ map (new_variable t) (declared_variables fs)
  variables_by fs gs are = listed decl_variables (new_variable t) decl_variables_by 0 fs gs are

  pub types_by : (fs gs : List SourceFile) → AreRenumberedFiles t 0 fs gs → declared_types gs ≡ map (new_type t) (declared_types fs)
  types_by fs gs are = listed decl_types (new_type t) decl_types_by 0 fs gs are

  pub functions_by : (fs gs : List SourceFile) → AreRenumberedFiles t 0 fs gs → declared_functions gs ≡ map (new_function t) (declared_functions fs)
  functions_by fs gs are = listed decl_functions (new_function t) decl_functions_by 0 fs gs are

  -- fields

  body_fields_by : (rank n : ℕ) (b : BodyTree) → body_fields rank n (body_by (t n) b) ≡ map (new_field t) (body_fields rank n b)
  body_fields_by rank n (Other x) = refl
  body_fields_by rank n (Interface p o ms c) =
      let asked : Item MethodTree → PlacedField = λ i.
      record { definition = rank; file = n; name = i.value.name; form = OfSignature i.value.params i.value.result } in
      map_by asked asked (item_by (t n) (method_by (t n))) (new_field t) (λ i. refl) ms
  body_fields_by rank n (Struct p o fs c) =
      let placed : Item FieldTree → List PlacedField = λ i.
      map (λ (x : Item ℕ). record { definition = rank; file = n; name = x.value; form = OfType i.value.type_use }) i.value.names in
      flat_by placed placed (item_by (t n) (field_by (t n))) (new_field t) (λ i.
      map_by (λ (x : Item ℕ). record { definition = rank; file = n; name = x.value; form = OfType i.value.type_use })
      (λ x. record { definition = rank; file = n; name = x.value; form = OfType (type_by (t n) i.value.type_use) }) (item_by (t n) (t n)) (new_field t)
      (λ x. refl) i.value.names) fs

  pub fields_by : (rank : ℕ) (ds : List PlacedType) → fields_from rank (map (new_type t) ds) ≡ map (new_field t) (fields_from rank ds)
  fields_by rank [] = refl
  fields_by rank (d ∷ ds) =
      two (λ y ys. y ++ ys) (body_fields_by rank d.file d.spec.body) (fields_by (suc rank) ds)
      ∙ sym (map-append (new_field t) (body_fields rank d.file d.spec.body) (fields_from (suc rank) ds))

-- type expressions of functions

pub parameters_by : (g : ℕ → ℕ) (ps : List (Item ParamTree)) → parameter_types (items_by g (param_by g) ps) ≡ map (type_by g) (parameter_types ps)
parameters_by g ps =
    let types : Item ParamTree → List TypeTree = λ i. map (λ (n : Item IdentTree). i.value.type_use) i.value.names in
    flat_by types types (item_by g (param_by g)) (type_by g)
    (λ i. map_by (λ (n : Item IdentTree). i.value.type_use) (λ n. type_by g i.value.type_use) (item_by g (ident_by g)) (type_by g) (λ n. refl) i.value.names) ps

pub results_by : (g : ℕ → ℕ) (r : ResultTree) → result_types (result_by g r) ≡ map (type_by g) (result_types r)
results_by g no_result = refl
results_by g (one_result x) = refl
results_by g (results o ts c) = map_by (λ (i : Item TypeTree). i.value) (λ i. i.value) (item_by g (type_by g)) (type_by g) (λ i. refl) ts
