-- The types, fields and functions of a package stand in its files.
use Rattle.std.proofs.Common.{ℕ, suc, ◌≡◌, ◌<◌, List, [], ◌∷◌, length, map, arith}
use Rattle.std.specs.Prelude.{Some, slice_get}
use Rattle.std.specs.List.{AllByRecursion}
use Rattle.base_lemmas.proofs.EachElement.{all_append}
use Rattle.go_ast.specs.Tree.{Item, FieldTree, MethodTree, BodyTree, Other, Struct, Interface, DeclTree, VarDecl, TypeDecl, FuncDecl}
use Rattle.go_ast.specs.SourceFile.{SourceFile}
use Rattle.types_declared.specs.Files.{RankedSource, ranked_files, group_items}
use Rattle.law_tokens.proofs.Elements.{all_got, all_flat, all_made, all_map, all_numbered}
use Rattle.types_declared.specs.Package.{Package, PlacedType, PlacedFunction, placed_type, decl_types, decl_functions, types_in, functions_in, package_types}
use Rattle.types_declared.specs.Package.{package_functions}
use Rattle.types_declared.specs.Definitions.{OfType, OfSignature, PlacedField, body_fields, fields_from, package_fields}

-- the files by their ranks

abbrev pub AllRanked : List SourceFile → Type 0
AllRanked files = AllByRecursion (λ (r : RankedSource). r.0 < length files) (ranked_files files)

pub all_ranked : (files : List SourceFile) → AllRanked files
all_ranked files = all_numbered (length files) 0 files (omega arith)

-- what one declaration declares

abbrev named_field : (rank file : ℕ) → Item FieldTree → Item ℕ → PlacedField
named_field rank file i name = record { definition = rank; file = file; name = name.value; form = OfType i.value.type_use }

abbrev named_fields : (rank file : ℕ) → Item FieldTree → List PlacedField
named_fields rank file i = map (named_field rank file i) i.value.names

abbrev asked_field : (rank file : ℕ) → Item MethodTree → PlacedField
asked_field rank file i = record { definition = rank; file = file; name = i.value.name; form = OfSignature i.value.params i.value.result }

module _ (n : ℕ) where
  types_of : (file : ℕ) → file < n → (d : DeclTree) → AllByRecursion (λ (t : PlacedType). t.file < n) (decl_types file d)
  types_of file lt (VarDecl k g s) = tt
  types_of file lt (TypeDecl k g s) = all_map (λ (t : PlacedType). t.file < n) (placed_type file) (λ t. lt) (group_items g)
  types_of file lt (FuncDecl k f s) = tt

  functions_of : (file : ℕ) → file < n → (d : DeclTree) → AllByRecursion (λ (t : PlacedFunction). t.file < n) (decl_functions file d)
  functions_of file lt (VarDecl k g s) = tt
  functions_of file lt (TypeDecl k g s) = tt
  functions_of file lt (FuncDecl k f s) = (lt, tt)

  fields_of : (rank file : ℕ) → file < n → (b : BodyTree) → AllByRecursion (λ (x : PlacedField). x.file < n) (body_fields rank file b)
  fields_of rank file lt (Other t) = tt
  fields_of rank file lt (Struct k o fs c) =
      all_made (λ (x : PlacedField). x.file < n) (named_fields rank file)
      (λ i. all_map (λ (x : PlacedField). x.file < n) (named_field rank file i) (λ name. lt) i.value.names) fs
  fields_of rank file lt (Interface k o ms c) = all_map (λ (x : PlacedField). x.file < n) (asked_field rank file) (λ i. lt) ms

  fields_in : (rank : ℕ) (ds : List PlacedType) → AllByRecursion (λ (t : PlacedType). t.file < n) ds →
      AllByRecursion (λ (x : PlacedField). x.file < n) (fields_from rank ds)
  fields_in rank [] a = tt
  fields_in rank (d ∷ ds) a =
      all_append (λ (x : PlacedField). x.file < n) (body_fields rank d.file d.spec.body) (fields_from (suc rank) ds) (fields_of rank d.file a.0 d.spec.body)
      (fields_in (suc rank) ds a.1)

-- of a whole package

module _ (p : Package) where
  abbrev Below : RankedSource → Type 0
  Below r = r.0 < length p.files

  all_types : AllByRecursion (λ (t : PlacedType). t.file < length p.files) (package_types p)
  all_types =
      let Q : PlacedType → Type 0 = λ t. t.file < length p.files in
      all_flat Below Q types_in (λ r lt. all_made Q (decl_types r.0) (types_of (length p.files) r.0 lt) r.1.tree.decls) (ranked_files p.files) (all_ranked
      p.files)

  all_functions : AllByRecursion (λ (t : PlacedFunction). t.file < length p.files) (package_functions p)
  all_functions =
      let Q : PlacedFunction → Type 0 = λ t. t.file < length p.files in
      all_flat Below Q functions_in (λ r lt. all_made Q (decl_functions r.0) (functions_of (length p.files) r.0 lt) r.1.tree.decls) (ranked_files p.files)
      (all_ranked p.files)

  pub type_file : (rank : ℕ) (t : PlacedType) → slice_get (package_types p) rank ≡ Some t → t.file < length p.files
  type_file rank t is = all_got (λ (x : PlacedType). x.file < length p.files) (package_types p) rank t all_types is

  pub field_file : (rank : ℕ) (f : PlacedField) → slice_get (package_fields p) rank ≡ Some f → f.file < length p.files
  field_file rank f is =
      all_got (λ (x : PlacedField). x.file < length p.files) (package_fields p) rank f (fields_in (length p.files) 0 (package_types p) all_types) is

  pub function_file : (rank : ℕ) (f : PlacedFunction) → slice_get (package_functions p) rank ≡ Some f → f.file < length p.files
  function_file rank f is = all_got (λ (x : PlacedFunction). x.file < length p.files) (package_functions p) rank f all_functions is
