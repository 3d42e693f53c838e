-- The names of types and functions in objects, and the positions of fields in their structs, by the files of packages.
use Rattle.std.specs.Prelude.{ℕ, suc, ◌==◌, ◌+◌, Bool, false, if◌then◌else◌, List, [], ◌∷◌, map, Option, Some, None, slice_get}
use Rattle.std.specs.List.{flat_map}
use Rattle.std.specs.Option.{option_flatten}
use Rattle.std.specs.Cmp.Lexicographic.{pointwise}
use Rattle.go_ast.specs.Tree.{Item, FieldTree, MethodTree, BodyTree, Other, Struct, Interface, ReceiverTree}
use Rattle.go_ast.specs.SourceFile.{SourceFile}
use Rattle.types_declared.specs.Laid.{init_name}
use Rattle.types_expr.specs.declared.symbol.Symbol.{Symbol}
use Rattle.types_declared.specs.Package.{PlacedType, PlacedFunction, declared_types, declared_functions, spelled_at}
use Rattle.build_object.specs.Lines.{GlobalName, FunctionName, Plain, Method, Initializer}

-- The spelling of a token, by the rank of its file.
abbrev pub spelled_in : List SourceFile → (file token : ℕ) → List ℕ
spelled_in files file token = spelled_at (slice_get files file) token

-- Types, by their ranks.

-- The name of a type definition in objects.
abbrev pub name_of_type : (path : List ℕ) → List SourceFile → PlacedType → GlobalName
name_of_type path files t = record { path = path; name = spelled_in files t.file t.spec.name }

-- The names of the type definitions of a package, by their ranks.
abbrev pub type_names : (path : List ℕ) → List SourceFile → List GlobalName
type_names path files = map (name_of_type path files) (declared_types files)

-- Functions, methods and functions `init`, by their ranks.

-- Whether a function with this receiver and name is a function `init`: it has no receiver.
abbrev pub is_named_init : Option ReceiverTree → (name : List ℕ) → Bool
is_named_init None name = pointwise ◌==◌ name init_name
is_named_init (Some r) name = false

-- Whether a function of the files is a function `init`.
abbrev pub is_initializer : List SourceFile → PlacedFunction → Bool
is_initializer files f = is_named_init f.function.receiver (spelled_in files f.file f.function.name)

-- The name of a receiver's type in objects.
abbrev pub name_of_receiver : (path : List ℕ) → List SourceFile → ℕ → ReceiverTree → GlobalName
name_of_receiver path files file r = record { path = path; name = spelled_in files file r.type_name }

-- The name in objects of a function or method with this name in a file.
abbrev pub function_named : (path : List ℕ) → List SourceFile → (file : ℕ) → Option ReceiverTree → (name : List ℕ) → FunctionName
function_named path files file None name = Plain (record { path = path; name = name })
function_named path files file (Some r) name = Method (name_of_receiver path files file r) name

-- The name in objects of a function that is no `init`.
abbrev pub function_called : (path : List ℕ) → List SourceFile → PlacedFunction → FunctionName
function_called path files f = function_named path files f.file f.function.receiver (spelled_in files f.file f.function.name)

-- The name of a function in objects, where k functions `init` stand before it.
abbrev pub function_behind : (path : List ℕ) → List SourceFile → ℕ → PlacedFunction → FunctionName
function_behind path files k f = if is_initializer files f then Initializer path k else function_called path files f

-- The number of functions `init` up to this function, where k stand before it.
abbrev pub initializers_with : List SourceFile → ℕ → PlacedFunction → ℕ
initializers_with files k f = if is_initializer files f then k + 1 else k

-- The number of functions `init` up to the last of these functions, where k stand before them.
abbrev pub initializers_among : List SourceFile → ℕ → List PlacedFunction → ℕ
initializers_among files k [] = k
initializers_among files k (f ∷ fs) = initializers_among files (initializers_with files k f) fs

-- The names of functions in objects, where k functions `init` stand before them.
abbrev pub functions_behind : (path : List ℕ) → List SourceFile → ℕ → List PlacedFunction → List FunctionName
functions_behind path files k [] = []
functions_behind path files k (f ∷ fs) = function_behind path files k f ∷ functions_behind path files (initializers_with files k f) fs

-- The names of the functions of a package in objects, by their ranks.
abbrev pub function_names : (path : List ℕ) → List SourceFile → List FunctionName
function_names path files = functions_behind path files 0 (declared_functions files)

-- Written members, by their ranks: the position of a field in its struct, and of a method in the interface that asks for it, from 0.

-- The positions of these names or methods, from n on.
abbrev pub positions_from : {X : Type 0} → ℕ → List X → List ℕ
positions_from n [] = []
positions_from n (i ∷ is) = n ∷ positions_from (suc n) is

-- The names of the fields of a struct, in order.
abbrev pub names_of_fields : List (Item FieldTree) → List (Item ℕ)
names_of_fields fs = flat_map (λ i. i.value.names) fs

-- The positions of the members that a type definition's body writes.
abbrev pub body_positions : BodyTree → List ℕ
body_positions (Other t) = []
body_positions (Struct k o fs c) = positions_from 0 (names_of_fields fs)
body_positions (Interface k o ms c) = positions_from 0 ms

-- The positions of the members that a type definition writes.
abbrev pub type_positions : PlacedType → List ℕ
type_positions t = body_positions t.spec.body

-- The positions of all written members of a package, by their ranks.
abbrev pub field_positions : List SourceFile → List ℕ
field_positions files = flat_map type_positions (declared_types files)

-- A method that an interface asks for: the token of its name in the file of the interface, and its name in objects.
pub record MethodAsked : Type 0 where
  pub place : ℕ
  pub name : FunctionName

-- The methods that the interface `of` asks for.
abbrev pub asked_names_of : (of : GlobalName) → List SourceFile → (file : ℕ) → List (Item MethodTree) → List MethodAsked
asked_names_of of files file ms = map (λ i. record { place = i.value.name; name = Method of (spelled_in files file i.value.name) }) ms

-- The methods that a type definition with this body asks for.
abbrev pub asked_by_body : (path : List ℕ) → List SourceFile → PlacedType → BodyTree → List MethodAsked
asked_by_body path files t (Other u) = []
asked_by_body path files t (Struct k o fs c) = []
asked_by_body path files t (Interface k o ms c) = asked_names_of (name_of_type path files t) files t.file ms

-- The methods that a type definition asks for, if it stands in the file.
abbrev pub asked_if : (path : List ℕ) → List SourceFile → (file : ℕ) → PlacedType → List MethodAsked
asked_if path files file t = if t.file == file then asked_by_body path files t t.spec.body else []

-- The methods that the interfaces of a file ask for.
abbrev pub asked_in_file : (path : List ℕ) → List SourceFile → (file : ℕ) → List MethodAsked
asked_in_file path files file = flat_map (asked_if path files file) (declared_types files)

-- For each member that a type definition writes, its name in objects if an interface asks for it.
abbrev pub asked_names_by : (path : List ℕ) → List SourceFile → PlacedType → BodyTree → List (Option FunctionName)
asked_names_by path files t (Other u) = []
asked_names_by path files t (Struct k o fs c) = map (λ i. None) (names_of_fields fs)
asked_names_by path files t (Interface k o ms c) = map (λ i. Some (Method (name_of_type path files t) (spelled_in files t.file i.value.name))) ms

-- The same for a type definition.
abbrev pub asked_names_in : (path : List ℕ) → List SourceFile → PlacedType → List (Option FunctionName)
asked_names_in path files t = asked_names_by path files t t.spec.body

-- The same for all written members of a package, by their ranks.
abbrev pub all_asked_names : (path : List ℕ) → List SourceFile → List (Option FunctionName)
all_asked_names path files = flat_map (asked_names_in path files) (declared_types files)

-- Types, functions and fields, by their symbols. `files_of` gives the files of the package at a path.

-- The name of a type definition in objects, by its symbol.
abbrev pub type_name : (List ℕ → List SourceFile) → Symbol → Option GlobalName
type_name files_of s = slice_get (type_names s.package (files_of s.package)) s.rank

-- The name of a function in objects, by its symbol.
abbrev pub function_name : (List ℕ → List SourceFile) → Symbol → Option FunctionName
function_name files_of s = slice_get (function_names s.package (files_of s.package)) s.rank

-- The position of a field in its struct, by its symbol.
abbrev pub position_of_field : (List ℕ → List SourceFile) → Symbol → Option ℕ
position_of_field files_of s = slice_get (field_positions (files_of s.package)) s.rank

-- The name in objects of a method that an interface asks for, by its symbol.
abbrev pub name_of_asked : (List ℕ → List SourceFile) → Symbol → Option FunctionName
name_of_asked files_of s = option_flatten (slice_get (all_asked_names s.package (files_of s.package)) s.rank)
