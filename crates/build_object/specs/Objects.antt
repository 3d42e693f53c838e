-- The object of a package: its imports and its declarations, with the code of its functions.
use Rattle.std.specs.Prelude.{ℕ, List, [], ◌∷◌, ◌++◌, map, Option, Some, None, length, option_map, option_to_list}
use Rattle.std.specs.List.{flat_map}
use Rattle.go_ast.specs.Tree.{Item, TypeTree, BasicTree, Integer, String, GlobalTree, FieldTree, BodyTree, Other, Struct, Interface, TypeSpecTree}
use Rattle.go_ast.specs.Tree.{MethodTree, ReceiverTree, FuncTree, DeclTree, VarDecl, TypeDecl, FuncDecl, FileTree}
use Rattle.types_expr.specs.Types.{PlainType}
use Rattle.types_expr.specs.World.{World}
use Rattle.types_expr.specs.Judge.{judge_type, named_type}
use Rattle.types_declared.specs.Files.{group_items}
use Rattle.types_stmt.specs.Headers.{starred}
use Rattle.types_declared.specs.MeaningOf.{parameter_types, result_types}
use Rattle.build_object.specs.Lines.{GlobalName, FunctionName, CodeLine}
use Rattle.build_object.specs.Source.{Source}
use Rattle.build_object.specs.Slots.{slots_of}
use Rattle.build_object.specs.Statements.{body_lines}

-- A method that an interface asks for.
pub record ObjectAsked : Type 0 where
  pub name : FunctionName
  pub parameters : List PlainType
  pub results : List PlainType

-- What a type is defined as: another type, a struct with fields of these types, or an interface that asks for these methods.
pub data ObjectDefinition : Type 0 where
  SameAs : PlainType → ObjectDefinition
  Fields : List PlainType → ObjectDefinition
  Asks : List ObjectAsked → ObjectDefinition

-- The first value of a variable.
pub data Initial : Type 0 where
  IntegerValue : ℕ → Initial
  TextValue : List ℕ → Initial

-- A function of an object. `parameters` begins with the receiver, if there is one.
pub record ObjectFunction : Type 0 where
  pub name : FunctionName
  pub parameters : List PlainType
  pub results : List PlainType
  pub slots : ℕ
  pub code : List CodeLine

-- A declaration of an object.
pub data ObjectDeclaration : Type 0 where
  TypeOf : GlobalName → ObjectDefinition → ObjectDeclaration
  Variable : GlobalName → PlainType → Option Initial → ObjectDeclaration
  FunctionOf : ObjectFunction → ObjectDeclaration

-- The object of a package: its path, its name, the paths of its imports and its declarations.
pub record Object : Type 0 where
  pub path : List ℕ
  pub name : List ℕ
  pub imports : List (List ℕ)
  pub declarations : List ObjectDeclaration

-- Declarations, each where its name and its types are known. In a package without faults they all are.

-- The type that is written, as a list that is empty where the type is broken.
abbrev pub written : World → TypeTree → List PlainType
written w t = option_to_list (judge_type w t).type_of

-- The types that are written, without broken ones.
abbrev pub all_written : World → List TypeTree → List PlainType
all_written w ts = flat_map (written w) ts

-- Types

-- The types of fields, one for each name.
abbrev pub field_types : World → List (Item FieldTree) → List PlainType
field_types w fs = flat_map (λ i. flat_map (λ n. written w i.value.type_use) i.value.names) fs

-- What an interface asks for by one method, if its name in objects is known.
abbrev pub object_asked : World → MethodTree → Option FunctionName → List ObjectAsked
object_asked w m None = []
object_asked w m (Some name) =
    record { name = name; parameters = all_written w (parameter_types m.params); results = all_written w (result_types m.result) } ∷ []

-- The methods that an interface asks for. `asked` gives the name of a method in objects by the token of its name in the interface.
abbrev pub asked_methods : World → (asked : ℕ → Option FunctionName) → List (Item MethodTree) → List ObjectAsked
asked_methods w asked ms = flat_map (λ i. object_asked w i.value (asked i.value.name)) ms

-- What a type with this body is defined as, if that is known. `asked` gives the names of methods, as above.
unfoldable pub definition_of : World → (asked : ℕ → Option FunctionName) → BodyTree → Option ObjectDefinition
definition_of w asked (Other t) = option_map SameAs (judge_type w t).type_of
definition_of w asked (Struct k o fs c) = Some (Fields (field_types w fs))
definition_of w asked (Interface k o ms c) = Some (Asks (asked_methods w asked ms))

-- The declaration of a type, if its name and its definition are known.
abbrev pub type_declarations : Option GlobalName → Option ObjectDefinition → List ObjectDeclaration
type_declarations None definition = []
type_declarations (Some name) None = []
type_declarations (Some name) (Some definition) = TypeOf name definition ∷ []

-- The declaration of a type definition.
abbrev pub declared_type : Source → TypeSpecTree → List ObjectDeclaration
declared_type s t = type_declarations (s.global t.name) (definition_of s.world s.asks t.body)

-- Variables

-- The value of a literal, if it is known.
unfoldable pub initial_of : Source → BasicTree → Option Initial
initial_of s (Integer n) = option_map IntegerValue (s.number n)
initial_of s (String n) = option_map TextValue (s.text n)

-- The declaration of a variable, if its type and its name are known.
abbrev pub known_variable : Option PlainType → Option GlobalName → Option Initial → List ObjectDeclaration
known_variable None name value = []
known_variable (Some own) None value = []
known_variable (Some own) (Some name) value = Variable name own value ∷ []

-- The first of some values, if there is one.
abbrev pub first_initial : List (Option Initial) → Option Initial
first_initial [] = None
first_initial (v ∷ vs) = v

-- The values behind the first.
abbrev pub other_initials : List (Option Initial) → List (Option Initial)
other_initials [] = []
other_initials (v ∷ vs) = vs

-- The declarations of variables of one type, each with the value at its place.
unfoldable pub variable_declarations : Source → Option PlainType → List (Item ℕ) → List (Option Initial) → List ObjectDeclaration
variable_declarations s own [] values = []
variable_declarations s own (n ∷ ns) values = known_variable own (s.global n.value) (first_initial values) ++ variable_declarations s own ns (other_initials
    values)

-- The literals behind the `=` of variables, and none where there is no `=`.
abbrev pub literals_of : Option (ℕ × List (Item BasicTree)) → List (Item BasicTree)
literals_of None = []
literals_of (Some v) = v.1

-- The values of literals.
abbrev pub initials_of : Source → List (Item BasicTree) → List (Option Initial)
initials_of s literals = map (λ i. initial_of s i.value) literals

-- The declarations of the variables of one `var` line.
abbrev pub global_variables : Source → GlobalTree → List ObjectDeclaration
global_variables s g = variable_declarations s (judge_type s.world g.type_use).type_of g.names (initials_of s (literals_of g.values))

-- Functions

-- The type that a receiver names, a pointer type where it has a star.
abbrev pub received_type : World → ReceiverTree → Option PlainType
received_type w r = (starred r.star (named_type (w.bound r.type_name) r.type_name)).type_of

-- The type of the receiver, as a list that is empty where there is none.
abbrev pub receiver_type : World → Option ReceiverTree → List PlainType
receiver_type w None = []
receiver_type w (Some r) = option_to_list (received_type w r)

-- The types of a function's receiver and parameters.
abbrev pub parameters_of : World → FuncTree → List PlainType
parameters_of w f = receiver_type w f.receiver ++ all_written w (parameter_types f.params)

-- The types of a function's results.
abbrev pub results_of : World → FuncTree → List PlainType
results_of w f = all_written w (result_types f.result)

-- A function of an object, by its name.
abbrev pub function_of : Source → FuncTree → FunctionName → ObjectFunction
function_of s f name = record {
  name = name;
  parameters = parameters_of s.world f;
  results = results_of s.world f;
  slots = length (slots_of s.world f);
  code = body_lines s (slots_of s.world f) (length (result_types f.result)) f.body;
}

-- The declaration of a function, by the first of these names.
abbrev pub declared_function : Source → List FunctionName → FuncTree → List ObjectDeclaration
declared_function s [] f = []
declared_function s (name ∷ others) f = FunctionOf (function_of s f name) ∷ []

-- Files and packages: declarations in order, the files by their paths. `names` are the names of the functions from here on.

-- The declarations of one declaration of a file.
unfoldable pub declared_by : Source → List FunctionName → DeclTree → List ObjectDeclaration
declared_by s names (VarDecl p g c) = flat_map (global_variables s) (group_items g)
declared_by s names (TypeDecl p g c) = flat_map (declared_type s) (group_items g)
declared_by s names (FuncDecl p f c) = declared_function s names f

-- The names behind the first.
abbrev pub others_of : List FunctionName → List FunctionName
others_of [] = []
others_of (name ∷ others) = others

-- The names of functions that are left behind a declaration: a function uses up one.
abbrev pub names_behind : List FunctionName → DeclTree → List FunctionName
names_behind names (VarDecl p g c) = names
names_behind names (TypeDecl p g c) = names
names_behind names (FuncDecl p f c) = others_of names

-- The declarations of a file, in order.
unfoldable pub declared_in : Source → List FunctionName → List DeclTree → List ObjectDeclaration
declared_in s names [] = []
declared_in s names (d ∷ ds) = declared_by s names d ++ declared_in s (names_behind names d) ds

-- The names of functions that are left behind these declarations.
unfoldable pub names_behind_all : List FunctionName → List DeclTree → List FunctionName
names_behind_all names [] = names
names_behind_all names (d ∷ ds) = names_behind_all (names_behind names d) ds

-- The declarations of a package. `sources` has for each file the source of its code.
unfoldable pub declared_from : (sources : List Source) → List FunctionName → List FileTree → List ObjectDeclaration
declared_from [] names ts = []
declared_from (s ∷ ss) names [] = []
declared_from (s ∷ ss) names (t ∷ ts) = declared_in s names t.decls ++ declared_from ss (names_behind_all names t.decls) ts

-- The object of a package. `functions` are the names of all its functions, by their ranks.
abbrev pub object_of : (sources : List Source) → (path name : List ℕ) → (imports : List (List ℕ)) → (functions : List FunctionName) → List FileTree → Object
object_of sources path name imports functions trees =
    record { path = path; name = name; imports = imports; declarations = declared_from sources functions trees }
