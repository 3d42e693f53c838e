-- Objects in which the names of declarations are replaced.
use Rattle.std.specs.Prelude.{ℕ, ◌==◌, ◌&&◌, ◌||◌, Bool, false, if◌then◌else◌, List, [], ◌∷◌, Option, map, option_map}
use Rattle.std.specs.Cmp.Lexicographic.{pointwise}
use Rattle.types_expr.specs.declared.symbol.Symbol.{Symbol}
use Rattle.build_object.specs.Lines.{GlobalName, FunctionName, Plain, Method, Initializer, CodeLine}
use Rattle.build_object.specs.Lines as line
use Rattle.build_object.specs.Objects.{Object, ObjectFunction, ObjectAsked, ObjectDefinition, SameAs, Fields, Asks, ObjectDeclaration, TypeOf, Variable}
use Rattle.build_object.specs.Objects.{FunctionOf}
use Rattle.build_object.specs.ObjectText.{object_text}

-- By what the names of package-level declarations, and those of functions and methods, are replaced.
pub record Replaced : Type 0 where
  pub global : GlobalName → GlobalName
  pub function : FunctionName → FunctionName

-- A line of code with these names.
abbrev pub line_by : Replaced → CodeLine → CodeLine
line_by r (line.Global g) = line.Global (r.global g)
line_by r (line.GlobalAddress g) = line.GlobalAddress (r.global g)
line_by r (line.Call f n) = line.Call (r.function f) n
line_by r (line.CallAsked f n) = line.CallAsked (r.function f) n
line_by r other = other

-- A function with these names.
abbrev pub function_by : Replaced → ObjectFunction → ObjectFunction
function_by r f = record { name = r.function f.name; parameters = f.parameters; results = f.results; slots = f.slots; code = map (line_by r) f.code }

-- A method that an interface asks for, with these names.
abbrev pub asked_renamed_by : Replaced → ObjectAsked → ObjectAsked
asked_renamed_by r m = record { name = r.function m.name; parameters = m.parameters; results = m.results }

-- What a type is defined as, with these names.
abbrev pub definition_by : Replaced → ObjectDefinition → ObjectDefinition
definition_by r (SameAs t) = SameAs t
definition_by r (Fields ts) = Fields ts
definition_by r (Asks ms) = Asks (map (asked_renamed_by r) ms)

-- A declaration with these names.
abbrev pub declaration_by : Replaced → ObjectDeclaration → ObjectDeclaration
declaration_by r (TypeOf name definition) = TypeOf (r.global name) (definition_by r definition)
declaration_by r (Variable name t value) = Variable (r.global name) t value
declaration_by r (FunctionOf f) = FunctionOf (function_by r f)

-- An object with these names.
abbrev pub object_by : Replaced → Object → Object
object_by r o = record { path = o.path; name = o.name; imports = o.imports; declarations = map (declaration_by r) o.declarations }

-- The text of an object with these names, where `names` are the old names of type definitions.
abbrev pub text_by : Replaced → (names : Symbol → Option GlobalName) → Object → List ℕ
text_by r names o = object_text (λ s. option_map r.global (names s)) (object_by r o)

-- Whether the bytes are the same.
abbrev pub same_bytes : List ℕ → List ℕ → Bool
same_bytes a b = pointwise ◌==◌ a b

-- The package-level declaration `old` of the package at the path is called `new`. All others keep their names.
abbrev pub renamed_global : (path old new : List ℕ) → GlobalName → GlobalName
renamed_global path old new g = if same_bytes g.path path && same_bytes g.name old then record { path = path; name = new } else g

-- The name of a function, where package-level declarations are called so. The name of a method has that of its type.
abbrev pub function_of_global : (GlobalName → GlobalName) → FunctionName → FunctionName
function_of_global by (Plain g) = Plain (by g)
function_of_global by (Method g name) = Method (by g) name
function_of_global by (Initializer path k) = Initializer path k

-- The package-level declaration `old` of the package at the path is called `new`.
abbrev pub of_global : (path old new : List ℕ) → Replaced
of_global path old new = record { global = renamed_global path old new; function = function_of_global (renamed_global path old new) }

-- The method `old` of the type of this name is called `new`, in the package at the path. All others keep their names.
abbrev pub renamed_method : (path type_name old new : List ℕ) → FunctionName → FunctionName
renamed_method path type_name old new (Plain g) = Plain g
renamed_method path type_name old new (Method g name) =
    if same_bytes g.path path && (same_bytes g.name type_name && same_bytes name old) then Method g new else Method g name
renamed_method path type_name old new (Initializer other k) = Initializer other k

-- The method `old` of the type of this name is called `new`, in the package at the path.
abbrev pub of_method : (path type_name old new : List ℕ) → Replaced
of_method path type_name old new = record { global = λ g. g; function = renamed_method path type_name old new }

-- Whether the list has the name.
abbrev pub has_global : List GlobalName → GlobalName → Bool
has_global [] g = false
has_global (t ∷ ts) g = (same_bytes t.path g.path && same_bytes t.name g.name) || has_global ts g

-- The methods `old` of the types of these names are called `new`. All others keep their names. What an interface asks for is a method of its
-- type.
abbrev pub renamed_methods : (types : List GlobalName) → (old new : List ℕ) → FunctionName → FunctionName
renamed_methods types old new (Plain g) = Plain g
renamed_methods types old new (Method g name) = if has_global types g && same_bytes name old then Method g new else Method g name
renamed_methods types old new (Initializer path k) = Initializer path k

abbrev pub of_methods : (types : List GlobalName) → (old new : List ℕ) → Replaced
of_methods types old new = record { global = λ g. g; function = renamed_methods types old new }

-- Nothing is replaced.
abbrev pub of_none : Replaced
of_none = record { global = λ g. g; function = λ f. f }
