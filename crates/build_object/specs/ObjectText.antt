-- The text of an object and of its declarations.
use Rattle.std.specs.Prelude.{ℕ, List, [], ◌∷◌, ◌++◌, Option, Some, None, length, codes}
use Rattle.std.specs.List.{flat_map}
use Rattle.types_expr.specs.declared.symbol.Symbol.{Symbol}
use Rattle.types_expr.specs.Types.{PlainType}
use Rattle.build_object.specs.Lines.{GlobalName, FunctionName}
use Rattle.build_object.specs.Objects.{ObjectAsked, Asks, Object, ObjectDeclaration, TypeOf, Variable, FunctionOf, ObjectDefinition, SameAs, Fields, Initial}
use Rattle.build_object.specs.Objects.{IntegerValue, TextValue}
use Rattle.build_object.specs.Text.{global_text, function_text, type_text, types_joined, type_list, bytes_text, with_number, ended, code_text}

-- Declarations

-- The text of the types of parameters and results.
abbrev pub signature_text : (names : Symbol → Option GlobalName) → (parameters results : List PlainType) → List ℕ
signature_text names parameters results = codes " " ++ (type_list names parameters ++ (codes " " ++ type_list names results))

-- The text of a method that an interface asks for: its name, and the types of its parameters and results, without spaces.
abbrev pub asked_text : (names : Symbol → Option GlobalName) → ObjectAsked → List ℕ
asked_text names m = function_text m.name ++ (type_list names m.parameters ++ type_list names m.results)

-- The text of such a method behind another.
abbrev pub asked_behind : (names : Symbol → Option GlobalName) → ObjectAsked → List ℕ
asked_behind names m = codes ";" ++ asked_text names m

-- The text of such methods, with `;` between them.
abbrev pub asked_joined : (names : Symbol → Option GlobalName) → List ObjectAsked → List ℕ
asked_joined names [] = []
asked_joined names (m ∷ ms) = asked_text names m ++ flat_map (asked_behind names) ms

-- The text of what a type is defined as.
abbrev pub definition_text : (names : Symbol → Option GlobalName) → ObjectDefinition → List ℕ
definition_text names (SameAs t) = type_text names t
definition_text names (Asks ms) = codes "interface{" ++ (asked_joined names ms ++ codes "}")
definition_text names (Fields ts) = codes "struct{" ++ (types_joined names (codes ";") ts ++ codes "}")

-- The text of the first value of a variable, if it has one.
abbrev pub initial_text : Option Initial → List ℕ
initial_text None = []
initial_text (Some (IntegerValue n)) = with_number (codes " ") n
initial_text (Some (TextValue bytes)) = codes " " ++ bytes_text bytes

-- The text of the number of slots and the number of lines of a function.
abbrev pub counts_text : (slots lines : ℕ) → List ℕ
counts_text slots lines = with_number (codes " ") slots ++ with_number (codes " ") lines

-- The header of a function: its name, its parameters with the receiver first, its results, the number of its slots and the number of its
-- lines of code.
abbrev pub header_text : (names : Symbol → Option GlobalName) → FunctionName → (parameters results : List PlainType) → (slots lines : ℕ) → List ℕ
header_text names name parameters results slots lines =
    codes "func " ++ (function_text name ++ (signature_text names parameters results ++ counts_text slots lines))

-- The text of a declaration: one line, and for a function the lines of its code too.
unfoldable pub declaration_text : (names : Symbol → Option GlobalName) → ObjectDeclaration → List ℕ
declaration_text names (TypeOf name definition) = ended (codes "type " ++ (global_text name ++ (codes " " ++ definition_text names definition)))
declaration_text names (Variable name t value) = ended (codes "var " ++ (global_text name ++ (codes " " ++ (type_text names t ++ initial_text value))))
declaration_text names (FunctionOf f) = ended (header_text names f.name f.parameters f.results f.slots (length f.code)) ++ code_text names f.code

-- Objects

-- The first line of an object: the path and the name of its package.
abbrev pub first_line : Object → List ℕ
first_line o = ended (codes "object " ++ (o.path ++ (codes " " ++ o.name)))

-- The line of an import.
abbrev pub import_line : List ℕ → List ℕ
import_line path = ended (codes "import " ++ path)

-- The text of an object. `names` gives the names of type definitions.
abbrev pub object_text : (names : Symbol → Option GlobalName) → Object → List ℕ
object_text names o = first_line o ++ (flat_map import_line o.imports ++ flat_map (declaration_text names) o.declarations)
