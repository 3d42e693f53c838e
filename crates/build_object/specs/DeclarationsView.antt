-- The parts of declarations that the program keeps, as values of the definitions.
use Rattle.std.specs.Prelude.{ℕ, ◌≡◌, Option, Some, None, map}
use Rattle.go_ast.specs.declared.tree.Item.{Item}
use Rattle.go_ast.specs.declared.tree.BasicLit.{BasicLit}
use Rattle.go_ast.specs.FileView.{basic_view}
use Rattle.go_ast.specs.Tree.{FuncTree}
use Rattle.types_expr.specs.View.{type_of}
use Rattle.types_expr.specs.World.{World}
use Rattle.build_object.specs.declared.declarations.Initial.{Initial}
use Rattle.build_object.specs.declared.declarations.Initial.TheVariants as initial
use Rattle.build_object.specs.declared.declarations.AskedLine.{AskedLine}
use Rattle.build_object.specs.declared.declarations.DefinitionLine.{DefinitionLine}
use Rattle.build_object.specs.declared.declarations.DefinitionLine.TheVariants as definition
use Rattle.build_object.specs.declared.declarations.FunctionSignature.{FunctionSignature}
use Rattle.build_object.specs.Lines.{FunctionName}
use Rattle.build_object.specs.LineView.{function_of}
use Rattle.build_object.specs.Source.{Source}
use Rattle.build_object.specs.Objects as object

-- The first value of a variable, as a value of the definitions.
unfoldable pub initial_view : Initial → object.Initial
initial_view (initial.Integer n) = object.IntegerValue n
initial_view (initial.Text bytes) = object.TextValue bytes.now

-- A method that an interface asks for, as a value of the definitions.
abbrev pub asked_view : AskedLine → object.ObjectAsked
asked_view m = record { name = function_of m.name; parameters = map type_of m.parameters.items; results = map type_of m.results.items }

-- What a type is defined as, as a value of the definitions.
unfoldable pub definition_view : DefinitionLine → object.ObjectDefinition
definition_view (definition.SameAs t) = object.SameAs (type_of t)
definition_view (definition.Fields ts) = object.Fields (map type_of ts.items)
definition_view (definition.Asks ms) = object.Asks (map asked_view ms.items)

-- The value of a literal, if there is one.
abbrev pub literal_value_at : Source → Option (Item BasicLit) → Option object.Initial
literal_value_at s None = None
literal_value_at s (Some i) = object.initial_of s (basic_view i.value)

-- `s` is the header of the function `f`, with this name and so many slots. The header doesn't count the lines of code.
pub record IsSignature (w : World) (f : FuncTree) (name : FunctionName) (slots : ℕ) (s : FunctionSignature) : Type 0 where
  pub named : function_of s.name ≡ name
  pub parameters : map type_of s.parameters.items ≡ object.parameters_of w f
  pub results : map type_of s.results.items ≡ object.results_of w f
  pub slot_count : s.slots ≡ slots
