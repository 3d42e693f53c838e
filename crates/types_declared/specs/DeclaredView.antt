-- The program's lists of declarations, as the definitions see them.
use Rattle.std.specs.Prelude.{List}
use Rattle.go_ast.specs.View.{type_view}
use Rattle.go_ast.specs.FileView.{type_spec_view, func_view}
use Rattle.types_declared.specs.declared.declared.Variable.{Variable}
use Rattle.types_declared.specs.declared.declared.TypeDef.{TypeDef}
use Rattle.types_declared.specs.declared.declared.Function.{Function}
use Rattle.types_declared.specs.declared.declared.Declared.{Declared}
use Rattle.types_declared.specs.Package.{PlacedVariable, PlacedType, PlacedFunction}
use Rattle.types_declared.specs.Appending.{Appends}

-- the program's variable, as the definitions see it
abbrev pub variable_of : Variable → PlacedVariable
variable_of v = record { file = v.file; name = v.name; type_use = type_view v.var_type.now }

-- the program's type definition, as the definitions see it
abbrev pub type_of : TypeDef → PlacedType
type_of t = record { file = t.file; spec = type_spec_view t.spec.now }

-- the program's function, as the definitions see it
abbrev pub function_of : Function → PlacedFunction
function_of f = record { file = f.file; function = func_view f.func.now }

-- each list of the new declarations is the old one followed by these
pub record AddsDeclared (old new : Declared) (variables : List PlacedVariable) (types : List PlacedType) (functions : List PlacedFunction) : Type 0 where
  pub adds_variables : Appends variable_of old.variables.items new.variables.items variables
  pub adds_types : Appends type_of old.types.items new.types.items types
  pub adds_functions : Appends function_of old.functions.items new.functions.items functions
