-- The lines that the program keeps, as values of the definitions.
use Rattle.std.specs.Prelude.{◌≡◌, List, ◌++◌, map, reverse}
use Rattle.types_expr.specs.View.{type_of}
use Rattle.build_object.specs.declared.instructions.GlobalName.{GlobalName}
use Rattle.build_object.specs.declared.instructions.FunctionName.{FunctionName}
use Rattle.build_object.specs.declared.instructions.FunctionName.TheVariants as function
use Rattle.build_object.specs.declared.instructions.Instruction.{Instruction}
use Rattle.build_object.specs.declared.instructions.Instruction.TheVariants as instruction
use Rattle.build_object.specs.declared.code.Code.{Code}
use Rattle.build_object.specs.Lines as line

-- The name of a package-level declaration, as a value of the definitions.
abbrev pub global_of : GlobalName → line.GlobalName
global_of g = record { path = g.path.now; name = g.name.now }

-- The name of a function, as a value of the definitions.
unfoldable pub function_of : FunctionName → line.FunctionName
function_of (function.Plain g) = line.Plain (global_of g)
function_of (function.Method g name) = line.Method (global_of g) name.now
function_of (function.Initializer path k) = line.Initializer path.now k

-- A line of code, as a value of the definitions.
unfoldable pub line_of : Instruction → line.CodeLine
line_of (instruction.Integer n) = line.Integer n
line_of (instruction.Text bytes) = line.Text bytes.now
line_of (instruction.Truth b) = line.Truth b
line_of instruction.Nil = line.Nil
line_of (instruction.Local k) = line.Local k
line_of (instruction.Global g) = line.Global (global_of g)
line_of (instruction.Field i) = line.Field i
line_of (instruction.FieldThrough i) = line.FieldThrough i
line_of instruction.Index = line.Index
line_of instruction.Load = line.Load
line_of instruction.Negate = line.Negate
line_of instruction.Not = line.Not
line_of (instruction.Operate o) = line.Operate o
line_of instruction.Duplicate = line.Duplicate
line_of instruction.Pop = line.Pop
line_of (instruction.JumpUnless n) = line.JumpUnless n
line_of (instruction.JumpIf n) = line.JumpIf n
line_of (instruction.Jump n) = line.Jump n
line_of (instruction.JumpBack n) = line.JumpBack n
line_of (instruction.Call f n) = line.Call (function_of f) n
line_of (instruction.CallBuiltin b n) = line.CallBuiltin b n
line_of (instruction.CallAsked f n) = line.CallAsked (function_of f) n
line_of (instruction.Enter t) = line.Enter (type_of t)
line_of (instruction.Zero t) = line.Zero (type_of t)
line_of (instruction.With i) = line.With i
line_of (instruction.MakeSlice n) = line.MakeSlice n
line_of instruction.New = line.New
line_of (instruction.LocalAddress k) = line.LocalAddress k
line_of (instruction.GlobalAddress g) = line.GlobalAddress (global_of g)
line_of (instruction.FieldAddress i) = line.FieldAddress i
line_of instruction.IndexAddress = line.IndexAddress
line_of instruction.BlankAddress = line.BlankAddress
line_of (instruction.Set k) = line.Set k
line_of (instruction.Assign n) = line.Assign n
line_of (instruction.Return n) = line.Return n
line_of instruction.End = line.End

-- The lines of code that is being made, from the first to the last. The program keeps the last line first.
abbrev pub lines_in : Code → List line.CodeLine
lines_in c = reverse (map line_of c.lines.items)

-- Lines are put before the lines of the code.
pub record Puts (lines : List line.CodeLine) (old new : Code) : Type 0 where
  pub put : lines_in new ≡ lines ++ lines_in old
