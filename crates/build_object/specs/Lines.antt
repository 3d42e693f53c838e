-- The lines of a function's code, and the names in them.
use Rattle.std.specs.Prelude.{ℕ, zero, suc, Bool, List, [], ◌∷◌, Option, Some, None}
use Rattle.go_ast.specs.declared.syntax.BinaryOp.{BinaryOp}
use Rattle.types_expr.specs.declared.types.Builtin.{Builtin}
use Rattle.types_expr.specs.Types.{PlainType}

-- A package-level declaration, by the package's path and the name.
pub record GlobalName : Type 0 where
  pub path : List ℕ
  pub name : List ℕ

-- The name of a function in objects. A method has the name of its receiver's type too, and one that an interface asks for that of the
-- interface. A function `init` has its number among those of its package, from 0.
pub data FunctionName : Type 0 where
  Plain : GlobalName → FunctionName
  Method : GlobalName → List ℕ → FunctionName
  Initializer : List ℕ → ℕ → FunctionName

-- A line of code, which works on a stack of values. The number of a jump counts the lines between the jump and its target. The number of
-- `JumpBack` counts lines back from the next line.
pub data CodeLine : Type 0 where
  Integer : ℕ → CodeLine
  Text : List ℕ → CodeLine
  Truth : Bool → CodeLine
  Nil : CodeLine
  Local : ℕ → CodeLine
  Global : GlobalName → CodeLine
  Field : ℕ → CodeLine
  FieldThrough : ℕ → CodeLine
  Index : CodeLine
  Load : CodeLine
  Negate : CodeLine
  Not : CodeLine
  Operate : BinaryOp → CodeLine
  Duplicate : CodeLine
  Pop : CodeLine
  JumpUnless : ℕ → CodeLine
  JumpIf : ℕ → CodeLine
  Jump : ℕ → CodeLine
  JumpBack : ℕ → CodeLine
  Call : FunctionName → ℕ → CodeLine
  CallBuiltin : Builtin → ℕ → CodeLine
  CallAsked : FunctionName → ℕ → CodeLine
  Enter : PlainType → CodeLine
  Zero : PlainType → CodeLine
  With : ℕ → CodeLine
  MakeSlice : ℕ → CodeLine
  New : CodeLine
  LocalAddress : ℕ → CodeLine
  GlobalAddress : GlobalName → CodeLine
  FieldAddress : ℕ → CodeLine
  IndexAddress : CodeLine
  BlankAddress : CodeLine
  Set : ℕ → CodeLine
  Assign : ℕ → CodeLine
  Return : ℕ → CodeLine
  End : CodeLine

-- One line for a known value, and none for an unknown one. In a package without faults all values in its code are known.
abbrev pub line_if_known : {X : Type 0} → (X → CodeLine) → Option X → List CodeLine
line_if_known line None = []
line_if_known line (Some x) = line x ∷ []

-- The lines that drop so many values.
unfoldable pub pops : ℕ → List CodeLine
pops zero = []
pops (suc n) = Pop ∷ pops n
