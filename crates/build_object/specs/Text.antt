-- The text of lines of code, and of the names, types and values in them.
use Rattle.std.specs.Prelude.{ℕ, ◌+◌, ◌/◌, ◌%◌, Bool, true, false, if◌then◌else◌, List, [], ◌∷◌, ◌++◌, Option, Some, None, nat_lt, codes, decimal}
use Rattle.std.specs.List.{flat_map}
use Rattle.go_ast.specs.declared.syntax.BinaryOp.{BinaryOp}
use Rattle.go_ast.specs.declared.syntax.BinaryOp.TheVariants as op
use Rattle.types_expr.specs.declared.symbol.Symbol.{Symbol}
use Rattle.types_expr.specs.Types.{PlainType, BasicType, Defined, Pointer, Slice}
use Rattle.types_declared.specs.Written.{basic_name}
use Rattle.types_declared.specs.MeaningOf.{builtin_name}
use Rattle.build_object.specs.Lines.{GlobalName, FunctionName, Plain, Method, Initializer, CodeLine}
use Rattle.build_object.specs.Lines as line

-- Names and types. `names` gives the names of type definitions.

-- The text of the name of a package-level declaration.
abbrev pub global_text : GlobalName → List ℕ
global_text g = g.path ++ (codes "#" ++ g.name)

-- The text of the name of a function.
unfoldable pub function_text : FunctionName → List ℕ
function_text (Plain g) = global_text g
function_text (Method g name) = global_text g ++ (codes "#" ++ name)
function_text (Initializer path k) = path ++ (codes "#init." ++ decimal k)

-- The text of a name, and none where it is unknown.
abbrev pub known_text : Option GlobalName → List ℕ
known_text None = []
known_text (Some g) = global_text g

-- The text of a type.
unfoldable pub type_text : (names : Symbol → Option GlobalName) → PlainType → List ℕ
type_text names (BasicType b) = basic_name b
type_text names (Defined s) = known_text (names s)
type_text names (Pointer t) = codes "*" ++ type_text names t
type_text names (Slice t) = codes "[]" ++ type_text names t

-- Lists of types

-- The text of a type behind a separator.
abbrev pub type_behind : (names : Symbol → Option GlobalName) → List ℕ → PlainType → List ℕ
type_behind names separator t = separator ++ type_text names t

-- The text of types, each behind a separator.
abbrev pub types_behind : (names : Symbol → Option GlobalName) → List ℕ → List PlainType → List ℕ
types_behind names separator ts = flat_map (type_behind names separator) ts

-- The text of types with a separator between them.
abbrev pub types_joined : (names : Symbol → Option GlobalName) → List ℕ → List PlainType → List ℕ
types_joined names separator [] = []
types_joined names separator (t ∷ ts) = type_text names t ++ types_behind names separator ts

-- The text of types in parentheses, with `,` between them.
abbrev pub type_list : (names : Symbol → Option GlobalName) → List PlainType → List ℕ
type_list names ts = codes "(" ++ (types_joined names (codes ",") ts ++ codes ")")

-- Values

-- A digit of base 16, in lower case.
abbrev pub hex_digit : ℕ → ℕ
hex_digit d = if nat_lt d 10 then 48 + d else 87 + d

-- The two digits of a byte.
abbrev pub hex_byte : ℕ → List ℕ
hex_byte b = hex_digit (b / 16) ∷ hex_digit (b % 16) ∷ []

-- The text of bytes: `x` and two digits for each byte.
abbrev pub bytes_text : List ℕ → List ℕ
bytes_text bytes = codes "x" ++ flat_map hex_byte bytes

-- The text of a truth value.
abbrev pub truth_text : Bool → List ℕ
truth_text true = codes "1"
truth_text false = codes "0"

-- The text of a binary operator, as in Go.
unfoldable pub operator_text : BinaryOp → List ℕ
operator_text op.Multiply = codes "*"
operator_text op.Divide = codes "/"
operator_text op.Remainder = codes "%"
operator_text op.Add = codes "+"
operator_text op.Subtract = codes "-"
operator_text op.Equal = codes "=="
operator_text op.NotEqual = codes "!="
operator_text op.Less = codes "<"
operator_text op.LessEqual = codes "<="
operator_text op.Greater = codes ">"
operator_text op.GreaterEqual = codes ">="
operator_text op.And = codes "&&"
operator_text op.Or = codes "||"

-- Lines

-- A word with a decimal number behind it.
abbrev pub with_number : List ℕ → ℕ → List ℕ
with_number word n = word ++ decimal n

-- The words of a line of code.
unfoldable pub words_of : (names : Symbol → Option GlobalName) → CodeLine → List ℕ
words_of names (line.Integer n) = with_number (codes "int ") n
words_of names (line.Text bytes) = codes "str " ++ bytes_text bytes
words_of names (line.Truth b) = codes "bool " ++ truth_text b
words_of names line.Nil = codes "nil"
words_of names (line.Local k) = with_number (codes "local ") k
words_of names (line.Global g) = codes "global " ++ global_text g
words_of names (line.Field i) = with_number (codes "field ") i
words_of names (line.FieldThrough i) = with_number (codes "ptrfield ") i
words_of names line.Index = codes "index"
words_of names line.Load = codes "load"
words_of names line.Negate = codes "neg"
words_of names line.Not = codes "not"
words_of names (line.Operate o) = codes "op " ++ operator_text o
words_of names line.Duplicate = codes "dup"
words_of names line.Pop = codes "pop"
words_of names (line.JumpUnless n) = with_number (codes "jz ") n
words_of names (line.JumpIf n) = with_number (codes "jnz ") n
words_of names (line.Jump n) = with_number (codes "jump ") n
words_of names (line.JumpBack n) = with_number (codes "jump -") n
words_of names (line.Call f n) = codes "call " ++ (function_text f ++ with_number (codes " ") n)
words_of names (line.CallBuiltin b n) = codes "builtin " ++ (builtin_name b ++ with_number (codes " ") n)
words_of names (line.CallAsked f n) = codes "icall " ++ (function_text f ++ with_number (codes " ") n)
words_of names (line.Enter t) = codes "iface " ++ type_text names t
words_of names (line.Zero t) = codes "zero " ++ type_text names t
words_of names (line.With i) = with_number (codes "with ") i
words_of names (line.MakeSlice n) = with_number (codes "slice ") n
words_of names line.New = codes "new"
words_of names (line.LocalAddress k) = with_number (codes "addrlocal ") k
words_of names (line.GlobalAddress g) = codes "addrglobal " ++ global_text g
words_of names (line.FieldAddress i) = with_number (codes "addrfield ") i
words_of names line.IndexAddress = codes "addrindex"
words_of names line.BlankAddress = codes "blank"
words_of names (line.Set k) = with_number (codes "set ") k
words_of names (line.Assign n) = with_number (codes "assign ") n
words_of names (line.Return n) = with_number (codes "ret ") n
words_of names line.End = codes "end"

-- A text with a line feed behind it.
abbrev pub ended : List ℕ → List ℕ
ended text = text ++ (10 ∷ [])

-- The text of lines of code.
abbrev pub code_text : (names : Symbol → Option GlobalName) → List CodeLine → List ℕ
code_text names code = flat_map (λ l. ended (words_of names l)) code
