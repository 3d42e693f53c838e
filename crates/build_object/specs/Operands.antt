-- The operands of code: what an expression is to the code around it, and a rule for each form of expression, without recursion.
use Rattle.std.specs.Prelude.{ℕ, suc, Bool, true, false, List, [], ◌∷◌, ◌++◌, Option, Some, None, length}
use Rattle.go_ast.specs.declared.syntax.BinaryOp.{BinaryOp}
use Rattle.go_ast.specs.declared.syntax.BinaryOp.TheVariants as op
use Rattle.go_ast.specs.declared.syntax.PrefixOp.{PrefixOp}
use Rattle.go_ast.specs.declared.syntax.PrefixOp.TheVariants as prefix
use Rattle.types_expr.specs.declared.types.Builtin.{Builtin}
use Rattle.types_expr.specs.declared.types.Builtin.TheVariants as builtin
use Rattle.types_expr.specs.Types.{PlainType, ValueKind, Typed, Untyped, Meaning, Value, TypeName, Function, BuiltinName, Package, Results, Broken}
use Rattle.types_expr.specs.declared.symbol.Symbol.{Symbol}
use Rattle.types_expr.specs.Types.{WrittenAs, AFieldOf, AMethodOf, is_pointer, points}
use Rattle.types_expr.specs.Types.{Nil as NilKind}
use Rattle.types_expr.specs.World.{Bound, Means, BrokenVariable, BrokenFunction, BrokenType, Member, AField, AMethod, ABrokenMethod, underlying}
use Rattle.types_expr.specs.World.{Local as LocalName}
use Rattle.build_object.specs.Lines.{GlobalName, FunctionName, Plain, CodeLine, Truth, Nil, Local, Global, Field, FieldThrough, Index, Load, Negate}
use Rattle.build_object.specs.Lines.{Not, Operate, Duplicate, Pop, JumpUnless, JumpIf, Call, CallBuiltin, LocalAddress, GlobalAddress, FieldAddress}
use Rattle.build_object.specs.Lines.{IndexAddress, CallAsked, line_if_known}
use Rattle.build_object.specs.Source.{Source}
use Rattle.build_object.specs.Numbering.{slot_of}

-- The mode of an operand: what the code around it can do with it. `Values`: it leaves so many values. `Called`: it is a function with so
-- many results, or a method whose receiver is on the stack. `CalledAsked`: it is a method that an interface asks for, and the value of the
-- interface is on the stack. `Converts`: it is a type, whose call is a conversion. `Predeclared`: it is a
-- predeclared function. `Qualifies`: it is the name of a package.
pub data Mode : Type 0 where
  Values : ℕ → Mode
  Called : (received : Bool) → FunctionName → (results : ℕ) → Mode
  CalledAsked : FunctionName → (results : ℕ) → Mode
  Converts : Mode
  Predeclared : Builtin → Mode
  Qualifies : Mode

-- An operand of code. `value` are the lines that leave its values, or the receiver of a method. `address` are the lines that leave the
-- address of its value, which is used only where the value has one.
pub record CodeOperand : Type 0 where
  pub value : List CodeLine
  pub address : List CodeLine
  pub mode : Mode

-- One value without an address.
abbrev pub plain : List CodeLine → CodeOperand
plain lines = record { value = lines; address = lines; mode = Values 1 }

-- The value of a variable, which has an address.
abbrev pub variable : List CodeLine → List CodeLine → CodeOperand
variable value address = record { value = value; address = address; mode = Values 1 }

-- An operand without lines.
abbrev pub mode_alone : Mode → CodeOperand
mode_alone s = record { value = []; address = []; mode = s }

-- Names

-- A parameter or local, by its slot.
abbrev pub local_operand : Option ℕ → CodeOperand
local_operand slot = variable (line_if_known Local slot) (line_if_known LocalAddress slot)

-- A package-level variable, by its name.
abbrev pub global_operand : Option GlobalName → CodeOperand
global_operand name = variable (line_if_known Global name) (line_if_known GlobalAddress name)

-- The mode of a function or method, if its name is known.
abbrev pub function_mode : Option FunctionName → (received : Bool) → (results : ℕ) → Mode
function_mode None received results = Values 0
function_mode (Some f) received results = Called received f results

-- The name of a function without a receiver.
abbrev pub plain_function : Option GlobalName → Option FunctionName
plain_function None = None
plain_function (Some name) = Some (Plain name)

-- The operand of a name at token n that means a value of this kind.
abbrev pub value_name : Source → ℕ → ValueKind → CodeOperand
value_name s n (Typed t) = global_operand (s.global n)
value_name s n (Untyped b) = plain (Truth (s.truth n) ∷ [])
value_name s n NilKind = plain (Nil ∷ [])

-- The operand of a name at token n with this meaning.
unfoldable pub named_meaning : Source → ℕ → Meaning → CodeOperand
named_meaning s n (Value k a) = value_name s n k
named_meaning s n (TypeName t) = mode_alone Converts
named_meaning s n (Function f) = mode_alone (function_mode (plain_function (s.global n)) false (length f.results))
named_meaning s n (BuiltinName b) = mode_alone (Predeclared b)
named_meaning s n Package = mode_alone Qualifies
named_meaning s n (Results ts) = mode_alone (Values 0)
named_meaning s n Broken = mode_alone (Values 0)

-- The operand of a name at token n that is bound so.
unfoldable pub bound_name : Source → (slots : List ℕ) → ℕ → Bound → CodeOperand
bound_name s slots n (LocalName place) = local_operand (slot_of slots place)
bound_name s slots n (Means m) = named_meaning s n m
bound_name s slots n BrokenVariable = mode_alone (Values 0)
bound_name s slots n BrokenFunction = mode_alone (Values 0)
bound_name s slots n BrokenType = mode_alone (Values 0)

-- The operand of the name at token n.
abbrev pub name_operand : Source → (slots : List ℕ) → ℕ → CodeOperand
name_operand s slots n = bound_name s slots n (s.world.bound n)

-- Operators

-- The operand of a unary operator, where x are the lines of its operand's value.
abbrev pub prefixed : PrefixOp → List CodeLine → CodeOperand
prefixed prefix.Plus x = plain x
prefixed prefix.Minus x = plain (x ++ (Negate ∷ []))
prefixed prefix.Not x = plain (x ++ (Not ∷ []))
prefixed prefix.Deref x = variable (x ++ (Load ∷ [])) x

-- The lines of a binary operator between operands with the lines a and b. The code of `&&` and `||` skips b where a decides the result.
abbrev pub operated : BinaryOp → List CodeLine → List CodeLine → List CodeLine
operated op.And a b = a ++ (Duplicate ∷ JumpUnless (suc (length b)) ∷ Pop ∷ b)
operated op.Or a b = a ++ (Duplicate ∷ JumpIf (suc (length b)) ∷ Pop ∷ b)
operated o a b = a ++ (b ++ (Operate o ∷ []))

-- Selectors

-- Whether the operand is the name of a package.
abbrev pub qualifies : Mode → Bool
qualifies Qualifies = true
qualifies s = false

-- The mode of the selector of a qualified identifier. A package is never such a selector's meaning.
abbrev pub unqualified : Mode → Mode
unqualified Qualifies = Values 0
unqualified s = s

-- The operand of a qualified identifier, where the package's name has these lines.
abbrev pub export_operand : List CodeLine → CodeOperand → CodeOperand
export_operand lines o = record { value = lines ++ o.value; address = lines ++ o.address; mode = unqualified o.mode }

-- The operand of a field of a value, or of the struct that a pointer points to.
abbrev pub field_operand : CodeOperand → (through : Bool) → Option ℕ → CodeOperand
field_operand o true i = variable (o.value ++ line_if_known FieldThrough i) (o.value ++ line_if_known FieldAddress i)
field_operand o false i = variable (o.value ++ line_if_known Field i) (o.address ++ line_if_known FieldAddress i)

-- The lines of a method's receiver. A value receiver is the value itself, or the value that a pointer points to. A pointer receiver is the
-- pointer itself, or the address of the value.
abbrev pub receiver_lines : CodeOperand → (is_pointer on_pointer : Bool) → List CodeLine
receiver_lines o true true = o.value
receiver_lines o true false = o.value ++ (Load ∷ [])
receiver_lines o false true = o.address
receiver_lines o false false = o.value

-- The operand of a method, whose receiver has these lines.
abbrev pub method_operand : List CodeLine → Option FunctionName → (results : ℕ) → CodeOperand
method_operand receiver name results = record { value = receiver; address = receiver; mode = function_mode name true results }

-- The mode of a method that an interface asks for, if its name is known.
abbrev pub asked_mode : Option FunctionName → (results : ℕ) → Mode
asked_mode None results = Values 0
asked_mode (Some f) results = CalledAsked f results

-- The operand of such a method of an interface's value.
abbrev pub asked_operand : CodeOperand → Option FunctionName → (results : ℕ) → CodeOperand
asked_operand o name results = record { value = o.value; address = o.value; mode = asked_mode name results }

-- The operand of a written member of a value of type t.
abbrev pub written_operand : Source → CodeOperand → PlainType → Symbol → WrittenAs → CodeOperand
written_operand s o t f (AFieldOf own) = field_operand o (points (underlying s.world t)) (s.position f)
written_operand s o t f (AMethodOf signature) = asked_operand o (s.asked f) (length signature.results)

-- The operand of a member of a value of type t.
unfoldable pub member_operand : Source → CodeOperand → PlainType → Option Member → CodeOperand
member_operand s o t None = record { value = o.value; address = o.value; mode = Values 0 }
member_operand s o t (Some (AField f form)) = written_operand s o t f form
member_operand s o t (Some (AMethod m on_pointer signature)) =
    method_operand (receiver_lines o (is_pointer t) on_pointer) (s.function m) (length signature.results)
member_operand s o t (Some (ABrokenMethod m)) = record { value = o.value; address = o.value; mode = Values 0 }

-- The operand of the selector at token n, behind a value of this type.
unfoldable pub typed_selector : Source → ℕ → CodeOperand → Option PlainType → CodeOperand
typed_selector s n o None = record { value = o.value; address = o.value; mode = Values 0 }
typed_selector s n o (Some t) = member_operand s o t (s.world.member n t)

-- The operand of the selector at token n, behind an operand with this mode.
unfoldable pub selected_by : Source → (slots : List ℕ) → ℕ → CodeOperand → Mode → CodeOperand
selected_by s slots n o Qualifies = export_operand o.value (name_operand s slots n)
selected_by s slots n o mode = typed_selector s n o (s.before n)

-- The operand of the selector at token n, behind the operand o.
abbrev pub selected : Source → (slots : List ℕ) → ℕ → CodeOperand → CodeOperand
selected s slots n o = selected_by s slots n o o.mode

-- Indexes and calls

-- The operand of an index expression, where the index has the lines i.
abbrev pub indexed : CodeOperand → List CodeLine → CodeOperand
indexed o i = variable (o.value ++ (i ++ (Index ∷ []))) (o.value ++ (i ++ (IndexAddress ∷ [])))

-- The number of results of a predeclared function.
abbrev pub builtin_results : Builtin → ℕ
builtin_results builtin.Append = 1
builtin_results builtin.Len = 1
builtin_results builtin.Panic = 0
builtin_results builtin.Print = 0
builtin_results builtin.Println = 0

-- The number of arguments, where a receiver counts as one more.
abbrev pub counted : (received : Bool) → ℕ → ℕ
counted true n = suc n
counted false n = n

-- The line of a call with n arguments. A conversion has none, and leaves its argument.
unfoldable pub calling : ℕ → Mode → List CodeLine
calling n (Called received f results) = Call f (counted received n) ∷ []
calling n (CalledAsked f results) = CallAsked f (suc n) ∷ []
calling n (Predeclared b) = CallBuiltin b n ∷ []
calling n Converts = []
calling n (Values k) = []
calling n Qualifies = []

-- The number of values that a call leaves.
unfoldable pub left_by_call : Mode → ℕ
left_by_call (Called received f results) = results
left_by_call (CalledAsked f results) = results
left_by_call (Predeclared b) = builtin_results b
left_by_call Converts = 1
left_by_call (Values k) = 0
left_by_call Qualifies = 0

-- The operand of a call with n arguments, which have these lines.
abbrev pub called : CodeOperand → ℕ → List CodeLine → CodeOperand
called o n arguments = record {
  value = o.value ++ (arguments ++ calling n o.mode);
  address = o.value ++ (arguments ++ calling n o.mode);
  mode = Values (left_by_call o.mode);
}

-- Chains and expressions in parentheses

-- The number of values that an operand with this mode leaves.
abbrev pub value_count : Mode → ℕ
value_count (Values n) = n
value_count s = 0

-- The operand of a whole chain: it stands for its values alone.
abbrev pub settled : CodeOperand → CodeOperand
settled o = record { value = o.value; address = o.address; mode = Values (value_count o.mode) }

-- The operand of an expression in parentheses: it stands for one value.
abbrev pub grouped : CodeOperand → CodeOperand
grouped o = record { value = o.value; address = o.address; mode = Values 1 }
