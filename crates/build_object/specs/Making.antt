-- The lines that functions of src/ put before code that is made already.
use Rattle.std.specs.Prelude.{ℕ, suc, ◌≡◌, Bool, true, false, List, [], ◌∷◌, ◌++◌, Option}
use Rattle.go_ast.specs.declared.syntax.BinaryOp.{BinaryOp}
use Rattle.go_ast.specs.declared.syntax.BinaryOp.TheVariants as op
use Rattle.build_object.specs.declared.operands.Wanted.{Wanted}
use Rattle.build_object.specs.declared.operands.Wanted.TheVariants as wanted
use Rattle.build_object.specs.declared.operands.OperandMode.{OperandMode}
use Rattle.build_object.specs.declared.operands.OperandMode.TheVariants as mode
use Rattle.build_object.specs.declared.code.Code.{Code}
use Rattle.build_object.specs.Lines.{CodeLine, Field, FieldThrough, FieldAddress, Index, IndexAddress, Duplicate, Pop, JumpUnless, JumpIf, line_if_known}
use Rattle.build_object.specs.LineView.{function_of, lines_in}
use Rattle.build_object.specs.Operands.{CodeOperand, Values, Called, CalledAsked, Converts, Predeclared, Qualifies, qualifies}
use Rattle.build_object.specs.Operands as pure

-- The lines of an operand that are wanted: those of its value, or those of its address.
abbrev pub lines_for : Wanted → CodeOperand → List CodeLine
lines_for wanted.Value o = o.value
lines_for wanted.Address o = o.address

-- The mode of an operand of the program, as an `Operands.Mode` of the definitions.
unfoldable pub mode_of : OperandMode → pure.Mode
mode_of (mode.Values n) = Values n
mode_of (mode.Called received f results) = Called received (function_of f) results
mode_of (mode.CalledAsked f results) = CalledAsked (function_of f) results
mode_of mode.Converts = Converts
mode_of (mode.Predeclared b) = Predeclared b
mode_of mode.Qualifies = Qualifies

-- A mode as far as a link behind it depends on it: the number of values doesn't matter.
unfoldable pub before_link : pure.Mode → pure.Mode
before_link (Values n) = Values 0
before_link (Called received f results) = Called received f results
before_link (CalledAsked f results) = CalledAsked f results
before_link Converts = Converts
before_link (Predeclared b) = Predeclared b
before_link Qualifies = Qualifies

-- The lines that a field adds to its operand.
abbrev pub field_lines : Wanted → (through : Bool) → Option ℕ → List CodeLine
field_lines wanted.Value true i = line_if_known FieldThrough i
field_lines wanted.Value false i = line_if_known Field i
field_lines wanted.Address through i = line_if_known FieldAddress i

-- The line that an index adds to its operand.
abbrev pub index_lines : Wanted → List CodeLine
index_lines wanted.Value = Index ∷ []
index_lines wanted.Address = IndexAddress ∷ []

-- The lines between the operands of `&&` or `||`, where the second operand has n lines.
abbrev pub test_lines : BinaryOp → ℕ → List CodeLine
test_lines op.Or n = Duplicate ∷ JumpIf (suc n) ∷ Pop ∷ []
test_lines o n = Duplicate ∷ JumpUnless (suc n) ∷ Pop ∷ []

-- The lines that `rule` adds to an operand are put before the code. The operand's own lines are left, those for `left`, and the `asked`
-- lines of the result are complete with them. This is so for each operand with this mode.
pub record AppliesRule (rule : CodeOperand → CodeOperand) (stands : pure.Mode) (asked left : Wanted) (old new : Code) : Type 0 where
  pub on : (o : CodeOperand) → before_link o.mode ≡ before_link stands → lines_for asked (rule o) ++ lines_in old ≡ lines_for left o ++ lines_in new

-- The lines that `rule` adds to an operand are put before the code, as in `AppliesRule`. This is so for each operand that is the name of a
-- package, if `qualified`, or else for each that is not.
pub record AppliesSelector (rule : CodeOperand → CodeOperand) (qualified : Bool) (asked left : Wanted) (old new : Code) : Type 0 where
  pub on : (o : CodeOperand) → qualifies o.mode ≡ qualified → lines_for asked (rule o) ++ lines_in old ≡ lines_for left o ++ lines_in new

-- The lines that `rule` adds to lines are put before the code, as binary operators add lines to those of their left operand.
pub record AppliesLines (rule : List CodeLine → List CodeLine) (old new : Code) : Type 0 where
  pub on : (a : List CodeLine) → rule a ++ lines_in old ≡ a ++ lines_in new

-- The lines that `rule` adds to an operand are put before the code, as in `AppliesRule`. This is so for each operand, whatever its mode.
pub record AppliesAlways (rule : CodeOperand → CodeOperand) (asked left : Wanted) (old new : Code) : Type 0 where
  pub on : (o : CodeOperand) → lines_for asked (rule o) ++ lines_in old ≡ lines_for left o ++ lines_in new
