-- The code of expressions.
use Rattle.std.specs.Prelude.{ℕ, suc, ◌==◌, Bool, true, false, if◌then◌else◌, List, [], ◌∷◌, ◌++◌, Option, Some, None}
use Rattle.go_ast.specs.Tree.{ExprTree, Number, Text, Name, Blank, Composite, Paren, Prefix, Address, Chain, Binary, OperandTrees, no_operand, operand}
use Rattle.go_ast.specs.Tree.{LinkTrees, no_link, selector, index, call, ArgumentTrees, no_argument, argument, LiteralTree, literal, ElementTrees}
use Rattle.go_ast.specs.Tree.{no_element, element}
use Rattle.types_expr.specs.Types.{PlainType, is_struct}
use Rattle.types_expr.specs.World.{Member, AField, AMethod, ABrokenMethod, underlying}
use Rattle.types_expr.specs.Judge.{judge_type}
use Rattle.types_expr.specs.Places.{place_of}
use Rattle.build_object.specs.Lines.{CodeLine, Zero, With, MakeSlice, New, Enter, line_if_known}
use Rattle.build_object.specs.Lines as line
use Rattle.build_object.specs.Source.{Source}
use Rattle.build_object.specs.Operands.{CodeOperand, plain, mode_alone, Values, name_operand, prefixed, operated, selected, indexed, called, settled, grouped}
use Rattle.build_object.specs.Operands.{value_count}

-- The number of arguments of a call.
unfoldable pub argument_count : ArgumentTrees → ℕ
argument_count no_argument = 0
argument_count (argument e c rest) = suc (argument_count rest)

-- The number of elements of a composite literal.
unfoldable pub element_count : ElementTrees → ℕ
element_count no_element = 0
element_count (element k e c rest) = suc (element_count rest)

-- Keys of composite literals: the position of the field in its struct.

-- The position of a field in its struct, if the member is a field.
abbrev pub field_position : Source → Option Member → Option ℕ
field_position s None = None
field_position s (Some (AField f form)) = s.position f
field_position s (Some (AMethod m on_pointer signature)) = None
field_position s (Some (ABrokenMethod m)) = None

-- The position of the field that the key at token n names in a literal of this type.
abbrev pub keyed_in : Source → ℕ → Option PlainType → Option ℕ
keyed_in s n None = None
keyed_in s n (Some t) = field_position s (s.world.member n t)

-- The position of the field that a key names, if there is a key.
abbrev pub key_position : Source → Option (ℕ × ℕ) → Option ℕ
key_position s None = None
key_position s (Some k) = keyed_in s k.0 (s.before k.0)

-- The code of a composite literal. A struct begins as a zero value, and its elements are set in it. A slice is made of its elements.
abbrev pub literal_code : Bool → PlainType → (keyed bare : List CodeLine) → ℕ → List CodeLine
literal_code true t keyed bare n = Zero t ∷ keyed
literal_code false t keyed bare n = bare ++ (MakeSlice n ∷ [])

-- The code of a composite literal of this type, and none where the type is broken.
unfoldable pub typed_literal : Source → Option PlainType → (keyed bare : List CodeLine) → ℕ → List CodeLine
typed_literal s None keyed bare n = []
typed_literal s (Some t) keyed bare n = literal_code (is_struct (underlying s.world t)) t keyed bare n

-- The line behind an expression with this operand, if it leaves one value and that enters an interface.
abbrev pub enter_line : Source → CodeOperand → ExprTree → List CodeLine
enter_line s o e = if value_count o.mode == 1 then line_if_known Enter (s.entered (place_of e)) else []

-- The operand of an expression. `slots` are the tokens at which the parameters and locals of the function are declared.
unfoldable mutual
  pub operand_of : Source → (slots : List ℕ) → ExprTree → CodeOperand
  operand_of s slots (Number p) = plain (line_if_known line.Integer (s.number p))
  operand_of s slots (Text p) = plain (line_if_known line.Text (s.text p))
  operand_of s slots (Name p) = name_operand s slots p
  operand_of s slots (Blank p) = mode_alone (Values 0)
  operand_of s slots (Composite l) = plain (literal_lines s slots l)
  operand_of s slots (Paren o e c) = grouped (operand_of s slots e)
  operand_of s slots (Prefix op p e) = prefixed op (operand_of s slots e).value
  operand_of s slots (Address p l) = plain (literal_lines s slots l ++ (New ∷ []))
  operand_of s slots (Chain e links) = settled (linked s slots (operand_of s slots e) links)
  operand_of s slots (Binary e rest) = plain (operations s slots (operand_of s slots e).value rest)

  -- The lines of binary operators and their right operands, behind the lines `a` of the left operand.
  pub operations : Source → (slots : List ℕ) → List CodeLine → OperandTrees → List CodeLine
  operations s slots a no_operand = a
  operations s slots a (operand o p e rest) = operations s slots (operated o a (operand_of s slots e).value) rest

  -- The operand of a chain: selectors, indexes and calls behind the operand `o`.
  pub linked : Source → (slots : List ℕ) → CodeOperand → LinkTrees → CodeOperand
  linked s slots o no_link = o
  linked s slots o (selector d n rest) = linked s slots (selected s slots n o) rest
  linked s slots o (index b e c rest) = linked s slots (indexed o (operand_of s slots e).value) rest
  linked s slots o (call b args c rest) = linked s slots (called o (argument_count args) (argument_lines s slots args)) rest

  -- The lines that leave the values of arguments, in order.
  pub argument_lines : Source → (slots : List ℕ) → ArgumentTrees → List CodeLine
  argument_lines s slots no_argument = []
  argument_lines s slots (argument e c rest) = ((operand_of s slots e).value ++ enter_line s (operand_of s slots e) e) ++ argument_lines s slots rest

  -- The lines of a composite literal.
  pub literal_lines : Source → (slots : List ℕ) → LiteralTree → List CodeLine
  literal_lines s slots (literal t o es c) =
      typed_literal s (judge_type s.world t).type_of (keyed_lines s slots es) (bare_lines s slots es) (element_count es)

  -- The lines of the elements of a struct's literal: each value is set in its field.
  pub keyed_lines : Source → (slots : List ℕ) → ElementTrees → List CodeLine
  keyed_lines s slots no_element = []
  keyed_lines s slots (element k e c rest) =
      ((operand_of s slots e).value ++ enter_line s (operand_of s slots e) e) ++ (line_if_known With (key_position s k) ++ keyed_lines s slots rest)

  -- The lines that leave the values of the elements of a slice's literal.
  pub bare_lines : Source → (slots : List ℕ) → ElementTrees → List CodeLine
  bare_lines s slots no_element = []
  bare_lines s slots (element k e c rest) = ((operand_of s slots e).value ++ enter_line s (operand_of s slots e) e) ++ bare_lines s slots rest

-- The lines that leave the values of an expression.
abbrev pub value_lines : Source → (slots : List ℕ) → ExprTree → List CodeLine
value_lines s slots e = (operand_of s slots e).value

-- The lines that leave the values of an expression which is given to something: an argument, an element, a right side or a result.
abbrev pub given_lines : Source → (slots : List ℕ) → ExprTree → List CodeLine
given_lines s slots e = value_lines s slots e ++ enter_line s (operand_of s slots e) e

-- The lines that leave the address of an expression's value.
abbrev pub address_lines : Source → (slots : List ℕ) → ExprTree → List CodeLine
address_lines s slots e = (operand_of s slots e).address

-- The number of values that an expression leaves.
abbrev pub values_left : Source → (slots : List ℕ) → ExprTree → ℕ
values_left s slots e = value_count (operand_of s slots e).mode

-- The operand behind the first link of a chain, where `o` is the operand before it.
unfoldable pub one_link : Source → (slots : List ℕ) → LinkTrees → CodeOperand → CodeOperand
one_link s slots no_link o = o
one_link s slots (selector d n rest) o = selected s slots n o
one_link s slots (index b e c rest) o = indexed o (value_lines s slots e)
one_link s slots (call b args c rest) o = called o (argument_count args) (argument_lines s slots args)
