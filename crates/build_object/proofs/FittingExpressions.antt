-- The code of expressions stays within its function.
use Rattle.std.proofs.Common.{ℕ, suc, ◌<◌, ◌==◌, List, [], ◌∷◌, ◌++◌, length, Bool, true, false, if◌then◌else◌, Option, Some, None, arith}
use Rattle.go_ast.specs.declared.syntax.BinaryOp.{BinaryOp}
use Rattle.go_ast.specs.declared.syntax.BinaryOp.TheVariants as op
use Rattle.go_ast.specs.declared.syntax.PrefixOp.{PrefixOp}
use Rattle.go_ast.specs.declared.syntax.PrefixOp.TheVariants as prefix
use Rattle.go_ast.specs.Tree.{ExprTree, Number, Text, Name, Blank, Composite, Paren, Prefix, Address, Chain, Binary, OperandTrees, no_operand, operand}
use Rattle.go_ast.specs.Tree.{LinkTrees, no_link, selector, index, call, ArgumentTrees, no_argument, argument, LiteralTree, literal, ElementTrees}
use Rattle.go_ast.specs.Tree.{no_element, element}
use Rattle.types_expr.specs.Types.{PlainType, ValueKind, Typed, Untyped, Meaning, Value, TypeName, Function, BuiltinName, Package, Results, Broken, is_struct}
use Rattle.types_expr.specs.Places.{place_of}
use Rattle.types_expr.specs.Types.{AFieldOf, AMethodOf, is_pointer, points}
use Rattle.types_expr.specs.Types.{Nil as NilKind}
use Rattle.types_expr.specs.World.{Bound, Means, BrokenVariable, BrokenFunction, BrokenType, Member, AField, AMethod, ABrokenMethod, underlying}
use Rattle.types_expr.specs.World.{Local as LocalName}
use Rattle.types_expr.specs.Judge.{judge_type}
use Rattle.build_object.specs.Lines.{CodeLine, Field, FieldThrough, FieldAddress, Global, GlobalAddress, Index, IndexAddress, Load, Negate, Not, Operate}
use Rattle.build_object.specs.Lines.{Duplicate, Pop, JumpUnless, JumpIf, Local, LocalAddress, With, MakeSlice, New, line_if_known}
use Rattle.build_object.specs.Lines as line
use Rattle.build_object.specs.Source.{Source}
use Rattle.build_object.specs.Numbering.{slot_of}
use Rattle.build_object.specs.Operands.{CodeOperand, Mode, Values, Called, CalledAsked, Converts, Predeclared, Qualifies, value_name, named_meaning}
use Rattle.build_object.specs.Operands.{bound_name}
use Rattle.build_object.specs.Operands.{name_operand, prefixed, operated, field_operand, receiver_lines, member_operand, typed_selector, selected_by, selected}
use Rattle.build_object.specs.Operands.{indexed, calling, called, value_count}
use Rattle.build_object.specs.Expressions.{argument_count, element_count, key_position, literal_code, typed_literal, operand_of, operations, linked}
use Rattle.build_object.specs.Expressions.{argument_lines, literal_lines, keyed_lines, bare_lines, enter_line}
use Rattle.build_object.specs.Fitting.{FitsAt}
use Rattle.build_object.proofs.FittingParts.{count, Stays, none_stays, stays_joined, is_count, known_stays, is_slot, slot_stays}

-- both what leaves the value and what leaves the address
abbrev pub IsSound : (slots : ℕ) → CodeOperand → Type 0
IsSound k o = Stays k o.value × Stays k o.address

-- Names

kind_sound : (k : ℕ) (s : Source) (n : ℕ) (kind : ValueKind) → IsSound k (value_name s n kind)
kind_sound k s n (Typed t) = (known_stays k Global (λ g a b. (tt, tt)) (s.global n), known_stays k GlobalAddress (λ g a b. (tt, tt)) (s.global n))
kind_sound k s n (Untyped basic) = ((λ a b. (tt, tt)), (λ a b. (tt, tt)))
kind_sound k s n NilKind = ((λ a b. (tt, tt)), (λ a b. (tt, tt)))

meaning_sound : (k : ℕ) (s : Source) (n : ℕ) (m : Meaning) → IsSound k (named_meaning s n m)
unfolding named_meaning
meaning_sound k s n (Value kind a) = kind_sound k s n kind
meaning_sound k s n (TypeName t) = (none_stays k, none_stays k)
meaning_sound k s n (Function f) = (none_stays k, none_stays k)
meaning_sound k s n (BuiltinName b) = (none_stays k, none_stays k)
meaning_sound k s n Package = (none_stays k, none_stays k)
meaning_sound k s n (Results ts) = (none_stays k, none_stays k)
meaning_sound k s n Broken = (none_stays k, none_stays k)

bound_sound : (s : Source) (slots : List ℕ) (n : ℕ) (bound : Bound) → IsSound (length slots) (bound_name s slots n bound)
unfolding bound_name
bound_sound s slots n (LocalName place) = (
  slot_stays (length slots) Local (λ m b a lt. lt) (slot_of slots place) (is_slot slots place),
  slot_stays (length slots) LocalAddress (λ m b a lt. lt) (slot_of slots place) (is_slot slots place),
)
bound_sound s slots n (Means m) = meaning_sound (length slots) s n m
bound_sound s slots n BrokenVariable = (none_stays (length slots), none_stays (length slots))
bound_sound s slots n BrokenFunction = (none_stays (length slots), none_stays (length slots))
bound_sound s slots n BrokenType = (none_stays (length slots), none_stays (length slots))

-- Operators

prefixed_sound : (k : ℕ) (o : PrefixOp) (x : List CodeLine) → Stays k x → IsSound k (prefixed o x)
prefixed_sound k prefix.Plus x h = (h, h)
prefixed_sound k prefix.Minus x h = (stays_joined k x (Negate ∷ []) h (λ a b. (tt, tt)), stays_joined k x (Negate ∷ []) h (λ a b. (tt, tt)))
prefixed_sound k prefix.Not x h = (stays_joined k x (Not ∷ []) h (λ a b. (tt, tt)), stays_joined k x (Not ∷ []) h (λ a b. (tt, tt)))
prefixed_sound k prefix.Deref x h = (stays_joined k x (Load ∷ []) h (λ a b. (tt, tt)), h)

plain_stays : (k : ℕ) (o : BinaryOp) (xs ys : List CodeLine) → Stays k xs → Stays k ys → Stays k (xs ++ (ys ++ (Operate o ∷ [])))
plain_stays k o xs ys f g = stays_joined k xs (ys ++ (Operate o ∷ [])) f (stays_joined k ys (Operate o ∷ []) g (λ a b. (tt, tt)))

tested_stays : (k : ℕ) (jump : ℕ → CodeLine) → ((n b a : ℕ) → n < a → FitsAt k b a (jump n)) → (xs ys : List CodeLine) → Stays k xs → Stays k ys →
    Stays k (xs ++ (Duplicate ∷ jump (suc (length ys)) ∷ Pop ∷ ys))
tested_stays k jump h xs ys f g = stays_joined k xs (Duplicate ∷ jump (suc (length ys)) ∷ Pop ∷ ys) f (λ a b.
    let lt : suc (length ys) < suc (count ys (suc a)) = omega (arith, is_count ys (suc a)) in
    (tt, (h (suc (length ys)) (suc b) (suc (count ys (suc a))) lt, (tt, g a (suc (suc (suc b)))))))

operated_stays : (k : ℕ) (o : BinaryOp) (xs ys : List CodeLine) → Stays k xs → Stays k ys → Stays k (operated o xs ys)
operated_stays k op.And xs ys f g = tested_stays k JumpUnless (λ n b a lt. lt) xs ys f g
operated_stays k op.Or xs ys f g = tested_stays k JumpIf (λ n b a lt. lt) xs ys f g
operated_stays k op.Multiply xs ys f g = plain_stays k op.Multiply xs ys f g
operated_stays k op.Divide xs ys f g = plain_stays k op.Divide xs ys f g
operated_stays k op.Remainder xs ys f g = plain_stays k op.Remainder xs ys f g
operated_stays k op.Add xs ys f g = plain_stays k op.Add xs ys f g
operated_stays k op.Subtract xs ys f g = plain_stays k op.Subtract xs ys f g
operated_stays k op.Equal xs ys f g = plain_stays k op.Equal xs ys f g
operated_stays k op.NotEqual xs ys f g = plain_stays k op.NotEqual xs ys f g
operated_stays k op.Less xs ys f g = plain_stays k op.Less xs ys f g
operated_stays k op.LessEqual xs ys f g = plain_stays k op.LessEqual xs ys f g
operated_stays k op.Greater xs ys f g = plain_stays k op.Greater xs ys f g
operated_stays k op.GreaterEqual xs ys f g = plain_stays k op.GreaterEqual xs ys f g

-- Selectors

behind_stays : {X : Type 0} (k : ℕ) (line : X → CodeLine) → ((x : X) → Stays k (line x ∷ [])) → (xs : List CodeLine) (o : Option X) → Stays k xs →
    Stays k (xs ++ line_if_known line o)
behind_stays k line h xs o f = stays_joined k xs (line_if_known line o) f (known_stays k line h o)

field_sound : (k : ℕ) (o : CodeOperand) (through : Bool) (i : Option ℕ) → IsSound k o → IsSound k (field_operand o through i)
field_sound k o true i h = (behind_stays k FieldThrough (λ n a b. (tt, tt)) o.value i h.0, behind_stays k FieldAddress (λ n a b. (tt, tt)) o.value i h.0)
field_sound k o false i h = (behind_stays k Field (λ n a b. (tt, tt)) o.value i h.0, behind_stays k FieldAddress (λ n a b. (tt, tt)) o.address i h.1)

receiver_stays : (k : ℕ) (o : CodeOperand) (is_pointer on_pointer : Bool) → IsSound k o → Stays k (receiver_lines o is_pointer on_pointer)
receiver_stays k o true true h = h.0
receiver_stays k o true false h = stays_joined k o.value (Load ∷ []) h.0 (λ a b. (tt, tt))
receiver_stays k o false true h = h.1
receiver_stays k o false false h = h.0

member_sound : (k : ℕ) (s : Source) (o : CodeOperand) (t : PlainType) (m : Option Member) → IsSound k o → IsSound k (member_operand s o t m)
unfolding member_operand
member_sound k s o t None h = (h.0, h.0)
member_sound k s o t (Some (AField f (AFieldOf own))) h = field_sound k o (points (underlying s.world t)) (s.position f) h
member_sound k s o t (Some (AField f (AMethodOf signature))) h = (h.0, h.0)
member_sound k s o t (Some (AMethod m on_pointer signature)) h =
    (receiver_stays k o (is_pointer t) on_pointer h, receiver_stays k o (is_pointer t) on_pointer h)
member_sound k s o t (Some (ABrokenMethod m)) h = (h.0, h.0)

typed_sound : (k : ℕ) (s : Source) (n : ℕ) (o : CodeOperand) (t : Option PlainType) → IsSound k o → IsSound k (typed_selector s n o t)
unfolding typed_selector
typed_sound k s n o None h = (h.0, h.0)
typed_sound k s n o (Some t) h = member_sound k s o t (s.world.member n t) h

selected_sound : (s : Source) (slots : List ℕ) (n : ℕ) (o : CodeOperand) (mode : Mode) → IsSound (length slots) o →
    IsSound (length slots) (selected_by s slots n o mode)
unfolding selected_by
selected_sound s slots n o Qualifies h = (
  stays_joined (length slots) o.value (name_operand s slots n).value h.0 (bound_sound s slots n (s.world.bound n)).0,
  stays_joined (length slots) o.value (name_operand s slots n).address h.0 (bound_sound s slots n (s.world.bound n)).1,
)
selected_sound s slots n o (Values m) h = typed_sound (length slots) s n o (s.before n) h
selected_sound s slots n o (Called received f m) h = typed_sound (length slots) s n o (s.before n) h
selected_sound s slots n o (CalledAsked f m) h = typed_sound (length slots) s n o (s.before n) h
selected_sound s slots n o Converts h = typed_sound (length slots) s n o (s.before n) h
selected_sound s slots n o (Predeclared b) h = typed_sound (length slots) s n o (s.before n) h

-- Indexes and calls

indexed_sound : (k : ℕ) (o : CodeOperand) (i : List CodeLine) → IsSound k o → Stays k i → IsSound k (indexed o i)
indexed_sound k o i h f = (
  stays_joined k o.value (i ++ (Index ∷ [])) h.0 (stays_joined k i (Index ∷ []) f (λ a b. (tt, tt))),
  stays_joined k o.value (i ++ (IndexAddress ∷ [])) h.0 (stays_joined k i (IndexAddress ∷ []) f (λ a b. (tt, tt))),
)

calling_stays : (k n : ℕ) (mode : Mode) → Stays k (calling n mode)
unfolding calling
calling_stays k n (Called received f results) = λ a b. (tt, tt)
calling_stays k n (CalledAsked f results) = λ a b. (tt, tt)
calling_stays k n (Predeclared builtin) = λ a b. (tt, tt)
calling_stays k n Converts = none_stays k
calling_stays k n (Values m) = none_stays k
calling_stays k n Qualifies = none_stays k

called_sound : (k : ℕ) (o : CodeOperand) (n : ℕ) (xs : List CodeLine) → IsSound k o → Stays k xs → IsSound k (called o n xs)
called_sound k o n xs h f =
    let all : Stays k (o.value ++ (xs ++ calling n o.mode)) =
    stays_joined k o.value (xs ++ calling n o.mode) h.0 (stays_joined k xs (calling n o.mode) f (calling_stays k n o.mode)) in
    (all, all)

-- Literals

of_type_stays : (k : ℕ) (is_struct : Bool) (t : PlainType) (keyed bare : List CodeLine) (n : ℕ) → Stays k keyed → Stays k bare →
    Stays k (literal_code is_struct t keyed bare n)
of_type_stays k true t keyed bare n f g = λ a b. (tt, f a (suc b))
of_type_stays k false t keyed bare n f g = stays_joined k bare (MakeSlice n ∷ []) g (λ a b. (tt, tt))

typed_stays : (k : ℕ) (s : Source) (t : Option PlainType) (keyed bare : List CodeLine) (n : ℕ) → Stays k keyed → Stays k bare →
    Stays k (typed_literal s t keyed bare n)
unfolding typed_literal
typed_stays k s None keyed bare n f g = none_stays k
typed_stays k s (Some t) keyed bare n f g = of_type_stays k (is_struct (underlying s.world t)) t keyed bare n f g

-- Trees

enter_if : (k : ℕ) (one : Bool) (t : Option PlainType) → Stays k (if one then line_if_known line.Enter t else [])
enter_if k true t = known_stays k line.Enter (λ t a b. (tt, tt)) t
enter_if k false t = none_stays k

pub enter_stays : (k : ℕ) (s : Source) (o : CodeOperand) (e : ExprTree) → Stays k (enter_line s o e)
enter_stays k s o e = enter_if k (value_count o.mode == 1) (s.entered (place_of e))

mutual
  unfolding operand_of operations linked argument_lines literal_lines keyed_lines bare_lines

  pub expr_sound : (s : Source) (slots : List ℕ) (e : ExprTree) → IsSound (length slots) (operand_of s slots e)
  expr_sound s slots (Number p) = (
    known_stays (length slots) line.Integer (λ n a b. (tt, tt)) (s.number p),
    known_stays (length slots) line.Integer (λ n a b. (tt, tt)) (s.number p),
  )
  expr_sound s slots (Text p) = (
    known_stays (length slots) line.Text (λ n a b. (tt, tt)) (s.text p),
    known_stays (length slots) line.Text (λ n a b. (tt, tt)) (s.text p),
  )
  expr_sound s slots (Name p) = bound_sound s slots p (s.world.bound p)
  expr_sound s slots (Blank p) = (none_stays (length slots), none_stays (length slots))
  expr_sound s slots (Composite l) = (literal_stays s slots l, literal_stays s slots l)
  expr_sound s slots (Paren o e c) = expr_sound s slots e
  expr_sound s slots (Prefix o p e) = prefixed_sound (length slots) o (operand_of s slots e).value (expr_sound s slots e).0
  expr_sound s slots (Address p l) = (
    stays_joined (length slots) (literal_lines s slots l) (New ∷ []) (literal_stays s slots l) (λ a b. (tt, tt)),
    stays_joined (length slots) (literal_lines s slots l) (New ∷ []) (literal_stays s slots l) (λ a b. (tt, tt)),
  )
  expr_sound s slots (Chain e links) = linked_sound s slots (operand_of s slots e) links (expr_sound s slots e)
  expr_sound s slots (Binary e rest) = (
    operations_stay s slots (operand_of s slots e).value rest (expr_sound s slots e).0,
    operations_stay s slots (operand_of s slots e).value rest (expr_sound s slots e).0,
  )

  operations_stay : (s : Source) (slots : List ℕ) (xs : List CodeLine) (rest : OperandTrees) → Stays (length slots) xs →
      Stays (length slots) (operations s slots xs rest)
  operations_stay s slots xs no_operand h = h
  operations_stay s slots xs (operand o p e rest) h =
      operations_stay s slots (operated o xs (operand_of s slots e).value) rest
      (operated_stays (length slots) o xs (operand_of s slots e).value h (expr_sound s slots e).0)

  linked_sound : (s : Source) (slots : List ℕ) (o : CodeOperand) (links : LinkTrees) → IsSound (length slots) o →
      IsSound (length slots) (linked s slots o links)
  linked_sound s slots o no_link h = h
  linked_sound s slots o (selector d n rest) h = linked_sound s slots (selected s slots n o) rest (selected_sound s slots n o o.mode h)
  linked_sound s slots o (index b e c rest) h =
      linked_sound s slots (indexed o (operand_of s slots e).value) rest
      (indexed_sound (length slots) o (operand_of s slots e).value h (expr_sound s slots e).0)
  linked_sound s slots o (call b xs c rest) h =
      linked_sound s slots (called o (argument_count xs) (argument_lines s slots xs)) rest
      (called_sound (length slots) o (argument_count xs) (argument_lines s slots xs) h (arguments_stay s slots xs))

  arguments_stay : (s : Source) (slots : List ℕ) (xs : ArgumentTrees) → Stays (length slots) (argument_lines s slots xs)
  arguments_stay s slots no_argument = none_stays (length slots)
  arguments_stay s slots (argument e c rest) = stays_joined (length slots) ((operand_of s slots e).value ++ enter_line s (operand_of s slots e) e)
      (argument_lines s slots rest)
      (stays_joined (length slots) (operand_of s slots e).value (enter_line s (operand_of s slots e) e) (expr_sound s slots e).0
      (enter_stays (length slots) s (operand_of s slots e) e))
      (arguments_stay s slots rest)

  literal_stays : (s : Source) (slots : List ℕ) (l : LiteralTree) → Stays (length slots) (literal_lines s slots l)
  literal_stays s slots (literal t o es c) =
      typed_stays (length slots) s (judge_type s.world t).type_of (keyed_lines s slots es) (bare_lines s slots es) (element_count es)
      (keyed_stay s slots es) (bare_stay s slots es)

  keyed_stay : (s : Source) (slots : List ℕ) (es : ElementTrees) → Stays (length slots) (keyed_lines s slots es)
  keyed_stay s slots no_element = none_stays (length slots)
  keyed_stay s slots (element key e c rest) =
      stays_joined (length slots) ((operand_of s slots e).value ++ enter_line s (operand_of s slots e) e) (line_if_known With (key_position s key) ++
      keyed_lines s slots rest)
      (stays_joined (length slots) (operand_of s slots e).value (enter_line s (operand_of s slots e) e) (expr_sound s slots e).0
      (enter_stays (length slots) s (operand_of s slots e) e))
      (stays_joined (length slots) (line_if_known With (key_position s key)) (keyed_lines s slots rest)
      (known_stays (length slots) With (λ n a b. (tt, tt)) (key_position s key)) (keyed_stay s slots rest))

  bare_stay : (s : Source) (slots : List ℕ) (es : ElementTrees) → Stays (length slots) (bare_lines s slots es)
  bare_stay s slots no_element = none_stays (length slots)
  bare_stay s slots (element key e c rest) = stays_joined (length slots) ((operand_of s slots e).value ++ enter_line s (operand_of s slots e) e) (bare_lines
      s slots rest)
      (stays_joined (length slots) (operand_of s slots e).value (enter_line s (operand_of s slots e) e) (expr_sound s slots e).0
      (enter_stays (length slots) s (operand_of s slots e) e))
      (bare_stay s slots rest)
