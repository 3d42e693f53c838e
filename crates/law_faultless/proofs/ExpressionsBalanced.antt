-- What the code of an expression leaves on the stack, by what the expression means.
use Rattle.std.proofs.Common.{ℕ, suc, ◌≡◌, true, List, [], ◌∷◌, ◌++◌, length, ap, refl, sym, ◌∙◌, subst, arith, Option, Some, None}
use Rattle.std.proofs.lemmas.Bool.{true≢false}
use Rattle.go_ast.specs.declared.syntax.PrefixOp.{PrefixOp}
use Rattle.go_ast.specs.Tree.{TypeTree, ExprTree, LinkTrees, OperandTrees, ArgumentTrees, LiteralTree, ElementTrees}
use Rattle.go_ast.specs.Tree as tree
use Rattle.go_ast.specs.WellFormed.{is_operand, strength, IsExpr, AreOperands, AreLinks, AreArguments, IsLiteral, AreElements}
use Rattle.types_expr.specs.declared.symbol.Symbol.{Symbol}
use Rattle.types_expr.specs.Types.{PlainType, SliceOf, Struct, ValueKind, Meaning, Value, TypeName, Function, BuiltinName, Package, Results, Broken, is_struct}
use Rattle.types_expr.specs.Types.{AFieldOf}
use Rattle.types_expr.specs.World.{World, Locals, AField, underlying}
use Rattle.types_expr.specs.Judge.{judge_type}
use Rattle.law_typing.specs.Names.{IsType}
use Rattle.law_typing.specs.Operators.{Prefixes, plus, negates, denies, follows}
use Rattle.law_typing.specs.Meanings.{HasMeaning, number, text, name, composite, paren, prefix, address, chain, binary, LinksMean, no_link, selector, index}
use Rattle.law_typing.specs.Meanings.{call, OperandsMean, no_operand, operand, AreValues, no_argument, argument, IsLiteralOf, struct_literal, slice_literal}
use Rattle.law_typing.specs.Meanings.{AreFields, no_field, field, AreElements as AreSliceElements, no_element, element}
use Rattle.law_typing.proofs.Naming.{type_true}
use Rattle.build_object.specs.Lines.{FunctionName, CodeLine, line_if_known}
use Rattle.build_object.specs.Lines as line
use Rattle.build_object.specs.Source.{Source}
use Rattle.build_object.specs.Operands.{CodeOperand, Values, plain, prefixed, operated, selected, indexed, called, settled, grouped, value_count}
use Rattle.build_object.specs.Expressions.{argument_count, element_count, field_position, keyed_in, key_position, literal_code, typed_literal, operand_of}
use Rattle.build_object.specs.Expressions.{operations, linked, argument_lines, literal_lines, keyed_lines, bare_lines, value_lines, given_lines}
use Rattle.law_faultless.specs.Stack.{Arity}
use Rattle.law_faultless.specs.Questions.{TokenQuestion, OfInteger, OfText, OfName, OfExport, OfMember}
use Rattle.law_faultless.specs.Questions.{Asks, for_integer, for_text, for_name, in_composite, in_paren}
use Rattle.law_faultless.specs.Questions.{in_prefix, in_address, in_chain, in_links, in_binary, in_operands, LinksAsk, for_member, for_export, behind_selector}
use Rattle.law_faultless.specs.Questions.{in_index, behind_index, in_arguments, behind_call}
use Rattle.law_faultless.specs.Questions.{OperandsAsk, in_operand, in_later_operand, ArgumentsAsk, in_argument}
use Rattle.law_faultless.specs.Questions.{in_later_argument, LiteralAsks, in_elements, ElementsAsk, for_key, in_element, in_later_element}
use Rattle.law_faultless.specs.QuestionAnswers.{IsKnown, IsAnswered, MemberIsKnown}
use Rattle.law_faultless.proofs.StackParts.{Turns, none_turns, turns_as, turns_joined, turns_over, line_turns, turns_then, known_turns}
use Rattle.law_faultless.proofs.OperandStack.{IsOneValue, Stands, Settles, given_turns, plain_value, name_stands, prefixed_value, operated_turns}
use Rattle.law_faultless.proofs.LinksBalanced.{selected_stands, index_stands, called_stands}

-- An operand that leaves what its meaning says leaves it as a whole chain too.
settles : (arity : FunctionName → Arity) (o : CodeOperand) (m : Meaning) → Stands arity o m → Settles arity o m
settles arity o (Value k a) h = h
settles arity o (TypeName t) h = tt
settles arity o (Function f) h = tt
settles arity o (BuiltinName b) h = tt
settles arity o Package h = tt
settles arity o (Results ts) h = h
settles arity o Broken h = tt

-- a chain as an expression
chain_settles : (arity : FunctionName → Arity) (o : CodeOperand) (m : Meaning) → Stands arity o m → Settles arity (settled o) m
chain_settles arity o (Value k a) h = record { mode = ap (λ z. Values (value_count z)) h.mode; value = h.value; address = h.address }
chain_settles arity o (TypeName t) h = tt
chain_settles arity o (Function f) h = tt
chain_settles arity o (BuiltinName b) h = tt
chain_settles arity o Package h = tt
chain_settles arity o (Results ts) h = record { is = ap (λ z. Values (value_count z)) h.is; value = h.value }
chain_settles arity o Broken h = tt

grouped_value : (arity : FunctionName → Arity) (o : CodeOperand) → IsOneValue arity o → IsOneValue arity (grouped o)
grouped_value arity o v = record { mode = refl; value = v.value; address = v.address }

pub argument_count_of : {w : World} {locals : Locals} {xs : ArgumentTrees} {ks : List ValueKind} → AreValues w locals xs ks → argument_count xs ≡ length ks
unfolding argument_count
argument_count_of no_argument = refl
argument_count_of (argument h more) = ap suc (argument_count_of more)

integer_value : (arity : FunctionName → Arity) (n : Option ℕ) → IsKnown n → IsOneValue arity (plain (line_if_known line.Integer n))
integer_value arity n k = plain_value arity (line_if_known line.Integer n) (known_turns arity line.Integer n k.0 0 1 k.1
    (line_turns arity (line.Integer k.0) 0 1 refl refl (λ at i m. m)))

text_value : (arity : FunctionName → Arity) (bytes : Option (List ℕ)) → IsKnown bytes → IsOneValue arity (plain (line_if_known line.Text bytes))
text_value arity bytes k = plain_value arity (line_if_known line.Text bytes) (known_turns arity line.Text bytes k.0 0 1 k.1
    (line_turns arity (line.Text k.0) 0 1 refl refl (λ at i m. m)))

-- a key sets its field
key_turns : (arity : FunctionName → Arity) (s : Source) (slots : List ℕ) (key : ℕ × ℕ) (t u : PlainType) (f : Symbol) →
    s.world.member key.0 t ≡ Some (AField f (AFieldOf u)) → IsAnswered arity s slots (OfMember key.0 t) →
    Turns arity 2 1 (line_if_known line.With (key_position s (Some key)))
key_turns arity s slots key t u f e k =
    let known : IsKnown (s.position f) = subst (λ z. MemberIsKnown arity s z) e k.1 in
    let there : keyed_in s key.0 (s.before key.0) ≡ s.position f = ap (λ z. keyed_in s key.0 z) k.0 ∙ ap (λ z. field_position s z) e in
    known_turns arity line.With (key_position s (Some key)) known.0 2 1 (there ∙ known.1) (line_turns arity (line.With known.0) 2 1 refl refl (λ at i m. m))

keyed_more : (arity : FunctionName → Arity) (xs ys zs : List CodeLine) → Turns arity 0 1 xs → Turns arity 2 1 ys → Turns arity 1 1 zs →
    Turns arity 1 1 (xs ++ (ys ++ zs))
keyed_more arity xs ys zs f g h = turns_joined arity 1 2 1 xs (ys ++ zs) (turns_over arity 1 0 1 xs f) (turns_joined arity 2 1 1 ys zs g h)

-- one value that is given to something
pub one_given : (arity : FunctionName → Arity) (s : Source) (slots : List ℕ) (e : ExprTree) → IsOneValue arity (operand_of s slots e) →
    Turns arity 0 1 (given_lines s slots e)
one_given arity s slots e v = given_turns arity s (operand_of s slots e) e 1 v.mode v.value

-- a literal of a type whose underlying type is known
struct_turns : (arity : FunctionName → Arity) (s : Source) (x : TypeTree) (t : PlainType) (owner : Symbol) (keyed bare : List CodeLine) (n : ℕ) →
    IsType s.world x t → underlying s.world t ≡ Struct owner → Turns arity 1 1 keyed →
    Turns arity 0 1 (typed_literal s (judge_type s.world x).type_of keyed bare n)
unfolding typed_literal
struct_turns arity s x t owner keyed bare n h e f =
    subst (λ z. Turns arity 0 1 (typed_literal s z.type_of keyed bare n)) (sym (type_true s.world h))
    (subst (λ z. Turns arity 0 1 (literal_code (is_struct z) t keyed bare n)) (sym e)
    (turns_joined arity 0 1 1 (line.Zero t ∷ []) keyed (line_turns arity (line.Zero t) 0 1 refl refl (λ at i m. m)) f))

slice_turns : (arity : FunctionName → Arity) (s : Source) (x : TypeTree) (t u : PlainType) (keyed bare : List CodeLine) (n : ℕ) → IsType s.world x t →
    underlying s.world t ≡ SliceOf u → Turns arity 0 n bare →
    Turns arity 0 1 (typed_literal s (judge_type s.world x).type_of keyed bare n)
unfolding typed_literal
slice_turns arity s x t u keyed bare n h e f =
    subst (λ z. Turns arity 0 1 (typed_literal s z.type_of keyed bare n)) (sym (type_true s.world h))
    (subst (λ z. Turns arity 0 1 (literal_code (is_struct z) t keyed bare n)) (sym e)
    (turns_joined arity 0 n 1 bare (line.MakeSlice n ∷ []) f (line_turns arity (line.MakeSlice n) n 1 refl refl (λ at i m. m))))

binary_parts : (e : ExprTree) (rest : OperandTrees) → IsExpr (tree.Binary e rest) → IsExpr e × ((n : ℕ) × AreOperands n rest)
unfolding IsExpr
binary_parts e tree.no_operand f = absurd f
binary_parts e (tree.operand o p x more) f = (f.1, (strength o, f.2))

prefix_settles : {w : World} {o : PrefixOp} {k : ValueKind} {m : Meaning} (arity : FunctionName → Arity) (x : CodeOperand) → Prefixes w o k m →
    IsOneValue arity x →
    Settles arity x m
prefix_settles arity x (plus h) v = v
prefix_settles arity x (negates h) v = v
prefix_settles arity x (denies h) v = v
prefix_settles arity x (follows h) v = v

-- with that world in place of its own
abbrev pub over : World → Source → Source
over w s = record s { world = w }

-- each question of a part is answered
abbrev pub Answers : (arity : FunctionName → Arity) → Source → (slots : List ℕ) → (TokenQuestion → Type 0) → Type 0
Answers arity s slots asks = (q : TokenQuestion) → asks q → IsAnswered arity s slots q

mutual
  unfolding operand_of IsExpr argument_count element_count

  pub expression_settles : (arity : FunctionName → Arity) (w : World) (s : Source) (slots : List ℕ) (locals : Locals) {e : ExprTree} {m : Meaning} →
      HasMeaning w locals e m → IsExpr e →
      Answers arity (over w s) slots (Asks w locals e) → Settles arity (operand_of (over w s) slots e) m
  expression_settles arity w s slots locals (number {p}) f k = integer_value arity (s.number p) (k (OfInteger p) for_integer)
  expression_settles arity w s slots locals (text {p}) f k = text_value arity (s.text p) (k (OfText p) for_text)
  expression_settles arity w s slots locals (name {p} {m} h) f k = settles arity (operand_of (over w s) slots (tree.Name p)) m
      (name_stands arity (over w s) slots locals p h (k (OfName p) for_name))
  expression_settles arity w s slots locals (composite {l} h) f k = plain_value arity (literal_lines (over w s) slots l)
      (literal_turns arity w s slots locals h f (λ q a. k q (in_composite a)))
  expression_settles arity w s slots locals (paren {e = e} h) f k = grouped_value arity (operand_of (over w s) slots e)
      (expression_settles arity w s slots locals h f (λ q a. k q (in_paren a)))
  expression_settles arity w s slots locals (prefix {o} {e = e} h r) f k =
      prefix_settles arity (prefixed o (value_lines (over w s) slots e)) r (prefixed_value arity o (value_lines (over w s) slots e)
      (expression_settles arity w s slots locals h f.1 (λ q a. k q (in_prefix a))).value)
  expression_settles arity w s slots locals (address {l = l} h) f k = plain_value arity (literal_lines (over w s) slots l ++ (line.New ∷ []))
      (turns_joined arity 0 1 1 (literal_lines (over w s) slots l) (line.New ∷ []) (literal_turns arity w s slots locals h f (λ q a. k q (in_address a)))
      (line_turns arity line.New 1 1 refl refl (λ at i m. m)))
  expression_settles arity w s slots locals (chain {e} {links} {m} {r} h more) f k =
      chain_settles arity (linked (over w s) slots (operand_of (over w s) slots e) links) r
      (links_stand arity w s slots locals more f.3 (operand_of (over w s) slots e) (operand_stands arity w s slots locals h f.0 f.2 (λ q a. k q (in_chain a)))
      (λ q a. k q (in_links h a)))
  expression_settles arity w s slots locals (binary {e} {rest} h more) f k = let parts = binary_parts e rest f in
      operands_settle arity w s slots locals more parts.1.0 parts.1.1 (value_lines (over w s) slots e)
      (expression_settles arity w s slots locals h parts.0 (λ q a. k q (in_binary a))).value (λ lines t. plain_value arity lines t)
      (λ q a. k q (in_operands a))

  -- what may stand before selectors, indexes and calls
  operand_stands : (arity : FunctionName → Arity) (w : World) (s : Source) (slots : List ℕ) (locals : Locals) {e : ExprTree} {m : Meaning} →
      HasMeaning w locals e m → is_operand e ≡ true → IsExpr e →
      Answers arity (over w s) slots (Asks w locals e) → Stands arity (operand_of (over w s) slots e) m
  operand_stands arity w s slots locals (number {p}) o f k = integer_value arity (s.number p) (k (OfInteger p) for_integer)
  operand_stands arity w s slots locals (text {p}) o f k = text_value arity (s.text p) (k (OfText p) for_text)
  operand_stands arity w s slots locals (name {p} {m} h) o f k = name_stands arity (over w s) slots locals p h (k (OfName p) for_name)
  operand_stands arity w s slots locals (composite {l} h) o f k = plain_value arity (literal_lines (over w s) slots l)
      (literal_turns arity w s slots locals h f (λ q a. k q (in_composite a)))
  operand_stands arity w s slots locals (paren {e = e} h) o f k = grouped_value arity (operand_of (over w s) slots e)
      (expression_settles arity w s slots locals h f (λ q a. k q (in_paren a)))
  operand_stands arity w s slots locals (prefix h r) o f k = absurd (true≢false (sym o))
  operand_stands arity w s slots locals (address h) o f k = absurd (true≢false (sym o))
  operand_stands arity w s slots locals (chain h more) o f k = absurd (true≢false (sym o))
  operand_stands arity w s slots locals (binary h more) o f k = absurd (true≢false (sym o))

  -- operators behind a value
  operands_settle : (arity : FunctionName → Arity) (w : World) (s : Source) (slots : List ℕ) (locals : Locals) {m : Meaning} {rest : OperandTrees}
      {r : Meaning} → OperandsMean w locals m rest r → (n : ℕ) → AreOperands n rest → (lines : List CodeLine) →
      Turns arity 0 1 lines → ((ls : List CodeLine) → Turns arity 0 1 ls → Settles arity (plain ls) m) →
      Answers arity (over w s) slots (OperandsAsk w locals rest) → Settles arity (plain (operations (over w s) slots lines rest)) r
  operands_settle arity w s slots locals no_operand n f lines t v k = v lines t
  operands_settle arity w s slots locals (operand {o} {e = e} h q more) n f lines t v k =
      operands_settle arity w s slots locals more n f.3 (operated o lines (value_lines (over w s) slots e))
      (operated_turns arity o lines (value_lines (over w s) slots e) t (expression_settles arity w s slots locals h f.2 (λ q a. k q (in_operand a))).value)
      (λ ls u. plain_value arity ls u) (λ q a. k q (in_later_operand a))

  links_stand : (arity : FunctionName → Arity) (w : World) (s : Source) (slots : List ℕ) (locals : Locals) {m : Meaning} {links : LinkTrees} {r : Meaning} →
      LinksMean w locals m links r → AreLinks links → (o : CodeOperand) →
      Stands arity o m → Answers arity (over w s) slots (LinksAsk w locals m links) → Stands arity (linked (over w s) slots o links) r
  links_stand arity w s slots locals no_link f o h k = h
  links_stand arity w s slots locals (selector {d} {n} {rest} x more) f o h k =
      links_stand arity w s slots locals more f (selected (over w s) slots n o)
      (selected_stands arity (over w s) slots locals n o x h
      (λ t a e. k (OfMember n t) (subst (λ z. LinksAsk w locals z (tree.selector d n rest) (OfMember n t)) (sym e) for_member))
      (λ e. k (OfExport n) (subst (λ z. LinksAsk w locals z (tree.selector d n rest) (OfExport n)) (sym e) for_export))) (λ q a. k q (behind_selector x a))
  links_stand arity w s slots locals (index {e = e} v i more) f o h k =
      links_stand arity w s slots locals more f.1 (indexed o (value_lines (over w s) slots e))
      (index_stands arity w o (value_lines (over w s) slots e) i h (expression_settles arity w s slots locals v f.0 (λ q a. k q (in_index a))).value)
      (λ q a. k q (behind_index v i a))
  links_stand arity w s slots locals (call {arguments = xs} vs c more) f o h k =
      links_stand arity w s slots locals more f.1 (called o (argument_count xs) (argument_lines (over w s) slots xs))
      (called_stands arity w o (argument_count xs) (argument_lines (over w s) slots xs) c (argument_count_of vs) h
      (arguments_turn arity w s slots locals vs f.0 (λ q a. k q (in_arguments a)))) (λ q a. k q (behind_call vs c a))

  arguments_turn : (arity : FunctionName → Arity) (w : World) (s : Source) (slots : List ℕ) (locals : Locals) {xs : ArgumentTrees} {ks : List ValueKind} →
      AreValues w locals xs ks → AreArguments xs →
      Answers arity (over w s) slots (ArgumentsAsk w locals xs) → Turns arity 0 (argument_count xs) (argument_lines (over w s) slots xs)
  arguments_turn arity w s slots locals no_argument f k = none_turns arity 0
  arguments_turn arity w s slots locals (argument {e} {c} {rest} h more) f k =
      turns_as arity (argument_lines (over w s) slots (tree.argument e c rest)) refl (omega arith)
      (turns_then arity 1 (argument_count rest) (given_lines (over w s) slots e) (argument_lines (over w s) slots rest)
      (one_given arity (over w s) slots e (expression_settles arity w s slots locals h f.1 (λ q a. k q (in_argument a))))
      (arguments_turn arity w s slots locals more f.2 (λ q a. k q (in_later_argument a))))

  literal_turns : (arity : FunctionName → Arity) (w : World) (s : Source) (slots : List ℕ) (locals : Locals) {l : LiteralTree} {t : PlainType} →
      IsLiteralOf w locals l t → IsLiteral l →
      Answers arity (over w s) slots (LiteralAsks w locals l) → Turns arity 0 1 (literal_lines (over w s) slots l)
  literal_turns arity w s slots locals (struct_literal {x} {es = es} {t} {s = owner} h e fs) f k =
      struct_turns arity (over w s) x t owner (keyed_lines (over w s) slots es) (bare_lines (over w s) slots es) (element_count es) h e
      (fields_turn arity w s slots locals fs f.1 (λ q a. k q (in_elements h a)))
  literal_turns arity w s slots locals (slice_literal {x} {es = es} {t} {u} h e vs) f k =
      slice_turns arity (over w s) x t u (keyed_lines (over w s) slots es) (bare_lines (over w s) slots es) (element_count es) h e
      (elements_turn arity w s slots locals t vs f.1 (λ q a. k q (in_elements h a)))

  fields_turn : (arity : FunctionName → Arity) (w : World) (s : Source) (slots : List ℕ) (locals : Locals) {t : PlainType} {named : List ℕ}
      {es : ElementTrees} → AreFields w locals t named es → AreElements es →
      Answers arity (over w s) slots (ElementsAsk w locals t es) → Turns arity 1 1 (keyed_lines (over w s) slots es)
  fields_turn arity w s slots locals no_field f k = none_turns arity 1
  fields_turn arity w s slots locals (field {t} {u} {key = key} {e} {rest = rest} {s = x} m n v fit more) f k =
      keyed_more arity (given_lines (over w s) slots e) (line_if_known line.With (key_position (over w s) (Some key))) (keyed_lines (over w s) slots rest)
      (one_given arity (over w s) slots e (expression_settles arity w s slots locals v f.1 (λ q a. k q (in_element a))))
      (key_turns arity (over w s) slots key t u x m (k (OfMember key.0 t) for_key)) (fields_turn arity w s slots locals more f.2
      (λ q a. k q (in_later_element a)))

  elements_turn : (arity : FunctionName → Arity) (w : World) (s : Source) (slots : List ℕ) (locals : Locals) (t : PlainType) {u : PlainType}
      {es : ElementTrees} → AreSliceElements w locals u es → AreElements es →
      Answers arity (over w s) slots (ElementsAsk w locals t es) → Turns arity 0 (element_count es) (bare_lines (over w s) slots es)
  elements_turn arity w s slots locals t no_element f k = none_turns arity 0
  elements_turn arity w s slots locals t (element {e = e} {c} {rest} v fit more) f k =
      turns_as arity (bare_lines (over w s) slots (tree.element None e c rest)) refl (omega arith)
      (turns_then arity 1 (element_count rest) (given_lines (over w s) slots e) (bare_lines (over w s) slots rest)
      (one_given arity (over w s) slots e (expression_settles arity w s slots locals v f.1 (λ q a. k q (in_element a))))
      (elements_turn arity w s slots locals t more f.2 (λ q a. k q (in_later_element a))))
