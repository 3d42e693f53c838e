-- Operands of code with other names: each rule for a form of expression makes of the operands with other names the result with other names.
use Rattle.std.proofs.Common.{ℕ, zero, suc, ◌≡◌, Bool, true, false, List, [], ◌∷◌, ◌++◌, Option, Some, None, option_map, map, length, refl, ap, sym, ◌∙◌}
use Rattle.std.proofs.Math.Path.{ap₂}
use Rattle.std.proofs.lemmas.List.{map-append, length-map}
use Rattle.go_ast.specs.declared.syntax.BinaryOp.{BinaryOp}
use Rattle.go_ast.specs.declared.syntax.BinaryOp.TheVariants as op
use Rattle.go_ast.specs.declared.syntax.PrefixOp.{PrefixOp}
use Rattle.go_ast.specs.declared.syntax.PrefixOp.TheVariants as prefix
use Rattle.types_expr.specs.Types.{PlainType, ValueKind, Typed, Untyped, Meaning, Value, TypeName, Function, BuiltinName, Package, Results, Broken, points}
use Rattle.types_expr.specs.Types.{is_pointer, AFieldOf, AMethodOf}
use Rattle.types_expr.specs.Types.{Nil as NilKind, is_struct}
use Rattle.types_expr.specs.World.{Bound, Means, BrokenVariable, BrokenFunction, BrokenType, Member, AField, AMethod, ABrokenMethod, underlying}
use Rattle.types_expr.specs.World.{Local as LocalName}
use Rattle.build_object.specs.Lines.{GlobalName, FunctionName, Plain, CodeLine, line_if_known, pops}
use Rattle.build_object.specs.Lines as line
use Rattle.build_object.specs.Numbering.{slot_of}
use Rattle.build_object.specs.Source.{Source}
use Rattle.build_object.specs.Operands.{Mode, Values, Called, CalledAsked, Converts, Predeclared, Qualifies, CodeOperand, plain, variable, mode_alone}
use Rattle.build_object.specs.Operands.{local_operand, global_operand, asked_mode, asked_operand}
use Rattle.build_object.specs.Operands.{function_mode, plain_function, value_name, named_meaning, bound_name, name_operand, prefixed, operated, unqualified}
use Rattle.build_object.specs.Operands.{export_operand, field_operand, receiver_lines, method_operand, member_operand, typed_selector, selected_by, selected}
use Rattle.build_object.specs.Operands.{indexed, calling, left_by_call, called, value_count, settled}
use Rattle.build_object.specs.Expressions.{field_position, keyed_in, key_position, literal_code, typed_literal}
use Rattle.law_changed_types.proofs.Agreement.{Members}
use Rattle.law_objects.specs.SourcesBy.{IsUniform, source_by}
use Rattle.law_objects.specs.Replaced.{Replaced, line_by}

abbrev pub mode_by : Replaced → Mode → Mode
mode_by r (Called received f n) = Called received (r.function f) n
mode_by r (CalledAsked f n) = CalledAsked (r.function f) n
mode_by r mode = mode

abbrev pub lines_by : Replaced → List CodeLine → List CodeLine
lines_by r lines = map (line_by r) lines

abbrev pub operand_by : Replaced → CodeOperand → CodeOperand
operand_by r o = record { value = lines_by r o.value; address = lines_by r o.address; mode = mode_by r o.mode }

pub same_operand : (a b : CodeOperand) → a.value ≡ b.value → a.address ≡ b.address → a.mode ≡ b.mode → a ≡ b
same_operand a b v k m = λ i. record { value = v i; address = k i; mode = m i }

module _ (r : Replaced) where
  abbrev L : List CodeLine → List CodeLine
  L lines = lines_by r lines

  pub both : (xs ys : List CodeLine) → L xs ++ L ys ≡ L (xs ++ ys)
  both xs ys = sym (map-append (line_by r) xs ys)

  pub known_by : {X : Type 0} (make : X → CodeLine) → ((x : X) → line_by r (make x) ≡ make x) → (o : Option X) → line_if_known make o ≡ L (line_if_known make o)
  known_by make same None = refl
  known_by make same (Some x) = ap (λ z. z ∷ []) (sym (same x))

  pub plain_by : (xs ys : List CodeLine) → xs ≡ L ys → plain xs ≡ operand_by r (plain ys)
  plain_by xs ys e = ap plain e

  -- names

  local_by : (slot : Option ℕ) → local_operand slot ≡ operand_by r (local_operand slot)
  local_by None = refl
  local_by (Some n) = refl

  global_by : (o : Option GlobalName) → global_operand (option_map r.global o) ≡ operand_by r (global_operand o)
  global_by None = refl
  global_by (Some g) = refl

  function_mode_by : (o : Option FunctionName) (b : Bool) (n : ℕ) → function_mode (option_map r.function o) b n ≡ mode_by r (function_mode o b n)
  function_mode_by None b n = refl
  function_mode_by (Some f) b n = refl

  plain_function_by : IsUniform r → (o : Option GlobalName) → plain_function (option_map r.global o) ≡ option_map r.function (plain_function o)
  plain_function_by uniform None = refl
  plain_function_by uniform (Some g) = ap Some (sym (uniform g))

  -- operators

  pub prefixed_by : (o : PrefixOp) (x : List CodeLine) → prefixed o (L x) ≡ operand_by r (prefixed o x)
  prefixed_by prefix.Plus x = refl
  prefixed_by prefix.Minus x = ap plain (both x (line.Negate ∷ []))
  prefixed_by prefix.Not x = ap plain (both x (line.Not ∷ []))
  prefixed_by prefix.Deref x = ap (λ z. variable z (L x)) (both x (line.Load ∷ []))

  operate_by : (o : BinaryOp) (a b : List CodeLine) → L a ++ (L b ++ (line.Operate o ∷ [])) ≡ L (a ++ (b ++ (line.Operate o ∷ [])))
  operate_by o a b = ap (λ z. L a ++ z) (both b (line.Operate o ∷ [])) ∙ both a (b ++ (line.Operate o ∷ []))

  pub operated_by : (o : BinaryOp) (a b : List CodeLine) → operated o (L a) (L b) ≡ L (operated o a b)
  operated_by op.And a b =
      ap (λ n. L a ++ (line.Duplicate ∷ line.JumpUnless (suc n) ∷ line.Pop ∷ L b)) (length-map b (line_by r))
      ∙ both a (line.Duplicate ∷ line.JumpUnless (suc (length b)) ∷ line.Pop ∷ b)
  operated_by op.Or a b =
      ap (λ n. L a ++ (line.Duplicate ∷ line.JumpIf (suc n) ∷ line.Pop ∷ L b)) (length-map b (line_by r))
      ∙ both a (line.Duplicate ∷ line.JumpIf (suc (length b)) ∷ line.Pop ∷ b)
  operated_by op.Multiply a b = operate_by op.Multiply a b
  operated_by op.Divide a b = operate_by op.Divide a b
  operated_by op.Remainder a b = operate_by op.Remainder a b
  operated_by op.Add a b = operate_by op.Add a b
  operated_by op.Subtract a b = operate_by op.Subtract a b
  operated_by op.Equal a b = operate_by op.Equal a b
  operated_by op.NotEqual a b = operate_by op.NotEqual a b
  operated_by op.Less a b = operate_by op.Less a b
  operated_by op.LessEqual a b = operate_by op.LessEqual a b
  operated_by op.Greater a b = operate_by op.Greater a b
  operated_by op.GreaterEqual a b = operate_by op.GreaterEqual a b

  -- selectors

  unqualified_by : (m : Mode) → unqualified (mode_by r m) ≡ mode_by r (unqualified m)
  unqualified_by (Values n) = refl
  unqualified_by (Called b f n) = refl
  unqualified_by (CalledAsked f n) = refl
  unqualified_by Converts = refl
  unqualified_by (Predeclared b) = refl
  unqualified_by Qualifies = refl

  export_by : (xs : List CodeLine) (o : CodeOperand) → export_operand (L xs) (operand_by r o) ≡ operand_by r (export_operand xs o)
  export_by xs o =
      same_operand (export_operand (L xs) (operand_by r o)) (operand_by r (export_operand xs o)) (both xs o.value) (both xs o.address) (unqualified_by o.mode)

  through_by : (make other : ℕ → CodeLine) → ((x : ℕ) → line_by r (make x) ≡ make x) → ((x : ℕ) → line_by r (other x) ≡ other x) → (i : Option ℕ) →
      (a b : List CodeLine) →
      variable (L a ++ line_if_known make i) (L b ++ line_if_known other i) ≡ operand_by r (variable (a ++ line_if_known make i) (b ++ line_if_known other i))
  through_by make other same also i a b =
      ap₂ variable (ap (λ z. L a ++ z) (known_by make same i) ∙ both a (line_if_known make i))
      (ap (λ z. L b ++ z) (known_by other also i) ∙ both b (line_if_known other i))

  field_by : (o : CodeOperand) (b : Bool) (i : Option ℕ) → field_operand (operand_by r o) b i ≡ operand_by r (field_operand o b i)
  field_by o true i = through_by line.FieldThrough line.FieldAddress (λ x. refl) (λ x. refl) i o.value o.value
  field_by o false i = through_by line.Field line.FieldAddress (λ x. refl) (λ x. refl) i o.value o.address

  receiver_by : (o : CodeOperand) (p q : Bool) → receiver_lines (operand_by r o) p q ≡ L (receiver_lines o p q)
  receiver_by o true true = refl
  receiver_by o true false = both o.value (line.Load ∷ [])
  receiver_by o false true = refl
  receiver_by o false false = refl

  method_by : (xs ys : List CodeLine) → xs ≡ L ys → (name : Option FunctionName) (n : ℕ) →
      method_operand xs (option_map r.function name) n ≡ operand_by r (method_operand ys name n)
  method_by xs ys e name n =
      same_operand (method_operand xs (option_map r.function name) n) (operand_by r (method_operand ys name n)) e e (function_mode_by name true n)

  asked_mode_by : (o : Option FunctionName) (n : ℕ) → asked_mode (option_map r.function o) n ≡ mode_by r (asked_mode o n)
  asked_mode_by None n = refl
  asked_mode_by (Some f) n = refl

  asked_operand_by : (o : CodeOperand) (name : Option FunctionName) (n : ℕ) →
      asked_operand (operand_by r o) (option_map r.function name) n ≡ operand_by r (asked_operand o name n)
  asked_operand_by o name n =
      same_operand (asked_operand (operand_by r o) (option_map r.function name) n) (operand_by r (asked_operand o name n)) refl refl (asked_mode_by name n)

  -- indexes and calls

  pub indexed_by : (o : CodeOperand) (i : List CodeLine) → indexed (operand_by r o) (L i) ≡ operand_by r (indexed o i)
  indexed_by o i =
      ap₂ variable (ap (λ z. L o.value ++ z) (both i (line.Index ∷ [])) ∙ both o.value (i ++ (line.Index ∷ [])))
      (ap (λ z. L o.value ++ z) (both i (line.IndexAddress ∷ [])) ∙ both o.value (i ++ (line.IndexAddress ∷ [])))

  calling_by : (n : ℕ) (m : Mode) → calling n (mode_by r m) ≡ L (calling n m)
  unfolding calling
  calling_by n (Values k) = refl
  calling_by n (Called b f k) = refl
  calling_by n (CalledAsked f k) = refl
  calling_by n Converts = refl
  calling_by n (Predeclared b) = refl
  calling_by n Qualifies = refl

  left_by : (m : Mode) → left_by_call (mode_by r m) ≡ left_by_call m
  unfolding left_by_call
  left_by (Values k) = refl
  left_by (Called b f k) = refl
  left_by (CalledAsked f k) = refl
  left_by Converts = refl
  left_by (Predeclared b) = refl
  left_by Qualifies = refl

  pub called_by : (o : CodeOperand) (n : ℕ) (xs : List CodeLine) → called (operand_by r o) n (L xs) ≡ operand_by r (called o n xs)
  called_by o n xs =
      let lines : L o.value ++ (L xs ++ calling n (mode_by r o.mode)) ≡ L (o.value ++ (xs ++ calling n o.mode)) =
      ap (λ z. L o.value ++ (L xs ++ z)) (calling_by n o.mode) ∙ ap (λ z. L o.value ++ z) (both xs (calling n o.mode)) ∙
      both o.value (xs ++ calling n o.mode) in
      same_operand (called (operand_by r o) n (L xs)) (operand_by r (called o n xs)) lines lines (ap Values (left_by o.mode))

  pub count_by : (m : Mode) → value_count (mode_by r m) ≡ value_count m
  count_by (Values k) = refl
  count_by (Called b f k) = refl
  count_by (CalledAsked f k) = refl
  count_by Converts = refl
  count_by (Predeclared b) = refl
  count_by Qualifies = refl

  pub settled_by : (o : CodeOperand) → settled (operand_by r o) ≡ operand_by r (settled o)
  settled_by o = same_operand (settled (operand_by r o)) (operand_by r (settled o)) refl refl (ap Values (count_by o.mode))

  pub pops_by : (n : ℕ) → pops n ≡ L (pops n)
  unfolding pops
  pops_by zero = refl
  pops_by (suc n) = ap (λ z. line.Pop ∷ z) (pops_by n)

  -- with a source

  module _ (uniform : IsUniform r) (s : Source) (m : Members) (numbers : ℕ → Option ℕ)
      (agree : (n : ℕ) (t : PlainType) → s.before n ≡ Some t → m n t ≡ s.world.member n t) where
    abbrev pub now : Source
    now = source_by r s m numbers

    value_name_by : (n : ℕ) (k : ValueKind) → value_name now n k ≡ operand_by r (value_name s n k)
    value_name_by n (Typed t) = global_by (s.global n)
    value_name_by n (Untyped b) = refl
    value_name_by n NilKind = refl

    named_by : (n : ℕ) (x : Meaning) → named_meaning now n x ≡ operand_by r (named_meaning s n x)
    unfolding named_meaning
    named_by n (Value k a) = value_name_by n k
    named_by n (TypeName t) = refl
    named_by n (Function f) =
        ap (λ o. mode_alone (function_mode o false (length f.results))) (plain_function_by uniform (s.global n))
        ∙ ap mode_alone (function_mode_by (plain_function (s.global n)) false (length f.results))
    named_by n (BuiltinName b) = refl
    named_by n Package = refl
    named_by n (Results ts) = refl
    named_by n Broken = refl

    bound_by : (slots : List ℕ) (n : ℕ) (b : Bound) → bound_name now slots n b ≡ operand_by r (bound_name s slots n b)
    unfolding bound_name
    bound_by slots n (LocalName place) = local_by (slot_of slots place)
    bound_by slots n (Means x) = named_by n x
    bound_by slots n BrokenVariable = refl
    bound_by slots n BrokenFunction = refl
    bound_by slots n BrokenType = refl

    pub name_by : (slots : List ℕ) (n : ℕ) → name_operand now slots n ≡ operand_by r (name_operand s slots n)
    name_by slots n = bound_by slots n (s.world.bound n)

    member_by : (o : CodeOperand) (t : PlainType) (x : Option Member) → member_operand now (operand_by r o) t x ≡ operand_by r (member_operand s o t x)
    unfolding member_operand
    member_by o t None = refl
    member_by o t (Some (AField f (AFieldOf own))) = field_by o (points (underlying s.world t)) (s.position f)
    member_by o t (Some (AField f (AMethodOf signature))) = asked_operand_by o (s.asked f) (length signature.results)
    member_by o t (Some (AMethod f on_pointer signature)) =
        method_by (receiver_lines (operand_by r o) (is_pointer t) on_pointer) (receiver_lines o (is_pointer t) on_pointer)
        (receiver_by o (is_pointer t) on_pointer) (s.function f) (length signature.results)
    member_by o t (Some (ABrokenMethod f)) = refl

    typed_by : (n : ℕ) (o : CodeOperand) (b : Option PlainType) → s.before n ≡ b → typed_selector now n (operand_by r o) b ≡ operand_by r (typed_selector s
        n o b)
    unfolding typed_selector
    typed_by n o None e = refl
    typed_by n o (Some t) e = ap (member_operand now (operand_by r o) t) (agree n t e) ∙ member_by o t (s.world.member n t)

    selected_mode_by : (slots : List ℕ) (n : ℕ) (o : CodeOperand) (x : Mode) →
        selected_by now slots n (operand_by r o) (mode_by r x) ≡ operand_by r (selected_by s slots n o x)
    unfolding selected_by
    selected_mode_by slots n o Qualifies =
        ap (export_operand (L o.value)) (name_by slots n) ∙ export_by o.value (name_operand s slots n)
    selected_mode_by slots n o (Values k) = typed_by n o (s.before n) refl
    selected_mode_by slots n o (Called b f k) = typed_by n o (s.before n) refl
    selected_mode_by slots n o (CalledAsked f k) = typed_by n o (s.before n) refl
    selected_mode_by slots n o Converts = typed_by n o (s.before n) refl
    selected_mode_by slots n o (Predeclared b) = typed_by n o (s.before n) refl

    pub select_by : (slots : List ℕ) (n : ℕ) (o : CodeOperand) → selected now slots n (operand_by r o) ≡ operand_by r (selected s slots n o)
    select_by slots n o = selected_mode_by slots n o o.mode

    -- composite literals

    field_position_by : (x : Option Member) → field_position now x ≡ field_position s x
    field_position_by None = refl
    field_position_by (Some (AField f t)) = refl
    field_position_by (Some (AMethod f p g)) = refl
    field_position_by (Some (ABrokenMethod f)) = refl

    keyed_by : (n : ℕ) (b : Option PlainType) → s.before n ≡ b → keyed_in now n b ≡ keyed_in s n b
    keyed_by n None e = refl
    keyed_by n (Some t) e = ap (field_position now) (agree n t e) ∙ field_position_by (s.world.member n t)

    pub key_by : (k : Option (ℕ × ℕ)) → key_position now k ≡ key_position s k
    key_by None = refl
    key_by (Some k) = keyed_by k.0 (s.before k.0) refl

    literal_code_by : (b : Bool) (t : PlainType) (xs ys : List CodeLine) (n : ℕ) → literal_code b t (L xs) (L ys) n ≡ L (literal_code b t xs ys n)
    literal_code_by true t xs ys n = refl
    literal_code_by false t xs ys n = both ys (line.MakeSlice n ∷ [])

    pub literal_by : (t : Option PlainType) (xs ys : List CodeLine) (n : ℕ) → typed_literal now t (L xs) (L ys) n ≡ L (typed_literal s t xs ys n)
    unfolding typed_literal
    literal_by None xs ys n = refl
    literal_by (Some t) xs ys n = literal_code_by (is_struct (underlying s.world t)) t xs ys n
