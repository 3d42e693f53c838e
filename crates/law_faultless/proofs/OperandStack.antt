-- What operands leave on the stack, by what they mean.
use Rattle.std.proofs.Common.{ℕ, suc, ◌≡◌, ◌==◌, ◌+◌, ◌-◌, Bool, true, false, if◌then◌else◌, List, [], ◌∷◌, ◌++◌, length, ap, refl, sym, ◌∙◌, subst}
use Rattle.std.proofs.Common.{arith, Option, Some, None}
use Rattle.std.proofs.lemmas.Bool.{eqb-true}
use Rattle.go_ast.specs.Tree.{ExprTree}
use Rattle.std.specs.Prelude.{⊤}
use Rattle.go_ast.specs.declared.syntax.BinaryOp.{BinaryOp}
use Rattle.go_ast.specs.declared.syntax.BinaryOp.TheVariants as op
use Rattle.go_ast.specs.declared.syntax.PrefixOp.{PrefixOp}
use Rattle.go_ast.specs.declared.syntax.PrefixOp.TheVariants as prefix
use Rattle.types_expr.specs.Types.{ValueKind, Typed, Untyped, Nil, Signature, Meaning, Value, TypeName, Function, BuiltinName, Package, Results, Broken}
use Rattle.types_expr.specs.Places.{place_of}
use Rattle.types_expr.specs.Types.{PlainType}
use Rattle.types_expr.specs.World.{Locals}
use Rattle.law_typing.specs.Names.{IsNotBroken, NameMeans, a_local, a_bound}
use Rattle.build_object.specs.Expressions.{enter_line}
use Rattle.build_object.specs.Lines.{FunctionName, CodeLine, line_if_known}
use Rattle.build_object.specs.Lines as line
use Rattle.build_object.specs.Source.{Source}
use Rattle.build_object.specs.Numbering.{slot_of}
use Rattle.build_object.specs.Operands.{CodeOperand, Mode, Values, Called, CalledAsked, Converts, Predeclared, Qualifies, plain, mode_alone, local_operand}
use Rattle.build_object.specs.Operands.{function_mode, plain_function, value_name, named_meaning, bound_name, name_operand, prefixed, operated, counted}
use Rattle.build_object.specs.Operands.{value_count}
use Rattle.law_faultless.specs.Stack.{Arity, ChangesHeight, LineObeys}
use Rattle.law_faultless.specs.QuestionAnswers.{IsKnown, IsNamedWith, plain_arity, MeaningIsKnown, NameIsKnown}
use Rattle.law_faultless.proofs.StackParts.{is_behind, Turns, none_turns, turns_joined, turns_over, line_turns, known_turns}
use Rattle.law_faultless.proofs.StackParts as turning

-- one value, whose address is one value too
pub record IsOneValue (arity : FunctionName → Arity) (o : CodeOperand) : Type 0 where
  pub mode : o.mode ≡ Values 1
  pub value : Turns arity 0 1 o.value
  pub address : Turns arity 0 1 o.address

-- what is no value of its own, with n values that it begins with
pub record IsHead (arity : FunctionName → Arity) (o : CodeOperand) (mode : Mode) (n : ℕ) : Type 0 where
  pub is : o.mode ≡ mode
  pub value : Turns arity 0 n o.value

-- the mode of a function or method with this name and so many results; `received`: a receiver, or the value of an interface, is on the stack
pub data IsCallMode : Mode → (received : Bool) → FunctionName → (results : ℕ) → Type 0 where
  by_call : {received : Bool} {name : FunctionName} {results : ℕ} → IsCallMode (Called received name results) received name results
  by_asking : {name : FunctionName} {results : ℕ} → IsCallMode (CalledAsked name results) true name results

-- a function, with its receiver where it is a method, or a method that an interface asks for
pub record IsCallee (arity : FunctionName → Arity) (o : CodeOperand) (f : Signature) : Type 0 where
  pub name : FunctionName
  pub received : Bool
  pub mode : Mode
  pub is_call : IsCallMode mode received name (length f.results)
  pub head : IsHead arity o mode (counted received 0)
  pub takes : (arity name).parameters ≡ counted received (length f.parameters)
  pub gives : (arity name).results ≡ length f.results

-- what means m
abbrev pub Stands : (FunctionName → Arity) → CodeOperand → Meaning → Type 0
Stands arity o (Value k a) = IsOneValue arity o
Stands arity o (TypeName t) = IsHead arity o Converts 0
Stands arity o (Function f) = IsCallee arity o f
Stands arity o (BuiltinName b) = IsHead arity o (Predeclared b) 0
Stands arity o Package = IsHead arity o Qualifies 0
Stands arity o (Results ts) = IsHead arity o (Values (length ts)) (length ts)
Stands arity o Broken = ⊤

-- A whole chain leaves what its meaning says: one value, or the results of a call. For other meanings nothing is required.
abbrev pub Settles : (FunctionName → Arity) → CodeOperand → Meaning → Type 0
Settles arity o (Value k a) = IsOneValue arity o
Settles arity o (Results ts) = IsHead arity o (Values (length ts)) (length ts)
Settles arity o m = ⊤

-- A value whose lines are those of its address too
pub plain_value : (arity : FunctionName → Arity) (lines : List CodeLine) → Turns arity 0 1 lines → IsOneValue arity (plain lines)
plain_value arity lines t = record { mode = refl; value = t; address = t }

-- what is given to something: behind one value may stand its entry into an interface

enter_known : (arity : FunctionName → Arity) (t : Option PlainType) → Turns arity 1 1 (line_if_known line.Enter t)
enter_known arity None = none_turns arity 1
enter_known arity (Some t) = line_turns arity (line.Enter t) 1 1 refl refl (λ at i m. m)

enter_if : (arity : FunctionName → Arity) (n : ℕ) (one : Bool) → (one ≡ true → n ≡ 1) → (t : Option PlainType) →
    Turns arity n n (if one then line_if_known line.Enter t else [])
enter_if arity n true is t = subst (λ k. Turns arity k k (line_if_known line.Enter t)) (sym (is refl)) (enter_known arity t)
enter_if arity n false is t = none_turns arity n

pub given_turns : (arity : FunctionName → Arity) (s : Source) (o : CodeOperand) (e : ExprTree) (n : ℕ) → o.mode ≡ Values n → Turns arity 0 n o.value →
    Turns arity 0 n (o.value ++ enter_line s o e)
given_turns arity s o e n mode value = turns_joined arity 0 n n o.value (enter_line s o e) value
    (subst (λ m. Turns arity n n (if value_count m == 1 then line_if_known line.Enter (s.entered (place_of e)) else [])) (sym mode)
    (enter_if arity n (n == 1) (eqb-true n 1) (s.entered (place_of e))))

-- Names

local_value : (arity : FunctionName → Arity) (slot : Option ℕ) → IsKnown slot → IsOneValue arity (local_operand slot)
local_value arity slot k = record {
  mode = refl;
  value = known_turns arity line.Local slot k.0 0 1 k.1 (line_turns arity (line.Local k.0) 0 1 refl refl (λ at i m. m));
  address = known_turns arity line.LocalAddress slot k.0 0 1 k.1 (line_turns arity (line.LocalAddress k.0) 0 1 refl refl (λ at i m. m));
}

kind_value : (arity : FunctionName → Arity) (s : Source) (n : ℕ) (k : ValueKind) (a : Bool) → MeaningIsKnown arity s n (Value k a) →
    IsOneValue arity (value_name s n k)
kind_value arity s n (Typed t) a k = record {
  mode = refl;
  value = known_turns arity line.Global (s.global n) k.0 0 1 k.1 (line_turns arity (line.Global k.0) 0 1 refl refl (λ at i m. m));
  address = known_turns arity line.GlobalAddress (s.global n) k.0 0 1 k.1 (line_turns arity (line.GlobalAddress k.0) 0 1 refl refl (λ at i m. m));
}
kind_value arity s n (Untyped b) a k = plain_value arity (line.Truth (s.truth n) ∷ []) (line_turns arity (line.Truth (s.truth n)) 0 1 refl refl (λ at i m. m))
kind_value arity s n Nil a k = plain_value arity (line.Nil ∷ []) (line_turns arity line.Nil 0 1 refl refl (λ at i m. m))

no_lines : (arity : FunctionName → Arity) (mode : Mode) → IsHead arity (mode_alone mode) mode 0
no_lines arity mode = record { is = refl; value = none_turns arity 0 }

plain_callee : (arity : FunctionName → Arity) (name : Option FunctionName) (f : Signature) → IsNamedWith arity name (plain_arity f) →
    IsCallee arity (mode_alone (function_mode name false (length f.results))) f
plain_callee arity name f c = record {
  name = c.0;
  received = false;
  mode = Called false c.0 (length f.results);
  is_call = by_call;
  head = record { is = ap (λ z. function_mode z false (length f.results)) c.1.0; value = none_turns arity 0 };
  takes = ap (λ (z : Arity). z.parameters) c.1.1;
  gives = ap (λ (z : Arity). z.results) c.1.1;
}

meaning_stands : (arity : FunctionName → Arity) (s : Source) (n : ℕ) (m : Meaning) → IsNotBroken m → MeaningIsKnown arity s n m →
    Stands arity (named_meaning s n m) m
unfolding named_meaning
meaning_stands arity s n (Value k a) w h = kind_value arity s n k a h
meaning_stands arity s n (TypeName t) w h = no_lines arity Converts
meaning_stands arity s n (Function f) w h = plain_callee arity (plain_function (s.global n)) f h
meaning_stands arity s n (BuiltinName b) w h = no_lines arity (Predeclared b)
meaning_stands arity s n Package w h = no_lines arity Qualifies
meaning_stands arity s n (Results ts) w h = absurd h
meaning_stands arity s n Broken w h = tt

pub name_stands : (arity : FunctionName → Arity) (s : Source) (slots : List ℕ) (locals : Locals) (n : ℕ) {m : Meaning} → NameMeans s.world locals n m →
    NameIsKnown arity s slots n (s.world.bound n) → Stands arity (name_operand s slots n) m
unfolding bound_name
name_stands arity s slots locals n (a_local {declaration} e h) k =
    subst (λ z. IsOneValue arity (bound_name s slots n z)) (sym e) (local_value arity (slot_of slots declaration)
    (subst (λ z. NameIsKnown arity s slots n z) e k))
name_stands arity s slots locals n (a_bound {m} e h) k =
    subst (λ z. Stands arity (bound_name s slots n z) m) (sym e) (meaning_stands arity s n m h (subst (λ z. NameIsKnown arity s slots n z) e k))

-- Operators

pub with_line : (arity : FunctionName → Arity) (xs : List CodeLine) (l : CodeLine) → Turns arity 0 1 xs → Turns arity 1 1 (l ∷ []) →
    Turns arity 0 1 (xs ++ (l ∷ []))
with_line arity xs l f g = turns_joined arity 0 1 1 xs (l ∷ []) f g

pub prefixed_value : (arity : FunctionName → Arity) (o : PrefixOp) (x : List CodeLine) → Turns arity 0 1 x → IsOneValue arity (prefixed o x)
prefixed_value arity prefix.Plus x t = plain_value arity x t
prefixed_value arity prefix.Minus x t = plain_value arity (x ++ (line.Negate ∷ [])) (with_line arity x line.Negate t
    (line_turns arity line.Negate 1 1 refl refl (λ at i m. m)))
prefixed_value arity prefix.Not x t = plain_value arity (x ++ (line.Not ∷ [])) (with_line arity x line.Not t
    (line_turns arity line.Not 1 1 refl refl (λ at i m. m)))
prefixed_value arity prefix.Deref x t = record {
  mode = refl;
  value = with_line arity x line.Load t
      (line_turns arity line.Load 1 1 refl refl (λ at i m. m));
  address = t;
}

-- two values and a line that makes one of them
pub two_lines : (arity : FunctionName → Arity) (xs ys : List CodeLine) (l : CodeLine) → Turns arity 0 1 xs → Turns arity 0 1 ys → Turns arity 2 1 (l ∷ []) →
    Turns arity 0 1 (xs ++ (ys ++ (l ∷ [])))
two_lines arity xs ys l f g h = turns_joined arity 0 1 1 xs (ys ++ (l ∷ [])) f (turns_joined arity 1 2 1 ys (l ∷ []) (turns_over arity 1 0 1 ys g) h)

plain_operation : (arity : FunctionName → Arity) (o : BinaryOp) (xs ys : List CodeLine) → Turns arity 0 1 xs → Turns arity 0 1 ys →
    Turns arity 0 1 (xs ++ (ys ++ (line.Operate o ∷ [])))
plain_operation arity o xs ys f g = two_lines arity xs ys (line.Operate o) f g (line_turns arity (line.Operate o) 2 1 refl refl (λ at i m. m))

-- `&&` and `||`: the second is looked at in place of the first
tested : (arity : FunctionName → Arity) (jump : ℕ → CodeLine) → ((n : ℕ) → turning.taken (jump n) ≡ 1) → ((n : ℕ) → turning.put arity (jump n) ≡ 0) →
    ((at : ℕ → ℕ) (i n : ℕ) → ChangesHeight at i 1 0 → at (suc i + n) ≡ at (suc i) → LineObeys arity at i (jump n)) →
    (ys : List CodeLine) → Turns arity 0 1 ys → Turns arity 1 1 (line.Duplicate ∷ jump (suc (length ys)) ∷ line.Pop ∷ ys)
tested arity jump t p runs ys g = record {
  turns = λ at i h begins s.
      let n : ℕ = suc (length ys) in
      let first : at (suc i) ≡ (at i - 1) + 2 = s.0 in
      let second : at (suc (suc i)) ≡ (at (suc i) - turning.taken (jump n)) + turning.put arity (jump n) = s.1.0 in
      let third : at (suc (suc (suc i))) ≡ (at (suc (suc i)) - 1) + 0 = s.1.1.0 in
      let takes : turning.taken (jump n) ≡ 1 = t n in
      let puts : turning.put arity (jump n) ≡ 0 = p n in
      let doubled : at (suc i) ≡ h + 2 = omega arith in
      let once : at (suc (suc i)) ≡ h + 1 = omega arith in
      let gone : at (suc (suc (suc i))) ≡ h + 0 = omega arith in
      let rest = g.turns at (suc (suc (suc i))) h gone s.1.1.1 in
      let there : turning.behind ys (suc (suc (suc i))) ≡ suc (suc i) + n = is_behind ys (suc (suc (suc i))) ∙ omega arith in
      let level : at (suc (suc i) + n) ≡ at (suc (suc i)) = ap at (sym there) ∙ (rest.ends ∙ sym once) in
      record {
        runs = (
          record { enough = omega arith; left = omega arith },
          (
            runs at (suc i) n (record { enough = omega arith; left = omega arith }) level,
            (record { enough = omega arith; left = omega arith }, rest.runs),
          ),
        );
        ends = rest.ends;
      };
}

pub operated_turns : (arity : FunctionName → Arity) (o : BinaryOp) (xs ys : List CodeLine) → Turns arity 0 1 xs → Turns arity 0 1 ys →
    Turns arity 0 1 (operated o xs ys)
operated_turns arity op.And xs ys f g =
    turns_joined arity 0 1 1 xs (line.Duplicate ∷ line.JumpUnless (suc (length ys)) ∷ line.Pop ∷ ys) f
    (tested arity line.JumpUnless (λ n. refl) (λ n. refl) (λ at i n m e. (m, e)) ys g)
operated_turns arity op.Or xs ys f g =
    turns_joined arity 0 1 1 xs (line.Duplicate ∷ line.JumpIf (suc (length ys)) ∷ line.Pop ∷ ys) f
    (tested arity line.JumpIf (λ n. refl) (λ n. refl) (λ at i n m e. (m, e)) ys g)
operated_turns arity op.Multiply xs ys f g = plain_operation arity op.Multiply xs ys f g
operated_turns arity op.Divide xs ys f g = plain_operation arity op.Divide xs ys f g
operated_turns arity op.Remainder xs ys f g = plain_operation arity op.Remainder xs ys f g
operated_turns arity op.Add xs ys f g = plain_operation arity op.Add xs ys f g
operated_turns arity op.Subtract xs ys f g = plain_operation arity op.Subtract xs ys f g
operated_turns arity op.Equal xs ys f g = plain_operation arity op.Equal xs ys f g
operated_turns arity op.NotEqual xs ys f g = plain_operation arity op.NotEqual xs ys f g
operated_turns arity op.Less xs ys f g = plain_operation arity op.Less xs ys f g
operated_turns arity op.LessEqual xs ys f g = plain_operation arity op.LessEqual xs ys f g
operated_turns arity op.Greater xs ys f g = plain_operation arity op.Greater xs ys f g
operated_turns arity op.GreaterEqual xs ys f g = plain_operation arity op.GreaterEqual xs ys f g
