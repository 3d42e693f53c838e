-- What is left on the stack by selectors, indexes and calls.
use Rattle.std.proofs.Common.{ℕ, suc, ◌≡◌, ◌+◌, Bool, true, false, List, [], ◌∷◌, ◌++◌, length, ap, refl, sym, ◌∙◌, subst, arith, Option, Some}
use Rattle.types_expr.specs.declared.types.Builtin.{Builtin}
use Rattle.types_expr.specs.declared.types.Builtin.TheVariants as builtin
use Rattle.types_expr.specs.declared.symbol.Symbol.{Symbol}
use Rattle.types_expr.specs.Types.{PlainType, Pointer, ValueKind, Typed, Signature, Meaning, Value, TypeName, Function, BuiltinName, Package, Results, Broken}
use Rattle.types_expr.specs.Types.{is_pointer, points, AFieldOf, AMethodOf}
use Rattle.types_expr.specs.World.{World, Locals, Means, Member, AField, AMethod, underlying}
use Rattle.law_typing.specs.Fits.{FitInTurn, no_values, then_fits}
use Rattle.law_typing.specs.Names.{NameMeans, a_local, a_bound}
use Rattle.law_typing.specs.Links.{SelectsMember, field, field_through_pointer, asked, method, method_on_pointer, method_on_variable, of_package, Indexes}
use Rattle.law_typing.specs.Links.{element, ResultsMean}
use Rattle.law_typing.specs.Links.{nothing, one, several, CallGives, function, conversion, len, append, panic, print, println}
use Rattle.build_object.specs.Lines.{FunctionName, CodeLine, line_if_known}
use Rattle.build_object.specs.Lines as line
use Rattle.build_object.specs.Source.{Source}
use Rattle.build_object.specs.Operands.{CodeOperand, Mode, Values, Called, CalledAsked}
use Rattle.build_object.specs.Operands.{Converts, Predeclared, Qualifies, function_mode, name_operand, unqualified}
use Rattle.build_object.specs.Operands.{export_operand, field_operand, receiver_lines, method_operand}
use Rattle.build_object.specs.Operands.{asked_mode, asked_operand, member_operand, typed_selector}
use Rattle.build_object.specs.Operands.{selected_by, selected, indexed, counted, calling, left_by_call, called, builtin_results}
use Rattle.law_faultless.specs.Stack.{Arity, ChangesHeight}
use Rattle.law_faultless.specs.Questions.{OfExport, OfMember}
use Rattle.law_faultless.specs.QuestionAnswers.{IsKnown, IsNamedWith, method_arity, MemberIsKnown, IsAnswered}
use Rattle.law_faultless.proofs.StackParts.{Turns, none_turns, turns_as, turns_joined, turns_over, line_turns, known_turns}
use Rattle.law_faultless.proofs.OperandStack.{IsOneValue, IsHead, IsCallMode, by_call, by_asking, IsCallee, Stands, name_stands, with_line, two_lines}

-- Selectors

-- a line behind a value for what is known of it
known_behind : {X : Type 0} (arity : FunctionName → Arity) (xs : List CodeLine) (make : X → CodeLine) (o : Option X) (k : IsKnown o) → Turns arity 0 1 xs →
    ((x : X) → Turns arity 1 1 (make x ∷ [])) → Turns arity 0 1 (xs ++ line_if_known make o)
known_behind arity xs make o k t f = turns_joined arity 0 1 1 xs (line_if_known make o) t (known_turns arity make o k.0 1 1 k.1 (f k.0))

field_value : (arity : FunctionName → Arity) (o : CodeOperand) (through : Bool) (i : Option ℕ) → IsKnown i → IsOneValue arity o →
    IsOneValue arity (field_operand o through i)
field_value arity o true i k v = record {
  mode = refl;
  value = known_behind arity o.value line.FieldThrough i k v.value (λ n. line_turns arity (line.FieldThrough n) 1 1 refl refl (λ at i m. m));
  address = known_behind arity o.value line.FieldAddress i k v.value (λ n. line_turns arity (line.FieldAddress n) 1 1 refl refl (λ at i m. m));
}
field_value arity o false i k v = record {
  mode = refl;
  value = known_behind arity o.value line.Field i k v.value (λ n. line_turns arity (line.Field n) 1 1 refl refl (λ at i m. m));
  address = known_behind arity o.address line.FieldAddress i k v.address (λ n. line_turns arity (line.FieldAddress n) 1 1 refl refl (λ at i m. m));
}

receiver_turns : (arity : FunctionName → Arity) (o : CodeOperand) (is_pointer on_pointer : Bool) → IsOneValue arity o →
    Turns arity 0 1 (receiver_lines o is_pointer on_pointer)
receiver_turns arity o true true v = v.value
receiver_turns arity o true false v = with_line arity o.value line.Load v.value (line_turns arity line.Load 1 1 refl refl (λ at i m. m))
receiver_turns arity o false true v = v.address
receiver_turns arity o false false v = v.value

method_callee : (arity : FunctionName → Arity) (lines : List CodeLine) (name : Option FunctionName) (f : Signature) → Turns arity 0 1 lines →
    IsNamedWith arity name (method_arity f) → IsCallee arity (method_operand lines name (length f.results)) f
method_callee arity lines name f t c = record {
  name = c.0;
  received = true;
  mode = Called true c.0 (length f.results);
  is_call = by_call;
  head = record { is = ap (λ z. function_mode z true (length f.results)) c.1.0; value = t };
  takes = ap (λ (z : Arity). z.parameters) c.1.1;
  gives = ap (λ (z : Arity). z.results) c.1.1;
}

asked_callee : (arity : FunctionName → Arity) (o : CodeOperand) (name : Option FunctionName) (f : Signature) → IsOneValue arity o →
    IsNamedWith arity name (method_arity f) → IsCallee arity (asked_operand o name (length f.results)) f
asked_callee arity o name f v c = record {
  name = c.0;
  received = true;
  mode = CalledAsked c.0 (length f.results);
  is_call = by_asking;
  head = record { is = ap (λ z. asked_mode z (length f.results)) c.1.0; value = v.value };
  takes = ap (λ (z : Arity). z.parameters) c.1.1;
  gives = ap (λ (z : Arity). z.results) c.1.1;
}

-- a selector behind a value is that of the member by the type before it
selected_member : (s : Source) (slots : List ℕ) (n : ℕ) (o : CodeOperand) (t : PlainType) (m : Option Member) → o.mode ≡ Values 1 → s.before n ≡ Some t →
    s.world.member n t ≡ m →
    selected s slots n o ≡ member_operand s o t m
unfolding selected_by typed_selector
selected_member s slots n o t m e b i =
    ap (λ z. selected_by s slots n o z) e ∙ (ap (λ z. typed_selector s n o z) b ∙ ap (λ z. member_operand s o t z) i)

member_field : (arity : FunctionName → Arity) (s : Source) (o : CodeOperand) (t u : PlainType) (f : Symbol) →
    MemberIsKnown arity s (Some (AField f (AFieldOf u))) →
    IsOneValue arity o → IsOneValue arity (member_operand s o t (Some (AField f (AFieldOf u))))
unfolding member_operand
member_field arity s o t u f k v = field_value arity o (points (underlying s.world t)) (s.position f) k v

member_asked : (arity : FunctionName → Arity) (s : Source) (o : CodeOperand) (t : PlainType) (m : Symbol) (f : Signature) →
    MemberIsKnown arity s (Some (AField m (AMethodOf f))) → IsOneValue arity o → IsCallee arity (member_operand s o t (Some (AField m (AMethodOf f)))) f
unfolding member_operand
member_asked arity s o t m f k v = asked_callee arity o (s.asked m) f v k

member_method : (arity : FunctionName → Arity) (s : Source) (o : CodeOperand) (t : PlainType) (m : Symbol) (on_pointer : Bool) (f : Signature) →
    MemberIsKnown arity s (Some (AMethod m on_pointer f)) → IsOneValue arity o →
    IsCallee arity (member_operand s o t (Some (AMethod m on_pointer f))) f
unfolding member_operand
member_method arity s o t m on_pointer f k v = method_callee arity (receiver_lines o (is_pointer t) on_pointer) (s.function m) f
    (receiver_turns arity o (is_pointer t) on_pointer v) k

field_selected : (arity : FunctionName → Arity) (s : Source) (slots : List ℕ) (n : ℕ) (o : CodeOperand) (t u : PlainType) (f : Symbol) →
    s.world.member n t ≡ Some (AField f (AFieldOf u)) → IsOneValue arity o →
    IsAnswered arity s slots (OfMember n t) → IsOneValue arity (selected s slots n o)
field_selected arity s slots n o t u f e v k =
    subst (λ z. IsOneValue arity z) (sym (selected_member s slots n o t (Some (AField f (AFieldOf u))) v.mode k.0 e))
    (member_field arity s o t u f (subst (λ z. MemberIsKnown arity s z) e k.1) v)

method_selected : (arity : FunctionName → Arity) (s : Source) (slots : List ℕ) (n : ℕ) (o : CodeOperand) (t : PlainType) (m : Symbol) (on_pointer : Bool)
    (f : Signature) → s.world.member n t ≡ Some (AMethod m on_pointer f) →
    IsOneValue arity o → IsAnswered arity s slots (OfMember n t) → IsCallee arity (selected s slots n o) f
method_selected arity s slots n o t m on_pointer f e v k =
    subst (λ z. IsCallee arity z f) (sym (selected_member s slots n o t (Some (AMethod m on_pointer f)) v.mode k.0 e))
    (member_method arity s o t m on_pointer f (subst (λ z. MemberIsKnown arity s z) e k.1) v)

asked_selected : (arity : FunctionName → Arity) (s : Source) (slots : List ℕ) (n : ℕ) (o : CodeOperand) (t : PlainType) (m : Symbol) (f : Signature) →
    s.world.member n t ≡ Some (AField m (AMethodOf f)) → IsOneValue arity o → IsAnswered arity s slots (OfMember n t) → IsCallee arity (selected s slots n o) f
asked_selected arity s slots n o t m f e v k =
    subst (λ z. IsCallee arity z f) (sym (selected_member s slots n o t (Some (AField m (AMethodOf f))) v.mode k.0 e))
    (member_asked arity s o t m f (subst (λ z. MemberIsKnown arity s z) e k.1) v)

call_unqualified : {mode : Mode} {received : Bool} {name : FunctionName} {results : ℕ} → IsCallMode mode received name results → unqualified mode ≡ mode
call_unqualified by_call = refl
call_unqualified by_asking = refl

-- a name behind the name of a package
behind_head : (arity : FunctionName → Arity) (xs : List CodeLine) (o : CodeOperand) (mode : Mode) (n : ℕ) → unqualified mode ≡ mode →
    Turns arity 0 0 xs → IsHead arity o mode n → IsHead arity (export_operand xs o) mode n
behind_head arity xs o mode n e t h = record { is = ap unqualified h.is ∙ e; value = turns_joined arity 0 0 n xs o.value t h.value }

behind_stands : (arity : FunctionName → Arity) (xs : List CodeLine) (o : CodeOperand) (m : Meaning) → (m ≡ Package → ⊥) → Turns arity 0 0 xs →
    Stands arity o m →
    Stands arity (export_operand xs o) m
behind_stands arity xs o (Value k a) other t v = record {
  mode = ap unqualified v.mode;
  value =
      turns_joined arity 0 0 1 xs o.value t v.value;
  address = turns_joined arity 0 0 1 xs o.address t v.address;
}
behind_stands arity xs o (TypeName u) other t h = behind_head arity xs o Converts 0 refl t h
behind_stands arity xs o (Function f) other t c = record {
  name = c.name;
  received = c.received;
  mode = c.mode;
  is_call = c.is_call;
  head = behind_head arity xs o c.mode (counted c.received 0) (call_unqualified c.is_call) t c.head;
  takes = c.takes;
  gives = c.gives;
}
behind_stands arity xs o (BuiltinName b) other t h = behind_head arity xs o (Predeclared b) 0 refl t h
behind_stands arity xs o Package other t h = absurd (other refl)
behind_stands arity xs o (Results ts) other t h = behind_head arity xs o (Values (length ts)) (length ts) refl t h
behind_stands arity xs o Broken other t h = tt

export_selected : (arity : FunctionName → Arity) (s : Source) (slots : List ℕ) (n : ℕ) (o : CodeOperand) (m : Meaning) → (m ≡ Package → ⊥) →
    IsHead arity o Qualifies 0 → Stands arity (name_operand s slots n) m →
    Stands arity (selected s slots n o) m
unfolding selected_by
export_selected arity s slots n o m other h k =
    subst (λ z. Stands arity (selected_by s slots n o z) m) (sym h.is) (behind_stands arity o.value (name_operand s slots n) m other h.value k)

-- what a name means is what it is bound to, where it is the name of a package
named_package : (w : World) (locals : Locals) (n : ℕ) (m : Meaning) → NameMeans w locals n m → m ≡ Package → w.bound n ≡ Means Package
named_package w locals n m (a_local e h) p = cc
named_package w locals n m (a_bound e h) p = cc

-- the member of a value, or what a package has by the name; a question is answered where it is asked
pub selected_stands : (arity : FunctionName → Arity) (s : Source) (slots : List ℕ) (locals : Locals) (n : ℕ) (o : CodeOperand) {m r : Meaning} →
    SelectsMember s.world locals m n r → Stands arity o m →
    ((t : PlainType) (a : Bool) → m ≡ Value (Typed t) a → IsAnswered arity s slots (OfMember n t)) → (m ≡ Package → IsAnswered arity s slots (OfExport n)) →
    Stands arity (selected s slots n o) r
selected_stands arity s slots locals n o (field {t} {u} {a} {s = f} e other) v k p = field_selected arity s slots n o t u f e v (k t a refl)
selected_stands arity s slots locals n o (field_through_pointer {t} {u} {a = a} {s = f} e i) v k p = field_selected arity s slots n o t u f e v (k t a refl)
selected_stands arity s slots locals n o (asked {t} {a} {s = m} {signature = f} e) v k p = asked_selected arity s slots n o t m f e v (k t a refl)
selected_stands arity s slots locals n o (method {t} {a} {s = m} {signature = f} e) v k p = method_selected arity s slots n o t m false f e v (k t a refl)
selected_stands arity s slots locals n o (method_on_pointer {t} {a} {s = m} {signature = f} e) v k p =
    method_selected arity s slots n o (Pointer t) m true f e v (k (Pointer t) a refl)
selected_stands arity s slots locals n o (method_on_variable {t} {s = m} {signature = f} e) v k p =
    method_selected arity s slots n o t m true f e v (k t true refl)
selected_stands arity s slots locals n o (of_package {m = m} h) v k p =
    export_selected arity s slots n o m (λ e. (p refl).1 (named_package s.world locals n m h e)) v (name_stands arity s slots locals n h (p refl).0)

-- Indexes

pub indexed_value : (arity : FunctionName → Arity) (o : CodeOperand) (i : List CodeLine) → IsOneValue arity o → Turns arity 0 1 i →
    IsOneValue arity (indexed o i)
indexed_value arity o i v t = record {
  mode = refl;
  value = two_lines arity o.value i line.Index v.value t (line_turns arity line.Index 2 1 refl refl (λ at i m. m));
  address = two_lines arity o.value i line.IndexAddress v.value t (line_turns arity line.IndexAddress 2 1 refl refl (λ at i m. m));
}

pub index_stands : (arity : FunctionName → Arity) (w : World) (o : CodeOperand) (i : List CodeLine) {m r : Meaning} {k : ValueKind} → Indexes w m k r →
    Stands arity o m →
    Turns arity 0 1 i → Stands arity (indexed o i) r
index_stands arity w o i (element e h) v t = indexed_value arity o i v t

-- Calls

as_many : {w : World} {ks : List ValueKind} {ts : List PlainType} → FitInTurn w ks ts → length ks ≡ length ts
as_many no_values = refl
as_many (then_fits f more) = ap suc (as_many more)

-- A call: the operand before it, n arguments, and the line of the call.
call_lines : (arity : FunctionName → Arity) (o : CodeOperand) (n before left : ℕ) (arguments : List CodeLine) (mode : Mode) → IsHead arity o mode before →
    Turns arity 0 n arguments →
    Turns arity (before + n) left (calling n mode) → Turns arity 0 left (o.value ++ (arguments ++ calling n o.mode))
call_lines arity o n before left arguments mode h t c =
    subst (λ z. Turns arity 0 left (o.value ++ (arguments ++ calling n z))) (sym h.is)
    (turns_joined arity 0 before left o.value (arguments ++ calling n mode) h.value
    (turns_joined arity before (before + n) left arguments (calling n mode) (turns_as arity arguments (omega arith) refl
    (turns_over arity before 0 n arguments t)) c))

-- what a call that leaves so many values is
call_left : (o : CodeOperand) (n : ℕ) (arguments : List CodeLine) (mode : Mode) (left : ℕ) → o.mode ≡ mode → left_by_call mode ≡ left →
    (called o n arguments).mode ≡ Values left
call_left o n arguments mode left e f = ap (λ z. Values (left_by_call z)) e ∙ ap Values f

call_value : (arity : FunctionName → Arity) (o : CodeOperand) (n before : ℕ) (arguments : List CodeLine) (mode : Mode) → IsHead arity o mode before →
    Turns arity 0 n arguments →
    Turns arity (before + n) 1 (calling n mode) → left_by_call mode ≡ 1 → IsOneValue arity (called o n arguments)
call_value arity o n before arguments mode h t c e = record {
  mode = call_left o n arguments mode 1 h.is e;
  value = call_lines arity o n before 1 arguments mode h t c;
  address = call_lines arity o n before 1 arguments mode h t c;
}

call_results : (arity : FunctionName → Arity) (o : CodeOperand) (n before left : ℕ) (arguments : List CodeLine) (mode : Mode) →
    IsHead arity o mode before → Turns arity 0 n arguments →
    Turns arity (before + n) left (calling n mode) → left_by_call mode ≡ left → IsHead arity (called o n arguments) (Values left) left
call_results arity o n before left arguments mode h t c e = record {
  is = call_left o n arguments mode left h.is e;
  value = call_lines arity o n before left arguments mode h t c;
}

-- the line of a call of a function
function_line : (arity : FunctionName → Arity) (name : FunctionName) (received : Bool) (n results : ℕ) → (arity name).parameters ≡ counted received n →
    (arity name).results ≡ results →
    Turns arity (counted received 0 + n) results (calling n (Called received name results))
unfolding calling
function_line arity name true n results takes gives =
    turns_as arity (line.Call name (suc n) ∷ []) (let e : suc n ≡ 1 + n = omega arith in e) refl
    (line_turns arity (line.Call name (suc n)) (suc n) results refl gives
    (λ at i m. (sym takes, subst (λ z. ChangesHeight at i (suc n) z) (sym gives) m)))
function_line arity name false n results takes gives =
    turns_as arity (line.Call name n ∷ []) (let e : n ≡ 0 + n = omega arith in e) refl (line_turns arity (line.Call name n) n results refl gives
    (λ at i m. (sym takes, subst (λ z. ChangesHeight at i n z) (sym gives) m)))

-- the line of a call of a method that an interface asks for
asked_line : (arity : FunctionName → Arity) (name : FunctionName) (n results : ℕ) → (arity name).parameters ≡ suc n → (arity name).results ≡ results →
    Turns arity (1 + n) results (calling n (CalledAsked name results))
unfolding calling
asked_line arity name n results takes gives =
    turns_as arity (line.CallAsked name (suc n) ∷ []) (let e : suc n ≡ 1 + n = omega arith in e) refl
    (line_turns arity (line.CallAsked name (suc n)) (suc n) results refl gives
    (λ at i m. (sym takes, subst (λ z. ChangesHeight at i (suc n) z) (sym gives) m)))

call_line : (arity : FunctionName → Arity) (n : ℕ) {mode : Mode} {received : Bool} {name : FunctionName} {results : ℕ} → IsCallMode mode received name results →
    (arity name).parameters ≡ counted received n → (arity name).results ≡ results → Turns arity (counted received 0 + n) results (calling n mode)
call_line arity n (by_call {received} {name} {results}) takes gives = function_line arity name received n results takes gives
call_line arity n (by_asking {name} {results}) takes gives = asked_line arity name n results takes gives

call_leaves : {mode : Mode} {received : Bool} {name : FunctionName} {results : ℕ} → IsCallMode mode received name results → left_by_call mode ≡ results
unfolding left_by_call
call_leaves by_call = refl
call_leaves by_asking = refl

function_call : (arity : FunctionName → Arity) (o : CodeOperand) (n : ℕ) (arguments : List CodeLine) (f : Signature) (c : IsCallee arity o f) →
    n ≡ length f.parameters → Turns arity (counted c.received 0 + n) (length f.results) (calling n c.mode)
function_call arity o n arguments f c e = call_line arity n c.is_call (c.takes ∙ ap (λ z. counted c.received z) (sym e)) c.gives

gives_stands : (arity : FunctionName → Arity) (o : CodeOperand) (n : ℕ) (arguments : List CodeLine) (f : Signature) (c : IsCallee arity o f) (ts : List
    PlainType)
    {r : Meaning} → f.results ≡ ts → ResultsMean ts r → n ≡ length f.parameters → Turns arity 0 n arguments →
    Stands arity (called o n arguments) r
gives_stands arity o n arguments f c ts e nothing k t =
    call_results arity o n (counted c.received 0) 0 arguments c.mode c.head t
    (turns_as arity (calling n c.mode) refl (ap length e) (function_call arity o n arguments f c k)) (call_leaves c.is_call ∙ ap length e)
gives_stands arity o n arguments f c ts e one k t =
    call_value arity o n (counted c.received 0) arguments c.mode c.head t
    (turns_as arity (calling n c.mode) refl (ap length e) (function_call arity o n arguments f c k)) (call_leaves c.is_call ∙ ap length e)
gives_stands arity o n arguments f c ts e (several {t = u} {u = v} {ts = us}) k t =
    call_results arity o n (counted c.received 0) (length (u ∷ v ∷ us)) arguments c.mode c.head t
    (turns_as arity (calling n c.mode) refl (ap length e) (function_call arity o n arguments f c k)) (call_leaves c.is_call ∙ ap length e)

builtin_line : (arity : FunctionName → Arity) (b : Builtin) (n left : ℕ) → builtin_results b ≡ left → Turns arity (0 + n) left (calling n (Predeclared b))
unfolding calling
builtin_line arity b n left e = turns_as arity (line.CallBuiltin b n ∷ []) (let z : n ≡ 0 + n = omega arith in z) refl
    (line_turns arity (line.CallBuiltin b n) n left refl e (λ at i m. subst (λ z. ChangesHeight at i n z) (sym e) m))

builtin_value : (arity : FunctionName → Arity) (o : CodeOperand) (b : Builtin) (n : ℕ) (arguments : List CodeLine) → builtin_results b ≡ 1 →
    IsHead arity o (Predeclared b) 0 → Turns arity 0 n arguments → IsOneValue arity (called o n arguments)
unfolding left_by_call
builtin_value arity o b n arguments e h t = call_value arity o n 0 arguments (Predeclared b) h t (builtin_line arity b n 1 e) e

builtin_none : (arity : FunctionName → Arity) (o : CodeOperand) (b : Builtin) (n : ℕ) (arguments : List CodeLine) → builtin_results b ≡ 0 →
    IsHead arity o (Predeclared b) 0 → Turns arity 0 n arguments →
    IsHead arity (called o n arguments) (Values 0) 0
unfolding left_by_call
builtin_none arity o b n arguments e h t = call_results arity o n 0 0 arguments (Predeclared b) h t (builtin_line arity b n 0 e) e

converted : (arity : FunctionName → Arity) (o : CodeOperand) (arguments : List CodeLine) (n : ℕ) → n ≡ 1 → IsHead arity o Converts 0 →
    Turns arity 0 n arguments →
    IsOneValue arity (called o n arguments)
unfolding calling left_by_call
converted arity o arguments n e h t = call_value arity o n 0 arguments Converts h t (turns_as arity [] (let z : 1 ≡ 0 + n = omega arith in z) refl
    (none_turns arity 1)) refl

pub called_stands : (arity : FunctionName → Arity) (w : World) (o : CodeOperand) (n : ℕ) (arguments : List CodeLine) {m r : Meaning} {ks : List ValueKind} →
    CallGives w m ks r → n ≡ length ks → Stands arity o m → Turns arity 0 n arguments →
    Stands arity (called o n arguments) r
called_stands arity w o n arguments (function {s = f} fit g) e c t = gives_stands arity o n arguments f c f.results refl g (e ∙ as_many fit) t
called_stands arity w o n arguments (conversion h) e c t = converted arity o arguments n e c t
called_stands arity w o n arguments (len h) e c t = builtin_value arity o builtin.Len n arguments refl c t
called_stands arity w o n arguments (append h i) e c t = builtin_value arity o builtin.Append n arguments refl c t
called_stands arity w o n arguments panic e c t = builtin_none arity o builtin.Panic n arguments refl c t
called_stands arity w o n arguments (print h) e c t = builtin_none arity o builtin.Print n arguments refl c t
called_stands arity w o n arguments (println h) e c t = builtin_none arity o builtin.Println n arguments refl c t
