-- The discipline of the stack on which lines of code work: its height at each line.
use Rattle.std.specs.Prelude.{ℕ, suc, ◌≡◌, ◌≤◌, ◌+◌, ◌-◌, ⊤, List, [], ◌∷◌, length}
use Rattle.build_object.specs.Lines.{FunctionName, CodeLine, Integer, Text, Truth, Nil, Local, Global, Field, FieldThrough, Index, Load, Negate, Not, Operate}
use Rattle.build_object.specs.Lines.{Duplicate, Pop, JumpUnless, JumpIf, Jump, JumpBack, Call, CallBuiltin, CallAsked, Enter, Zero, With, MakeSlice, New}
use Rattle.build_object.specs.Lines.{LocalAddress, GlobalAddress, FieldAddress, IndexAddress, BlankAddress, Set, Assign, Return, End}
use Rattle.build_object.specs.Operands.{builtin_results}

-- How many values a function takes, its receiver counted, and how many it gives back.
pub record Arity : Type 0 where
  pub parameters : ℕ
  pub results : ℕ

-- The effect of a line on the stack.
--
-- `Works`: it takes so many values, and puts so many others in their place. `Calls`: it gives so many values to a function with this arity.
-- `Tests`: it takes a value, and goes on at the next line or that many lines behind it. `Leads`: it goes on that many lines behind the next
-- one. `LeadsBack`: it goes on that many lines before the next one. `Returns`: it returns so many values. `Ends`: it ends the function.
pub data Effect : Type 0 where
  Works : ℕ → ℕ → Effect
  Calls : ℕ → Arity → Effect
  Tests : ℕ → Effect
  Leads : ℕ → Effect
  LeadsBack : ℕ → Effect
  Returns : ℕ → Effect
  Ends : Effect

-- The effect of each kind of line, where functions have these arities.
abbrev pub effect : (arity : FunctionName → Arity) → CodeLine → Effect
effect arity (Integer n) = Works 0 1
effect arity (Text bytes) = Works 0 1
effect arity (Truth b) = Works 0 1
effect arity Nil = Works 0 1
effect arity (Local slot) = Works 0 1
effect arity (Global g) = Works 0 1
effect arity (Field n) = Works 1 1
effect arity (FieldThrough n) = Works 1 1
effect arity Index = Works 2 1
effect arity Load = Works 1 1
effect arity Negate = Works 1 1
effect arity Not = Works 1 1
effect arity (Operate o) = Works 2 1
effect arity Duplicate = Works 1 2
effect arity Pop = Works 1 0
effect arity (JumpUnless n) = Tests n
effect arity (JumpIf n) = Tests n
effect arity (Jump n) = Leads n
effect arity (JumpBack n) = LeadsBack n
effect arity (Call f n) = Calls n (arity f)
effect arity (CallBuiltin b n) = Works n (builtin_results b)
effect arity (CallAsked f n) = Calls n (arity f)
effect arity (Enter t) = Works 1 1
effect arity (Zero t) = Works 0 1
effect arity (With n) = Works 2 1
effect arity (MakeSlice n) = Works n 1
effect arity New = Works 1 1
effect arity (LocalAddress slot) = Works 0 1
effect arity (GlobalAddress g) = Works 0 1
effect arity (FieldAddress n) = Works 1 1
effect arity IndexAddress = Works 2 1
effect arity BlankAddress = Works 0 1
effect arity (Set slot) = Works 1 0
effect arity (Assign n) = Works (n + n) 0
effect arity (Return n) = Returns n
effect arity End = Ends

-- Line i takes `taken` values and puts `put` others in their place. `at` gives the height of the stack before each line.
pub record ChangesHeight (at : ℕ → ℕ) (i taken put : ℕ) : Type 0 where
  pub enough : taken ≤ at i
  pub left : at (suc i) + taken ≡ at i + put

-- Line i keeps to its effect. A jump finds at its target the height that it leaves. A call gives as many values as the function has
-- parameters. A return leaves no value but the results, and the end of a function none.
abbrev pub Obeys : (at : ℕ → ℕ) → (i : ℕ) → Effect → Type 0
Obeys at i (Works taken put) = ChangesHeight at i taken put
Obeys at i (Calls n a) = (n ≡ a.parameters) × ChangesHeight at i n a.results
Obeys at i (Tests n) = ChangesHeight at i 1 0 × (at (suc i + n) ≡ at (suc i))
Obeys at i (Leads n) = at (suc i + n) ≡ at i
Obeys at i (LeadsBack n) = (n ≤ suc i) × (at (suc i - n) ≡ at i)
Obeys at i (Returns n) = at i ≡ n
Obeys at i Ends = at i ≡ 0

-- Line i is `l`, and keeps to its effect.
abbrev pub LineObeys : (arity : FunctionName → Arity) → (at : ℕ → ℕ) → (i : ℕ) → CodeLine → Type 0
LineObeys arity at i l = Obeys at i (effect arity l)

-- Each of these lines keeps to its effect. The first of them is line i.
abbrev pub LinesObey : (arity : FunctionName → Arity) → (at : ℕ → ℕ) → (i : ℕ) → List CodeLine → Type 0
LinesObey arity at i [] = ⊤
LinesObey arity at i (l ∷ ls) = LineObeys arity at i l × LinesObey arity at (suc i) ls

-- The lines are balanced: each line has one height of the stack, by whatever way it is reached. It is `before` at the first line. It is
-- `after` behind the last line, and wherever a jump leads behind it.
pub record IsBalanced (arity : FunctionName → Arity) (before : ℕ) (lines : List CodeLine) (after : ℕ) : Type 0 where
  pub at : ℕ → ℕ
  pub begins : at 0 ≡ before
  pub runs : LinesObey arity at 0 lines
  pub ends : (n : ℕ) → at (length lines + n) ≡ after
