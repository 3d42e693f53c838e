-- A machine that runs lines, as far as the height of its stack is concerned.
use Rattle.std.specs.Prelude.{ℕ, suc, ◌≡◌, ◌≤◌, ◌+◌, ◌-◌, List, Some, slice_get}
use Rattle.build_object.specs.Lines.{FunctionName, CodeLine}
use Rattle.law_faultless.specs.Stack.{Arity, Effect, Works, Calls, Tests, Leads, LeadsBack, Returns, Ends, effect}

-- A line with this effect leads from line i with h values on the stack to line j with k values. A return and an end lead nowhere.
pub data Steps : Effect → (i h j k : ℕ) → Type 0 where
  works : {taken put i : ℕ} (below : ℕ) → Steps (Works taken put) i (below + taken) (suc i) (below + put)
  calls : {n i : ℕ} {a : Arity} (below : ℕ) → Steps (Calls n a) i (below + n) (suc i) (below + a.results)
  goes_on : {n i h : ℕ} → Steps (Tests n) i (suc h) (suc i) h
  leads_away : {n i h : ℕ} → Steps (Tests n) i (suc h) (suc i + n) h
  leads : {n i h : ℕ} → Steps (Leads n) i h (suc i + n) h
  leads_back : {n i h : ℕ} → Steps (LeadsBack n) i h (suc i - n) h

-- A run from the first line, with `before` values on the stack, reaches line i with h values.
pub data ReachesLine (arity : FunctionName → Arity) (lines : List CodeLine) (before : ℕ) : (i h : ℕ) → Type 0 where
  begins : ReachesLine arity lines before 0 before
  further : {i h j k : ℕ} {l : CodeLine} → ReachesLine arity lines before i h → slice_get lines i ≡ Some l → Steps (effect arity l) i h j k →
      ReachesLine arity lines before j k

-- A stack of h values suits the effect. A line that takes values finds enough of them. A call gives as many as the function has parameters.
-- A return finds just the results, and the end of a function none.
abbrev pub IsReady : Effect → ℕ → Type 0
IsReady (Works taken put) h = taken ≤ h
IsReady (Calls n a) h = (n ≡ a.parameters) × (n ≤ h)
IsReady (Tests n) h = 1 ≤ h
IsReady (Leads n) h = Unit {0}
IsReady (LeadsBack n) h = Unit {0}
IsReady (Returns n) h = h ≡ n
IsReady Ends h = h ≡ 0
