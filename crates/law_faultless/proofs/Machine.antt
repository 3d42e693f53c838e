-- In balanced code each line is reached with one height.
use Rattle.std.proofs.Common.{ℕ, zero, suc, ◌≡◌, ◌+◌, ◌≤◌, List, [], ◌∷◌, sym, ◌∙◌, subst, arith, Some}
use Rattle.std.specs.Prelude.{slice_get}
use Rattle.build_object.specs.Lines.{FunctionName, CodeLine}
use Rattle.law_faultless.specs.Stack.{Arity, Effect, Works, Calls, Tests, Leads, LeadsBack, Returns, Ends, effect, Obeys, LineObeys, LinesObey, IsBalanced}
use Rattle.law_faultless.specs.Machine.{Steps, works, calls, goes_on, leads_away, leads, leads_back, ReachesLine, begins, further, IsReady}

-- the line of a number does what it says
runs_there : (arity : FunctionName → Arity) (at : ℕ → ℕ) (i : ℕ) (ls : List CodeLine) (n : ℕ) (l : CodeLine) → LinesObey arity at i ls →
    slice_get ls n ≡ Some l →
    LineObeys arity at (n + i) l
runs_there arity at i [] n l r e = cc
runs_there arity at i (x ∷ xs) zero l r e =
    let same : x ≡ l = cc in
    subst (λ z. LineObeys arity at z l) (let z : i ≡ 0 + i = omega arith in z) (subst (λ z. LineObeys arity at i z) same r.0)
runs_there arity at i (x ∷ xs) (suc n) l r e =
    subst (λ z. LineObeys arity at z l) (let z : n + suc i ≡ suc n + i = omega arith in z) (runs_there arity at (suc i) xs n l r.1 e)

-- a step from the height of a line leads to the height of the next
step_level : (at : ℕ → ℕ) {x : Effect} {i h j k : ℕ} → Steps x i h j k → Obeys at i x → h ≡ at i → k ≡ at j
step_level at (works {taken} {put} {i} h) m e = let left : at (suc i) + taken ≡ at i + put = m.left in omega arith
step_level at (calls {n} {i} {a} h) m e = let left : at (suc i) + n ≡ at i + a.results = m.1.left in omega arith
step_level at (goes_on {n} {i} {h}) m e = let left : at (suc i) + 1 ≡ at i + 0 = m.0.left in omega arith
step_level at (leads_away {n} {i} {h}) m e =
    let left : at (suc i) + 1 ≡ at i + 0 = m.0.left in
    let same : at (suc i + n) ≡ at (suc i) = m.1 in omega arith
step_level at (leads {n} {i} {h}) m e = e ∙ sym m
step_level at (leads_back {n} {i} {h}) m e = e ∙ sym m.1

pub one_height : (arity : FunctionName → Arity) (lines : List CodeLine) (before after : ℕ) (b : IsBalanced arity before lines after) {i h : ℕ} →
    ReachesLine arity lines before i h → h ≡ b.at i
one_height arity lines before after b begins = sym b.begins
one_height arity lines before after b (further {i} {h} {l = l} r e s) =
    step_level b.at s (subst (λ z. LineObeys arity b.at z l) (let z : i + 0 ≡ i = omega arith in z) (runs_there arity b.at 0 lines i l b.runs e))
    (one_height arity lines before after b r)

ready : (at : ℕ → ℕ) (x : Effect) (i h : ℕ) → Obeys at i x → h ≡ at i → IsReady x h
ready at (Works taken put) i h m e = let enough : taken ≤ at i = m.enough in omega arith
ready at (Calls n a) i h m e = let enough : n ≤ at i = m.1.enough in (m.0, omega arith)
ready at (Tests n) i h m e = let enough : 1 ≤ at i = m.0.enough in omega arith
ready at (Leads n) i h m e = tt
ready at (LeadsBack n) i h m e = tt
ready at (Returns n) i h m e = e ∙ m
ready at Ends i h m e = e ∙ m

pub always_ready : (arity : FunctionName → Arity) (lines : List CodeLine) (before after : ℕ) → IsBalanced arity before lines after → (i h : ℕ) (l : CodeLine) →
    ReachesLine arity lines before i h → slice_get lines i ≡ Some l → IsReady (effect arity l) h
always_ready arity lines before after b i h l r e =
    ready b.at (effect arity l) i h (subst (λ z. LineObeys arity b.at z l) (let z : i + 0 ≡ i = omega arith in z) (runs_there arity b.at 0 lines i l b.runs e))
    (one_height arity lines before after b r)
