-- Heights for lines that are run in turn, and the code of whole functions.
use Rattle.std.proofs.Common.{ℕ, zero, suc, ◌≡◌, ◌+◌, ◌-◌, List, [], ◌∷◌, ◌++◌, length, map, ap, refl, sym, ◌∙◌, subst, arith}
use Rattle.go_ast.specs.Tree.{Item, TypeTree, ExprTree, StatementTree, FuncTree, ResultTree}
use Rattle.go_ast.specs.WellFormed.{IsExpr, IsStatement, IsFunc}
use Rattle.types_expr.specs.Types.{PlainType, ValueKind, Value, Results}
use Rattle.types_expr.specs.World.{World, Locals}
use Rattle.law_typing.specs.Meanings.{HasMeaning}
use Rattle.law_typing.specs.Statements.{StatementIsTyped}
use Rattle.law_typing.specs.Declarations.{AreTypes, no_type_left, also_type, AreResults, none_written, one_written, several_written}
use Rattle.law_typing.specs.Declarations.{FunctionIsTyped, a_function}
use Rattle.types_declared.specs.MeaningOf.{result_types}
use Rattle.build_object.specs.Lines.{FunctionName, CodeLine, End}
use Rattle.build_object.specs.Source.{Source}
use Rattle.build_object.specs.Expressions.{value_lines}
use Rattle.build_object.specs.Statements.{Exits, no_exits, statement_lines, block_lines, body_lines}
use Rattle.law_faultless.specs.Stack.{Arity, IsBalanced}
use Rattle.law_faultless.specs.Questions.{Asks}
use Rattle.law_faultless.specs.StatementAsking.{StatementAsks, FunctionAsks, in_body}
use Rattle.law_faultless.proofs.StackParts.{behind, is_behind, behind_append, taken, put, Scans, scans_first, scans_second, runs_joined, Turns}
use Rattle.law_faultless.proofs.ExpressionsBalanced.{Answers, expression_settles}
use Rattle.law_faultless.proofs.EmptyStacks.{Keeps}
use Rattle.law_faultless.proofs.StatementsBalanced.{statement_keeps, block_keeps}

-- The height before line n, if the lines run one after another. Behind the last line it stays.
height : (FunctionName → Arity) → ℕ → List CodeLine → ℕ → ℕ
height arity h [] n = h
height arity h (l ∷ ls) zero = h
height arity h (l ∷ ls) (suc n) = height arity ((h - taken l) + put arity l) ls n

first_height : (arity : FunctionName → Arity) (h : ℕ) (ls : List CodeLine) → height arity h ls 0 ≡ h
unfolding height
first_height arity h [] = refl
first_height arity h (l ∷ ls) = refl

height_scans : (arity : FunctionName → Arity) (ls : List CodeLine) (h i : ℕ) (at : ℕ → ℕ) → ((n : ℕ) → at (n + i) ≡ height arity h ls n) → Scans arity at i ls
unfolding height
height_scans arity [] h i at e = tt
height_scans arity (l ∷ ls) h i at e =
    let next : ℕ = (h - taken l) + put arity l in
    let here : at i ≡ h = ap at (let z : i ≡ 0 + i = omega arith in z) ∙ e 0 in
    let then : at (suc i) ≡ next = ap at (let z : suc i ≡ 1 + i = omega arith in z) ∙ (e 1 ∙ first_height arity next ls) in
    let step : at (suc i) ≡ (at i - taken l) + put arity l = then ∙ ap (λ z. (z - taken l) + put arity l) (sym here) in
    (step, height_scans arity ls next (suc i) at (λ n. ap at (let z : n + suc i ≡ suc n + i = omega arith in z) ∙ e (suc n)))

scans_whole : (arity : FunctionName → Arity) (h : ℕ) (ls : List CodeLine) → Scans arity (height arity h ls) 0 ls
scans_whole arity h ls = height_scans arity ls h 0 (height arity h ls) (λ n. ap (height arity h ls) (let z : n + 0 ≡ n = omega arith in z))

-- behind the end nothing changes
constant : (arity : FunctionName → Arity) (h : ℕ) (ls : List CodeLine) (n : ℕ) → height arity h ls (length ls + n) ≡ height arity h ls (length ls)
unfolding height
constant arity h [] n = refl
constant arity h (l ∷ ls) n =
    let e : suc (length ls) + n ≡ suc (length ls + n) = omega arith in
    ap (λ z. height arity h (l ∷ ls) z) e ∙ constant arity ((h - taken l) + put arity l) ls n

at_end : (arity : FunctionName → Arity) (h m : ℕ) (ls : List CodeLine) → height arity h ls (behind ls 0) ≡ m → (n : ℕ) → height arity h ls (length ls + n) ≡ m
at_end arity h m ls e n =
    let end : length ls ≡ behind ls 0 = let z : length ls ≡ length ls + 0 = omega arith in z ∙ sym (is_behind ls 0) in
    constant arity h ls n ∙ (ap (λ z. height arity h ls z) end ∙ e)

turns_balanced : (arity : FunctionName → Arity) (h m : ℕ) (ls : List CodeLine) → Turns arity 0 m ls → IsBalanced arity h ls (h + m)
turns_balanced arity h m ls t =
    let begins : height arity h ls 0 ≡ h + 0 = let z : h ≡ h + 0 = omega arith in first_height arity h ls ∙ z in
    let r = t.turns (height arity h ls) 0 h begins (scans_whole arity h ls) in
    record { at = height arity h ls; begins = first_height arity h ls; runs = r.runs; ends = at_end arity h (h + m) ls r.ends }

keeps_balanced : (arity : FunctionName → Arity) (x : Exits) (ls : List CodeLine) → Keeps arity x ls → IsBalanced arity 0 ls 0
keeps_balanced arity x ls k =
    let scan = scans_whole arity 0 ls in
    let end : height arity 0 ls (behind ls 0) ≡ 0 = k.level (height arity 0 ls) 0 (first_height arity 0 ls) scan in
    let there : (n : ℕ) → height arity 0 ls (behind ls 0 + n) ≡ 0 =
    λ n. ap (λ z. height arity 0 ls z) (let z : behind ls 0 + n ≡ length ls + n = omega (arith, is_behind ls 0) in z) ∙ at_end arity 0 0 ls end n in
    record {
      at = height arity 0 ls;
      begins = first_height arity 0 ls;
      runs = k.runs (height arity 0 ls) 0 (first_height arity 0 ls) scan (there x.next)
          (there x.out);
      ends = at_end arity 0 0 ls end;
    }

-- the body of a function and its end
body_balanced : (arity : FunctionName → Arity) (ls : List CodeLine) → Keeps arity no_exits ls → IsBalanced arity 0 (ls ++ (End ∷ [])) 0
body_balanced arity ls k =
    let all : List CodeLine = ls ++ (End ∷ []) in
    let at : ℕ → ℕ = height arity 0 all in
    let scan = scans_whole arity 0 all in
    let inner = scans_first arity at 0 ls (End ∷ []) scan in
    let last = scans_second arity at 0 ls (End ∷ []) scan in
    let j : ℕ = behind ls 0 in
    let begins : at 0 ≡ 0 = first_height arity 0 all in
    let done : at j ≡ 0 = k.level at 0 begins inner in
    let step : at (suc j) ≡ (at j - 0) + 0 = last.0 in
    let low : at (suc j) ≡ 0 = omega arith in
    let same : at (j + 0) ≡ 0 = ap at (let z : j + 0 ≡ j = omega arith in z) ∙ done in
    let end : at (behind all 0) ≡ 0 = ap at (behind_append ls (End ∷ []) 0) ∙ low in
    record {
      at = at;
      begins = begins;
      runs = runs_joined arity at 0 ls (End ∷ []) (k.runs at 0 begins inner same same) (done, tt);
      ends =
          at_end arity 0 0 all end;
    }

-- the laws

pub value_balanced : (arity : FunctionName → Arity) (s : Source) (slots : List ℕ) (locals : Locals) (e : ExprTree) (k : ValueKind) (a : _) →
    HasMeaning s.world locals e (Value k a) → IsExpr e → Answers arity s slots (Asks s.world locals e) → (h : ℕ) →
    IsBalanced arity h (value_lines s slots e) (h + 1)
value_balanced arity s slots locals e k a m f answers h = turns_balanced arity h 1 (value_lines s slots e)
    (expression_settles arity s.world s slots locals m f answers).value

pub results_balanced : (arity : FunctionName → Arity) (s : Source) (slots : List ℕ) (locals : Locals) (e : ExprTree) (ts : List PlainType) →
    HasMeaning s.world locals e (Results ts) → IsExpr e → Answers arity s slots (Asks s.world locals e) → (h : ℕ) →
    IsBalanced arity h (value_lines s slots e) (h + length ts)
results_balanced arity s slots locals e ts m f answers h = turns_balanced arity h (length ts) (value_lines s slots e)
    (expression_settles arity s.world s slots locals m f answers).value

pub statement_balanced : (arity : FunctionName → Arity) (s : Source) (slots : List ℕ) (results : List PlainType) (before after : Locals) (x : StatementTree) →
    StatementIsTyped s.world results before x after → IsStatement x →
    Answers arity s slots (StatementAsks s.world results before x) → (exits : Exits) → IsBalanced arity 0 (statement_lines s slots (length results) exits x) 0
statement_balanced arity s slots results before after x t f answers exits = keeps_balanced arity exits (statement_lines s slots (length results) exits x)
    (statement_keeps arity s.world results s slots exits t f answers)

-- as many results as types are written
types_written : {w : World} {is : List (Item TypeTree)} {ts : List PlainType} → AreTypes w is ts → length (map (λ (i : Item TypeTree). i.value) is) ≡ length ts
types_written no_type_left = refl
types_written (also_type h more) = ap suc (types_written more)

results_written : {w : World} {r : ResultTree} {ts : List PlainType} → AreResults w r ts → length (result_types r) ≡ length ts
results_written none_written = refl
results_written (one_written h) = refl
results_written (several_written h) = types_written h

pub function_balanced : (arity : FunctionName → Arity) (s : Source) (slots : List ℕ) (is_init : _) (before after : Locals) (f : FuncTree) →
    FunctionIsTyped s.world is_init before f after → IsFunc f →
    Answers arity s slots (FunctionAsks s.world before f) → IsBalanced arity 0 (body_lines s slots (length (result_types f.result)) f.body) 0
function_balanced arity s slots is_init before after f (a_function {ts = ts} r p t i b) wf answers =
    subst (λ n. IsBalanced arity 0 (body_lines s slots n f.body) 0) (sym (results_written t))
    (body_balanced arity (block_lines s slots (length ts) no_exits f.body) (block_keeps arity s.world ts s slots no_exits b wf.body
    (λ q a. answers q (in_body r p t a))))
