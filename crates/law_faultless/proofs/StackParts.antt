-- Lines that leave some values where others lay, whatever lies below, and how they are joined.
use Rattle.std.proofs.Common.{ℕ, suc, ◌≡◌, ◌+◌, ◌-◌, List, [], ◌∷◌, ◌++◌, length, ap, refl, sym, ◌∙◌, subst, arith, Option, Some}
use Rattle.std.specs.Prelude.{⊤}
use Rattle.build_object.specs.Lines.{FunctionName, CodeLine, Integer, Text, Truth, Nil, Local, Global, Field, FieldThrough, Index, Load, Negate, Not, Operate}
use Rattle.build_object.specs.Lines.{Duplicate, Pop, JumpUnless, JumpIf, Jump, JumpBack, Call, CallBuiltin, CallAsked, Enter, Zero, With, MakeSlice, New}
use Rattle.build_object.specs.Lines.{LocalAddress, GlobalAddress, FieldAddress, IndexAddress, BlankAddress, Set, Assign, Return, End, line_if_known}
use Rattle.build_object.specs.Operands.{builtin_results}
use Rattle.law_faultless.specs.Stack.{Arity, ChangesHeight, LineObeys, LinesObey}

-- the number behind so many lines, counted so that it computes
abbrev pub behind : List CodeLine → ℕ → ℕ
behind [] i = i
behind (l ∷ ls) i = behind ls (suc i)

pub is_behind : (ls : List CodeLine) (i : ℕ) → behind ls i ≡ length ls + i
is_behind [] i = let e : i ≡ 0 + i = omega arith in e
is_behind (l ∷ ls) i = let e : length ls + suc i ≡ suc (length ls) + i = omega arith in is_behind ls (suc i) ∙ e

pub behind_append : (xs ys : List CodeLine) (i : ℕ) → behind (xs ++ ys) i ≡ behind ys (behind xs i)
behind_append [] ys i = refl
behind_append (x ∷ xs) ys i = behind_append xs ys (suc i)

-- what a line takes and puts where the lines are run in turn, each behind the one before it
abbrev pub taken : CodeLine → ℕ
taken (Integer n) = 0
taken (Text bytes) = 0
taken (Truth b) = 0
taken Nil = 0
taken (Local slot) = 0
taken (Global g) = 0
taken (Field n) = 1
taken (FieldThrough n) = 1
taken Index = 2
taken Load = 1
taken Negate = 1
taken Not = 1
taken (Operate o) = 2
taken Duplicate = 1
taken Pop = 1
taken (JumpUnless n) = 1
taken (JumpIf n) = 1
taken (Jump n) = 0
taken (JumpBack n) = 0
taken (Call f n) = n
taken (CallBuiltin b n) = n
taken (CallAsked f n) = n
taken (Enter t) = 1
taken (Zero t) = 0
taken (With n) = 2
taken (MakeSlice n) = n
taken New = 1
taken (LocalAddress slot) = 0
taken (GlobalAddress g) = 0
taken (FieldAddress n) = 1
taken IndexAddress = 2
taken BlankAddress = 0
taken (Set slot) = 1
taken (Assign n) = n + n
taken (Return n) = n
taken End = 0

abbrev pub put : (FunctionName → Arity) → CodeLine → ℕ
put arity (Integer n) = 1
put arity (Text bytes) = 1
put arity (Truth b) = 1
put arity Nil = 1
put arity (Local slot) = 1
put arity (Global g) = 1
put arity (Field n) = 1
put arity (FieldThrough n) = 1
put arity Index = 1
put arity Load = 1
put arity Negate = 1
put arity Not = 1
put arity (Operate o) = 1
put arity Duplicate = 2
put arity Pop = 0
put arity (JumpUnless n) = 0
put arity (JumpIf n) = 0
put arity (Jump n) = 0
put arity (JumpBack n) = 0
put arity (Call f n) = (arity f).results
put arity (CallBuiltin b n) = builtin_results b
put arity (CallAsked f n) = (arity f).results
put arity (Enter t) = 1
put arity (Zero t) = 1
put arity (With n) = 1
put arity (MakeSlice n) = 1
put arity New = 1
put arity (LocalAddress slot) = 1
put arity (GlobalAddress g) = 1
put arity (FieldAddress n) = 1
put arity IndexAddress = 1
put arity BlankAddress = 1
put arity (Set slot) = 0
put arity (Assign n) = 0
put arity (Return n) = 0
put arity End = 0

-- the height behind each line, if all are run in turn
abbrev pub Scans : (FunctionName → Arity) → (at : ℕ → ℕ) → ℕ → List CodeLine → Type 0
Scans arity at i [] = ⊤
Scans arity at i (l ∷ ls) = (at (suc i) ≡ (at i - taken l) + put arity l) × Scans arity at (suc i) ls

pub scans_first : (arity : FunctionName → Arity) (at : ℕ → ℕ) (i : ℕ) (xs ys : List CodeLine) → Scans arity at i (xs ++ ys) → Scans arity at i xs
scans_first arity at i [] ys h = tt
scans_first arity at i (x ∷ xs) ys h = (h.0, scans_first arity at (suc i) xs ys h.1)

pub scans_second : (arity : FunctionName → Arity) (at : ℕ → ℕ) (i : ℕ) (xs ys : List CodeLine) → Scans arity at i (xs ++ ys) → Scans arity at (behind xs i) ys
scans_second arity at i [] ys h = h
scans_second arity at i (x ∷ xs) ys h = scans_second arity at (suc i) xs ys h.1

pub runs_joined : (arity : FunctionName → Arity) (at : ℕ → ℕ) (i : ℕ) (xs ys : List CodeLine) → LinesObey arity at i xs → LinesObey arity at (behind xs i) ys →
    LinesObey arity at i (xs ++ ys)
runs_joined arity at i [] ys f g = g
runs_joined arity at i (x ∷ xs) ys f g = (f.0, runs_joined arity at (suc i) xs ys f.1 g)

-- from a height that is so many values above another to one that is so many above it
pub record Rises (arity : FunctionName → Arity) (at : ℕ → ℕ) (i h m : ℕ) (lines : List CodeLine) : Type 0 where
  pub runs : LinesObey arity at i lines
  pub ends : at (behind lines i) ≡ h + m

-- n values are taken by the lines, and m lie there behind them, whatever lies below
pub record Turns (arity : FunctionName → Arity) (n m : ℕ) (lines : List CodeLine) : Type 0 where
  pub turns : (at : ℕ → ℕ) (i h : ℕ) → at i ≡ h + n → Scans arity at i lines → Rises arity at i h m lines

pub none_turns : (arity : FunctionName → Arity) (n : ℕ) → Turns arity n n []
none_turns arity n = record { turns = λ at i h e s. record { runs = tt; ends = e } }

pub turns_as : (arity : FunctionName → Arity) (lines : List CodeLine) {n m k l : ℕ} → n ≡ k → m ≡ l → Turns arity n m lines → Turns arity k l lines
turns_as arity lines {n} {m} {k} {l} e f t = subst (λ z. Turns arity z l lines) e (subst (λ z. Turns arity n z lines) f t)

pub turns_joined : (arity : FunctionName → Arity) (n m k : ℕ) (xs ys : List CodeLine) → Turns arity n m xs → Turns arity m k ys → Turns arity n k (xs ++ ys)
turns_joined arity n m k xs ys f g = record {
  turns = λ at i h e s.
      let x = f.turns at i h e (scans_first arity at i xs ys s) in
      let y = g.turns at (behind xs i) h x.ends (scans_second arity at i xs ys s) in
      record { runs = runs_joined arity at i xs ys x.runs y.runs; ends = ap at (behind_append xs ys i) ∙ y.ends };
}

-- over j values more
pub turns_over : (arity : FunctionName → Arity) (j n m : ℕ) (lines : List CodeLine) → Turns arity n m lines → Turns arity (j + n) (j + m) lines
turns_over arity j n m lines t = record {
  turns = λ at i h e s.
      let below : at i ≡ (h + j) + n = omega arith in
      let r = t.turns at i (h + j) below s in
      let ends : at (behind lines i) ≡ (h + j) + m = r.ends in
      record { runs = r.runs; ends = omega arith };
}

-- one line that only takes and puts values
pub line_turns : (arity : FunctionName → Arity) (l : CodeLine) (n m : ℕ) → taken l ≡ n → put arity l ≡ m →
    ((at : ℕ → ℕ) (i : ℕ) → ChangesHeight at i n m → LineObeys arity at i l) → Turns arity n m (l ∷ [])
line_turns arity l n m e f runs = record {
  turns = λ at i h begins s.
      let step : at (suc i) ≡ (at i - taken l) + put arity l = s.0 in
      let t : taken l ≡ n = e in
      let p : put arity l ≡ m = f in
      let ends : at (suc i) ≡ h + m = omega arith in
      record { runs = (runs at i (record { enough = omega arith; left = omega arith }), tt); ends = ends };
}

-- lines behind others, over what these leave
pub turns_then : (arity : FunctionName → Arity) (n m : ℕ) (xs ys : List CodeLine) → Turns arity 0 n xs → Turns arity 0 m ys → Turns arity 0 (n + m) (xs ++ ys)
turns_then arity n m xs ys f g = turns_joined arity 0 n (n + m) xs ys f (turns_as arity ys (omega arith) refl (turns_over arity n 0 m ys g))

-- a line for what is known
pub known_turns : {X : Type 0} (arity : FunctionName → Arity) (line : X → CodeLine) (o : Option X) (x : X) (n m : ℕ) → o ≡ Some x →
    Turns arity n m (line x ∷ []) → Turns arity n m (line_if_known line o)
known_turns arity line o x n m e t = subst (λ z. Turns arity n m (line_if_known line z)) (sym e) t
