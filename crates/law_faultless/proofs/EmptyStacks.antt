-- Lines of statements keep the stack empty, where jumps out of them find it empty too.
use Rattle.std.proofs.Common.{ℕ, suc, ◌≡◌, ◌+◌, ◌-◌, ◌≤◌, List, [], ◌∷◌, ◌++◌, length, ap, sym, ◌∙◌, arith, Some, None, length-append}
use Rattle.build_object.specs.Lines.{FunctionName, CodeLine, Jump, JumpUnless, JumpBack, Return}
use Rattle.build_object.specs.Statements.{Exits, further, block_exits, branched, body_exits, with_jump_back}
use Rattle.law_faultless.specs.Stack.{Arity, LinesObey}
use Rattle.law_faultless.proofs.StackParts.{behind, is_behind, behind_append, Scans, scans_first, scans_second, runs_joined, Turns}

-- The lines keep the stack empty: it is empty behind them where it is before them. Each line keeps to its effect where the stack is empty
-- at the exits too.
pub record Keeps (arity : FunctionName → Arity) (x : Exits) (lines : List CodeLine) : Type 0 where
  pub level : (at : ℕ → ℕ) (i : ℕ) → at i ≡ 0 → Scans arity at i lines → at (behind lines i) ≡ 0
  pub runs : (at : ℕ → ℕ) (i : ℕ) → at i ≡ 0 → Scans arity at i lines → at (behind lines i + x.next) ≡ 0 → at (behind lines i + x.out) ≡ 0 →
      LinesObey arity at i lines

-- what has no jump out of it
pub turns_keep : (arity : FunctionName → Arity) (x : Exits) (lines : List CodeLine) → Turns arity 0 0 lines → Keeps arity x lines
turns_keep arity x lines t = record {
  level = λ at i e s. (t.turns at i 0 e s).ends;
  runs = λ at i e s n o. (t.turns at i 0 e s).runs;
}

pub keeps_joined : (arity : FunctionName → Arity) (x : Exits) (xs ys : List CodeLine) → Keeps arity (further (length ys) x) xs → Keeps arity x ys →
    Keeps arity x (xs ++ ys)
keeps_joined arity x xs ys f g = record {
  level = λ at i e s. ap at (behind_append xs ys i) ∙ g.level at (behind xs i) (f.level at i e (scans_first arity at i xs ys s))
      (scans_second arity at i xs ys s);
  runs = λ at i e s n o.
      let j : ℕ = behind xs i in
      let first = scans_first arity at i xs ys s in
      let second = scans_second arity at i xs ys s in
      let there : behind (xs ++ ys) i ≡ length ys + j = behind_append xs ys i ∙ is_behind ys j in
      let next : j + (length ys + x.next) ≡ behind (xs ++ ys) i + x.next = omega arith in
      let out : j + (length ys + x.out) ≡ behind (xs ++ ys) i + x.out = omega arith in
      runs_joined arity at i xs ys (f.runs at i e first (ap at next ∙ n) (ap at out ∙ o))
      (g.runs at j (f.level at i e first) second (ap (λ z. at (z + x.next)) (sym (behind_append xs ys i)) ∙ n)
      (ap (λ z. at (z + x.out)) (sym (behind_append xs ys i)) ∙ o));
}

-- a jump to the exits
pub jump_out : (arity : FunctionName → Arity) (x : Exits) → Keeps arity x (Jump x.out ∷ [])
jump_out arity x = record {
  level = λ at i e s. let step : at (suc i) ≡ (at i - 0) + 0 = s.0 in omega arith;
  runs = λ at i e s n o. (o ∙ sym e, tt);
}

pub jump_next : (arity : FunctionName → Arity) (x : Exits) → Keeps arity x (Jump x.next ∷ [])
jump_next arity x = record {
  level = λ at i e s. let step : at (suc i) ≡ (at i - 0) + 0 = s.0 in omega arith;
  runs = λ at i e s n o. (n ∙ sym e, tt);
}

-- n values are returned
pub return_keeps : (arity : FunctionName → Arity) (x : Exits) (n : ℕ) (lines : List CodeLine) → Turns arity 0 n lines → Keeps arity x (lines ++ (Return n ∷ []))
return_keeps arity x n lines t = record {
  level = λ at i e s.
      let r = t.turns at i 0 e (scans_first arity at i lines (Return n ∷ []) s) in
      let last = scans_second arity at i lines (Return n ∷ []) s in
      let j : ℕ = behind lines i in
      let height : at j ≡ 0 + n = r.ends in
      let step : at (suc j) ≡ (at j - n) + 0 = last.0 in
      let gone : at (suc j) ≡ 0 = omega arith in
      ap at (behind_append lines (Return n ∷ []) i) ∙ gone;
  runs = λ at i e s p o.
      let r = t.turns at i 0 e (scans_first arity at i lines (Return n ∷ []) s) in
      let height : at (behind lines i) ≡ 0 + n = r.ends in
      let same : at (behind lines i) ≡ n = omega arith in
      runs_joined arity at i lines (Return n ∷ []) r.runs (same, tt);
}

-- a condition and a block that is passed over where it does not hold
pub if_keeps : (arity : FunctionName → Arity) (x : Exits) (cond body : List CodeLine) → Turns arity 0 1 cond → Keeps arity x body →
    Keeps arity x (cond ++ branched body None)
if_keeps arity x cond body t f = record {
  level = λ at i e s.
      let r = t.turns at i 0 e (scans_first arity at i cond (JumpUnless (length body) ∷ body) s) in
      let rest = scans_second arity at i cond (JumpUnless (length body) ∷ body) s in
      let j : ℕ = behind cond i in
      let height : at j ≡ 0 + 1 = r.ends in
      let step : at (suc j) ≡ (at j - 1) + 0 = rest.0 in
      let low : at (suc j) ≡ 0 = omega arith in
      ap at (behind_append cond (JumpUnless (length body) ∷ body) i) ∙ f.level at (suc j) low rest.1;
  runs = λ at i e s n o.
      let r = t.turns at i 0 e (scans_first arity at i cond (JumpUnless (length body) ∷ body) s) in
      let rest = scans_second arity at i cond (JumpUnless (length body) ∷ body) s in
      let j : ℕ = behind cond i in
      let height : at j ≡ 0 + 1 = r.ends in
      let step : at (suc j) ≡ (at j - 1) + 0 = rest.0 in
      let low : at (suc j) ≡ 0 = omega arith in
      let there : suc j + length body ≡ behind body (suc j) = omega (arith, is_behind body (suc j)) in
      let level : at (suc j + length body) ≡ at (suc j) = ap at there ∙ (f.level at (suc j) low rest.1 ∙ sym low) in
      let split : behind (cond ++ (JumpUnless (length body) ∷ body)) i ≡ behind body (suc j) = behind_append cond (JumpUnless (length body) ∷ body) i in
      runs_joined arity at i cond (JumpUnless (length body) ∷ body) r.runs (
        (record { enough = omega arith; left = omega arith }, level),
        f.runs at (suc j) low rest.1 (ap (λ z. at (z + x.next)) (sym split) ∙ n)
            (ap (λ z. at (z + x.out)) (sym split) ∙ o),
      );
}

-- the same with a block for where it does not hold
pub else_keeps : (arity : FunctionName → Arity) (x : Exits) (cond body other : List CodeLine) → Turns arity 0 1 cond →
    Keeps arity (block_exits (Some other) x) body → Keeps arity x other → Keeps arity x (cond ++ branched body (Some other))
else_keeps arity x cond body other t f g =
    let more : List CodeLine = Jump (length other) ∷ other in
    let all : List CodeLine = JumpUnless (suc (length body)) ∷ (body ++ more) in record {
      level = λ at i e s.
          let r = t.turns at i 0 e (scans_first arity at i cond all s) in
          let rest = scans_second arity at i cond all s in
          let j : ℕ = behind cond i in
          let height : at j ≡ 0 + 1 = r.ends in
          let step : at (suc j) ≡ (at j - 1) + 0 = rest.0 in
          let low : at (suc j) ≡ 0 = omega arith in
          let k : ℕ = behind body (suc j) in
          let first : at k ≡ 0 = f.level at (suc j) low (scans_first arity at (suc j) body more rest.1) in
          let last = scans_second arity at (suc j) body more rest.1 in
          let jumped : at (suc k) ≡ (at k - 0) + 0 = last.0 in
          let begin : at (suc k) ≡ 0 = omega arith in
          ap at (behind_append cond all i ∙ behind_append body more (suc j)) ∙ g.level at (suc k) begin last.1;
      runs = λ at i e s n o.
          let r = t.turns at i 0 e (scans_first arity at i cond all s) in
          let rest = scans_second arity at i cond all s in
          let j : ℕ = behind cond i in
          let height : at j ≡ 0 + 1 = r.ends in
          let step : at (suc j) ≡ (at j - 1) + 0 = rest.0 in
          let low : at (suc j) ≡ 0 = omega arith in
          let k : ℕ = behind body (suc j) in
          let kept = scans_first arity at (suc j) body more rest.1 in
          let first : at k ≡ 0 = f.level at (suc j) low kept in
          let last = scans_second arity at (suc j) body more rest.1 in
          let jumped : at (suc k) ≡ (at k - 0) + 0 = last.0 in
          let begin : at (suc k) ≡ 0 = omega arith in
          let end : ℕ = behind other (suc k) in
          let done : at end ≡ 0 = g.level at (suc k) begin last.1 in
          let here : k ≡ length body + suc j = is_behind body (suc j) in
          let past : end ≡ length other + suc k = is_behind other (suc k) in
          let split : behind (cond ++ all) i ≡ end = behind_append cond all i ∙ behind_append body more (suc j) in
          let to_other : suc j + suc (length body) ≡ suc k = omega arith in
          let to_end : suc k + length other ≡ end = omega arith in
          let next : k + (suc (length other) + x.next) ≡ end + x.next = omega arith in
          let out : k + (suc (length other) + x.out) ≡ end + x.out = omega arith in
          let exit_next : at (end + x.next) ≡ 0 = ap (λ z. at (z + x.next)) (sym split) ∙ n in
          let exit_out : at (end + x.out) ≡ 0 = ap (λ z. at (z + x.out)) (sym split) ∙ o in
          runs_joined arity at i cond all r.runs (
            (record { enough = omega arith; left = omega arith }, ap at to_other ∙ (begin ∙ sym low)),
            runs_joined arity at (suc j) body more (f.runs at (suc j) low kept (ap at next ∙ exit_next) (ap at out ∙ exit_out))
                (ap at to_end ∙ (done ∙ sym first), g.runs at (suc k) begin last.1 exit_next exit_out),
          );
    }

-- A loop: what is tested in it, from which a jump leads behind it, the body, and what is done after each turn.
pub record Tests (arity : FunctionName → Arity) (skipped : ℕ) (lines : List CodeLine) : Type 0 where
  pub level : (at : ℕ → ℕ) (i : ℕ) → at i ≡ 0 → Scans arity at i lines → at (behind lines i) ≡ 0
  pub runs : (at : ℕ → ℕ) (i : ℕ) → at i ≡ 0 → Scans arity at i lines → at (behind lines i + skipped) ≡ 0 → LinesObey arity at i lines

pub no_test : (arity : FunctionName → Arity) (n : ℕ) → Tests arity n []
no_test arity n = record { level = λ at i e s. e; runs = λ at i e s o. tt }

pub one_test : (arity : FunctionName → Arity) (n : ℕ) (cond : List CodeLine) → Turns arity 0 1 cond → Tests arity n (cond ++ (JumpUnless n ∷ []))
one_test arity n cond t = record {
  level = λ at i e s.
      let r = t.turns at i 0 e (scans_first arity at i cond (JumpUnless n ∷ []) s) in
      let rest = scans_second arity at i cond (JumpUnless n ∷ []) s in
      let j : ℕ = behind cond i in
      let height : at j ≡ 0 + 1 = r.ends in
      let step : at (suc j) ≡ (at j - 1) + 0 = rest.0 in
      let low : at (suc j) ≡ 0 = omega arith in
      ap at (behind_append cond (JumpUnless n ∷ []) i) ∙ low;
  runs = λ at i e s o.
      let r = t.turns at i 0 e (scans_first arity at i cond (JumpUnless n ∷ []) s) in
      let rest = scans_second arity at i cond (JumpUnless n ∷ []) s in
      let j : ℕ = behind cond i in
      let height : at j ≡ 0 + 1 = r.ends in
      let step : at (suc j) ≡ (at j - 1) + 0 = rest.0 in
      let low : at (suc j) ≡ 0 = omega arith in
      let there : at (suc j + n) ≡ 0 = ap (λ z. at (z + n)) (sym (behind_append cond (JumpUnless n ∷ []) i)) ∙ o in
      runs_joined arity at i cond (JumpUnless n ∷ []) r.runs ((record { enough = omega arith; left = omega arith }, there ∙ sym low), tt);
}

pub loop_keeps : (arity : FunctionName → Arity) (x : Exits) (cond body post : List CodeLine) → Tests arity (suc (length (body ++ post))) cond →
    Keeps arity (body_exits post) body → Turns arity 0 0 post →
    Keeps arity x (with_jump_back (cond ++ (body ++ post)))
loop_keeps arity x cond body post c f p =
    let ls : List CodeLine = cond ++ (body ++ post) in
    let last : List CodeLine = JumpBack (suc (length ls)) ∷ [] in record {
      level = λ at i e s.
          let inner = scans_first arity at i ls last s in
          let rest = scans_second arity at i ls last s in
          let k : ℕ = behind cond i in
          let tested : at k ≡ 0 = c.level at i e (scans_first arity at i cond (body ++ post) inner) in
          let turn = scans_second arity at i cond (body ++ post) inner in
          let j : ℕ = behind body k in
          let bodied : at j ≡ 0 = f.level at k tested (scans_first arity at k body post turn) in
          let posted = p.turns at j 0 bodied (scans_second arity at k body post turn) in
          let done : at (behind post j) ≡ 0 = posted.ends in
          let ends : at (behind ls i) ≡ 0 = ap at (behind_append cond (body ++ post) i ∙ behind_append body post k) ∙ done in
          let step : at (suc (behind ls i)) ≡ (at (behind ls i) - 0) + 0 = rest.0 in
          let low : at (suc (behind ls i)) ≡ 0 = omega arith in
          ap at (behind_append ls last i) ∙ low;
      runs = λ at i e s n o.
          let inner = scans_first arity at i ls last s in
          let rest = scans_second arity at i ls last s in
          let k : ℕ = behind cond i in
          let tests = scans_first arity at i cond (body ++ post) inner in
          let tested : at k ≡ 0 = c.level at i e tests in
          let turn = scans_second arity at i cond (body ++ post) inner in
          let j : ℕ = behind body k in
          let works = scans_first arity at k body post turn in
          let bodied : at j ≡ 0 = f.level at k tested works in
          let posted = p.turns at j 0 bodied (scans_second arity at k body post turn) in
          let q : ℕ = behind post j in
          let done : at q ≡ 0 = posted.ends in
          let split : behind ls i ≡ q = behind_append cond (body ++ post) i ∙ behind_append body post k in
          let ends : at (behind ls i) ≡ 0 = ap at split ∙ done in
          let step : at (suc (behind ls i)) ≡ (at (behind ls i) - 0) + 0 = rest.0 in
          let low : at (suc (behind ls i)) ≡ 0 = omega arith in
          let whole : behind ls i ≡ length ls + i = is_behind ls i in
          let of_body : j ≡ length body + k = is_behind body k in
          let of_post : q ≡ length post + j = is_behind post j in
          let both : length (body ++ post) ≡ length body + length post = length-append body post in
          let out_of_test : k + suc (length (body ++ post)) ≡ suc (behind ls i) = omega arith in
          let to_post : j + 0 ≡ j = omega arith in
          let out_of_body : j + suc (length post) ≡ suc (behind ls i) = omega arith in
          let back : suc (behind ls i) - suc (length ls) ≡ i = omega arith in
          let enough : suc (length ls) ≤ suc (behind ls i) = omega arith in
          runs_joined arity at i ls last
          (runs_joined arity at i cond (body ++ post) (c.runs at i e tests (ap at out_of_test ∙ low))
          (runs_joined arity at k body post (f.runs at k tested works (ap at to_post ∙ bodied) (ap at out_of_body ∙ low)) posted.runs))
          ((enough, ap at back ∙ (e ∙ sym ends)), tt);
    }
