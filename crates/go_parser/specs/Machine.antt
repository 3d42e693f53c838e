-- The predictive machine of the grammar. Its state is the symbols that must still come, the tokens left, and the number of open levels.
use Rattle.std.specs.Prelude.{ℕ, suc, ◌≡◌, Bool, true, false, List, [], ◌∷◌, ◌++◌, ◌≤◌, ◌<◌, length}
use Rattle.go_ast.specs.declared.syntax.Kind.{Kind}
use Rattle.go_ast.specs.declared.syntax.Token.{Token}
use Rattle.go_ast.specs.declared.syntax.TokenFaultKind.{TokenFaultKind}
use Rattle.go_ast.specs.declared.syntax.TokenFaultKind.TheVariants.{Syntax, Nesting}
use Rattle.go_ast.specs.Grammar.{GrammarSymbol, One, Opening, Close, A, Part, Rule, Begins, Otherwise, rules}
use Rattle.go_ast.specs.Verdict.{limit}

-- the first token is of a class; false where there is no token
abbrev pub at : (Kind → Bool) → List Token → Bool
at c [] = false
at c (t ∷ ts) = c t.kind

-- the next token selects the rule with these symbols
pub data Selects : List Rule → List Token → List GrammarSymbol → Type 0 where
  first : {c : Kind → Bool} {then : List GrammarSymbol} {rs : List Rule} {ts : List Token} →
      at c ts ≡ true → Selects (Begins c then ∷ rs) ts then
  later : {c : Kind → Bool} {other then : List GrammarSymbol} {rs : List Rule} {ts : List Token} →
      at c ts ≡ false → Selects rs ts then → Selects (Begins c other ∷ rs) ts then
  last : {then : List GrammarSymbol} {rs : List Rule} {ts : List Token} → Selects (Otherwise then ∷ rs) ts then

-- the outcome of a run: all tokens taken, or a fault with this number of tokens left, the one at fault among them
pub data Outcome : Type 0 where
  Accepted : Outcome
  Stopped : TokenFaultKind → ℕ → Outcome

-- a run of the machine, by the number of open levels, the symbols that must still come, and the tokens left
pub data ParserRun : ℕ → List GrammarSymbol → List Token → Outcome → Type 0 where
  accept : {d : ℕ} → ParserRun d [] [] Accepted
  take : {d : ℕ} {c : Kind → Bool} {t : Token} {ss : List GrammarSymbol} {ts : List Token} {o : Outcome} →
      c t.kind ≡ true → ParserRun d ss ts o → ParserRun d (One c ∷ ss) (t ∷ ts) o
  opens : {d : ℕ} {c : Kind → Bool} {t : Token} {ss : List GrammarSymbol} {ts : List Token} {o : Outcome} →
      c t.kind ≡ true → d < limit → ParserRun (suc d) ss ts o → ParserRun d (Opening c ∷ ss) (t ∷ ts) o
  too_deep : {d : ℕ} {c : Kind → Bool} {t : Token} {ss : List GrammarSymbol} {ts : List Token} →
      c t.kind ≡ true → limit ≤ d → ParserRun d (Opening c ∷ ss) (t ∷ ts) (Stopped Nesting (suc (length ts)))
  closes : {d : ℕ} {ss : List GrammarSymbol} {ts : List Token} {o : Outcome} → ParserRun d ss ts o → ParserRun (suc d) (Close ∷ ss) ts o
  expand : {d : ℕ} {p : Part} {then ss : List GrammarSymbol} {ts : List Token} {o : Outcome} →
      Selects (rules p) ts then → ParserRun d (then ++ ss) ts o → ParserRun d (A p ∷ ss) ts o
  refused : {d : ℕ} {c : Kind → Bool} {ss : List GrammarSymbol} {ts : List Token} →
      at c ts ≡ false → ParserRun d (One c ∷ ss) ts (Stopped Syntax (length ts))
  refused_opening : {d : ℕ} {c : Kind → Bool} {ss : List GrammarSymbol} {ts : List Token} →
      at c ts ≡ false → ParserRun d (Opening c ∷ ss) ts (Stopped Syntax (length ts))
  left_over : {d : ℕ} {t : Token} {ts : List Token} → ParserRun d [] (t ∷ ts) (Stopped Syntax (suc (length ts)))
