-- In a token list that the machine accepts, no token opens a level over the limit.
use Rattle.std.proofs.Common.{◌≤◌, arith, ℕ, ◌≡◌, List, [], ◌∷◌, ◌++◌, refl, sym, subst, suc}
use Rattle.std.specs.List.{All}
use Rattle.std.proofs.lemmas.List.Elements.{All-nil, All-cons}
use Rattle.go_ast.specs.declared.syntax.Token.{Token}
use Rattle.go_ast.specs.Grammar.{GrammarSymbol, A, Part, rules, File}
use Rattle.go_ast.specs.Language.{levels, Derives, ends, closing, by_rule}
use Rattle.go_parser.specs.Machine.{ParserRun, take, opens, closes, expand, Accepted, accept, Selects}
use Rattle.go_parser.proofs.Predictive.{Good, good_rule, followed_at, selected, goes_by_levels, token_levels, opening_levels, closing_levels, after_token}
use Rattle.go_parser.proofs.Predictive.{after_opening, after_closing}

abbrev Shallow : List ℕ → Type 0
Shallow ls = All (λ l. l ≤ 200) ls

no_levels : {ss : List GrammarSymbol} (d : ℕ) (x : Derives ss []) → levels d x ≡ []
no_levels d ends = refl
no_levels d (closing x) = no_levels _ x
no_levels d (by_rule a x) = no_levels d x

shallow_rule : (p : Part) (ss then : List GrammarSymbol) (d : ℕ) (ts : List Token) → Selects (rules p) ts then → Good (A p ∷ ss) →
    ((y : Derives (then ++ ss) ts) → Shallow (levels d y)) → (x : Derives (A p ∷ ss) ts) → Shallow (levels d x)
shallow_rule p ss then d [] s g f x = subst Shallow (sym (no_levels d x)) (All-nil (λ l. l ≤ 200))
shallow_rule p ss then d (t ∷ ts) s g f x = let y = goes_by_levels g s x in subst Shallow (sym (y.1 d)) (f y.0)

shallow_at : {d : ℕ} {ss : List GrammarSymbol} {ts : List Token} → ParserRun d ss ts Accepted → Good ss → (x : Derives ss ts) → Shallow (levels d x)
shallow_at {d = d} accept g x = subst Shallow (sym (no_levels d x)) (All-nil (λ l. l ≤ 200))
shallow_at {d = d} (take e r) g x =
    subst Shallow (sym (token_levels d x)) (All-cons (λ l. l ≤ 200) 0 (levels d (after_token x)) (omega arith) (shallow_at r g (after_token x)))
shallow_at {d = d} (opens e b r) g x =
    subst Shallow (sym (opening_levels d x)) (All-cons (λ l. l ≤ 200) (suc d) (levels (suc d) (after_opening x)) (omega (arith, b))
    (shallow_at r g (after_opening x)))
shallow_at (closes {d = d} r) g x = subst Shallow (sym (closing_levels d x)) (shallow_at r g (after_closing x))
shallow_at {d = d} (expand {p = p} {then = then} {ss = ss} {ts = ts} s r) g x =
    shallow_rule p ss then d ts s g (shallow_at r (good_rule p ss g.0 g.1 then (followed_at p then (selected s)))) x

pub file_shallow : {ts : List Token} → ParserRun 0 (A File ∷ []) ts Accepted → (x : Derives (A File ∷ []) ts) → All (λ l. l ≤ 200) (levels 0 x)
file_shallow r x = shallow_at r ((λ k e. cc), tt) x
