-- The language of the grammar: which token lists its rules derive, whichever rules are chosen.
use Rattle.std.specs.Prelude.{ℕ, suc, ◌≡◌, ◌≤◌, ◌<◌, ◌-◌, slice_index_or, Bool, true, List, [], ◌∷◌, ◌++◌, length}
use Rattle.go_ast.specs.declared.syntax.Kind.{Kind}
use Rattle.go_ast.specs.declared.syntax.Token.{Token}
use Rattle.go_ast.specs.Grammar.{GrammarSymbol, One, Opening, Close, A, Part, Rule, Begins, Otherwise, rules}

-- the symbols are those of a rule in the list
pub data Among : List Rule → List GrammarSymbol → Type 0 where
  tested : {c : Kind → Bool} {then : List GrammarSymbol} {rs : List Rule} → Among (Begins c then ∷ rs) then
  untested : {then : List GrammarSymbol} {rs : List Rule} → Among (Otherwise then ∷ rs) then
  below : {r : Rule} {then : List GrammarSymbol} {rs : List Rule} → Among rs then → Among (r ∷ rs) then

-- the symbols derive the token list
pub data Derives : List GrammarSymbol → List Token → Type 0 where
  ends : Derives [] []
  token : {c : Kind → Bool} {t : Token} {ss : List GrammarSymbol} {ts : List Token} → c t.kind ≡ true → Derives ss ts → Derives (One c ∷ ss) (t ∷ ts)
  opening : {c : Kind → Bool} {t : Token} {ss : List GrammarSymbol} {ts : List Token} → c t.kind ≡ true → Derives ss ts → Derives (Opening c ∷ ss) (t ∷ ts)
  closing : {ss : List GrammarSymbol} {ts : List Token} → Derives ss ts → Derives (Close ∷ ss) ts
  by_rule : {p : Part} {then ss : List GrammarSymbol} {ts : List Token} → Among (rules p) then → Derives (then ++ ss) ts → Derives (A p ∷ ss) ts

-- the level of nesting that each token opens, with d levels open before the first; 0 for a token that opens none
abbrev pub levels : {ss : List GrammarSymbol} {ts : List Token} → ℕ → Derives ss ts → List ℕ
levels d ends = []
levels d (token e x) = 0 ∷ levels d x
levels d (opening e x) = suc d ∷ levels (suc d) x
levels d (closing x) = levels (d - 1) x
levels d (by_rule a x) = levels d x

-- The first syntax fault of a token list is at `rest`. Some text begins with the tokens before it, none with these and the first token of
-- `rest`, and the whole list is no text. None of the tokens before it opens a level over the limit.
pub record IsSyntaxFault (symbols : List GrammarSymbol) (limit d : ℕ) (ts : List Token) (left : ℕ) : Type 0 where
  pub before : List Token
  pub rest : List Token
  pub split : ts ≡ before ++ rest
  pub left_is : length rest ≡ left
  pub viable : (more : List Token) × Derives symbols (before ++ more)
  pub dead : (t : Token) → (others more : List Token) → rest ≡ t ∷ others → Derives symbols (before ++ (t ∷ more)) → ⊥
  pub not_whole : Derives symbols ts → ⊥
  pub shallow : (more : List Token) → (x : Derives symbols (before ++ more)) → (k : ℕ) → k < length before → slice_index_or (levels d x) k 0 ≤ limit

-- The first nesting fault is at t. Some text begins with the tokens up to t, and in each such text t is the first to open a level over the
-- limit.
pub record IsTooDeep (symbols : List GrammarSymbol) (limit d : ℕ) (ts : List Token) (left : ℕ) : Type 0 where
  pub before : List Token
  pub t : Token
  pub others : List Token
  pub split : ts ≡ before ++ (t ∷ others)
  pub left_is : suc (length others) ≡ left
  pub viable : (more : List Token) × Derives symbols (before ++ (t ∷ more))
  pub deep : (more : List Token) → (x : Derives symbols (before ++ (t ∷ more))) → limit < slice_index_or (levels d x) (length before) 0
  pub first : (more : List Token) → (x : Derives symbols (before ++ (t ∷ more))) → (k : ℕ) → k < length before → slice_index_or (levels d x) k 0 ≤ limit
