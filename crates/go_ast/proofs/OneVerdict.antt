-- A token list has at most one verdict.
use Rattle.std.proofs.Common.{ℕ, ◌≡◌, ◌≤◌, ◌<◌, List, [], ◌∷◌, ◌++◌, length, length-append, get_or, zero, suc, refl, ap, sym, ◌∙◌, subst, append_assoc, arith}
use Rattle.std.proofs.lemmas.List.Elements.{All-head, All-tail}
use Rattle.std.specs.List.{All}
use Rattle.go_ast.specs.declared.syntax.Token.{Token}
use Rattle.go_ast.specs.declared.syntax.TokenFaultKind.TheVariants.{Syntax, Nesting}
use Rattle.go_ast.specs.Grammar.{GrammarSymbol}
use Rattle.go_ast.specs.Language.{Derives, IsSyntaxFault, IsTooDeep, levels}
use Rattle.go_ast.specs.Verdict.{FileVerdict, Whole, Faulty, IsWhole, IsFileVerdict}

-- two splits of one list: at one index, or the second further on
data Cut (a b c d : List Token) : Type 0 where
  alike : a ≡ c → b ≡ d → Cut a b c d
  second_longer : (t : Token) (mid : List Token) → c ≡ a ++ (t ∷ mid) → b ≡ t ∷ (mid ++ d) → Cut a b c d
  first_longer : (t : Token) (mid : List Token) → a ≡ c ++ (t ∷ mid) → d ≡ t ∷ (mid ++ b) → Cut a b c d

longer_cut : (x y : Token) (a b c d : List Token) → x ≡ y → Cut a b c d → Cut (x ∷ a) b (y ∷ c) d
longer_cut x y a b c d e (alike p q) = alike (cc) q
longer_cut x y a b c d e (second_longer t mid p q) = second_longer t mid (cc) q
longer_cut x y a b c d e (first_longer t mid p q) = first_longer t mid (cc) q

cut : (a b c d : List Token) → a ++ b ≡ c ++ d → Cut a b c d
cut [] b [] d e = alike refl e
cut [] b (y ∷ c) d e = second_longer y c refl e
cut (x ∷ a) b [] d e = first_longer x a refl (sym e)
cut (x ∷ a) b (y ∷ c) d e = longer_cut x y a b c d (cc) (cut a b c d (cc))

-- a derivation of an equal list, with equal levels
moved : {ss : List GrammarSymbol} (d : ℕ) (ts us : List Token) → ts ≡ us → (x : Derives ss ts) → (y : Derives ss us) × (levels d y ≡ levels d x)
moved {ss = ss} d ts us e x = let P : List Token → Type 0 = λ us. (y : Derives ss us) × (levels d y ≡ levels d x) in subst P e (x, refl)

-- a longer prefix b and the tokens after it, as a shorter prefix a, the token after that, and the rest
regrouped : (a b : List Token) (t u : Token) (mid more : List Token) → b ≡ a ++ (t ∷ mid) → u ≡ t → b ++ more ≡ a ++ (u ∷ (mid ++ more))
regrouped a b t u mid more e f = ap (λ x. x ++ more) e ∙ (append_assoc a (t ∷ mid) more ∙ ap (λ x. a ++ (x ∷ (mid ++ more))) (sym f))

further : (a b : List Token) (t : Token) (mid : List Token) → b ≡ a ++ (t ∷ mid) → length a < length b
further a b t mid e = let l = ap length e ∙ length-append a (t ∷ mid) in omega (arith, l)

heads : (t u : Token) (a b : List Token) → t ∷ a ≡ u ∷ b → t ≡ u
heads t u a b e = cc

syntax_once : {ss : List GrammarSymbol} {l d : ℕ} {ts : List Token} {m n : ℕ} → IsSyntaxFault ss l d ts m → IsSyntaxFault ss l d ts n → m ≡ n
syntax_once {ss = ss} f g = elim (cut f.before f.rest g.before g.rest (sym f.split ∙ g.split)) [
  | alike p q ↦ sym f.left_is ∙ (ap length q ∙ g.left_is)
  | second_longer t mid p q ↦ absurd (f.dead t (mid ++ g.rest) (mid ++ g.viable.0) q
      (subst (λ x. Derives ss x) (regrouped f.before g.before t t mid g.viable.0 p refl) g.viable.1))
  | first_longer t mid p q ↦ absurd (g.dead t (mid ++ f.rest) (mid ++ f.viable.0) q
      (subst (λ x. Derives ss x) (regrouped g.before f.before t t mid f.viable.0 p refl) f.viable.1))
]

-- a level over the limit is open, and none is: a contradiction
too_deep : (l : ℕ) (xs ys : List ℕ) (k : ℕ) → ys ≡ xs → l < get_or ys k 0 → get_or xs k 0 ≤ l → ⊥
too_deep l xs ys k e h i = let j : l < get_or xs k 0 = subst (λ z. l < get_or z k 0) e h in omega (arith, i, j)

syntax_or_nesting : {ss : List GrammarSymbol} {l d : ℕ} {ts : List Token} {m n : ℕ} → IsSyntaxFault ss l d ts m → IsTooDeep ss l d ts n → ⊥
syntax_or_nesting {ss = ss} {l = l} {d = d} f g = elim (cut f.before f.rest g.before (g.t ∷ g.others) (sym f.split ∙ g.split)) [
  | alike p q ↦ f.dead g.t g.others g.viable.0 q (subst (λ x. Derives ss (x ++ (g.t ∷ g.viable.0))) (sym p) g.viable.1)
  | second_longer t mid p q ↦ f.dead t (mid ++ (g.t ∷ g.others)) (mid ++ (g.t ∷ g.viable.0)) q
      (subst (λ x. Derives ss x) (regrouped f.before g.before t t mid (g.t ∷ g.viable.0) p refl) g.viable.1)
  | first_longer t mid p q ↦
      let y = moved d _ _ (regrouped g.before f.before t g.t mid f.viable.0 p (heads g.t t g.others (mid ++ f.rest) q)) f.viable.1 in
      too_deep l (levels d f.viable.1) (levels d y.0) (length g.before) y.1 (g.deep (mid ++ f.viable.0) y.0)
      (f.shallow f.viable.0 f.viable.1 (length g.before) (further g.before f.before t mid p))
]

-- the first of two nesting faults excludes the second
earlier : {ss : List GrammarSymbol} {l d : ℕ} {ts : List Token} {m n : ℕ} (f : IsTooDeep ss l d ts m) (g : IsTooDeep ss l d ts n) (t : Token) (mid rest :
    List Token) →
    g.before ≡ f.before ++ (t ∷ mid) → f.t ∷ f.others ≡ t ∷ rest → ⊥
earlier {l = l} {d = d} f g t mid rest p q =
    let y = moved d _ _ (regrouped f.before g.before t f.t mid (g.t ∷ g.viable.0) p (heads f.t t f.others rest q)) g.viable.1 in
    too_deep l (levels d g.viable.1) (levels d y.0) (length f.before) y.1 (f.deep (mid ++ (g.t ∷ g.viable.0)) y.0)
    (g.first g.viable.0 g.viable.1 (length f.before) (further f.before g.before t mid p))

nesting_once : {ss : List GrammarSymbol} {l d : ℕ} {ts : List Token} {m n : ℕ} → IsTooDeep ss l d ts m → IsTooDeep ss l d ts n → m ≡ n
nesting_once f g = elim (cut f.before (f.t ∷ f.others) g.before (g.t ∷ g.others) (sym f.split ∙ g.split)) [
  | alike p q ↦ sym f.left_is ∙ (ap length q ∙ g.left_is)
  | second_longer t mid p q ↦ absurd (earlier f g t mid (mid ++ (g.t ∷ g.others)) p q)
  | first_longer t mid p q ↦ absurd (earlier g f t mid (mid ++ (f.t ∷ f.others)) p q)
]

bounded : (l : ℕ) (xs : List ℕ) → All (λ x. x ≤ l) xs → (k : ℕ) → get_or xs k 0 ≤ l
bounded l [] a k = omega arith
bounded l (x ∷ xs) a zero = All-head (λ x. x ≤ l) x xs a
bounded l (x ∷ xs) a (suc k) = bounded l xs (All-tail (λ x. x ≤ l) x xs a) k

whole_or_nesting : {ts : List Token} {n : ℕ} → IsWhole ts → IsFileVerdict ts (Faulty Nesting n) → ⊥
whole_or_nesting w g =
    let y = moved 0 _ _ g.split w.derived in
    too_deep 200 (levels 0 w.derived) (levels 0 y.0) (length g.before) y.1 (g.deep g.others y.0)
    (bounded 200 (levels 0 w.derived) (w.shallow w.derived) (length g.before))

pub one_verdict : (ts : List Token) (v w : FileVerdict) → IsFileVerdict ts v → IsFileVerdict ts w → v ≡ w
one_verdict ts Whole Whole a b = refl
one_verdict ts Whole (Faulty Syntax n) a b = absurd (b.not_whole a.derived)
one_verdict ts Whole (Faulty Nesting n) a b = absurd (whole_or_nesting a b)
one_verdict ts (Faulty Syntax m) Whole a b = absurd (a.not_whole b.derived)
one_verdict ts (Faulty Syntax m) (Faulty Syntax n) a b = ap (λ k. Faulty Syntax k) (syntax_once a b)
one_verdict ts (Faulty Syntax m) (Faulty Nesting n) a b = absurd (syntax_or_nesting a b)
one_verdict ts (Faulty Nesting m) Whole a b = absurd (whole_or_nesting b a)
one_verdict ts (Faulty Nesting m) (Faulty Syntax n) a b = absurd (syntax_or_nesting b a)
one_verdict ts (Faulty Nesting m) (Faulty Nesting n) a b = ap (λ k. Faulty Nesting k) (nesting_once a b)
